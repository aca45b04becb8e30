-- Laws of the tests whether a call has all that it needs: each says what the call requires. Blocks are counted by a division.
-- Assumes nothing.
use mathlib.Core.Path.{◌≡◌, refl, sym, ap, ◌∙◌}
use mathlib.Core.Bool.{Bool, true, false, not, ◌&&◌, ◌||◌}
use mathlib.Core.Logic.{◌⊎◌, inl, inr, ⊎_elim}
use Prim.Native.Nat.{ℕ, suc, ◌+◌, ◌*◌, ◌≤◌, ◌<◌}
use native.Mathlib.Omega.{arith}
use borrow.Author.Tests.{leb-true, le-leb, ltb-true, lt-ltb, eqb-true, eq-eqb, not-true, not-false}
use lib.Dec.{leb, ltb, eqb}
use Rattle.lists.proofs.Bools.{to-T}
use Rattle.diagram.specs.Networks.Bound.{most_variables}
use Rattle.reorder.specs.Sizes.{width}
use Rattle.matching.specs.Links.{region_size, word_size}
use Rattle.matching.specs.Fits.{regions_apart, region_fits, regions_fit, count_fits, level_fits, candidate_fits, parts_fit}

-- the numbers of blocks and of bytes, as they are tested and as they are said

pub region_word : (a len : ℕ) → leb (a + (region_size + word_size)) len ≡ leb (a + region_size + word_size) len
region_word a len =
    let e : a + (region_size + word_size) ≡ a + region_size + word_size = omega arith in
    ap (λ (n : ℕ). leb n len) e

pub halves-counted : (count w n : ℕ) → leb (count * (4 * w)) n ≡ leb ((count + count) * (w + w)) n
halves-counted count w n =
    let e : count * (4 * w) ≡ (count + count) * (w + w) = omega arith in
    ap (λ (m : ℕ). leb m n) e

pub links-counted : (links count len : ℕ) → leb (links + count * 4) len ≡ leb (links + 4 * count) len
links-counted links count len =
    let e : links + count * 4 ≡ links + 4 * count = omega arith in
    ap (λ (n : ℕ). leb n len) e

pub one_more : (k s n : ℕ) → leb (s + k * s) n ≡ leb ((k + 1) * s) n
one_more k s n =
    let e : s + k * s ≡ (k + 1) * s = omega arith in
    ap (λ (m : ℕ). leb m n) e

-- a call's answer to a test, where its negation is asked

pub passed : {r b : Bool} → r ≡ b → not r ≡ false → b ≡ true
passed {r} e t = sym e ∙ not-false r t

-- tests in turn: v is what the first two come to, and u the third too
pub in_turn : (a b c e v u : Bool) → v ≡ (a && b) → u ≡ (v && c) → (a && (b && (c && e))) ≡ (u && e)
in_turn true true c e v u p q = rw (q, p)
in_turn true false c e v u p q = rw (q, p)
in_turn false b c e v u p q = rw (q, p)

-- a test says a fact: it is true where the fact holds, and there alone
pub record Says (b : Bool) (P : Type 0) : Type 0 where
  pub told : b ≡ true → P
  pub met : P → b ≡ true

both : {a b : Bool} {P Q : Type 0} → Says a P → Says b Q → Says (a && b) (P × Q)
both {a = true} p q = record { told = λ e. (p.told refl, q.told e); met = λ h. q.met h.1 }
both {a = false} p q = record { told = λ e. absurd (to-T e); met = λ h. p.met h.0 }

either : {a b : Bool} {P Q : Type 0} → Says a P → Says b Q → Says (a || b) (P ⊎ Q)
either {a = true} p q = record { told = λ e. inl (p.told refl); met = λ h. refl }
either {a = false} p q = record { told = λ e. inr (q.told e); met = ⊎_elim (λ h. absurd (to-T (p.met h))) q.met }

-- the same fact in other words
reworded : {b : Bool} {P Q : Type 0} → Says b P → (P → Q) → (Q → P) → Says b Q
reworded s f g = record { told = λ e. f (s.told e); met = λ h. s.met (g h) }

at_most : (m n : ℕ) → Says (leb m n) (m ≤ n)
at_most m n = record { told = leb-true m n; met = le-leb m n }

below : (m n : ℕ) → Says (ltb m n) (m < n)
below m n = record { told = ltb-true m n; met = lt-ltb m n }

same : (m n : ℕ) → Says (eqb m n) (m ≡ n)
same m n = record { told = eqb-true m n; met = eq-eqb m n }

-- the tests of a level, part by part

apart : (a b : ℕ) → Says (regions_apart a b) ((a + region_size ≤ b) ⊎ (b + region_size ≤ a))
unfolding regions_apart
apart a b = either (at_most (a + region_size) b) (at_most (b + region_size) a)

region : (a links len : ℕ) → Says (region_fits a links len) ((a + region_size ≤ links) × (a + region_size + word_size ≤ len))
unfolding region_fits
region a links len = both (at_most (a + region_size) links) (at_most (a + region_size + word_size) len)

counts : (d count : ℕ)
    → Says (count_fits d count)
    ((count * (width (suc d) + width (suc d)) ≤ region_size) × ((count + count) * (width d + width d) ≤ region_size))
unfolding count_fits
counts d count =
    both (at_most (count * (width (suc d) + width (suc d))) region_size) (at_most ((count + count) * (width d + width d)) region_size)

-- what `level`, `link_part` and `exchange_parts` require

abbrev pub LevelNeeds : ℕ → ℕ → ℕ → ℕ → ℕ → ℕ → Type 0
LevelNeeds d from count to links len =
    (d < most_variables)
    × (((from + region_size ≤ to) ⊎ (to + region_size ≤ from))
    × (((from + region_size ≤ links) × (to + region_size ≤ links) × (links + 4 * count ≤ len))
    × (((count * (width (suc d) + width (suc d)) ≤ region_size) × ((count + count) * (width d + width d) ≤ region_size))
    × ((from + region_size + word_size ≤ len) × (to + region_size + word_size ≤ len)))))

pub level-says : (d from count to links len : ℕ) → Says (level_fits d from count to links len) (LevelNeeds d from count to links len)
unfolding level_fits regions_fit
level-says d from count to links len =
    reworded
    (both (below d most_variables)
    (both (both (apart from to) (both (region from links len) (region to links len)))
    (both (counts d count) (at_most (links + 4 * count) len))))
    (λ (h, ((a, (f, t)), (c, l))). (h, (a, ((f.0, t.0, l), (c, (f.1, t.1))))))
    (λ (h, (a, ((f, t, l), (c, (g, u))))). (h, ((a, ((f, g), (t, u))), (c, l))))

abbrev pub CandidateNeeds : ℕ → ℕ → ℕ → ℕ → ℕ → ℕ → Type 0
CandidateNeeds d size to k l len =
    ((d ≤ most_variables) × (size ≡ width d + width d))
    × (((to + region_size + word_size ≤ len) × ((k + 1) * (width d + width d) ≤ region_size)) × (l + 2 ≤ len))

pub candidate-says : (d size to k l len : ℕ) → Says (candidate_fits d size to k l len) (CandidateNeeds d size to k l len)
unfolding candidate_fits
candidate-says d size to k l len =
    reworded
    (both (at_most d most_variables)
    (both (same size (width d + width d))
    (both (at_most (to + region_size + word_size) len)
    (both (at_most ((k + 1) * (width d + width d)) region_size) (at_most (l + 2) len)))))
    (λ (h, (s, (t, (c, e)))). ((h, s), ((t, c), e)))
    (λ ((h, s), ((t, c), e)). (h, (s, (t, (c, e)))))

abbrev pub PartsNeeds : ℕ → ℕ → ℕ → ℕ → Type 0
PartsNeeds d from count len = (d + 2 ≤ most_variables) × (from + count * (width (suc (suc d)) + width (suc (suc d))) ≤ len)

pub parts-say : (d from count len : ℕ) → Says (parts_fit d from count len) (PartsNeeds d from count len)
unfolding parts_fit
parts-say d from count len =
    both (at_most (d + 2) most_variables) (at_most (from + count * (width (suc (suc d)) + width (suc (suc d)))) len)
