-- Links in the work buffer, and those of the levels below, counted: links as numbers are equal exactly when the links are, and they fit two
-- bytes.
-- Assumes nothing.
use mathlib.Core.Path.{◌≡◌, refl, sym, ap, ap₂, ◌∙◌, subst}
use mathlib.Core.Bool.{Bool, true, false, not, cond, beq}
use mathlib.Core.List.{List, [], ◌∷◌, ◌++◌, map, append_assoc}
use Prim.Native.Nat.{ℕ, zero, suc, ◌+◌, ◌*◌, ◌%◌, ◌≤◌, ◌<◌}
use native.Mathlib.Nat.{mul-le-mul_left, suc-ne-zero, zero-add, add-zero}
use native.Mathlib.Omega.{arith}
use borrow.Author.Tests.{eq-eqb, ne_eqb, eqb-true, eqb-false}
use lib.Dec.{T, eqb}
use lib.ListN.{length, get_or, drop}
use lib.Seq.{drop-drop, drop_at, get_or-drop}
use Rattle.lists.specs.Bits.{digit}
use Rattle.lists.specs.Sums.{sum_below}
use Rattle.lists.proofs.Bools.{split, to-T, beq→eq}
use Rattle.lists.proofs.Bits.Digits.{digit-le}
use Rattle.lists.proofs.Numbers.Sums.{sum-add, sum-cong}
use Rattle.diagram.specs.Filling.Fill.{Link, const, entry}
use Rattle.diagram.specs.Networks.Trace.{same_link, differing}
use Rattle.reorder.specs.Sizes.{width}
use Rattle.matching.specs.Parts.{always_part, agree_part, along_parts, candidate_part, level_parts, offered_parts}
use Rattle.matching.specs.Links.{region_size, link_number, link_bytes}
use Rattle.fill.specs.Work.{all_links}
use Rattle.fill.specs.Inner.Descent.{level_below, links_below, counts_below, roomy}
use Rattle.fill.specs.Counts.{link_at, pair_differs, differing_pairs, counts_at, links_end}
use Rattle.matching.proofs.Parts.PartHalves.{width-pos}
use Rattle.matching.proofs.Buffers.PartLengths.{Long, length-links, candidate-grown, level-grown, long-offered}
use Rattle.fill.proofs.Descents.LevelsBelow.{links-suc, counts-suc, bytes-suc, links-two, links-length, Room, room-suc, level-fits}

-- different links have different numbers

digits_same : (i j : Bool) → eqb (digit i) (digit j) ≡ beq i j
digits_same true true = refl
digits_same true false = refl
digits_same false true = refl
digits_same false false = refl

pub numbers-same : (k l : Link) → eqb (link_number k) (link_number l) ≡ same_link k l
numbers-same (const v) (const w) = digits_same v w
numbers-same (const v) (entry l j) = ne_eqb (digit v) (2 * suc l + digit j) (λ e. omega (arith, digit-le v))
numbers-same (entry k i) (const w) = ne_eqb (2 * suc k + digit i) (digit w) (λ e. omega (arith, digit-le w))
numbers-same (entry k i) (entry l j) =
    split (eqb k l)
    (λ e. rw e (split (beq i j)
    (λ q. rw q (eq-eqb (2 * suc k + digit i) (2 * suc l + digit j)
    (ap₂ (λ x y. 2 * suc x + digit y) (eqb-true k l e) (beq→eq i j (to-T q)))))
    (λ q. rw q (ne_eqb (2 * suc k + digit i) (2 * suc l + digit j)
    (λ a. let k≡l = eqb-true k l e in eqb-false (digit i) (digit j) (digits_same i j ∙ q) (omega arith))))))
    (λ e. rw e (ne_eqb (2 * suc k + digit i) (2 * suc l + digit j)
    (λ a. eqb-false k l e (omega (arith, digit-le i, digit-le j)))))

-- links in the work buffer from byte i on

abbrev pub Links : List ℕ → ℕ → List Link → Type 0
Links w i [] = Unit {0}
Links w i (k ∷ ks) = (link_at w i ≡ link_number k) × Links w (i + 2) ks

-- links whose numbers are below n
abbrev pub Under : ℕ → List Link → Type 0
Under n [] = Unit {0}
Under n (k ∷ ks) = (link_number k < n) × Under n ks

under_more : {n m : ℕ} → n ≤ m → (ks : List Link) → Under n ks → Under m ks
under_more h [] u = tt
under_more h (k ∷ ks) u = (omega arith, under_more h ks u.1)

-- a link goes to one of the entries there are afterwards

along_under : (w e : ℕ) (f : List ℕ) (gs : List (List ℕ))
    → link_number (along_parts w e f gs).link < 2 * (e + length (along_parts w e f gs).parts) + 2
unfolding along_parts
along_under w e f [] = omega arith
along_under w e f (g ∷ gs) =
    split (agree_part false w f g) (λ p. rw p (omega arith))
    (λ p. split (agree_part true w f g) (λ q. rw (p, q) (omega arith)) (λ q. rw (p, q) (omega (arith, along_under w (suc e) f gs))))

candidate-under : (w : ℕ) (f : List ℕ) (gs : List (List ℕ))
    → link_number (candidate_part w f gs).link < 2 * length (candidate_part w f gs).parts + 2
unfolding candidate_part
candidate-under w f gs =
    split (always_part false w f) (λ p. rw p (omega arith))
    (λ p. split (always_part true w f) (λ q. rw (p, q) (omega arith)) (λ q. rw (p, q) (omega (arith, along_under w 0 f gs))))

level-under : (w : ℕ) (gs fs : List (List ℕ)) → Long (w + w) gs → Long (w + w) fs
    → Under (2 * length (level_parts w gs fs).parts + 2) (level_parts w gs fs).links
unfolding level_parts
level-under w gs [] l m = tt
level-under w gs (f ∷ fs) l m =
    let c = candidate-grown w f gs m.0 l in
    let r = level-grown w (candidate_part w f gs).parts fs c.0 m.1 in
    (omega (arith, candidate-under w f gs, r.1), level-under w (candidate_part w f gs).parts fs c.0 m.1)

-- links whose bytes stand there
pub bytes-there : (work : List ℕ) (at : ℕ) (ls : List Link) (rest : List ℕ) → Under 65536 ls → drop at work ≡ link_bytes ls ++ rest
    → Links work at ls
bytes-there work at [] rest u e = tt
bytes-there work at (k ∷ ls) rest u e =
    let byte : (j : ℕ) → get_or work (at + j) 0 ≡ get_or (link_bytes (k ∷ ls) ++ rest) j 0 =
    λ j. sym (get_or-drop at work j 0) ∙ ap (λ (y : List ℕ). get_or y j 0) e in
    let low : get_or work at 0 ≡ link_number k % 256 = ap (λ (i : ℕ). get_or work i 0) (sym (add-zero at)) ∙ byte 0 in
    (omega (arith, low, byte 1, u.0), bytes-there work (at + 2) ls rest u.1 (sym (drop-drop 2 at work) ∙ ap (drop 2) e))

digit_not : (b : Bool) (n : ℕ) → digit (not b) + n ≡ cond b n (suc n)
digit_not true n = omega arith
digit_not false n = omega arith

-- the entries of one level
pub pairs-there : (work : List ℕ) (at k : ℕ) (ls : List Link) → length ls ≡ k + k → Links work at ls → differing_pairs work at k ≡ differing ls
unfolding pair_differs
pairs-there work at zero [] n h = refl
pairs-there work at zero (x ∷ ls) n h = absurd (suc-ne-zero (length ls) n)
pairs-there work at (suc k) [] n h = let z : ◌≡◌ {A = ℕ} 0 1 = omega arith in absurd (suc-ne-zero 0 (sym z))
pairs-there work at (suc k) (x ∷ []) n h = let z : ◌≡◌ {A = ℕ} 0 1 = omega arith in absurd (suc-ne-zero 0 (sym z))
pairs-there work at (suc k) (x ∷ y ∷ ls) n h =
    let f : ℕ → ℕ = λ i. digit (pair_differs work (at + 4 * i)) in
    let one : suc k ≡ 1 + k = omega arith in
    let here : at + 4 * 0 ≡ at = omega arith in
    let next : at + 2 + 2 ≡ at + 4 = omega arith in
    ap (sum_below f) one
    ∙ sum-add f 1 k
    ∙ ap₂ ◌+◌
    (zero-add (f 0) ∙ ap digit (ap (pair_differs work) here ∙ ap not (ap₂ eqb h.0 h.1.0 ∙ numbers-same x y)))
    (sum-cong (λ i. f (1 + i)) (λ i. digit (pair_differs work (at + 4 + 4 * i))) k
    (λ i l. let q : at + 4 * (1 + i) ≡ at + 4 + 4 * i = omega arith in ap (λ (a : ℕ). digit (pair_differs work a)) q)
    ∙ pairs-there work (at + 4) k ls (omega arith) (subst (λ (i : ℕ). Links work i ls) next h.1.1))
    ∙ digit_not (same_link x y) (differing ls)

pub pairs-links : (work : List ℕ) (at k : ℕ) (ls : List Link) (rest : List ℕ) → length ls ≡ k + k → Under 65536 ls
    → drop at work ≡ link_bytes ls ++ rest → differing_pairs work at k ≡ differing ls
pairs-links work at k ls rest n u e = pairs-there work at k ls n (bytes-there work at ls rest u e)

-- no level
counts-none : (work : List ℕ) (at : ℕ) (parts : List (List ℕ))
    → counts_at work at (counts_below zero parts) ≡ map differing (links_below zero parts)
unfolding counts_below links_below
counts-none work at parts = refl

end_none : (at : ℕ) (parts : List (List ℕ)) → links_end at (counts_below zero parts) ≡ at + 2 * length (all_links (links_below zero parts))
unfolding counts_below links_below
end_none at parts = omega arith

pub two-wide : (d : ℕ) → 2 ≤ width d + width d
two-wide d = omega (arith, width-pos d)

-- all levels: the links of each are under 65,536, since its entries fit a region
pub below-under : (d : ℕ) (parts : List (List ℕ)) → Long (width (suc d) + width (suc d)) parts → Room d parts
    → Under 65536 (level_below d parts).links
below-under d parts h r =
    let f = level-fits d parts h r in
    let n = length (level_below d parts).parts in
    let c : n * 2 ≤ region_size = omega (arith, f.1, mul-le-mul_left n (two-wide d)) in
    under_more (omega arith) (level_below d parts).links (level-under (width d) [] (offered_parts d parts) tt (long-offered d parts h))

pub counts-below : (work : List ℕ) (d at : ℕ) (parts : List (List ℕ)) (rest : List ℕ) → Long (width d + width d) parts → T (roomy d parts)
    → drop at work ≡ link_bytes (all_links (links_below d parts)) ++ rest
    → counts_at work at (counts_below d parts) ≡ map differing (links_below d parts)
counts-below work zero at parts rest h t e = counts-none work at parts
counts-below work (suc d) at parts rest h t e =
    let l = level_below d parts in
    let k = length parts in
    let r = room-suc d parts t in
    let more = link_bytes (all_links (links_below d l.parts)) ++ rest in
    let here : drop at work ≡ link_bytes l.links ++ more =
    e ∙ ap (λ (y : List ℕ). y ++ rest) (bytes-suc d parts)
    ∙ append_assoc (link_bytes l.links) (link_bytes (all_links (links_below d l.parts))) rest in
    let size : length (link_bytes l.links) ≡ 4 * k = omega (arith, length-links l.links, links-two d parts) in
    ap (counts_at work at) (counts-suc d parts)
    ∙ ap₂ (λ (x : ℕ) (xs : List ℕ). x ∷ xs)
    (pairs-links work at k l.links more (links-two d parts) (below-under d parts h r) here)
    (counts-below work d (at + 4 * k) l.parts rest (level-fits d parts h r).0 r.below
    (sym (drop-drop (4 * k) at work) ∙ ap (drop (4 * k)) here ∙ drop_at (link_bytes l.links) more (4 * k) size))
    ∙ sym (ap (map differing) (links-suc d parts))

-- where they end
pub end_below : (d at : ℕ) (parts : List (List ℕ)) → links_end at (counts_below d parts) ≡ at + 2 * length (all_links (links_below d parts))
end_below zero at parts = end_none at parts
end_below (suc d) at parts =
    let l = level_below d parts in
    ap (links_end at) (counts-suc d parts)
    ∙ end_below d (at + 4 * length parts) l.parts
    ∙ omega (arith, links-length d parts)
