-- What the halves of a level's parts come to, linked one part after the other.
-- Assumes nothing.
use Rattle.std.proofs.Common.{◌≡◌, refl, sym, ap, ap₂, ◌∙◌, subst, true, List, [], ◌∷◌, ◌++◌, ℕ, suc, ◌+◌, ◌*◌, ◌≤◌, ◌<◌, ◌⊎◌, inl, inr}
use Rattle.std.proofs.Common.{length, take, drop, length-drop, drop-drop, arith}
use mathlib.Core.Logic.{⊎_elim}
use native.Mathlib.Nat.{mul-le-mul_right}
use native.Mathlib.Numerals.{add-one}
use Rattle.diagram.specs.Networks.Bound.{most_variables}
use Rattle.reorder.specs.Sizes.{width, width_up_to}
use Rattle.reorder.proofs.Shifts.{width-met}
use Rattle.matching.specs.Links.{region_size}
use Rattle.matching.specs.Parts.{level_parts, offered_parts}
use Rattle.matching.specs.Level.{part_at, parts_at, parts_of, written}
use Rattle.matching.specs.Fits.{level_fits}
use Rattle.matching.specs.Inner.Words.{word_size}
use Rattle.matching.specs.Inner.Linking.{HasRoom, Links}
use Rattle.matching.specs.declared.entries.Entries.{Entries}
use Rattle.matching.proofs.Buffers.Chunks.{length-chunks, chunks-more}
use Rattle.matching.proofs.Buffers.Fitting.{LevelNeeds, level-says}
use Rattle.matching.proofs.Buffers.PartLengths.{Long, long-chunks, level-grown, long-offered, count-offered, offered-append}
use Rattle.matching.proofs.Buffers.WrittenLevel.{written_none, fit-first, outside}
use Rattle.matching.proofs.Linking.LinkedHalf.{length_part}
use Rattle.matching.proofs.Linking.LinkedPair.{linked-on}

-- the width that code computes for parts of d + 1 variables
pub part-width : (d r : ℕ) → d < most_variables → r ≡ width_up_to (d + 1) → r ≡ width (suc d)
part-width d r h e = e ∙ width-met (d + 1) (omega arith) ∙ ap width (add-one d)

pub part-offset : (d r from e : ℕ) → d < most_variables → r ≡ width_up_to (d + 1)
    → from + e * (2 * r) ≡ from + e * (width (suc d) + width (suc d))
part-offset d r from e h p =
    let q : 2 * r ≡ width (suc d) + width (suc d) = omega (arith, part-width d r h p) in
    ap (λ (s : ℕ). from + e * s) q

-- What the halves of the first e parts come to is linked: the entries are n, and m is the work buffer.
abbrev pub SoFar : ℕ → ℕ → Entries → List ℕ → ℕ → Entries → List ℕ → Type 0
SoFar d from start work e n m = Links (width d) (offered_parts d (parts_at (suc d) e from work)) start n work m

pub so-far-none : (d from : ℕ) (start : Entries) (work : List ℕ) → start.count ≡ 0 → SoFar d from start work 0 start work
unfolding level_parts
so-far-none d from start work z =
    record {
      to = refl;
      count = sym (length-chunks (width d + width d) start.count (drop start.to work));
      links = omega arith;
      work =
          sym (written_none start.to start.links work)
          ∙ ap (λ (k : ℕ). written (level_parts (width d) (parts_of (width d) k start.to work) []) start.to start.links work) (sym z);
    }

pub level-variables : (d from count to links len : ℕ) → level_fits d from count to links len ≡ true → d < most_variables
level-variables d from count to links len fits = ((level-says d from count to links len).told fits).0

module _ (d from count to links len : ℕ) (fits : level_fits d from count to links len ≡ true) (work : List ℕ) (size : length work ≡ len)
    (start : Entries) (is-to : start.to ≡ to) (is-none : start.count ≡ 0) (is-links : start.links ≡ links) where
  -- what the turn of part e asks, and what it leaves
  module _ (e a : ℕ) (more : e < count) (at_part : a ≡ from + e * (width (suc d) + width (suc d))) where
    known : LevelNeeds d from count to links len
    known = (level-says d from count to links len).told fits

    -- the part lies in its region
    pub in-region : (a + (width (suc d) + width (suc d)) ≤ from + region_size) × (from + region_size + word_size ≤ len)
    in-region =
        let s = width (suc d) + width (suc d) in
        let h : e + 1 ≤ count = omega arith in
        omega (arith, mul-le-mul_right s h, known.1.1.1.0.0, known.1.1.1.1.0)

    parts-long : Long (width d + width d) (offered_parts d (parts_at (suc d) e from work))
    parts-long =
        long-offered d (parts_at (suc d) e from work)
        (long-chunks (width (suc d) + width (suc d)) e (drop from work) (omega (arith, in-region, length-drop from work)))

    count-here : length (offered_parts d (parts_at (suc d) e from work)) ≡ e + e
    count-here =
        count-offered d (parts_at (suc d) e from work)
        ∙ ap (λ (y : ℕ). y + y) (length-chunks (width (suc d) + width (suc d)) e (drop from work))

    two-more : (e + e + 2) * (width d + width d) ≤ region_size
    two-more =
        let h : e + e + 2 ≤ count + count = omega arith in
        omega (arith, mul-le-mul_right (width d + width d) h, known.1.1.1.0.1)

    outside-region : (a + (width (suc d) + width (suc d)) ≤ to) ⊎ (to + region_size ≤ a)
    outside-region = ⊎_elim (λ (p : from + region_size ≤ to). inl (omega (arith, in-region)))
        (λ (q : to + region_size ≤ from). inr (omega arith)) known.1.0

    pub turn-asks : (n : Entries) (m : List ℕ) → SoFar d from start work e n m → length m ≡ length work
        → (a + (width (suc d) + width (suc d)) + word_size ≤ length m) × HasRoom 2 (width d) n m
    turn-asks n m r j =
        let g = level-grown (width d) [] (offered_parts d (parts_at (suc d) e from work)) tt parts-long in
        let none : parts_of (width d) start.count start.to work ≡ [] = ap (λ (k : ℕ). parts_of (width d) k start.to work) is-none in
        let c = r.count ∙ ap (λ (y : List (List ℕ)). length (level_parts (width d) y (offered_parts d (parts_at (suc d) e from work))).parts) none in
        let few : n.count + 2 ≤ e + e + 2 = omega (arith, c, g.2, count-here) in (
          omega (arith, in-region),
          record {
            region = omega (arith, r.to, known.1.1.1.1.1);
            parts = omega (arith, mul-le-mul_right (width d + width d) few, two-more);
            links = omega (arith, r.links, count-here, known.1.1.0.2);
          },
        )

    parts_more : parts_at (suc d) (e + 1) from work ≡ parts_at (suc d) e from work ++ (part_at (suc d) a work ∷ [])
    parts_more =
        let s = width (suc d) + width (suc d) in
        chunks-more s e (drop from work)
        ∙ ap (λ (y : List ℕ). parts_at (suc d) e from work ++ (take s y ∷ []))
        (drop-drop (e * s) from work ∙ ap (λ (y : ℕ). drop y work) (sym at_part))

    offered-more : offered_parts d (parts_at (suc d) (e + 1) from work)
        ≡ offered_parts d (parts_at (suc d) e from work) ++ offered_parts d (part_at (suc d) a work ∷ [])
    offered-more = ap (offered_parts d) parts_more ∙ offered-append d (parts_at (suc d) e from work) (part_at (suc d) a work ∷ [])

    pub turn-leaves : (n new : Entries) (m m' : List ℕ) → SoFar d from start work e n m
        → Links (width d) (offered_parts d (part_at (suc d) a m ∷ [])) n new m m' → SoFar d from start work (e + 1) new m'
    turn-leaves n new m m' h p =
        let w = width d in
        let fs = offered_parts d (parts_at (suc d) e from work) in
        let hs = offered_parts d (part_at (suc d) a work ∷ []) in
        let gs = parts_of w start.count start.to work in
        let in_list : start.links ≤ length work = omega (arith, known.1.1.0) in
        let lh = long-offered d (part_at (suc d) a work ∷ []) (length_part (suc d) a work (omega (arith, in-region)), tt) in
        let lg : Long (w + w) gs = long-chunks (w + w) start.count (drop start.to work) (subst (λ (k : ℕ). k * (w + w) ≤ length (drop start.to work)) (sym is-none) (omega arith)) in
        let c : length gs ≡ 0 = length-chunks (w + w) start.count (drop start.to work) ∙ is-none in
        let few : length fs + 2 ≤ e + e + 2 = omega (arith, count-here) in
        let room : (length fs + 2) * (w + w) ≤ region_size = omega (arith, mul-le-mul_right (w + w) few, two-more) in
        let fit = fit-first w start.to start.links work start.links_behind in_list gs fs hs lg parts-long lh
        (subst (λ (k : ℕ). (k + (length fs + 2)) * (w + w) ≤ region_size) (sym c) (omega (arith, room))) in
        let kept : part_at (suc d) a m ≡ part_at (suc d) a work =
        ap (part_at (suc d) a) h.work
        ∙ outside (w + w) start.to start.links work start.links_behind in_list (level_parts w gs fs) fit a (width (suc d) + width (suc d))
        (omega (arith, in-region, known.1.1.0)) (subst (λ (i : ℕ). (a + (width (suc d) + width (suc d)) ≤ i) ⊎ (i + region_size ≤ a)) (sym is-to) outside-region) in
        subst (λ (y : List (List ℕ)). Links w y start new work m') (sym offered-more)
        (linked-on w start n new work m m' fs hs parts-long lh (omega (arith, known.1.1.1.1))
        (subst (λ (k : ℕ). (k + (length fs + 2)) * (w + w) ≤ region_size) (sym is-none) (omega (arith, room))) in_list h
        (subst (λ (y : List ℕ). Links w (offered_parts d (y ∷ [])) n new m m') kept p))
