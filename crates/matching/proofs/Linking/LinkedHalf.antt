-- A candidate linked in the work buffer: the region lent, and what is asked and left.
-- Assumes nothing.
use mathlib.Core.Path.{◌≡◌, sym, ap, ap₂, ◌∙◌, subst}
use mathlib.Core.List.{List, [], ◌∷◌, ◌++◌, append_assoc}
use Prim.Native.Nat.{ℕ, ◌+◌, ◌*◌, ◌/◌, ◌%◌, ◌≤◌}
use native.Mathlib.Nat.{mul-le-mul_right}
use native.Mathlib.Omega.{arith}
use lib.ListN.{length, take, drop, length-drop, take-append-drop}
use lib.Seq.{length-take-le, drop-append-le, drop-drop}
use Rattle.lists.specs.Written.{splice}
use Rattle.reorder.specs.Sizes.{width}
use Rattle.matching.specs.Parts.{candidate_part, level_parts, chunks, flat}
use Rattle.matching.specs.Links.{region_size, link_number}
use Rattle.matching.specs.Level.{part_at, parts_of, written}
use Rattle.matching.specs.Inner.Linking.{LinksTo}
use Rattle.matching.specs.declared.candidate.Linked.{Linked}
use Rattle.matching.specs.Inner.Words.{word_size}
use Rattle.matching.proofs.Buffers.Chunks.{length-chunks}
use Rattle.matching.proofs.Buffers.PartLengths.{long-chunks, length-flat, chunks-take, candidate-grown}
use Rattle.matching.proofs.Buffers.WrittenLevel.{Fit}

pub length_part : (d a : ℕ) (work : List ℕ) → a + (width d + width d) ≤ length work → length (part_at d a work) ≡ width d + width d
length_part d a work h = length-take-le (width d + width d) (drop a work) (omega (arith, length-drop a work))

-- a candidate is linked in a region of n bytes that is lent: R is the region when it is back
region-back : (work x : List ℕ) (to n m : ℕ) → length x ≡ m → m ≤ n → to + n ≤ length work
    → take to work ++ ((x ++ drop m (take n (drop to work))) ++ drop n (drop to work)) ≡ splice work to x
unfolding splice
region-back work x to n m e h i =
    let r = drop to work in
    let l : n ≤ length r = omega (arith, length-drop to work) in
    ap (λ (y : List ℕ). take to work ++ y)
    (append_assoc x (drop m (take n r)) (drop n r)
    ∙ ap (λ (y : List ℕ). x ++ y)
    (sym (drop-append-le m (take n r) (drop n r) (omega (arith, length-take-le n r l)))
    ∙ ap (drop m) (take-append-drop n r)
    ∙ drop-drop m to work
    ∙ ap (λ (y : ℕ). drop (to + y) work) (sym e)))

module _ (w k to : ℕ) (f work : List ℕ) (long : length f ≡ w + w) (room : (k + 1) * (w + w) ≤ region_size)
    (in-work : to + region_size ≤ length work) where
  -- the entries' parts afterwards
  pub linked-fit : Fit (w + w) (candidate_part w f (chunks (w + w) k (drop to work))).parts
  linked-fit =
      let s = w + w in
      let gs = chunks s k (drop to work) in
      let g = candidate-grown w f gs long (long-chunks s k (drop to work) (omega (arith, length-drop to work))) in
      let c : length (candidate_part w f gs).parts ≤ k + 1 = omega (arith, g, length-chunks s k (drop to work)) in
      (g.0, omega (arith, mul-le-mul_right s c))

  -- n bytes are lent, the region's and a word more
  module _ (n l : ℕ) (r : Linked) (region after : List ℕ) (is : n ≡ region_size + word_size) (slack : to + region_size + word_size ≤ length work)
      (t : LinksTo w (candidate_part w f (chunks (w + w) k (take n (drop to work)))) (take n (drop to work)) r region) where
    linked-here : LinksTo w (candidate_part w f (parts_of w k to work)) (take n (drop to work)) r region
    linked-here =
        subst (λ (y : List (List ℕ)). LinksTo w (candidate_part w f y) (take n (drop to work)) r region)
        (chunks-take (w + w) k n (drop to work) (omega arith)) t

    pub part-entries : r.entries ≡ length (level_parts w (parts_of w k to work) (f ∷ [])).parts
    unfolding level_parts
    part-entries = linked-here.entries

    pub part-link : r.link ≡ link_number (candidate_part w f (parts_of w k to work)).link
    part-link = linked-here.link

    pub part-written : after ≡ splice (take to work ++ (region ++ drop n (drop to work))) l (r.link % 256 ∷ r.link / 256 % 256 ∷ [])
        → after ≡ written (level_parts w (parts_of w k to work) (f ∷ [])) to l work
    unfolding level_parts written
    part-written e =
        let s = w + w in
        let p = candidate_part w f (parts_of w k to work) in
        let (g, m) = linked-fit in
        e
        ∙ ap₂ (λ (y : List ℕ) (i : ℕ). splice (take to work ++ (y ++ drop n (drop to work))) l (i % 256 ∷ i / 256 % 256 ∷ []))
        linked-here.region part-link
        ∙ ap (λ (y : List ℕ). splice y l (link_number p.link % 256 ∷ link_number p.link / 256 % 256 ∷ []))
        (region-back work (flat p.parts) to n (length p.parts * s) (length-flat s p.parts g) (omega arith) (omega arith))
