-- The outputs linked one after the other at level 0, in a work buffer whose first links are theirs.
-- Assumes nothing.
use mathlib.Core.Path.{◌≡◌, refl, sym, ap, ◌∙◌, subst}
use mathlib.Core.List.{List, [], ◌∷◌, ◌++◌, map, map-append}
use Prim.Native.Nat.{ℕ, ◌+◌, ◌*◌, ◌≤◌, ◌<◌}
use native.Mathlib.Nat.{mul-le-mul}
use native.Mathlib.Numerals.{add-one}
use lib.ListN.{length}
use Rattle.lists.specs.Lists.{up_to}
use Rattle.lists.proofs.Numbers.UpTo.{length-map-up_to}
use Rattle.diagram.specs.Networks.Bound.{most_variables, most_outputs}
use Rattle.matching.specs.Links.{region_size}
use Rattle.fill.specs.Work.{work_size, links_at}
use Rattle.reorder.specs.Sizes.{width}
use Rattle.matching.specs.Parts.{level_parts}
use Rattle.matching.specs.Level.{parts_at, written}
use Rattle.reorder.specs.Gather.{gathered_part}
use Rattle.reorder.proofs.Shifts.{part-size, width_room}
use Rattle.reorder.proofs.Gathered.{length-gathered}
use Rattle.fill.proofs.Buffers.Sizes.{sizes}
use Rattle.matching.proofs.Buffers.PartLengths.{Long, level-grown}
use Rattle.matching.proofs.Buffers.WrittenLevel.{written_none, level-step}

long-map : {A : Type 0} (s : ℕ) (f : A → List ℕ) → ((x : A) → length (f x) ≡ s) → (xs : List A) → Long s (map f xs)
long-map s f h [] = tt
long-map s f h (x ∷ xs) = (h x, long-map s f h xs)

module _ (n : ℕ) (values care rows : List ℕ) where
  -- the parts of the first j outputs
  abbrev pub first_outputs : ℕ → List (List ℕ)
  first_outputs j = map (gathered_part values care rows n) (up_to j)

  outputs-long : (j : ℕ) → Long (width n + width n) (first_outputs j)
  outputs-long j = long-map (width n + width n) (gathered_part values care rows n) (length-gathered values care rows n) (up_to j)

  outputs-more : (j : ℕ) → first_outputs (j + 1) ≡ first_outputs j ++ (gathered_part values care rows n j ∷ [])
  outputs-more j =
      ap first_outputs (add-one j) ∙ map-append (gathered_part values care rows n) (up_to j) (j ∷ [])

  -- after j outputs there are k entries, and m is the work buffer
  pub record Linked (work : List ℕ) (j k : ℕ) (m : List ℕ) : Type 0 where
    pub entries : k ≡ length (level_parts (width n) [] (first_outputs j)).parts
    pub buffer : m ≡ written (level_parts (width n) [] (first_outputs j)) 0 links_at work

  pub linked-none : (work : List ℕ) → Linked work 0 0 work
  unfolding level_parts
  linked-none work = record { entries = refl; buffer = sym (written_none 0 links_at work) }

  module _ (work : List ℕ) (j k : ℕ) (m : List ℕ) (small : n ≤ most_variables) (few : j < most_outputs) (so_far : Linked work j k m) where
    pub output-room : (k + 1) * (width n + width n) ≤ region_size
    output-room =
        let g = level-grown (width n) [] (first_outputs j) tt (outputs-long j) in
        let c : k + 1 ≤ most_outputs = omega (sizes, so_far.entries, g.2, length-map-up_to (gathered_part values care rows n) j) in
        mul-le-mul {n₂ = most_outputs} {m₂ = 256} c (omega (sizes, part-size, width_room n small))

    pub output-linked : (r : ℕ) (m' : List ℕ) → work_size ≤ length work
        → r ≡ length (level_parts (width n) (parts_at n k 0 m) (gathered_part values care rows n j ∷ [])).parts
        → m' ≡ written (level_parts (width n) (parts_at n k 0 m) (gathered_part values care rows n j ∷ [])) 0 (links_at + 2 * j) m
        → Linked work (j + 1) r m'
    output-linked r m' h p q =
        let w = width n in
        let fs = first_outputs j in
        let g = gathered_part values care rows n j in
        let c : length fs ≡ j = length-map-up_to (gathered_part values care rows n) j in
        let room : (0 + (length fs + 1)) * (w + w) ≤ region_size =
        subst (λ (y : ℕ). (0 + (y + 1)) * (w + w) ≤ region_size) (sym c)
        (mul-le-mul {n₂ = most_outputs} {m₂ = 256} (omega sizes) (omega (sizes, part-size, width_room n small))) in
        let t =
        level-step w 0 links_at work (omega sizes) (omega sizes) [] fs (g ∷ []) tt (outputs-long j)
        (length-gathered values care rows n j, tt) room
        k r (links_at + 2 * j) m m' so_far.entries so_far.buffer (omega sizes) p q in
        record {
          entries = t.0 ∙ ap (λ (y : List (List ℕ)). length (level_parts w [] y).parts) (sym (outputs-more j));
          buffer = t.1 ∙ ap (λ (y : List (List ℕ)). written (level_parts w [] y) 0 links_at work) (sym (outputs-more j));
        }
