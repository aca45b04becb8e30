-- The outputs' entries in the first region of a work buffer: what is read from it.
-- Assumes nothing.
use mathlib.Core.Path.{◌≡◌, ap, ap₂, ◌∙◌}
use mathlib.Core.Bool.{true}
use mathlib.Core.List.{List, [], map}
use Prim.Native.Nat.{ℕ, ◌+◌, ◌≤◌}
use lib.ListN.{length, drop}
use Rattle.lists.specs.Written.{splice}
use Rattle.lists.proofs.Written.Splice.{length-splice}
use Rattle.lists.proofs.Written.Windows.{drop-behind}
use Rattle.diagram.specs.Networks.Bound.{most_variables, most_outputs}
use Rattle.diagram.specs.Tree.{Tree}
use Rattle.diagram.specs.Filling.Fill.{Row, level}
use Rattle.diagram.proofs.Filling.Fill.{links-length}
use Rattle.table.proofs.Files.Answers.{stream-small}
use Rattle.reorder.specs.Sizes.{width}
use Rattle.reorder.specs.Pack.{encode}
use Rattle.matching.specs.Links.{region_size, link_bytes}
use Rattle.fill.specs.Work.{work_size, links_at, trials_size}
use Rattle.matching.specs.Parts.{LevelParts, level_parts, flat}
use Rattle.matching.specs.Level.{parts_at, written}
use Rattle.matching.proofs.Buffers.PartLengths.{length-links}
use Rattle.matching.proofs.Buffers.WrittenLevel.{Fit, fit-end, parts-under}
use Rattle.fill.proofs.Calls.Filling.{long-encode}
use Rattle.fill.proofs.Descents.LevelsBelow.{room-first}
use Rattle.fill.proofs.Descents.TreeDescent.{entries_of, parts_of}
use Rattle.matching.proofs.Linking.TreeLevel.{level_part, level-bytes}
use Rattle.fill.proofs.Lowered.TrialSizes.{trial_sizes}
use Rattle.fill.proofs.Room.RegionRoom.{Rows, roomy-filled}

module _ {n : ℕ} (fs : List (Tree Row n)) (small : n ≤ most_variables) (few : length fs ≤ most_outputs) where
  pub first_rows : Rows fs
  first_rows = stream-small n (length fs) small few

  fit : Fit (width n + width n) (parts_of fs)
  fit = (long-encode (entries_of fs), room-first n (parts_of fs) (roomy-filled n fs first_rows))

  module _ (work : List ℕ) (big : work_size ≤ length work) (xs : List (List ℕ)) (r : ℕ) (m : List ℕ) (is : xs ≡ map encode fs)
      (many : r ≡ length (level_parts (width n) [] xs).parts) (left : m ≡ written (level_parts (width n) [] xs) 0 links_at work) where
    trees : level_parts (width n) [] xs ≡ level_part (level true [] fs)
    trees = ap (level_parts (width n) []) is ∙ level-bytes [] fs

    many-trees : r ≡ length (parts_of fs)
    many-trees = many ∙ ap (λ (l : LevelParts). length l.parts) trees

    left-trees : m ≡ splice (splice work 0 (flat (parts_of fs))) links_at (link_bytes (level true [] fs).links)
    unfolding written
    left-trees = left ∙ ap (λ (l : LevelParts). splice (splice work 0 (flat l.parts)) links_at (link_bytes l.links)) trees

    pub first-kept : (r ≡ length (parts_of fs)) × ((parts_at n r 0 m ≡ parts_of fs) × (drop trials_size m ≡ drop trials_size work))
    first-kept =
        let s = width n + width n in
        let y = link_bytes (level true [] fs).links in
        let room : length (flat (parts_of fs)) ≤ region_size =
        fit-end s 0 links_at work (omega trial_sizes) (omega trial_sizes) (parts_of fs) fit in
        let links-few : length y ≤ region_size = omega (trial_sizes, length-links (level true [] fs).links, links-length true [] fs) in (
          many-trees,
          (
            ap₂ (λ (j : ℕ) (l : List ℕ). parts_at n j 0 l) many-trees left-trees
                ∙ parts-under s 0 links_at work (omega trial_sizes) (omega trial_sizes) (parts_of fs) y fit,
            ap (drop trials_size) left-trees
                ∙ drop-behind (splice work 0 (flat (parts_of fs))) links_at y
                (omega (trial_sizes, length-splice work 0 (flat (parts_of fs)) (omega trial_sizes))) trials_size (omega trial_sizes)
                ∙ drop-behind work 0 (flat (parts_of fs)) (omega trial_sizes) trials_size (omega trial_sizes),
          ),
        )
