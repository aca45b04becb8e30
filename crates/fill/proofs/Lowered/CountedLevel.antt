-- One level made of parts and counted: its entries' parts go to the region at `to`, its links behind four regions. What is read from the
-- work buffer then, and what is as it was.
-- Assumes nothing.
use mathlib.Core.Path.{◌≡◌, ap, ◌∙◌}
use mathlib.Core.List.{List}
use mathlib.Core.Logic.{inl}
use Prim.Native.Nat.{ℕ, suc, ◌+◌, ◌*◌, ◌≤◌}
use native.Mathlib.Nat.{mul-le-mul_left}
use lib.ListN.{length, take, drop}
use Rattle.lists.specs.Written.{splice}
use Rattle.lists.proofs.Written.Splice.{length-splice}
use Rattle.lists.proofs.Written.Windows.{drop_here, drop-behind}
use Rattle.diagram.specs.Networks.Trace.{differing}
use Rattle.reorder.specs.Sizes.{width}
use Rattle.matching.specs.Links.{region_size, link_bytes}
use Rattle.fill.specs.Work.{work_size, links_at, trials_size}
use Rattle.matching.specs.Parts.{flat}
use Rattle.matching.specs.Level.{parts_at, written}
use Rattle.fill.specs.Inner.Descent.{level_below}
use Rattle.fill.specs.Counts.{differing_pairs}
use Rattle.fill.specs.Inner.Lowering.{level_links_at}
use Rattle.matching.proofs.Buffers.PartLengths.{Long, length-links}
use Rattle.matching.proofs.Buffers.WrittenLevel.{Fit, fit-end, parts-under, outside}
use Rattle.fill.proofs.Counting.LinkPairs.{pairs-links, below-under, two-wide}
use Rattle.fill.proofs.Descents.LevelsBelow.{Room, links-two, level-fits}
use Rattle.fill.proofs.Lowered.TrialSizes.{trial_sizes}

-- the links of the next level fit a region
pub links-fit : (d k : ℕ) (parts : List (List ℕ)) → Room d parts → k ≡ length parts → 4 * k ≤ region_size
links-fit d k parts room count = omega (trial_sizes, room.next, mul-le-mul_left (length parts + length parts) (two-wide d))

module _ (d to k : ℕ) (parts : List (List ℕ)) (m m' : List ℕ) (long : Long (width (suc d) + width (suc d)) parts) (room : Room d parts)
    (count : k ≡ length parts) (place : to + region_size ≤ level_links_at) (big : work_size ≤ length m)
    (is : m' ≡ written (level_below d parts) to level_links_at m) where
  fits : Fit (width d + width d) (level_below d parts).parts
  fits = level-fits d parts long room

  few : length (flat (level_below d parts).parts) ≤ region_size
  few = fit-end (width d + width d) to level_links_at m place (omega trial_sizes) (level_below d parts).parts fits

  links-size : length (link_bytes (level_below d parts).links) ≤ region_size
  links-size =
      omega (trial_sizes, length-links (level_below d parts).links, links-two d parts, links-fit d k parts room count)

  abbrev entered : List ℕ
  entered = splice m to (flat (level_below d parts).parts)

  length-entered : length entered ≡ length m
  length-entered = length-splice m to (flat (level_below d parts).parts) (omega (trial_sizes, few))

  pub level-held : parts_at d (length (level_below d parts).parts) to m' ≡ (level_below d parts).parts
  unfolding written
  level-held =
      let l = level_below d parts in
      ap (λ (y : List ℕ). parts_at d (length l.parts) to y) is
      ∙ parts-under (width d + width d) to level_links_at m place (omega trial_sizes) l.parts (link_bytes l.links) fits

  pub level-front : links_at ≤ to → take links_at m' ≡ take links_at m
  level-front h =
      ap (take links_at) is
      ∙ outside (width d + width d) to level_links_at m place (omega trial_sizes) (level_below d parts) fits 0 links_at (omega trial_sizes)
      (inl (omega trial_sizes))

  pub level-behind : drop trials_size m' ≡ drop trials_size m
  unfolding written
  level-behind =
      let l = level_below d parts in
      ap (drop trials_size) is
      ∙ drop-behind entered level_links_at (link_bytes l.links) (omega (trial_sizes, length-entered)) trials_size
      (omega (trial_sizes, links-size))
      ∙ drop-behind m to (flat l.parts) (omega trial_sizes) trials_size (omega (trial_sizes, few))

  pub level-pairs : differing_pairs m' level_links_at k ≡ differing (level_below d parts).links
  unfolding written
  level-pairs =
      let l = level_below d parts in
      let x = link_bytes l.links in
      pairs-links m' level_links_at k l.links (drop (level_links_at + length x) entered) (links-two d parts ∙ rw count)
      (below-under d parts long room) (ap (drop level_links_at) is ∙ drop_here entered level_links_at x (omega (trial_sizes, length-entered)))
