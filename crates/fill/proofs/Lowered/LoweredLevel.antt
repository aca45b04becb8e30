-- The kept entries lowered: their two top variables are exchanged where they lie, at `from`, and the level below them goes to the other of
-- the two kept regions.
-- Assumes nothing.
use mathlib.Core.Path.{◌≡◌, sym, ap, ap₂, ◌∙◌, subst}
use mathlib.Core.List.{List, [], ◌∷◌, map}
use Prim.Native.Nat.{ℕ, suc, ◌+◌, ◌*◌, ◌-◌, ◌≤◌}
use native.Mathlib.Numerals.{add-one}
use lib.Dec.{T}
use lib.ListN.{length, take, drop, length-append, length-drop, length-map}
use lib.Seq.{length-take-le}
use Rattle.lists.specs.Written.{splice}
use Rattle.lists.proofs.Written.Windows.{drop_here, drop-behind}
use Rattle.diagram.specs.Networks.Trace.{differing}
use Rattle.reorder.specs.Sizes.{width}
use Rattle.matching.specs.Links.{region_size}
use Rattle.matching.specs.Fits.{level_fits, parts_fit}
use Rattle.matching.proofs.Buffers.Fitting.{level-says, parts-say}
use Rattle.lists.proofs.Bools.{to-T}
use Rattle.diagram.specs.Networks.Bound.{most_variables}
use Rattle.fill.specs.Work.{work_size, trials_size}
use Rattle.matching.specs.Parts.{LevelParts, chunks, flat}
use Rattle.matching.specs.Level.{parts_at, written}
use Rattle.fill.specs.Inner.Descent.{level_below, roomy}
use Rattle.fill.specs.Counts.{differing_pairs}
use Rattle.matching.specs.Exchange.{exchanged_plane, exchanged_part}
use Rattle.fill.specs.Inner.Lowering.{level_links_at, lowered_below}
use Rattle.matching.proofs.Parts.PartExchange.{length_exchanged}
use Rattle.matching.proofs.Buffers.Chunks.{length-chunks}
use Rattle.fill.proofs.Buffers.HeldParts.{Region, region-end, region-other, regions-apart}
use Rattle.matching.proofs.Buffers.PartLengths.{Long, long-chunks, length-flat, chunks-flat}
use Rattle.fill.proofs.Descents.LevelsBelow.{Room, room-suc, room-first}
use Rattle.fill.proofs.Lowered.TrialSizes.{trial_sizes}
use Rattle.fill.proofs.Lowered.CountedLevel.{links-fit, level-held, level-behind, level-pairs}

-- as long as before

length_part : (d : ℕ) (p : List ℕ) → length p ≡ width (suc (suc d)) + width (suc (suc d))
    → length (exchanged_part d p) ≡ width (suc (suc d)) + width (suc (suc d))
unfolding exchanged_part
length_part d p h =
    let w = width (suc (suc d)) in
    length-append (exchanged_plane d (take w p)) (exchanged_plane d (drop w p))
    ∙ ap₂ ◌+◌ (length_exchanged d (take w p) (length-take-le w p (omega trial_sizes)))
    (length_exchanged d (drop w p) (length-drop w p ∙ omega trial_sizes))

long-parts : (d : ℕ) (ps : List (List ℕ)) → Long (width (suc (suc d)) + width (suc (suc d))) ps
    → Long (width (suc (suc d)) + width (suc (suc d))) (map (exchanged_part d) ps)
long-parts d [] h = tt
long-parts d (p ∷ ps) h = (length_part d p h.0, long-parts d ps h.1)

-- d + 2 variables, k entries
module _ (d from k : ℕ) (work : List ℕ) (region : Region from) (big : work_size ≤ length work)
    (room : T (roomy (suc (suc d)) (parts_at (suc (suc d)) k from work)))
    (next-room : T (roomy (suc d) (lowered_below d (parts_at (suc (suc d)) k from work)).parts)) where
  abbrev kept : List (List ℕ)
  kept = parts_at (suc (suc d)) k from work

  abbrev exchanged : List (List ℕ)
  exchanged = map (exchanged_part d) kept

  abbrev s : ℕ
  s = width (suc (suc d)) + width (suc (suc d))

  kept-count : length kept ≡ k
  kept-count = length-chunks s k (drop from work)

  count : k ≡ length exchanged
  count = sym (length-map kept (exchanged_part d) ∙ kept-count)

  fits : k * s ≤ region_size
  fits = subst (λ (n : ℕ). n * s ≤ region_size) kept-count (room-first (suc (suc d)) kept room)

  long : Long s exchanged
  long = long-parts d kept (long-chunks s k (drop from work) (omega (trial_sizes, fits, length-drop from work, region-end from region)))

  below : Room (suc d) exchanged
  below =
      let r = room-suc (suc d) kept room in
      let e : length kept ≡ length exchanged = kept-count ∙ count in
      record {
        here = subst (λ (n : ℕ). n * s ≤ region_size) e r.here;
        next = subst (λ (n : ℕ). (n + n) * (width (suc d) + width (suc d)) ≤ region_size) e r.next;
        below = next-room;
      }

  flat-size : length (flat exchanged) ≡ k * s
  flat-size = length-flat s exchanged long ∙ ap (λ (n : ℕ). n * s) (sym count)

  inside : from + k * s ≤ length work
  inside = omega (trial_sizes, fits, region-end from region)

  -- what the exchange asks, and what it leaves
  pub exchange-asks : d + 2 ≤ most_variables → T (parts_fit d from k (length work))
  exchange-asks small = to-T ((parts-say d from k (length work)).met (small, inside))

  module _ (m : List ℕ) (is : m ≡ splice work from (flat exchanged)) (same : length m ≡ length work) where
    held : parts_at (suc (suc d)) k from m ≡ exchanged
    held =
        ap₂ (λ (j : ℕ) (y : List ℕ). parts_at (suc (suc d)) j from y) count is
        ∙ ap (λ (y : List ℕ). chunks s (length exchanged) y) (drop_here work from (flat exchanged) (omega (trial_sizes, inside)))
        ∙ chunks-flat s exchanged (drop (from + length (flat exchanged)) work) long

    -- its links lie in the work buffer
    pub level-links : level_links_at + 4 * k ≤ length m
    level-links = omega (trial_sizes, links-fit (suc d) k exchanged below count)

    -- what the level asks
    pub level-asks : d + 2 ≤ most_variables → T (level_fits (d + 1) from k (region_size - from) level_links_at (length m))
    level-asks small =
        let e = add-one d in
        let to = region_size - from in
        let h = subst (λ (n : ℕ). n * s ≤ region_size) (sym count) below.here in
        let n = subst (λ (n : ℕ). (n + n) * (width (suc d) + width (suc d)) ≤ region_size) (sym count) below.next in
        let here = region-end from region in
        let there = region-end to (region-other from region) in
        to-T ((level-says (d + 1) from k to level_links_at (length m)).met (
          omega trial_sizes,
          (
            regions-apart from region,
            (
              (omega (trial_sizes, here), omega (trial_sizes, there), level-links),
              (
                (
                  subst (λ (y : ℕ). k * (width (suc y) + width (suc y)) ≤ region_size) (sym e) h,
                  subst (λ (y : ℕ). (k + k) * (width y + width y) ≤ region_size) (sym e) n,
                ),
                (omega (trial_sizes, here), omega (trial_sizes, there)),
              ),
            ),
          ),
        ))

    pub lower-leaves : (r x : ℕ) (m' : List ℕ)
        → r ≡ length (level_below (d + 1) (parts_at (suc (d + 1)) k from m)).parts
        → m' ≡ written (level_below (d + 1) (parts_at (suc (d + 1)) k from m)) (region_size - from) level_links_at m
        → x ≡ differing_pairs m' level_links_at k
        → (r ≡ length (lowered_below d kept).parts) × (x ≡ differing (lowered_below d kept).links)
        × (parts_at (suc d) r (region_size - from) m' ≡ (lowered_below d kept).parts) × (drop trials_size m' ≡ drop trials_size work)
    lower-leaves r x m' many left pairs =
        let to = region_size - from in
        let place : to + region_size ≤ level_links_at = omega (trial_sizes, region-end to (region-other from region)) in
        let in-work : work_size ≤ length m = omega trial_sizes in
        let e : level_below (d + 1) (parts_at (suc (d + 1)) k from m) ≡ lowered_below d kept =
        ap (λ (y : ℕ). level_below y (parts_at (suc y) k from m)) (add-one d) ∙ ap (level_below (suc d)) held in
        let left' : m' ≡ written (lowered_below d kept) to level_links_at m =
        left ∙ ap (λ (l : LevelParts). written l to level_links_at m) e in
        let many' : r ≡ length (lowered_below d kept).parts = many ∙ ap (λ (l : LevelParts). length l.parts) e in (
          many',
          pairs ∙ level-pairs (suc d) to k exchanged m m' long below count place in-work left',
          ap (λ (j : ℕ). parts_at (suc d) j to m') many'
              ∙ level-held (suc d) to k exchanged m m' long below count place in-work left',
          level-behind (suc d) to k exchanged m m' long below count place in-work left'
              ∙ ap (drop trials_size) is
              ∙ drop-behind work from (flat exchanged) (omega (trial_sizes, inside)) trials_size
              (omega (trial_sizes, flat-size, fits, region-end from region)),
        )
