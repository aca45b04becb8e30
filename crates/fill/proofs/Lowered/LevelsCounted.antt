-- The levels below kept entries, counted one after the other: from level p on, where d variables are left, the entries of each level lie
-- in two regions in turn.
-- Assumes nothing.
use mathlib.Core.Path.{◌≡◌, refl, sym, ap, ◌∙◌, subst}
use mathlib.Core.List.{List, [], ◌∷◌, ◌++◌, map, append_assoc, append-nil}
use mathlib.Core.Logic.{◌⊎◌, inl, inr, ⊎_elim}
use Prim.Native.Nat.{ℕ, suc, ◌+◌, ◌*◌, ◌-◌, ◌≤◌}
use lib.Dec.{T}
use lib.ListN.{length, set, take, drop, length-append, length-drop}
use lib.Seq.{length-take-le}
use Rattle.diagram.specs.Networks.Bound.{most_variables}
use Rattle.diagram.specs.Filling.Fill.{Link}
use Rattle.diagram.specs.Networks.Trace.{differing}
use Rattle.reorder.specs.Sizes.{width}
use Rattle.matching.specs.Links.{region_size}
use Rattle.matching.specs.Fits.{level_fits}
use Rattle.matching.proofs.Buffers.Fitting.{level-says}
use Rattle.lists.proofs.Bools.{to-T}
use Rattle.fill.specs.Work.{work_size, links_at, trials_size}
use Rattle.fill.specs.Calls.{per_level}
use Rattle.matching.specs.Level.{parts_at, written}
use Rattle.fill.specs.Inner.Descent.{level_below, links_below, roomy}
use Rattle.fill.specs.Counts.{differing_pairs}
use Rattle.fill.specs.Inner.Lowering.{level_links_at, counts_from}
use Rattle.matching.proofs.Buffers.Chunks.{length-chunks}
use Rattle.matching.proofs.Buffers.PartLengths.{Long, long-chunks}
use Rattle.fill.proofs.Counting.PerLevel.{per-level-more}
use Rattle.fill.proofs.Descents.LevelsBelow.{links-suc, Room, room-suc, room-first, level-fits}
use Rattle.fill.proofs.Lowered.TrialSizes.{trial_sizes}
use Rattle.fill.proofs.Lowered.CountedLevel.{links-fit, level-held, level-front, level-behind, level-pairs}

-- one of the two regions on the way down
abbrev pub Down : ℕ → Type 0
Down to = (to ≡ 2 * region_size) ⊎ (to ≡ 3 * region_size)

-- where e variables are left, at level l: k entries lie at a, the next ones go to `to`, m is the work buffer, and `counts` has the cells
-- of the levels before
pub record Counted (p d : ℕ) (above : List ℕ) (all : List (List ℕ)) (work : List ℕ) (e l a to k : ℕ) (m counts : List ℕ) : Type 0 where
  pub parts : List (List ℕ)
  pub passed : List ℕ
  pub long : Long (width e + width e) parts
  pub count : k ≡ length parts
  pub held : parts_at e k a m ≡ parts
  pub room : T (roomy e parts)
  pub place : a + region_size ≤ level_links_at
  pub next : Down to
  pub apart : (a + region_size ≤ to) ⊎ (to + region_size ≤ a)
  pub all-counts : passed ++ map differing (links_below e parts) ≡ take p above ++ map differing (links_below d all)
  pub level : length passed ≡ l
  pub levels : l + e ≡ p + d
  pub recorded : counts ≡ per_level passed
  pub front : take links_at m ≡ take links_at work
  pub behind : drop trials_size m ≡ drop trials_size work
  pub same : length m ≡ length work

pub down-place : (to : ℕ) → Down to → (links_at ≤ to) × (to + region_size ≤ level_links_at)
down-place to r =
    ⊎_elim (λ (e : to ≡ 2 * region_size). (omega trial_sizes, omega trial_sizes))
    (λ (e : to ≡ 3 * region_size). (omega trial_sizes, omega trial_sizes)) r

down-other : (to : ℕ) → Down to → Down (5 * region_size - to)
down-other to r =
    ⊎_elim (λ (e : to ≡ 2 * region_size). inr (omega trial_sizes)) (λ (e : to ≡ 3 * region_size). inl (omega trial_sizes)) r

down-apart : (to : ℕ) → Down to → (to + region_size ≤ 5 * region_size - to) ⊎ ((5 * region_size - to) + region_size ≤ to)
down-apart to r =
    ⊎_elim (λ (e : to ≡ 2 * region_size). inl (omega trial_sizes)) (λ (e : to ≡ 3 * region_size). inr (omega trial_sizes)) r

module _ (p d : ℕ) (above work : List ℕ) (big : work_size ≤ length work) where
  pub counted-first : (from count : ℕ) → p ≤ most_variables → above ≡ per_level (take p above) → from + region_size ≤ links_at
      → T (roomy d (parts_at d count from work))
      → Counted p d above (parts_at d count from work) work d p from (2 * region_size) count work above
  counted-first from count small recorded place room =
      let w = width d in
      let all = parts_at d count from work in
      let n : length all ≡ count = length-chunks (w + w) count (drop from work) in
      let r = room-first d all room in
      let i : count * (w + w) ≤ region_size = subst (λ (y : ℕ). y * (w + w) ≤ region_size) n r in
      record {
        parts = all;
        passed = take p above;
        long = long-chunks (w + w) count (drop from work) (omega (trial_sizes, length-drop from work));
        count = sym n;
        held = refl;
        room = room;
        place = omega trial_sizes;
        next = inl refl;
        apart = inl (omega trial_sizes);
        all-counts = refl;
        level = length-take-le p above (omega (trial_sizes, ap length recorded));
        levels = refl;
        recorded = recorded;
        front = refl;
        behind = refl;
        same = refl;
      }

  module _ (all : List (List ℕ)) where
    -- no variable is left
    pub counted-last : (l a to k : ℕ) (m counts : List ℕ) → Counted p d above all work 0 l a to k m counts
        → counts ≡ counts_from p d above all
    unfolding links_below
    counted-last l a to k m counts g = g.recorded ∙ ap per_level (sym (append-nil g.passed) ∙ g.all-counts)

    module _ (e l a to k : ℕ) (m counts : List ℕ) (g : Counted p d above all work (suc e) l a to k m counts) where
      below : Room e g.parts
      below = room-suc e g.parts g.room

      pub counted-few : 4 * k ≤ region_size
      counted-few = links-fit e k g.parts below g.count

      -- what the level asks
      pub counted-asks : p + d ≤ most_variables → T (level_fits e a k to level_links_at (length m))
      counted-asks small =
          let c = g.count in
          let down = down-place to g.next in
          to-T ((level-says e a k to level_links_at (length m)).met (
            omega (trial_sizes, g.levels),
            (
              g.apart,
              (
                (g.place, down.1, omega (trial_sizes, counted-few, g.same)),
                ((rw c below.here, rw c below.next), (omega (trial_sizes, g.place, g.same), omega (trial_sizes, down.1, g.same))),
              ),
            ),
          ))

      -- its links lie in the work buffer
      pub counted-links : level_links_at + 4 * k ≤ length m
      counted-links = omega (trial_sizes, counted-few, g.same)

      pub counted-on : (r x : ℕ) (m' counts' : List ℕ) → p + d ≤ most_variables → length m' ≡ length m
          → r ≡ length (level_below e (parts_at (suc e) k a m)).parts
          → m' ≡ written (level_below e (parts_at (suc e) k a m)) to level_links_at m
          → x ≡ differing_pairs m' level_links_at k → counts' ≡ set counts l x
          → Counted p d above all work e (l + 1) to (5 * region_size - to) r m' counts'
      counted-on r x m' counts' small same many is pairs set_is =
          let ps = g.parts in
          let next = level_below e ps in
          let place = down-place to g.next in
          let in-work : work_size ≤ length m = omega (trial_sizes, g.same) in
          let is' : m' ≡ written next to level_links_at m =
          is ∙ ap (λ (y : List (List ℕ)). written (level_below e y) to level_links_at m) g.held in
          let many' : r ≡ length next.parts = many ∙ ap (λ (y : List (List ℕ)). length (level_below e y).parts) g.held in
          let x-is : x ≡ differing next.links =
          pairs ∙ level-pairs e to k ps m m' g.long below g.count place.1 in-work is' in
          record {
            parts = next.parts;
            passed = g.passed ++ (x ∷ []);
            long = (level-fits e ps g.long below).0;
            count = many';
            held =
                ap (λ (j : ℕ). parts_at e j to m') many'
                ∙ level-held e to k ps m m' g.long below g.count place.1 in-work is';
            room = below.below;
            place = place.1;
            next = down-other to g.next;
            apart = down-apart to g.next;
            all-counts =
                append_assoc g.passed (x ∷ []) (map differing (links_below e next.parts))
                ∙ ap (λ (y : ℕ). g.passed ++ (y ∷ map differing (links_below e next.parts))) x-is
                ∙ ap (λ (y : List (List Link)). g.passed ++ map differing y) (sym (links-suc e ps)) ∙ g.all-counts;
            level = length-append g.passed (x ∷ []) ∙ ap (λ (y : ℕ). y + 1) g.level;
            levels = omega (trial_sizes, g.levels);
            recorded =
                set_is
                ∙ per-level-more g.passed x l counts (sym g.level) (omega (trial_sizes, g.levels, g.level)) g.recorded;
            front = level-front e to k ps m m' g.long below g.count place.1 in-work is' place.0 ∙ g.front;
            behind = level-behind e to k ps m m' g.long below g.count place.1 in-work is' ∙ g.behind;
            same = same ∙ g.same;
          }
