-- The trials of a held table, one level after the other: the variable stands at level p, the entries of the levels above it are kept, and
-- d variables are left. What is counted is what each moved order's filling afresh has (law `lowered-afresh`).
-- Assumes nothing.
use mathlib.Core.Path.{◌≡◌, refl, sym, ap, ap₂, ◌∙◌, subst}
use mathlib.Core.Bool.{true, cond, not}
use mathlib.Core.List.{List, [], ◌∷◌, ◌++◌, map, map-id, map-map, append_assoc}
use mathlib.Core.Logic.{inl}
use Prim.Native.Nat.{ℕ, suc, ◌+◌, ◌*◌, ◌-◌, ◌≤◌, ◌<◌}
use native.Mathlib.Nat.{add-zero}
use native.Mathlib.Numerals.{add-one}
use lib.Dec.{T, eqb}
use lib.ListN.{length, get_or, set, take, drop, length-append}
use lib.Seq.{drop-drop, get_or-drop}
use Rattle.lists.specs.Written.{splice}
use Rattle.lists.proofs.Numbers.UpTo.{get_or-map-up_to}
use Rattle.lists.proofs.Written.Splice.{drop-take}
use Rattle.diagram.specs.Networks.Bound.{most_variables}
use Rattle.diagram.specs.Tree.{Tree}
use Rattle.diagram.specs.Filling.Fill.{Row, level}
use Rattle.diagram.specs.Networks.Network.{counts}
use Rattle.diagram.specs.Orders.Order.{moved}
use Rattle.diagram.specs.Table.{filled}
use Rattle.diagram.specs.Networks.Trace.{differing}
use Rattle.diagram.proofs.Orders.LoweredCounts.{lowered_next, lowered_counts, lowered-suc}
use Rattle.diagram.proofs.Orders.LoweredOrder.{lowered-afresh}
use Rattle.table.specs.declared.State.{State}
use Rattle.table.specs.State.{order_of, stage_of, is_nothing}
use Rattle.table.proofs.Held.{few-inputs, ordered}
use Rattle.reorder.specs.Sizes.{width}
use Rattle.matching.specs.Links.{region_size}
use Rattle.fill.specs.Work.{work_size, links_at, trials_size}
use Rattle.fill.specs.Calls.{held_table, drawn_outputs, per_level, trial_counts, tried_counts}
use Rattle.matching.specs.Parts.{LevelParts, chunks}
use Rattle.matching.specs.Level.{parts_at}
use Rattle.fill.specs.Inner.Descent.{links_below, roomy}
use Rattle.fill.specs.Inner.Lowering.{first_parts, lowered_below, counts_from}
use Rattle.fill.proofs.Buffers.HeldParts.{Region, region-end, region-other}
use Rattle.matching.proofs.Buffers.PartLengths.{chunks-take}
use Rattle.fill.proofs.Calls.Filling.{counts-traced}
use Rattle.fill.proofs.Calls.HeldFilling.{few}
use Rattle.fill.proofs.Counting.PerLevel.{per-level-more, per-level-take}
use Rattle.fill.proofs.Descents.LevelsBelow.{room-first}
use Rattle.fill.proofs.Descents.TreeDescent.{parts_of}
use Rattle.matching.proofs.Linking.TreeLevel.{level_part}
use Rattle.fill.proofs.Lowered.FirstKept.{first_rows}
use Rattle.fill.proofs.Lowered.LoweredTrees.{rows-lowered, lowered-bytes, lowered-top}
use Rattle.fill.proofs.Lowered.TrialSizes.{trial_sizes}
use Rattle.fill.proofs.Room.RegionRoom.{Rows, roomy-filled}

-- p levels are above the kept entries, which are the entries fs; `work` and `found` are the work buffer and the lent counts before the
-- trials
pub record Trial (s : State) (except : ℕ) (values care found work : List ℕ) (d p from k : ℕ) (above m tried : List ℕ) : Type 0 where
  pub fs : List (Tree Row d)
  pub passed : List ℕ
  pub rows : Rows fs
  pub region : Region from
  pub count : k ≡ length (parts_of fs)
  pub held : parts_at d k from m ≡ parts_of fs
  pub level : length passed ≡ p
  pub levels : p + d ≡ s.n
  pub recorded : above ≡ per_level passed
  pub rest : map (λ r. passed ++ r) (lowered_counts d fs) ≡ drop p (lowered_counts s.n (drawn_outputs s values care))
  pub so_far : tried ≡ tried_counts s except values care found p
  pub behind : drop trials_size m ≡ drop trials_size work
  pub same : length m ≡ length work
  pub found-same : length tried ≡ length found

-- the first regions hold the same parts as before
kept_same : (d k from : ℕ) (m m' : List ℕ) → from + k * (width d + width d) ≤ links_at → take links_at m' ≡ take links_at m
    → parts_at d k from m' ≡ parts_at d k from m
kept_same d k from m m' h e =
    let w = width d + width d in
    let n : from + (links_at - from) ≡ links_at = omega trial_sizes in
    let at : (l : List ℕ) → chunks w k (drop from (take links_at l)) ≡ parts_at d k from l = λ l.
    ap (λ (y : ℕ). chunks w k (drop from (take y l))) (sym n)
    ∙ ap (chunks w k) (drop-take from (links_at - from) l)
    ∙ chunks-take w k (links_at - from) (drop from l) (omega trial_sizes) in
    sym (at m') ∙ ap (λ (l : List ℕ). chunks w k (drop from l)) e ∙ at m

module _ (s : State) (except : ℕ) (values care found work : List ℕ) (valid : T (not (is_nothing (stage_of s))))
    (big : work_size ≤ length work) where
  pub trial-first : (from k : ℕ) (above : List ℕ) → from ≡ 0 → k ≡ length (first_parts s values care) → above ≡ per_level []
      → parts_at s.n k 0 work ≡ first_parts s values care → Trial s except values care found work s.n 0 from k above work found
  unfolding tried_counts
  trial-first from k above front many none held =
      record {
        fs = drawn_outputs s values care;
        passed = [];
        rows = first_rows (drawn_outputs s values care) (few-inputs s valid) (few s values care valid);
        region = inl front;
        count = many;
        held = ap (λ (at : ℕ). parts_at s.n k at work) front ∙ held;
        level = refl;
        levels = omega trial_sizes;
        recorded = none;
        rest = map-id (lowered_counts s.n (drawn_outputs s values care));
        so_far = refl;
        behind = refl;
        same = refl;
        found-same = refl;
      }

  module _ (d p from k : ℕ) (above m tried : List ℕ) (some : 1 ≤ d)
      (t : Trial s except values care found work d p from k above m tried) where
    above-is : take p above ≡ t.passed
    above-is = ap (take p) t.recorded ∙ per-level-take t.passed p t.level (omega (trial_sizes, t.levels, few-inputs s valid))

    roomy-held : T (roomy d (parts_at d k from m))
    roomy-held = subst (λ (ps : List (List ℕ)). T (roomy d ps)) (sym t.held) (roomy-filled d t.fs t.rows)

    -- what the trial asks
    pub trial-asks : ((p + d ≤ most_variables) × (p < most_variables) × (above ≡ per_level (take p above)))
        × T (roomy d (parts_at d k from m))
    trial-asks = (
      (
        omega (trial_sizes, t.levels, few-inputs s valid),
        omega (trial_sizes, t.levels, few-inputs s valid),
        t.recorded ∙ ap per_level (sym above-is),
      ),
      roomy-held,
    )

    -- the cells of each level, with the variable at level p
    counted : t.passed ++ map differing (links_below d (parts_of t.fs))
        ≡ counts true s.n (filled true (held_table s values care) (moved (get_or (order_of s) 0 0) p (order_of s)))
    counted =
        let all = lowered_counts s.n (drawn_outputs s values care) in
        let order = order_of s in
        let (lower, top) = lowered-top d some t.fs in
        ap (λ (l : List ℕ). t.passed ++ l) (sym (counts-traced d t.fs))
        ∙ ap (λ (l : List (List ℕ)). get_or (map (λ r. t.passed ++ r) l) 0 []) (sym top)
        ∙ ap (λ (l : List (List ℕ)). get_or l 0 []) t.rest
        ∙ get_or-drop p all 0 []
        ∙ ap (λ (j : ℕ). get_or all j []) (add-zero p)
        ∙ ap (λ (l : List (List ℕ)). get_or l p []) (lowered-afresh (held_table s values care) order (ordered s valid))
        ∙ get_or-map-up_to (λ q. counts true s.n (filled true (held_table s values care) (moved (get_or order 0 0) q order))) s.n p []
        (omega (trial_sizes, t.levels))

    -- what it leaves in the lent counts
    pub trial-counted : (tried' : List ℕ)
        → tried'
        ≡ cond (eqb p except) tried (splice tried (most_variables * p) (counts_from p d above (parts_at d k from m)))
        → tried' ≡ tried_counts s except values care found (p + 1)
    unfolding tried_counts
    trial-counted tried' e =
        let levels : counts_from p d above (parts_at d k from m) ≡ trial_counts s values care p =
        ap per_level
        (ap₂ (λ (x : List ℕ) (ps : List (List ℕ)). x ++ map differing (links_below d ps)) above-is t.held ∙ counted) in
        e
        ∙ ap₂ (λ (x y : List ℕ). cond (eqb p except) x (splice x (most_variables * p) y)) t.so_far levels
        ∙ ap (tried_counts s except values care found) (sym (add-one p))

  -- the variable goes one level down: m and `tried` after the trial
  module _ (d p from k : ℕ) (above m₀ tried₀ : List ℕ)
      (t : Trial s except values care found work (suc (suc d)) p from k above m₀ tried₀) (m tried : List ℕ)
      (front : take links_at m ≡ take links_at m₀) (past : drop trials_size m ≡ drop trials_size m₀) (size : length m ≡ length m₀)
      (found-size : length tried ≡ length tried₀)
      (is : tried ≡ tried_counts s except values care found (p + 1)) where
    still : parts_at (suc (suc d)) k from m ≡ parts_of t.fs
    still =
        let w = width (suc (suc d)) + width (suc (suc d)) in
        let c = t.count in
        let room = room-first (suc (suc d)) (parts_of t.fs) (roomy-filled (suc (suc d)) t.fs t.rows) in
        let fits : k * w ≤ region_size = subst (λ (n : ℕ). n * w ≤ region_size) (sym c) room in
        kept_same (suc (suc d)) k from m₀ m (omega (trial_sizes, region-end from t.region)) front ∙ t.held

    abbrev next : List (Tree Row (suc d))
    next = lowered_next t.fs

    lowered-still : lowered_below d (parts_at (suc (suc d)) k from m) ≡ level_part (level true [] next)
    lowered-still = ap (lowered_below d) still ∙ lowered-bytes t.fs

    next-rows : Rows next
    next-rows = rows-lowered t.fs t.rows

    pub lower-asks : ((d + 2 ≤ most_variables) × (p < most_variables))
        × (T (roomy (suc (suc d)) (parts_at (suc (suc d)) k from m))
        × T (roomy (suc d) (lowered_below d (parts_at (suc (suc d)) k from m)).parts))
    lower-asks = (
      (omega (trial_sizes, t.levels, few-inputs s valid), omega (trial_sizes, t.levels, few-inputs s valid)),
      (
        subst (λ (ps : List (List ℕ)). T (roomy (suc (suc d)) ps)) (sym still) (roomy-filled (suc (suc d)) t.fs t.rows),
        subst (λ (l : LevelParts). T (roomy (suc d) l.parts)) (sym lowered-still) (roomy-filled (suc d) next next-rows),
      ),
    )

    abbrev cells : ℕ
    cells = differing (level true [] next).links

    next-rest : map (λ r. (t.passed ++ (cells ∷ [])) ++ r) (lowered_counts (suc d) next)
        ≡ drop (p + 1) (lowered_counts s.n (drawn_outputs s values care))
    next-rest =
        let all = lowered_counts s.n (drawn_outputs s values care) in
        let lower = lowered_counts (suc d) next in
        let under : List ℕ → List ℕ = λ r. t.passed ++ r in
        ap (λ (f : List ℕ → List ℕ). map f lower) (λ i r. append_assoc t.passed (cells ∷ []) r i)
        ∙ sym (map-map under (λ r. cells ∷ r) lower)
        ∙ ap (λ (l : List (List ℕ)). drop 1 (map under l)) (sym (lowered-suc d t.fs))
        ∙ ap (drop 1) t.rest ∙ drop-drop 1 p all

    pub trial-next : (from' k' : ℕ) (above' m' : List ℕ) → from' ≡ region_size - from
        → k' ≡ length (lowered_below d (parts_at (suc (suc d)) k from m)).parts
        → above' ≡ set above p (differing (lowered_below d (parts_at (suc (suc d)) k from m)).links)
        → parts_at (suc d) k' from' m' ≡ (lowered_below d (parts_at (suc (suc d)) k from m)).parts
        → drop trials_size m' ≡ drop trials_size m → length m' ≡ length m
        → Trial s except values care found work (suc d) (p + 1) from' k' above' m' tried
    trial-next from' k' above' m' other many counted_is held past' size' =
        record {
          fs = next;
          passed = t.passed ++ (cells ∷ []);
          rows = next-rows;
          region = subst Region (sym other) (region-other from t.region);
          count = many ∙ ap (λ (l : LevelParts). length l.parts) lowered-still;
          held = held ∙ ap (λ (l : LevelParts). l.parts) lowered-still;
          level = length-append t.passed (cells ∷ []) ∙ ap (λ (j : ℕ). j + 1) t.level;
          levels = omega (trial_sizes, t.levels);
          recorded =
              counted_is
              ∙ ap (λ (l : LevelParts). set above p (differing l.links)) lowered-still
              ∙ per-level-more t.passed cells p above (sym t.level) (omega (trial_sizes, t.level, t.levels, few-inputs s valid))
              t.recorded;
          rest = next-rest;
          so_far = is;
          behind = past' ∙ past ∙ t.behind;
          same = size' ∙ size ∙ t.same;
          found-same = found-size ∙ t.found-same;
        }
