-- The levels read with what the filling answered and left: that they may be, and what comes of it.
-- Assumes nothing.
use mathlib.Core.Path.{◌≡◌, sym, ap, ◌∙◌, subst}
use mathlib.Core.Bool.{not}
use mathlib.Core.List.{List, ◌++◌}
use Prim.Native.Nat.{ℕ, ◌+◌, ◌*◌, ◌-◌, ◌≤◌, ◌<◌}
use native.Mathlib.Omega.{arith}
use lib.Dec.{T}
use lib.ListN.{length, get_or, drop}
use Rattle.lists.specs.Sums.{sum_below}
use Rattle.lists.specs.Written.{over}
use Rattle.diagram.specs.Table.{Table}
use Rattle.table.specs.declared.State.{State}
use Rattle.table.specs.State.{order_of, stage_of, is_nothing}
use Rattle.table.proofs.Held.{few-inputs, few-outputs}
use Rattle.fill.specs.Work.{work_size, links_at, all_links, trace_work, zero_work, cleared_work}
use Rattle.fill.specs.Calls.{held_table, drawn_outputs}
use Rattle.fill.proofs.Room.LinksRoom.{links_limit}
use Rattle.fill.proofs.Counting.LinkPairs.{Links}
use Rattle.lent.specs.Lent.{numbers_of, roots_size}
use Rattle.network.specs.Build.{held_network, wanted}
use Rattle.network.specs.Levels.{stored_limit, Made, made, level_at, levels_made, root_at}
use Rattle.network.proofs.LinksRead.LevelsRead.{Sized}
use Rattle.network.proofs.Building.HeldRead.{held_links, held_levels, held_entries, held_counts, room, few-wanted, held-sized}
use Rattle.network.proofs.LinksRead.TraceRead.{read-end, read-total, read_next, read-cells, read-work, read-roots}
use Rattle.network.proofs.LinksRead.TraceSized.{trace-valid}
use Rattle.network.proofs.LinksRead.WorkLinks.{trace-links, trace-long, trace-past, clear_zero}

module _ (s : State) (values care : List ℕ) (held : T (not (is_nothing (stage_of s)))) (work : List ℕ) where
  abbrev t : Table
  t = held_table s values care

  module _ (work' : List ℕ) (ew : work' ≡ trace_work (held_links s values care) work) where
    links-there : Links work' links_at (all_links (held_links s values care))
    links-there =
        subst (λ (w : List ℕ). Links w links_at (all_links (held_links s values care))) (sym ew)
        (trace-links (held_links s values care) work (room s values care held)
        (trace-valid s.n links_limit (drawn_outputs s values care) (room s values care held)))

    links-long : work_size ≤ length work'
    links-long = omega (arith, ap length ew, trace-long (held_links s values care) work (room s values care held))

    links-past : drop work_size work' ≡ drop work_size work
    links-past = ap (drop work_size) ew ∙ trace-past (held_links s values care) work (room s values care held)

    -- the links cleared at once
    pub links-cleared : cleared_work work' ≡ zero_work work
    links-cleared = clear_zero work' work links-long links-past

  module _ (cells entries counts work' : List ℕ) (total : ℕ) (ee : entries ≡ held_entries s values care)
      (ec : counts ≡ held_counts s values care)
      (ew : work' ≡ trace_work (held_links s values care) work) (et : total ≡ wanted s values care) where
    sized : Sized s.m entries counts 0 (held_levels s values care)
    sized =
        subst (λ (x : List ℕ). Sized s.m x counts 0 (held_levels s values care)) (sym ee)
        (subst (λ (y : List ℕ). Sized s.m (held_entries s values care) y 0 (held_levels s values care)) (sym ec)
        (held-sized s values care held))

    pub ready-end : level_at s.m entries s.n ≤ work_size
    ready-end = read-end t (order_of s) (few-inputs s held) (few-outputs s held) entries counts sized

    pub ready-long : level_at s.m entries s.n ≤ length work'
    ready-long = omega (arith, ready-end, links-long work' ew)

    pub ready-total : total ≡ sum_below (λ q. get_or counts q 0) s.n
    unfolding wanted
    ready-total = et ∙ sym (read-total t (order_of s) (few-inputs s held) (few-outputs s held) entries counts sized)

    pub ready-few : 2 * total + 1 < stored_limit
    ready-few = omega (arith, et, few-wanted s values care held)

    pub ready-next : (q : ℕ) → q < s.n → (levels_made s.m entries counts q (s.n - q) (made work' cells 0)).next ≤ total
    unfolding wanted
    ready-next q h =
        subst (λ x. (levels_made s.m entries counts q (s.n - q) (made work' cells 0)).next ≤ x) (sym et)
        (read_next t (order_of s) (few-inputs s held) (few-outputs s held) entries counts sized work' work cells (links-there work' ew)
        (links-long work' ew) (links-past work' ew) q h)

    abbrev laid : Made
    laid = levels_made s.m entries counts 0 s.n (made work' cells 0)

    pub laid-work : cleared_work laid.work ≡ zero_work work
    laid-work =
        read-work t (order_of s) (few-inputs s held) (few-outputs s held) entries counts sized work' work cells (links-there work' ew)
        (links-long work' ew) (links-past work' ew)

    pub laid_cells : 3 * total ≤ length cells
        → laid.cells ≡ numbers_of (held_network s values care).nodes ++ drop (3 * wanted s values care) cells
    unfolding wanted held_network
    laid_cells h =
        read-cells t (order_of s) (few-inputs s held) (few-outputs s held) entries counts sized work' work cells (links-there work' ew)
        (links-long work' ew) (links-past work' ew) (omega (arith, et))

    pub laid-roots : (roots : List ℕ) → over (root_at laid.work s.m (level_at s.m entries 0)) roots_size roots
        ≡ over (λ j. get_or (held_network s values care).roots j 0) roots_size roots
    unfolding held_network
    laid-roots roots =
        read-roots t (order_of s) (few-inputs s held) (few-outputs s held) entries counts sized work' work cells (links-there work' ew)
        (links-long work' ew) (links-past work' ew) roots
