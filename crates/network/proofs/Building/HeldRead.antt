-- The levels of a held table, as the filling counts them: they are those of its links, and the network's nodes are few.
-- Assumes nothing.
use mathlib.Core.Path.{◌≡◌, sym, ap, ◌∙◌}
use mathlib.Core.Bool.{true, not}
use mathlib.Core.List.{List, []}
use Prim.Native.Nat.{ℕ, ◌*◌, ◌≤◌}
use native.Mathlib.Nat.{zero-add}
use native.Mathlib.Omega.{arith}
use lib.Dec.{T}
use lib.ListN.{length, get_or}
use Rattle.lists.proofs.Lists.Membership.{get_d_map}
use Rattle.diagram.specs.Filling.Fill.{Link}
use Rattle.diagram.specs.Networks.Network.{counts}
use Rattle.diagram.specs.Table.{filled, cost}
use Rattle.diagram.specs.Networks.Bound.{most_nodes}
use Rattle.diagram.specs.Networks.Trace.{differing}
use Rattle.diagram.proofs.Networks.Bound.{few-cost}
use Rattle.diagram.proofs.Networks.Count.{cost-nodes}
use Rattle.table.specs.declared.State.{State}
use Rattle.table.specs.State.{order_of, stage_of, is_nothing}
use Rattle.table.proofs.Held.{few-inputs, few-outputs}
use Rattle.fill.specs.Work.{all_links}
use Rattle.fill.specs.Calls.{held_table, drawn_outputs, entry_counts, per_level}
use Rattle.fill.proofs.Room.LinksRoom.{links_limit}
use Rattle.fill.proofs.Counting.PerLevel.{per-level-at}
use Rattle.network.specs.Build.{held_network, wanted}
use Rattle.network.proofs.LinksRead.LevelsRead.{Sized}
use Rattle.network.proofs.LinksRead.TraceRead.{kss, lss, counts-traced, trace-room}
use Rattle.network.proofs.LinksRead.TraceSized.{lower-length, trace-sized, entries-half}

module _ (s : State) (values care : List ℕ) where
  -- the links of the filling, and those of the levels alone

  abbrev pub held_links : List (List Link)
  held_links = kss (held_table s values care) (order_of s)

  abbrev pub held_levels : List (List Link)
  held_levels = lss (held_table s values care) (order_of s)

  -- what the filling answers of the levels

  abbrev pub held_entries : List ℕ
  held_entries = per_level (entry_counts s.n (drawn_outputs s values care))

  abbrev pub held_counts : List ℕ
  held_counts = per_level (counts true s.n (filled true (held_table s values care) (order_of s)))

  pub wanted-nodes : wanted s values care ≡ length (held_network s values care).nodes
  unfolding wanted held_network
  wanted-nodes = cost-nodes (held_table s values care) (order_of s)

  module _ (held : T (not (is_nothing (stage_of s)))) where
    pub room : length (all_links held_links) ≤ links_limit
    room = trace-room (held_table s values care) (order_of s) (few-inputs s held) (few-outputs s held)

    pub few-nodes : (order : List ℕ) → cost (held_table s values care) order ≤ most_nodes
    few-nodes order = few-cost (held_table s values care) order (few-inputs s held) (few-outputs s held)

    pub few-wanted : wanted s values care ≤ most_nodes
    unfolding wanted
    few-wanted = few-nodes (order_of s)

    pub held-sized : Sized s.m held_entries held_counts 0 held_levels
    held-sized =
        let fs = drawn_outputs s values care in
        trace-sized s.m held_entries held_counts s.n 0 fs
        (λ j h. ap (λ i. 2 * get_or held_entries i 0) (zero-add j)
        ∙ ap (λ x. 2 * x) (per-level-at (entry_counts s.n fs) j (omega (arith, few-inputs s held))) ∙ entries-half s.n fs j h)
        (λ j h. ap (λ i. get_or held_counts i 0) (zero-add j)
        ∙ per-level-at (counts true s.n (filled true (held_table s values care) (order_of s))) j (omega (arith, few-inputs s held))
        ∙ ap (λ (l : List ℕ). get_or l j 0) (sym (counts-traced (held_table s values care) (order_of s)))
        ∙ get_d_map differing held_levels j [] 0 (omega (arith, lower-length s.n fs)))
