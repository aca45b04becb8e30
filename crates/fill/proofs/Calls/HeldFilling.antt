-- The filling of a held table, as the code goes through it: after level 0, after the way down, and after the cells are counted.
-- Assumes nothing.
use mathlib.Core.Path.{◌≡◌, sym, ap, ◌∙◌}
use mathlib.Core.Bool.{true, not}
use mathlib.Core.List.{List, [], ◌++◌, sum}
use Prim.Native.Nat.{ℕ, ◌+◌, ◌*◌, ◌≤◌}
use lib.Dec.{T}
use lib.ListN.{length, take, replicate}
use Rattle.lists.specs.Written.{splice}
use Rattle.lists.proofs.Numbers.UpTo.{length-map-up_to}
use Rattle.diagram.specs.Networks.Bound.{most_outputs, most_nodes}
use Rattle.diagram.specs.Filling.Fill.{level, trace}
use Rattle.diagram.specs.Networks.Network.{counts}
use Rattle.diagram.specs.Table.{reordered, filled, cost}
use Rattle.table.specs.declared.State.{State}
use Rattle.table.specs.State.{order_of, stage_of, is_nothing}
use Rattle.table.proofs.Held.{few-inputs, few-outputs}
use Rattle.matching.specs.Links.{link_bytes}
use Rattle.fill.specs.Work.{work_size, links_at, all_links, zero_work}
use Rattle.matching.specs.Level.{parts_at}
use Rattle.fill.specs.Calls.{held_table, drawn_outputs, per_level, filled_levels}
use Rattle.fill.specs.Inner.Descent.{links_below, counts_below, roomy, holding, links_up_to}
use Rattle.fill.specs.Counts.{counts_at, links_end}
use Rattle.fill.specs.Inner.Filling.{first_work, filled_work}
use Rattle.fill.proofs.Buffers.Sizes.{sizes}
use Rattle.fill.proofs.Buffers.HeldParts.{held-cleared, held-trace}
use Rattle.matching.proofs.Buffers.PartLengths.{length-links}
use Rattle.fill.proofs.Room.LinksRoom.{links_limit, links-room}
use Rattle.fill.proofs.Calls.Filling.{trace-size, descend-asks, entries-filled, left-filled, counts-ask, counts-filled, cells-filled}

module _ (s : State) (values care : List ℕ) (held : T (not (is_nothing (stage_of s)))) where
  outputs : length (drawn_outputs s values care) ≡ s.m
  outputs = length-map-up_to (reordered (held_table s values care) (order_of s)) s.m

  pub few : length (drawn_outputs s values care) ≤ most_outputs
  few = omega (sizes, outputs, few-outputs s held)

  -- the links are all that is left in it
  pub links-gone : (work : List ℕ) → work_size ≤ length work
      → splice (filled_work s values care work) links_at (replicate (2 * links_limit) 0) ≡ zero_work work
  unfolding filled_work
  links-gone work big =
      let fs = drawn_outputs s values care in
      let kss = trace true s.n fs in
      let size = trace-size fs (few-inputs s held) few in
      ap (λ (y : List ℕ). splice y links_at (replicate (2 * links_limit) 0)) (sym (held-trace work big kss size))
      ∙ held-cleared work big (link_bytes (all_links kss)) (2 * links_limit)
      (omega (sizes, length-links (all_links kss), links-room s.n fs (few-inputs s held) few)) (omega sizes)

  module _ (work : List ℕ) (big : work_size ≤ length work) (k : ℕ) (m : List ℕ)
      (many : k ≡ length (level true [] (drawn_outputs s values care)).entries) (is : m ≡ first_work s values care work) where
    ends : links_at + 2 * s.m ≡ links_at + 2 * length (drawn_outputs s values care)
    ends = omega (sizes, outputs)

    pub asks : (m ≡ holding 0 (parts_at s.n k 0 m) (links_up_to (links_at + 2 * s.m) m) m)
        × (T (roomy s.n (parts_at s.n k 0 m)) × (links_at + 2 * s.m + 2 * length (all_links (links_below s.n (parts_at s.n k 0 m)))
        ≤ work_size))
    unfolding first_work
    asks = descend-asks (drawn_outputs s values care) (few-inputs s held) few work big k (links_at + 2 * s.m) m many ends is

    module _ (entries m' : List ℕ) (entries-are : entries ≡ per_level (counts_below s.n (parts_at s.n k 0 m)))
        (left : m'
        ≡ holding 0 [] (links_up_to (links_at + 2 * s.m) m ++ link_bytes (all_links (links_below s.n (parts_at s.n k 0 m)))) m) where
      pub left-held : m' ≡ filled_work s values care work
      unfolding first_work filled_work
      left-held =
          left-filled (drawn_outputs s values care) (few-inputs s held) few work big k
          (links_at + 2 * s.m) m many ends is entries m' entries-are left

      pub counts-room : links_end (links_at + 2 * s.m) (take s.n entries) ≤ work_size
      unfolding first_work
      counts-room =
          counts-ask (drawn_outputs s values care) (few-inputs s held) few work big k
          (links_at + 2 * s.m) m many ends is entries m' entries-are left

      module _ (cs : List ℕ) (counted : cs ≡ per_level (counts_at m' (links_at + 2 * s.m) (take s.n entries))) where
        counts-held : cs ≡ per_level (counts true s.n (filled true (held_table s values care) (order_of s)))
        unfolding first_work filled
        counts-held =
            counts-filled (drawn_outputs s values care) (few-inputs s held) few work big k
            (links_at + 2 * s.m) m many ends is entries m' entries-are left
            cs counted

        cells : (sum ◌+◌ 0 cs ≡ cost (held_table s values care) (order_of s)) × (sum ◌+◌ 0 cs ≤ most_nodes)
        unfolding filled cost
        cells = cells-filled (drawn_outputs s values care) cs (few-inputs s held) few counts-held

        pub cells-room : sum ◌+◌ 0 cs ≤ most_nodes
        cells-room = cells.1

        pub levels-held : (n : ℕ) → n ≡ sum ◌+◌ 0 cs
            → record { cells = n; entries = entries; counts = cs } ≡ filled_levels s values care
        unfolding filled_levels first_work
        levels-held n e =
            let a : n ≡ cost (held_table s values care) (order_of s) = e ∙ cells.0 in
            let b = entries-filled (drawn_outputs s values care) (few-inputs s held) few work big k (links_at + 2 * s.m) m
            many ends is entries m' entries-are left in
            let c = counts-held in
            rw (a, b, c)
