-- The links of a table's filling, read level by level: the cells and roots that come of it are section 4's network, whatever buffer holds
-- the links and whoever counted the levels' entries and nodes.
-- Assumes nothing.
use mathlib.Core.Path.{◌≡◌, sym, ap, ◌∙◌, subst}
use mathlib.Core.Bool.{true}
use mathlib.Core.List.{List, [], ◌++◌, map}
use Prim.Native.Nat.{ℕ, ◌+◌, ◌*◌, ◌-◌, ◌≤◌, ◌<◌}
use native.Mathlib.Nat.{zero-add}
use native.Mathlib.Omega.{arith}
use borrow.Author.Tests.{ltb-true, ltb-false}
use lib.Dec.{ltb}
use lib.ListN.{length, get_or, drop, length-append, length-map, get_or-eq_default}
use lib.Seq.{sets, sets-eq}
use Rattle.lists.specs.Lists.{up_to}
use Rattle.lists.specs.Sums.{sum_below}
use Rattle.lists.specs.Written.{over}
use Rattle.lists.proofs.Bools.{split}
use Rattle.lists.proofs.Numbers.UpTo.{length-map-up_to, map-up_to-cong}
use Rattle.lists.proofs.Written.Outside.{Outside, past_same}
use Rattle.diagram.specs.Tree.{Tree}
use Rattle.diagram.specs.Filling.Fill.{Row, Link, trace}
use Rattle.diagram.specs.Networks.Diagram.{Node, Diagram}
use Rattle.diagram.specs.Networks.Network.{counts}
use Rattle.diagram.specs.Table.{Table, reordered, filled, network_of, cost}
use Rattle.diagram.specs.Networks.Bound.{most_variables, most_outputs}
use Rattle.diagram.specs.Networks.Trace.{differing, link_ref, traced_refs, traced_nodes, traced_network, traced_counts}
use Rattle.diagram.proofs.Filling.Fill.{links-length}
use Rattle.diagram.proofs.Filling.Levels.{links_of, lower, trace-lower}
use Rattle.diagram.proofs.Tracing.Rising.{AllValid}
use Rattle.diagram.proofs.Tracing.Traced.{traced, traced-counts}
use Rattle.diagram.proofs.Networks.Count.{cost-nodes}
use Rattle.fill.specs.Work.{work_size, links_at, all_links, zero_work, cleared_work}
use Rattle.fill.specs.Counts.{differing_pairs}
use Rattle.fill.proofs.Room.LinksRoom.{links_limit, links-room}
use Rattle.fill.proofs.Buffers.Sizes.{work-size, links-at}
use Rattle.fill.proofs.Counting.LinkPairs.{Links}
use Rattle.lent.specs.Lent.{numbers_of, roots_size}
use Rattle.network.specs.Levels.{Made, made, level_at, levels_made, root_at}
use Rattle.network.proofs.LinksRead.AnyLinks.{levels-outside, levels-counted}
use Rattle.network.proofs.LinksRead.LinkRefs.{links-kept, links-split, links-refs}
use Rattle.network.proofs.LinksRead.LevelsRead.{traced-length, Sized, LevelsRead, levels-read, sized-counts, sized-end, sized-nodes}
use Rattle.network.proofs.LinksRead.LevelsRead.{numbers-length}
use Rattle.network.proofs.LinksRead.LevelTurns.{levels-work}
use Rattle.network.proofs.LinksRead.Offsets.{first-at, sum_below-part}
use Rattle.network.proofs.LinksRead.RootTurns.{root-past, root-link}
use Rattle.network.proofs.LinksRead.TraceSized.{links-valid, lower-length}
use Rattle.network.proofs.LinksRead.WorkLinks.{clear_zero}

module _ (t : Table) (order : List ℕ) where
  -- the outputs under the order, their links, and those of the levels alone
  abbrev pub drawn : List (Tree Row t.n)
  drawn = map (reordered t order) (up_to t.m)

  abbrev pub kss : List (List Link)
  kss = trace true t.n drawn

  abbrev pub lss : List (List Link)
  lss = lower true t.n drawn

  drawn-length : length drawn ≡ t.m
  drawn-length = length-map-up_to (reordered t order) t.m

  outputs-length : length (links_of true drawn) ≡ t.m
  outputs-length = links-length true [] drawn ∙ drawn-length

  -- the network is the one that the links trace

  network-traced : network_of true t order ≡ traced_network true kss
  unfolding network_of filled
  network-traced = sym (traced true t.n drawn)

  network-nodes : (network_of true t order).nodes ≡ traced_nodes true 0 0 lss
  unfolding traced_network
  network-nodes = ap (λ (D : Diagram). D.nodes) (network-traced ∙ ap (traced_network true) (trace-lower true t.n drawn))

  network-roots : (network_of true t order).roots ≡ map (link_ref (traced_refs true 0 lss)) (links_of true drawn)
  unfolding traced_network
  network-roots = ap (λ (D : Diagram). D.roots) (network-traced ∙ ap (traced_network true) (trace-lower true t.n drawn))

  -- the links that differ, level by level, are the nodes
  pub counts-traced : map differing lss ≡ counts true t.n (filled true t order)
  unfolding traced_counts filled
  counts-traced = ap traced_counts (sym (trace-lower true t.n drawn)) ∙ traced-counts true t.n drawn

  -- where the links stand, those of the outputs come first
  module _ (w : List ℕ) (held : Links w links_at (all_links kss)) where
    links-all : Links w links_at (links_of true drawn ++ all_links lss)
    links-all = subst (λ (l : List (List Link)). Links w links_at (all_links l)) (trace-lower true t.n drawn) held

    links-outputs : Links w links_at (links_of true drawn)
    links-outputs = (links-split w links_at (links_of true drawn) (all_links lss) links-all).0

    pub links-levels : (entries : List ℕ) → Links w (level_at t.m entries 0) (all_links lss)
    links-levels entries =
        let e : links_at + 2 * length (links_of true drawn) ≡ level_at t.m entries 0 = omega (arith, outputs-length) in
        subst (λ i. Links w i (all_links lss)) e (links-split w links_at (links_of true drawn) (all_links lss) links-all).1

  module _ (few : t.n ≤ most_variables) (few' : t.m ≤ most_outputs) where
    -- the links have room in the work buffer
    pub trace-room : length (all_links kss) ≤ links_limit
    trace-room = links-room t.n drawn few (subst (λ k. k ≤ most_outputs) (sym drawn-length) few')

    -- entries and counts are those of the levels
    module _ (entries counts : List ℕ) (sized : Sized t.m entries counts 0 lss) where
      levels-length : 0 + length lss ≡ t.n
      levels-length = zero-add (length lss) ∙ lower-length t.n drawn

      -- where the levels' links end, and how many nodes they have

      links_end : level_at t.m entries t.n ≡ links_at + 2 * length (all_links kss)
      links_end =
          ap (level_at t.m entries) (sym levels-length) ∙ sized-end t.m entries counts lss 0 sized
          ∙ omega (
            arith,
            first-at t.m entries,
            ap (λ (l : List (List Link)). length (all_links l)) (trace-lower true t.n drawn),
            length-append (links_of true drawn) (all_links lss),
            outputs-length,
          )

      pub read-end : level_at t.m entries t.n ≤ work_size
      read-end = omega (arith, links_end, trace-room, links-at, work-size)

      pub read-total : sum_below (λ q. get_or counts q 0) t.n ≡ cost t order
      read-total =
          ap (sum_below (λ q. get_or counts q 0)) (sym levels-length) ∙ sized-nodes t.m entries counts lss 0 sized
          ∙ zero-add (length (traced_nodes true 0 0 lss)) ∙ ap length (sym network-nodes) ∙ sym (cost-nodes t order)

      -- the buffer w holds the links, and past its size it is as the lent one, work
      module _ (w work cells : List ℕ) (held : Links w links_at (all_links kss)) (long : work_size ≤ length w)
          (past : drop work_size w ≡ drop work_size work) where
        -- what reading the levels makes of the links and the cells
        abbrev pub read_made : Made
        read_made = levels_made t.m entries counts 0 t.n (made w cells 0)

        levels-within : level_at t.m entries (0 + length lss) ≤ work_size
        levels-within = omega (arith, ap (level_at t.m entries) levels-length, read-end)

        levels-long : level_at t.m entries (0 + length lss) ≤ length w
        levels-long = omega (arith, levels-within, long)

        read : LevelsRead t.m entries counts 0 lss (made w cells 0) read_made
        read =
            subst (λ k. LevelsRead t.m entries counts 0 lss (made w cells 0) (levels_made t.m entries counts 0 k (made w cells 0)))
            (lower-length t.n drawn) (levels-read t.m entries counts lss 0 (made w cells 0) sized (links-levels w held entries) levels-long)

        -- no level's nodes come behind the last
        pub read_next : (q : ℕ) → q < t.n → (levels_made t.m entries counts q (t.n - q) (made w cells 0)).next ≤ cost t order
        read_next q h =
            let l = lower-length t.n drawn in
            let e = sized-counts t.m entries counts w lss 0 sized (links-levels w held entries) q (subst (λ k. q < k) (sym l) h) in
            let e' : get_or counts q 0 ≡ differing_pairs w (level_at t.m entries q) (get_or entries q 0) =
            subst (λ x. get_or counts x 0 ≡ differing_pairs w (level_at t.m entries x) (get_or entries x 0)) (zero-add q) e in
            omega (
              arith,
              levels-counted t.m entries counts q (made w cells 0) e' t.n h,
              read-total,
              sum_below-part (λ r. get_or counts r 0) q t.n h,
            )

        -- the cells have the network's nodes, and are as they were past them
        pub read-cells : 3 * cost t order ≤ length cells
            → read_made.cells ≡ numbers_of (network_of true t order).nodes ++ drop (3 * cost t order) cells
        read-cells h =
            let ns = (network_of true t order).nodes in
            let e : 0 + length (numbers_of ns) ≡ 3 * cost t order = omega (arith, numbers-length ns, cost-nodes t order) in
            read.stored ∙ ap (λ (l : List Node). sets cells 0 (numbers_of l)) (sym network-nodes)
            ∙ sets-eq (numbers_of ns) cells 0 (omega arith) ∙ ap (λ k. numbers_of ns ++ drop k cells) e

        -- the bytes that are written lie among the levels' links
        outside : Outside w read_made.work (level_at t.m entries 0) (level_at t.m entries (0 + t.n))
        outside = levels-outside t.m entries counts 0 t.n (made w cells 0)

        -- the work buffer cleared afterwards
        pub read-work : cleared_work read_made.work ≡ zero_work work
        read-work =
            let same : length read_made.work ≡ length w = levels-work t.m entries counts 0 t.n (made w cells 0) in
            clear_zero read_made.work work (omega (arith, long))
            (past_same w read_made.work (level_at t.m entries 0) (level_at t.m entries (0 + t.n)) work_size same
            (omega (arith, ap (level_at t.m entries) (zero-add t.n), read-end)) outside
            ∙ past)

        -- the roots

        links-kept-outputs : Links read_made.work links_at (links_of true drawn)
        links-kept-outputs =
            links-kept w read_made.work links_at (links_of true drawn)
            (λ j a b. outside.under j (omega (arith, outputs-length))) (links-outputs w held)

        root-given : (j : ℕ) → root_at read_made.work t.m (level_at t.m entries 0) j ≡ get_or (network_of true t order).roots j 0
        root-given j =
            let refs = traced_refs true 0 lss in
            let i = level_at t.m entries 0 in
            let valid : AllValid true (length refs) (links_of true drawn) =
            subst (λ n. AllValid true n (links_of true drawn)) (sym (traced-length 0 lss)) (links-valid t.n drawn) in
            let roots : get_or (map (link_ref refs) (links_of true drawn)) j 0 ≡ get_or (network_of true t order).roots j 0 =
            ap (λ (l : List ℕ). get_or l j 0) (sym network-roots) in
            split (ltb j t.m)
            (λ e. root-link read_made.work t.m i j (ltb-true j t.m e)
            ∙ links-refs read_made.work i refs read.slots links_at (links_of true drawn) links-kept-outputs valid j
            (omega (arith, ltb-true j t.m e, outputs-length))
            ∙ roots)
            (λ e. root-past read_made.work t.m i j (ltb-false j t.m e)
            ∙ sym (get_or-eq_default (map (link_ref refs) (links_of true drawn)) 0
            (omega (arith, ltb-false j t.m e, outputs-length, length-map (links_of true drawn) (link_ref refs))))
            ∙ roots)

        pub read-roots : (roots : List ℕ) → over (root_at read_made.work t.m (level_at t.m entries 0)) roots_size roots
            ≡ over (λ j. get_or (network_of true t order).roots j 0) roots_size roots
        read-roots roots =
            ap (λ (l : List ℕ). l ++ drop roots_size roots)
            (map-up_to-cong roots_size (root_at read_made.work t.m (level_at t.m entries 0))
            (λ j. get_or (network_of true t order).roots j 0)
            (λ j h. root-given j))
