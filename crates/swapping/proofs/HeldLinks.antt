-- The links read off held cells that passed the checks: those of the filling of what the cells compute, under the new order.
-- Assumes nothing.
use mathlib.Core.Path.{◌≡◌, sym, ap, ◌∙◌, subst}
use mathlib.Core.Bool.{true}
use mathlib.Core.List.{List, [], map}
use Prim.Native.Nat.{ℕ, suc, ◌+◌, ◌*◌, ◌≤◌, ◌<◌}
use native.Mathlib.Nat.{zero-add}
use native.Mathlib.Omega.{arith}
use lib.Dec.{T}
use lib.ListN.{length, get_or, take, drop, set, length-set}
use lib.Seq.{get_or-set_same, get_or-set_other}
use Rattle.lists.specs.Lists.{up_to}
use Rattle.lists.proofs.Lists.Membership.{get_d_map}
use Rattle.lists.proofs.Numbers.Compared.{differ}
use Rattle.lists.proofs.Numbers.UpTo.{get_or-map-up_to}
use Rattle.lists.proofs.Written.Outside.{past_same}
use Rattle.diagram.specs.Filling.Fill.{Link}
use Rattle.diagram.specs.Networks.Diagram.{Diagram, largest, node_at}
use Rattle.diagram.specs.Orders.Order.{is_order}
use Rattle.diagram.specs.Table.{Table}
use Rattle.diagram.specs.Networks.Bound.{most_variables, most_outputs}
use Rattle.diagram.specs.Networks.Trace.{differing}
use Rattle.diagram.specs.Exchanging.Exchange.{Pair, both, level_links, exchanged_trace, Exchanged}
use Rattle.diagram.proofs.Orders.Order.{order-length}
use Rattle.diagram.proofs.Filling.Levels.{trace-lower}
use Rattle.diagram.proofs.Exchanging.Exchange.{exchanged-trace}
use Rattle.diagram.proofs.Exchanging.OwnNodes.{trace-as}
use Rattle.diagram.proofs.Exchanging.PairBounds.{level-room}
use Rattle.table.specs.declared.State.{State}
use Rattle.table.specs.State.{order_of, exchanged}
use Rattle.table.proofs.Held.{few-inputs, few-outputs, ordered}
use Rattle.table.proofs.Ordering.Exchanged.{exchanged-order, take-exchanged}
use Rattle.fill.specs.Work.{work_size, links_at, all_links}
use Rattle.fill.specs.Counts.{differing_pairs}
use Rattle.fill.proofs.Buffers.Sizes.{work-size, links-at}
use Rattle.fill.proofs.Counting.LinkPairs.{Links}
use Rattle.lent.specs.Lent.{cells_by, number_in, lent_diagram}
use Rattle.lent.proofs.Nodes.{cells-length}
use Rattle.lent.proofs.Tested.{node-behind}
use Rattle.network.specs.Levels.{level_at}
use Rattle.swapping.specs.Swap.{held_diagram, cell_table, exchanged_order}
use Rattle.swapping.specs.Inner.Exchange.{most_pairs, lent_at, put_links, Entered}
use Rattle.network.proofs.LinksRead.LevelsRead.{Sized, links-counted}
use Rattle.network.proofs.LinksRead.TraceSized.{trace-sized, lower-length}
use Rattle.network.proofs.LinksRead.TraceRead.{drawn, kss, lss, trace-room, links-levels, read-end}
use Rattle.swapping.proofs.Checks.{Passed}
use Rattle.swapping.proofs.PutLinks.{put-long, put-outside, put-there}

-- an order with two levels exchanged
exchanged-levels : (n p : ℕ) (l : List ℕ) → T (is_order n l) → suc p < n → Exchanged n p l (exchanged p l)
exchanged-levels n p l o h =
    let k : suc p < length l = omega (arith, order-length n l o) in
    let m = set l p (get_or l (suc p) 0) in
    record {
      valid = exchanged-order n p l o h;
      upper = get_or-set_other m (suc p) p (get_or l p 0) 0 (λ e. omega (arith, e)) ∙ get_or-set_same l p (get_or l (suc p) 0) 0 (omega arith);
      lower = get_or-set_same m (suc p) (get_or l p 0) 0 (omega (arith, length-set l p (get_or l (suc p) 0)));
      others =
          λ q a b. get_or-set_other m (suc p) q (get_or l p 0) 0 (differ q (suc p) b) ∙ get_or-set_other l p q (get_or l (suc p) 0) 0 (differ q p a);
    }

module _ (s : State) (p : ℕ) (work roots cells : List ℕ) (P : Passed s p work roots cells) where
  abbrev D : Diagram
  D = held_diagram s roots cells

  abbrev t : Table
  t = cell_table s roots cells

  abbrev other : List ℕ
  other = exchanged_order s p

  abbrev pub root_pairs : List Pair
  root_pairs = map both (take s.m roots)

  pub few : s.n ≤ most_variables
  few = few-inputs s P.tested.held

  pub few' : s.m ≤ most_outputs
  few' = few-outputs s P.tested.held

  pub exchanges : Exchanged s.n p (order_of s) other
  exchanges =
      subst (Exchanged s.n p (order_of s)) (sym (take-exchanged s.n p s.order P.place))
      (exchanged-levels s.n p (order_of s) (ordered s P.tested.held) P.place)

  own : (r : ℕ) → 2 ≤ r → r ≤ largest true (length D.nodes) → lent_at cells r ≡ node_at true D r
  unfolding lent_diagram cells_by
  own r h k = sym (node-behind s.count (number_in cells) r h (omega (arith, cells-length s.count (number_in cells))))

  held-trace : kss t other ≡ exchanged_trace (lent_at cells) p s.n root_pairs
  unfolding lent_diagram
  held-trace =
      exchanged-trace s.n s.m p (order_of s) other D (ordered s P.tested.held) exchanges P.place P.tested.formed
      P.tested.network
      ∙ sym (trace-as s.n s.m p D P.tested.formed (lent_at cells) own s.n)

  pub held-room : length (all_links (exchanged_trace (lent_at cells) p s.n root_pairs)) ≤ most_pairs
  held-room = subst (λ (l : List (List Link)). length (all_links l) ≤ most_pairs) held-trace (trace-room t other few few')

  -- the levels' links alone
  held-levels : lss t other ≡ map (level_links (lent_at cells) p root_pairs) (up_to s.n)
  unfolding exchanged_trace
  held-levels = ap (λ (l : List (List Link)). drop 1 l) (sym (trace-lower true s.n (drawn t other)) ∙ held-trace)

  level-at : (j : ℕ) → j < s.n → get_or (lss t other) j [] ≡ level_links (lent_at cells) p root_pairs j
  level-at j h = ap (λ (l : List (List Link)). get_or l j []) held-levels ∙ get_or-map-up_to (level_links (lent_at cells) p root_pairs) s.n j [] h

  -- the levels have so many entries
  module _ (entries : List ℕ) (E : Entered (lent_at cells) p s.n root_pairs entries) where
    two-each : (j : ℕ) → j < s.n → 2 * get_or entries j 0 ≡ length (get_or (lss t other) j [])
    two-each j h =
        ap (λ k. 2 * k) (E j h) ∙ sym (level-room (lent_at cells) p root_pairs j) ∙ ap length (sym (level-at j h))

    pub held-sized : (counts : List ℕ) → ((j : ℕ) → j < s.n → get_or counts j 0 ≡ differing (get_or (lss t other) j []))
        → Sized s.m entries counts 0 (lss t other)
    held-sized counts C =
        trace-sized s.m entries counts s.n 0 (drawn t other)
        (λ j h. ap (λ i. 2 * get_or entries i 0) (zero-add j) ∙ two-each j h)
        (λ j h. ap (λ i. get_or counts i 0) (zero-add j) ∙ C j h)

    -- so their links end in the work buffer
    pub held-end : level_at s.m entries s.n ≤ work_size
    held-end =
        read-end t other few few' entries (map differing (lss t other))
        (held-sized (map differing (lss t other))
        (λ j h. get_d_map differing (lss t other) j [] 0 (omega (arith, lower-length s.n (drawn t other)))))

    -- and as many differ as are counted in a buffer that holds them
    pub held-counts : (w : List ℕ) → Links w links_at (all_links (kss t other)) → (j : ℕ) → j < s.n
        → differing_pairs w (level_at s.m entries j) (get_or entries j 0) ≡ differing (get_or (lss t other) j [])
    held-counts w held j h =
        let n = lower-length s.n (drawn t other) in
        ap (λ i. differing_pairs w (level_at s.m entries i) (get_or entries i 0)) (sym (zero-add j))
        ∙ links-counted s.m entries [] w (lss t other) 0
        (λ q l. sym (two-each q (omega (arith, n))) ∙ ap (λ i. 2 * get_or entries i 0) (sym (zero-add q)))
        (links-levels t other w held entries) j (omega (arith, n))

  -- the work buffer with the links
  module _ (w : List ℕ) (ew : w ≡ put_links work links_at (all_links (exchanged_trace (lent_at cells) p s.n root_pairs))) where
    abbrev ks : List Link
    ks = all_links (exchanged_trace (lent_at cells) p s.n root_pairs)

    pub held-there : Links w links_at (all_links (kss t other))
    held-there =
        subst (λ (l : List (List Link)). Links w links_at (all_links l)) (sym held-trace)
        (subst (λ (x : List ℕ). Links x links_at ks) (sym ew)
        (put-there work links_at ks (omega (arith, held-room, P.enough, work-size, links-at))))

    pub held-long : work_size ≤ length w
    held-long = omega (arith, ap length ew, put-long work links_at ks, P.enough)

    pub held-past : drop work_size w ≡ drop work_size work
    held-past =
        ap (drop work_size) ew
        ∙ past_same work (put_links work links_at ks) links_at (links_at + 2 * length ks) work_size (put-long work links_at ks)
        (omega (arith, held-room, work-size, links-at)) (put-outside work links_at ks)
