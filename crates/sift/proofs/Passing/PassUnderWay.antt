-- A pass under way, turn by turn: what the code holds is the pass after as many turns, and it stops where diagram's pass does.
-- Assumes nothing.
use mathlib.Core.Path.{◌≡◌, sym, ap, ap₂, ◌∙◌, subst}
use mathlib.Core.Bool.{true}
use mathlib.Core.List.{List, [], ◌++◌}
use Prim.Native.Nat.{ℕ, suc, ◌+◌, ◌*◌, ◌≤◌, ◌<◌}
use native.Mathlib.Nat.{le_trans}
use native.Mathlib.Numerals.{add-one}
use native.Mathlib.Omega.{arith}
use lib.Dec.{T}
use lib.ListN.{length, set, take, drop, take-append-drop}
use lib.Seq.{take_at, drop_at}
use Rattle.diagram.specs.Networks.Bound.{most_variables}
use Rattle.diagram.specs.Orders.Order.{is_order}
use Rattle.diagram.specs.Table.{Table}
use Rattle.diagram.specs.Orders.Sift.{sift, Pass, next, turn, allowed}
use Rattle.diagram.proofs.Orders.Order.{order-length}
use Rattle.diagram.proofs.Orders.Pass.{after_turns, after-suc, after-sifted, after-tried, after-going, Going, next-below, turns, allowed-only}
use Rattle.table.specs.declared.State.{State}
use Rattle.table.specs.State.{good_heading, order_of}
use Rattle.table.proofs.Held.{heading-inputs, heading-order}
use Rattle.fill.specs.Calls.{held_table}
use Rattle.sift.specs.declared.passes.Progress.{Progress}
use Rattle.sift.specs.Calls.{pass_of}
use Rattle.sift.specs.Inner.Choice.{next_of}
use Rattle.sift.specs.Inner.Counts.{counts_under}
use Rattle.sift.specs.Inner.Turns.{marks, progress_of, next_in, turn_of}
use Rattle.sift.proofs.Trying.ReorderedHeading.{heading-with, take-order}
use Rattle.sift.proofs.Passing.SiftedMarks.{mark-more, next-marked}

-- a turn of a pass that is held is the held turn of the pass

module _ (s : State) (values care : List ℕ) (k : s.n ≤ most_variables) (q : Pass) (going : Going (held_table s values care) q)
    (h : length q.sifted < s.n) where
  order-held : take s.n (progress_of s values care q).order ≡ q.order
  unfolding progress_of
  order-held = take_at q.order (drop s.n s.order) s.n (order-length s.n q.order going.valid)

  past-held : drop s.n (progress_of s values care q).order ≡ drop s.n s.order
  unfolding progress_of
  past-held = drop_at q.order (drop s.n s.order) s.n (order-length s.n q.order going.valid)

  next-held : next_in (held_table s values care) (progress_of s values care q) ≡ next (held_table s values care) q
  unfolding progress_of
  next-held =
      ap (λ (order : List ℕ). next_of (held_table s values care) order (marks q.sifted)) order-held
      ∙ next-marked (held_table s values care) q k

  pub turn-held : turn_of (held_table s values care) (progress_of s values care q)
      ≡ progress_of s values care (turn (held_table s values care) q)
  unfolding progress_of turn_of turn
  turn-held =
      let t : Table = held_table s values care in
      let o = ap₂ (λ (v : ℕ) (order : List ℕ). sift t v order) next-held order-held in
      let more = mark-more q.sifted (next t q) (le_trans (next-below t q h) k) in
      λ i. record {
        order = o i ++ past-held i;
        counts = counts_under t (o i);
        sifted = (ap (λ (v : ℕ). set (marks q.sifted) v true) next-held ∙ more) i;
        turns = add-one (length q.sifted) i;
        tried = q.tried + s.n;
      }

-- after so many turns, and within the limit
pub record Running (s : State) (limit : ℕ) (values care : List ℕ) (p : Progress) : Type 0 where
  pub held : p ≡ progress_of s values care (after_turns (held_table s values care) p.turns (order_of s))
  pub within : p.turns ≤ s.n
  pub limited : p.tried ≤ limit

module _ (s : State) (limit : ℕ) (values care : List ℕ) (g : T (good_heading s.n s.m (order_of s))) where
  abbrev after : ℕ → Pass
  after k = after_turns (held_table s values care) k (order_of s)

  going : (k : ℕ) → k ≤ s.n → Going (held_table s values care) (after k)
  going k h = after-going (held_table s values care) (order_of s) (heading-order s.n s.m (order_of s) g) k h

  pub running-start : (cs : List ℕ) → cs ≡ counts_under (held_table s values care) (order_of s) → (p : Progress)
      → p ≡ record { order = s.order; counts = cs; sifted = marks []; turns = 0; tried = 0 } → Running s limit values care p
  unfolding progress_of after_turns
  running-start cs d p e =
      let none : p.turns ≡ 0 = ap (λ (x : Progress). x.turns) e in
      record {
        held =
            e ∙ (λ i. record {
              order = sym (take-append-drop s.n s.order) i;
              counts = d i;
              sifted = marks [];
              turns = 0;
              tried = 0;
            })
            ∙ ap (λ (k : ℕ). progress_of s values care (after k)) (sym none);
        within = omega arith;
        limited = omega (arith, ap (λ (x : Progress). x.tried) e);
      }

  module _ (p : Progress) (r : Running s limit values care p) where
    order-now : p.order ≡ (after p.turns).order ++ drop s.n s.order
    unfolding progress_of
    order-now = ap (λ (x : Progress). x.order) r.held

    tried-now : p.tried ≡ p.turns * s.n
    unfolding progress_of
    tried-now = ap (λ (x : Progress). x.tried) r.held ∙ after-tried (held_table s values care) p.turns (order_of s)

    order-valid : T (is_order s.n (after p.turns).order)
    order-valid = (going p.turns r.within).valid

    order-taken : take s.n p.order ≡ (after p.turns).order
    order-taken = take-order s.n (after p.turns).order s.order p.order order-valid order-now

    pub running-heading : T (good_heading s.n s.m (take s.n p.order))
    running-heading =
        subst (λ (xs : List ℕ). T (good_heading s.n s.m xs)) (sym order-taken)
        (heading-with s.n s.m (order_of s) g (after p.turns).order order-valid)

    pub running-counts : p.counts ≡ counts_under (held_table s values care) (take s.n p.order)
    unfolding progress_of
    running-counts = ap (λ (x : Progress). x.counts) r.held ∙ ap (counts_under (held_table s values care)) (sym order-taken)

    -- one turn more
    module _ (h : p.turns < s.n) (l : p.tried + s.n ≤ limit) (q : Progress) (e : q ≡ turn_of (held_table s values care) p) where
      turned-now : q ≡ progress_of s values care (after (suc p.turns))
      turned-now =
          e ∙ ap (turn_of (held_table s values care)) r.held
          ∙ turn-held s values care (heading-inputs s.n s.m (order_of s) g) (after p.turns) (going p.turns r.within)
          (omega (arith, after-sifted (held_table s values care) p.turns (order_of s)))
          ∙ ap (progress_of s values care) (sym (after-suc (held_table s values care) p.turns (order_of s)))

      one_more : q.turns ≡ suc p.turns
      unfolding progress_of
      one_more = ap (λ (x : Progress). x.turns) turned-now ∙ after-sifted (held_table s values care) (suc p.turns) (order_of s)

      more-tried : q.tried ≡ p.tried + s.n
      unfolding turn_of
      more-tried = ap (λ (x : Progress). x.tried) e

      pub running-next : Running s limit values care q
      running-next =
          record {
            held = turned-now ∙ ap (λ (k : ℕ). progress_of s values care (after k)) (sym one_more);
            within = omega (arith, one_more);
            limited = omega (arith, more-tried);
          }

      pub running-more : q.turns ≡ p.turns + 1
      running-more = omega (arith, one_more)

    -- it stops where all are sifted, or where the limit has no room
    pub running-stop : (p.turns < s.n → limit < p.tried + s.n) → p ≡ progress_of s values care (pass_of s limit values care)
    running-stop m =
        let a : allowed s.n limit ≡ p.turns =
        allowed-only s.n limit p.turns r.within (omega (arith, tried-now, r.limited)) (λ h. omega (arith, tried-now, m h)) in
        r.held
        ∙ ap (λ (k : ℕ). progress_of s values care (after k)) (sym a)
        ∙ ap (progress_of s values care) (sym (turns (held_table s values care) limit (order_of s)))
