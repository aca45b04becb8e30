-- Every claim that holds is shown of the calls; so are the starred ones.
-- Assumes nothing.
use Rattle.std.specs.Prelude.{Ok, Err}
use mathlib.Core.Path.{◌≡◌, sym, ap, ap₂, ◌∙◌, subst}
use mathlib.Core.Bool.{Bool, true, false, cond, beq, ◌&&◌}
use mathlib.Core.List.{List, [], map, ◌++◌}
use Prim.Native.Nat.{ℕ, ◌*◌, ◌<◌, ◌^◌}
use borrow.Author.Tests.{le-leb}
use lib.Dec.{T, eqb, leb, eqb→eq}
use lib.ListN.{length, get_or, drop}
use Rattle.lists.specs.Lists.{up_to, equal}
use Rattle.lists.specs.Written.{over}
use Rattle.lists.proofs.Lists.Equal.{numbers-equality, rows-equality}
use Rattle.lists.proofs.Bools.{and_l, and_r, beq→eq}
use Rattle.lists.proofs.Lists.Membership.{all-at}
use Rattle.lists.proofs.Numbers.UpTo.{get_or-map-up_to}
use Rattle.diagram.specs.Networks.Diagram.{Node, Diagram, same_node}
use Rattle.diagram.specs.Table.{Table, filled_bit, network_of, cost}
use Rattle.diagram.specs.Orders.Sift.{sift}
use Rattle.diagram.specs.Starred.{Claim, builds, costs, sifts, fits, holds, filled_rows, starred}
use Rattle.diagram.proofs.Networks.Same.{nodes-equality}
use Rattle.diagram.proofs.Starred.{starred-hold}
use Rattle.diagram.proofs.Networks.Count.{cost-nodes}
use Rattle.table.specs.declared.Refusal.TheVariants.{TooSmall}
use Rattle.lent.specs.Lent.{numbers_of, roots_size}
use Rattle.network.specs.Build.{capacity, held_network, wanted}
use Rattle.starred.specs.Shown.{Shown}
use Rattle.starred.proofs.HeldAlike.{held-cost, held-network, held-bit, held-sift, held-sift-cost}
use Rattle.starred.proofs.Answered.{counted, sifted-answer, sifted-order, built-answer, built-cells, built-roots}

listed : (t : Table) (order : List ℕ) (rows : List (List Bool)) → filled_rows t order ≡ rows → (j r : ℕ) → j < t.m → r < 2 ^ t.n
    → filled_bit true t order j r ≡ get_or (get_or rows j []) r false
listed t order rows e j r p q =
    sym
    (ap (λ (xs : List (List Bool)). get_or (get_or xs j []) r false) (sym e)
    ∙ ap (λ (xs : List Bool). get_or xs r false) (get_or-map-up_to (λ k. map (filled_bit true t order k) (up_to (2 ^ t.n))) t.m j [] p)
    ∙ get_or-map-up_to (filled_bit true t order j) (2 ^ t.n) r false q)

module _ (t : Table) (order : List ℕ) (rows : List (List Bool)) (nodes : List Node) (refs : List ℕ) where
  shown-builds : T (holds (builds t order rows nodes refs)) → Shown (builds t order rows nodes refs)
  unfolding holds Shown wanted held_network
  shown-builds x s values care work roots cells h long room =
      let a = equal (equal beq) (filled_rows t order) rows in
      let b = equal same_node (network_of true t order).nodes nodes in
      let c = equal eqb (network_of true t order).roots refs in
      let y : T (b && c) = and_r a (b && c) x in
      let q : (network_of true t order).nodes ≡ nodes = nodes-equality.sound (network_of true t order).nodes nodes (and_l b c y) in
      let ns : (held_network s values care).nodes ≡ nodes = ap (λ (D : Diagram). D.nodes) (held-network h) ∙ q in
      let rs : (held_network s values care).roots ≡ refs =
      ap (λ (D : Diagram). D.roots) (held-network h) ∙ numbers-equality.sound (network_of true t order).roots refs (and_r b c y) in
      let k : wanted s values care ≡ length nodes = held-cost h ∙ cost-nodes t order ∙ ap length q in
      let fit : leb (wanted s values care) (capacity cells) ≡ true = rw k (le-leb (length nodes) (capacity cells) room) in
      record {
        answer = built-answer s values care work roots cells long h.staged true fit ∙ ap Ok k;
        written =
            built-cells s values care work roots cells long h.staged fit
            ∙ ap₂ (λ (xs : List Node) (w : ℕ). numbers_of xs ++ drop (3 * w) cells) ns k;
        rooted =
            built-roots s values care work roots cells long h.staged fit
            ∙ ap (λ (xs : List ℕ). over (λ j. get_or xs j 0) roots_size roots) rs;
        filled = λ j r in-m in-n. held-bit h j r
            ∙ listed t order rows (rows-equality.sound (filled_rows t order) rows (and_l a (b && c) x)) j r
            (subst (λ (z : ℕ). j < z) h.outputs in-m) (subst (λ (z : ℕ). r < 2 ^ z) h.inputs in-n);
      }

shown-costs : (t : Table) (order : List ℕ) (c : ℕ) → T (holds (costs t order c)) → Shown (costs t order c)
unfolding holds Shown
shown-costs t order c x s values care work h long =
    counted s values care work long h.staged ∙ ap Ok (held-cost h ∙ eqb→eq (cost t order) c x)

shown-sifts : (t : Table) (order : List ℕ) (v : ℕ) (left : List ℕ) (c : ℕ) → T (holds (sifts t order v left c))
    → Shown (sifts t order v left c)
unfolding holds Shown
shown-sifts t order v left c x s values care work h long below =
    let a = equal eqb (sift t v order) left in
    let b = eqb (cost t (sift t v order)) c in
    let p : v < s.n = rw h.inputs below in
    record {
      answer =
          sifted-answer s values care work long h.staged v p
          ∙ ap Ok (held-sift-cost h v ∙ eqb→eq (cost t (sift t v order)) c (and_r a b x));
      order =
          sifted-order s values care work long h.staged v p ∙ held-sift h v
          ∙ numbers-equality.sound (sift t v order) left (and_l a b x);
    }

shown-fits : (t : Table) (order : List ℕ) (b : ℕ) (fit : Bool) → T (holds (fits t order b fit)) → Shown (fits t order b fit)
unfolding holds Shown wanted
shown-fits t order b fit x s values care work roots cells h long size =
    built-answer s values care work roots cells long h.staged fit
    (ap₂ leb (held-cost h) size ∙ beq→eq (leb (cost t order) b) fit x)
    ∙ ap (λ (w : ℕ). cond fit (Ok w) (Err (TooSmall w))) (held-cost h)

-- every claim that holds is shown
pub shown : (c : Claim) → T (holds c) → Shown c
shown (builds t order rows nodes refs) x = shown-builds t order rows nodes refs x
shown (costs t order c) x = shown-costs t order c x
shown (sifts t order v left c) x = shown-sifts t order v left c x
shown (fits t order b fit) x = shown-fits t order b fit x

-- the starred claims, by their number from 0; where there is none, d stands
pub starred-shown : (i : ℕ) (d : Claim) → i < length starred → Shown (get_or starred i d)
starred-shown i d h = shown (get_or starred i d) (all-at holds starred starred-hold i d h)
