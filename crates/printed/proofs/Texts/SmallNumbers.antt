-- The numbers that a build leaves in the cells it counts and in the roots: none is above the largest reference of 2,159 nodes.
-- Assumes nothing.
use mathlib.Core.Path.{◌≡◌}
use mathlib.Core.Bool.{Bool, true, not, ◌&&◌}
use mathlib.Core.List.{List, [], ◌∷◌, ◌++◌}
use Prim.Native.Nat.{ℕ, zero, suc, ◌+◌, ◌*◌, ◌≤◌, ◌<◌}
use native.Mathlib.Omega.{arith}
use borrow.Author.Tests.{ltb-true}
use lib.Dec.{T, ltb, eqb→eq, leb→le, ltb→lt}
use lib.ListN.{length, get_or, drop}
use Rattle.lists.specs.Lists.{all}
use Rattle.lists.specs.Written.{over}
use Rattle.lists.proofs.Bools.{split, and_l, and_r}
use Rattle.lists.proofs.Lists.Membership.{all-at}
use Rattle.lists.proofs.Written.Over.{get_d_over}
use Rattle.diagram.specs.Networks.Bound.{most_nodes}
use Rattle.diagram.specs.Networks.Diagram.{Node, Diagram, largest, refers, later, node_at, node_good, well_formed}
use Rattle.diagram.proofs.Demands.{right}
use Rattle.diagram.proofs.Networks.Evaluate.{formed-length, formed-roots, formed-nodes}
use Rattle.table.specs.declared.State.{State}
use Rattle.table.specs.State.{order_of, stage_of, is_nothing}
use Rattle.table.proofs.Held.{few-inputs, few-outputs}
use Rattle.fill.specs.Calls.{held_table}
use Rattle.lent.specs.Lent.{numbers_of, roots_size}
use Rattle.lent.proofs.Sizes.{roots-size}
use Rattle.network.specs.Build.{held_network, wanted}
use Rattle.network.proofs.Building.HeldRead.{wanted-nodes, few-wanted}

-- a reference to one of k nodes is at most 2 k + 1

own-small : (D : Diagram) (r : ℕ) → T (refers true D r) → r ≤ 2 * length D.nodes + 1
own-small D r t = leb→le r (2 * length D.nodes + 1) t

later-small : (D : Diagram) (p r : ℕ) → T (later true D p r) → r ≤ 2 * length D.nodes + 1
later-small D p r t =
    split (ltb r 2) (λ e. omega (arith, ltb-true r 2 e))
    (λ e. own-small D r (and_l (refers true D r) (ltb p (node_at true D r).level) (rw e at t)))

-- no number is above c, where c is at least n and the largest reference
module _ (n c : ℕ) (D : Diagram) (h : n ≤ c) (k : 2 * length D.nodes + 1 ≤ c) where
  module _ (x : Node) (t : T (node_good true n D x)) where
    abbrev low : Bool
    low = later true D x.level x.low

    abbrev high : Bool
    high = later true D x.level x.high

    level-small : x.level ≤ c
    level-small = omega (arith, ltb→lt x.level n (and_l (ltb x.level n) (low && high) t))

    low_small : x.low ≤ c
    low_small = omega (arith, later-small D x.level x.low (and_l low high (and_r (ltb x.level n) (low && high) t)))

    high_small : x.high ≤ c
    high_small = omega (arith, later-small D x.level x.high (and_r low high (and_r (ltb x.level n) (low && high) t)))

  numbers-small : (xs : List Node) (rest : List ℕ) → T (all (node_good true n D) xs) → (i : ℕ) → i < 3 * length xs
      → get_or (numbers_of xs ++ rest) i 0 ≤ c
  numbers-small [] rest t i l = absurd (omega arith)
  numbers-small (x ∷ xs) rest t zero l = level-small x (and_l (node_good true n D x) (all (node_good true n D) xs) t)
  numbers-small (x ∷ xs) rest t (suc zero) l = low_small x (and_l (node_good true n D x) (all (node_good true n D) xs) t)
  numbers-small (x ∷ xs) rest t (suc (suc zero)) l = high_small x (and_l (node_good true n D x) (all (node_good true n D) xs) t)
  numbers-small (x ∷ xs) rest t (suc (suc (suc i))) l =
      numbers-small xs rest (and_r (node_good true n D x) (all (node_good true n D) xs) t) i (omega arith)

-- a held table's network
module _ (s : State) (values care : List ℕ) (held : T (not (is_nothing (stage_of s)))) where
  formed : T (well_formed true s.n s.m (held_network s values care))
  unfolding held_network
  formed = (right true (held_table s values care) (order_of s)).formed

  few-nodes : 2 * length (held_network s values care).nodes + 1 ≤ largest true most_nodes
  few-nodes = omega (arith, few-wanted s values care held, wanted-nodes s values care)

  pub cell-small : (cells : List ℕ) (i : ℕ) → i < 3 * wanted s values care
      → get_or (numbers_of (held_network s values care).nodes ++ drop (3 * wanted s values care) cells) i 0 ≤ largest true most_nodes
  cell-small cells i h =
      let D = held_network s values care in
      numbers-small s.n (largest true most_nodes) D (omega (arith, few-inputs s held)) few-nodes D.nodes
      (drop (3 * wanted s values care) cells) (formed-nodes true s.n s.m D formed) i (omega (arith, wanted-nodes s values care))

  pub root-small : (roots : List ℕ) (j : ℕ) → j < s.m
      → get_or (over (λ j. get_or (held_network s values care).roots j 0) roots_size roots) j 0 ≤ largest true most_nodes
  root-small roots j h =
      let D = held_network s values care in
      let l : length D.roots ≡ s.m = eqb→eq (length D.roots) s.m (formed-length true s.n s.m D formed) in
      let e = get_d_over (λ j. get_or D.roots j 0) roots_size roots j 0 (omega (arith, few-outputs s held, roots-size)) in
      let t = all-at (refers true D) D.roots (formed-roots true s.n s.m D formed) j 0 (omega arith) in
      omega (arith, own-small D (get_or D.roots j 0) t, few-nodes)
