-- The general bound on the nodes holds of every network, and so does its largest value.
-- Assumes nothing.
use mathlib.Core.Path.{sym, subst}
use mathlib.Core.Bool.{Bool, true}
use mathlib.Core.List.{List}
use Prim.Native.Nat.{ℕ, zero, suc, ◌-◌, ◌≤◌, zero-le, suc-le-suc}
use native.Mathlib.Nat.{le_trans, le_of_eq, le-min, min-le_left, min-le_right, add-le-add, mul-le-mul_left}
use lib.Dec.{T, leb, leb→le, eqb}
use lib.ListN.{length}
use Rattle.lists.specs.Lists.{all, up_to}
use Rattle.lists.proofs.Lists.Membership.{eqb-equality, all-has}
use Rattle.lists.proofs.Numbers.Compared.{has-up_to}
use Rattle.diagram.specs.Tree.{Tree, halves}
use Rattle.diagram.specs.Networks.Network.{count}
use Rattle.diagram.specs.Table.{Table, filled, cost}
use Rattle.diagram.specs.Networks.Bound.{classes_over, bound, most_variables, most_outputs, most_nodes}
use Rattle.diagram.proofs.Tree.{length-halves}
use Rattle.diagram.proofs.Networks.Classes.{classes-length}
use Rattle.diagram.proofs.Networks.Count.{total, count-total}
use Rattle.diagram.proofs.Demands.{filled-length}
use Rattle.diagram.proofs.Networks.Enumerate.{classes-most}

total-bounded : (inv : Bool) (d : ℕ) (ts : List (Tree Bool d)) → total inv d ts ≤ bound inv d (length ts)
unfolding bound
total-bounded inv zero ts = zero-le
total-bounded inv (suc d) ts =
    add-le-add (le-min (classes-length inv ts) (classes-most inv d ts))
    (subst (λ k. total inv d (halves ts) ≤ bound inv d k) (length-halves ts) (total-bounded inv d (halves ts)))

-- Document 01's sum over the levels: a level's nodes are at most its segments, twice as many from each level to the next,
-- and at most the classes that depend on its variable.
pub bounded : (inv : Bool) (n : ℕ) (ts : List (Tree Bool n)) → count inv n ts ≤ bound inv n (length ts)
bounded inv n ts = le_trans (le_of_eq (count-total inv n ts)) (total-bounded inv n ts)

pub bound-mono : (inv : Bool) (n : ℕ) {k k' : ℕ} → k ≤ k' → bound inv n k ≤ bound inv n k'
unfolding bound
bound-mono inv zero h = zero-le
bound-mono inv (suc n) {k} h =
    let c = classes_over inv (suc n) - classes_over inv n in
    add-le-add (le-min (le_trans (min-le_left k c) h) (min-le_right k c)) (bound-mono inv n (mul-le-mul_left 2 h))

-- the bound at the most outputs, computed for each number of variables up to the largest
bounds-hold : T (all (λ n. leb (bound true n most_outputs) most_nodes) (up_to (suc most_variables)))
unfolding bound
bounds-hold = tt

pub most : (n : ℕ) (ts : List (Tree Bool n)) → n ≤ most_variables → length ts ≤ most_outputs → count true n ts ≤ most_nodes
most n ts h k =
    le_trans (le_trans (bounded true n ts) (bound-mono true n k))
    (leb→le (bound true n most_outputs) most_nodes
    (all-has eqb eqb-equality (λ i. leb (bound true i most_outputs) most_nodes) (up_to (suc most_variables)) bounds-hold n
    (has-up_to n (suc most_variables) (suc-le-suc h))))

-- no order costs more than the most nodes there can be
pub few-cost : (t : Table) (order : List ℕ) → t.n ≤ most_variables → t.m ≤ most_outputs → cost t order ≤ most_nodes
unfolding cost
few-cost t order few few' =
    most t.n (filled true t order) few (subst (λ k. k ≤ most_outputs) (sym (filled-length true t order)) few')
