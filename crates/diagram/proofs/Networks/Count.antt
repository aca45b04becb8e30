-- The count of the nodes, level by level: the list of the nodes and the list of the counts come to one total.
-- Assumes nothing.
use mathlib.Core.Path.{◌≡◌, refl, sym, ap, ap₂, ◌∙◌}
use mathlib.Core.Bool.{Bool, true}
use mathlib.Core.List.{List, map, sum}
use Prim.Native.Nat.{ℕ, zero, suc, ◌+◌}
use lib.ListN.{length, length-append, length-map}
use Rattle.diagram.specs.Tree.{Tree, halves}
use Rattle.diagram.specs.Networks.Network.{classes, node_of, nodes, counts, count, network}
use Rattle.diagram.specs.Table.{Table, network_of, cost}

-- how many nodes stand at the d levels from the segments ts on
abbrev pub total : Bool → (d : ℕ) → List (Tree Bool d) → ℕ
total inv zero ts = 0
total inv (suc d) ts = length (classes inv ts) + total inv d (halves ts)

pub nodes-length : (inv : Bool) (d p base : ℕ) (ts : List (Tree Bool d)) → length (nodes inv d p base ts) ≡ total inv d ts
unfolding nodes
nodes-length inv zero p base ts = refl
nodes-length inv (suc d) p base ts =
    let below = base + length (classes inv ts) in
    length-append (map (node_of inv p below (halves ts)) (classes inv ts)) (nodes inv d (suc p) below (halves ts))
    ∙ ap₂ ◌+◌ (length-map (classes inv ts) (node_of inv p below (halves ts))) (nodes-length inv d (suc p) below (halves ts))

pub count-total : (inv : Bool) (n : ℕ) (ts : List (Tree Bool n)) → count inv n ts ≡ total inv n ts
unfolding count
count-total inv n ts = nodes-length inv n 0 0 ts

pub counts-sum : (inv : Bool) (d : ℕ) (ts : List (Tree Bool d)) → sum ◌+◌ 0 (counts inv d ts) ≡ total inv d ts
unfolding counts sum
counts-sum inv zero ts = refl
counts-sum inv (suc d) ts = ap (λ k. length (classes inv ts) + k) (counts-sum inv d (halves ts))

pub count-sum : (inv : Bool) (n : ℕ) (ts : List (Tree Bool n)) → count inv n ts ≡ sum ◌+◌ 0 (counts inv n ts)
count-sum inv n ts = count-total inv n ts ∙ sym (counts-sum inv n ts)

pub counts-length : (inv : Bool) (d : ℕ) (ts : List (Tree Bool d)) → length (counts inv d ts) ≡ d
unfolding counts
counts-length inv zero ts = refl
counts-length inv (suc d) ts = ap suc (counts-length inv d (halves ts))

-- an order's cost is the length of its network's list
pub cost-nodes : (t : Table) (order : List ℕ) → cost t order ≡ length (network_of true t order).nodes
unfolding cost count network_of network
cost-nodes t order = refl
