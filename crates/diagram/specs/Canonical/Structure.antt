-- Number 32 by structure: what the nodes and roots of a well-formed diagram must be like to be section 4's network of what they compute,
-- with no table made. The law `network-iff` says that this decides it.
-- Assumes nothing.
use Rattle.std.specs.Prelude.{Bool, false, not, cond, ◌&&◌, List, [], ◌∷◌, ◌++◌, map, ℕ, zero, suc, ◌+◌, eqb, ltb, length}
use Rattle.lists.specs.Lists.{all, keep, firsts, distinct, equal, up_to}
use Rattle.diagram.specs.Networks.Diagram.{Node, Diagram, target, inverts, node_at, same_node}
use Rattle.diagram.specs.Networks.Network.{reference}

-- the low edge doesn't invert, and the two edges differ
abbrev pub node_reduced : Bool → Node → Bool
node_reduced inv c = not (inverts inv c.low) && not (eqb c.low c.high)

-- the node with index k, from 0
abbrev pub node_on : Bool → Diagram → ℕ → Node
node_on inv D k = node_at inv D (reference inv k false)

abbrev pub at_level : Bool → Diagram → ℕ → ℕ → Bool
at_level inv D p k = eqb (node_on inv D k).level p

-- the index of the node that a reference is to; none of a constant
abbrev pub targets : Bool → ℕ → List ℕ
targets inv r = cond (ltb r 2) [] (target inv r ∷ [])

abbrev pub all_targets : Bool → List ℕ → List ℕ
all_targets inv [] = []
all_targets inv (r ∷ rs) = targets inv r ++ all_targets inv rs

-- what the nodes ks are below level p: one that stands there is what its edges are to, any other is itself
abbrev pub spread : Bool → Diagram → ℕ → List ℕ → List ℕ
spread inv D p [] = []
spread inv D p (k ∷ ks) =
    cond (at_level inv D p k) (targets inv (node_on inv D k).low ++ (targets inv (node_on inv D k).high ++ spread inv D p ks))
    (k ∷ spread inv D p ks)

-- the nodes of ks that stand at level p
abbrev pub standing : Bool → Diagram → ℕ → List ℕ → List ℕ
standing inv D p ks = keep (at_level inv D p) ks

-- k numbers from base on
abbrev pub range : ℕ → ℕ → List ℕ
range base k = map (λ i. base + i) (up_to k)

-- 'numbers rise by place, then by first segment': d levels are left from level p on, ks are the nodes seen first there, in sequence, and
-- those at the levels above are the first `next`; those that stand at level p must be the next ones, and at the end all were met
unfoldable pub numbered : Bool → Diagram → ℕ → ℕ → ℕ → List ℕ → Bool
numbered inv D zero p next ks = eqb next (length D.nodes)
numbered inv D (suc d) p next ks =
    equal eqb (standing inv D p ks) (range next (length (standing inv D p ks)))
    && numbered inv D d (suc p) (next + length (standing inv D p ks)) (firsts eqb (spread inv D p ks))

-- no node is redundant, none stands twice, and the numbering is section 4's
unfoldable pub structured : Bool → ℕ → Diagram → Bool
structured inv n D =
    all (node_reduced inv) D.nodes
    && (distinct same_node D.nodes && numbered inv D n 0 0 (firsts eqb (all_targets inv D.roots)))
