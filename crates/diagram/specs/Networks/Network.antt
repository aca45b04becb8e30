-- Section 4 of document 01: the network of the filled functions ts, one an output, over d variables.
-- `inv` says whether a class is a function and its inverse, and whether references may invert; section 4's have it true.
-- Assumes nothing.
use Rattle.std.specs.Prelude.{Bool, true, false, not, cond, ◌&&◌, List, [], ◌∷◌, ◌++◌, map, ℕ, zero, suc, ◌+◌, ◌*◌, length}
use Rattle.lists.specs.Lists.{keep, index, firsts}
use Rattle.lists.specs.Bits.{digit}
use Rattle.diagram.specs.Tree.{Tree, half, halves, first, same, inverted}
use Rattle.diagram.specs.Networks.Diagram.{Node, Diagram}

-- whether a function depends on its top variable
abbrev pub depends : {d : ℕ} → Tree Bool (suc d) → Bool
depends t = not (same (half false t) (half true t))

-- 'the member whose all-zero row is 0' of a function's class
abbrev pub normal : {d : ℕ} → Bool → Tree Bool d → Tree Bool d
normal inv t = inverted (inv && first t) t

-- the classes of the segments ts that depend on their top variable, 'by first segment'
unfoldable pub classes : {d : ℕ} → Bool → List (Tree Bool (suc d)) → List (Tree Bool (suc d))
classes inv ts = firsts same (map (normal inv) (keep depends ts))

-- the reference to the node at index k of the list, inverted where i is true
abbrev pub reference : Bool → ℕ → Bool → ℕ
reference true k i = 2 * suc k + digit i
reference false k i = suc (suc k)

-- the reference to the function t, where ts are the segments of its level and `base` nodes stand at the levels above
unfoldable pub refer : Bool → (d : ℕ) → ℕ → List (Tree Bool d) → Tree Bool d → ℕ
refer inv zero base ts t = digit (first t)
refer inv (suc d) base ts t =
    cond (depends t) (reference inv (base + index same (normal inv t) (classes inv ts)) (first t))
    (refer inv d (base + length (classes inv ts)) (halves ts) (half false t))

-- the node of the class t, at level p
abbrev pub node_of : {d : ℕ} → Bool → ℕ → ℕ → List (Tree Bool d) → Tree Bool (suc d) → Node
node_of {d} inv p base ts t =
    record { level = p; low = refer inv d base ts (half false t); high = refer inv d base ts (half true t) }

-- the nodes from level p on: 'numbers rise by place, then by first segment'
unfoldable pub nodes : Bool → (d : ℕ) → ℕ → ℕ → List (Tree Bool d) → List Node
nodes inv zero p base ts = []
nodes inv (suc d) p base ts =
    map (node_of inv p (base + length (classes inv ts)) (halves ts)) (classes inv ts)
    ++ nodes inv d (suc p) (base + length (classes inv ts)) (halves ts)

unfoldable pub network : Bool → (n : ℕ) → List (Tree Bool n) → Diagram
network inv n ts = record { nodes = nodes inv n 0 0 ts; roots = map (refer inv n 0 ts) ts }

-- how many nodes stand at each level
unfoldable pub counts : Bool → (d : ℕ) → List (Tree Bool d) → List ℕ
counts inv zero ts = []
counts inv (suc d) ts = length (classes inv ts) ∷ counts inv d (halves ts)

-- how many nodes the network has
unfoldable pub count : Bool → (n : ℕ) → List (Tree Bool n) → ℕ
count inv n ts = length (nodes inv n 0 0 ts)
