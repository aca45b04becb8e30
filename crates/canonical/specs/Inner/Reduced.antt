-- The nodes of lent cells, one by one: whether a node stands before, and the slots that tell most of them apart.
-- Assumes nothing.
use Rattle.std.specs.Prelude.{◌≡◌, Bool, true, false, not, ◌&&◌, List, map, ℕ, ◌+◌, ◌*◌, ◌%◌, ◌<◌, length, get_or}
use Rattle.lists.specs.Lists.{all, has, distinct, up_to}
use Rattle.diagram.specs.Networks.Diagram.{Node, same_node}
use Rattle.diagram.specs.Canonical.Structure.{node_reduced}
use Rattle.lent.specs.Lent.{lent_node}

-- the first k nodes
unfoldable pub lent_nodes : List ℕ → ℕ → List Node
lent_nodes cells k = map (lent_node cells) (up_to k)

-- whether no node before node i is the same
unfoldable pub is_new : List ℕ → ℕ → Bool
is_new cells i = not (has same_node (lent_node cells i) (lent_nodes cells i))

-- the two tests of all nodes
unfoldable pub reduced_nodes : List ℕ → ℕ → Bool
reduced_nodes cells count = all (node_reduced true) (lent_nodes cells count) && distinct same_node (lent_nodes cells count)

-- how many slots there are; src/reduced.rt has the constant, SLOTS
abbrev pub slots : ℕ
slots = 65536

-- a slot of a node, by its numbers: nodes in different slots differ
unfoldable pub node_slot : Node → ℕ
node_slot c = (c.level + 31 * c.low + 1021 * c.high) % slots

-- the slots of the first i nodes are marked
pub record Slotted (cells : List ℕ) (i : ℕ) (marks : List Bool) : Type 0 where
  pub room : length marks ≡ slots
  pub marked : (j : ℕ) → j < i → get_or marks (node_slot (lent_node cells j)) false ≡ true
