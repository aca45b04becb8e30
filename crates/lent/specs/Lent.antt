-- The lent cells and roots as a diagram (document 01, sections 2 and 4): three numbers a cell, sixteen roots.
-- Assumes nothing.
use Rattle.std.specs.Prelude.{List, [], ◌∷◌, map, ℕ, ◌+◌, ◌*◌, get_or, take}
use Rattle.lists.specs.Lists.{up_to}
use Rattle.diagram.specs.Networks.Bound.{most_outputs}
use Rattle.diagram.specs.Networks.Diagram.{Node, Diagram}

-- 'cells of three 16-bit numbers', whatever holds the numbers: cell i, from 0
abbrev pub node_by : (ℕ → ℕ) → ℕ → Node
node_by number i = record { level = number (3 * i); low = number (3 * i + 1); high = number (3 * i + 2) }

-- the counted cells and the first m roots, by their numbers
abbrev pub diagram_by : ℕ → ℕ → (ℕ → ℕ) → (ℕ → ℕ) → Diagram
diagram_by count m number root = record { nodes = map (node_by number) (up_to count); roots = map root (up_to m) }

-- a test of a cell, and what a row gives at a reference, look at the nodes alone
unfoldable pub cells_by : ℕ → (ℕ → ℕ) → Diagram
cells_by count number = record { nodes = map (node_by number) (up_to count); roots = [] }

-- number x of a lent list, and the cells whose numbers one has

abbrev pub number_in : List ℕ → ℕ → ℕ
number_in numbers x = get_or numbers x 0

abbrev pub lent_node : List ℕ → ℕ → Node
lent_node cells i = node_by (number_in cells) i

abbrev pub lent_cells : ℕ → List ℕ → Diagram
lent_cells count cells = cells_by count (number_in cells)

-- the counted cells and the first m roots, where so many are lent
unfoldable pub lent_diagram : ℕ → ℕ → List ℕ → List ℕ → Diagram
lent_diagram count m cells roots = record { nodes = map (lent_node cells) (up_to count); roots = take m roots }

-- the numbers of nodes, three each, one after the other
abbrev pub numbers_of : List Node → List ℕ
numbers_of [] = []
numbers_of (c ∷ cs) = c.level ∷ c.low ∷ c.high ∷ numbers_of cs

-- how many roots are lent: '16 roots'; src/lib.rt has the constant, ROOTS
unfoldable pub roots_size : ℕ
roots_size = most_outputs
