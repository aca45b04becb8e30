-- Section 8 of document 01: the text that is printed, as a list of bytes.
-- Assumes nothing.
use Rattle.std.specs.Prelude.{cond, List, [], ◌∷◌, ◌++◌, ℕ, zero, suc, ◌+◌, ◌*◌, ◌/◌, ◌%◌, min, ltb, length, get_or}
use Rattle.diagram.specs.Networks.Bound.{most_variables}
use Rattle.table.specs.declared.State.{State}
use Rattle.table.specs.State.{stage_of, is_network}

-- the words, in the bytes of their letters
abbrev pub inputs-keyword : List ℕ
inputs-keyword = 105 ∷ 110 ∷ 112 ∷ 117 ∷ 116 ∷ 115 ∷ []

abbrev pub outputs-keyword : List ℕ
outputs-keyword = 111 ∷ 117 ∷ 116 ∷ 112 ∷ 117 ∷ 116 ∷ 115 ∷ []

abbrev pub order-keyword : List ℕ
order-keyword = 111 ∷ 114 ∷ 100 ∷ 101 ∷ 114 ∷ []

abbrev pub cared-keyword : List ℕ
cared-keyword = 99 ∷ 97 ∷ 114 ∷ 101 ∷ 100 ∷ []

abbrev pub cells-keyword : List ℕ
cells-keyword = 99 ∷ 101 ∷ 108 ∷ 108 ∷ 115 ∷ []

abbrev pub cell-keyword : List ℕ
cell-keyword = 99 ∷ 101 ∷ 108 ∷ 108 ∷ []

abbrev pub root-keyword : List ℕ
root-keyword = 114 ∷ 111 ∷ 111 ∷ 116 ∷ []

abbrev pub space : List ℕ
space = 32 ∷ []

abbrev pub newline : List ℕ
newline = 10 ∷ []

-- the decimal digits of a number, at most f + 1 of them
abbrev pub digits : ℕ → ℕ → List ℕ
digits zero x = (48 + x % 10) ∷ []
digits (suc f) x = cond (ltb x 10) ((48 + x % 10) ∷ []) (digits f (x / 10) ++ ((48 + x % 10) ∷ []))

-- a number in decimal; 20 digits are enough for 64 bits
unfoldable pub decimal : ℕ → List ℕ
decimal x = digits 19 x

-- a number with a space before it
unfoldable pub spaced : ℕ → List ℕ
spaced x = space ++ decimal x

-- the texts f 0 to f (k - 1), one after the other
abbrev pub in_turn : (ℕ → List ℕ) → ℕ → List ℕ
in_turn f zero = []
in_turn f (suc k) = in_turn f k ++ f k

-- a word, a number and the line's end
unfoldable pub line : List ℕ → ℕ → List ℕ
line word x = word ++ (spaced x ++ newline)

-- 'order' and the variables, the top level first; 'At n = 0 the order line is `order`'
unfoldable pub order_line : ℕ → List ℕ → List ℕ
order_line n order = order-keyword ++ (in_turn (λ i. spaced (get_or order i 0)) n ++ newline)

-- 'Cell lines: number, place, 0-arrow, 1-arrow'; the i-th of the list, from 0, has the number i + 1
unfoldable pub node_text : List ℕ → ℕ → List ℕ
node_text cells i =
    spaced (get_or cells (3 * i) 0) ++ (spaced (get_or cells (3 * i + 1) 0) ++ (spaced (get_or cells (3 * i + 2) 0) ++ newline))

unfoldable pub cell_line : List ℕ → ℕ → List ℕ
cell_line cells i = cell-keyword ++ (spaced (i + 1) ++ node_text cells i)

-- 'Root lines: output, reference'
unfoldable pub root_line : List ℕ → ℕ → List ℕ
root_line roots j = root-keyword ++ (spaced j ++ (spaced (get_or roots j 0) ++ newline))

-- the lines of the cells counted and lent, then of the roots
unfoldable pub network_lines : ℕ → ℕ → List ℕ → List ℕ → List ℕ
network_lines count m roots cells = in_turn (cell_line cells) (min count (length cells / 3)) ++ in_turn (root_line roots) m

-- the held cells and roots; none where no network is held
unfoldable pub held_lines : State → List ℕ → List ℕ → List ℕ
held_lines s roots cells = cond (is_network (stage_of s)) (network_lines s.count s.m roots cells) []

-- the order line of a state
unfoldable pub state_order : State → List ℕ
state_order s = order_line (min s.n most_variables) s.order

-- the lines of the cared bits and of the count
unfoldable pub total_lines : ℕ → ℕ → List ℕ
total_lines cared count = line cared-keyword cared ++ line cells-keyword count

-- the lines above the cells
unfoldable pub heading_lines : State → ℕ → List ℕ
heading_lines s cared =
    line inputs-keyword s.n ++ (line outputs-keyword s.m ++ (state_order s ++ total_lines cared s.count))

-- section 8's whole output for a table and its network
unfoldable pub network_text : State → ℕ → List ℕ → List ℕ → List ℕ
network_text s cared roots cells = heading_lines s cared ++ held_lines s roots cells
