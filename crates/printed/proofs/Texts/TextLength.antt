-- How long the text of a table and its network is, by the digits of its numbers.
-- Assumes nothing.
use mathlib.Core.List.{List, [], ◌∷◌, ◌++◌}
use Prim.Native.Nat.{ℕ, zero, suc, ◌+◌, ◌*◌, ◌/◌, ◌%◌, ◌^◌, ◌≤◌, ◌<◌, min}
use native.Mathlib.Nat.{pow-suc, suc-mul}
use native.Mathlib.Omega.{arith}
use borrow.Author.Tests.{lt-ltb}
use lib.Dec.{ltb}
use lib.ListN.{length, get_or, length-append}
use Rattle.lists.proofs.Bools.{split}
use Rattle.diagram.specs.Networks.Bound.{most_variables, most_outputs, most_nodes}
use Rattle.table.specs.declared.State.{State}
use Rattle.table.specs.State.{stage_of, is_network}
use Rattle.text.specs.Text.{inputs-keyword, outputs-keyword, order-keyword, cared-keyword, cells-keyword, cell-keyword, root-keyword, space}
use Rattle.text.specs.Text.{newline, digits, decimal, spaced, in_turn, line, order_line, node_text}
use Rattle.text.specs.Text.{cell_line, root_line, network_lines, held_lines, state_order, total_lines, heading_lines, network_text}
use Rattle.printed.specs.Output.{text_size}

-- a number below 10 to the k has at most k digits, where k is not 0
digits-few : (f k x : ℕ) → x < 10 ^ suc k → length (digits f x) ≤ suc k
digits-few zero k x h = omega arith
digits-few (suc f) zero x h = rw (lt-ltb x 10 h) (omega arith)
digits-few (suc f) (suc k) x h =
    split (ltb x 10) (λ e. rw e (omega arith))
    (λ e. let b : x / 10 < 10 ^ suc k = omega (arith, pow-suc 10 (suc k)) in
    rw e (omega (arith, length-append (digits f (x / 10)) ((48 + x % 10) ∷ []), digits-few f k (x / 10) b)))

-- and a space before them
spaced-few : (k x : ℕ) → x < 10 ^ suc k → length (spaced x) ≤ suc (suc k)
unfolding spaced decimal
spaced-few k x h = omega (arith, length-append space (digits 19 x), digits-few 19 k x h)

pub spaced-two : (x : ℕ) → x < 100 → length (spaced x) ≤ 3
spaced-two x h = spaced-few 1 x h

spaced-four : (x : ℕ) → x < 10000 → length (spaced x) ≤ 5
spaced-four x h = spaced-few 3 x h

spaced-five : (x : ℕ) → x < 100000 → length (spaced x) ≤ 6
spaced-five x h = spaced-few 4 x h

-- texts of at most c bytes each
in-turn-few : (f : ℕ → List ℕ) (c k : ℕ) → ((i : ℕ) → i < k → length (f i) ≤ c) → length (in_turn f k) ≤ k * c
in-turn-few f c zero h = omega arith
in-turn-few f c (suc k) h =
    omega (arith, length-append (in_turn f k) (f k), in-turn-few f c k (λ i l. h i (omega arith)), h k (omega arith), suc-mul k c)

-- a line of a word and a number
pub line-few : (w : List ℕ) (x c : ℕ) → length (spaced x) ≤ c → length (line w x) ≤ length w + c + 1
unfolding line
line-few w x c h = omega (arith, length-append w (spaced x ++ newline), length-append (spaced x) newline)

-- a line of a cell has at most 28 bytes

node-few : (cells : List ℕ) (i : ℕ) → get_or cells (3 * i) 0 < 100000 → get_or cells (3 * i + 1) 0 < 100000 → get_or cells (3 * i + 2) 0 < 100000
    → length (node_text cells i) ≤ 19
unfolding node_text
node-few cells i p l h =
    let a = get_or cells (3 * i) 0 in
    let b = get_or cells (3 * i + 1) 0 in
    let c = get_or cells (3 * i + 2) 0 in
    omega (
      arith,
      length-append (spaced a) (spaced b ++ (spaced c ++ newline)),
      length-append (spaced b) (spaced c ++ newline),
      length-append (spaced c) newline,
      spaced-five a (omega arith),
      spaced-five b (omega arith),
      spaced-five c (omega arith),
    )

cell-few : (cells : List ℕ) (i : ℕ) → i < most_nodes → length (node_text cells i) ≤ 19 → length (cell_line cells i) ≤ 28
unfolding cell_line
cell-few cells i h k =
    omega (
      arith,
      length-append cell-keyword (spaced (i + 1) ++ node_text cells i),
      length-append (spaced (i + 1)) (node_text cells i),
      spaced-four (i + 1) (omega arith),
    )

-- a line of a root at most 14
root-few : (roots : List ℕ) (j : ℕ) → j < most_outputs → get_or roots j 0 < 100000 → length (root_line roots j) ≤ 14
unfolding root_line
root-few roots j h k =
    let r = get_or roots j 0 in
    omega (
      arith,
      length-append root-keyword (spaced j ++ (spaced r ++ newline)),
      length-append (spaced j) (spaced r ++ newline),
      length-append (spaced r) newline,
      spaced-two j (omega arith),
      spaced-five r (omega arith),
    )

-- a heading by section 1's rules, a count that section 4 bounds, and at most five digits in the entries, the cells counted and the roots
module _ (s : State) (cared : ℕ) (roots cells : List ℕ)
    (few : s.n ≤ most_variables) (outputs : s.m ≤ most_outputs) (fits : s.count ≤ most_nodes) (bits : cared < 100000)
    (entry : (i : ℕ) → i < s.n → get_or s.order i 0 < 100000) (root : (j : ℕ) → j < s.m → get_or roots j 0 < 100000)
    (cell : (i : ℕ) → i < 3 * s.count → get_or cells i 0 < 100000) where
  order-few : length (state_order s) ≤ 6 * most_variables + 6
  unfolding state_order order_line
  order-few =
      let n = min s.n most_variables in
      let f : ℕ → List ℕ = λ i. spaced (get_or s.order i 0) in
      omega (
        arith,
        length-append order-keyword (in_turn f n ++ newline),
        length-append (in_turn f n) newline,
        in-turn-few f 6 n (λ i h. spaced-five (get_or s.order i 0) (entry i (omega arith))),
      )

  totals-few : length (total_lines cared s.count) ≤ 23
  unfolding total_lines
  totals-few =
      omega (
        arith,
        length-append (line cared-keyword cared) (line cells-keyword s.count),
        line-few cared-keyword cared 6 (spaced-five cared bits),
        line-few cells-keyword s.count 5 (spaced-four s.count (omega arith)),
      )

  heading-few : length (heading_lines s cared) ≤ 6 * most_variables + 50
  unfolding heading_lines
  heading-few =
      let a = line inputs-keyword s.n in
      let b = line outputs-keyword s.m in
      let c = total_lines cared s.count in
      omega (
        arith,
        length-append a (b ++ (state_order s ++ c)),
        length-append b (state_order s ++ c),
        length-append (state_order s) c,
        line-few inputs-keyword s.n 3 (spaced-two s.n (omega arith)),
        line-few outputs-keyword s.m 3 (spaced-two s.m (omega arith)),
        order-few,
        totals-few,
      )

  -- 28 bytes a cell and 14 a root
  lines-few : length (network_lines s.count s.m roots cells) ≤ 28 * most_nodes + 14 * most_outputs
  unfolding network_lines
  lines-few =
      let k = min s.count (length cells / 3) in
      omega (
        arith,
        length-append (in_turn (cell_line cells) k) (in_turn (root_line roots) s.m),
        in-turn-few (cell_line cells) 28 k
            (λ i h. cell-few cells i (omega arith)
            (node-few cells i (cell (3 * i) (omega arith)) (cell (3 * i + 1) (omega arith)) (cell (3 * i + 2) (omega arith)))),
        in-turn-few (root_line roots) 14 s.m (λ j h. root-few roots j (omega arith) (root j h)),
      )

  held-few : length (held_lines s roots cells) ≤ 28 * most_nodes + 14 * most_outputs
  unfolding held_lines
  held-few = split (is_network (stage_of s)) (λ e. rw e lines-few) (λ e. rw e (omega arith))

  -- the whole of a table and its network
  pub network-fits : length (network_text s cared roots cells) ≤ text_size
  unfolding network_text
  network-fits = omega (arith, length-append (heading_lines s cared) (held_lines s roots cells), heading-few, held-few)
