-- The lines, written part by part.
-- Assumes nothing.
use mathlib.Core.Path.{◌≡◌, refl, sym, ap, ap₂, ◌∙◌}
use mathlib.Core.List.{List, ◌++◌}
use mathlib.Core.Bool.{Bool, true, false}
use Prim.Native.Nat.{ℕ, zero, suc, ◌+◌, ◌*◌, ◌/◌, ◌≤◌, ◌<◌, min}
use native.Mathlib.Omega.{arith}
use lib.ListN.{length, get_or, take, drop}
use Rattle.std.specs.Simd.{first_chunks}
use lib.Seq.{length-take-le, get_or-take, get_or-drop}
use Rattle.diagram.specs.Networks.Bound.{most_variables}
use Rattle.table.specs.declared.State.{State}
use Rattle.table.specs.State.{stage_of, is_network}
use Rattle.text.specs.Text.{inputs-keyword, outputs-keyword, order-keyword, cared-keyword, cells-keyword, cell-keyword, root-keyword}
use Rattle.text.specs.Text.{newline, spaced, in_turn, line, order_line, node_text, cell_line}
use Rattle.text.specs.Text.{root_line, network_lines, held_lines, state_order, total_lines, heading_lines, network_text}
use Rattle.text.specs.Written.{Written}
use Rattle.text.proofs.Writing.{written_then, written_as, written-nothing}

-- the number is known by another name
spaced-as : {l m : List ℕ} {i j x y : ℕ} → x ≡ y → Written l m i j (spaced x) → Written l m i j (spaced y)
spaced-as e w = written_as (ap spaced e) w

pub written-line : {l m n o : List ℕ} {i j k q : ℕ} (w : List ℕ) (x : ℕ) → Written l m i j w → Written m n j k (spaced x)
    → Written n o k q newline → Written l o i q (line w x)
unfolding line
written-line w x u v e = written_then u (written_then v e)

pub written-node : {l m n o z : List ℕ} {i j k q t : ℕ} (cells : List ℕ) (p a b c : ℕ) → a ≡ get_or cells (3 * p) 0
    → b ≡ get_or cells (3 * p + 1) 0 → c ≡ get_or cells (3 * p + 2) 0 → Written l m i j (spaced a) → Written m n j k (spaced b)
    → Written n o k q (spaced c) → Written o z q t newline → Written l z i t (node_text cells p)
unfolding node_text
written-node cells p a b c f g h u v w e =
    written_then (spaced-as f u) (written_then (spaced-as g v) (written_then (spaced-as h w) e))

-- three numbers of a list of cells, read one after the other

chunk-at : (k i j : ℕ) (cells d : List ℕ) → i < k → j < 3 → get_or (get_or (first_chunks 3 k cells) i d) j 0 ≡ get_or cells (3 * i + j) 0
chunk-at zero i j cells d h l = absurd (omega arith)
chunk-at (suc k) zero j cells d h l = get_or-take 3 cells j 0 l ∙ ap (λ (n : ℕ). get_or cells n 0) (omega arith)
chunk-at (suc k) (suc i) j cells d h l =
    chunk-at k i j (drop 3 cells) d (omega arith) l ∙ get_or-drop 3 cells (3 * i + j) 0 ∙ ap (λ (n : ℕ). get_or cells n 0) (omega arith)

chunk-text : (k i : ℕ) (cells d : List ℕ) → i < k → node_text (get_or (first_chunks 3 k cells) i d) 0 ≡ node_text cells i
unfolding node_text
chunk-text k i cells d h =
    let start : get_or cells (3 * i + 0) 0 ≡ get_or cells (3 * i) 0 = ap (λ (n : ℕ). get_or cells n 0) (omega arith) in
    ap₂ (λ (x : ℕ) (rest : List ℕ). spaced x ++ rest) (chunk-at k i 0 cells d h (omega arith) ∙ start)
    (ap₂ (λ (x y : ℕ). spaced x ++ (spaced y ++ newline)) (chunk-at k i 1 cells d h (omega arith)) (chunk-at k i 2 cells d h (omega arith)))

-- the line of a cell that is read as three numbers, of the first m
pub cell-read : (k m i : ℕ) (cells d : List ℕ) → i < k → i < m
    → cell-keyword ++ (spaced (i + 1) ++ node_text (get_or (take m (first_chunks 3 k cells)) i d) 0) ≡ cell_line cells i
unfolding cell_line
cell-read k m i cells d h l =
    ap (λ (text : List ℕ). cell-keyword ++ (spaced (i + 1) ++ text))
    (ap (λ (cell : List ℕ). node_text cell 0) (get_or-take m (first_chunks 3 k cells) i d l) ∙ chunk-text k i cells d h)

pub written-root : {l m n o z : List ℕ} {i j k q t : ℕ} (roots : List ℕ) (p a : ℕ) → a ≡ get_or roots p 0
    → Written l m i j root-keyword → Written m n j k (spaced p) → Written n o k q (spaced a) → Written o z q t newline
    → Written l z i t (root_line roots p)
unfolding root_line
written-root roots p a f u v w e = written_then u (written_then v (written_then (spaced-as f w) e))

-- the entries of an order are its first ones
first-entries : (order : List ℕ) (n k : ℕ) → k ≤ n
    → in_turn (λ p. spaced (get_or (take n order) p 0)) k ≡ in_turn (λ p. spaced (get_or order p 0)) k
first-entries order n zero h = refl
first-entries order n (suc k) h =
    ap₂ ◌++◌ (first-entries order n k (omega arith)) (ap spaced (get_or-take n order k 0 (omega arith)))

pub written-order : {l m n o : List ℕ} {i j k q : ℕ} (s : State) (a : ℕ) → a ≡ min s.n most_variables → a ≤ length s.order
    → Written l m i j order-keyword → Written m n j k (in_turn (λ p. spaced (get_or (take a s.order) p 0)) (length (take a s.order)))
    → Written n o k q newline → Written l o i q (state_order s)
unfolding state_order order_line
written-order s a e h u v w =
    let long : length (take a s.order) ≡ a = length-take-le a s.order h in
    let same : in_turn (λ p. spaced (get_or (take a s.order) p 0)) (length (take a s.order))
    ≡ in_turn (λ p. spaced (get_or s.order p 0)) (min s.n most_variables) =
    ap (in_turn (λ p. spaced (get_or (take a s.order) p 0))) long ∙ first-entries s.order a a (omega arith)
    ∙ ap (in_turn (λ p. spaced (get_or s.order p 0))) e in
    written_then u (written_then (written_as same v) w)

pub written-unheld : {l : List ℕ} {i : ℕ} (s : State) (roots cells : List ℕ) (b : Bool) → b ≡ is_network (stage_of s) → b ≡ false
    → i ≤ length l → Written l l i i (held_lines s roots cells)
unfolding held_lines
written-unheld s roots cells b p e h = rw (sym p ∙ e) (written-nothing h)

pub written_held : {l m n : List ℕ} {i j k : ℕ} (s : State) (roots cells : List ℕ) (b : Bool) → b ≡ is_network (stage_of s) → b ≡ true
    → Written l m i j (in_turn (cell_line cells) (min s.count (length cells / 3))) → Written m n j k (in_turn (root_line roots) s.m)
    → Written l n i k (held_lines s roots cells)
unfolding held_lines network_lines
written_held s roots cells b p e u v = rw (sym p ∙ e) (written_then u v)

pub written-totals : {l m n : List ℕ} {i j k : ℕ} (cared count : ℕ) → Written l m i j (line cared-keyword cared)
    → Written m n j k (line cells-keyword count) → Written l n i k (total_lines cared count)
unfolding total_lines
written-totals cared count u v = written_then u v

pub written-heading : {l m n o z : List ℕ} {i j k q t : ℕ} (s : State) (cared : ℕ) → Written l m i j (line inputs-keyword s.n)
    → Written m n j k (line outputs-keyword s.m) → Written n o k q (state_order s) → Written o z q t (total_lines cared s.count)
    → Written l z i t (heading_lines s cared)
unfolding heading_lines
written-heading s cared u v w e = written_then u (written_then v (written_then w e))

pub written-network : {l m n : List ℕ} {i j k : ℕ} (s : State) (cared : ℕ) (roots cells : List ℕ) → Written l m i j (heading_lines s cared)
    → Written m n j k (held_lines s roots cells) → Written l n i k (network_text s cared roots cells)
unfolding network_text
written-network s cared roots cells u v = written_then u v
