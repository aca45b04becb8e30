-- Number 24 in the paper's words, and that bit j of the answer is output j.
-- Assumes nothing.
use mathlib.Core.Path.{◌≡◌, sym, ap, ◌∙◌, subst}
use mathlib.Core.Bool.{Bool, true, false, ◌&&◌}
use mathlib.Core.List.{List}
use mathlib.Core.Logic.{◌⊎◌, inl, inr, ⊎_elim}
use Prim.Native.Nat.{ℕ, ◌+◌, ◌*◌, ◌-◌, ◌/◌, ◌≤◌, ◌<◌}
use native.Mathlib.Omega.{arith}
use borrow.Author.Tests.{ltb-true, ltb-false, lt-ltb}
use lib.Dec.{T, ltb, leb, leb→le, le→leb, ltb→lt, lt→ltb}
use lib.ListN.{length, get_or}
use Rattle.lists.specs.Lists.{all, up_to}
use Rattle.lists.proofs.Bools.{split, to-T, absurd-T, and_T, and_l, and_r}
use Rattle.lists.proofs.Numbers.Compared.{all-up_to-at, all-up_to-of}
use Rattle.diagram.specs.Networks.Diagram.{edge, later, refers, node_good, well_formed}
use Rattle.table.specs.declared.State.{State}
use Rattle.lent.specs.Lent.{number_in, lent_node, lent_cells, lent_diagram}
use Rattle.lent.specs.Evaluate.{good_cells}
use Rattle.lent.proofs.Nodes.{all-nodes, lent-diagram}
use Rattle.lent.proofs.Tested.{good_node, own_root, refers-own, refers-below, later-constant, later-past, later-own, both-tests}

-- an edge r of a cell at level p: 'a reference above 2 × count + 1, or an arrow not to a later place or constant' it is not
pub record EdgeFine (count : ℕ) (cells : List ℕ) (p r : ℕ) : Type 0 where
  pub known : r ≤ 2 * count + 1
  pub onward : (r < 2) ⊎ (p < get_or cells (3 * (r / 2 - 1)) 0)

-- none of what number 24 is given for
pub record Fine (n m count : ℕ) (roots cells : List ℕ) : Type 0 where
  pub enough : count ≤ length cells / 3
  pub levels : (i : ℕ) → i < count → get_or cells (3 * i) 0 < n
  pub edges : (i : ℕ) → i < count → (b : Bool) → EdgeFine count cells (get_or cells (3 * i) 0) (edge b (lent_node cells i))
  pub references : (j : ℕ) → j < m → get_or roots j 0 ≤ 2 * count + 1

module _ (count : ℕ) (cells : List ℕ) where
  own-known : (r : ℕ) → T (refers true (lent_cells count cells) r) → r ≤ 2 * count + 1
  own-known r t = omega (arith, refers-below count (number_in cells) r t)

  known-own : (r : ℕ) → r ≤ 2 * count + 1 → T (refers true (lent_cells count cells) r)
  known-own r h = to-T (refers-own count (number_in cells) r (omega arith))

  edge-fine : (p r : ℕ) → T (later true (lent_cells count cells) p r) → EdgeFine count cells p r
  edge-fine p r t =
      split (ltb r 2) (λ e. let h = ltb-true r 2 e in record { known = omega arith; onward = inl h })
      (λ e. let h = ltb-false r 2 e in
      split (ltb (count + count + 1) r) (λ q. absurd-T t (later-past count (number_in cells) p r h (ltb-true (count + count + 1) r q)))
      (λ q. let k = ltb-false (count + count + 1) r q in
      let l : T (ltb p (get_or cells (3 * (r / 2 - 1)) 0)) = subst T (later-own count (number_in cells) p r h k) t in
      record { known = omega arith; onward = inr (ltb→lt p (get_or cells (3 * (r / 2 - 1)) 0) l) }))

  fine-edge : (p r : ℕ) → EdgeFine count cells p r → T (later true (lent_cells count cells) p r)
  fine-edge p r f =
      split (ltb r 2) (λ e. to-T (later-constant count (number_in cells) p r (ltb-true r 2 e)))
      (λ e. let h = ltb-false r 2 e in
      ⊎_elim (λ l. absurd (omega arith))
      (λ l. to-T (later-own count (number_in cells) p r h (omega (arith, f.known)) ∙ lt-ltb p (get_or cells (3 * (r / 2 - 1)) 0) l))
      f.onward)

-- the low or high edge of cell i, by its test
abbrev later_edge : ℕ → List ℕ → ℕ → Bool → Bool
later_edge count cells i b = later true (lent_cells count cells) (get_or cells (3 * i) 0) (edge b (lent_node cells i))

-- a cell is good where its level is below n and both edges are fine, and only there
module _ (n count : ℕ) (cells : List ℕ) (i : ℕ) where
  good-level : T (good_node count (number_in cells) n i) → get_or cells (3 * i) 0 < n
  good-level t =
      ltb→lt (get_or cells (3 * i) 0) n (and_l (ltb (get_or cells (3 * i) 0) n) (later_edge count cells i false && later_edge count cells i true)
      t)

  good-edge : T (good_node count (number_in cells) n i) → (b : Bool) → T (later_edge count cells i b)
  good-edge t b = step b (and_r (ltb (get_or cells (3 * i) 0) n) (later_edge count cells i false && later_edge count cells i true) t)
    where
      step : (b : Bool) → T (later_edge count cells i false && later_edge count cells i true) → T (later_edge count cells i b)
      step false u = and_l (later_edge count cells i false) (later_edge count cells i true) u
      step true u = and_r (later_edge count cells i false) (later_edge count cells i true) u

  good-node : get_or cells (3 * i) 0 < n → ((b : Bool) → T (later_edge count cells i b)) → T (good_node count (number_in cells) n i)
  good-node h f =
      and_T (ltb (get_or cells (3 * i) 0) n) (later_edge count cells i false && later_edge count cells i true)
      (lt→ltb (get_or cells (3 * i) 0) n h)
      (and_T (later_edge count cells i false) (later_edge count cells i true) (f false) (f true))

-- both tests, by index
tests-by-index : (n m count : ℕ) (roots cells : List ℕ) → m ≤ length roots
    → well_formed true n m (lent_diagram count m cells roots)
    ≡ all (own_root count (number_in cells) (number_in roots)) (up_to m) && all (good_node count (number_in cells) n) (up_to count)
tests-by-index n m count roots cells fit =
    let R = all (own_root count (number_in cells) (number_in roots)) (up_to m) in
    ap (well_formed true n m) (lent-diagram count m cells roots fit)
    ∙ both-tests count (number_in cells) (number_in roots) m n
    ∙ ap (λ (b : Bool). R && b) (all-nodes count (number_in cells) (node_good true n (lent_cells count cells)))

-- the test passes where nothing is there that number 24 is given for, and only there
module _ (s : State) (roots cells : List ℕ) (fit : s.m ≤ length roots) where
  pub passed-fine : T (good_cells s roots cells) → Fine s.n s.m s.count roots cells
  unfolding good_cells
  passed-fine t =
      let c = s.count in
      let R : Bool = all (own_root c (number_in cells) (number_in roots)) (up_to s.m) in
      let N : Bool = all (good_node c (number_in cells) s.n) (up_to c) in
      let w : Bool = well_formed true s.n s.m (lent_diagram c s.m cells roots) in
      let u : T (R && N) = subst T (tests-by-index s.n s.m c roots cells fit) (and_r (leb c (length cells / 3)) w t) in
      let own = all-up_to-at (own_root c (number_in cells) (number_in roots)) s.m (and_l R N u) in
      let good = all-up_to-at (good_node c (number_in cells) s.n) c (and_r R N u) in
      record {
        enough = leb→le c (length cells / 3) (and_l (leb c (length cells / 3)) w t);
        levels = λ i h. good-level s.n c cells i (good i h);
        edges = λ i h b. edge-fine c cells (get_or cells (3 * i) 0) (edge b (lent_node cells i)) (good-edge s.n c cells i (good i h) b);
        references = λ j h. own-known c cells (get_or roots j 0) (own j h);
      }

  pub fine-passed : Fine s.n s.m s.count roots cells → T (good_cells s roots cells)
  unfolding good_cells
  fine-passed f =
      let c = s.count in
      let R : Bool = all (own_root c (number_in cells) (number_in roots)) (up_to s.m) in
      let N : Bool = all (good_node c (number_in cells) s.n) (up_to c) in
      let own : T R = all-up_to-of (own_root c (number_in cells) (number_in roots)) s.m
      (λ j h. known-own c cells (get_or roots j 0) (f.references j h)) in
      let good : T N = all-up_to-of (good_node c (number_in cells) s.n) c
      (λ i h. good-node s.n c cells i (f.levels i h)
      (λ b. fine-edge c cells (get_or cells (3 * i) 0) (edge b (lent_node cells i)) (f.edges i h b))) in
      and_T (leb c (length cells / 3)) (well_formed true s.n s.m (lent_diagram c s.m cells roots))
      (le→leb c (length cells / 3) f.enough)
      (subst T (sym (tests-by-index s.n s.m c roots cells fit)) (and_T R N own good))
