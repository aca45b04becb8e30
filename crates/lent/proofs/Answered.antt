-- What the tests that were passed say of the state, the lent cells and the roots, and what evaluation then answers.
-- Assumes nothing.
use Rattle.std.specs.Prelude.{Ok}
use mathlib.Core.Path.{◌≡◌, refl, sym, ap, ◌∙◌}
use mathlib.Core.Bool.{Bool, true, false, not, cond, and-false}
use mathlib.Core.List.{List, []}
use Prim.Native.Nat.{ℕ, zero, suc, ◌*◌, ◌/◌, ◌%◌, ◌^◌, ◌≤◌, ◌<◌}
use native.Mathlib.Nat.{min-eq_right, le_of_lt}
use native.Mathlib.Omega.{arith}
use borrow.Author.Tests.{lt-ltb, le-leb, lt-leb, ne_eqb}
use lib.Dec.{T, eqb, ltb, leb, leb→le}
use lib.ListN.{length, get_or, take, length-take}
use lib.Seq.{take-length, length-take-le}
use Rattle.lists.specs.Bits.{flip, packed}
use Rattle.lists.proofs.Bools.{to-T, and_l, and_r}
use lib.Pow.{pow_mono}
use Rattle.lists.proofs.Bits.Digits.{one_shifted}
use Rattle.lists.proofs.Bits.Packed.{packed_lt}
use Rattle.diagram.specs.Networks.Diagram.{Node, Diagram, inverts, well_formed, gives}
use Rattle.diagram.specs.Networks.Bound.{most_variables, most_outputs}
use Rattle.diagram.specs.Orders.Order.{row_under}
use Rattle.diagram.proofs.Networks.Evaluate.{formed-roots, formed-nodes}
use Rattle.table.specs.declared.Stage.{Stage}
use Rattle.table.specs.declared.Stage.TheVariants.{Nothing, Table as AtTable, Network}
use Rattle.table.specs.declared.State.{State}
use Rattle.table.specs.State.{order_of, stage_of, is_nothing, is_network}
use Rattle.table.proofs.Held.{few-inputs, few-outputs, ordered}
use Rattle.lent.specs.Lent.{cells_by, lent_cells, lent_diagram, roots_size}
use Rattle.lent.specs.Inner.Cells.{Followable, Rooted}
use Rattle.lent.specs.Inner.Tabulate.{Evaluable}
use Rattle.lent.specs.Evaluate.{good_cells, row_outputs, evaluate_answer}

pub network-held : (t : Stage) → T (is_network t) → T (not (is_nothing t))
network-held Nothing h = h
network-held AtTable h = tt
network-held Network h = tt

-- what a row gives does not depend on the roots
pub gives-roots : (cs : List Node) (rs rs' : List ℕ) (a : ℕ → Bool) (k r : ℕ)
    → gives true (record { nodes = cs; roots = rs }) a k r ≡ gives true (record { nodes = cs; roots = rs' }) a k r
unfolding gives
gives-roots cs rs rs' a zero r = refl
gives-roots cs rs rs' a (suc k) r =
    ap (λ (b : Bool). cond (ltb r 2) (eqb r 1) (flip (inverts true r) b)) (gives-roots cs rs rs' a k _)

-- what a row gives at root j, where a p is its bit at level p
abbrev pub given_at : Diagram → (ℕ → Bool) → ℕ → List ℕ → ℕ → Bool
given_at D a n roots j = gives true D a n (get_or roots j 0)

-- the outputs of the lent diagram are those of its cells
pub outputs-row : (s : State) (row : ℕ) (roots cells : List ℕ)
    → packed s.m (given_at (lent_cells s.count cells) (row_under s.n (order_of s) row) s.n roots) ≡ row_outputs s row roots cells
unfolding row_outputs lent_diagram cells_by
outputs-row s row roots cells =
    ap (packed s.m)
    (λ i j. gives-roots (lent_cells s.count cells).nodes [] (take s.m roots) (row_under s.n (order_of s) row) s.n (get_or roots j 0) i)

-- each output is a bit, so they fit 16 bits
pub outputs-small : (s : State) (row : ℕ) (roots cells : List ℕ) → s.m ≤ most_outputs → row_outputs s row roots cells < 65536
unfolding row_outputs
outputs-small s row roots cells few = omega (arith, packed_lt s.m (λ j. gives true (lent_diagram s.count s.m cells roots) (row_under s.n (order_of s) row) s.n (get_or roots j 0)), pow_mono {i = s.m} {j = most_outputs} few)

-- number 24: the cells are enough for the count, and with the roots well-formed
module _ (s : State) (roots cells : List ℕ) where
  pub few-cells : length cells / 3 < s.count → good_cells s roots cells ≡ false
  unfolding good_cells
  few-cells h = rw (lt-leb s.count (length cells / 3) h)

  pub enough-cells : s.count ≤ length cells / 3
      → good_cells s roots cells ≡ well_formed true s.n s.m (lent_diagram s.count s.m cells roots)
  unfolding good_cells
  enough-cells h = rw (le-leb s.count (length cells / 3) h)

  -- fewer roots than outputs are no well-formed diagram's
  pub few-roots : length roots < s.m → good_cells s roots cells ≡ false
  unfolding good_cells well_formed lent_diagram
  few-roots h =
      let short : length (take s.m roots) ≡ length roots = length-take s.m roots ∙ min-eq_right (le_of_lt h) in
      rw (ne_eqb (length (take s.m roots)) s.m (λ e. omega arith)) (and-false (leb s.count (length cells / 3)))

  -- with the first roots in hand
  pub first-roots : s.count ≤ length cells / 3 → s.m ≤ length roots
      → well_formed true s.n (length (take s.m roots)) (lent_diagram s.count (length (take s.m roots)) cells (take s.m roots))
      ≡ good_cells s roots cells
  unfolding good_cells lent_diagram
  first-roots h k =
      let e = length-take-le s.m roots k in
      rw (le-leb s.count (length cells / 3) h, take-length (take s.m roots), e)

  module _ (good : good_cells s roots cells ≡ true) where
    good-enough : s.count ≤ length cells / 3
    unfolding good_cells
    good-enough = leb→le s.count (length cells / 3) (and_l (leb s.count (length cells / 3)) _ (to-T good))

    good-formed : T (well_formed true s.n s.m (lent_diagram s.count s.m cells roots))
    unfolding good_cells
    good-formed = and_r (leb s.count (length cells / 3)) _ (to-T good)

-- a network is held
module _ (s : State) (held : is_network (stage_of s) ≡ true) where
  table : T (not (is_nothing (stage_of s)))
  table = network-held (stage_of s) (to-T held)

  pub held_few : s.n ≤ most_variables
  held_few = few-inputs s table

  -- 1 << n is 2ⁿ
  pub held_rows : 1 * 2 ^ s.n % 18446744073709551616 ≡ 2 ^ s.n
  held_rows = one_shifted s.n (omega (arith, held_few))

-- and no root is missing
module _ (s : State) (roots cells : List ℕ) (long : most_outputs ≤ length roots) (held : is_network (stage_of s) ≡ true)
    (good : good_cells s roots cells ≡ true) where
  pub followable : Followable s.n s.count s.order cells
  unfolding lent_diagram cells_by
  followable =
      record {
        levelled =
            record {
              few = held_few s held;
              held = good-enough s roots cells good;
              good = formed-nodes true s.n s.m (lent_diagram s.count s.m cells roots) (good-formed s roots cells good);
            };
        ordered = ordered s (table s held);
      }

  pub rooted : Rooted s.m s.count roots cells
  unfolding lent_diagram cells_by
  rooted = record {
    few = few-outputs s (table s held);
    fit = omega (arith, few-outputs s (table s held));
    own = formed-roots true s.n s.m (lent_diagram s.count s.m cells roots) (good-formed s roots cells good);
  }

  pub evaluable : Evaluable s roots cells
  evaluable = record { followable = followable; rooted = rooted }

-- evaluating one row, by what the row gives at each root along the cells
pub answer-done : (s : State) (row : ℕ) (roots cells : List ℕ) → most_outputs ≤ length roots → is_network (stage_of s) ≡ true
    → row < 2 ^ s.n → good_cells s roots cells ≡ true
    → (x : ℕ) → x ≡ packed s.m (given_at (lent_cells s.count cells) (row_under s.n (order_of s) row) s.n roots)
    → evaluate_answer s row roots cells ≡ Ok x
unfolding evaluate_answer roots_size
answer-done s row roots cells long held known good x d =
    rw (le-leb most_outputs (length roots) long, held, lt-ltb row (2 ^ s.n) known, good) (ap Ok (sym (d ∙ outputs-row s row roots cells)))
