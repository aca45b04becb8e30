-- Following a row from cell to cell: the variable at a level, the edge that is taken, that what the row gives at the root is kept, and that bits
-- packed by level give the same.
-- Assumes nothing.
use mathlib.Core.Path.{◌≡◌, refl, sym, ap, ◌∙◌}
use mathlib.Core.Bool.{Bool, true, false, not, beq, cond}
use mathlib.Core.List.{List}
use Prim.Native.Nat.{ℕ, zero, suc, ◌+◌, ◌*◌, ◌-◌, ◌/◌, ◌≤◌, ◌<◌}
use native.Mathlib.Omega.{arith}
use borrow.Author.Tests.{lt-ltb, le-ltb}
use lib.Dec.{T, eqb, ltb}
use lib.ListN.{get_or, take}
use lib.Seq.{get_or-take}
use Rattle.lists.specs.Bits.{flip, packed}
use Rattle.lists.proofs.Bools.{split}
use Rattle.diagram.specs.Orders.Order.{is_order}
use Rattle.diagram.specs.Networks.Diagram.{Node, Diagram, edge, inverts, node_at, refers, gives}
use Rattle.diagram.proofs.Orders.Order.{order-at}
use Rattle.diagram.proofs.Networks.Reference.{from, from-reached}
use Rattle.diagram.proofs.Networks.Right.{from-refers}
use Rattle.diagram.proofs.Networks.Function.{Good, node-level, node-edge, gives-constant}
use Rattle.diagram.proofs.Networks.Evaluate.{from-top, gives-edge}
use Rattle.lent.specs.Lent.{number_in, lent_node, lent_cells}
use Rattle.lent.specs.Inner.Cells.{Levelled, level_bit}
use Rattle.lent.proofs.LevelBits.{level-packed}
use Rattle.lent.proofs.Tested.{refers-below, node-behind}

-- the variable at level p

pub variable-below : (n : ℕ) (order : List ℕ) → T (is_order n (take n order)) → (p : ℕ) → p < n → get_or order p 0 < n
variable-below n order o p h = omega (arith, order-at n (take n order) o p h, get_or-take n order p 0 h)

-- the cell behind a reference, and its edge for the row's bit

module _ (n count : ℕ) (cells : List ℕ) (ok : Levelled n count cells) (r : ℕ) (big : 2 ≤ r)
    (own : T (refers true (lent_cells count cells) r)) where
  pub own-le : r ≤ count + count + 1
  own-le = refers-below count (number_in cells) r own

  behind : node_at true (lent_cells count cells) r ≡ lent_node cells (r / 2 - 1)
  behind = node-behind count (number_in cells) r big own-le

  pub level-below : get_or cells (3 * (r / 2 - 1)) 0 < n
  level-below =
      let h = node-level true n (lent_cells count cells) ok.good 0 r (from-top true (lent_cells count cells) r own) (le-ltb r 2 big) in
      rw (behind) at h

  pub edge-behind : (a : ℕ → Bool) (p : ℕ) → p ≡ get_or cells (3 * (r / 2 - 1)) 0
      → edge (a p) (lent_node cells (r / 2 - 1))
      ≡ edge (a (node_at true (lent_cells count cells) r).level) (node_at true (lent_cells count cells) r)
  edge-behind a p level =
      ap (λ (q : ℕ). edge (a q) (lent_node cells (r / 2 - 1))) level ∙ ap (λ (c : Node). edge (a c.level) c) (sym behind)

-- the levels that are left at a reference: none at a constant
unfoldable pub left : ℕ → Diagram → ℕ → ℕ
left n D r = cond (ltb r 2) 0 (n - (node_at true D r).level)

-- the code's ^ inverts, whichever side is asked
pub xor-flip : (i b : Bool) → not (beq i b) ≡ flip i b
xor-flip true true = refl
xor-flip true false = refl
xor-flip false true = refl
xor-flip false false = refl

pub xor-flipped : (i b : Bool) → not (beq i b) ≡ flip b i
xor-flipped true true = refl
xor-flipped true false = refl
xor-flipped false true = refl
xor-flipped false false = refl

flip_twice : (i j b : Bool) → flip i (flip j b) ≡ flip (flip j i) b
flip_twice true true true = refl
flip_twice true true false = refl
flip_twice true false b = refl
flip_twice false true b = refl
flip_twice false false b = refl

-- one step, to x: the reference stays the diagram's own, fewer levels are left, and what the row gives at the root is kept
module _ (n : ℕ) (D : Diagram) (good : Good true n D) (a : ℕ → Bool) (r : ℕ) (own : T (refers true D r)) (big : 2 ≤ r)
    (x : ℕ) (step : x ≡ edge (a (node_at true D r).level) (node_at true D r)) where
  onward : T (from true D (suc (node_at true D r).level) x)
  onward = rw step (node-edge true n D good 0 r (from-top true D r own) (le-ltb r 2 big) (a (node_at true D r).level))

  pub step-own : T (refers true D x)
  step-own = from-refers true D (suc (node_at true D r).level) x onward

  pub step_falls : left n D x < left n D r
  unfolding left
  step_falls =
      let h : (node_at true D r).level < n = node-level true n D good 0 r (from-top true D r own) (le-ltb r 2 big) in
      split (ltb x 2) (λ e. rw (e, le-ltb r 2 big) (omega arith))
      (λ e. let k = (from-reached true D (suc (node_at true D r).level) x onward e).deep in rw (e, le-ltb r 2 big) (omega arith))

  pub step_gives : (root : ℕ) (i : Bool) → gives true D a n root ≡ flip i (gives true D a n r)
      → (j : Bool) → j ≡ flip (inverts true r) i → gives true D a n root ≡ flip j (gives true D a n x)
  step_gives root i e j q =
      e ∙ ap (flip i) (gives-edge true n D good a r own big ∙ ap (λ (y : ℕ). flip (inverts true r) (gives true D a n y)) (sym step))
      ∙ flip_twice i (inverts true r) (gives true D a n x) ∙ ap (λ (k : Bool). flip k (gives true D a n x)) (sym q)

-- at a constant nothing is left to follow
pub last-gives : (D : Diagram) (a : ℕ → Bool) (n root r : ℕ) → r < 2 → (i : Bool) → gives true D a n root ≡ flip i (gives true D a n r)
    → flip i (eqb r 1) ≡ gives true D a n root
last-gives D a n root r h i e = ap (flip i) (sym (gives-constant true D a n r (lt-ltb r 2 h))) ∙ sym e

-- rows that agree at every level give the same, since the levels on the way are below n
module _ (n : ℕ) (D : Diagram) (good : Good true n D) (a b : ℕ → Bool) (agree : (p : ℕ) → p < n → a p ≡ b p) where
  pub gives-agree : (k r : ℕ) → T (refers true D r) → gives true D a k r ≡ gives true D b k r
  unfolding gives
  gives-agree zero r own = refl
  gives-agree (suc k) r own =
      split (ltb r 2) (λ e. rw e)
      (λ e. let p = (node_at true D r).level in
      let x = edge (b p) (node_at true D r) in
      let t = from-top true D r own in
      let on = node-edge true n D good 0 r t e (b p) in
      rw (e, agree p (node-level true n D good 0 r t e))
      (ap (flip (inverts true r)) (gives-agree k x (from-refers true D (suc p) x on))))

-- a row whose bits are packed by level gives what the row itself gives
pub packed-gives : (n : ℕ) (D : Diagram) → Good true n D → (f : ℕ → Bool) (bits : ℕ) → bits ≡ packed n f
    → (r : ℕ) → T (refers true D r) → gives true D (level_bit bits) n r ≡ gives true D f n r
packed-gives n D good f bits e r own = gives-agree n D good (level_bit bits) f (level-packed n f bits e) n r own
