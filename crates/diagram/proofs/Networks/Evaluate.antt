-- Section 4's words for evaluation, as equations of `gives` in any well-formed diagram: steps beyond n change nothing, and n steps give at
-- a reference what the sentence says.
-- Assumes nothing.
use mathlib.Core.Path.{◌≡◌, refl, sym, ap, ◌∙◌}
use mathlib.Core.Bool.{Bool, true, false, not, ◌&&◌}
use Prim.Native.Nat.{ℕ, suc, ◌+◌, ◌*◌, ◌-◌, ◌/◌, ◌%◌, ◌≤◌, ◌<◌}
use native.Mathlib.Nat.{le_refl, le-suc}
use native.Mathlib.Omega.{arith}
use lib.Dec.{T, eqb, le→leb}
use lib.ListN.{length, get_or}
use Rattle.lists.specs.Lists.{all}
use Rattle.lists.specs.Bits.{flip}
use Rattle.lists.proofs.Bools.{and_l, and_r}
use Rattle.diagram.specs.Networks.Diagram.{Diagram, edge, inverts, node_at, refers, node_good, well_formed, gives}
use Rattle.diagram.proofs.Networks.Reference.{from, from-node}
use Rattle.diagram.proofs.Networks.Right.{gives-node, gives-digit}
use Rattle.diagram.proofs.Networks.Function.{Good, function-gives}

-- the parts of being well-formed
module _ (inv : Bool) (n m : ℕ) (D : Diagram) (w : T (well_formed inv n m D)) where
  rest : T (all (refers inv D) D.roots && all (node_good inv n D) D.nodes)
  unfolding well_formed
  rest = and_r (eqb (length D.roots) m) (all (refers inv D) D.roots && all (node_good inv n D) D.nodes) w

  pub formed-length : T (eqb (length D.roots) m)
  unfolding well_formed
  formed-length = and_l (eqb (length D.roots) m) (all (refers inv D) D.roots && all (node_good inv n D) D.nodes) w

  pub formed-roots : T (all (refers inv D) D.roots)
  formed-roots = and_l (all (refers inv D) D.roots) (all (node_good inv n D) D.nodes) rest

  pub formed-nodes : Good inv n D
  formed-nodes = and_r (all (refers inv D) D.roots) (all (node_good inv n D) D.nodes) rest

pub from-top : (inv : Bool) (D : Diagram) (r : ℕ) → T (refers inv D r) → T (from inv D 0 r)
from-top inv D r t = from-node inv D 0 r t (omega arith)

module _ (inv : Bool) (n : ℕ) (D : Diagram) (good : Good inv n D) (a : ℕ → Bool) (r : ℕ) (own : T (refers inv D r)) where
  pub gives_more : (k : ℕ) → n ≤ k → gives inv D a k r ≡ gives inv D a n r
  gives_more k h =
      function-gives inv n D good a n 0 r k (omega arith) h (from-top inv D r own)
      ∙ sym (function-gives inv n D good a n 0 r n (omega arith) (le_refl n) (from-top inv D r own))

  -- at a node's reference a row gives what it gives at the node's edge for its bit, inverted where the reference inverts
  pub gives-edge : 2 ≤ r
      → gives inv D a n r ≡ flip (inverts inv r) (gives inv D a n (edge (a (node_at inv D r).level) (node_at inv D r)))
  gives-edge h = sym (gives_more (suc n) (le-suc n)) ∙ gives-node inv D a n r (node_at inv D r) h refl

-- 'a row gives 0 at reference 0 and 1 at reference 1; at 2i what it gives at cell i's arrow for the row's bit of the input at that
-- cell's place in the order; at 2i + 1 the opposite'
module _ (n m : ℕ) (D : Diagram) (w : T (well_formed true n m D)) (a : ℕ → Bool) where
  pub worded-zero : gives true D a n 0 ≡ false
  worded-zero = gives-digit true D a n false

  pub worded-one : gives true D a n 1 ≡ true
  worded-one = gives-digit true D a n true

  pub worded-even : (i : ℕ) → i < length D.nodes → let c = get_or D.nodes i (record { level = 0; low = 0; high = 0 }) in
      gives true D a n (2 * suc i) ≡ gives true D a n (edge (a c.level) c)
  worded-even i h =
      let e : (2 * suc i) % 2 ≡ 0 = omega arith in
      let k : (2 * suc i) / 2 - 1 ≡ i = omega arith in
      gives-edge true n D (formed-nodes true n m D w) a (2 * suc i) (le→leb (2 * suc i) (2 * length D.nodes + 1) (omega arith))
      (omega arith)
      ∙ rw (e, k)

  pub worded-odd : (i : ℕ) → i < length D.nodes → gives true D a n (2 * suc i + 1) ≡ not (gives true D a n (2 * suc i))
  worded-odd i h =
      let e : (2 * suc i + 1) % 2 ≡ 1 = omega arith in
      let k : (2 * suc i + 1) / 2 - 1 ≡ i = omega arith in
      gives-edge true n D (formed-nodes true n m D w) a (2 * suc i + 1) (le→leb (2 * suc i + 1) (2 * length D.nodes + 1) (omega arith))
      (omega arith)
      ∙ rw (e, k) (ap not (sym (worded-even i h)))
