-- The numbering of a diagram, level by level, of lent cells.
-- Assumes nothing.
use mathlib.Core.Path.{◌≡◌, refl, sym, ap, ap₂, ◌∙◌}
use mathlib.Core.Bool.{Bool, true, false, cond, ◌&&◌}
use mathlib.Core.List.{List, [], ◌∷◌, ◌++◌}
use Prim.Native.Nat.{ℕ, zero, suc, ◌+◌, ◌≤◌, ◌<◌}
use native.Mathlib.Omega.{arith}
use lib.Dec.{T, eqb, ltb→lt}
use lib.ListN.{length, get_or}
use Rattle.lists.specs.Lists.{all, firsts, equal}
use Rattle.lists.proofs.Bools.{split, and_l, and_r}
use Rattle.lists.proofs.Lists.Membership.{eqb-equality, all-has, keep-cong, keep-length}
use Rattle.diagram.specs.Networks.Diagram.{Node, Diagram}
use Rattle.diagram.specs.Canonical.Structure.{node_on, at_level, targets, spread, standing, range, numbered}
use Rattle.diagram.proofs.Networks.Reference.{target-reference}
use Rattle.lent.specs.Lent.{cells_by, number_in, lent_node, lent_cells, lent_diagram}
use Rattle.lent.proofs.Nodes.{cells-length, cell_at}
use Rattle.std.proofs.Common.{Some, None}
use Rattle.canonical.specs.Inner.Walk.{stands_at, lent_standing, lent_spread, is_below, followed}

-- the numbering does not depend on the roots

spread-roots : (cs : List Node) (rs rs' : List ℕ) (p : ℕ) (ks : List ℕ)
    → spread true (record { nodes = cs; roots = rs }) p ks ≡ spread true (record { nodes = cs; roots = rs' }) p ks
spread-roots cs rs rs' p [] = refl
spread-roots cs rs rs' p (k ∷ ks) =
    let D : Diagram = record { nodes = cs; roots = rs } in
    ap (λ (l : List ℕ). cond (at_level true D p k)
    (targets true (node_on true D k).low ++ (targets true (node_on true D k).high ++ l)) (k ∷ l))
    (spread-roots cs rs rs' p ks)

numbered-roots : (cs : List Node) (rs rs' : List ℕ) (d p next : ℕ) (ks : List ℕ)
    → numbered true (record { nodes = cs; roots = rs }) d p next ks ≡ numbered true (record { nodes = cs; roots = rs' }) d p next ks
unfolding numbered
numbered-roots cs rs rs' zero p next ks = refl
numbered-roots cs rs rs' (suc d) p next ks =
    let D : Diagram = record { nodes = cs; roots = rs } in
    let D' : Diagram = record { nodes = cs; roots = rs' } in
    let s = standing true D p ks in
    ap (λ (b : Bool). equal eqb s (range next (length s)) && b)
    (numbered-roots cs rs rs' d (suc p) (next + length s) (firsts eqb (spread true D p ks))
    ∙ ap (λ (l : List ℕ). numbered true D' d (suc p) (next + length s) (firsts eqb l)) (spread-roots cs rs rs' p ks))

pub lent-numbered : (count m : ℕ) (cells roots : List ℕ) (d p next : ℕ) (ks : List ℕ)
    → numbered true (lent_diagram count m cells roots) d p next ks ≡ numbered true (lent_cells count cells) d p next ks
unfolding lent_diagram cells_by
lent-numbered count m cells roots d p next ks =
    numbered-roots (lent_cells count cells).nodes (lent_diagram count m cells roots).roots [] d p next ks

module _ (count : ℕ) (cells : List ℕ) where
  node-on : (k : ℕ) → k < count → node_on true (lent_cells count cells) k ≡ lent_node cells k
  node-on k h =
      ap (λ (i : ℕ). get_or (lent_cells count cells).nodes i (record { level = 0; low = 0; high = 0 })) (target-reference true k false)
      ∙ cell_at count (number_in cells) k (record { level = 0; low = 0; high = 0 }) h

  -- the end of the walk
  pub numbered-end : (p next : ℕ) (ks : List ℕ) → eqb next count ≡ numbered true (lent_cells count cells) 0 p next ks
  unfolding numbered
  numbered-end p next ks = ap (eqb next) (sym (cells-length count (number_in cells)))

  module _ (p : ℕ) where
    lent-standing : (ks : List ℕ) → T (all (is_below count) ks) → standing true (lent_cells count cells) p ks ≡ lent_standing cells p ks
    lent-standing ks t =
        keep-cong eqb eqb-equality (at_level true (lent_cells count cells) p) (stands_at cells p) ks
        (λ k h. ap (λ (c : Node). eqb c.level p)
        (node-on k (ltb→lt k count (all-has eqb eqb-equality (is_below count) ks t k h))))

    lent-spread : (ks : List ℕ) → T (all (is_below count) ks) → spread true (lent_cells count cells) p ks ≡ lent_spread cells p ks
    lent-spread [] t = refl
    lent-spread (k ∷ ks) t =
        let s = spread true (lent_cells count cells) p ks in
        ap (λ (c : Node). cond (eqb c.level p) (targets true c.low ++ (targets true c.high ++ s)) (k ∷ s))
        (node-on k (ltb→lt k count (and_l (is_below count k) (all (is_below count) ks) t)))
        ∙ ap (λ (l : List ℕ). cond (stands_at cells p k)
        (targets true (lent_node cells k).low ++ (targets true (lent_node cells k).high ++ l)) (k ∷ l))
        (lent-spread ks (and_r (is_below count k) (all (is_below count) ks) t))

    module _ (next d : ℕ) (ks : List ℕ) (t : T (all (is_below count) ks)) where
      -- one level
      level : numbered true (lent_cells count cells) (suc d) p next ks
          ≡ equal eqb (lent_standing cells p ks) (range next (length (lent_standing cells p ks)))
          && numbered true (lent_cells count cells) d (suc p) (next + length (lent_standing cells p ks)) (firsts eqb (lent_spread cells p ks))
      unfolding numbered
      level =
          ap₂ (λ (s l : List ℕ). equal eqb s (range next (length s))
          && numbered true (lent_cells count cells) d (suc p) (next + length s) (firsts eqb l))
          (lent-standing ks t) (lent-spread ks t)

      pub numbered-broken : followed cells p next ks ≡ None → numbered true (lent_cells count cells) (suc d) p next ks ≡ false
      unfolding followed
      numbered-broken f =
          let s = lent_standing cells p ks in
          split (equal eqb s (range next (length s)))
          (λ e. let z : ◌≡◌ {A = ℕ} 0 1 = cc in absurd (omega arith))
          (λ e. level ∙ rw e)

      pub numbered_next : (after : ℕ) → followed cells p next ks ≡ Some after
          → numbered true (lent_cells count cells) (suc d) p next ks
          ≡ numbered true (lent_cells count cells) d (suc p) after (firsts eqb (lent_spread cells p ks))
      unfolding followed
      numbered_next after f =
          let s = lent_standing cells p ks in
          split (equal eqb s (range next (length s)))
          (λ e. let q : next + length s ≡ after = cc in
          level ∙ rw e (ap (λ (x : ℕ). numbered true (lent_cells count cells) d (suc p) x (firsts eqb (lent_spread cells p ks))) q))
          (λ e. let z : ◌≡◌ {A = ℕ} 0 1 = cc in absurd (omega arith))

-- a node of the list at most brings the number one further
pub after-bound : (cells : List ℕ) (p next after : ℕ) (ks : List ℕ) → followed cells p next ks ≡ Some after → after ≤ next + length ks
unfolding followed
after-bound cells p next after ks f =
    let s = lent_standing cells p ks in
    split (equal eqb s (range next (length s)))
    (λ e. let q : next + length s ≡ after = cc in omega (arith, keep-length (stands_at cells p) ks))
    (λ e. let z : ◌≡◌ {A = ℕ} 0 1 = cc in absurd (omega arith))
