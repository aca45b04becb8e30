-- Functions as fully cared rows: what the filling's tests and merging come to on them.
-- Assumes nothing.
use mathlib.Core.Path.{◌≡◌, refl, ap, ap₂, ◌∙◌, subst}
use mathlib.Core.Bool.{Bool, true, false, cond, beq, ◌&&◌}
use mathlib.Core.List.{List}
use Prim.Native.Nat.{ℕ, zero, suc}
use lib.Dec.{T}
use Rattle.lists.proofs.Bools.{and_T}
use Rattle.diagram.specs.Tree.{Tree, leaf, node, at, full, inverted, same}
use Rattle.diagram.specs.Filling.Fill.{Row, always, agree, merge, const, Linked, candidate}
use Rattle.diagram.specs.Filling.Halves.{cared}
use Rattle.diagram.proofs.Tree.{same→eq}

-- every row cared
abbrev pub cared_row : Bool → Row
cared_row b = record { value = b; care = true }

abbrev pub cared_rows : {d : ℕ} → Tree Bool d → Tree Row d
cared_rows (leaf b) = leaf (cared_row b)
cared_rows (node l h) = node (cared_rows l) (cared_rows h)

pub cared-rows : {d : ℕ} (t : Tree Bool d) → T (cared (cared_rows t))
cared-rows (leaf b) = tt
cared-rows (node l h) = and_T (cared (cared_rows l)) (cared (cared_rows h)) (cared-rows l) (cared-rows h)

pub at_rows : {d : ℕ} (p : ℕ) (a : ℕ → Bool) (t : Tree Bool d) → at p a (cared_rows t) ≡ cared_row (at p a t)
at_rows p a (leaf b) = refl
at_rows p a (node l h) = rw (at_rows (suc p) a l, at_rows (suc p) a h) (choose (a p) (at (suc p) a h) (at (suc p) a l))
  where
    choose : (c x y : Bool) → cond c (cared_row x) (cared_row y) ≡ cared_row (cond c x y)
    choose true x y = refl
    choose false x y = refl

pub always-rows : {d : ℕ} (v : Bool) (t : Tree Bool d) → always v (cared_rows t) ≡ same t (full v d)
always-rows v (leaf b) = refl
always-rows v (node l h) = ap₂ ◌&&◌ (always-rows v l) (always-rows v h)

pub agree-rows : {d : ℕ} (i : Bool) (s t : Tree Bool d) → agree i (cared_rows s) (cared_rows t) ≡ same (inverted i s) t
agree-rows i (leaf a) (leaf b) = refl
agree-rows i (node l h) (node l' h') = ap₂ ◌&&◌ (agree-rows i l l') (agree-rows i h h')

-- merged with what it agrees with, it leaves that as it was
merge-turned : {d : ℕ} (i : Bool) (s t : Tree Bool d) → merge i (cared_rows s) (cared_rows t) ≡ cared_rows (inverted i s)
merge-turned i (leaf a) (leaf b) = refl
merge-turned i (node l h) (node l' h') = ap₂ node (merge-turned i l l') (merge-turned i h h')

pub merge-rows : {d : ℕ} (i : Bool) (s t : Tree Bool d) → T (agree i (cared_rows s) (cared_rows t))
    → merge i (cared_rows s) (cared_rows t) ≡ cared_rows t
merge-rows i s t a = merge-turned i s t ∙ ap cared_rows (same→eq (inverted i s) t (subst T (agree-rows i s t) a))

-- a constant makes no entry

always-full : (v w : Bool) (d : ℕ) → always v (cared_rows (full w d)) ≡ beq w v
always-full v w zero = refl
always-full v w (suc d) = rw (always-full v w d) (both (beq w v))
  where
    both : (b : Bool) → (b && b) ≡ b
    both true = refl
    both false = refl

abbrev constant_link : {d : ℕ} → Bool → List (Tree Row d) → Linked d
constant_link v gs = record { entries = gs; link = const v }

pub candidate-full : (v : Bool) (d : ℕ) (gs : List (Tree Row d)) → candidate true (cared_rows (full v d)) gs ≡ constant_link v gs
candidate-full true d gs = rw (always-full false true d, always-full true true d)
candidate-full false d gs = rw (always-full false false d)
