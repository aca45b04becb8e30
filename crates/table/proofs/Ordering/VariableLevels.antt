-- The level of a variable, as std's `position` finds it among the entries of an order.
-- Assumes nothing.
use mathlib.Core.Path.{◌≡◌, refl, sym, ap, ◌∙◌}
use mathlib.Core.Bool.{cond, not}
use mathlib.Core.List.{List}
use Prim.Native.Nat.{ℕ, ◌≤◌, min}
use native.Mathlib.Omega.{arith}
use borrow.Author.Tests.{ltb-true, ltb-false}
use lib.Dec.{eqb, ltb}
use lib.ListN.{length, take}
use lib.Seq.{take_all}
use Rattle.std.specs.Prelude.{Option, Some, None}
use Rattle.std.specs.Option.{unwrap_or}
use Rattle.std.specs.List.{position_or_len}
use Rattle.std.proofs.lemmas.List.Sums.{prefix_len-le-length}
use Rattle.std.proofs.lemmas.List.Recursion.{is_position_or_len}
use Rattle.lists.specs.Lists.{index}
use Rattle.lists.proofs.Bools.{split}
use Rattle.diagram.specs.Networks.Bound.{most_variables}

-- the first v, or the length where there is none
pub found-index : (v : ℕ) (l : List ℕ) (r : Option ℕ)
    → r ≡ cond (ltb (position_or_len (eqb v) l) (length l)) (Some (position_or_len (eqb v) l)) None
    → unwrap_or r (length l) ≡ index eqb v l
found-index v l r e =
    let p : index eqb v l ≡ position_or_len (eqb v) l = is_position_or_len (index eqb v) (eqb v) refl (λ x xs. ap (cond (eqb v x) 0) (omega arith)) l in
    split (ltb (position_or_len (eqb v) l) (length l)) (λ q. rw (e, q) (sym p))
    (λ q. rw (e, q) (omega (arith, p, ltb-false (position_or_len (eqb v) l) (length l) q, prefix_len-le-length (λ x. not (eqb v x)) l)))

-- of an array of entries no more are used than there are
pub entries-held : (n : ℕ) (l : List ℕ) → length l ≤ most_variables → take (min n most_variables) l ≡ take n l
entries-held n l h =
    split (ltb most_variables n)
    (λ q. let k : min n most_variables ≡ most_variables = omega (arith, ltb-true most_variables n q) in
    ap (λ (j : ℕ). take j l) k ∙ take_all most_variables l h ∙ sym (take_all n l (omega (arith, ltb-true most_variables n q))))
    (λ q. ap (λ (j : ℕ). take j l) (omega (arith, ltb-false most_variables n q)))
