-- Marks of the variables sifted: what each says, and one mark more.
-- Assumes nothing.
use mathlib.Core.Path.{◌≡◌, sym, ap, ◌∙◌}
use mathlib.Core.Bool.{true, false, not}
use mathlib.Core.List.{List, ◌∷◌}
use Prim.Native.Nat.{ℕ, ◌≤◌, ◌<◌}
use native.Mathlib.Nat.{le_trans}
use native.Mathlib.Omega.{arith}
use borrow.Author.Tests.{eqb-true}
use lib.Dec.{eqb}
use lib.ListN.{length, get_or, set, length-set}
use lib.Seq.{ext_get_or, get_or-set_same, get_or-set_other}
use Rattle.lists.specs.Most.{most}
use Rattle.lists.specs.Lists.{has, up_to}
use Rattle.lists.proofs.Bools.{split}
use Rattle.lists.proofs.Numbers.Compared.{differ, up_to-lt}
use Rattle.lists.proofs.Numbers.UpTo.{length-map-up_to, get_or-map-up_to}
use Rattle.lists.proofs.Lists.Membership.{eqb-equality, keep-cong}
use Rattle.diagram.specs.Networks.Bound.{most_variables}
use Rattle.diagram.specs.Table.{Table}
use Rattle.diagram.specs.Orders.Sift.{nodes_of, Pass, next}
use Rattle.sift.specs.Inner.Choice.{next_of}
use Rattle.sift.specs.Inner.Turns.{marks}

pub length-marks : (sifted : List ℕ) → length (marks sifted) ≡ most_variables
length-marks sifted = length-map-up_to (λ v. has eqb v sifted) most_variables

pub marks-at : (sifted : List ℕ) (v : ℕ) → v < most_variables → get_or (marks sifted) v false ≡ has eqb v sifted
marks-at sifted v h = get_or-map-up_to (λ w. has eqb w sifted) most_variables v false h

-- v is marked
mark-at : (sifted : List ℕ) (v i : ℕ) → v < most_variables → i < most_variables
    → get_or (set (marks sifted) v true) i false ≡ has eqb i (v ∷ sifted)
mark-at sifted v i h k =
    split (eqb i v)
    (λ e. rw e (ap (λ (j : ℕ). get_or (set (marks sifted) v true) j false) (eqb-true i v e)
    ∙ get_or-set_same (marks sifted) v true false (omega (arith, length-marks sifted))))
    (λ e. rw e (get_or-set_other (marks sifted) v i true false (differ i v e) ∙ marks-at sifted i k))

pub mark-more : (sifted : List ℕ) (v : ℕ) → v < most_variables → set (marks sifted) v true ≡ marks (v ∷ sifted)
mark-more sifted v h =
    let l : length (set (marks sifted) v true) ≡ most_variables = length-set (marks sifted) v true ∙ length-marks sifted in
    ext_get_or false (set (marks sifted) v true) (marks (v ∷ sifted)) (l ∙ sym (length-marks (v ∷ sifted)))
    (λ i k. let j : i < most_variables = omega arith in mark-at sifted v i h j ∙ sym (marks-at (v ∷ sifted) i j))

-- where the marks are those of the variables sifted, what comes next is what comes next in the pass
pub next-marked : (t : Table) (q : Pass) → t.n ≤ most_variables → next_of t q.order (marks q.sifted) ≡ next t q
unfolding next_of next
next-marked t q k =
    ap (most (nodes_of t q.order))
    (keep-cong eqb eqb-equality (λ v. not (get_or (marks q.sifted) v false)) (λ v. not (has eqb v q.sifted)) (up_to t.n)
    (λ w h. ap not (marks-at q.sifted w (le_trans (up_to-lt w t.n h) k))))
