-- Tests of the elements of a list and of a range of numbers: as std's `all` gives them, and one by one.
-- Assumes nothing.
use mathlib.Core.Path.{◌≡◌, refl, sym, ap, ap₂, ◌∙◌}
use mathlib.Core.Bool.{Bool, true, false, ◌&&◌}
use mathlib.Core.List.{List, [], ◌∷◌, map}
use Prim.Native.Nat.{ℕ, zero, suc, ◌+◌, ◌≤◌, ◌<◌}
use native.Mathlib.Omega.{arith}
use borrow.Author.Tests.{le-ltb, lt-ltb}
use lib.Dec.{ltb}
use lib.ListN.{length, get_or}
use lib.Seq.{take-length}
use Rattle.std.specs.List.{list_all, range_with_len}
use Rattle.lists.specs.Lists.{all, up_to}
use Rattle.lists.proofs.Lists.Membership.{all-mapped}
use Rattle.lists.proofs.Numbers.Below.{all_same}
use Rattle.lists.proofs.Numbers.Compared.{all-up_to-more, all-up_to-fails}
use Rattle.lists.proofs.Numbers.UpTo.{map-up_to-first, map-up_to-cong, first-elements}

pub all-elements : {A : Type 0} (p : A → Bool) (l : List A) → list_all p l ≡ all p l
all-elements p [] = refl
all-elements p (x ∷ xs) = ap (λ (b : Bool). p x && b) (all-elements p xs)

-- the numbers from a on
pub range-up_to : (a n : ℕ) → range_with_len a n ≡ map (λ i. a + i) (up_to n)
range-up_to a zero = refl
range-up_to a (suc n) =
    ap₂ (λ (x : ℕ) (l : List ℕ). x ∷ l) (omega arith)
    (range-up_to (a + 1) n ∙ map-up_to-cong n (λ i. a + 1 + i) (λ i. a + suc i) (λ i h. omega arith))
    ∙ sym (map-up_to-first (λ i. a + i) n)

pub all-range : (p : ℕ → Bool) (a n : ℕ) → list_all p (range_with_len a n) ≡ all (λ i. p (a + i)) (up_to n)
all-range p a n = all-elements p (range_with_len a n) ∙ ap (all p) (range-up_to a n) ∙ all-mapped p (λ i. a + i) (up_to n)

pub all-below : (p : ℕ → Bool) (n : ℕ) → list_all p (range_with_len 0 n) ≡ all p (up_to n)
all-below p n = all-range p 0 n ∙ all_same (λ i. p (0 + i)) p n (λ i h. ap p (omega arith))

-- every number below a limit, one by one

abbrev pub below : ℕ → List ℕ → ℕ → Bool
below limit l i = ltb (get_or l i 0) limit

module _ (limit : ℕ) (l : List ℕ) where
  one_by_one : all (λ x. ltb x limit) l ≡ all (below limit l) (up_to (length l))
  one_by_one =
      ap (all (λ x. ltb x limit)) (sym (take-length l) ∙ first-elements (length l) l (omega arith))
      ∙ all-mapped (λ x. ltb x limit) (λ i. get_or l i 0) (up_to (length l))

  pub one-beyond : (i x : ℕ) → i < length l → x ≡ get_or l i 0 → limit ≤ x → all (λ y. ltb y limit) l ≡ false
  one-beyond i x h e k =
      one_by_one ∙ all-up_to-fails (below limit l) (length l) i h (le-ltb (get_or l i 0) limit (omega (arith, e)))

  pub one_below : (i x : ℕ) → all (below limit l) (up_to i) ≡ true → x ≡ get_or l i 0 → x < limit → all (below limit l) (up_to (i + 1)) ≡ true
  one_below i x a e k = all-up_to-more (below limit l) i a (lt-ltb (get_or l i 0) limit (omega (arith, e)))

  pub every-below : (i : ℕ) → i ≡ length l → all (below limit l) (up_to i) ≡ true → all (λ x. ltb x limit) l ≡ true
  every-below i e a = one_by_one ∙ ap (λ (k : ℕ). all (below limit l) (up_to k)) (sym e) ∙ a
