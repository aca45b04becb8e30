-- A test over the numbers below n, as a loop meets them one by one.
-- Assumes nothing.
use mathlib.Core.Path.{◌≡◌, refl, sym, ap₂, ◌∙◌, subst}
use mathlib.Core.Bool.{Bool, true, ◌&&◌}
use Prim.Native.Nat.{ℕ, zero, suc, ◌+◌, ◌<◌}
use native.Mathlib.Numerals.{add-one}
use native.Mathlib.Omega.{arith}
use lib.Dec.{T}
use Rattle.lists.specs.Lists.{all, up_to}
use Rattle.lists.proofs.Bools.{of_T, to-T, and_T}
use Rattle.lists.proofs.Numbers.Compared.{all-up_to-suc}

-- two tests that agree on each number below n
pub all_same : (p q : ℕ → Bool) (n : ℕ) → ((i : ℕ) → i < n → p i ≡ q i) → all p (up_to n) ≡ all q (up_to n)
all_same p q zero f = refl
all_same p q (suc n) f =
    all-up_to-suc p n ∙ ap₂ ◌&&◌ (all_same p q n (λ i h. f i (omega arith))) (f n (omega arith)) ∙ sym (all-up_to-suc q n)
