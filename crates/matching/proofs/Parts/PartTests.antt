-- A test of every byte, as a bool that is true where all of them pass.
-- Assumes nothing.
use Rattle.std.proofs.Common.{◌≡◌, sym, Bool, true, false, ℕ, ◌<◌, MatchBool}
use Rattle.lists.specs.Lists.{all, up_to}
use Rattle.lists.proofs.Bools.{of_T, to-T}
use Rattle.lists.proofs.Numbers.Compared.{all-up_to-of, all-up_to-fails}

pub all-tested : (p : ℕ → Bool) (n : ℕ) (r : Bool)
    → MatchBool r ((j : ℕ) → j < n → p j ≡ true) ((j : ℕ) × (j < n) × (p j ≡ false)) → r ≡ all p (up_to n)
all-tested p n true h = sym (of_T (all-up_to-of p n (λ i l. to-T (h i l))))
all-tested p n false h = sym (all-up_to-fails p n h.0 h.1 h.2)
