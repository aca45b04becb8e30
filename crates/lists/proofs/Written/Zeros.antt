-- Zeros in a list: written one after the other, taken, left out, and written over others.
-- Assumes nothing.
use mathlib.Core.Path.{◌≡◌, sym, ap, ◌∙◌}
use mathlib.Core.List.{List, ◌++◌, append_assoc}
use Prim.Native.Nat.{ℕ, ◌+◌, ◌-◌, ◌≤◌, ◌<◌}
use native.Mathlib.Omega.{arith}
use lib.ListN.{length, set, take, drop, replicate, length-append, length-replicate, replicate-append-replicate}
use lib.Seq.{take_at, drop_at}
use Rattle.lists.specs.Written.{splice}
use Rattle.lists.proofs.Written.Splice.{set-end, splice-same}

-- n zeros before r
module _ (r : List ℕ) (n : ℕ) where
  zeros-split : (k : ℕ) → k ≤ n → replicate n 0 ++ r ≡ replicate k 0 ++ (replicate (n - k) 0 ++ r)
  zeros-split k h =
      let e : n ≡ k + (n - k) = omega arith in
      ap (λ (y : ℕ). replicate y 0 ++ r) e
      ∙ ap (λ (y : List ℕ). y ++ r) (sym (replicate-append-replicate k (n - k) 0))
      ∙ append_assoc (replicate k 0) (replicate (n - k) 0) r

  pub zeros-take : (k : ℕ) → k ≤ n → take k (replicate n 0 ++ r) ≡ replicate k 0
  zeros-take k h = ap (take k) (zeros-split k h) ∙ take_at (replicate k 0) (replicate (n - k) 0 ++ r) k (length-replicate k 0)

  pub zeros-drop : (k : ℕ) → k ≤ n → drop k (replicate n 0 ++ r) ≡ replicate (n - k) 0 ++ r
  zeros-drop k h = ap (drop k) (zeros-split k h) ∙ drop_at (replicate k 0) (replicate (n - k) 0 ++ r) k (length-replicate k 0)

-- zeros over zeros
pub splice-zeros : (r : List ℕ) (n k j : ℕ) → k + j ≤ n → splice (replicate n 0 ++ r) k (replicate j 0) ≡ replicate n 0 ++ r
splice-zeros r n k j h =
    let l = replicate n 0 ++ r in
    let z : take j (drop k l) ≡ replicate j 0 = ap (take j) (zeros-drop r n k (omega arith)) ∙ zeros-take r (n - k) j (omega arith) in
    ap (splice l k) (sym z) ∙ splice-same l k j (omega (arith, length-append (replicate n 0) r, length-replicate {A = ℕ} n 0))
