-- Numbers stored in the work buffer: one put and read again, what it leaves as it was, and several one after the other.
-- Assumes nothing.
use mathlib.Core.Path.{◌≡◌, refl, ap, ap₂, ◌∙◌}
use mathlib.Core.List.{List, [], ◌∷◌, ◌++◌}
use mathlib.Core.Logic.{◌≢◌}
use Prim.Native.Nat.{ℕ, suc, ◌+◌, ◌*◌, ◌/◌, ◌%◌, ◌<◌}
use native.Mathlib.Nat.{add-zero}
use native.Mathlib.Omega.{arith}
use lib.ListN.{length, get_or, set, length-set}
use lib.Seq.{sets, get_or-set_same, get_or-set_other, set_comm}
use Rattle.lists.proofs.Written.Outside.{Outside}
use Rattle.network.specs.Levels.{stored_at, put_stored}

pub same-stored : (w w' : List ℕ) (i : ℕ) → get_or w' i 0 ≡ get_or w i 0 → get_or w' (i + 1) 0 ≡ get_or w (i + 1) 0 → stored_at w' i ≡ stored_at w i
same-stored w w' i low high = ap₂ (λ x y. x + 256 * y) low high

module _ (w : List ℕ) (i x : ℕ) where
  put_other : (j : ℕ) → j ≢ i → j ≢ i + 1 → get_or (put_stored w i x) j 0 ≡ get_or w j 0
  put_other j d e = get_or-set_other (set w i (x % 256)) (i + 1) j (x / 256) 0 e ∙ get_or-set_other w i j (x % 256) 0 d

  pub outside-put : Outside w (put_stored w i x) i (i + 2)
  outside-put =
      record {
        under = λ j h. put_other j (λ e. omega arith) (λ e. omega arith);
        past = λ j h. put_other j (λ e. omega arith) (λ e. omega arith);
      }

  pub stored-put : i + 1 < length w → stored_at (put_stored w i x) i ≡ x
  stored-put h =
      let low : get_or (put_stored w i x) i 0 ≡ x % 256 =
      get_or-set_other (set w i (x % 256)) (i + 1) i (x / 256) 0 (λ e. omega arith) ∙ get_or-set_same w i (x % 256) 0 (omega arith) in
      let high : get_or (put_stored w i x) (i + 1) 0 ≡ x / 256 =
      get_or-set_same (set w i (x % 256)) (i + 1) (x / 256) 0 (omega (arith, length-set w i (x % 256))) in
      omega (arith, low, high)

-- numbers stored from k on, and one before them
set-sets : (l : List ℕ) (i k a : ℕ) (vs : List ℕ) → i < k → set (sets l k vs) i a ≡ sets (set l i a) k vs
set-sets l i k a [] h = refl
set-sets l i k a (v ∷ vs) h =
    set-sets (set l k v) i (suc k) a vs (omega arith)
    ∙ ap (λ (m : List ℕ). sets m (suc k) vs) (set_comm l k i v a (λ e. omega arith))

pub sets-append : (l : List ℕ) (i : ℕ) (vs ws : List ℕ) → sets (sets l (i + length vs) ws) i vs ≡ sets l i (vs ++ ws)
sets-append l i [] ws = ap (λ k. sets l k ws) (add-zero i)
sets-append l i (v ∷ vs) ws =
    let k : i + suc (length vs) ≡ suc i + length vs = omega arith in
    ap (λ (m : List ℕ). sets m (suc i) vs)
    (ap (λ n. set (sets l n ws) i v) k ∙ set-sets l i (suc i + length vs) v ws (omega arith))
    ∙ sets-append (set l i v) (suc i) vs ws
