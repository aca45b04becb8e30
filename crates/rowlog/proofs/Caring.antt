-- The care that counts give, bit by bit and byte by byte.
-- Assumes nothing.
use mathlib.Core.Path.{◌≡◌, refl, ap, ◌∙◌}
use mathlib.Core.Bool.{◌&&◌}
use mathlib.Core.List.{List, ◌++◌, map, append-nil}
use Prim.Native.Nat.{ℕ, ◌+◌, ◌*◌, ◌%◌, ◌^◌, ◌≤◌, ◌<◌}
use native.Mathlib.Nat.{mod-lt}
use borrow.Author.Tests.{lt-ltb}
use lib.Dec.{ltb, leb}
use native.Mathlib.Omega.{arith}
use lib.ListN.{length, get_or, take, drop, drop_of_length-le}
use lib.Seq.{length-take-le}
use Rattle.lists.specs.Lists.{up_to}
use lib.Pow.{pow_pos}
use Rattle.lists.specs.Bits.{packed}
use Rattle.lists.specs.Written.{over}
use Rattle.lists.proofs.Written.Over.{get_d_over}
use Rattle.table.specs.declared.State.{State}
use Rattle.rowlog.specs.Log.{seen, logged_byte}
use Rattle.rowlog.specs.Inner.Care.{care_bit, counted_byte}

module _ (counts : List ℕ) (least n end : ℕ) where
  -- of the row and its count in hand
  pub bit-within : (x row count : ℕ) → x < end → row ≡ x % 2 ^ n → count ≡ get_or counts row 0
      → leb least count ≡ care_bit counts least n end x
  unfolding care_bit
  bit-within x row count h er ec = rw (lt-ltb x end h) (ap (leb least) (ec ∙ ap (λ (i : ℕ). get_or counts i 0) er))

  -- the eight bits of a byte
  pub byte-of-bits : (i : ℕ) → packed 8 (λ b. care_bit counts least n end (8 * i + b)) ≡ counted_byte counts least n end i
  unfolding counted_byte
  byte-of-bits i = refl

-- by the counts as they are reached
pub byte-logged : (s : State) (rows counts : List ℕ) (least i : ℕ)
    → counted_byte (over (seen rows counts) (2 ^ s.n) counts) least s.n (s.m * 2 ^ s.n) i ≡ logged_byte s rows least counts i
unfolding counted_byte care_bit logged_byte
byte-logged s rows counts least i =
    ap (packed 8)
    (λ k b. ltb (8 * i + b) (s.m * 2 ^ s.n)
    && leb least (get_d_over (seen rows counts) (2 ^ s.n) counts ((8 * i + b) % 2 ^ s.n) 0 (mod-lt (8 * i + b) (pow_pos s.n)) k))

-- the front of a list written over, and what stands behind it
pub over-front : (f : ℕ → ℕ) (size k : ℕ) (l : List ℕ) → k ≡ size → size ≤ length l → over f k (take size l) ++ drop size l ≡ over f size l
over-front f size k l e h =
    ap (λ (j : ℕ). (map f (up_to j) ++ drop j (take size l)) ++ drop size l) e
    ∙ ap (λ (r : List ℕ). (map f (up_to size) ++ r) ++ drop size l)
    (drop_of_length-le (take size l) {i = size} (omega (arith, length-take-le size l h)))
    ∙ ap (λ (r : List ℕ). r ++ drop size l) (append-nil (map f (up_to size)))
