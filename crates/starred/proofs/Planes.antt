-- The bytes of a stream whose bits are given, eight to a byte, lowest bit first.
-- Assumes nothing.
use mathlib.Core.Path.{◌≡◌, ap, ◌∙◌}
use mathlib.Core.Bool.{Bool}
use mathlib.Core.List.{List, [], ◌∷◌, map}
use Prim.Native.Nat.{ℕ, zero, suc, ◌+◌, ◌*◌, ◌-◌, ◌/◌, ◌%◌, ◌<◌, ◌^◌}
use native.Mathlib.Omega.{arith}
use lib.Dec.{T, eqb, ltb, lt→ltb}
use lib.ListN.{length, replicate, length-replicate}
use Rattle.lists.specs.Bits.{row_number, bit}
use Rattle.lists.specs.Lists.{up_to}
use Rattle.lists.proofs.Bools.{and_T}
use Rattle.lists.proofs.Bits.Digits.{number_lt, bit-number}
use Rattle.lists.proofs.Numbers.UpTo.{get_or-map-up_to, length-map-up_to}
use Rattle.diagram.specs.Networks.Bound.{most_variables, most_outputs}
use Rattle.block.specs.Bits.{stream_bit}
use Rattle.table.specs.Calls.{plane_size}
use Rattle.starred.specs.Lendable.{is_bytes}

-- byte k: its highest bit is bit 8k + 7 of the stream
abbrev byte_of : (ℕ → Bool) → ℕ → ℕ
byte_of f k = row_number 8 (λ v. f (8 * k + (7 - v)))

abbrev pub plane : (ℕ → Bool) → List ℕ
plane f = map (byte_of f) (up_to plane_size)

pub plane-length : (f : ℕ → Bool) → length (plane f) ≡ plane_size
plane-length f = length-map-up_to (byte_of f) plane_size

pub plane-bit : (f : ℕ → Bool) (i : ℕ) → i < most_outputs * 2 ^ most_variables → stream_bit (plane f) i ≡ f i
unfolding stream_bit bit plane_size
plane-bit f i h =
    let e : i % 8 ≡ 8 - suc (7 - i % 8) = omega arith in
    let k : 8 * (i / 8) + (7 - (7 - i % 8)) ≡ i = omega arith in
    ap (λ (x : ℕ). eqb (x / 2 ^ (i % 8) % 2) 1) (get_or-map-up_to (byte_of f) plane_size (i / 8) 0 (omega arith))
    ∙ ap (λ (q : ℕ). eqb (byte_of f (i / 8) / 2 ^ q % 2) 1) e
    ∙ bit-number 8 (λ v. f (8 * (i / 8) + (7 - v))) (7 - i % 8) (omega arith)
    ∙ ap f k

bytes-map : (f : ℕ → ℕ) → ((k : ℕ) → f k < 256) → (xs : List ℕ) → T (is_bytes (map f xs))
bytes-map f h [] = tt
bytes-map f h (x ∷ xs) = and_T (ltb (f x) 256) (is_bytes (map f xs)) (lt→ltb (f x) 256 (h x)) (bytes-map f h xs)

pub plane-bytes : (f : ℕ → Bool) → T (is_bytes (plane f))
plane-bytes f = bytes-map (byte_of f) (λ k. number_lt 8 (λ v. f (8 * k + (7 - v)))) (up_to plane_size)

-- zeros

abbrev pub zeros : ℕ → List ℕ
zeros k = replicate k 0

pub zeros-length : (k : ℕ) → length (zeros k) ≡ k
zeros-length k = length-replicate k 0

pub zeros-bytes : (k : ℕ) → T (is_bytes (zeros k))
zeros-bytes zero = tt
zeros-bytes (suc k) = zeros-bytes k
