-- Laws of the merge: of bytes, and of parts whose bytes are merged one after the other.
-- Assumes nothing.
use mathlib.Core.Path.{◌≡◌, ap, ap₂, sym, ◌∙◌}
use mathlib.Core.Bool.{Bool, false}
use mathlib.Core.List.{List, map}
use Prim.Native.Nat.{ℕ, ◌+◌}
use lib.Bits.{bit_and, bit_or, bit_xor, xor_zero_r}
use lib.ListN.{length, length-append}
use Rattle.lists.specs.Lists.{up_to}
use Rattle.lists.proofs.Numbers.UpTo.{length-map-up_to}
use Rattle.matching.specs.Bytes.{merge_byte}
use Rattle.matching.specs.Parts.{merge_part, value_byte, care_byte}

-- without inversion the exclusive or with 0 falls away
pub merge_plain : (i : Bool) (f c g : ℕ) → i ≡ false → bit_or (bit_and f c) (bit_xor (bit_and g c) g) ≡ merge_byte i f c g
unfolding merge_byte
merge_plain i f c g e = rw e (ap (λ (x : ℕ). bit_or x (bit_xor (bit_and g c) g)) (sym (xor_zero_r (bit_and f c))))

-- byte j of the values and of the care of a candidate f merged into an entry g
value_at : Bool → ℕ → List ℕ → List ℕ → ℕ → ℕ
value_at i w f g j = merge_byte i (value_byte f j) (care_byte w f j) (value_byte g j)

care_at : ℕ → List ℕ → List ℕ → ℕ → ℕ
care_at w f g j = bit_or (care_byte w f j) (care_byte w g j)

pub length-merge : (i : Bool) (w : ℕ) (f g : List ℕ) → length (merge_part i w f g) ≡ w + w
unfolding merge_part value_at care_at
length-merge i w f g =
    length-append (map (value_at i w f g) (up_to w)) (map (care_at w f g) (up_to w))
    ∙ ap₂ ◌+◌ (length-map-up_to (value_at i w f g) w) (length-map-up_to (care_at w f g) w)
