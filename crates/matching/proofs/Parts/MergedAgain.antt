-- A candidate tried again for the entry that it was merged into: it agrees as it did, and merging it again changes nothing.
-- Assumes nothing.
use mathlib.Core.Path.{◌≡◌, sym, ap, ap₂, ◌∙◌, subst}
use mathlib.Core.Bool.{Bool, true, false, cond}
use mathlib.Core.List.{List, ◌++◌, map}
use Prim.Native.Nat.{ℕ, ◌+◌, ◌<◌}
use lib.Bits.{bit_and, bit_or, bit_xor, and_zero_l, and_zero_r, or_self}
use lib.Dec.{T, eqb, eqb→eq, eqb_refl}
use lib.ListN.{length, get_or, get_or-append}
use lib.Seq.{get_or-append-add, ext_get_or}
use Rattle.lists.specs.Lists.{up_to}
use Rattle.lists.proofs.Bools.{split, of_T, to-T, absurd-T}
use Rattle.lists.proofs.Numbers.Compared.{all-up_to-at, all-up_to-of}
use Rattle.lists.proofs.Numbers.UpTo.{map-up_to-cong, map-up_to-add, length-map-up_to, get_or-map-up_to}
use Rattle.matching.specs.Bytes.{agree_byte, merge_byte}
use Rattle.matching.specs.Parts.{value_byte, care_byte, agree_part, merge_part}
use Rattle.matching.proofs.Parts.BitLaws.{Term, F, C, G, D, and, or, xor, when, on-numbers}

-- bytes

-- F, where C, else t
abbrev merged : Bool → Term → Term
merged i t = or (xor (and F C) (when i C)) (xor (and t C) t)

agree-byte : (i : Bool) (f c g d : ℕ) → agree_byte i f c (merge_byte i f c g) (bit_or c d) ≡ true
unfolding agree_byte merge_byte
agree-byte i f c g d =
    let m = cond i (bit_and c (bit_or c d)) 0 in
    of_T (subst (λ (x : ℕ). T (eqb x m))
    (sym (on-numbers (λ i. and (xor F (merged i G)) (and C (or C D))) (λ i. when i (and C (or C D))) tt i f c g d)) (eqb_refl m))

merge-byte : (i : Bool) (f c g : ℕ) → merge_byte i f c (merge_byte i f c g) ≡ merge_byte i f c g
unfolding merge_byte
merge-byte i f c g = on-numbers (λ i. merged i (merged i G)) (λ i. merged i G) tt i f c g 0

care-byte : (c d : ℕ) → bit_or c (bit_or c d) ≡ bit_or c d
care-byte c d = on-numbers (λ i. or C (or C D)) (λ i. or C D) tt true 0 c 0 d

self-byte : (f c : ℕ) → merge_byte false f c f ≡ f
unfolding merge_byte
self-byte f c = on-numbers (λ i. merged false F) (λ i. F) tt true f c 0 0

-- f agrees with its own inversion only where c is 0 throughout, and there it agrees with anything
plain_byte : (f c g d : ℕ) → T (agree_byte false f c (merge_byte true f c g) (bit_or c d)) → T (agree_byte false f c g d)
unfolding agree_byte merge_byte
plain_byte f c g d t =
    let e : c ≡ 0 = sym (on-numbers (λ i. and (xor F (merged true G)) (and C (or C D))) (λ i. C) tt true f c g d) ∙ eqb→eq _ 0 t in
    let z : bit_and (bit_xor f g) (bit_and c d) ≡ 0 =
    ap (bit_and (bit_xor f g)) (ap (λ (x : ℕ). bit_and x d) e ∙ and_zero_l d) ∙ and_zero_r (bit_xor f g) in
    subst (λ (x : ℕ). T (eqb x 0)) (sym z) tt

-- parts

module _ (i : Bool) (w : ℕ) (f g : List ℕ) where
  abbrev values : ℕ → ℕ
  values j = merge_byte i (value_byte f j) (care_byte w f j) (value_byte g j)

  abbrev cares : ℕ → ℕ
  cares j = bit_or (care_byte w f j) (care_byte w g j)

  value-at : (j : ℕ) → j < w → value_byte (merge_part i w f g) j ≡ values j
  unfolding merge_part
  value-at j h =
      get_or-append (map values (up_to w)) (map cares (up_to w)) 0 j (rw (length-map-up_to values w) h) ∙ get_or-map-up_to values w j 0 h

  care-at : (j : ℕ) → j < w → care_byte w (merge_part i w f g) j ≡ cares j
  unfolding merge_part
  care-at j h =
      ap (λ (n : ℕ). get_or (merge_part i w f g) (n + j) 0) (sym (length-map-up_to values w))
      ∙ get_or-append-add (map values (up_to w)) (map cares (up_to w)) j 0 ∙ get_or-map-up_to cares w j 0 h

  pub agree-again : agree_part i w f (merge_part i w f g) ≡ true
  unfolding agree_part
  agree-again =
      of_T (all-up_to-of _ w (λ j h. rw (value-at j h, care-at j h)
      (to-T (agree-byte i (value_byte f j) (care_byte w f j) (value_byte g j) (care_byte w g j)))))

  pub merge-again : merge_part i w f (merge_part i w f g) ≡ merge_part i w f g
  unfolding merge_part
  merge-again =
      ap₂ ◌++◌
      (map-up_to-cong w _ values (λ j h. ap (merge_byte i (value_byte f j) (care_byte w f j)) (value-at j h)
      ∙ merge-byte i (value_byte f j) (care_byte w f j) (value_byte g j)))
      (map-up_to-cong w _ cares (λ j h. ap (bit_or (care_byte w f j)) (care-at j h) ∙ care-byte (care_byte w f j) (care_byte w g j)))

-- where f isn't g, it isn't what its inversion made of g
pub differ-again : (w : ℕ) (f g : List ℕ) → agree_part false w f g ≡ false → agree_part false w f (merge_part true w f g) ≡ false
unfolding agree_part
differ-again w f g n =
    split (agree_part false w f (merge_part true w f g))
    (λ e. absurd-T (all-up_to-of _ w (λ j h. plain_byte (value_byte f j) (care_byte w f j) (value_byte g j) (care_byte w g j)
    (rw (value-at true w f g j h, care-at true w f g j h) at (all-up_to-at _ w (to-T e) j h)))) n)
    (λ e. e)

-- the candidate as a new entry
pub merge-self : (w : ℕ) (f : List ℕ) → length f ≡ w + w → merge_part false w f f ≡ f
unfolding merge_part
merge-self w f l =
    let byte : ℕ → ℕ = λ j. get_or f j 0 in
    ap₂ ◌++◌ (map-up_to-cong w _ byte (λ j h. self-byte (value_byte f j) (care_byte w f j)))
    (map-up_to-cong w _ (λ j. byte (w + j)) (λ j h. or_self (care_byte w f j)))
    ∙ sym (map-up_to-add byte w w)
    ∙ ext_get_or 0 (map byte (up_to (w + w))) f (length-map-up_to byte (w + w) ∙ sym l)
    (λ j h. get_or-map-up_to byte (w + w) j 0 (subst (λ (n : ℕ). j < n) (length-map-up_to byte (w + w)) h))
