-- The tests and the merge on the bytes of entries are those of the filling on the entries themselves.
-- Assumes nothing.
use mathlib.Core.Path.{◌≡◌, refl, sym, ap₂, ◌∙◌}
use mathlib.Core.Bool.{Bool, ◌&&◌}
use mathlib.Core.List.{◌++◌}
use Prim.Native.Nat.{ℕ, ◌*◌, ◌+◌, ◌^◌}
use lib.Bits.{bit_or, or_block}
use Rattle.lists.specs.Lists.{up_to}
use Rattle.lists.proofs.Lists.Membership.{all-mapped}
use Rattle.diagram.specs.Tree.{Tree, leaf, node}
use Rattle.diagram.specs.Filling.Fill.{Row, always, agree, merge}
use Rattle.matching.specs.Bytes.{always_byte, agree_byte, merge_byte}
use Rattle.reorder.specs.Sizes.{width}
use Rattle.reorder.specs.Pack.{num, encode}
use Rattle.matching.specs.Parts.{value_byte, care_byte, always_part, agree_part, merge_part}
use Rattle.reorder.proofs.Pack.{num-lt}
use Rattle.matching.proofs.Parts.Blockwise.{always-block, agree-block, merge-block, always-digit, agree-digit, merge-digit, or-digit}
use Rattle.matching.proofs.Parts.Planes.{tested, made}

-- the rows as numbers, at any depth: a node's numbers are its halves' numbers put together
abbrev values : {d : ℕ} → Tree Row d → ℕ
values t = num (λ r. r.value) t

abbrev cares : {d : ℕ} → Tree Row d → ℕ
cares t = num (λ r. r.care) t

always-num : {d : ℕ} (v : Bool) (f : Tree Row d) → always_byte v (values f) (cares f) ≡ always v f
always-num v (leaf r) = always-digit v r.value r.care
always-num v (node {d} l h) =
    always-block (2 ^ d) (values h) (cares h) (values l) (cares l) (num-lt (λ r. r.value) l) (num-lt (λ r. r.care) l) v
    ∙ ap₂ ◌&&◌ (always-num v l) (always-num v h)

module _ (i : Bool) where
  agree-num : {d : ℕ} (f g : Tree Row d) → agree_byte i (values f) (cares f) (values g) (cares g) ≡ agree i f g
  agree-num (leaf r) (leaf s) = agree-digit i r.value r.care s.value s.care
  agree-num (node {d} l h) (node l' h') =
      agree-block (2 ^ d) (values h) (cares h) (values l) (cares l) (num-lt (λ r. r.value) l) (num-lt (λ r. r.care) l)
      (values h') (values l') (num-lt (λ r. r.value) l') (cares h') (cares l') (num-lt (λ r. r.care) l') i
      ∙ ap₂ ◌&&◌ (agree-num l l') (agree-num h h')

  merge-num : {d : ℕ} (f g : Tree Row d) → merge_byte i (values f) (cares f) (values g) ≡ values (merge i f g)
  merge-num (leaf r) (leaf s) = merge-digit i r.value r.care s.value
  merge-num (node {d} l h) (node l' h') =
      merge-block (2 ^ d) (values h) (cares h) (values l) (cares l) (num-lt (λ r. r.value) l) (num-lt (λ r. r.care) l)
      (values h') (values l') (num-lt (λ r. r.value) l') i
      ∙ ap₂ (λ (x y : ℕ). x * 2 ^ (2 ^ d) + y) (merge-num h h') (merge-num l l')

  care-num : {d : ℕ} (f g : Tree Row d) → bit_or (cares f) (cares g) ≡ cares (merge i f g)
  care-num (leaf r) (leaf s) = or-digit r.care s.care
  care-num (node {d} l h) (node l' h') =
      or_block (2 ^ d) (cares h) (cares h') (cares l) (cares l') (num-lt (λ r. r.care) l) (num-lt (λ r. r.care) l')
      ∙ ap₂ (λ (x y : ℕ). x * 2 ^ (2 ^ d) + y) (care-num h h') (care-num l l')

-- hence the parts

pub always-bytes : {d : ℕ} (v : Bool) (f : Tree Row d) → always_part v (width d) (encode f) ≡ always v f
unfolding always_part
always-bytes {d} v f =
    sym (all-mapped (λ b. b) (λ j. always_byte v (value_byte (encode f) j) (care_byte (width d) (encode f) j)) (up_to (width d)))
    ∙ tested (λ a c b e. always_byte v a c) (λ d f g. always v f) (λ d f g. always-num v f) (λ d l h l' h'. refl) d f f

pub agree-bytes : {d : ℕ} (i : Bool) (f g : Tree Row d) → agree_part i (width d) (encode f) (encode g) ≡ agree i f g
unfolding agree_part
agree-bytes {d} i f g =
    sym (all-mapped (λ b. b)
    (λ j. agree_byte i (value_byte (encode f) j) (care_byte (width d) (encode f) j) (value_byte (encode g) j) (care_byte (width d) (encode g) j))
    (up_to (width d)))
    ∙ tested (agree_byte i) (λ d. agree i) (λ d. agree-num i) (λ d l h l' h'. refl) d f g

pub merge-bytes : {d : ℕ} (i : Bool) (f g : Tree Row d) → merge_part i (width d) (encode f) (encode g) ≡ encode (merge i f g)
unfolding merge_part
merge-bytes {d} i f g =
    ap₂ ◌++◌ (made (λ a c b e. merge_byte i a c b) (λ r. r.value) (λ d. merge i) (λ d. merge-num i) (λ d l h l' h'. refl) d f g)
    (made (λ a c b e. bit_or c e) (λ r. r.care) (λ d. merge i) (λ d. care-num i) (λ d l h l' h'. refl) d f g)
