-- An operation put to each byte of two parts: on planes of one byte it is put to the rows' numbers, and on longer planes to those
-- of the low halves, then to those of the high halves. So what holds of it on numbers holds of it on parts.
-- Assumes nothing.
use mathlib.Core.Path.{◌≡◌, sym, ap, ap₂, ◌∙◌}
use mathlib.Core.Bool.{Bool, ◌&&◌, and-true}
use mathlib.Core.List.{List, [], ◌∷◌, ◌++◌, map}
use Prim.Native.Nat.{ℕ, zero, suc, ◌+◌, ◌≤◌, ◌<◌, zero-le}
use lib.ListN.{get_or, get_or-append}
use lib.Seq.{get_or-append-add}
use Rattle.lists.specs.Lists.{all, up_to}
use Rattle.lists.proofs.Numbers.UpTo.{map-up_to-cong, map-up_to-add}
use Rattle.lists.proofs.Lists.Membership.{all-append-and}
use Rattle.diagram.specs.Tree.{Tree, leaf, node}
use Rattle.diagram.specs.Filling.Fill.{Row}
use Rattle.reorder.specs.Sizes.{width}
use Rattle.reorder.specs.Pack.{num, pack, encode}
use Rattle.matching.specs.Parts.{value_byte, care_byte}
use Rattle.reorder.proofs.Pack.{width_small, width-suc, by_width, pack-small, pack-node, pack-length}

-- byte j of a longer plane is a byte of its low half or of its high half

pub node-low : {A : Type 0} (p : A → Bool) {d : ℕ} (l h : Tree A d) → 3 ≤ d → (j : ℕ) → j < width d
    → get_or (pack p (node l h)) j 0 ≡ get_or (pack p l) j 0
node-low p l h k j b = rw (pack-node p l h k) (get_or-append (pack p l) (pack p h) 0 j (rw (pack-length p l) b))

pub node-high : {A : Type 0} (p : A → Bool) {d : ℕ} (l h : Tree A d) → 3 ≤ d → (j : ℕ)
    → get_or (pack p (node l h)) (width d + j) 0 ≡ get_or (pack p h) j 0
node-high p l h k j = rw (pack-node p l h k, ← pack-length p l) (get_or-append-add (pack p l) (pack p h) j 0)

-- what is read from a part is a byte of its plane of values, or of its plane of care

value-byte : {d : ℕ} (t : Tree Row d) (j : ℕ) → j < width d → value_byte (encode t) j ≡ get_or (pack (λ r. r.value) t) j 0
value-byte t j h = get_or-append (pack (λ r. r.value) t) (pack (λ r. r.care) t) 0 j (rw (pack-length (λ r. r.value) t) h)

care-byte : {d : ℕ} (t : Tree Row d) (j : ℕ) → care_byte (width d) (encode t) j ≡ get_or (pack (λ r. r.care) t) j 0
care-byte t j = rw (← pack-length (λ r. r.value) t) (get_or-append-add (pack (λ r. r.value) t) (pack (λ r. r.care) t) j 0)

module _ {B : Type 0} (Q : ℕ → ℕ → ℕ → ℕ → B) where
  -- the operation at each byte of the parts of f and g: of f's values and care, and g's
  abbrev pub bytes : {d : ℕ} → Tree Row d → Tree Row d → List B
  bytes {d} f g =
      map (λ j. Q (value_byte (encode f) j) (care_byte (width d) (encode f) j) (value_byte (encode g) j) (care_byte (width d) (encode g) j))
      (up_to (width d))

  -- the same, of the planes
  abbrev at : {d : ℕ} → Tree Row d → Tree Row d → ℕ → B
  at f g j =
      Q (get_or (pack (λ r. r.value) f) j 0) (get_or (pack (λ r. r.care) f) j 0) (get_or (pack (λ r. r.value) g) j 0)
      (get_or (pack (λ r. r.care) g) j 0)

  abbrev planes : {d : ℕ} → Tree Row d → Tree Row d → List B
  planes {d} f g = map (at f g) (up_to (width d))

  bytes-planes : {d : ℕ} (f g : Tree Row d) → bytes f g ≡ planes f g
  bytes-planes {d} f g =
      map-up_to-cong (width d) _ (at f g)
      (λ j h i. Q (value-byte f j h i) (care-byte f j i) (value-byte g j h i) (care-byte g j i))

  at-cong : {d e : ℕ} (f g : Tree Row d) (f' g' : Tree Row e) (j k : ℕ) → ((p : Row → Bool) → get_or (pack p f) j 0 ≡ get_or (pack p f') k 0)
      → ((p : Row → Bool) → get_or (pack p g) j 0 ≡ get_or (pack p g') k 0) → at f g j ≡ at f' g' k
  at-cong f g f' g' j k q q' = λ i. Q (q (λ r. r.value) i) (q (λ r. r.care) i) (q' (λ r. r.value) i) (q' (λ r. r.care) i)

  pub bytes_small : {d : ℕ} (f g : Tree Row d) → d ≤ 3
      → bytes f g ≡ Q (num (λ r. r.value) f) (num (λ r. r.care) f) (num (λ r. r.value) g) (num (λ r. r.care) g) ∷ []
  bytes_small {d} f g h =
      bytes-planes f g
      ∙ rw (
        width_small d h,
        pack-small (λ r. r.value) f h,
        pack-small (λ r. r.care) f h,
        pack-small (λ r. r.value) g h,
        pack-small (λ r. r.care) g h,
      )

  pub bytes-node : {d : ℕ} (l h l' h' : Tree Row d) → 3 ≤ d → bytes (node l h) (node l' h') ≡ bytes l l' ++ bytes h h'
  bytes-node {d} l h l' h' k =
      bytes-planes (node l h) (node l' h') ∙ ap (λ n. map (at (node l h) (node l' h')) (up_to n)) (width-suc d k)
      ∙ map-up_to-add (at (node l h) (node l' h')) (width d) (width d)
      ∙ ap₂ ◌++◌
      (map-up_to-cong (width d) _ (at l l')
      (λ j b. at-cong (node l h) (node l' h') l l' j j (λ p. node-low p l h k j b) (λ p. node-low p l' h' k j b))
      ∙ sym (bytes-planes l l'))
      (map-up_to-cong (width d) _ (at h h')
      (λ j b. at-cong (node l h) (node l' h') h h' (width d + j) j (λ p. node-high p l h k j) (λ p. node-high p l' h' k j))
      ∙ sym (bytes-planes h h'))

-- a test that on numbers is R, and R of a node is R of its halves
pub tested : (Q : ℕ → ℕ → ℕ → ℕ → Bool) (R : (d : ℕ) → Tree Row d → Tree Row d → Bool)
    → ((d : ℕ) (f g : Tree Row d) → Q (num (λ r. r.value) f) (num (λ r. r.care) f) (num (λ r. r.value) g) (num (λ r. r.care) g)
    ≡ R d f g)
    → ((d : ℕ) (l h l' h' : Tree Row d) → R (suc d) (node l h) (node l' h') ≡ (R d l l' && R d h h'))
    → (d : ℕ) (f g : Tree Row d) → all (λ b. b) (bytes Q f g) ≡ R d f g
tested Q R n s zero (leaf r) (leaf r') =
    ap (all (λ b. b)) (bytes_small Q (leaf r) (leaf r') zero-le) ∙ and-true _ ∙ n zero (leaf r) (leaf r')
tested Q R n s (suc d) (node l h) (node l' h') =
    by_width d
    (λ k. ap (all (λ b. b)) (bytes_small Q (node l h) (node l' h') k) ∙ and-true _ ∙ n (suc d) (node l h) (node l' h'))
    (λ k. ap (all (λ b. b)) (bytes-node Q l h l' h' k) ∙ all-append-and (λ b. b) (bytes Q l l') (bytes Q h h')
    ∙ ap₂ ◌&&◌ (tested Q R n s d l l') (tested Q R n s d h h') ∙ sym (s d l h l' h'))

-- an operation whose number is that of the rows of m, and m of a node is m of its halves
pub made : (Q : ℕ → ℕ → ℕ → ℕ → ℕ) (p : Row → Bool) (m : (d : ℕ) → Tree Row d → Tree Row d → Tree Row d)
    → ((d : ℕ) (f g : Tree Row d)
    → Q (num (λ r. r.value) f) (num (λ r. r.care) f) (num (λ r. r.value) g) (num (λ r. r.care) g) ≡ num p (m d f g))
    → ((d : ℕ) (l h l' h' : Tree Row d) → m (suc d) (node l h) (node l' h') ≡ node (m d l l') (m d h h'))
    → (d : ℕ) (f g : Tree Row d) → bytes Q f g ≡ pack p (m d f g)
made Q p m n s zero (leaf r) (leaf r') =
    bytes_small Q (leaf r) (leaf r') zero-le ∙ ap (λ x. x ∷ []) (n zero (leaf r) (leaf r'))
    ∙ sym (pack-small p (m zero (leaf r) (leaf r')) zero-le)
made Q p m n s (suc d) (node l h) (node l' h') =
    by_width d
    (λ k. bytes_small Q (node l h) (node l' h') k ∙ ap (λ x. x ∷ []) (n (suc d) (node l h) (node l' h'))
    ∙ sym (pack-small p (m (suc d) (node l h) (node l' h')) k))
    (λ k. bytes-node Q l h l' h' k ∙ ap₂ ◌++◌ (made Q p m n s d l l') (made Q p m n s d h h') ∙ sym (pack-node p (m d l l') (m d h h') k)
    ∙ ap (pack p) (sym (s d l h l' h')))
