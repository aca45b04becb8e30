-- The two top variables of a packed tree exchanged on its bytes: the bytes of the exchanged tree.
-- Assumes nothing.
use mathlib.Core.Path.{◌≡◌, refl, sym, ap₂, ◌∙◌}
use mathlib.Core.Bool.{Bool, true, false}
use mathlib.Core.List.{List, [], ◌∷◌, ◌++◌, map}
use Prim.Native.Nat.{ℕ, suc, ◌+◌, ◌*◌}
use native.Mathlib.Nat.{le_of_lt}
use native.Mathlib.Omega.{arith}
use lib.Arith.{le→nltb}
use lib.Dec.{ltb, lt→ltb}
use lib.ListN.{length, drop, length-append, length-drop}
use lib.Seq.{take_at, drop_at, length-take-le}
use Rattle.lists.specs.Bits.{digit}
use Rattle.lists.proofs.Bools.{of_T, of-not}
use Rattle.lists.proofs.Bits.Digits.{digit-part-le}
use Rattle.diagram.specs.Tree.{Tree, node, half}
use Rattle.diagram.specs.Filling.Fill.{Row}
use Rattle.diagram.proofs.Orders.Lowered.{exchange}
use Rattle.reorder.specs.Sizes.{width}
use Rattle.reorder.specs.Pack.{pack, encode}
use Rattle.reorder.proofs.Pack.{by_width, pack-small, pack-length, width_small, width-suc}
use Rattle.matching.specs.Parts.{half_bytes}
use Rattle.matching.specs.Exchange.{join_bytes, paired_bytes, exchanged_plane, exchanged_part}
use Rattle.matching.proofs.Parts.TreeHalves.{half-plane}

-- how long

length-half : (b : Bool) (d : ℕ) (x : List ℕ) → length x ≡ width (suc d) → length (half_bytes b d (width d) x) ≡ width d
length-half b d x h =
    let w = width d in
    by_width d
    (λ k. let e : ltb d 3 ≡ true = of_T (lt→ltb d 3 k) in rw e (sym (width_small d (le_of_lt k))))
    (λ k. let e : ltb d 3 ≡ false = of-not (le→nltb d 3 k) in
    let s = width-suc d k in
    let i = digit-part-le b w in
    let n : length x ≡ w + w = h ∙ s in
    rw e (length-take-le w (drop (digit b * w) x) (omega (arith, length-drop (digit b * w) x))))

length-join : (d : ℕ) (low high : List ℕ) → length low ≡ width d → length high ≡ width d → length (join_bytes d low high) ≡ width (suc d)
length-join d low high l h =
    by_width d
    (λ k. let e : ltb d 3 ≡ true = of_T (lt→ltb d 3 k) in rw e)
    (λ k. let e : ltb d 3 ≡ false = of-not (le→nltb d 3 k) in rw e (length-append low high ∙ ap₂ ◌+◌ l h))

length-paired : (b : Bool) (d : ℕ) (low high : List ℕ) → length low ≡ width (suc d) → length high ≡ width (suc d)
    → length (paired_bytes b d low high) ≡ width (suc d)
length-paired b d low high l h =
    length-join d (half_bytes b d (width d) low) (half_bytes b d (width d) high) (length-half b d low l) (length-half b d high h)

pub length_exchanged : (d : ℕ) (x : List ℕ) → length x ≡ width (suc (suc d)) → length (exchanged_plane d x) ≡ width (suc (suc d))
unfolding exchanged_plane
length_exchanged d x h =
    let l = length-half false (suc d) x h in
    let m = length-half true (suc d) x h in
    let low = half_bytes false (suc d) (width (suc d)) x in
    let high = half_bytes true (suc d) (width (suc d)) x in
    length-join (suc d) (paired_bytes false d low high) (paired_bytes true d low high) (length-paired false d low high l m)
    (length-paired true d low high l m)

-- the planes of a packed tree

module _ {A : Type 0} (p : A → Bool) where
  join-plane : {d : ℕ} (l h : Tree A d) → join_bytes d (pack p l) (pack p h) ≡ pack p (node l h)
  join-plane {d} l h =
      by_width d
      (λ k. let e : ltb d 3 ≡ true = of_T (lt→ltb d 3 k) in
      let a = pack-small p l (le_of_lt k) in
      let b = pack-small p h (le_of_lt k) in
      rw (e, a, b))
      (λ k. let e : ltb d 3 ≡ false = of-not (le→nltb d 3 k) in rw e)

  -- halves b of the halves of a tree
  paired-plane : {d : ℕ} (b : Bool) (t : Tree A (suc (suc d)))
      → paired_bytes b d (half_bytes false (suc d) (width (suc d)) (pack p t)) (half_bytes true (suc d) (width (suc d)) (pack p t))
      ≡ pack p (node (half b (half false t)) (half b (half true t)))
  paired-plane {d} b t =
      ap₂ (paired_bytes b d) (half-plane p false t) (half-plane p true t)
      ∙ ap₂ (join_bytes d) (half-plane p b (half false t)) (half-plane p b (half true t))
      ∙ join-plane (half b (half false t)) (half b (half true t))

  exchanged-plane : {d : ℕ} (t : Tree A (suc (suc d))) → exchanged_plane d (pack p t) ≡ pack p (exchange t)
  unfolding exchanged_plane
  exchanged-plane {d} t =
      ap₂ (join_bytes (suc d)) (paired-plane false t) (paired-plane true t)
      ∙ join-plane (node (half false (half false t)) (half false (half true t))) (node (half true (half false t)) (half true (half true t)))

pub exchanged-part : {d : ℕ} (t : Tree Row (suc (suc d))) → exchanged_part d (encode t) ≡ encode (exchange t)
unfolding exchanged_part
exchanged-part {d} t =
    let v = pack (λ r. r.value) t in
    let c = pack (λ r. r.care) t in
    let n = pack-length (λ r. r.value) t in
    ap₂ (λ (x y : List ℕ). exchanged_plane d x ++ exchanged_plane d y)
    (take_at v c (width (suc (suc d))) n) (drop_at v c (width (suc (suc d))) n)
    ∙ ap₂ ◌++◌ (exchanged-plane (λ r. r.value) t) (exchanged-plane (λ r. r.care) t)

pub exchanged-parts : {d : ℕ} (ts : List (Tree Row (suc (suc d)))) → map (exchanged_part d) (map encode ts) ≡ map encode (map exchange ts)
exchanged-parts [] = refl
exchanged-parts (t ∷ ts) = ap₂ (λ (x : List ℕ) (l : List (List ℕ)). x ∷ l) (exchanged-part t) (exchanged-parts ts)
