-- The halves of a part are the parts of the halves: below a byte its bits are cut in two, from a byte on its bytes. And so is what they
-- come to as candidates.
-- Assumes nothing.
use mathlib.Core.Path.{◌≡◌, refl, sym, ap, ap₂, ◌∙◌}
use mathlib.Core.Bool.{Bool, true, false}
use mathlib.Core.List.{List, [], ◌∷◌, ◌++◌, map}
use Prim.Native.Nat.{ℕ, suc, ◌*◌, ◌/◌, ◌%◌, ◌^◌}
use native.Mathlib.Nat.{le_of_lt, le_of_eq, one-mul, zero-mul, div-one, mod-eq_of_lt}
use lib.Arith.{le→nltb}
use lib.Dec.{ltb, lt→ltb}
use lib.ListN.{take, drop}
use lib.Pow.{high, low}
use lib.Seq.{take_at, drop_at, take_all}
use Rattle.lists.specs.Bits.{digit}
use Rattle.lists.proofs.Bools.{split, of_T, of-not}
use Rattle.diagram.specs.Tree.{Tree, node, half}
use Rattle.diagram.specs.Filling.Fill.{Row, unites, united}
use Rattle.diagram.proofs.Filling.Evened.{evened, next_of}
use Rattle.reorder.specs.Sizes.{width}
use Rattle.reorder.specs.Pack.{num, pack, encode}
use Rattle.matching.specs.Parts.{agree_part, merge_part, half_bytes, half_part, offered_part, offered_parts}
use Rattle.reorder.proofs.Pack.{by_width, pack-small, pack-length, num-lt}
use Rattle.matching.proofs.Parts.TreeTests.{agree-bytes, merge-bytes}

module _ {A : Type 0} (p : A → Bool) where
  -- the rows of a half, out of the number of all rows
  half-num : {d : ℕ} (b : Bool) (l h : Tree A d)
      → num p (node l h) / 2 ^ (digit b * 2 ^ d) % 2 ^ (2 ^ d) ≡ num p (half b (node l h))
  half-num {d} false l h =
      ap (λ k. num p (node l h) / 2 ^ k % 2 ^ (2 ^ d)) (zero-mul (2 ^ d)) ∙ ap (λ n. n % 2 ^ (2 ^ d)) (div-one (num p (node l h)))
      ∙ low (num p h) (2 ^ d) (num-lt p l)
  half-num {d} true l h =
      ap (λ k. num p (node l h) / 2 ^ k % 2 ^ (2 ^ d)) (one-mul (2 ^ d))
      ∙ ap (λ n. n % 2 ^ (2 ^ d)) (high (num p h) (2 ^ d) (num-lt p l)) ∙ mod-eq_of_lt (num-lt p h)

  -- the bytes of a half, out of those of all rows
  half-cut : {d : ℕ} (b : Bool) (l h : Tree A d)
      → take (width d) (drop (digit b * width d) (pack p l ++ pack p h)) ≡ pack p (half b (node l h))
  half-cut {d} false l h =
      ap (λ k. take (width d) (drop k (pack p l ++ pack p h))) (zero-mul (width d)) ∙ take_at (pack p l) (pack p h) (width d)
      (pack-length p l)
  half-cut {d} true l h =
      ap (λ k. take (width d) (drop k (pack p l ++ pack p h))) (one-mul (width d))
      ∙ ap (take (width d)) (drop_at (pack p l) (pack p h) (width d) (pack-length p l))
      ∙ take_all (width d) (pack p h) (le_of_eq (pack-length p h))

  pub half-plane : {d : ℕ} (b : Bool) (t : Tree A (suc d)) → half_bytes b d (width d) (pack p t) ≡ pack p (half b t)
  half-plane {d} b (node l h) =
      by_width d
      (λ k. let e : ltb d 3 ≡ true = of_T (lt→ltb d 3 k) in
      rw (e, pack-small p (half b (node l h)) (le_of_lt k)) (ap (λ n. n ∷ []) (half-num b l h)))
      (λ k. let e : ltb d 3 ≡ false = of-not (le→nltb d 3 k) in rw e (half-cut b l h))

pub half-bytes : {d : ℕ} (b : Bool) (t : Tree Row (suc d)) → half_part b d (encode t) ≡ encode (half b t)
unfolding half_part
half-bytes {d} b t =
    let v = pack (λ r. r.value) t in
    let c = pack (λ r. r.care) t in
    ap₂ (λ x y. half_bytes b d (width d) x ++ half_bytes b d (width d) y)
    (take_at v c (width (suc d)) (pack-length (λ r. r.value) t)) (drop_at v c (width (suc d)) (pack-length (λ r. r.value) t))
    ∙ ap₂ ◌++◌ (half-plane (λ r. r.value) b t) (half-plane (λ r. r.care) b t)

-- what the halves come to

unites-bytes : {d : ℕ} (t : Tree Row (suc d))
    → agree_part false (width d) (half_part true d (encode t)) (half_part false d (encode t)) ≡ unites t
unites-bytes {d} t =
    ap₂ (agree_part false (width d)) (half-bytes true t) (half-bytes false t) ∙ agree-bytes false (half true t) (half false t)

united-bytes : {d : ℕ} (t : Tree Row (suc d))
    → merge_part false (width d) (half_part true d (encode t)) (half_part false d (encode t)) ≡ encode (united t)
united-bytes {d} t =
    ap₂ (merge_part false (width d)) (half-bytes true t) (half-bytes false t) ∙ merge-bytes false (half true t) (half false t)

half-same : {d : ℕ} (b : Bool) (t : Tree Row d) → half b (node t t) ≡ t
half-same true t = refl
half-same false t = refl

offered-tree : {d : ℕ} (b : Bool) (t : Tree Row (suc d)) → offered_part b d (encode t) ≡ encode (half b (evened t))
unfolding offered_part
offered-tree b t =
    split (unites t)
    (λ e. rw (unites-bytes t, e, united-bytes t) (ap encode (sym (half-same b (united t)))))
    (λ e. rw (unites-bytes t, e) (half-bytes b t))

pub offered-bytes : {d : ℕ} (ts : List (Tree Row (suc d))) → offered_parts d (map encode ts) ≡ map encode (next_of ts)
offered-bytes [] = refl
offered-bytes (t ∷ ts) =
    ap₂ (λ (x : List ℕ × List ℕ) (l : List (List ℕ)). x.0 ∷ x.1 ∷ l)
    (λ i. (offered-tree false t i, offered-tree true t i)) (offered-bytes ts)
