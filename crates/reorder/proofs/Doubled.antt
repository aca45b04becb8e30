-- The map of the rows with the next bit, from that of the rows without it.
-- Assumes nothing.
use mathlib.Core.Path.{◌≡◌, sym, ap, ap₂, ◌∙◌}
use mathlib.Core.Bool.{Bool, cond}
use mathlib.Core.List.{List, ◌++◌, map}
use Prim.Native.Nat.{ℕ, suc, ◌+◌, ◌-◌, ◌^◌, ◌≤◌, ◌<◌, zero-le}
use native.Mathlib.Nat.{two-pow-succ, add_comm}
use native.Mathlib.Numerals.{add-one}
use native.Mathlib.Omega.{arith}
use borrow.Author.Tests.{lt-ltb, le-ltb, ltb-true}
use lib.Dec.{ltb}
use lib.ListN.{length, get_or, take, drop, replicate, length-drop, take-append-drop}
use lib.Pow.{pow_mono}
use lib.Seq.{ext_get_or, get_or-drop}
use Rattle.lists.specs.Lists.{up_to}
use Rattle.lists.proofs.Bools.{split}
use Rattle.lists.proofs.Numbers.UpTo.{length-map-up_to, get_or-map-up_to, take-map-up_to, map-up_to-cong, up_to-drop}
use Rattle.lists.proofs.Written.Filled.{filled}
use Rattle.diagram.specs.Networks.Bound.{most_variables}
use Rattle.diagram.specs.Orders.Order.{behind}
use Rattle.reorder.specs.Sizes.{most_rows}
use Rattle.reorder.specs.Inner.Rows.{row_shares}
use Rattle.reorder.proofs.RowBits.{behind-zero, behind-over, behind-lt}
use Rattle.reorder.proofs.Shifts.{most-rows, rows-room}
use Rattle.reorder.proofs.Gathered.{map-none}

-- of k elements p are filled, and then twice as many
module _ (f : ℕ → ℕ) (k p : ℕ) (h : p + p ≤ k) where
  abbrev some : ℕ → ℕ → ℕ
  some m i = cond (ltb i m) (f i) 0

  fill-at : (m i : ℕ) → i < m → some m i ≡ f i
  fill-at m i g = ap (λ (b : Bool). cond b (f i) 0) (lt-ltb i m g)

  fill-past : (m i : ℕ) → m ≤ i → some m i ≡ 0
  fill-past m i g = ap (λ (b : Bool). cond b (f i) 0) (le-ltb i m g)

  front : take p (filled f k p) ≡ take p (filled f k (p + p))
  front =
      take-map-up_to (some p) p k (omega arith)
      ∙ map-up_to-cong p (some p) (some (p + p)) (λ i g. fill-at p i g ∙ sym (fill-at (p + p) i (omega arith)))
      ∙ sym (take-map-up_to (some (p + p)) p k (omega arith))

  length_rest : (m : ℕ) → length (drop (p + p) (filled f k m)) ≡ k - (p + p)
  length_rest m = length-drop (p + p) (filled f k m) ∙ ap (λ n. n - (p + p)) (length-map-up_to (some m) k)

  rest_at : (m i : ℕ) → m ≤ p + p → i < k - (p + p) → get_or (drop (p + p) (filled f k m)) i 0 ≡ 0
  rest_at m i g l =
      get_or-drop (p + p) (filled f k m) i 0 ∙ get_or-map-up_to (some m) k (p + p + i) 0 (omega arith) ∙ fill-past m (p + p + i) (omega arith)

  rest : drop (p + p) (filled f k p) ≡ drop (p + p) (filled f k (p + p))
  rest =
      ext_get_or 0 (drop (p + p) (filled f k p)) (drop (p + p) (filled f k (p + p))) (length_rest p ∙ sym (length_rest (p + p)))
      (λ i g. let l : i < k - (p + p) = omega (arith, length_rest p) in
      rest_at p i (omega arith) l ∙ sym (rest_at (p + p) i (omega arith) l))

  pub filled-twice : (g : ℕ → ℕ) → ((i : ℕ) → i < p → g i ≡ f (p + i))
      → take p (filled f k p) ++ (map g (up_to p) ++ drop (p + p) (filled f k p)) ≡ filled f k (p + p)
  filled-twice g e =
      ap₂ (λ (a b : List ℕ). a ++ b) front
      (ap₂ (λ (a b : List ℕ). a ++ b)
      (map-up_to-cong p g (λ i. get_or (filled f k (p + p)) (p + i) 0)
      (λ i q. e i q ∙ sym (get_or-map-up_to (some (p + p)) k (p + i) 0 (omega arith) ∙ fill-at (p + p) (p + i) (omega arith))))
      rest
      ∙ up_to-drop (filled f k (p + p)) p p 0 (omega (arith, length-map-up_to (some (p + p)) k)))
      ∙ take-append-drop p (filled f k (p + p))

-- the rows of one bit more are among the rows
pub rows-within : (n l : ℕ) → n ≤ most_variables → l < n → 2 ^ l + 2 ^ l ≤ most_rows
rows-within n l h k = omega (arith, two-pow-succ l, pow_mono {i = suc l} k, rows-room n h)

module _ (n : ℕ) (order : List ℕ) where
  -- the map of the rows of the lowest l bits
  abbrev pub rows_to : ℕ → List ℕ
  rows_to l = filled (behind n (take n order)) most_rows (2 ^ l)

  first-row : (i : ℕ) → cond (ltb i 0) (behind n (take n order) i) 0 ≡ cond (ltb i 1) (behind n (take n order) i) 0
  first-row i =
      ap (λ (b : Bool). cond b (behind n (take n order) i) 0) (le-ltb i 0 zero-le)
      ∙ split (ltb i 1)
      (λ e. let z : i ≡ 0 = omega (arith, ltb-true i 1 e) in rw (e, z) (sym (behind-zero n (take n order))))
      (λ e. sym (ap (λ (b : Bool). cond b (behind n (take n order) i) 0) e))

  pub rows-first : replicate most_rows 0 ≡ rows_to 0
  rows-first = map-none (behind n (take n order)) most_rows ∙ map-up_to-cong most_rows _ _ (λ i _. first-row i)

  pub length-rows : (l : ℕ) → length (rows_to l) ≡ most_rows
  length-rows l = length-map-up_to (λ q. cond (ltb q (2 ^ l)) (behind n (take n order) q) 0) most_rows

  -- bit l is added
  module _ (fits : n ≤ most_variables) (l : ℕ) (h : l < n) (shares m : List ℕ) (e : shares ≡ row_shares n order) (d : m ≡ rows_to l) where
    share-at : get_or shares l 0 ≡ behind n (take n order) (2 ^ l)
    unfolding row_shares
    share-at =
        ap (λ r. get_or r l 0) e ∙ get_or-map-up_to (λ b. behind n (take n order) (2 ^ b)) most_variables l 0 (omega arith)

    next_row : (s : ℕ) → s < 2 ^ l → get_or m s 0 + get_or shares l 0 ≡ behind n (take n order) (2 ^ l + s)
    next_row s g =
        ap₂ ◌+◌
        (ap (λ r. get_or r s 0) d
        ∙ get_or-map-up_to (λ q. cond (ltb q (2 ^ l)) (behind n (take n order) q) 0) most_rows s 0 (omega (arith, rows-within n l fits h))
        ∙ ap (λ (b : Bool). cond b (behind n (take n order) s) 0) (lt-ltb s (2 ^ l) g))
        share-at
        ∙ add_comm (behind n (take n order) s) (behind n (take n order) (2 ^ l)) ∙ sym (behind-over n (take n order) l s g)

    pub next-room : (s : ℕ) → s < 2 ^ l → get_or m s 0 + get_or shares l 0 < 65536
    next-room s g = omega (arith, next_row s g, behind-lt n (take n order) (2 ^ l + s), most-rows, rows-room n fits)

    pub rows_more : (b : List ℕ) (k : ℕ) → k ≡ 2 ^ l → b ≡ take k m ++ (map (λ s. get_or m s 0 + get_or shares l 0) (up_to k) ++ drop (k + k) m)
        → b ≡ rows_to (l + 1)
    rows_more b k z q =
        q ∙ ap (λ j. take j m ++ (map (λ s. get_or m s 0 + get_or shares l 0) (up_to j) ++ drop (j + j) m)) z
        ∙ ap (λ r. take (2 ^ l) r ++ (map (λ s. get_or m s 0 + get_or shares l 0) (up_to (2 ^ l)) ++ drop (2 ^ l + 2 ^ l) r)) d
        ∙ filled-twice (behind n (take n order)) most_rows (2 ^ l) (rows-within n l fits h) (λ s. get_or m s 0 + get_or shares l 0) next_row
        ∙ ap (filled (behind n (take n order)) most_rows) (sym (two-pow-succ l) ∙ ap (λ j. 2 ^ j) (sym (add-one l)))
