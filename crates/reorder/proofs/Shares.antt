-- What the bits of a row add to the drawn row behind it, made one variable at a time.
-- Assumes nothing.
use mathlib.Core.Path.{◌≡◌, sym, ap, ap₂, ◌∙◌, subst}
use mathlib.Core.Bool.{Bool}
use mathlib.Core.List.{List, map}
use Prim.Native.Nat.{ℕ, suc, ◌+◌, ◌*◌, ◌-◌, ◌%◌, ◌^◌, ◌≤◌, ◌<◌}
use native.Mathlib.Nat.{two-pow-succ, one-mul}
use native.Mathlib.Numerals.{add-one}
use native.Mathlib.Omega.{arith}
use borrow.Author.Tests.{eqb-true}
use lib.Dec.{eqb, lit<}
use lib.ListN.{length, get_or, take, set, replicate, length-set}
use lib.Pow.{pow_mono, shl_lt, shl_exact}
use lib.Seq.{ext_get_or, get_or-set_same, get_or-set_other}
use Rattle.lists.specs.Lists.{index, up_to}
use Rattle.lists.specs.Bits.{digit, row_number, bit}
use Rattle.lists.proofs.Bools.{split}
use Rattle.lists.proofs.Bits.Digits.{number_lt}
use Rattle.lists.proofs.Numbers.Compared.{differ}
use Rattle.lists.proofs.Numbers.UpTo.{length-map-up_to, get_or-map-up_to, map-up_to-cong}
use Rattle.diagram.specs.Networks.Bound.{most_variables}
use Rattle.diagram.specs.Orders.Order.{behind}
use Rattle.reorder.specs.Inner.Rows.{row_shares}
use Rattle.reorder.proofs.RowBits.{digit-one}

-- one element raised by x
abbrev raised : (ℕ → ℕ) → ℕ → ℕ → ℕ → ℕ
raised g q x i = g i + digit (eqb i q) * x

module _ (g : ℕ → ℕ) (k q x : ℕ) (h : q < k) where
  length-raised : length (set (map g (up_to k)) q (g q + x)) ≡ k
  length-raised = length-set (map g (up_to k)) q (g q + x) ∙ length-map-up_to g k

  raised_at : (i : ℕ) → i < k → get_or (set (map g (up_to k)) q (g q + x)) i 0 ≡ raised g q x i
  raised_at i l =
      split (eqb i q)
      (λ e. rw (e, eqb-true i q e) (get_or-set_same (map g (up_to k)) q (g q + x) 0 (omega (arith, length-map-up_to g k)) ∙ omega arith))
      (λ e. rw e (get_or-set_other (map g (up_to k)) q i (g q + x) 0 (differ i q e) ∙ get_or-map-up_to g k i 0 l ∙ omega arith))

  one-raised : set (map g (up_to k)) q (g q + x) ≡ map (raised g q x) (up_to k)
  one-raised =
      ext_get_or 0 (set (map g (up_to k)) q (g q + x)) (map (raised g q x) (up_to k)) (length-raised ∙ sym (length-map-up_to (raised g q x) k))
      (λ i m. let l : i < k = omega (arith, length-raised) in raised_at i l ∙ sym (get_or-map-up_to (raised g q x) k i 0 l))

twice : (x b p : ℕ) → x * (p + p) + b * p ≡ (2 * x + b) * p
twice x b p = omega arith

module _ (n : ℕ) (order : List ℕ) where
  -- the share of bit l, of the variables below v
  abbrev share : ℕ → ℕ → ℕ
  share v l = row_number v (λ w. bit n (index eqb w (take n order)) (2 ^ l)) * 2 ^ (n - v)

  abbrev pub shares_of : ℕ → List ℕ
  shares_of v = map (share v) (up_to most_variables)

  -- the bit of the level of variable v
  abbrev pub level_bit : ℕ → ℕ
  level_bit v = n - suc (index eqb v (take n order))

  share-more : (v l : ℕ) → v < n → share v l + digit (eqb l (level_bit v)) * 2 ^ (n - 1 - v) ≡ share (v + 1) l
  share-more v l h =
      let a : ℕ → Bool = λ w. bit n (index eqb w (take n order)) (2 ^ l) in
      let p : ℕ = 2 ^ (n - 1 - v) in
      let e : n - v ≡ suc (n - 1 - v) = omega arith in
      let d : n - 1 - v ≡ n - (v + 1) = omega arith in
      ap₂ (λ (x y : ℕ). row_number v a * x + y * p) (ap (λ k. 2 ^ k) e ∙ two-pow-succ (n - 1 - v))
      (sym (digit-one n (index eqb v (take n order)) l))
      ∙ twice (row_number v a) (digit (a v)) p
      ∙ ap₂ (λ j k. row_number j a * 2 ^ k) (sym (add-one v)) d

  share-lt : (v l : ℕ) → v ≤ n → share v l < 2 ^ n
  share-lt v l h =
      let e : v + (n - v) ≡ n = omega arith in
      subst (λ k. share v l < 2 ^ k) e (shl_lt v (n - v) (number_lt v (λ w. bit n (index eqb w (take n order)) (2 ^ l))))

  -- variable v is added
  module _ (v : ℕ) (h : v < n) (k : n ≤ most_variables) (l : List ℕ) (e : l ≡ shares_of v)
      (q x : ℕ) (d : q ≡ level_bit v) (f : x ≡ 1 * 2 ^ (n - 1 - v) % 65536) where
    one : x ≡ 2 ^ (n - 1 - v)
    one = f ∙ shl_exact {a = 1} 1 (n - 1 - v) 16 (lit< tt) (omega arith) ∙ one-mul (2 ^ (n - 1 - v))

    at-bit : get_or l q 0 ≡ share v q
    at-bit = ap (λ m. get_or m q 0) e ∙ get_or-map-up_to (share v) most_variables q 0 (omega arith)

    pub shares-room : get_or l q 0 + x < 65536
    shares-room =
        let m : 2 ^ (n - 1 - v) ≤ 2 ^ n = pow_mono (omega arith) in
        omega (arith, at-bit, one, share-lt v q (omega arith), pow_mono {j = most_variables} k)

    pub shares-more : set l q (get_or l q 0 + x) ≡ shares_of (v + 1)
    shares-more =
        ap₂ (λ (m : List ℕ) (y : ℕ). set m q (y + x)) e at-bit ∙ one-raised (share v) most_variables q x (omega arith)
        ∙ map-up_to-cong most_variables (raised (share v) q x) (share (v + 1))
        (λ i _. ap₂ (λ j y. share v i + digit (eqb i j) * y) d one ∙ share-more v i h)

  pub shares-all : (v : ℕ) → v ≡ n → shares_of v ≡ row_shares n order
  unfolding row_shares behind
  shares-all v e =
      ap shares_of e
      ∙ map-up_to-cong most_variables (share n) (λ l. behind n (take n order) (2 ^ l))
      (λ l _. let d : n - n ≡ 0 = omega arith in rw d (omega arith))

  pub length-shares : length (row_shares n order) ≡ most_variables
  unfolding row_shares
  length-shares = length-map-up_to (λ l. behind n (take n order) (2 ^ l)) most_variables
