-- The lent counts: their sum one by one, and rows counted into them one after the other.
-- Assumes nothing.
use mathlib.Core.Path.{◌≡◌, refl, sym, ap, ◌∙◌}
use mathlib.Core.Bool.{false}
use mathlib.Core.List.{List, [], ◌∷◌, ◌++◌}
use Prim.Native.Nat.{ℕ, zero, suc, ◌+◌, ◌-◌, ◌≤◌, ◌<◌}
use native.Mathlib.Numerals.{add-one}
use native.Mathlib.Omega.{arith}
use borrow.Author.Tests.{eq-eqb, ne_eqb, lt-leb}
use lib.Dec.{T, eqb, ltb, leb, eqb→eq, ltb→lt, lt→ltb, leb→le, le→leb, nltb→le}
use lib.ListN.{length, get_or, set, take, drop, length-set, get_or-eq_default}
use Rattle.std.specs.List.{sum_by}
use Rattle.std.proofs.lemmas.List.Sums.{sum_by_more}
use Rattle.lists.proofs.Numbers.Sums.{sum-cong, sum-add, sum-zero}
use mathlib.Core.List.{map, map-id}
use lib.Seq.{length-take-le, get_or-take, take-length}
use Prim.Native.Nat.{min}
use lib.Seq.{take-suc, split_at, ext_get_or, get_or-set_same, get_or-set_other}
use Rattle.lists.specs.Lists.{all}
use Rattle.lists.specs.Bits.{digit}
use Rattle.lists.specs.Sums.{sum_below}
use Rattle.lists.specs.Written.{over}
use Rattle.lists.proofs.Bools.{split, to-T, to-not, and_T, and_l, and_r, both_ways}
use Rattle.lists.proofs.Lists.Membership.{all-at}
use Rattle.lists.proofs.Numbers.Compared.{differ, below_other}
use Rattle.lists.proofs.Numbers.Sums.{sum-plus, sum-once}
use Rattle.lists.proofs.Written.Over.{length_over, get_d_over, get_or-over-past}
use Rattle.rowlog.specs.Log.{most_records, times, seen}

-- the times a row is in a list

pub times-append : (row : ℕ) (xs ys : List ℕ) → times row (xs ++ ys) ≡ times row xs + times row ys
times-append row [] ys = omega arith
times-append row (x ∷ xs) ys = omega (arith, times-append row xs ys)

pub times-most : (row : ℕ) (xs : List ℕ) → times row xs ≤ length xs
times-most row [] = omega arith
times-most row (x ∷ xs) =
    split (eqb row x) (λ e. rw e (omega (arith, times-most row xs))) (λ e. rw e (omega (arith, times-most row xs)))

-- a sum is at least each of its numbers
pub sum-at-least : (f : ℕ → ℕ) (k i : ℕ) → i < k → f i ≤ sum_below f k
sum-at-least f zero i h = absurd (omega arith)
sum-at-least f (suc k) i h =
    split (eqb i k) (λ e. let d : f i ≡ f k = ap f (eqb→eq i k (to-T e)) in omega arith)
    (λ e. omega (arith, sum-at-least f k i (below_other i k h e)))

-- the sum as the library adds it up

sum-taken : (xs : List ℕ) (k : ℕ) → k ≤ length xs → sum_by (λ x. x) (take k xs) ≡ sum_below (λ i. get_or xs i 0) k
sum-taken xs zero h = refl
sum-taken xs (suc k) h =
    let e : suc k ≡ k + 1 = omega arith in
    ap (λ (n : ℕ). sum_by (λ x. x) (take n xs)) e ∙ sum_by_more (λ x. x) xs k 0 (omega arith)
    ∙ ap (λ (n : ℕ). n + get_or xs k 0) (sum-taken xs k (omega arith))

pub sum_is : (xs : List ℕ) → sum_by (λ x. x) (map (λ x. x) xs) ≡ sum_below (λ i. get_or xs i 0) (length xs)
sum_is xs = ap (sum_by (λ x. x)) (map-id xs ∙ sym (take-length xs)) ∙ sum-taken xs (length xs) (omega arith)

-- past the end there is nothing to add
pub sum-first : (xs : List ℕ) (end k : ℕ) → k ≡ min end (length xs)
    → sum_below (λ i. get_or (take k xs) i 0) (length (take k xs)) ≡ sum_below (λ i. get_or xs i 0) end
sum-first xs end k e =
    let f : ℕ → ℕ = λ i. get_or xs i 0 in
    let front : sum_below (λ i. get_or (take k xs) i 0) k ≡ sum_below f k =
    sum-cong (λ i. get_or (take k xs) i 0) f k (λ i h. get_or-take k xs i 0 h) in
    let rest : sum_below (λ i. f (k + i)) (end - k) ≡ 0 =
    sum-cong (λ i. f (k + i)) (λ i. 0) (end - k) (λ i h. let past : length xs ≤ k + i = omega arith in get_or-eq_default xs 0 past) ∙ sum-zero (end - k) in
    let all : k + (end - k) ≡ end = omega arith in
    ap (sum_below (λ i. get_or (take k xs) i 0)) (length-take-le k xs (omega arith)) ∙ front
    ∙ omega (arith, rest, sum-add f k (end - k), ap (sum_below f) all)

-- whether so many more are not too many, by what the sum leaves

pub room-none : (records sum more : ℕ) → sum ≡ records → most_records < sum → false ≡ leb (records + more) most_records
room-none records sum more e h = sym (lt-leb (records + more) most_records (omega arith))

pub room-left : (records sum more : ℕ) → sum ≡ records → sum ≤ most_records
    → leb more (most_records - sum) ≡ leb (records + more) most_records
room-left records sum more e h =
    both_ways (leb more (most_records - sum)) (leb (records + more) most_records)
    (λ t. le→leb (records + more) most_records (omega (arith, leb→le more (most_records - sum) t)))
    (λ t. le→leb more (most_records - sum) (omega (arith, leb→le (records + more) most_records t)))

-- one row more

module _ (rows counts : List ℕ) (j : ℕ) (h : j < length rows) where
  abbrev row : ℕ
  row = get_or rows j 0

  seen_next : (i : ℕ) → seen (take (j + 1) rows) counts i ≡ seen (take j rows) counts i + digit (eqb i row)
  seen_next i =
      omega (
        arith,
        ap (λ (k : ℕ). times i (take k rows)) (add-one j) ∙ ap (times i) (take-suc rows j 0 h) ∙ times-append i (take j rows) (row ∷ []),
      )

  -- it is one of the rows whose times are still to come
  pub seen-room : seen (take j rows) counts row + 1 ≤ seen rows counts row
  seen-room =
      omega (
        arith,
        ap (times row) (split_at rows j 0 h) ∙ times-append row (take j rows) (row ∷ drop (suc j) rows),
        ap digit (eq-eqb row row refl),
      )

  pub row_within : (limit : ℕ) → T (all (λ x. ltb x limit) rows) → row < limit
  row_within limit t = ltb→lt row limit (all-at (λ x. ltb x limit) rows t j 0 h)

  -- where the counts so far are those of the rows before it
  module _ (now : List ℕ) (e : now ≡ over (seen (take j rows) counts) (length counts) counts) (k : row < length counts) where
    pub counted-at : (i : ℕ) → i < length counts → get_or now i 0 ≡ seen (take j rows) counts i
    counted-at i l =
        ap (λ (xs : List ℕ). get_or xs i 0) e ∙ get_d_over (seen (take j rows) counts) (length counts) counts i 0 l

    pub counted-length : length now ≡ length counts
    counted-length = ap length e ∙ length_over (seen (take j rows) counts) (length counts) counts (omega arith)

    raised_at : (i x : ℕ) → x ≡ get_or now row 0 + 1 → i < length counts → get_or (set now row x) i 0 ≡ seen (take (j + 1) rows) counts i
    raised_at i x d l =
        split (eqb i row)
        (λ q. let same : i ≡ row = eqb→eq i row (to-T q) in
        ap (λ (y : ℕ). get_or (set now row x) y 0) same
        ∙ get_or-set_same now row x 0 (omega (arith, counted-length))
        ∙ omega (arith, d, counted-at row k, seen_next i, ap digit q, ap (seen (take j rows) counts) same))
        (λ q. get_or-set_other now row i x 0 (differ i row q) ∙ counted-at i l ∙ omega (arith, seen_next i, ap digit q))

    pub counted_next : (x : ℕ) → x ≡ get_or now row 0 + 1
        → set now row x ≡ over (seen (take (j + 1) rows) counts) (length counts) counts
    counted_next x d =
        ext_get_or 0 (set now row x) (over (seen (take (j + 1) rows) counts) (length counts) counts)
        (length-set now row x ∙ counted-length ∙ sym (length_over (seen (take (j + 1) rows) counts) (length counts) counts (omega arith)))
        (λ i l. let h : i < length counts = omega (arith, length-set now row x, counted-length) in
        raised_at i x d h ∙ sym (get_d_over (seen (take (j + 1) rows) counts) (length counts) counts i 0 h))

pub counted_none : (counts : List ℕ) → counts ≡ over (seen [] counts) (length counts) counts
counted_none counts =
    ext_get_or 0 counts (over (seen [] counts) (length counts) counts)
    (sym (length_over (seen [] counts) (length counts) counts (omega arith)))
    (λ i h. omega (arith, get_d_over (seen [] counts) (length counts) counts i 0 h))

-- no row of a list below a limit is at or past it
pub times_none : (limit row : ℕ) (rows : List ℕ) → T (all (λ x. ltb x limit) rows) → limit ≤ row → times row rows ≡ 0
times_none limit row [] t h = refl
times_none limit row (x ∷ xs) t h =
    let l = ltb→lt x limit (and_l (ltb x limit) (all (λ y. ltb y limit) xs) t) in
    omega (
      arith,
      ap digit (ne_eqb row x (λ e. omega arith)),
      times_none limit row xs (and_r (ltb x limit) (all (λ y. ltb y limit) xs) t) h,
    )

-- so the counts past the rows stay
pub counted-first : (limit : ℕ) (rows counts : List ℕ) → T (all (λ x. ltb x limit) rows) → limit ≤ length counts
    → over (seen rows counts) (length counts) counts ≡ over (seen rows counts) limit counts
counted-first limit rows counts t h =
    ext_get_or 0 (over (seen rows counts) (length counts) counts) (over (seen rows counts) limit counts)
    (length_over (seen rows counts) (length counts) counts (omega arith) ∙ sym (length_over (seen rows counts) limit counts h))
    (λ i l. let b : i < length counts = omega (arith, length_over (seen rows counts) (length counts) counts (omega arith)) in
    get_d_over (seen rows counts) (length counts) counts i 0 b
    ∙ split (ltb i limit) (λ e. sym (get_d_over (seen rows counts) limit counts i 0 (ltb→lt i limit (to-T e))))
    (λ e. let past = nltb→le i limit (to-not e) in
    omega (arith, get_or-over-past (seen rows counts) limit counts i 0 past, times_none limit i rows t past)))

-- rows below a limit are below every larger one
pub all-more-below : (limit more : ℕ) (rows : List ℕ) → limit ≤ more → T (all (λ x. ltb x limit) rows) → T (all (λ x. ltb x more) rows)
all-more-below limit more [] h t = tt
all-more-below limit more (x ∷ xs) h t =
    let l = ltb→lt x limit (and_l (ltb x limit) (all (λ y. ltb y limit) xs) t) in
    and_T (ltb x more) (all (λ y. ltb y more) xs) (lt→ltb x more (omega arith))
    (all-more-below limit more xs h (and_r (ltb x limit) (all (λ y. ltb y limit) xs) t))

-- where the records have room, no count overflows
pub seen_most : (limit row : ℕ) (rows counts : List ℕ) → row < limit
    → sum_below (λ i. get_or counts i 0) limit + length rows ≤ most_records → seen rows counts row ≤ most_records
seen_most limit row rows counts h m =
    omega (arith, sum-at-least (λ i. get_or counts i 0) limit row h, times-most row rows)

-- the times of all rows below a limit, where every row of the list is
pub sum-times : (limit : ℕ) (rows : List ℕ) → T (all (λ x. ltb x limit) rows) → sum_below (λ i. times i rows) limit ≡ length rows
sum-times limit [] t = sum-zero limit
sum-times limit (x ∷ xs) t =
    omega (
      arith,
      sum-plus (λ i. digit (eqb i x)) (λ i. times i xs) limit,
      sum-once x limit (ltb→lt x limit (and_l (ltb x limit) (all (λ y. ltb y limit) xs) t)),
      sum-times limit xs (and_r (ltb x limit) (all (λ y. ltb y limit) xs) t),
    )
