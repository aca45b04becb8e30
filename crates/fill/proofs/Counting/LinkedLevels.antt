-- The levels of links in a work buffer, whoever put them there: refused, or counted; and what is known of the counts.
-- Assumes nothing.
use Rattle.std.specs.Prelude.{Ok, Err}
use mathlib.Core.Path.{◌≡◌, refl, sym, ap, ap₂, ◌∙◌}
use mathlib.Core.Bool.{true, false}
use mathlib.Core.List.{List, [], ◌∷◌, sum}
use Prim.Native.Nat.{ℕ, zero, suc, ◌+◌, ◌*◌, ◌≤◌, ◌<◌}
use native.Mathlib.Nat.{zero-add, not-suc-le-zero, le_of_suc-le-suc}
use native.Mathlib.Omega.{arith}
use borrow.Author.Tests.{le-leb}
use lib.Dec.{leb, leb→le}
use lib.ListN.{length, get_or, take, length-take}
use Rattle.lists.specs.Sums.{sum_below}
use Rattle.lists.proofs.Bools.{to-T, and_l, and_r}
use Rattle.lists.proofs.Numbers.Sums.{sum-add, sum-cong, sum-zero}
use Rattle.diagram.specs.Networks.Bound.{most_variables, most_outputs}
use Rattle.table.specs.declared.Refusal.TheVariants.{ShortBuffer}
use Rattle.fill.specs.Work.{work_size, links_at}
use Rattle.fill.specs.Calls.{per_level}
use Rattle.fill.specs.Counts.{differing_pairs, counts_at, links_end, links_fit, counted_links, linked_levels}
use Rattle.fill.proofs.Buffers.Sizes.{sizes}
use Rattle.fill.proofs.Counting.CountedCells.{counts-few}
use Rattle.fill.proofs.Counting.PerLevel.{sum-per-level, per-level-at}

-- the levels' numbers of entries as a list, and as far as n of them

counts-length : (work : List ℕ) (at n : ℕ) (entries : List ℕ) → length (counts_at work at (take n entries)) ≤ n
counts-length work at n entries = omega (arith, same work at (take n entries), length-take n entries)
  where
    same : (work : List ℕ) (at : ℕ) (ks : List ℕ) → length (counts_at work at ks) ≡ length ks
    same work at [] = refl
    same work at (k ∷ ks) = ap suc (same work (at + 4 * k) ks)

-- the first number, and the others added up
sum_first : (f : ℕ → ℕ) (n : ℕ) → sum_below f (suc n) ≡ f 0 + sum_below (λ i. f (suc i)) n
sum_first f n =
    let one : suc n ≡ 1 + n = omega arith in
    ap (sum_below f) one ∙ sum-add f 1 n
    ∙ ap₂ ◌+◌ (zero-add (f 0)) (sum-cong (λ i. f (1 + i)) (λ i. f (suc i)) n (λ i h. let e : 1 + i ≡ suc i = omega arith in ap f e))

ends-sum : (at n : ℕ) (entries : List ℕ) → links_end at (take n entries) ≡ at + 4 * sum_below (λ q. get_or entries q 0) n
ends-sum at zero entries = omega arith
ends-sum at (suc n) [] = omega (arith, sum-zero (suc n))
ends-sum at (suc n) (k ∷ ks) = omega (arith, ends-sum (at + 4 * k) n ks, sum_first (λ q. get_or (k ∷ ks) q 0) n)

counts-level : (work : List ℕ) (at n : ℕ) (entries : List ℕ) (q : ℕ) → q < n
    → get_or (counts_at work at (take n entries)) q 0 ≡ differing_pairs work (at + 4 * sum_below (λ j. get_or entries j 0) q) (get_or entries q 0)
counts-level work at zero entries q h = absurd (not-suc-le-zero h)
counts-level work at (suc n) [] q h = refl
counts-level work at (suc n) (k ∷ ks) zero h = ap (λ (i : ℕ). differing_pairs work i k) (omega arith)
counts-level work at (suc n) (k ∷ ks) (suc q) h =
    let e : at + 4 * k + 4 * sum_below (λ j. get_or ks j 0) q ≡ at + 4 * sum_below (λ j. get_or (k ∷ ks) j 0) (suc q) =
    omega (arith, sum_first (λ j. get_or (k ∷ ks) j 0) q) in
    counts-level work (at + 4 * k) n ks q (le_of_suc-le-suc h) ∙ ap (λ (i : ℕ). differing_pairs work i (get_or ks q 0)) e

sum-levels : (xs : List ℕ) (n : ℕ) → length xs ≤ n → sum ◌+◌ 0 xs ≡ sum_below (λ q. get_or xs q 0) n
unfolding sum
sum-levels [] n h = sym (sum-zero n)
sum-levels (x ∷ xs) zero h = absurd (not-suc-le-zero h)
sum-levels (x ∷ xs) (suc n) h = ap (λ (k : ℕ). x + k) (sum-levels xs n (le_of_suc-le-suc h)) ∙ sym (sum_first (λ q. get_or (x ∷ xs) q 0) n)

module _ (n m : ℕ) (entries work : List ℕ) where
  abbrev ks : List ℕ
  ks = take n entries

  abbrev first : ℕ
  first = links_at + 2 * m

  abbrev cs : List ℕ
  cs = counts_at work first ks

  pub linked-refused : links_fit n m entries (length work) ≡ false → Err ShortBuffer ≡ linked_levels n m entries work
  unfolding linked_levels
  linked-refused e = rw e

  -- where level q's links begin: behind the outputs' and those of the levels above
  abbrev start : ℕ → ℕ
  start q = first + 4 * sum_below (λ j. get_or entries j 0) q

  pub linked-fit : n ≤ most_variables → m ≤ most_outputs → work_size ≤ length work → start n ≤ work_size
      → links_fit n m entries (length work) ≡ true
  unfolding links_fit
  linked-fit a b c d =
      rw (le-leb n most_variables a, le-leb m most_outputs b, le-leb work_size (length work) c)
      (le-leb (links_end first ks) work_size (omega (arith, ends-sum first n entries)))

  module _ (fit : links_fit n m entries (length work) ≡ true) where
    pub linked-asks : (n ≤ most_variables) × (m ≤ most_outputs) × (work_size ≤ length work) × (links_end first ks ≤ work_size)
    unfolding links_fit
    linked-asks =
        let t = to-T fit in
        let t₁ = and_r (leb n most_variables) _ t in
        let t₂ = and_r (leb m most_outputs) _ t₁ in (
          leb→le n most_variables (and_l (leb n most_variables) _ t),
          leb→le m most_outputs (and_l (leb m most_outputs) _ t₁),
          leb→le work_size (length work) (and_l (leb work_size (length work)) _ t₂),
          leb→le (links_end first ks) work_size (and_r (leb work_size (length work)) _ t₂),
        )

    few : length cs ≤ most_variables
    few = omega (arith, counts-length work first n entries, linked-asks.0)

    pub linked-few : sum ◌+◌ 0 (per_level cs) ≤ work_size
    linked-few = omega (sizes, sum-per-level cs few, counts-few work first ks, linked-asks.3)

    pub linked-levels : (l : List ℕ) → l ≡ per_level cs → (k : ℕ) → k ≡ sum ◌+◌ 0 l
        → Ok (record { cells = k; entries = entries; counts = l }) ≡ linked_levels n m entries work
    unfolding linked_levels counted_links
    linked-levels l el k ek =
        let e : k ≡ sum ◌+◌ 0 cs = ek ∙ ap (sum ◌+◌ 0) el ∙ sum-per-level cs few in
        rw fit (ap₂ (λ (x : ℕ) (y : List ℕ). Ok (record { cells = x; entries = entries; counts = y })) e el)

    pub linked-ok : linked_levels n m entries work ≡ Ok (counted_links n m entries work)
    unfolding linked_levels
    linked-ok = rw fit

    -- where the links end, what each level counts, and how many cells there are

    pub linked-end : start n ≤ work_size
    linked-end = omega (arith, ends-sum first n entries, linked-asks.3)

    counted : (counted_links n m entries work).counts ≡ per_level cs
    unfolding counted_links
    counted = refl

    level-count : (q : ℕ) → q < n → get_or (counted_links n m entries work).counts q 0 ≡ get_or cs q 0
    level-count q h = ap (λ (l : List ℕ). get_or l q 0) counted ∙ per-level-at cs q (omega (arith, linked-asks.0))

    pub linked-at : (q : ℕ) → q < n → get_or (counted_links n m entries work).counts q 0 ≡ differing_pairs work (start q) (get_or entries q 0)
    linked-at q h = level-count q h ∙ counts-level work first n entries q h

    total : sum ◌+◌ 0 cs ≡ sum_below (λ q. get_or (counted_links n m entries work).counts q 0) n
    total =
        sum-levels cs n (counts-length work first n entries)
        ∙ sum-cong (λ q. get_or cs q 0) (λ q. get_or (counted_links n m entries work).counts q 0) n (λ q h. sym (level-count q h))

    pub linked-total : (counted_links n m entries work).cells ≡ sum_below (λ q. get_or (counted_links n m entries work).counts q 0) n
    unfolding counted_links
    linked-total = total

    pub linked-small : 4 * sum_below (λ q. get_or (counted_links n m entries work).counts q 0) n ≤ work_size
    linked-small = omega (arith, total, counts-few work first ks, linked-asks.3)
