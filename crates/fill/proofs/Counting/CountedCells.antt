-- Cells counted from the links' bytes, pair by pair, level by level, and added up.
-- Assumes nothing.
use mathlib.Core.Path.{◌≡◌, refl, sym, ap, ap₂, ◌∙◌}
use mathlib.Core.Bool.{Bool, true, false, not, cond}
use mathlib.Core.List.{List, [], ◌∷◌, ◌++◌, sum, append_assoc, append-nil}
use Prim.Native.Nat.{ℕ, zero, suc, ◌+◌, ◌*◌, ◌/◌, ◌≤◌, ◌<◌}
use native.Mathlib.Nat.{zero-add}
use native.Mathlib.Omega.{arith}
use lib.Dec.{eqb}
use lib.ListN.{length, get_or, take, drop, set, length-append, length-drop, drop_of_length-le}
use lib.Seq.{length-take-le, get_or-drop, get_or-take}
use Rattle.std.specs.Simd.{first_chunks}
use Rattle.std.specs.List.{sum_by}
use Rattle.std.proofs.lemmas.List.{drop_more, at_drop_more}
use Rattle.std.proofs.lemmas.List.Sums.{sum_by-cons}
use Rattle.lists.specs.Bits.{digit}
use Rattle.lists.specs.Sums.{sum_below}
use Rattle.lists.proofs.Numbers.Sums.{sum-digits, sum-cong, sum-add}
use Rattle.lists.proofs.Numbers.Total.{sum-cons}
use Rattle.diagram.specs.Networks.Bound.{most_variables}
use Rattle.fill.specs.Calls.{per_level}
use Rattle.fill.specs.Counts.{pair_differs, differing_pairs, counts_at, links_end}
use Rattle.fill.proofs.Counting.PerLevel.{per-level-more}

-- a sum as the library adds it up
pub sum_is : (xs : List ℕ) → sum_by (λ x. x) xs ≡ sum ◌+◌ 0 xs
unfolding sum
sum_is [] = refl
sum_is (x ∷ xs) = sum_by-cons (λ y. y) x xs ∙ ap (λ (n : ℕ). x + n) (sum_is xs)

-- two links that stand in another list too
pair-same : (xs ys : List ℕ) (a b : ℕ) → get_or xs a 0 ≡ get_or ys b 0 → get_or xs (a + 1) 0 ≡ get_or ys (b + 1) 0
    → get_or xs (a + 2) 0 ≡ get_or ys (b + 2) 0 → get_or xs (a + 2 + 1) 0 ≡ get_or ys (b + 2 + 1) 0
    → pair_differs xs a ≡ pair_differs ys b
unfolding pair_differs
pair-same xs ys a b e f g h =
    ap₂ (λ (x y : ℕ). not (eqb x y)) (ap₂ (λ (x y : ℕ). x + 256 * y) e f) (ap₂ (λ (x y : ℕ). x + 256 * y) g h)

-- a part of a list, from byte `at` on
part-at : (work : List ℕ) (at n i j : ℕ) → j < n → at + j ≡ i → get_or (take n (drop at work)) j 0 ≡ get_or work i 0
part-at work at n i j h e = get_or-take n (drop at work) j 0 h ∙ get_or-drop at work j 0 ∙ ap (λ (x : ℕ). get_or work x 0) e

pair-part : (work : List ℕ) (at n a b : ℕ) → b + 4 ≤ n → at + b ≡ a → pair_differs (take n (drop at work)) b ≡ pair_differs work a
pair-part work at n a b h e =
    pair-same (take n (drop at work)) work b a (part-at work at n a b (omega arith) e)
    (part-at work at n (a + 1) (b + 1) (omega arith) (omega arith)) (part-at work at n (a + 2) (b + 2) (omega arith) (omega arith))
    (part-at work at n (a + 2 + 1) (b + 2 + 1) (omega arith) (omega arith))

pairs-between : (work : List ℕ) (at k n : ℕ) → 4 * k ≤ n → differing_pairs (take n (drop at work)) 0 k ≡ differing_pairs work at k
pairs-between work at k n h =
    sum-cong (λ e. digit (pair_differs (take n (drop at work)) (0 + 4 * e))) (λ e. digit (pair_differs work (at + 4 * e))) k
    (λ e l. ap digit (pair-part work at n (at + 4 * e) (0 + 4 * e) (omega arith) (omega arith)))

-- all pairs of a part
pub pairs-part : (work : List ℕ) (at k n : ℕ) → n ≡ 4 * k → at + n ≤ length work
    → differing_pairs (take n (drop at work)) 0 (length (take n (drop at work)) / 4) ≡ differing_pairs work at k
pairs-part work at k n e h =
    let all : length (take n (drop at work)) / 4 ≡ k =
    omega (arith, length-take-le n (drop at work) (omega (arith, length-drop at work))) in
    ap (differing_pairs (take n (drop at work)) 0) all ∙ pairs-between work at k n (omega arith)

digit-is : (b : Bool) → cond b 1 0 ≡ digit b
digit-is true = refl
digit-is false = refl

behind : (work : List ℕ) (i j : ℕ) → 4 + j ≡ i → get_or (drop 4 work) j 0 ≡ get_or work i 0
behind work i j e = get_or-drop 4 work j 0 ∙ ap (λ (x : ℕ). get_or work x 0) e

-- the pairs one by one
pub pairs-chunks : (k : ℕ) (work : List ℕ) → 4 * k ≤ length work
    → sum_by (λ pair. cond (pair_differs pair 0) 1 0) (first_chunks 4 k work) ≡ differing_pairs work 0 k
pairs-chunks zero work h = refl
pairs-chunks (suc k) work h =
    let f : ℕ → ℕ = λ e. digit (pair_differs work (0 + 4 * e)) in
    let first : cond (pair_differs (take 4 work) 0) 1 0 ≡ sum_below f 1 =
    digit-is (pair_differs (take 4 work) 0) ∙ ap digit (pair-part work 0 4 0 0 (omega arith) refl) ∙ sym (zero-add (f 0)) in
    let few : 4 * k ≤ length (drop 4 work) = omega (arith, length-drop 4 work) in
    let rest : sum_by (λ pair. cond (pair_differs pair 0) 1 0) (first_chunks 4 k (drop 4 work)) ≡ sum_below (λ i. f (1 + i)) k =
    pairs-chunks k (drop 4 work) few
    ∙ sum-cong (λ e. digit (pair_differs (drop 4 work) (0 + 4 * e))) (λ i. f (1 + i)) k
    (λ e l. ap digit (pair-same (drop 4 work) work (0 + 4 * e) (0 + 4 * (1 + e))
    (behind work (0 + 4 * (1 + e)) (0 + 4 * e) (omega arith)) (behind work (0 + 4 * (1 + e) + 1) (0 + 4 * e + 1) (omega arith))
    (behind work (0 + 4 * (1 + e) + 2) (0 + 4 * e + 2) (omega arith))
    (behind work (0 + 4 * (1 + e) + 2 + 1) (0 + 4 * e + 2 + 1) (omega arith)))) in
    let one : 1 + k ≡ suc k = omega arith in
    sum_by-cons (λ pair. cond (pair_differs pair 0) 1 0) (take 4 work) (first_chunks 4 k (drop 4 work))
    ∙ ap₂ ◌+◌ first rest ∙ sym (sum-add f 1 k) ∙ ap (sum_below f) one

-- one level more: of the levels' numbers of entries, those from level p on are left, and their links begin at `at`

pub end-behind : (at : ℕ) (ks : List ℕ) → at ≤ links_end at ks
end-behind at [] = omega arith
end-behind at (k ∷ ks) = omega (arith, end-behind (at + 4 * k) ks)

pub record Counting (work : List ℕ) (start : ℕ) (entries : List ℕ) (p at : ℕ) (counts : List ℕ) : Type 0 where
  pub passed : List ℕ
  pub all-counts : passed ++ counts_at work at (drop p entries) ≡ counts_at work start entries
  pub levels : length passed ≡ p
  pub ends : links_end at (drop p entries) ≡ links_end start entries
  pub recorded : counts ≡ per_level passed

module _ (work : List ℕ) (start : ℕ) (entries : List ℕ) where
  pub counting-first : Counting work start entries 0 start (per_level [])
  counting-first = record { passed = []; all-counts = refl; levels = refl; ends = refl; recorded = refl }

  pub counting-last : (p at : ℕ) (counts : List ℕ) → length entries ≤ p → Counting work start entries p at counts
      → counts ≡ per_level (counts_at work start entries)
  counting-last p at counts none c =
      c.recorded
      ∙ ap per_level (sym (append-nil c.passed)
      ∙ ap (λ (ks : List ℕ). c.passed ++ counts_at work at ks) (sym (drop_of_length-le entries {i = p} none)) ∙ c.all-counts)

  module _ (p at : ℕ) (counts : List ℕ) (more : p < length entries) (c : Counting work start entries p at counts) where
    ends-here : links_end (at + 4 * get_or entries p 0) (drop (p + 1) entries) ≡ links_end start entries
    ends-here = sym (at_drop_more (links_end at) entries p 0 more) ∙ c.ends

    pub counting-room : at + 4 * get_or entries p 0 ≤ links_end start entries
    counting-room = omega (arith, ends-here, end-behind (at + 4 * get_or entries p 0) (drop (p + 1) entries))

    pub counting-on : (x : ℕ) (counts' : List ℕ) → length entries ≤ most_variables
        → x ≡ differing_pairs work at (get_or entries p 0) → counts' ≡ set counts p x
        → Counting work start entries (p + 1) (at + 4 * get_or entries p 0) counts'
    counting-on x counts' small e q =
        let k = get_or entries p 0 in
        let rest = drop (p + 1) entries in
        record {
          passed = c.passed ++ (x ∷ []);
          all-counts =
              append_assoc c.passed (x ∷ []) (counts_at work (at + 4 * k) rest)
              ∙ ap (λ (y : ℕ). c.passed ++ (y ∷ counts_at work (at + 4 * k) rest)) e
              ∙ ap (λ (ks : List ℕ). c.passed ++ counts_at work at ks) (sym (drop_more entries p 0 more))
              ∙ c.all-counts;
          levels = length-append c.passed (x ∷ []) ∙ ap (λ (y : ℕ). y + 1) c.levels;
          ends = ends-here;
          recorded = q ∙ per-level-more c.passed x p counts (sym c.levels) (omega (arith, c.levels)) c.recorded;
        }

-- an entry takes four bytes, and is a cell at most
pub counts-few : (work : List ℕ) (at : ℕ) (ks : List ℕ) → at + 4 * sum ◌+◌ 0 (counts_at work at ks) ≤ links_end at ks
unfolding sum
counts-few work at [] = omega arith
counts-few work at (k ∷ ks) =
    omega (
      arith,
      counts-few work (at + 4 * k) ks,
      sum-digits (λ e. pair_differs work (at + 4 * e)) k,
      sum-cons (differing_pairs work at k) (counts_at work (at + 4 * k) ks),
    )
