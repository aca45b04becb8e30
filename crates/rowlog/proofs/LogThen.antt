-- The counts, the care and the records of a log on what another left.
-- Assumes nothing.
use mathlib.Core.Path.{◌≡◌, ap, ◌∙◌}
use mathlib.Core.Bool.{◌&&◌}
use mathlib.Core.List.{List, ◌++◌}
use Prim.Native.Nat.{ℕ, ◌+◌, ◌*◌, ◌%◌, ◌^◌, ◌<◌}
use native.Mathlib.Nat.{mod-lt}
use native.Mathlib.Omega.{arith}
use lib.Dec.{T, ltb, leb}
use lib.ListN.{length, get_or}
use lib.Pow.{pow_pos}
use Rattle.lists.specs.Lists.{all}
use Rattle.lists.specs.Bits.{packed}
use Rattle.lists.specs.Written.{over}
use Rattle.lists.proofs.Numbers.Sums.{sum-cong, sum-plus}
use Rattle.lists.proofs.Written.Over.{get_d_over, over-twice, over-cong}
use Rattle.table.specs.declared.State.{State}
use Rattle.table.specs.State.{reordered_state}
use Rattle.table.specs.Calls.{plane_size}
use Rattle.rowlog.specs.Log.{times, records_of, seen, logged_byte}
use Rattle.rowlog.proofs.Counting.{times-append, sum-times}

-- the state, the counts and the care that a log leaves where it is done

abbrev pub kept : State → State
kept s = reordered_state s s.order

abbrev pub counted : State → List ℕ → List ℕ → List ℕ
counted s rows counts = over (seen rows counts) (2 ^ s.n) counts

abbrev pub cared : State → List ℕ → ℕ → List ℕ → List ℕ → List ℕ
cared s rows least counts care = over (logged_byte s rows least counts) plane_size care

-- the care depends on what is seen of each row
care-cong : (s : State) (xs cs ys ds : List ℕ) → ((row : ℕ) → row < 2 ^ s.n → seen xs cs row ≡ seen ys ds row)
    → (least : ℕ) (care : List ℕ) → cared s xs least cs care ≡ cared s ys least ds care
unfolding logged_byte
care-cong s xs cs ys ds e least care =
    ap (λ (f : ℕ → ℕ). over f plane_size care)
    (λ k i. packed 8 (λ b. ltb (8 * i + b) (s.m * 2 ^ s.n)
    && leb least (e ((8 * i + b) % 2 ^ s.n) (mod-lt (8 * i + b) (pow_pos s.n)) k)))

-- those of a log after another are those of one log of both, whichever list is in front
module _ (s : State) (first second counts : List ℕ) where
  seen-then : (row : ℕ) → row < 2 ^ s.n → seen second (counted s first counts) row ≡ seen (first ++ second) counts row
  seen-then row h = omega (arith, get_d_over (seen first counts) (2 ^ s.n) counts row 0 h, times-append row first second)

  pub counts-then : counted (kept s) second (counted s first counts) ≡ counted s (first ++ second) counts
  counts-then =
      over-twice (seen second (counted s first counts)) (seen first counts) (2 ^ s.n) counts
      ∙ over-cong (seen second (counted s first counts)) (seen (first ++ second) counts) (2 ^ s.n) counts seen-then

  pub care-then : (least : ℕ) (care : List ℕ)
      → cared (kept s) second least (counted s first counts) (cared s first least counts care) ≡ cared s (first ++ second) least counts care
  unfolding logged_byte
  care-then least care =
      over-twice (logged_byte (kept s) second least (counted s first counts)) (logged_byte s first least counts) plane_size care
      ∙ care-cong s second (counted s first counts) (first ++ second) counts seen-then least care

  seen_turned : (row : ℕ) → row < 2 ^ s.n → seen (first ++ second) counts row ≡ seen (second ++ first) counts row
  seen_turned row h = omega (arith, times-append row first second, times-append row second first)

  pub counts-turned : counted s (first ++ second) counts ≡ counted s (second ++ first) counts
  counts-turned = over-cong (seen (first ++ second) counts) (seen (second ++ first) counts) (2 ^ s.n) counts seen_turned

  pub care-turned : (least : ℕ) (care : List ℕ) → cared s (first ++ second) least counts care ≡ cared s (second ++ first) least counts care
  care-turned = care-cong s (first ++ second) counts (second ++ first) counts seen_turned

-- 'the records read so far' after a log
pub records-then : (s : State) (rows counts : List ℕ) → T (all (λ row. ltb row (2 ^ s.n)) rows)
    → records_of (kept s) (counted s rows counts) ≡ records_of s counts + length rows
records-then s rows counts t =
    sum-cong (λ i. get_or (counted s rows counts) i 0) (seen rows counts) (2 ^ s.n)
    (λ i h. get_d_over (seen rows counts) (2 ^ s.n) counts i 0 h)
    ∙ sum-plus (λ i. get_or counts i 0) (λ i. times i rows) (2 ^ s.n)
    ∙ omega (arith, sum-times (2 ^ s.n) rows t)
