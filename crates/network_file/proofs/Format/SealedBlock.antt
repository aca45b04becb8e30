-- One block as it is written: its numbers of two bytes, its first four bytes, and its check.
-- Assumes nothing.
use mathlib.Core.Path.{◌≡◌, refl, sym, ap, ap₂, ◌∙◌}
use mathlib.Core.List.{List}
use Prim.Native.Nat.{ℕ, suc, ◌+◌, ◌*◌, ◌-◌, ◌/◌, ◌%◌, ◌≤◌, ◌<◌}
use native.Mathlib.Omega.{arith}
use borrow.Author.Tests.{lt-ltb, le-ltb, ltb-true, ltb-false, eqb-true, eqb-false, eq-eqb, ne_eqb}
use lib.Dec.{T, eqb, ltb, eqb→eq}
use Rattle.lists.specs.Sums.{sum_below}
use Rattle.lists.proofs.Bools.{split, to-T}
use Rattle.lists.proofs.Numbers.Sums.{sum-cong}
use Rattle.block.specs.Block.{block_size, content_at, check_at, byte, check_of, good_check, good_number}
use Rattle.block.specs.Numbers.{number_byte}
use Rattle.block.specs.Sealed.{headed, sealed}
use Rattle.network_file.specs.File.{content_number}
use Rattle.network_file.proofs.Format.AcceptedNetwork.{number-second, number-two, number-good}

-- numbers of two bytes

pub number-joined : (x : ℕ) → number_byte x 0 + 256 * number_byte x 1 ≡ x
number-joined x = omega arith

module _ (a b : ℕ) (h : a < 256) where
  low_byte : number_byte (a + 256 * b) 0 ≡ a
  low_byte = omega arith

  high_byte : number_byte (a + 256 * b) 1 ≡ b
  high_byte = omega arith

-- a list of bytes
abbrev pub Bytes : List ℕ → Type 0
Bytes file = (k i : ℕ) → byte file k i < 256

-- byte i of the content is a byte of the number there
pub content-byte : (file : List ℕ) → Bytes file → (k i : ℕ) → content_at ≤ i
    → number_byte (content_number file k ((i - content_at) / 2)) ((i - content_at) % 2) ≡ byte file k i
content-byte file f k i h =
    let j : ℕ = (i - content_at) / 2 in
    let a : ℕ = byte file k (content_at + 2 * j) in
    let b : ℕ = byte file k (content_at + 2 * j + 1) in
    split (eqb ((i - content_at) % 2) 0)
    (λ e. let z : (i - content_at) % 2 ≡ 0 = eqb-true _ _ e in
    let d : content_at + 2 * ((i - content_at) / 2) ≡ i = omega arith in
    ap (number_byte (a + 256 * b)) z ∙ low_byte a b (f k (content_at + 2 * j)) ∙ ap (byte file k) d)
    (λ e. let z : (i - content_at) % 2 ≡ 1 = omega (arith, eqb-false ((i - content_at) % 2) 0 e) in
    let d : content_at + 2 * ((i - content_at) / 2) + 1 ≡ i = omega arith in
    ap (number_byte (a + 256 * b)) z ∙ high_byte a b (f k (content_at + 2 * j)) ∙ ap (byte file k) d)

-- the first four bytes

module _ (kind k : ℕ) (content : ℕ → ℕ) where
  headed-kind : headed kind k content 0 ≡ kind
  unfolding headed
  headed-kind = refl

  headed-second : headed kind k content 1 ≡ 0
  unfolding headed
  headed-second = refl

  headed-low : headed kind k content 2 ≡ number_byte k 0
  unfolding headed
  headed-low = refl

  headed-high : headed kind k content 3 ≡ number_byte k 1
  unfolding headed
  headed-high = refl

  pub headed-content : (i : ℕ) → content_at ≤ i → headed kind k content i ≡ content i
  unfolding headed
  headed-content i h = rw (ne_eqb i 0 (λ e. omega arith), ne_eqb i 1 (λ e. omega arith), le-ltb i content_at h)

  -- a block with those bytes has the kind and the number
  pub bytes-headed : (file : List ℕ) → ((i : ℕ) → i < check_at → byte file k i ≡ headed kind k content i)
      → (byte file k 0 ≡ kind) × T (good_number file k)
  bytes-headed file f = (
    f 0 (omega arith) ∙ headed-kind,
    number-good file k (f 1 (omega arith) ∙ headed-second)
        (ap₂ (λ (x y : ℕ). x + 256 * y) (f 2 (omega arith) ∙ headed-low) (f 3 (omega arith) ∙ headed-high) ∙ number-joined k),
  )

  -- a block with the kind, the number and the content has those bytes
  pub headed-bytes : (file : List ℕ) → Bytes file → byte file k 0 ≡ kind → T (good_number file k)
      → ((i : ℕ) → content_at ≤ i → i < check_at → byte file k i ≡ content i)
      → (i : ℕ) → i < check_at → byte file k i ≡ headed kind k content i
  headed-bytes file f e t c i h =
      let one : byte file k 1 ≡ 0 = number-second file k t in
      let two : byte file k 2 + 256 * byte file k 3 ≡ k = number-two file k t in
      split (ltb i content_at)
      (λ q. let l : i < 4 = ltb-true i content_at q in
      split (eqb i 0) (λ d. rw (eqb-true i 0 d) (e ∙ sym headed-kind))
      (λ d0. split (eqb i 1) (λ d. rw (eqb-true i 1 d) (one ∙ sym headed-second))
      (λ d1. split (eqb i 2)
      (λ d. rw (eqb-true i 2 d)
      (sym (low_byte (byte file k 2) (byte file k 3) (f k 2)) ∙ ap (λ (x : ℕ). number_byte x 0) two ∙ sym headed-low))
      (λ d2. let three : i ≡ 3 = omega (arith, eqb-false i 0 d0, eqb-false i 1 d1, eqb-false i 2 d2) in
      rw three (sym (high_byte (byte file k 2) (byte file k 3) (f k 2)) ∙ ap (λ (x : ℕ). number_byte x 1) two ∙ sym headed-high)))))
      (λ q. let l : content_at ≤ i = ltb-false i content_at q in c i l h ∙ sym (headed-content i l))

-- the check

module _ (bytes : ℕ → ℕ) where
  pub sealed-before : (i : ℕ) → i < check_at → sealed bytes i ≡ bytes i
  unfolding sealed
  sealed-before i h = rw (lt-ltb i check_at h)

  sealed-from : (i x : ℕ) → check_at ≤ i → x ≡ sum_below (λ j. suc j * bytes j) check_at % 65521
      → sealed bytes i ≡ number_byte x (i - check_at)
  unfolding sealed
  sealed-from i x h e = rw (le-ltb i check_at h) (ap (λ (y : ℕ). number_byte y (i - check_at)) (sym e))

  module _ (file : List ℕ) (k : ℕ) where
    check-sum : ((i : ℕ) → i < check_at → byte file k i ≡ bytes i) → check_of file k ≡ sum_below (λ j. suc j * bytes j) check_at % 65521
    unfolding check_of
    check-sum f =
        ap (λ (x : ℕ). x % 65521)
        (sum-cong (λ j. suc j * byte file k j) (λ j. suc j * bytes j) check_at (λ i h. ap (λ (x : ℕ). suc i * x) (f i h)))

    -- a sealed block has a good check
    pub block-checked : ((i : ℕ) → i < block_size → byte file k i ≡ sealed bytes i) → T (good_check file k)
    unfolding good_check
    block-checked f =
        let c : ℕ = check_of file k in
        let e : c ≡ sum_below (λ j. suc j * bytes j) check_at % 65521 =
        check-sum (λ i h. f i (omega arith) ∙ sealed-before i h) in
        let low : byte file k check_at ≡ number_byte c 0 = f check_at (omega arith) ∙ sealed-from check_at c (omega arith) e in
        let high : byte file k (suc check_at) ≡ number_byte c 1 =
        f (suc check_at) (omega arith) ∙ sealed-from (suc check_at) c (omega arith) e in
        to-T (eq-eqb c (byte file k check_at + 256 * byte file k (suc check_at))
        (sym (ap₂ (λ (x y : ℕ). x + 256 * y) low high ∙ number-joined c)))

    -- and one with a good check is sealed
    pub block-sealed : Bytes file → T (good_check file k) → ((i : ℕ) → i < check_at → byte file k i ≡ bytes i)
        → (i : ℕ) → i < block_size → byte file k i ≡ sealed bytes i
    unfolding good_check
    block-sealed small t f i h =
        let a : ℕ = byte file k check_at in
        let b : ℕ = byte file k (suc check_at) in
        let e : check_of file k ≡ a + 256 * b = eqb→eq (check_of file k) (a + 256 * b) t in
        let d : a + 256 * b ≡ sum_below (λ j. suc j * bytes j) check_at % 65521 = sym e ∙ check-sum f in
        split (ltb i check_at) (λ q. let l : i < check_at = ltb-true i check_at q in f i l ∙ sym (sealed-before i l))
        (λ q. split (eqb i check_at)
        (λ z. rw (eqb-true i check_at z)
        (sym (sealed-from check_at (a + 256 * b) (omega arith) d ∙ low_byte a b (small k check_at))))
        (λ z. let l : check_at ≤ i = ltb-false i check_at q in
        let o : i ≡ suc check_at = omega (arith, eqb-false i check_at z) in
        rw o (sym (sealed-from (suc check_at) (a + 256 * b) (omega arith) d ∙ high_byte a b (small k check_at)))))
