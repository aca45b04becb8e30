-- What the further blocks of a file answer, one block at a time.
-- Assumes nothing.
use Rattle.std.specs.Prelude.{Ok, Err}
use mathlib.Core.Path.{◌≡◌, ap, ◌∙◌}
use Prim.Native.Nat.{ℕ, suc, ◌+◌, ◌*◌, ◌-◌, ◌/◌, ◌%◌, ◌^◌, ◌≤◌, ◌<◌}
use mathlib.Core.Bool.{true, false}
use native.Mathlib.Nat.{mul-le-mul, mod-eq_of_lt}
use native.Mathlib.Numerals.{add-one}
use native.Mathlib.Omega.{arith}
use lib.Pow.{pow_mono}
use Rattle.diagram.specs.Networks.Bound.{most_variables, most_outputs}
use Rattle.block.specs.Block.{content_bits}
use Rattle.table.specs.Answer.{Answer}
use Rattle.table.specs.Answer.{done, first_refusal}
use Rattle.table.specs.Sizes.{most_bits, most_blocks}
use Rattle.table.proofs.Variants.{refused-first, done-first}
use Rattle.table.specs.File.{stream_blocks}

-- the answers of k to `last`, of blocks say: that of k if it is a refusal, else those after it
module _ (f : ℕ → Answer) (last k : ℕ) where
  pub refusal-next : k ≤ last → done (f k) ≡ true → first_refusal f k (suc last - k) ≡ first_refusal f (k + 1) (suc last - (k + 1))
  unfolding first_refusal
  refusal-next h e =
      let n : suc last - k ≡ suc (last - k) = omega arith in
      let o : suc last - (k + 1) ≡ last - k = omega arith in
      rw (n, o, add-one k) (done-first (f k) (first_refusal f (suc k) (last - k)) e)

  pub refusal-stop : k ≤ last → done (f k) ≡ false → first_refusal f k (suc last - k) ≡ f k
  unfolding first_refusal
  refusal-stop h e =
      let n : suc last - k ≡ suc (last - k) = omega arith in
      rw n (refused-first (f k) (first_refusal f (suc k) (last - k)) e)

  pub refusal-end : last < k → first_refusal f k (suc last - k) ≡ Ok 0
  unfolding first_refusal
  refusal-end h = let n : suc last - k ≡ 0 = omega arith in rw n

-- how many bits a stream has, and in how many blocks
pub stream-small : (n m : ℕ) → n ≤ most_variables → m ≤ most_outputs → m * 2 ^ n ≤ most_bits
stream-small n m h k = mul-le-mul {n₂ = most_outputs} {m₂ = 2 ^ most_variables} k (pow_mono {j = most_variables} h)

pub shifted-out : (n m : ℕ) → n ≤ most_variables → m ≤ most_outputs → m * 2 ^ n % 18446744073709551616 ≡ m * 2 ^ n
shifted-out n m h k = mod-eq_of_lt (omega (arith, stream-small n m h k))

pub few-blocks : (n m : ℕ) → n ≤ most_variables → m ≤ most_outputs → stream_blocks n m ≤ most_blocks
unfolding stream_blocks
few-blocks n m h k = omega (arith, stream-small n m h k)

pub blocks-for-is : (n m x : ℕ) → n ≤ most_variables → m ≤ most_outputs
    → x ≡ (m * 2 ^ n % 18446744073709551616 + (content_bits - 1)) / content_bits → x ≡ stream_blocks n m
unfolding stream_blocks
blocks-for-is n m x h k e = e ∙ ap (λ (b : ℕ). (b + (content_bits - 1)) / content_bits) (shifted-out n m h k)
