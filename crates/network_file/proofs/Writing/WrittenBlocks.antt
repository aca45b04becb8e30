-- A network file written from its front: the bytes of block k, and what is written after each of them.
-- Assumes nothing.
use mathlib.Core.Path.{◌≡◌, refl, sym, ap, ap₂, ◌∙◌}
use mathlib.Core.List.{List, ◌++◌, map}
use Prim.Native.Nat.{ℕ, suc, ◌+◌, ◌*◌, ◌-◌, ◌/◌, ◌%◌, ◌≤◌, ◌<◌}
use native.Mathlib.Omega.{arith}
use borrow.Author.Tests.{le-ltb}
use lib.ListN.{length, drop, set}
use lib.Seq.{drop-append-add, drop-drop}
use Rattle.lists.specs.Lists.{up_to}
use Rattle.lists.specs.Written.{over}
use Rattle.lists.proofs.Numbers.UpTo.{length-map-up_to}
use Rattle.lists.proofs.Written.Over.{over-next}
use Rattle.block.specs.Block.{block_size, check_at}
use Rattle.block.specs.Numbers.{number_byte}
use Rattle.block.specs.Sealed.{sealed}
use Rattle.table.specs.declared.State.{State}
use Rattle.network_file.specs.Write.{block_content, file_byte}
use Rattle.network_file.specs.Inner.Writable.{block_sum}
use Rattle.network_file.proofs.Format.SealedBlock.{sealed-before}

-- a list written over as far as b, then as far as a
module _ {A : Type 0} (f : ℕ → A) (b a : ℕ) (l : List A) (h : b ≤ a) where
  past-both : drop a (over f b l) ≡ drop a l
  past-both =
      let p = map f (up_to b) in
      let e : a ≡ length p + (a - b) = omega (arith, length-map-up_to f b) in
      let d : b + (a - b) ≡ a = omega arith in
      ap (λ (n : ℕ). drop n (over f b l)) e ∙ drop-append-add p (drop b l) (a - b) ∙ drop-drop (a - b) b l ∙ ap (λ (n : ℕ). drop n l) d

  pub over-further : (written after : List A) → written ≡ over f b l → after ≡ over f a written → after ≡ over f a l
  over-further written after e q = q ∙ ap (over f a) e ∙ ap (λ (m : List A). map f (up_to a) ++ m) past-both

-- what is written as far as b is written so already
pub over-already : {A : Type 0} (f : ℕ → A) (b : ℕ) (l written : List A) → written ≡ over f b l → written ≡ over f b written
over-already f b l written e = e ∙ sym (over-further f b b l (omega arith) written (over f b written) e refl)

module _ (s : State) (roots cells : List ℕ) (k : ℕ) where
  -- byte i of block k

  pub block-byte : (i : ℕ) → i < block_size → file_byte s roots cells (block_size * k + i) ≡ sealed (block_content s roots cells k) i
  unfolding file_byte
  block-byte i h =
      let q : (block_size * k + i) / block_size ≡ k = omega arith in
      let r : (block_size * k + i) % block_size ≡ i = omega arith in
      ap₂ (λ (a b : ℕ). sealed (block_content s roots cells a) b) q r

  block-content : (i : ℕ) → i < check_at → file_byte s roots cells (block_size * k + i) ≡ block_content s roots cells k i
  block-content i h = block-byte i (omega arith) ∙ sealed-before (block_content s roots cells k) i h

  -- byte b of the check
  block-check : (b : ℕ) → b < 2 → file_byte s roots cells (block_size * k + check_at + b)
      ≡ number_byte (block_sum s roots cells k % 65521) b
  unfolding sealed block_sum
  block-check b h =
      let e : block_size * k + check_at + b ≡ block_size * k + (check_at + b) = omega arith in
      let d : check_at + b - check_at ≡ b = omega arith in
      ap (file_byte s roots cells) e ∙ block-byte (check_at + b) (omega arith) ∙ rw (le-ltb (check_at + b) check_at (omega arith), d)

  -- one byte more, and the check

  module _ (l written after : List ℕ) (room : block_size * suc k ≤ length l) where
    pub content-next : (i : ℕ) → i < check_at → written ≡ over (file_byte s roots cells) (block_size * k + i) l
        → after ≡ set written (block_size * k + i) (block_content s roots cells k i)
        → after ≡ over (file_byte s roots cells) (block_size * k + (i + 1)) l
    content-next i h e q =
        let d : block_size * k + i + 1 ≡ block_size * k + (i + 1) = omega arith in
        q ∙ over-next (file_byte s roots cells) l written (block_size * k + i) (block_content s roots cells k i) (omega arith) e
        (sym (block-content i h))
        ∙ ap (λ (n : ℕ). over (file_byte s roots cells) n l) d

    pub check-next : (sum : ℕ) → sum ≡ block_sum s roots cells k
        → written ≡ over (file_byte s roots cells) (block_size * k + check_at) l
        → after
        ≡ set (set written (block_size * k + check_at) (number_byte (sum % 65521) 0)) (block_size * k + check_at + 1)
        (number_byte (sum % 65521) 1)
        → after ≡ over (file_byte s roots cells) (block_size * suc k) l
    check-next sum g e q =
        let f = file_byte s roots cells in
        let n = block_size * k + check_at in
        let z : n + 0 ≡ n = omega arith in
        let d : n + 1 + 1 ≡ block_size * suc k = omega arith in
        let byte : (b : ℕ) → b < 2 → number_byte (sum % 65521) b ≡ f (n + b) =
        λ b h. ap (λ (x : ℕ). number_byte (x % 65521) b) g ∙ sym (block-check b h) in
        q
        ∙ over-next f l (set written n (number_byte (sum % 65521) 0)) (n + 1) (number_byte (sum % 65521) 1) (omega arith)
        (over-next f l written n (number_byte (sum % 65521) 0) (omega arith) e (byte 0 (omega arith) ∙ ap f z))
        (byte 1 (omega arith))
        ∙ ap (λ (x : ℕ). over f x l) d
