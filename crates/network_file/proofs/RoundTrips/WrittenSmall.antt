-- Of 16-bit numbers a file of bytes is written, and in a file of bytes 16-bit numbers are read.
-- Assumes nothing.
use mathlib.Core.Path.{◌≡◌, refl, sym, subst}
use mathlib.Core.Bool.{Bool, true, false, cond}
use mathlib.Core.List.{List, map}
use Prim.Native.Nat.{ℕ, suc, ◌+◌, ◌*◌, ◌-◌, ◌/◌, ◌%◌, ◌≤◌, ◌<◌}
use native.Mathlib.Omega.{arith}
use borrow.Author.Tests.{ltb-true, ltb-false, eqb-false}
use lib.Dec.{T, eqb, ltb, ltb→lt, lt→ltb}
use lib.ListN.{length, get_or, get_or-eq_default}
use lib.Seq.{get_or-take}
use Rattle.lists.specs.Lists.{all, up_to}
use Rattle.lists.specs.Sums.{sum_below}
use Rattle.lists.proofs.Bools.{split}
use Rattle.lists.proofs.Lists.Membership.{all-at, all-mapped}
use Rattle.lists.proofs.Numbers.Compared.{all-up_to-of}
use Rattle.diagram.proofs.Orders.Order.{order-at}
use Rattle.block.specs.Block.{block_size, content_at, check_at, byte}
use Rattle.block.specs.Numbers.{are_bytes, number_limit, number_byte}
use Rattle.block.specs.Sealed.{headed, sealed}
use Rattle.table.specs.declared.State.{State}
use Rattle.table.specs.State.{order_of}
use Rattle.network_file.specs.File.{count_at, roots_at, block_numbers, content_number, cell_blocks, carried_numbers}
use Rattle.network_file.specs.Write.{heading_byte, cells_byte, block_content, file_byte}
use Rattle.network_file.specs.Inner.Writable.{Writable}
use Rattle.network_file.proofs.Format.SealedBlock.{Bytes}
use Rattle.network_file.proofs.RoundTrips.WrittenFile.{written_size, written_bytes}

-- lists of 16-bit numbers
abbrev pub are_numbers : List ℕ → Bool
are_numbers = all (λ x. ltb x number_limit)

-- each element is, and so is the 0 past the end
small_at : (n : ℕ) (l : List ℕ) → 0 < n → T (all (λ x. ltb x n) l) → (i : ℕ) → get_or l i 0 < n
small_at n l p t i =
    split (ltb i (length l)) (λ e. ltb→lt (get_or l i 0) n (all-at (λ x. ltb x n) l t i 0 (ltb-true i (length l) e)))
    (λ e. subst (λ (x : ℕ). x < n) (sym (get_or-eq_default l 0 {n = i} (ltb-false i (length l) e))) p)

pub small-listed : (n k : ℕ) (f : ℕ → ℕ) → ((i : ℕ) → i < k → f i < n) → T (all (λ x. ltb x n) (map f (up_to k)))
small-listed n k f g =
    subst T (sym (all-mapped (λ x. ltb x n) f (up_to k))) (all-up_to-of (λ i. ltb (f i) n) k (λ i h. lt→ltb (f i) n (g i h)))

pub bytes_small : (file : List ℕ) → T (are_bytes file) → Bytes file
bytes_small file t k i = small_at 256 file (omega arith) t (block_size * k + i)

-- a number in a file of bytes
pub content-small : (file : List ℕ) → Bytes file → (k j : ℕ) → content_number file k j < number_limit
content-small file f k j =
    let a : byte file k (content_at + 2 * j) < 256 = f k (content_at + 2 * j) in
    let b : byte file k (content_at + 2 * j + 1) < 256 = f k (content_at + 2 * j + 1) in
    omega arith

-- the bytes of a block

either : (b : Bool) (x y n : ℕ) → (b ≡ true → x < n) → (b ≡ false → y < n) → cond b x y < n
either true x y n f g = f refl
either false x y n f g = g refl

number_small : (x b : ℕ) → x < number_limit → number_byte x b < 256
number_small x b h = either (eqb b 0) (x % 256) (x / 256) 256 (λ e. omega arith) (λ e. omega arith)

headed-small : (kind k : ℕ) (content : ℕ → ℕ) → kind < 256 → k < number_limit → ((i : ℕ) → content_at ≤ i → content i < 256)
    → (i : ℕ) → headed kind k content i < 256
unfolding headed
headed-small kind k content h l f i =
    either (eqb i 0) kind _ 256 (λ e. h)
    (λ e. either (eqb i 1) 0 _ 256 (λ d. omega arith)
    (λ d. either (ltb i content_at) _ _ 256 (λ q. number_small k (i - 2) l) (λ q. f i (ltb-false i content_at q))))

check-small : (x b : ℕ) → number_byte (x % 65521) b < 256
check-small x b = number_small (x % 65521) b (omega arith)

sealed-small : (bytes : ℕ → ℕ) → ((i : ℕ) → bytes i < 256) → (i : ℕ) → sealed bytes i < 256
unfolding sealed
sealed-small bytes f i =
    either (ltb i check_at) (bytes i) _ 256 (λ e. f i)
    (λ e. check-small (sum_below (λ j. suc j * bytes j) check_at) (i - check_at))

module _ (s : State) (roots cells : List ℕ) (w : Writable s) (rs : T (are_numbers roots)) (cs : T (are_numbers cells)) where
  order_small : (i : ℕ) → 6 ≤ i → i < 6 + s.n → get_or s.order (i - 6) 0 < 256
  order_small i h l =
      let p : i - 6 < s.n = omega arith in
      omega (arith, order-at s.n (order_of s) w.ordered (i - 6) p, get_or-take s.n s.order (i - 6) 0 p, w.inputs)

  heading-small : (i : ℕ) → content_at ≤ i → heading_byte s roots i < 256
  unfolding heading_byte
  heading-small i h =
      either (eqb i 4) s.n _ 256 (λ e. omega (arith, w.inputs))
      (λ e4. either (eqb i 5) s.m _ 256 (λ e. omega (arith, w.outputs))
      (λ e5. either (ltb i count_at) _ _ 256
      (λ c. either (ltb i (6 + s.n)) _ 0 256
      (λ e. order_small i (omega (arith, eqb-false i 4 e4, eqb-false i 5 e5)) (ltb-true i (6 + s.n) e)) (λ e. omega arith))
      (λ c. either (ltb i roots_at) _ _ 256 (λ e. number_small s.count (i - count_at) (omega (arith, w.counted)))
      (λ e. either (ltb i (roots_at + 2 * s.m)) _ 0 256
      (λ q. number_small (get_or roots ((i - roots_at) / 2) 0) ((i - roots_at) % 2)
      (small_at number_limit roots (omega arith) rs ((i - roots_at) / 2))) (λ q. omega arith)))))

  cells-small : (k i : ℕ) → cells_byte s.count cells k i < 256
  unfolding cells_byte
  cells-small k i =
      let x : ℕ = block_numbers * (k - 1) + (i - content_at) / 2 in
      either (ltb i (content_at + 2 * carried_numbers s.count k)) _ 0 256
      (λ e. number_small (get_or cells x 0) ((i - content_at) % 2) (small_at number_limit cells (omega arith) cs x)) (λ e. omega arith)

  block-small : (k i : ℕ) → k < number_limit → block_content s roots cells k i < 256
  block-small k i h =
      either (eqb k 0) _ _ 256 (λ e. headed-small 4 0 (heading_byte s roots) (omega arith) (omega arith) heading-small i)
      (λ e. headed-small 5 k (cells_byte s.count cells k) (omega arith) h (λ j l. cells-small k j) i)

  -- so of the file
  pub written_small : T (are_bytes (written_bytes s roots cells))
  unfolding written_bytes file_byte cell_blocks
  written_small =
      small-listed 256 (written_size s) (file_byte s roots cells)
      (λ x h. sealed-small (block_content s roots cells (x / block_size))
      (λ i. block-small (x / block_size) i (omega (arith, w.counted))) (x % block_size))
