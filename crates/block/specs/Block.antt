-- Section 1 of document 01, the blocks of a file, whatever their kinds: the check, byte 1 and the block number, the content.
-- Assumes nothing.
use Rattle.std.specs.Prelude.{Bool, not, ◌&&◌, List, ℕ, suc, ◌+◌, ◌*◌, ◌-◌, ◌/◌, ◌%◌, ◌^◌, eqb, leb, length, get_or}
use Rattle.lists.specs.Lists.{all, up_to}
use Rattle.lists.specs.Sums.{sum_below}

-- 'Blocks of 512 bytes'; 'bytes 4–509 content; bytes 510–511 the check'
abbrev pub block_size : ℕ
block_size = 512

abbrev pub content_at : ℕ
content_at = 4

abbrev pub content_size : ℕ
content_size = 506

abbrev pub check_at : ℕ
check_at = content_at + content_size

-- 'A block carries 4,048 of them', bits of a stream
abbrev pub content_bits : ℕ
content_bits = 8 * content_size

-- neither empty nor broken blocks
unfoldable pub whole_blocks : List ℕ → Bool
whole_blocks file = leb 1 (length file) && eqb (length file % block_size) 0

-- byte i of block k; past the file it is 0
abbrev pub byte : List ℕ → ℕ → ℕ → ℕ
byte file k i = get_or file (block_size * k + i) 0

-- 'the sum of (i + 1) × byte i for i from 0 to 509, modulo 65,521', and what is stored, low byte first
unfoldable pub check_of : List ℕ → ℕ → ℕ
check_of file k = sum_below (λ i. suc i * byte file k i) check_at % 65521

unfoldable pub good_check : List ℕ → ℕ → Bool
good_check file k = eqb (check_of file k) (byte file k check_at + 256 * byte file k (suc check_at))

-- 'byte 1 zero; bytes 2–3 the block number from 0, low byte first'
unfoldable pub good_number : List ℕ → ℕ → Bool
good_number file k = eqb (byte file k 1) 0 && eqb (byte file k 2 + 256 * byte file k 3) k

-- 'All other content is zero': of block k, the bytes from byte `from` to before byte `end`, and those from byte `from` to the check
unfoldable pub unused_between : List ℕ → ℕ → ℕ → ℕ → Bool
unused_between file k from end = all (λ i. eqb (byte file k (from + i)) 0) (up_to (end - from))

abbrev pub unused_zero : List ℕ → ℕ → ℕ → Bool
unused_zero file k from = unused_between file k from check_at

-- bit i of block k's content
unfoldable pub content_bit : List ℕ → ℕ → ℕ → Bool
content_bit file k i = eqb (byte file k (content_at + i / 8) / 2 ^ (i % 8) % 2) 1

-- the same where the content is used to a bit: of block k's content every bit from bit `used` on is zero
unfoldable pub unused_bits_zero : List ℕ → ℕ → ℕ → Bool
unused_bits_zero file k used = all (λ i. not (content_bit file k i && leb used i)) (up_to content_bits)
