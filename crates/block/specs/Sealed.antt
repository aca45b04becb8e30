-- Section 1 of document 01, a block as it is written: the kind, byte 1, the block number, the content, then the check of all that.
-- Assumes nothing.
use Rattle.std.specs.Prelude.{cond, ℕ, suc, ◌*◌, ◌-◌, ◌%◌, eqb, ltb}
use Rattle.lists.specs.Sums.{sum_below}
use Rattle.block.specs.Block.{content_at, check_at}
use Rattle.block.specs.Numbers.{number_byte}

-- byte i before the check, of block k of this kind, where `content` gives the bytes of the content
unfoldable pub headed : ℕ → ℕ → (ℕ → ℕ) → ℕ → ℕ
headed kind k content i = cond (eqb i 0) kind (cond (eqb i 1) 0 (cond (ltb i content_at) (number_byte k (i - 2)) (content i)))

-- byte i of the block whose bytes before the check these are
unfoldable pub sealed : (ℕ → ℕ) → ℕ → ℕ
sealed bytes i = cond (ltb i check_at) (bytes i) (number_byte (sum_below (λ j. suc j * bytes j) check_at % 65521) (i - check_at))
