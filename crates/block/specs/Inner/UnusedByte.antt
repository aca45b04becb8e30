-- The unused bits of one byte of a block's content.
-- Assumes nothing.
use Rattle.std.specs.Prelude.{Bool, not, ◌&&◌, List, ℕ, ◌+◌, ◌*◌, leb}
use Rattle.lists.specs.Lists.{all, up_to}
use Rattle.block.specs.Block.{content_bit}

-- of byte j's eight bits every one from bit `used` of the content on is zero
unfoldable pub unused_byte_zero : List ℕ → ℕ → ℕ → ℕ → Bool
unused_byte_zero file k used j = all (λ b. not (content_bit file k (8 * j + b) && leb used (8 * j + b))) (up_to 8)
