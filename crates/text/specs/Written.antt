-- What it means to have written a text at an offset of a lent buffer: the buffer holds the text from there on, as far as it reaches,
-- and the answer is the offset behind.
-- Assumes nothing.
use Rattle.std.specs.Prelude.{◌≡◌, List, ℕ, ◌+◌, min, length}
use Rattle.std.proofs.lemmas.List.Edits.{sets}

-- lib.Seq's `sets` stores one number after the other; what would lie past the end is not stored
pub record Written (before after : List ℕ) (at behind : ℕ) (text : List ℕ) : Type 0 where
  pub content : after ≡ sets before at text
  pub offset : behind ≡ min (at + length text) (length before)
