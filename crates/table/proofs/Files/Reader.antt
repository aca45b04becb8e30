-- The block reader answers as section 6 says, whatever the arm of the match on a block's kind.
-- Assumes nothing.
use mathlib.Core.Path.{◌≡◌, refl, ap, sym, ◌∙◌}
use mathlib.Core.Bool.{true}
use mathlib.Core.List.{List}
use Prim.Native.Nat.{ℕ}
use borrow.Author.Tests.{ne_eqb}
use Rattle.block.specs.Block.{byte, good_check}
use Rattle.table.specs.Answer.{Answer}
use Rattle.table.specs.File.{good_kind, heading_answer, block_answer}
use Rattle.table.specs.Inner.Reader.{kind_answer, read_block_answer}

module _ (bits blocks : ℕ) (file : List ℕ) (k : ℕ) where
  -- a further block reads as section 6 says
  pub read-further : (k ≡ 0 → ⊥) → read_block_answer bits blocks file k ≡ block_answer bits blocks file k
  unfolding read_block_answer kind_answer block_answer good_kind
  read-further n = rw (ne_eqb k 0 n)

  -- the check, then the kind as it was read
  pub kind-read : good_check file k ≡ true → (x kind : ℕ) → x ≡ byte file k 0 → x ≡ kind
      → (a : Answer) → a ≡ kind_answer kind bits blocks file k → a ≡ read_block_answer bits blocks file k
  unfolding read_block_answer
  kind-read t x kind e d a q = rw t (q ∙ ap (λ (j : ℕ). kind_answer j bits blocks file k) (sym d ∙ e))

-- and so does block 0
pub read-heading : (bits : ℕ) (file : List ℕ) → read_block_answer bits 0 file 0 ≡ heading_answer file
unfolding read_block_answer kind_answer heading_answer good_kind
read-heading bits file = refl
