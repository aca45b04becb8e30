-- Document 02, 2.10, of lent cells: a network is recognised by its counted cells, the count and the first m roots. 'The network given, just
-- after a call that writes cells succeeds, is the cells numbered 1 to the state's count, .. with the first m roots.'
-- Assumes nothing.
use Rattle.std.specs.Prelude.{◌≡◌, List, ℕ, ◌*◌, take}

-- 'their cells, count and roots are equal', of m outputs; whatever lies past them
pub record SameLent (m count count' : ℕ) (cells cells' roots roots' : List ℕ) : Type 0 where
  pub counts : count ≡ count'
  pub counted : take (3 * count) cells ≡ take (3 * count') cells'
  pub rooted : take m roots ≡ take m roots'
