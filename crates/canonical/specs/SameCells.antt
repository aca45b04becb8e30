-- Document 02, 2.10, of any two networks held, however their cells came about: built, read from a file, or swapped. 'Stores wants to
-- recognise heads by their cell list.'
-- The contract of test_held equates what it answers with canonical_answer; writing and the cell swap ask the same.
-- Assumes nothing.
use Rattle.std.specs.Prelude.{◌≡◌, true, List, ◌↔◌, ℕ}
use Rattle.diagram.specs.Canonical.SameCells.{SameBits, value_at}
use Rattle.table.specs.declared.State.{State}
use Rattle.table.specs.Answer.{done}
use Rattle.table.specs.State.{order_of}
use Rattle.lent.specs.Tabulate.{lent_table}
use Rattle.lent.specs.SameCells.{SameLent}
use Rattle.canonical.specs.Canonical.{canonical_answer}

-- for the same n, m and order, networks that pass the tests of 24 and 32 compute equal tables if and only if their counted cells, counts and
-- first m roots are equal
unfoldable pub SameHeld : Type 0
SameHeld =
    (s s' : State) (roots cells roots' cells' : List ℕ)
    → done (canonical_answer s roots cells) ≡ true → done (canonical_answer s' roots' cells') ≡ true
    → s.n ≡ s'.n → s.m ≡ s'.m → order_of s ≡ order_of s'
    → SameBits s.n s.m (value_at (lent_table s roots cells)) (value_at (lent_table s' roots' cells'))
    ↔ SameLent s.m s.count s'.count cells cells' roots roots'
