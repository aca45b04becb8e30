-- Document 02, 2.10, of network files: a table is recognised by the bytes of its file.
-- The contract of read_cells equates what it does with read_answer, read_outcome, read_values and read_care.
-- Assumes nothing.
use Rattle.std.specs.Prelude.{◌≡◌, Bool, true, List, ◌↔◌, ℕ, T}
use Rattle.diagram.specs.Table.{Table}
use Rattle.diagram.specs.Canonical.SameCells.{SameBits, value_at}
use Rattle.block.specs.Numbers.{are_bytes}
use Rattle.table.specs.declared.State.{State}
use Rattle.table.specs.Answer.{done, state_after}
use Rattle.table.specs.State.{order_of}
use Rattle.fill.specs.Calls.{held_table}
use Rattle.network_file.specs.Read.{read_answer, read_outcome, read_values, read_care}

-- what a read finds: the state, the file, and all else that is lent
pub record Found : Type 0 where
  pub state : State
  pub file : List ℕ
  pub values : List ℕ
  pub care : List ℕ
  pub work : List ℕ
  pub roots : List ℕ
  pub cells : List ℕ

-- whether it is accepted, and the state that it leaves

abbrev pub reads : Found → Bool
reads f = done (read_answer f.file f.values f.care f.work f.roots f.cells)

abbrev pub state_left : Found → State
state_left f = state_after f.state (read_outcome f.file f.values f.care f.work f.roots f.cells)

-- 'the table that the cells compute in values, and every row cared'
abbrev pub table_left : Found → Table
table_left f =
    held_table (state_left f) (read_values f.file f.values f.care f.work f.roots f.cells)
    (read_care f.file f.values f.care f.work f.roots f.cells)

-- two files that a read accepts, of the same n, m and order: the tables are equal if and only if the bytes are
unfoldable pub SameFiles : Type 0
SameFiles =
    (f g : Found) → T (are_bytes f.file) → T (are_bytes g.file) → reads f ≡ true → reads g ≡ true
    → (state_left f).n ≡ (state_left g).n → (state_left f).m ≡ (state_left g).m → order_of (state_left f) ≡ order_of (state_left g)
    → SameBits (state_left f).n (state_left f).m (value_at (table_left f)) (value_at (table_left g)) ↔ (f.file ≡ g.file)
