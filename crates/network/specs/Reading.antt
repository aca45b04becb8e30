-- Reading a network off links in the work buffer, whoever put them there (document 01, section 4): 10 where the roots are short or the links
-- don't lie in it, then 23 with the cells wanted; else the nodes and the roots that the links say.
-- Assumes nothing.
use Rattle.std.specs.Prelude.{cond, List, ℕ, leb, length, Ok}
use Rattle.lists.specs.Written.{over}
use Rattle.table.specs.Answer.{Answer}
use Rattle.table.specs.declared.Refusal.TheVariants.{ShortBuffer, TooSmall}
use Rattle.table.specs.Answer.{unless, unless_refused, done}
use Rattle.fill.specs.Work.{zero_work}
use Rattle.fill.specs.Counts.{counted_links, linked_levels}
use Rattle.lent.specs.Lent.{roots_size}
use Rattle.network.specs.Build.{capacity, clears}
use Rattle.network.specs.Levels.{Made, made, level_at, root_at, levels_made}

-- so many cells, or 23 with them
abbrev pub boarded : List ℕ → ℕ → Answer
boarded cells total = unless (leb total (capacity cells)) (TooSmall total) (Ok total)

unfoldable pub read_links_answer : ℕ → ℕ → List ℕ → List ℕ → List ℕ → List ℕ → Answer
read_links_answer n m entries work roots cells =
    unless (leb roots_size (length roots)) ShortBuffer
    (unless_refused (linked_levels n m entries work) (boarded cells (counted_links n m entries work).cells))

-- all levels read, with as many nodes each as counted
abbrev pub read_made : ℕ → ℕ → List ℕ → List ℕ → List ℕ → Made
read_made n m entries work cells = levels_made m entries (counted_links n m entries work).counts 0 n (made work cells 0)

unfoldable pub read_links_roots : ℕ → ℕ → List ℕ → List ℕ → List ℕ → List ℕ → List ℕ
read_links_roots n m entries work roots cells =
    cond (done (read_links_answer n m entries work roots cells))
    (over (root_at (read_made n m entries work cells).work m (level_at m entries 0)) roots_size roots) roots

unfoldable pub read_links_cells : ℕ → ℕ → List ℕ → List ℕ → List ℕ → List ℕ → List ℕ
read_links_cells n m entries work roots cells =
    cond (done (read_links_answer n m entries work roots cells)) (read_made n m entries work cells).cells cells

-- 'Every call lent the work buffer leaves it zero after a success or 23'
unfoldable pub read_links_work : ℕ → ℕ → List ℕ → List ℕ → List ℕ → List ℕ → List ℕ
read_links_work n m entries work roots cells = cond (clears (read_links_answer n m entries work roots cells)) (zero_work work) work
