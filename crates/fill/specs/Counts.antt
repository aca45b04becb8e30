-- The cells of each level, counted from links in a work buffer, whoever put them there: those of m outputs, then those of n levels. An entry
-- has two links of two bytes each, low byte first, and is a cell where they differ.
-- Assumes nothing.
use Rattle.std.specs.Prelude.{Bool, not, ◌&&◌, ℕ, ◌+◌, ◌*◌, eqb, leb, length, get_or, take, Result, Ok}
use mathlib.Core.List.{List, [], ◌∷◌, sum}
use Rattle.lists.specs.Bits.{digit}
use Rattle.lists.specs.Sums.{sum_below}
use Rattle.diagram.specs.Networks.Bound.{most_variables, most_outputs}
use Rattle.table.specs.declared.Refusal.{Refusal}
use Rattle.table.specs.declared.Refusal.TheVariants.{ShortBuffer}
use Rattle.table.specs.Answer.{unless}
use Rattle.fill.specs.declared.Levels.{Levels}
use Rattle.fill.specs.Work.{work_size, links_at}
use Rattle.fill.specs.Calls.{per_level}

-- the number of the link at byte a
abbrev pub link_at : List ℕ → ℕ → ℕ
link_at work a = get_or work a 0 + 256 * get_or work (a + 1) 0

-- whether the two links at byte a differ
unfoldable pub pair_differs : List ℕ → ℕ → Bool
pair_differs work a = not (eqb (link_at work a) (link_at work (a + 2)))

-- how many of k entries have two links that differ, the first's at byte `at`
abbrev pub differing_pairs : List ℕ → ℕ → ℕ → ℕ
differing_pairs work at k = sum_below (λ e. digit (pair_differs work (at + 4 * e))) k

-- the same of each level, where the levels have so many entries each, and their links lie one level after the other from byte `at` on
abbrev pub counts_at : List ℕ → ℕ → List ℕ → List ℕ
counts_at work at [] = []
counts_at work at (k ∷ ks) = differing_pairs work at k ∷ counts_at work (at + 4 * k) ks

-- where the links end
abbrev pub links_end : ℕ → List ℕ → ℕ
links_end at [] = at
links_end at (k ∷ ks) = links_end (at + 4 * k) ks

-- a work buffer of so many bytes has its size, and the links of m outputs and n levels lie in it: 10 otherwise
unfoldable pub links_fit : ℕ → ℕ → List ℕ → ℕ → Bool
links_fit n m entries long =
    leb n most_variables
    && (leb m most_outputs && (leb work_size long && leb (links_end (links_at + 2 * m) (take n entries)) work_size))

-- the cells in all, with the entries and the cells of each level, where the links lie in the work buffer
unfoldable pub counted_links : ℕ → ℕ → List ℕ → List ℕ → Levels
counted_links n m entries work =
    record {
      cells = sum ◌+◌ 0 (counts_at work (links_at + 2 * m) (take n entries));
      entries = entries;
      counts = per_level (counts_at work (links_at + 2 * m) (take n entries));
    }

-- 10, then the cells
unfoldable pub linked_levels : ℕ → ℕ → List ℕ → List ℕ → Result Levels Refusal
linked_levels n m entries work = unless (links_fit n m entries (length work)) ShortBuffer (Ok (counted_links n m entries work))
