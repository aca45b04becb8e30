-- Section 9 of document 01: the starred tables, as one list of claims and one test that computes each from sections 3 to 5;
-- and what document 02's 2.3 and 2.6 change in them.
-- Assumes nothing.
use Rattle.std.specs.Prelude.{Bool, true, false, ◌&&◌, List, [], ◌∷◌, map, ℕ, ◌^◌, eqb, leb, length, get_or}
use Rattle.std.specs.Bool.{beq}
use Rattle.lists.specs.Lists.{up_to, equal}
use Rattle.diagram.specs.Filling.Fill.{Row}
use Rattle.diagram.specs.Networks.Diagram.{Node, same_node}
use Rattle.diagram.specs.Table.{Table, filled_bit, network_of, cost}
use Rattle.diagram.specs.Orders.Sift.{sift}

-- rows as the drawing board writes them: 0, 1 and -
abbrev O : Row
O = record { value = false; care = true }

abbrev I : Row
I = record { value = true; care = true }

abbrev - : Row
- = record { value = false; care = false }

-- a table of n variables, each output listed from row 0
abbrev table : ℕ → List (List Row) → Table
table n rows = record { n = n; m = length rows; row = λ j r. get_or (get_or rows j []) r - }

abbrev cell : ℕ → ℕ → ℕ → Node
cell p l h = record { level = p; low = l; high = h }

-- what the drawing board claims of a table under an order
pub data Claim : Type 0 where
  -- it fills to these rows, and these are the cells and the roots
  builds : Table → List ℕ → List (List Bool) → List Node → List ℕ → Claim
  -- it costs so many cells
  costs : Table → List ℕ → ℕ → Claim
  -- sifting an input leaves this order, at this cost
  sifts : Table → List ℕ → ℕ → List ℕ → ℕ → Claim
  -- whether a board of this size is enough
  fits : Table → List ℕ → ℕ → Bool → Claim

-- the filled table, each output listed from row 0
abbrev pub filled_rows : Table → List ℕ → List (List Bool)
filled_rows t order = map (λ j. map (filled_bit true t order j) (up_to (2 ^ t.n))) (up_to t.m)

unfoldable pub holds : Claim → Bool
holds (builds t order rows nodes roots) =
    equal (equal beq) (filled_rows t order) rows
    && (equal same_node (network_of true t order).nodes nodes && equal eqb (network_of true t order).roots roots)
holds (costs t order c) = eqb (cost t order) c
holds (sifts t order v left c) = equal eqb (sift t v order) left && eqb (cost t (sift t v order)) c
holds (fits t order b enough) = beq (leb (cost t order) b) enough

-- input 0 and 1, or 2 and 3
abbrev and-or : Table
and-or = table 4 ((O ∷ O ∷ O ∷ I ∷ O ∷ O ∷ O ∷ I ∷ O ∷ O ∷ O ∷ I ∷ I ∷ I ∷ I ∷ I ∷ []) ∷ [])

abbrev exclusive-or : Table
exclusive-or = table 2 ((O ∷ I ∷ I ∷ O ∷ []) ∷ [])

abbrev natural : List ℕ
natural = 0 ∷ 1 ∷ []

unfoldable pub starred : List Claim
starred =
    builds (table 0 ((I ∷ []) ∷ [])) [] ((true ∷ []) ∷ []) [] (1 ∷ [])
    ∷ builds (table 2 ((O ∷ O ∷ O ∷ I ∷ []) ∷ [])) natural ((false ∷ false ∷ false ∷ true ∷ []) ∷ [])
    (cell 0 0 4 ∷ cell 1 0 1 ∷ []) (2 ∷ [])
    ∷ builds (table 2 ((I ∷ I ∷ I ∷ O ∷ []) ∷ [])) natural ((true ∷ true ∷ true ∷ false ∷ []) ∷ [])
    (cell 0 0 4 ∷ cell 1 0 1 ∷ []) (3 ∷ [])
    ∷ builds (table 2 ((O ∷ O ∷ O ∷ I ∷ []) ∷ (I ∷ I ∷ I ∷ O ∷ []) ∷ [])) natural
    ((false ∷ false ∷ false ∷ true ∷ []) ∷ (true ∷ true ∷ true ∷ false ∷ []) ∷ [])
    (cell 0 0 4 ∷ cell 1 0 1 ∷ []) (2 ∷ 3 ∷ [])
    ∷ builds exclusive-or natural ((false ∷ true ∷ true ∷ false ∷ []) ∷ [])
    (cell 0 4 5 ∷ cell 1 0 1 ∷ []) (2 ∷ [])
    ∷ builds (table 2 ((O ∷ I ∷ O ∷ I ∷ []) ∷ [])) natural ((false ∷ true ∷ false ∷ true ∷ []) ∷ [])
    (cell 1 0 1 ∷ []) (2 ∷ [])
    ∷ builds (table 2 ((O ∷ O ∷ O ∷ - ∷ []) ∷ [])) natural ((false ∷ false ∷ false ∷ false ∷ []) ∷ []) [] (0 ∷ [])
    ∷ builds (table 2 ((O ∷ I ∷ I ∷ - ∷ []) ∷ [])) natural ((false ∷ true ∷ true ∷ true ∷ []) ∷ [])
    (cell 0 4 1 ∷ cell 1 0 1 ∷ []) (2 ∷ [])
    ∷ builds (table 2 ((O ∷ I ∷ - ∷ I ∷ []) ∷ [])) natural ((false ∷ true ∷ false ∷ true ∷ []) ∷ [])
    (cell 1 0 1 ∷ []) (2 ∷ [])
    ∷ builds (table 2 ((- ∷ O ∷ I ∷ - ∷ []) ∷ [])) natural ((true ∷ false ∷ true ∷ false ∷ []) ∷ [])
    (cell 1 0 1 ∷ []) (3 ∷ [])
    ∷ costs and-or (0 ∷ 1 ∷ 2 ∷ 3 ∷ []) 4
    ∷ costs and-or (0 ∷ 2 ∷ 1 ∷ 3 ∷ []) 6
    ∷ sifts and-or (0 ∷ 2 ∷ 1 ∷ 3 ∷ []) 1 (1 ∷ 0 ∷ 2 ∷ 3 ∷ []) 4
    ∷ sifts exclusive-or natural 1 natural 2
    ∷ fits and-or (0 ∷ 1 ∷ 2 ∷ 3 ∷ []) 3 false
    ∷ fits and-or (0 ∷ 1 ∷ 2 ∷ 3 ∷ []) 4 true
    ∷ []
