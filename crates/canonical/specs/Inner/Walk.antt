-- The walk from the roots down: the nodes seen at a level, each once, in a list with marks for what stands in it.
-- Assumes nothing.
use Rattle.std.specs.Prelude.{◌≡◌, Bool, true, cond, List, [], ◌∷◌, ◌++◌, ℕ, ◌+◌, ◌≤◌, ◌<◌, T, eqb, ltb, length, get_or, Option, Some, None}
use Rattle.lists.specs.Lists.{all, keep, has, distinct, equal}
use Rattle.diagram.specs.Networks.Bound.{most_nodes}
use Rattle.diagram.specs.Canonical.Structure.{targets, range}
use Rattle.lent.specs.Lent.{lent_node}

-- a list in which each stands once, after k is seen
abbrev pub arrived : List ℕ → ℕ → List ℕ
arrived ks k = cond (has eqb k ks) ks (ks ++ (k ∷ []))

-- after several are seen, one after the other
abbrev pub arrived_all : List ℕ → List ℕ → List ℕ
arrived_all ks [] = ks
arrived_all ks (j ∷ js) = arrived_all (arrived ks j) js

-- `at_level`, `standing` and `spread` of lent cells, however many of them are counted

abbrev pub stands_at : List ℕ → ℕ → ℕ → Bool
stands_at cells p k = eqb (lent_node cells k).level p

abbrev pub lent_standing : List ℕ → ℕ → List ℕ → List ℕ
lent_standing cells p ks = keep (stands_at cells p) ks

abbrev pub lent_spread : List ℕ → ℕ → List ℕ → List ℕ
lent_spread cells p [] = []
lent_spread cells p (k ∷ ks) =
    cond (stands_at cells p k) (targets true (lent_node cells k).low ++ (targets true (lent_node cells k).high ++ lent_spread cells p ks))
    (k ∷ lent_spread cells p ks)

-- the edges of counted nodes are to counted nodes or constants
pub record Own (count : ℕ) (cells : List ℕ) : Type 0 where
  pub low : (k : ℕ) → k < count → (lent_node cells k).low ≤ count + count + 1
  pub high : (k : ℕ) → k < count → (lent_node cells k).high ≤ count + count + 1

abbrev pub is_below : ℕ → ℕ → Bool
is_below n k = ltb k n

-- node k has a mark, and the nodes that its edges are to
pub record Markable (cells : List ℕ) (k : ℕ) : Type 0 where
  pub node : k < most_nodes
  pub low : (lent_node cells k).low ≤ most_nodes + most_nodes + 1
  pub high : (lent_node cells k).high ≤ most_nodes + most_nodes + 1

-- nodes, each once; exactly theirs have the stamp of all marks, and none has a later one
pub record Listed (stamp : ℕ) (ks marks : List ℕ) : Type 0 where
  pub apart : T (distinct eqb ks)
  pub within : T (all (is_below most_nodes) ks)
  pub marked : (k : ℕ) → k < most_nodes → eqb (get_or marks k 0) stamp ≡ has eqb k ks
  pub stamped : (k : ℕ) → k < most_nodes → get_or marks k 0 ≤ stamp

-- the number after those of the nodes of ks that stand at level p, where these are the next ones
unfoldable pub followed : List ℕ → ℕ → ℕ → List ℕ → Option ℕ
followed cells p next ks =
    cond (equal eqb (lent_standing cells p ks) (range next (length (lent_standing cells p ks))))
    (Some (next + length (lent_standing cells p ks))) None
