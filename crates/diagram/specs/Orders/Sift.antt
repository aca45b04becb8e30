-- Section 5 of document 01: sifting one variable, and a pass under a limit of orders tried; ties as document 02's 2.3 has them.
-- Assumes nothing.
use Rattle.std.specs.Prelude.{Bool, true, not, cond, ◌&&◌, List, [], ◌∷◌, ℕ, zero, suc, ◌+◌, ◌/◌, min, eqb, ltb, leb, get_or}
use Rattle.lists.specs.Lists.{has, index, keep, up_to}
use Rattle.lists.specs.Most.{most}
use Rattle.diagram.specs.Networks.Network.{counts}
use Rattle.diagram.specs.Orders.Order.{moved}
use Rattle.diagram.specs.Table.{Table, filled, cost}

-- the smallest level of 0 to k with the fewest
abbrev pub fewest : (ℕ → ℕ) → ℕ → ℕ
fewest f zero = 0
fewest f (suc k) = cond (ltb (f (suc k)) (f (fewest f k))) (suc k) (fewest f k)

-- whether a level is among those of 0 to k with the fewest
abbrev pub among_fewest : (ℕ → ℕ) → ℕ → ℕ → Bool
among_fewest f k p = leb p k && eqb (f p) (f (fewest f k))

-- 'When an input's present place is among the fewest, the sift keeps it; otherwise the smallest place wins' (document 02, 2.3)
unfoldable pub preferred : (ℕ → ℕ) → ℕ → ℕ → ℕ
preferred f present k = cond (among_fewest f k present) present (fewest f k)

-- 'tries all n places top to bottom, the others in sequence, and takes the fewest cells'
unfoldable pub chosen : Table → ℕ → List ℕ → ℕ → ℕ
chosen t v order zero = 0
chosen t v order (suc k) = preferred (λ p. cost t (moved v p order)) (index eqb v order) k

-- the order that sifting the variable v leaves
unfoldable pub sift : Table → ℕ → List ℕ → List ℕ
sift t v order = moved v (chosen t v order t.n) order

-- the variable's nodes under the order
unfoldable pub nodes_of : Table → List ℕ → ℕ → ℕ
nodes_of t order v = get_or (counts true t.n (filled true t order)) (index eqb v order) 0

-- a pass under way: the order, the variables sifted so far, the orders tried
pub record Pass : Type 0 where
  pub order : List ℕ
  pub sifted : List ℕ
  pub tried : ℕ

-- the variables that are not sifted yet, lowest first
abbrev pub unsifted : Table → Pass → List ℕ
unsifted t s = keep (λ v. not (has eqb v s.sifted)) (up_to t.n)

-- 'the unsifted input with most cells under the current order, lowest number on ties'
unfoldable pub next : Table → Pass → ℕ
next t s = most (nodes_of t s.order) (unsifted t s)

-- one variable sifted, by n trials
unfoldable pub turn : Table → Pass → Pass
turn t s = record { order = sift t (next t s) s.order; sifted = next t s ∷ s.sifted; tried = s.tried + t.n }

-- at most k variables more: 'an input is not begun if its n trials would pass the limit'
unfoldable pub sifting : Table → ℕ → ℕ → Pass → Pass
sifting t limit zero s = s
sifting t limit (suc k) s = cond (leb (s.tried + t.n) limit) (sifting t limit k (turn t s)) s

abbrev pub start : List ℕ → Pass
start order = record { order = order; sifted = []; tried = 0 }

-- 'A pass sifts each input once'
unfoldable pub pass : Table → ℕ → List ℕ → Pass
pass t limit order = sifting t limit t.n (start order)

-- how many sifts a limit allows: the most, up to n, whose n trials each don't pass it
unfoldable pub allowed : ℕ → ℕ → ℕ
allowed n limit = min n (limit / n)
