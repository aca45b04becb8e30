-- Section 4 of document 01, 'a diagram, for comparison': any list of nodes, what a row gives at a reference, and which are well-formed.
-- A node is document 01's cell; its low and high edges are the 0-arrow and the 1-arrow.
-- `inv` says whether references may invert (complement edges); section 4's have it true.
-- Assumes nothing.
use Rattle.std.specs.Prelude.{Bool, true, false, cond, ◌&&◌, ◌||◌, List, ℕ, zero, suc, ◌+◌, ◌*◌, ◌-◌, ◌/◌, ◌%◌, eqb, ltb, leb, length, get_or}
use Rattle.lists.specs.Lists.{all, equal}
use Rattle.lists.specs.Bits.{flip}

pub record Node : Type 0 where
  pub level : ℕ
  pub low : ℕ
  pub high : ℕ

pub record Diagram : Type 0 where
  pub nodes : List Node
  pub roots : List ℕ

abbrev pub same_node : Node → Node → Bool
same_node c e = eqb c.level e.level && (eqb c.low e.low && eqb c.high e.high)

-- the same nodes and the same roots
abbrev pub same_diagram : Diagram → Diagram → Bool
same_diagram D E = equal same_node D.nodes E.nodes && equal eqb D.roots E.roots

abbrev pub edge : Bool → Node → ℕ
edge false c = c.low
edge true c = c.high

-- the index in the list, from 0, of the node that a reference above 1 is to: 'cell i, from 1, is referred to as 2i, inverted 2i + 1'
abbrev pub target : Bool → ℕ → ℕ
target true r = r / 2 - 1
target false r = r - 2

-- whether a reference inverts
abbrev pub inverts : Bool → ℕ → Bool
inverts true r = eqb (r % 2) 1
inverts false r = false

-- the reference to the inverse, where `odd` is true
abbrev pub opposite : Bool → ℕ → ℕ
opposite false r = r
opposite true r = cond (inverts true r) (r - 1) (suc r)

-- the largest reference where there are k nodes
abbrev pub largest : Bool → ℕ → ℕ
largest true k = 2 * k + 1
largest false k = k + 1

abbrev pub node_at : Bool → Diagram → ℕ → Node
node_at inv D r = get_or D.nodes (target inv r) (record { level = 0; low = 0; high = 0 })

-- a reference to a constant, or to one of the diagram's own nodes
abbrev pub refers : Bool → Diagram → ℕ → Bool
refers inv D r = leb r (largest inv (length D.nodes))

-- 'only to later places or constants'
abbrev pub later : Bool → Diagram → ℕ → ℕ → Bool
later inv D p r = ltb r 2 || (refers inv D r && ltb p (node_at inv D r).level)

abbrev pub node_good : Bool → ℕ → Diagram → Node → Bool
node_good inv n D c = ltb c.level n && (later inv D c.level c.low && later inv D c.level c.high)

-- levels below n, references to its own nodes or constants, edges only to later levels or constants, one root an output
unfoldable pub well_formed : Bool → ℕ → ℕ → Diagram → Bool
well_formed inv n m D = eqb (length D.roots) m && (all (refers inv D) D.roots && all (node_good inv n D) D.nodes)

-- what a row gives at a reference, where a p is the row's bit of the variable at level p: constants give themselves, a node what its
-- edge for that bit gives, an inverting reference the opposite. Levels rise along edges, so n steps are enough for n levels (law
-- gives-more).
unfoldable pub gives : Bool → Diagram → (ℕ → Bool) → ℕ → ℕ → Bool
gives inv D a zero r = eqb r 1
gives inv D a (suc k) r =
    cond (ltb r 2) (eqb r 1)
    (flip (inverts inv r) (gives inv D a k (edge (a (node_at inv D r).level) (node_at inv D r))))
