-- The tests that compare nodes and diagrams tell whether two are equal.
-- Assumes nothing.
use mathlib.Core.Path.{◌≡◌}
use mathlib.Core.Bool.{◌&&◌}
use lib.Dec.{T, eqb, eqb→eq, eqb_refl}
use Rattle.lists.specs.Lists.{equal}
use Rattle.lists.proofs.Lists.Equal.{numbers-equality, equal-equality}
use Rattle.lists.proofs.Bools.{and_T, and_l, and_r}
use Rattle.lists.proofs.Lists.Membership.{Equality}
use Rattle.diagram.specs.Networks.Diagram.{Node, Diagram, same_node, same_diagram}

-- a node by its parts
pub node-equal : (c e : Node) → c.level ≡ e.level → c.low ≡ e.low → c.high ≡ e.high → c ≡ e
node-equal c e l f g = λ i. record { level = l i; low = f i; high = g i }

node-sound : (c e : Node) → T (same_node c e) → c ≡ e
node-sound c e t =
    let p = eqb c.level e.level in
    let l = eqb c.low e.low in
    let h = eqb c.high e.high in
    let rest : T (l && h) = and_r p (l && h) t in
    node-equal c e (eqb→eq c.level e.level (and_l p (l && h) t)) (eqb→eq c.low e.low (and_l l h rest))
    (eqb→eq c.high e.high (and_r l h rest))

node-self : (c : Node) → T (same_node c c)
node-self c =
    let l = eqb c.low c.low in
    let h = eqb c.high c.high in
    and_T (eqb c.level c.level) (l && h) (eqb_refl c.level) (and_T l h (eqb_refl c.low) (eqb_refl c.high))

pub node-equality : Equality same_node
node-equality = record { sound = node-sound; self = node-self }

pub nodes-equality : Equality (equal same_node)
nodes-equality = equal-equality node-equality

diagram-sound : (D E : Diagram) → T (same_diagram D E) → D ≡ E
diagram-sound D E t =
    let a = equal same_node D.nodes E.nodes in
    let b = equal eqb D.roots E.roots in
    let ns : D.nodes ≡ E.nodes = nodes-equality.sound D.nodes E.nodes (and_l a b t) in
    let rs : D.roots ≡ E.roots = numbers-equality.sound D.roots E.roots (and_r a b t) in
    λ i. record { nodes = ns i; roots = rs i }

diagram-self : (D : Diagram) → T (same_diagram D D)
diagram-self D =
    and_T (equal same_node D.nodes D.nodes) (equal eqb D.roots D.roots)
    (nodes-equality.self D.nodes) (numbers-equality.self D.roots)

pub diagram-equality : Equality same_diagram
diagram-equality = record { sound = diagram-sound; self = diagram-self }
