-- `network::levels::read_entry` meets its contract: the entry's two links are alike or not.
-- Assumes nothing.
use native.Mathlib.Omega.{arith}
use mathlib.Core.Path.{◌≡◌}
use Prim.Native.Nat.{◌+◌, ◌%◌}
use lib.Dec.{eqb}
use Rattle.fill.proofs.Buffers.Sizes.{work-size}
use Rattle.network.specs.Levels.{made, entry_made}
use Rattle.network.proofs.LinksRead.Entries.{entry_next, entry-alike, entry-unlike}
use Rattle.network.proofs.LinksRead.LinkRefs.{opposite-small}
use Rattle.network.proofs.levels.read_entry.Goals as goal
use Rattle.network.proofs.levels.read_entry.Goals.{Else-k-l}

-- where the links differ, the next index is one more
one_more : (c : Else-k-l)
    → let a =
    c.args in
    (entry_made a.p a.below a.i (made a.work.now a.cells.now a.next)).next ≡ a.next + 1
one_more c =
    let a = c.args in
    entry_next a.work.now a.cells.now a.p a.below a.i a.next
    c.stored_at-k.result c.stored_at-l.result
    c.stored_at-k.ensures.0 c.stored_at-l.ensures.0 c.if-k-l.false

pub stored_at-k-requires : goal.stored_at-k-requires
stored_at-k-requires c =
    omega (arith, work-size)

pub stored_at-l-requires : goal.stored_at-l-requires
stored_at-l-requires c =
    omega (arith, work-size)

pub returns-then-k-l : goal.returns-then-k-l
returns-then-k-l c =
    let a = c.args in
    entry-alike a.work.now a.cells.now a.p a.below a.i a.next
    c.stored_at-k.result c.stored_at-l.result
    c.stored_at-k.ensures.0 c.stored_at-l.ensures.0
    c.link_ref-r.result c.put_stored.new.work c.if-k-l.true
    c.link_ref-r.ensures.0 c.put_stored.ensures

pub put_node-requires : goal.put_node-requires
put_node-requires c =
    let r = c.link_ref-r in
    let q = c.link_ref-q in
    let odd = eqb (r.result % 2) 1 in
    omega (
      arith,
      one_more (goal.at.put_node-requires c).Else-k-l,
      c.turned-low.ensures,
      c.turned-high.ensures,
      opposite-small odd r.result r.ensures.1,
      opposite-small odd q.result q.ensures.1,
    )

pub overflow_add-next : goal.overflow_add-next
overflow_add-next c =
    omega (arith, one_more (goal.at.overflow_add-next c).Else-k-l)

pub overflow_mul-next : goal.overflow_mul-next
overflow_mul-next c =
    omega (arith, one_more (goal.at.overflow_mul-next c).Else-k-l)

pub overflow_add-next-2 : goal.overflow_add-next-2
overflow_add-next-2 c =
    omega (arith, one_more (goal.at.overflow_add-next-2 c).Else-k-l)

pub put_stored-requires-2 : goal.put_stored-requires-2
put_stored-requires-2 c =
    omega (arith, one_more (goal.at.put_stored-requires-2 c).Else-k-l)

pub overflow_add-result : goal.overflow_add-result
overflow_add-result c =
    omega (arith, one_more (goal.at.overflow_add-result c).Else-k-l)

pub returns : goal.returns
returns c =
    let a = c.args in
    entry-unlike a.work.now a.cells.now a.p a.below a.i a.next
    c.stored_at-k.result c.stored_at-l.result
    c.stored_at-k.ensures.0 c.stored_at-l.ensures.0
    c.link_ref-r.result c.link_ref-q.result c.turned-low.result
    c.turned-high.result c.put_stored-2.new.work c.put_node.new.cells c.if-k-l.false
    c.link_ref-r.ensures.0 c.link_ref-q.ensures.0
    c.turned-low.ensures c.turned-high.ensures
    c.put_node.ensures c.put_stored-2.ensures
