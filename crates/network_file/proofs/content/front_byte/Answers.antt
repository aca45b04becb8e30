-- `network_file::content::front_byte` meets its contract.
-- Assumes nothing.
use native.Mathlib.Omega.{arith}
use borrow.Author.Tests.{eq-eqb, ne_eqb, lt-ltb}
use Rattle.block.specs.Block.{content_at}
use Rattle.block.specs.Sealed.{headed}
use Rattle.network_file.proofs.content.front_byte.Goals as goal

pub returns-then-i-eq0 : goal.returns-then-i-eq0
unfolding headed
returns-then-i-eq0 c content =
    rw (eq-eqb c.args.i 0 c.if-i-eq0.true)

pub returns-then-i-eq1 : goal.returns-then-i-eq1
unfolding headed
returns-then-i-eq1 c content =
    let i = c.args.i in
    rw (ne_eqb i 0 c.if-i-eq0.false, eq-eqb i 1 c.if-i-eq1.true)

pub returns : goal.returns
unfolding headed
returns c content =
    let i = c.args.i in
    rw (ne_eqb i 0 c.if-i-eq0.false, ne_eqb i 1 c.if-i-eq1.false, lt-ltb i content_at (omega arith)) c.number_byte.ensures
