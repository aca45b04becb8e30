-- `network_file::content::content_byte` meets its contract.
-- Assumes nothing.
use mathlib.Core.Path.{sym, ◌∙◌}
use borrow.Author.Tests.{eq-eqb, ne_eqb}
use Rattle.network_file.specs.Write.{heading_byte, cells_byte}
use Rattle.network_file.proofs.Format.SealedBlock.{headed-content}
use Rattle.network_file.proofs.content.content_byte.Goals as goal

pub returns-then-i-lt-CONTENT_AT : goal.returns-then-i-lt-CONTENT_AT
returns-then-i-lt-CONTENT_AT c =
    let a = c.args in
    rw (eq-eqb a.k 0 c.if-k-eq0.true) (c.front_byte.ensures (heading_byte a.state a.roots.now))

pub returns-then-k-eq0 : goal.returns-then-k-eq0
returns-then-k-eq0 c =
    let a = c.args in
    rw (eq-eqb a.k 0 c.if-k-eq0.true)
    (c.heading_byte.ensures ∙ sym (headed-content 4 0 (heading_byte a.state a.roots.now) a.i c.if-i-lt-CONTENT_AT.false))

pub returns-then-i-lt-CONTENT_AT-2 : goal.returns-then-i-lt-CONTENT_AT-2
returns-then-i-lt-CONTENT_AT-2 c =
    let a = c.args in
    rw (ne_eqb a.k 0 c.if-k-eq0.false) (c.front_byte-then-i-lt-CONTENT_AT-2.ensures (cells_byte a.state.count a.cells.now a.k))

pub returns : goal.returns
returns c =
    let a = c.args in
    rw (ne_eqb a.k 0 c.if-k-eq0.false)
    (c.cells_byte.ensures
    ∙ sym (headed-content 5 a.k (cells_byte a.state.count a.cells.now a.k) a.i c.if-i-lt-CONTENT_AT-2.false))
