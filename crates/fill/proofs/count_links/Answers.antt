-- `fill::count_links` meets its contract, by the laws of links in a work buffer. Assumes nothing.
use mathlib.Core.Path.{◌≡◌, sym, ap, ◌∙◌}
use mathlib.Core.Bool.{true}
use mathlib.Core.List.{sum}
use Prim.Native.Nat.{◌+◌}
use borrow.Author.Tests.{not-true, not-false}
use lib.ListN.{length}
use Rattle.fill.specs.Counts.{links_fit}
use Rattle.fill.proofs.Buffers.Sizes.{sizes}
use Rattle.fill.proofs.Counting.LinkedLevels.{linked-refused, linked-asks, linked-few, linked-levels}
use Rattle.fill.proofs.count_links.Goals as goal
use Rattle.fill.proofs.count_links.Goals.{Else-not-links_fit}

pub returns-then-not-links_fit : goal.returns-then-not-links_fit
returns-then-not-links_fit c =
    let a = c.args in
    linked-refused a.n a.m a.entries a.work.now
    (sym c.links_fit.ensures ∙ not-true c.links_fit.result c.if-not-links_fit.true-raw)

-- the links fit
fit : (c : Else-not-links_fit)
    → let a =
    c.args in
    links_fit a.n a.m a.entries (length a.work.now) ≡ true
fit c = sym c.links_fit.ensures ∙ not-false c.links_fit.result c.if-not-links_fit.false-raw

pub level_counts-counts-requires : goal.level_counts-counts-requires
level_counts-counts-requires c =
    let a = c.args in
    let q = linked-asks a.n a.m a.entries a.work.now (fit (goal.at.level_counts-counts-requires c).Else-not-links_fit) in
    (q.0, q.1, omega (sizes, q.2, q.3))

pub total-requires : goal.total-requires
total-requires c =
    let a = c.args in
    omega (
      sizes,
      ap (sum ◌+◌ 0) c.level_counts-counts.ensures,
      linked-few a.n a.m a.entries a.work.now (fit (goal.at.total-requires c).Else-not-links_fit),
    )

pub returns : goal.returns
returns c =
    let a = c.args in
    let l = c.level_counts-counts in
    linked-levels a.n a.m a.entries a.work.now (fit (goal.at.returns c).Else-not-links_fit) l.result l.ensures
    c.total.result c.total.ensures
