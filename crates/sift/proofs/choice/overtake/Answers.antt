-- `sift::choice::overtake` meets its contract. A variable takes the lead, by the two tests.
-- Assumes nothing.
use mathlib.Core.Path.{sym}
use Rattle.sift.proofs.Passing.LeadingVariable.{overtaken-marked, overtaken-fewer, overtaken-more}
use Rattle.sift.proofs.choice.overtake.Goals as goal

pub returns-then-marked : goal.returns-then-marked
returns-then-marked c =
    let a = c.args in
    sym (overtaken-marked a.lead a.v a.nodes a.marked c.if-marked.true)

pub returns-then-nodes-lead : goal.returns-then-nodes-lead
returns-then-nodes-lead c =
    let a = c.args in
    sym (overtaken-fewer a.lead a.v a.nodes a.marked c.if-marked.false c.if-nodes-lead.true)

pub returns : goal.returns
returns c =
    let a = c.args in
    sym (overtaken-more a.lead a.v a.nodes a.marked c.if-marked.false c.if-nodes-lead.false)
