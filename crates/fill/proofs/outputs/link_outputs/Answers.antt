-- `fill::outputs::link_outputs` meets its contract. Assumes nothing.
use Rattle.std.proofs.Common.{◌≡◌, ◌<◌, arith, subst, ℕ}
use Rattle.diagram.specs.Networks.Bound.{most_outputs}
use Rattle.fill.proofs.Linking.LinkedOutputs.{Linked, linked-none, output-room, output-linked}
use Rattle.fill.proofs.outputs.link_outputs.Goals as goal

pub loop-j-init : goal.loop-j-init
loop-j-init c = linked-none c.args.n c.args.values.now c.args.care.now c.args.rows c.args.work.now

pub link_output-k-requires : goal.link_output-k-requires
link_output-k-requires c =
    let l = c.loop-j in
    let a = c.args in
    let few : l.j < most_outputs = omega (arith, c.requires.in_bounds.1) in
    let room = output-room a.n a.values.now a.care.now a.rows a.work.now l.j l.k l.work c.requires.in_bounds.0 few l.invariant in record {
      in_bounds = (c.requires.in_bounds.0, few, room);
      long_work = omega (arith, c.requires.long_work);
    }

pub loop-j-preserved : goal.loop-j-preserved
loop-j-preserved c =
    let p = c.link_output-k in
    let l = c.loop-j in
    let a = c.args in
    output-linked a.n a.values.now a.care.now a.rows a.work.now l.j l.k l.work c.requires.in_bounds.0
    (omega (arith, c.requires.in_bounds.1)) l.invariant p.result p.new.work c.requires.long_work p.ensures.entries p.ensures.work

pub returns : goal.returns
returns c =
    let l = c.loop-j in
    let a = c.args in
    let all : l.j ≡ a.m = omega arith in
    let t = subst (λ (j : ℕ). Linked a.n a.values.now a.care.now a.rows a.work.now j l.k l.work) all l.invariant in
    record { entries = t.entries; work = t.buffer }
