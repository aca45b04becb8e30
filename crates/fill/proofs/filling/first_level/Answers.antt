-- `fill::filling::first_level` meets its contract: what is gathered of the outputs is their bytes under the order. Assumes nothing.
use mathlib.Core.Path.{sym}
use mathlib.Core.List.{map}
use Rattle.lists.specs.Lists.{up_to}
use Rattle.table.proofs.Held.{few-inputs, few-outputs}
use Rattle.reorder.specs.Gather.{gathered_part}
use Rattle.fill.specs.Calls.{drawn_outputs}
use Rattle.fill.specs.Inner.Filling.{first_work}
use Rattle.fill.proofs.Buffers.Sizes.{work-size, sizes}
use Rattle.fill.proofs.Buffers.HeldParts.{zero-start}
use Rattle.fill.proofs.Calls.Filling.{outputs-encode, first-is}
use Rattle.fill.proofs.filling.first_level.Goals as goal

pub zero-requires : goal.zero-requires
zero-requires c =
    omega (sizes, c.requires.work_size_in_bounds)

pub link_outputs-requires : goal.link_outputs-requires
link_outputs-requires c =
    let a = c.args.state in record {
      in_bounds = (few-inputs a c.requires.t, few-outputs a c.requires.t);
      long_work = omega (sizes, c.requires.work_size_in_bounds, c.zero.auto.l);
    }

pub returns : goal.returns
unfolding first_work
returns c =
    let a = c.args in
    let st = a.state in
    let z = c.zero in
    let rows = c.row_map-rows.result in
    let all = first-is (drawn_outputs st a.values.now a.care.now) a.work.now z.new.l
    (map (gathered_part a.values.now a.care.now rows st.n) (up_to st.m))
    c.link_outputs.result c.link_outputs.new.work
    (outputs-encode st.n st.m a.values.now a.care.now st.order rows (few-inputs st c.requires.t) c.row_map-rows.ensures)
    (zero-start 32768 a.work.now z.new.l (sym work-size) z.ensures) c.link_outputs.ensures.entries
    c.link_outputs.ensures.work in record { entries = all.0; work = all.1 }
