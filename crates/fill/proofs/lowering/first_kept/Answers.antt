-- `fill::lowering::first_kept` meets its contract: what is gathered of the outputs is their bytes under the order. Assumes nothing.
use Rattle.std.proofs.Common.{refl, inl, map}
use Rattle.fill.proofs.Buffers.HeldParts.{region-met}
use Rattle.lists.specs.Lists.{up_to}
use Rattle.table.proofs.Held.{few-inputs, few-outputs}
use Rattle.reorder.specs.Gather.{gathered_part}
use Rattle.fill.specs.Calls.{drawn_outputs}
use Rattle.fill.proofs.Calls.Filling.{outputs-encode}
use Rattle.fill.proofs.Calls.HeldFilling.{few}
use Rattle.fill.proofs.Lowered.FirstKept.{first-kept}
use Rattle.fill.proofs.lowering.first_kept.Goals as goal

pub link_outputs-count-requires-clause-in_bounds : goal.link_outputs-count-requires-clause-in_bounds
link_outputs-count-requires-clause-in_bounds c =
    (few-inputs c.args.state c.requires.has_table, few-outputs c.args.state c.requires.has_table)

pub invariant_of-result : goal.invariant_of-result
invariant_of-result c = record { in_region = region-met 0 (inl refl) }

pub returns : goal.returns
returns c =
    let a = c.args in
    let st = a.state in
    let rows = c.row_map-rows.result in
    let all = first-kept (drawn_outputs st a.values.now a.care.now) (few-inputs st c.requires.has_table)
    (few st a.values.now a.care.now c.requires.has_table) a.work.now c.requires.long_work
    (map (gathered_part a.values.now a.care.now rows st.n) (up_to st.m)) c.link_outputs-count.result
    c.link_outputs-count.new.work
    (outputs-encode st.n st.m a.values.now a.care.now st.order rows (few-inputs st c.requires.has_table) c.row_map-rows.ensures)
    c.link_outputs-count.ensures.entries c.link_outputs-count.ensures.work in
    record { from = refl; entries = all.0; above = refl; parts = all.1.0; behind = all.1.1 }
