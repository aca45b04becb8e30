-- `canonical::reduced::is_new` meets its contract: by the slot alone where it has no mark.
-- Assumes nothing.
use Rattle.std.proofs.Common.{sym, ap, ◌∙◌}
use Rattle.canonical.specs.Inner.Reduced.{node_slot}
use Rattle.canonical.proofs.Nodes.{slot_kept, slot-marked, slot-new, new-not}
use Rattle.canonical.proofs.reduced.is_new.Goals as goal

pub returns-then-marks-slot : goal.returns-then-marks-slot
returns-then-marks-slot c =
    let a = c.args in
    let s = c.slot-slot in record {
      tested = new-not a.cells.now a.i c.repeated.result c.repeated.ensures;
      marks = slot_kept a.cells.now a.i s.result (s.ensures.0 ∙ ap node_slot c.node_at.ensures) a.marks.now c.requires.1
          c.if-marks-slot.true;
    }

pub returns : goal.returns
returns c =
    let s = c.slot-slot in
    let e = s.ensures.0 ∙ ap node_slot c.node_at.ensures in
    let a = c.args in record {
      tested = sym (slot-new a.cells.now a.i s.result e a.marks.now c.requires.1 c.if-marks-slot.false);
      marks = slot-marked a.cells.now a.i s.result e a.marks.now c.requires.1 s.ensures.1;
    }
