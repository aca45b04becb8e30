-- `network_file::read::read_cells` meets its contract: a refusal and a success, each by its law of `ReadCall`.
-- Assumes nothing.
use Rattle.std.proofs.lemmas.Result.{err_from_is_err_and}
use Rattle.network_file.proofs.Reading.ReadCall.{refusal, readable, reading}
use Rattle.network_file.proofs.read.read_cells.Goals as goal

pub returns-in_err-value : goal.returns-in_err-value
returns-in_err-value c =
    let x = c.answer_of-answer in
    let w = c.clear_after in
    let a = c.args in
    let p = err_from_is_err_and c.from_residual.result c.from_residual.ensures.1 in
    let all = refusal a.file.now a.values.now a.care.now a.work.now a.roots.now a.cells.now x.result
    x.ensures w.new.work w.ensures c.in_err-value.field-0.0 c.in_err-value.was in
    rw (p.1, p.2) record {
      outcome = all.0;
      values = all.1.0;
      care = all.1.1.0;
      work = all.1.1.1.0;
      roots = all.1.1.1.1.0;
      cells = all.1.1.1.1.1.0;
      given = all.1.1.1.1.1.1;
    }

pub write_network-requires : goal.write_network-requires
write_network-requires c =
    let x = c.answer_of-answer in
    let w = c.clear_after in
    let a = c.args in record {
      readable = readable a.file.now a.values.now a.care.now a.work.now a.roots.now a.cells.now x.result
          x.ensures w.new.work w.ensures c.in_ok-value.value c.in_ok-value.was;
      after_value = c.file_state-after.ensures;
    }

pub returns : goal.returns
returns c =
    let y = c.write_network in
    let t = c.file_state-after in
    let x = c.answer_of-answer in
    let w = c.clear_after in
    let a = c.args in
    let all = reading a.file.now a.values.now a.care.now a.work.now a.roots.now a.cells.now x.result
    x.ensures w.new.work w.ensures c.in_ok-value.value c.in_ok-value.was t.result
    y.new.values y.new.care y.new.roots y.new.cells t.ensures y.ensures.values
    y.ensures.care y.ensures.roots y.ensures.cells in
    record {
      outcome = all.0;
      values = all.1.0;
      care = all.1.1.0;
      work = all.1.1.1.0;
      roots = all.1.1.1.1.0;
      cells = all.1.1.1.1.1.0;
      given = all.1.1.1.1.1.1;
    }
