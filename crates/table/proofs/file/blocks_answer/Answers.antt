-- `table::file::blocks_answer` meets its contract: the first refusal is the answer, and after the last block a success.
-- Assumes nothing.
use mathlib.Core.Path.{sym, ap, ◌∙◌}
use Prim.Native.Nat.{◌*◌, ◌+◌}
use native.Mathlib.Omega.{arith}
use Rattle.std.proofs.lemmas.Result.{err_from_is_err_and}
use Rattle.table.specs.File.{block_answer}
use Rattle.table.specs.Answer.{done}
use Rattle.table.proofs.Files.Answers.{refusal-next, refusal-stop, refusal-end}
use Rattle.table.proofs.Files.Reader.{read-further}
use Rattle.table.proofs.file.blocks_answer.Goals as goal

pub returns-in_err-block_answer : goal.returns-in_err-block_answer
returns-in_err-block_answer c =
    let p = err_from_is_err_and c.from_residual.result c.from_residual.ensures.1 in
    let l = c.loop-k in
    let a = c.args in
    let d = read-further a.bits a.blocks a.file.now l.k (λ e. omega arith) in
    let e = sym (c.block_answer.ensures ∙ d) ∙ c.in_err-block_answer.was in
    rw (p.1, p.2)
    (sym
    (l.invariant.1
    ∙ refusal-stop (block_answer a.bits a.blocks a.file.now) (2 * a.blocks) l.k (omega arith)
    (ap done e)
    ∙ e))

pub loop-k-preserved : goal.loop-k-preserved
loop-k-preserved c =
    let l = c.loop-k in
    let a = c.args in
    let d = read-further a.bits a.blocks a.file.now l.k (λ e. omega arith) in (
      omega arith,
      l.invariant.1
          ∙ refusal-next (block_answer a.bits a.blocks a.file.now) (2 * a.blocks) l.k (omega arith)
          (ap done (sym (c.block_answer.ensures ∙ d) ∙ c.in_ok-block_answer.was)),
    )

pub returns : goal.returns
returns c =
    let l = c.loop-k in
    let a = c.args in
    sym (l.invariant.1 ∙ refusal-end (block_answer a.bits a.blocks a.file.now) (2 * a.blocks) l.k (omega arith))

-- the last block
pub returns-in_ok-block_answer : goal.returns-in_ok-block_answer
returns-in_ok-block_answer c =
    let l = c.loop-k in
    let a = c.args in
    let d = read-further a.bits a.blocks a.file.now l.k (λ e. omega arith) in
    sym
    (l.invariant.1
    ∙ refusal-next (block_answer a.bits a.blocks a.file.now) (2 * a.blocks) l.k (omega arith)
    (ap done (sym (c.block_answer.ensures ∙ d) ∙ c.in_ok-block_answer.was))
    ∙ refusal-end (block_answer a.bits a.blocks a.file.now) (2 * a.blocks) (l.k + 1) (omega arith))
