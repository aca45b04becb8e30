-- `table::file::block_answer` meets its contract: the check, then the kind as it was read.
-- Assumes nothing.
use Rattle.std.specs.Prelude.{Err}
use mathlib.Core.Path.{refl}
use borrow.Author.Rules.{rules}
use Rattle.table.specs.File.{kind_of, tail_answer}
use Rattle.table.specs.Inner.Reader.{carried_answer, stream_answer, kind_answer}
use Rattle.table.specs.declared.Refusal.TheVariants.{BadKind}
use Rattle.table.proofs.Files.Reader.{kind-read}
use Rattle.table.proofs.file.block_answer.Goals as goal

pub returns-in-1 : goal.returns-in-1
unfolding kind_answer kind_of
returns-in-1 c =
    let x = c.byte-kind in
    let a = c.args in
    let b = a.block in
    kind-read a.bits a.blocks b.file.now b.number (search rules) x.result 1 x.ensures.0 c.in-1.is c.heading_answer.result (search rules)

pub returns-in-2 : goal.returns-in-2
unfolding kind_answer kind_of stream_answer carried_answer tail_answer
returns-in-2 c =
    let x = c.byte-kind in
    let a = c.args in
    let b = a.block in
    kind-read a.bits a.blocks b.file.now b.number (search rules) x.result 2 x.ensures.0 c.in-2.is c.stream_answer.result (search rules)

pub returns-in-3 : goal.returns-in-3
unfolding kind_answer kind_of stream_answer carried_answer tail_answer
returns-in-3 c =
    let x = c.byte-kind in
    let a = c.args in
    let b = a.block in
    kind-read a.bits a.blocks b.file.now b.number (search rules) x.result 3 x.ensures.0 c.in-3.is c.stream_answer-in-3.result (search rules)

pub returns-in_default : goal.returns-in_default
unfolding kind_answer kind_of
returns-in_default c =
    let x = c.byte-kind in
    let a = c.args in
    let b = a.block in
    kind-read a.bits a.blocks b.file.now b.number (search rules) x.result x.result x.ensures.0 refl (Err BadKind) (search rules)
