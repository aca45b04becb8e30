-- `network_file::verify::many_answer` meets its contract: so many cells are no network's, well-formed or not.
-- Assumes nothing.
use mathlib.Core.Path.{◌≡◌, sym, ap₂, ◌∙◌}
use mathlib.Core.Bool.{true}
use Prim.Native.Nat.{ℕ}
use native.Mathlib.Omega.{arith}
use Rattle.diagram.specs.Networks.Diagram.{well_formed}
use Rattle.table.specs.File.{file_inputs, file_outputs}
use Rattle.network_file.specs.File.{file_diagram}
use Rattle.network_file.proofs.Reading.Checked.{shape_of, many-formed, many-bad}
use Rattle.network_file.proofs.verify.many_answer.Goals as goal
use Rattle.network_file.proofs.verify.many_answer.Goals.{After-file_good}

-- the test is of the file's own n and m
own : (c : After-file_good)
    → let f = c.args.file.now in
    c.file_good.result ≡ well_formed true (file_inputs f) (file_outputs f) (file_diagram f)
own c =
    let f = c.args.file.now in
    c.file_good.ensures
    ∙ ap₂ (λ (x y : ℕ). well_formed true x y (file_diagram f)) c.byte-n.ensures.0 c.byte-m.ensures.0

pub file_good-requires : goal.file_good-requires
file_good-requires c =
    let m = c.byte-m.ensures in record {
      count_value = (c.requires.count_value.0, m.0);
      count_lt_number_limit = (c.requires.count_value.2, omega (arith, m.0, (shape_of c.args.file.now c.requires.file_value).outputs));
    }

pub returns-then-file_good : goal.returns-then-file_good
returns-then-file_good c =
    let a = c.args in
    many-formed a.file.now (shape_of a.file.now c.requires.file_value) (omega arith)
    (sym (own (goal.at.returns-then-file_good c).After-file_good) ∙ c.if-file_good.true)

pub returns : goal.returns
returns c =
    let a = c.args in
    many-bad a.file.now (shape_of a.file.now c.requires.file_value) (sym (own (goal.at.returns c).After-file_good) ∙ c.if-file_good.false)
