-- `table::load::load` meets its contract. An accepted file has a small n and m, so all that is written has its room.
-- Assumes nothing.
use Rattle.std.specs.Prelude.{Ok}
use Rattle.std.proofs.lemmas.Result.{err_from_is_err_and}
use mathlib.Core.Path.{◌≡◌, sym, ap, ◌∙◌}
use mathlib.Core.List.{List}
use Prim.Native.Nat.{ℕ, ◌≤◌}
use native.Mathlib.Omega.{arith}
use Rattle.lists.proofs.Bools.{to-T}
use Rattle.diagram.specs.Networks.Bound.{most_variables, most_outputs}
use Rattle.table.specs.declared.State.{State}
use Rattle.table.specs.declared.Refusal.TheVariants.{ShortBuffer}
use Rattle.table.specs.Answer.{Answer, done}
use Rattle.table.specs.File.{stream_blocks, file_answer}
use Rattle.table.specs.Sizes.{most_blocks}
use Rattle.table.proofs.Files.Accepted.{Accepted, accepted}
use Rattle.table.proofs.Files.Answers.{stream-small, shifted-out, few-blocks, blocks-for-is}
use Rattle.table.proofs.Files.LoadCall.{short-values, short-care, long-planes, refused, loads}
use Rattle.table.proofs.Planes.PlaneSize.{plane-size}
use Rattle.table.proofs.load.load.Goals as goal
use Rattle.table.proofs.load.load.Goals.{After-byte-m, After-byte-n, After-blocks_for-blocks}

good-file : (file : List ℕ) (r : Answer) (v : ℕ) → r ≡ file_answer file → r ≡ Ok v → Accepted file
good-file file r v e is = accepted file (to-T (ap done (sym e ∙ is)))

few-variables : (c : After-byte-n) → c.byte-n.result ≤ most_variables
few-variables c = omega (arith, (good-file c.args.file.now c.file_answer.result c.in_ok-value.value c.file_answer.ensures c.in_ok-value.was).heading.shape.inputs, c.byte-n.ensures.0)

few-variables-2 : (c : After-blocks_for-blocks) → c.byte-n.result ≤ most_variables
few-variables-2 c = omega (arith, (good-file c.args.file.now c.file_answer.result c.in_ok-value.value c.file_answer.ensures c.in_ok-value.was).heading.shape.inputs, c.byte-n.ensures.0)

few-results : (c : After-byte-m) → c.byte-m.result ≤ most_outputs
few-results c = omega (arith, (good-file c.args.file.now c.file_answer.result c.in_ok-value.value c.file_answer.ensures c.in_ok-value.was).heading.shape.outputs, c.byte-m.ensures.0)

few-results-2 : (c : After-blocks_for-blocks) → c.byte-m.result ≤ most_outputs
few-results-2 c = omega (arith, (good-file c.args.file.now c.file_answer.result c.in_ok-value.value c.file_answer.ensures c.in_ok-value.was).heading.shape.outputs, c.byte-m.ensures.0)

the-blocks : (c : After-blocks_for-blocks)
    → c.blocks_for-blocks.result ≡ stream_blocks c.byte-n.result c.byte-m.result
the-blocks c =
    blocks-for-is c.byte-n.result c.byte-m.result c.blocks_for-blocks.result (few-variables-2 c) (few-results-2 c)
    c.blocks_for-blocks.ensures

few-blocks-here : (c : After-blocks_for-blocks) → c.blocks_for-blocks.result ≤ most_blocks
few-blocks-here c =
    omega (arith, the-blocks c, few-blocks c.byte-n.result c.byte-m.result (few-variables-2 c) (few-results-2 c))

pub returns-then-values-lt-PLANE : goal.returns-then-values-lt-PLANE
returns-then-values-lt-PLANE c =
    let a = c.args in
    let all = refused a.file.now a.values.now a.care.now ShortBuffer
    (short-values a.file.now a.values.now a.care.now (omega (arith, plane-size))) in
    record { outcome = all.0; values = all.1.0; care = all.1.1 }

pub returns-then-care-lt-PLANE : goal.returns-then-care-lt-PLANE
returns-then-care-lt-PLANE c =
    let a = c.args in
    let all = refused a.file.now a.values.now a.care.now ShortBuffer
    (short-care a.file.now a.values.now a.care.now (omega (arith, plane-size))) in
    record { outcome = all.0; values = all.1.0; care = all.1.1 }

pub returns-in_err-value : goal.returns-in_err-value
returns-in_err-value c =
    let a = c.args in
    let p = err_from_is_err_and c.from_residual.result c.from_residual.ensures.1 in
    let all = refused a.file.now a.values.now a.care.now c.in_err-value.field-0.0
    (long-planes a.file.now a.values.now a.care.now (omega (arith, plane-size)) (omega (arith, plane-size))
    ∙ sym c.file_answer.ensures ∙ c.in_err-value.was) in
    rw (p.1, p.2) record { outcome = all.0; values = all.1.0; care = all.1.1 }

pub overflow_shl-m : goal.overflow_shl-m
overflow_shl-m c =
    omega (arith, few-variables (goal.at.overflow_shl-m c).After-byte-n)

pub blocks_for-blocks-requires : goal.blocks_for-blocks-requires
blocks_for-blocks-requires c =
    omega (
      arith,
      shifted-out c.byte-n.result c.byte-m.result
          (few-variables (goal.at.blocks_for-blocks-requires c).After-byte-n)
          (few-results (goal.at.blocks_for-blocks-requires c).After-byte-m),
      stream-small c.byte-n.result c.byte-m.result
          (few-variables (goal.at.blocks_for-blocks-requires c).After-byte-n)
          (few-results (goal.at.blocks_for-blocks-requires c).After-byte-m),
    )

pub write_plane-requires : goal.write_plane-requires
write_plane-requires c =
    (omega arith, few-blocks-here (goal.at.write_plane-requires c).After-blocks_for-blocks, omega (arith, plane-size))

pub overflow_add-blocks : goal.overflow_add-blocks
overflow_add-blocks c =
    omega (arith, few-blocks-here (goal.at.overflow_add-blocks c).After-blocks_for-blocks)

pub write_plane-requires-2 : goal.write_plane-requires-2
write_plane-requires-2 c = (
  omega (arith, few-blocks-here (goal.at.write_plane-requires-2 c).After-blocks_for-blocks),
  few-blocks-here (goal.at.write_plane-requires-2 c).After-blocks_for-blocks,
  omega (arith, plane-size),
)

pub returns : goal.returns
returns c =
    let a = c.args in
    let all = loads a.file.now a.values.now a.care.now c.in_ok-value.value
    (long-planes a.file.now a.values.now a.care.now (omega (arith, plane-size)) (omega (arith, plane-size))
    ∙ sym c.file_answer.ensures ∙ c.in_ok-value.was)
    c.byte-n.result c.byte-m.result c.blocks_for-blocks.result c.read_order-order.result
    c.write_plane.new.plane c.write_plane-2.new.plane
    c.byte-n.ensures.0 c.byte-m.ensures.0 (the-blocks (goal.at.returns c).After-blocks_for-blocks) c.read_order-order.ensures
    c.write_plane.ensures c.write_plane-2.ensures in
    let none = ap (λ (s : State). s.count) c.unloaded.ensures in record { outcome = rw none all.0; values = all.1.0; care = all.1.1 }
