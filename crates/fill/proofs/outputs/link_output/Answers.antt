-- `fill::outputs::link_output` meets its contract: what lies at the front of what is gathered is the output. Assumes nothing.
use mathlib.Core.Path.{◌≡◌, sym, ap, ◌∙◌}
use lib.Seq.{length-take-le}
use mathlib.Core.List.{List, [], ◌∷◌}
use Prim.Native.Nat.{ℕ, ◌+◌, ◌*◌, ◌≤◌}
use lib.ListN.{length, take}
use Rattle.reorder.specs.Sizes.{width, part_size}
use Rattle.reorder.specs.Gather.{gathered_part}
use Rattle.reorder.proofs.Shifts.{part-size, width_room, width-met}
use Rattle.reorder.proofs.Gathered.{length-gathered, part-front}
use Rattle.fill.specs.Work.{links_at}
use Rattle.matching.specs.Parts.{level_parts}
use Rattle.matching.proofs.Buffers.Fitting.{candidate-says}
use Rattle.lists.proofs.Bools.{to-T}
use Rattle.matching.specs.Level.{parts_at, written}
use Rattle.fill.proofs.Buffers.Sizes.{sizes}
use Rattle.fill.proofs.outputs.link_output.Goals as goal
use Rattle.fill.proofs.outputs.link_output.Goals.{After-width_of-w}

wide : (w : After-width_of-w) → w.width_of-w.result ≡ width w.args.n
wide w = w.width_of-w.ensures ∙ width-met w.args.n w.requires.in_bounds.0

fits : (w : After-width_of-w) → w.width_of-w.result + w.width_of-w.result ≤ part_size
fits w = omega (sizes, wide w, width_room w.args.n w.requires.in_bounds.0)

pub overflow_add-s : goal.overflow_add-s
overflow_add-s c =
    omega (sizes, part-size, fits (goal.at.overflow_add-s c).After-width_of-w)

pub slice_bounds-part-end : goal.slice_bounds-part-end
slice_bounds-part-end c =
    omega (sizes, part-size, fits (goal.at.slice_bounds-part-end c).After-width_of-w)

pub slice_bounds-link_part-end : goal.slice_bounds-link_part-end
slice_bounds-link_part-end c =
    let p = (goal.at.slice_bounds-link_part-end c).After-width_of-w in
    sym (length-take-le (c.width_of-w.result + c.width_of-w.result) c.gather_output-part.result (omega (sizes, part-size, fits p)))

-- the output at the front of what is gathered
abbrev output-of : After-width_of-w → List ℕ
output-of w =
    let a = w.args in
    gathered_part a.values.now a.care.now a.rows a.n a.j

output : (w : After-width_of-w)
    → take (w.width_of-w.result + w.width_of-w.result) w.gather_output-part.result ≡ output-of w
output w =
    let a = w.args in
    ap (take (w.width_of-w.result + w.width_of-w.result)) w.gather_output-part.ensures
    ∙ part-front a.values.now a.care.now a.rows a.n a.j (w.width_of-w.result + w.width_of-w.result)
    w.requires.in_bounds.0 w.requires.in_bounds.1 (omega (sizes, wide w))

pub link_part-requires : goal.link_part-requires
link_part-requires c =
    let a = c.args in
    let part = output (goal.at.link_part-requires c).After-width_of-w in
    to-T ((candidate-says a.n _ 0 a.k (8192 + 2 * a.j) (length a.work.now)).met (
      (c.requires.in_bounds.0, ap length part ∙ length-gathered a.values.now a.care.now a.rows a.n a.j),
      (
        (omega (sizes, c.requires.long_work), c.requires.in_bounds.2),
        omega (sizes, c.requires.long_work, c.requires.in_bounds.1),
      ),
    ))

pub returns : goal.returns
unfolding links_at
returns c =
    let a = c.args in
    let m = a.work.now in record {
      entries = c.link_part.ensures.entries
          ∙ ap (λ (y : List ℕ). length (level_parts (width a.n) (parts_at a.n a.k 0 m) (y ∷ [])).parts)
          (output (goal.at.returns c).After-width_of-w);
      work = c.link_part.ensures.work
          ∙ ap (λ (y : List ℕ). written (level_parts (width a.n) (parts_at a.n a.k 0 m) (y ∷ [])) 0 (8192 + 2 * a.j) m)
          (output (goal.at.returns c).After-width_of-w);
    }
