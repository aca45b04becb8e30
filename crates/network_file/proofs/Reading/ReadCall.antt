-- The ways that reading a network file ends: a refusal, and a success.
-- Assumes nothing.
use Rattle.std.specs.Prelude.{Ok, Err, IfOk}
use mathlib.Core.Path.{◌≡◌, sym, ap, ◌∙◌, subst}
use mathlib.Core.Bool.{cond}
use mathlib.Core.List.{List}
use Prim.Native.Nat.{ℕ, ◌*◌}
use Rattle.lists.specs.Written.{over}
use Rattle.table.specs.Answer.{Answer, Outcome}
use Rattle.table.specs.declared.Refusal.{Refusal}
use Rattle.table.specs.declared.State.{State}
use Rattle.table.specs.Answer.{done}
use Rattle.fill.specs.Work.{cleared_work}
use Rattle.lent.specs.Lent.{lent_diagram, roots_size}
use Rattle.network.specs.Build.{capacity}
use Rattle.network_file.specs.File.{file_count, file_root, cell_number}
use Rattle.network_file.specs.Read.{read_answer, read_state, clears_checked, read_outcome, read_values, read_care, read_work, read_roots}
use Rattle.network_file.specs.Read.{read_cells, Given}
use Rattle.network_file.specs.Inner.Checked.{Readable}
use Rattle.network_file.proofs.WorkLeft.{work-left}
use Rattle.network_file.proofs.Reading.Checked.{shape_of, passed, lent-file}
use Rattle.network_file.proofs.Reading.Copied.{outputs-fit, copied-over}
use Rattle.network_file.proofs.Reading.ReadAnswer.{success, work-long}
use Rattle.network_file.proofs.Reading.ReadTable.{values_of, care_of, given-file}

module _ (file values care work roots cells : List ℕ) where
  abbrev answered : Answer
  answered = read_answer file values care work roots cells

  -- what is promised of the outcome o and of the buffers at the end
  abbrev pub Ended : Outcome → List ℕ → List ℕ → List ℕ → List ℕ → List ℕ → Type 0
  Ended o v k w r c =
      (o ≡ read_outcome file values care work roots cells)
      × ((v ≡ read_values file values care work roots cells)
      × ((k ≡ read_care file values care work roots cells)
      × ((w ≡ read_work file values care work roots cells)
      × ((r ≡ read_roots file values care work roots cells)
      × ((c ≡ read_cells file values care work roots cells)
      × IfOk o (λ d. Given d.state v k (lent_diagram d.state.count d.state.m c r) (capacity c)))))))

  -- the work buffer, cleared by the answer
  module _ (x : Answer) (e : x ≡ read_answer file values care work roots cells) (w : List ℕ)
      (ew : w ≡ cond (clears_checked x) (cleared_work work) work) where
    work-after : w ≡ read_work file values care work roots cells
    unfolding read_work
    work-after = work-left x answered work w e (work-long file values care work roots cells) ew

    pub refusal : (y : Refusal) → x ≡ Err y → Ended (Err y) values care w roots cells
    unfolding read_outcome read_values read_care read_roots read_cells
    refusal y d =
        let f : answered ≡ Err y = sym e ∙ d in
        (rw f, (rw f, (rw f, (work-after, (rw f, (rw f, tt))))))

    module _ (u : ℕ) (d : x ≡ Ok u) where
      pub readable : Readable file values care roots cells
      readable = success file values care work roots cells (ap done (sym e ∙ d))

      pub reading : (after : State) (v k r c : List ℕ) → after ≡ read_state file → v ≡ values_of file values → k ≡ care_of file care
          → r ≡ over (file_root file) roots_size roots → c ≡ over (cell_number file) (3 * file_count file) cells
          → Ended (Ok (record { value = u; state = after })) v k w r c
      unfolding read_outcome read_values read_care read_roots read_cells
      reading after v k r c ea ev ek er ec =
          let f : answered ≡ Ok u = sym e ∙ d in
          let y = readable in
          let a = shape_of file y.accepted in
          let copy = copied-over file (outputs-fit file a) cells roots c r y.cells-room y.roots-room ec er in
          let l : lent_diagram (file_count file) (read_state file).m c r ≡ _ =
          lent-file file a c r copy in
          let g : Given (read_state file) v k (lent_diagram (file_count file) (read_state file).m c r) (capacity c) =
          rw (ev, ek, l) (given-file file a (passed file y.checked) values care (capacity c) copy.enough-cells) in (
            rw f (ap (λ (z : State). Ok (record { value = u; state = z })) ea),
            (
              rw f ev,
              (
                rw f ek,
                (
                  work-after,
                  (
                    rw f er,
                    (
                      rw f ec,
                      subst (λ (z : State). Given z v k (lent_diagram z.count z.m c r) (capacity c)) (sym ea) g,
                    ),
                  ),
                ),
              ),
            ),
          )
