-- What reading and building an input leaves, by whether the input is read.
-- Assumes nothing.
use Rattle.std.specs.Prelude.{Ok, Err}
use mathlib.Core.Path.{◌≡◌, refl, ◌∙◌}
use mathlib.Core.List.{List}
use Prim.Native.Nat.{ℕ}
use Rattle.table.specs.declared.Refusal.{Refusal}
use Rattle.table.specs.declared.Done.{Done}
use Rattle.table.specs.Answer.{Outcome}
use Rattle.network.specs.Build.{build_outcome, build_roots, build_cells, build_work}
use Rattle.printed.specs.Input.{input_values, input_care}
use Rattle.printed.specs.BuiltInput.{read, built_outcome, built_work, built_roots, built_cells}
use Rattle.printed.proofs.Inputs.LoadedInput.{read-state}

-- the outcome, and the contents of the buffers
abbrev pub BuiltInput : (file values care work roots cells : List ℕ) (r : Outcome) (values' care' work' roots' cells' : List ℕ) → Type 0
BuiltInput file values care work roots cells r values' care' work' roots' cells' =
    (r ≡ built_outcome file values care work roots cells)
    × ((values' ≡ input_values file values care) × ((care' ≡ input_care file values care)
    × ((work' ≡ built_work file values care work roots cells) × ((roots' ≡ built_roots file values care work roots cells)
    × (cells' ≡ built_cells file values care work roots cells)))))

-- by what the load answers
module _ (file values care work roots cells : List ℕ) (v c : List ℕ)
    (g : v ≡ input_values file values care) (h : c ≡ input_care file values care) where
  -- a refusal
  pub unread : (x : Refusal) → read file values care ≡ Err x → BuiltInput file values care work roots cells (Err x) v c work roots cells
  unfolding built_outcome built_work built_roots built_cells
  unread x e = (rw e, (g, (h, (rw e refl, (rw e refl, rw e refl)))))

  -- a table that is built, or refused by the build
  pub built : (r : Done) → read file values care ≡ Ok r → (o : Outcome) (w' r' c' : List ℕ)
      → o ≡ build_outcome r.state v c work roots cells → w' ≡ build_work r.state v c work roots cells → r' ≡ build_roots r.state v c work roots cells
      → c' ≡ build_cells r.state v c work roots cells → BuiltInput file values care work roots cells o v c w' r' c'
  unfolding built_outcome built_work built_roots built_cells
  built r e o w' r' c' p a b d =
      let s = read-state file values care r e in (
        rw e (p ∙ (λ k. build_outcome (s k) (g k) (h k) work roots cells)),
        (
          g,
          (
            h,
            (
              rw e (a ∙ (λ k. build_work (s k) (g k) (h k) work roots cells)),
              (
                rw e (b ∙ (λ k. build_roots (s k) (g k) (h k) work roots cells)),
                rw e (d ∙ (λ k. build_cells (s k) (g k) (h k) work roots cells)),
              ),
            ),
          ),
        ),
      )
