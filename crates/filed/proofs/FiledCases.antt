-- A network file written, or a refusal, by what the writer and the build answer.
-- Assumes nothing.
use Rattle.std.specs.Prelude.{Ok, Err, is_ok}
use mathlib.Core.Path.{◌≡◌, refl, sym, ap, ◌∙◌, subst}
use mathlib.Core.Bool.{true, false, true≢false}
use mathlib.Core.List.{List, ◌++◌}
use Prim.Native.Nat.{ℕ, suc, ◌+◌, ◌*◌, ◌-◌, ◌/◌, ◌≤◌, ◌<◌, min}
use native.Mathlib.Omega.{arith}
use lib.ListN.{length, drop}
use Rattle.diagram.specs.Networks.Bound.{most_nodes}
use Rattle.block.specs.Block.{block_size}
use Rattle.table.specs.Answer.{Answer}
use Rattle.table.specs.declared.Refusal.{Refusal}
use Rattle.table.specs.declared.Done.{Done}
use Rattle.table.specs.declared.State.{State}
use Rattle.table.specs.Answer.{Outcome, done, answer_of}
use Rattle.network_file.specs.File.{block_cells, cell_blocks}
use Rattle.network_file.specs.Write.{write_answer, write_work, written_file}
use Rattle.network_file.proofs.Writing.WriteCall.{network-passed, file-fits}
use Rattle.text.specs.Written.{Written}
use Rattle.text.proofs.Writing.{written_as}
use Rattle.printed.specs.Built.{refused_line, Whole}
use Rattle.printed.specs.BuiltInput.{built_outcome, built_work, built_roots, built_cells}
use Rattle.printed.proofs.Texts.WholeTexts.{written-text}
use Rattle.filed.specs.NetworkFile.{network_file_size, network_file_bytes}
use Rattle.filed.specs.Inner.Filed.{held_file, outcome_file, outcome_work, filed_text, filed_work}
use Rattle.filed.proofs.FileBytes.{file-length}

-- the blocks of so many cells, by whether there can be more

pub blocks-few : (count : ℕ) → count ≤ most_nodes → (count + (block_cells - 1)) / block_cells + 1 ≡ suc (cell_blocks (min count most_nodes))
unfolding cell_blocks
blocks-few count h = let e : min count most_nodes ≡ count = omega arith in rw e (omega arith)

pub blocks-most : (count : ℕ) → most_nodes < count → 27 ≡ suc (cell_blocks (min count most_nodes))
unfolding cell_blocks
blocks-most count h = let e : min count most_nodes ≡ most_nodes = omega arith in rw e

pub blocks-small : (count : ℕ) → suc (cell_blocks (min count most_nodes)) ≤ 27
unfolding cell_blocks
blocks-small count = omega arith

-- a held network
module _ (s : State) (roots cells work out : List ℕ) where
  -- what a success says: the count is no more than the most, and the file has room
  module _ (d : done (write_answer s roots cells work out) ≡ true) where
    few : s.count ≤ most_nodes
    few = (network-passed s roots cells work out d).few

    room : network_file_size s.count ≤ length out
    room = file-fits s roots cells work out d

    file-size : (b : ℕ) → b ≡ suc (cell_blocks (min s.count most_nodes)) → block_size * b ≡ network_file_size s.count
    file-size b e =
        let f : min s.count most_nodes ≡ s.count = omega (arith, few) in
        ap (λ x. block_size * x) (e ∙ ap (λ x. suc (cell_blocks x)) f)

    pub written-file : (after : List ℕ) (b : ℕ) → after ≡ written_file s roots cells work out
        → b ≡ suc (cell_blocks (min s.count most_nodes)) → Written out after 0 (block_size * b) (held_file s roots cells work out)
    unfolding held_file written_file network_file_bytes
    written-file after b e q =
        let t = network_file_bytes s roots cells in
        let l = file-length s roots cells in
        let fits : length t ≤ length out = omega (arith, l, room) in
        let after_is = rw d at e in
        let whole : Whole out after (block_size * b) t =
        record { end = file-size b q ∙ sym l; content = after_is ∙ ap (λ j. t ++ drop j out) (sym l) } in
        written_as (rw d refl) (written-text out t fits whole)

  pub written-unfiled : (a : Answer) (before after : List ℕ) (behind : ℕ) → a ≡ write_answer s roots cells work out → done a ≡ false
      → before ≡ written_file s roots cells work out → Written before after 0 behind (refused_line a)
      → Written out after 0 behind (held_file s roots cells work out)
  unfolding held_file written_file
  written-unfiled a before after behind e d p w =
      let f : done (write_answer s roots cells work out) ≡ false = ap done (sym e) ∙ d in
      let same : before ≡ out = rw f at p in
      written_as (ap refused_line e ∙ rw f refl) (subst (λ (l : List ℕ). Written l after 0 behind (refused_line a)) same w)

-- an outcome's
module _ (o : Outcome) (roots cells work out : List ℕ) where
  -- what is written, and the work buffer
  abbrev pub Filed : List ℕ → ℕ → List ℕ → Type 0
  Filed after behind work' =
      Written out after 0 behind (outcome_file o roots cells work out) × (work' ≡ outcome_work o roots cells work out)

  pub filed-unbuilt : {after : List ℕ} {behind : ℕ} (x : Refusal) → o ≡ Err x → Written out after 0 behind (refused_line (Err x))
      → Filed after behind work
  unfolding outcome_file outcome_work
  filed-unbuilt x d w = (written_as (rw d refl) w, rw d refl)

  pub filed-built : {after : List ℕ} {behind : ℕ} (work' : List ℕ) (r : Done) → o ≡ Ok r
      → Written out after 0 behind (held_file r.state roots cells work out) → work' ≡ write_work r.state roots cells work out
      → Filed after behind work'
  unfolding outcome_file outcome_work
  filed-built work' r d w e = (written_as (rw d refl) w, rw d e)

-- a refusal's line, and the work buffer as found
pub unbuilt-file : (o : Outcome) (roots cells work out : List ℕ) → is_ok o ≡ false
    → (outcome_file o roots cells work out ≡ refused_line (answer_of o)) × (outcome_work o roots cells work out ≡ work)
unfolding outcome_file outcome_work
unbuilt-file (Ok r) roots cells work out d = absurd (true≢false d)
unbuilt-file (Err x) roots cells work out d = (refl, refl)

-- of what an input leaves
module _ (file values care work roots cells out : List ℕ) (r : Outcome) (work' roots' cells' : List ℕ)
    (e : r ≡ built_outcome file values care work roots cells) (p : work' ≡ built_work file values care work roots cells)
    (q : roots' ≡ built_roots file values care work roots cells) (t : cells' ≡ built_cells file values care work roots cells) where
  pub filed-of : outcome_file r roots' cells' work' out ≡ filed_text file values care work roots cells out
  unfolding filed_text
  filed-of = λ k. outcome_file (e k) (q k) (t k) (p k) out

  pub filed-work-of : outcome_work r roots' cells' work' out ≡ filed_work file values care work roots cells out
  unfolding filed_work
  filed-work-of = λ k. outcome_work (e k) (q k) (t k) (p k) out
