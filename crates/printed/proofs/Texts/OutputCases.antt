-- The printing program's output, by whether the table is built.
-- Assumes nothing.
use Rattle.std.specs.Prelude.{Ok, Err, is_ok}
use mathlib.Core.Path.{◌≡◌, refl, ap, ◌∙◌}
use mathlib.Core.Bool.{false, true≢false}
use mathlib.Core.List.{List}
use Prim.Native.Nat.{ℕ}
use Rattle.table.specs.Answer.{Answer}
use Rattle.table.specs.declared.Refusal.{Refusal}
use Rattle.table.specs.declared.Done.{Done}
use Rattle.table.specs.declared.State.{State}
use Rattle.table.specs.Answer.{Outcome, number, value, answer_of}
use Rattle.table.specs.Calls.{cared_answer}
use Rattle.text.specs.Text.{line, network_text}
use Rattle.text.specs.Written.{Written}
use Rattle.text.proofs.Writing.{written_as}
use Rattle.printed.specs.Input.{input_care}
use Rattle.printed.specs.Built.{refused-keyword, refused_line}
use Rattle.printed.specs.BuiltInput.{built_outcome, built_roots, built_cells}
use Rattle.printed.specs.Inner.Printed.{outcome_text, printed_text}

pub written-refusal : {l m : List ℕ} {i j : ℕ} (a : Answer) (x : ℕ) → x ≡ number a → Written l m i j (line refused-keyword x)
    → Written l m i j (refused_line a)
unfolding refused_line
written-refusal a x e w = written_as (ap (line refused-keyword) e) w

pub cared-value : (s : State) (care : List ℕ) (a : Answer) (x : ℕ) → a ≡ cared_answer s care → x ≡ value a → x ≡ value (cared_answer s care)
cared-value s care a x e p = p ∙ ap value e

module _ (o : Outcome) (care roots cells : List ℕ) where
  pub written-unbuilt : {l m : List ℕ} {i j : ℕ} (x : Refusal) → o ≡ Err x → Written l m i j (refused_line (Err x))
      → Written l m i j (outcome_text o care roots cells)
  unfolding outcome_text
  written-unbuilt x e w = written_as (rw e refl) w

  pub written-built : {l m : List ℕ} {i j : ℕ} (r : Done) → o ≡ Ok r → (c : ℕ) → c ≡ value (cared_answer r.state care)
      → Written l m i j (network_text r.state c roots cells) → Written l m i j (outcome_text o care roots cells)
  unfolding outcome_text
  written-built r e c q w = written_as (rw (e, q)) w

-- a refusal's text is its line
pub unbuilt-text : (o : Outcome) (care roots cells : List ℕ) → is_ok o ≡ false
    → outcome_text o care roots cells ≡ refused_line (answer_of o)
unfolding outcome_text
unbuilt-text (Ok r) care roots cells d = absurd (true≢false d)
unbuilt-text (Err x) care roots cells d = refl

-- the text of what an input leaves
pub printed-of : (file values care work roots cells : List ℕ) (r : Outcome) (care' roots' cells' : List ℕ)
    → r ≡ built_outcome file values care work roots cells → care' ≡ input_care file values care
    → roots' ≡ built_roots file values care work roots cells → cells' ≡ built_cells file values care work roots cells
    → outcome_text r care' roots' cells' ≡ printed_text file values care work roots cells
unfolding printed_text
printed-of file values care work roots cells r care' roots' cells' e p q t = λ k. outcome_text (e k) (p k) (q k) (t k)
