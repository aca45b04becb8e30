-- An input that is too long, and one that is loaded.
-- Assumes nothing.
use Rattle.std.specs.Prelude.{Err}
use mathlib.Core.Path.{◌≡◌, refl}
use mathlib.Core.List.{List}
use Prim.Native.Nat.{ℕ, ◌≤◌, ◌<◌}
use borrow.Author.Tests.{lt-ltb, le-ltb}
use lib.ListN.{length}
use Rattle.table.specs.declared.Refusal.TheVariants.{BadLength}
use Rattle.table.specs.Answer.{Outcome}
use Rattle.table.specs.Calls.{load_outcome, load_values, load_care}
use Rattle.printed.specs.Input.{longest_input, input_outcome, input_values, input_care}

module _ (file values care : List ℕ) where
  module _ (h : longest_input < length file) where
    pub long-outcome : Err BadLength ≡ input_outcome file values care
    unfolding input_outcome
    long-outcome = rw (lt-ltb longest_input (length file) h) refl

    pub long-values : values ≡ input_values file values care
    unfolding input_values
    long-values = rw (lt-ltb longest_input (length file) h) refl

    pub long-care : care ≡ input_care file values care
    unfolding input_care
    long-care = rw (lt-ltb longest_input (length file) h) refl

  module _ (h : length file ≤ longest_input) where
    pub short-outcome : (r : Outcome) → r ≡ load_outcome file values care → r ≡ input_outcome file values care
    unfolding input_outcome
    short-outcome r e = rw (le-ltb longest_input (length file) h) e

    pub short-values : (l : List ℕ) → l ≡ load_values file values care → l ≡ input_values file values care
    unfolding input_values
    short-values l e = rw (le-ltb longest_input (length file) h) e

    pub short-care : (l : List ℕ) → l ≡ load_care file values care → l ≡ input_care file values care
    unfolding input_care
    short-care l e = rw (le-ltb longest_input (length file) h) e
