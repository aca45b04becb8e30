-- A text that stands whole in a buffer: it ends there, and a text that has room is written whole.
-- Assumes nothing.
use mathlib.Core.Path.{◌≡◌, sym, ap, ◌∙◌}
use mathlib.Core.List.{List, ◌++◌}
use Prim.Native.Nat.{ℕ, ◌+◌, ◌≤◌}
use native.Mathlib.Nat.{zero-add}
use native.Mathlib.Omega.{arith}
use lib.ListN.{length, drop}
use lib.Seq.{sets, sets-eq}
use Rattle.text.specs.Written.{Written}
use Rattle.printed.specs.Built.{Whole}

-- where a text has room, both say the same
module _ (before text : List ℕ) (h : length text ≤ length before) where
  stored : sets before 0 text ≡ text ++ drop (length text) before
  stored =
      let fits : 0 + length text ≤ length before = omega arith in
      sets-eq text before 0 fits ∙ ap (λ (j : ℕ). text ++ drop j before) (zero-add (length text))

  pub whole-text : {after : List ℕ} {behind : ℕ} → Written before after 0 behind text → Whole before after behind text
  whole-text w = record { end = omega (arith, w.offset); content = w.content ∙ stored }

  pub written-text : {after : List ℕ} {behind : ℕ} → Whole before after behind text → Written before after 0 behind text
  written-text w = record { content = w.content ∙ sym stored; offset = omega (arith, w.end) }
