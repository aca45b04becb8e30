-- `yavdocsil::state::write_words` meets its contract. The loop's invariant: the first i numbers are written.
-- Assumes nothing.
use mathlib.Core.Path.{◌≡◌}
use Prim.Native.Nat.{◌-◌, ◌≤◌}
use lib.ListN.{length}
use lib.Seq.{paste}
use Rattle.yavdocsil.proofs.state.write_words.Given as goal

abbrev pub invariant-loop-i : goal.invariant-loop-i
invariant-loop-i l = (l.i ≤ length l.numbers) × (l.words ≡ paste l.initial.words l.at l.numbers l.i)
