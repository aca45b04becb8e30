-- `canonical::reduced::reduced` meets its contract: the nodes before node i are reduced and new, and their slots are marked.
-- Assumes nothing.
use Rattle.std.proofs.Common.{◌≡◌, true}
use Rattle.lists.specs.Lists.{all, up_to}
use Rattle.canonical.specs.Inner.Reduced.{is_new, Slotted}
use Rattle.canonical.proofs.Nodes.{reduced_at}
use Rattle.canonical.proofs.reduced.reduced.Given as goal

abbrev pub invariant-loop-i : goal.invariant-loop-i
invariant-loop-i l = record {
  edges : all (reduced_at l.cells) (up_to l.i) ≡ true;
  apart : all (is_new l.cells) (up_to l.i) ≡ true;
  marked : Slotted l.cells l.i l.marks;
}
