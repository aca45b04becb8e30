-- The invariant: x is the number of the first j bytes. Assumes nothing.
use Rattle.std.proofs.Common.{◌≡◌, take}
use Rattle.matching.specs.Inner.Words.{number_of}
use Rattle.matching.proofs.words.number.Given as goal

abbrev pub invariant-loop-j : goal.invariant-loop-j
invariant-loop-j l = l.x ≡ number_of (take l.j l.bytes)
