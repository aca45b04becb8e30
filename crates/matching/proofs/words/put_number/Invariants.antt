-- The invariant: the bytes before the index are written, and rest has the others. Assumes nothing.
use Rattle.std.proofs.Common.{◌≡◌, ◌++◌, ◌-◌, length, take, drop}
use Rattle.matching.specs.Inner.Words.{bytes_of}
use Rattle.matching.proofs.words.put_number.Given as goal

abbrev pub invariant-loop-byte : goal.invariant-loop-byte
invariant-loop-byte l =
    (l.bytes ≡ take l.byte-index (bytes_of (length l.initial.bytes) l.x) ++ drop l.byte-index l.initial.bytes)
    × (drop l.byte-index (bytes_of (length l.initial.bytes) l.x) ≡ bytes_of (length l.initial.bytes - l.byte-index) l.rest)
