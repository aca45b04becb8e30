-- The invariant: the first j bytes of values and of care are merged, the others as they were. Assumes nothing.
use Rattle.std.proofs.Common.{◌≡◌, ◌+◌, get_or, bit_or}
use Rattle.lists.specs.Written.{over}
use Rattle.matching.specs.Bytes.{merge_byte}
use Rattle.matching.proofs.part.merge.Given as goal

abbrev pub invariant-loop-j : goal.invariant-loop-j
invariant-loop-j l =
    (l.values ≡ over (λ j. merge_byte l.fn.i (get_or l.fn.f j 0) (get_or l.fn.f (l.fn.w + j) 0) (get_or l.fn.g j 0)) l.j l.initial.values)
    × (l.care ≡ over (λ j. bit_or (get_or l.fn.f (l.fn.w + j) 0) (get_or l.fn.g (l.fn.w + j) 0)) l.j l.initial.care)
