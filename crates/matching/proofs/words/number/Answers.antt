-- One byte more. Assumes nothing.
use Rattle.std.proofs.Common.{◌≡◌, ◌+◌, ◌*◌, ◌%◌, ◌^◌, ◌<◌, take, arith}
use Rattle.matching.specs.Inner.Words.{number_of}
use Rattle.matching.proofs.Wordwise.Bytes.{byte-more}
use Rattle.matching.proofs.words.number.Goals as goal
use Rattle.matching.proofs.words.number.Goals.{After-from}

more : (c : After-from)
    → (c.loop-j.x + c.from.result * 2 ^ (8 * c.loop-j.j) % 2 ^ 64 < 2 ^ 64)
    × (c.loop-j.x + c.from.result * 2 ^ (8 * c.loop-j.j) % 2 ^ 64 ≡ number_of (take (c.loop-j.j + 1) c.args.bytes.now))
more c =
    rw c.from.ensures
    (byte-more c.args.bytes.now c.loop-j.j c.loop-j.x (λ i. (c.type_inv.bytes i).fits) c.loop-j-test.true c.requires c.loop-j.invariant)

pub overflow_add-x : goal.overflow_add-x
overflow_add-x c = omega (arith, (more (goal.at.overflow_add-x c).After-from).0)

pub loop-j-preserved : goal.loop-j-preserved
loop-j-preserved c = (more (goal.at.loop-j-preserved c).After-from).1
