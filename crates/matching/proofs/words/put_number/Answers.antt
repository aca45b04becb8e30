-- One byte more. Assumes nothing.
use Rattle.std.proofs.Common.{sym, ap₂, ◌∙◌, List, ℕ, length, arith}
use lib.ListN.{set}
use Rattle.lists.proofs.Written.Paste.{paste_more}
use Rattle.matching.specs.Inner.Words.{bytes_of, length-bytes_of}
use Rattle.matching.proofs.Wordwise.Bytes.{rest-byte, rest_more}
use Rattle.matching.proofs.words.put_number.Goals as goal

pub loop-byte-preserved : goal.loop-byte-preserved
loop-byte-preserved c =
    let b = c.args.bytes.now in
    let l = c.loop-byte in
    let i = l.byte-index in
    let w = length b in
    let h = c.loop-byte-test.true in (
      ap₂ (λ (m : List ℕ) (n : ℕ). set m i n) l.invariant.0 (sym (rest-byte w c.args.x i l.rest h l.invariant.1))
          ∙ paste_more (bytes_of w c.args.x) b i (omega (arith, length-bytes_of w c.args.x)) h,
      rest_more w c.args.x i l.rest h l.invariant.1,
    )
