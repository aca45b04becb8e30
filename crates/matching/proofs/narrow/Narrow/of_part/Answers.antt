-- The words are those of the part. Assumes nothing.
use Rattle.std.proofs.Common.{◌≡◌, ap, ◌∙◌, ◌^◌, ◌<◌}
use Rattle.matching.specs.Inner.Words.{number_of, part_of}
use Rattle.matching.proofs.Linking.NarrowEntry.{own-words}
use Rattle.matching.proofs.narrow.Narrow.of_part.Goals as goal
use Rattle.matching.proofs.narrow.Narrow.of_part.Goals.{After-number-2}

words : (c : After-number-2)
    → (part_of c.args.w c.number.result c.number-2.result ≡ c.args.part.now) × (c.number-2.result < 256 ^ c.args.w)
words c =
    let a = c.args in
    let cut = c.split_at.ensures in
    own-words a.w c.number.result c.number-2.result a.part.now (λ i. (c.type_inv.part i).fits) c.requires.part_len
    (c.number.ensures ∙ ap number_of cut.front) (c.number-2.ensures ∙ ap number_of cut.back)

pub invariant_of-result : goal.invariant_of-result
invariant_of-result c =
    record {
      some_bytes = c.requires.some_bytes;
      one_word = c.requires.one_word;
      care_within = (words (goal.at.invariant_of-result c).After-number-2).1;
    }

pub returns-clause-part : goal.returns-clause-part
returns-clause-part c = (words (goal.at.returns-clause-part c).After-number-2).0
