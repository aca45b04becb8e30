-- Both words of the part are read, merged and stored. Assumes nothing.
use Rattle.std.proofs.Common.{◌≡◌, ap, ap₂, ◌∙◌, List, ℕ, ◌++◌, length, bit_or, arith}
use Rattle.matching.specs.Inner.Words.{number_of, bytes_of}
use Rattle.matching.proofs.Linking.NarrowEntry.{words-merged}
use Rattle.matching.proofs.narrow.NarrowCandidate.merge_into.Goals as goal

pub returns : goal.returns
returns c =
    let s = c.args.self.now in
    let cut = c.split_at_mut-values.ensures in
    let back : length c.split_at_mut-values.result.1.now ≡ s.w = omega (arith, cut.back_len, c.requires) in
    ap₂ (λ (x y : List ℕ). x ++ y)
    (c.put_number.ensures ∙ ap₂ bytes_of cut.front_len c.merge_word.ensures)
    (c.put_number-2.ensures ∙ ap (λ n. bytes_of n (bit_or s.care c.number-2.result)) back)
    ∙ words-merged s.w s.values s.care c.args.inverted c.args.entry.now (λ i. (c.slice_known-1.given i).fits) c.requires c.number.result
    c.number-2.result (c.number.ensures ∙ ap number_of cut.front) (c.number-2.ensures ∙ ap number_of cut.back)
