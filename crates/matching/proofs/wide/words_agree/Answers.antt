-- Each word is gathered. Assumes nothing.
use Rattle.std.proofs.Common.{◌≡◌, sym, ap, ap₂, ◌∙◌, Bool, true, false, ℕ, ◌+◌, ◌*◌, take, bit_and, arith}
use borrow.Author.Tests.{eq-eqb, ne_eqb}
use lib.Bits.{bit_xor}
use lib.Dec.{eqb}
use Rattle.lists.specs.Lists.{all, up_to}
use Rattle.matching.specs.Parts.{agree_part}
use Rattle.matching.proofs.Linking.First.{plain-first, inverted-first, agreement-met, agreement-missed}
use Rattle.matching.proofs.Wordwise.WholeWords.{byte_test, gathered, plain-words, inverted-words}
use Rattle.matching.proofs.wide.words_agree.Goals as goal
use Rattle.matching.proofs.wide.words_agree.Goals.{After-loop-i}

pub loop-i-preserved : goal.loop-i-preserved
loop-i-preserved c =
    let l = c.loop-i in
    let a = c.args in
    let f = a.f.now in
    let g = take (a.w + a.w) a.entry.now in
    let both = bit_and c.word_at.result c.word_at-in-loop-i.result in
    let differ = bit_and (bit_xor c.word_at-in-loop-i-2.result c.word_at-in-loop-i-3.result) both in
    let is_b = ap₂ bit_and c.word_at.ensures c.word_at-in-loop-i.ensures in
    let is-d = ap₂ (λ (x y : ℕ). bit_and (bit_xor x y) both) c.word_at-in-loop-i-2.ensures c.word_at-in-loop-i-3.ensures in
    let more : (l.i + 1) * 8 ≡ l.i * 8 + 8 = omega arith in
    let next : (i : Bool) (x : ℕ) → eqb x 0 ≡ all (byte_test i a.w f g) (up_to (l.i * 8 + 8))
    → eqb x 0 ≡ all (byte_test i a.w f g) (up_to ((l.i + 1) * 8)) =
    λ i x t. t ∙ ap (λ (n : ℕ). all (byte_test i a.w f g) (up_to n)) (sym more) in
    let turn = gathered a.w f a.entry.now (l.i * 8) (λ n. (c.type_inv.f n).fits) (λ n. (c.type_inv.entry n).fits) c.requires.f_len
    c.requires.entry_len (omega arith) in (
      next false _ (turn false l.plain differ l.invariant.0 (plain-words _ _ _ _ differ both is-d is_b)),
      next true _ (turn true l.inverted (bit_xor differ both) l.invariant.1 (inverted-words _ _ _ _ differ both is-d is_b)),
    )

-- the tests of all bytes
tested : (i : Bool) (c : After-loop-i)
    → let a = c.args in
    all (byte_test i a.w a.f.now (take (a.w + a.w) a.entry.now)) (up_to (c.loop-i.i * 8)) ≡ agree_part i a.w a.f.now (take (a.w + a.w) a.entry.now)
unfolding agree_part
tested i c =
    let a = c.args in
    let e : c.loop-i.i * 8 ≡ a.w = omega (arith, c.requires.whole_words) in
    ap (λ (n : ℕ). all (byte_test i a.w a.f.now (take (a.w + a.w) a.entry.now)) (up_to n)) e

plain : (c : After-loop-i)
    → agree_part false c.args.w c.args.f.now (take (c.args.w + c.args.w) c.args.entry.now) ≡ eqb c.loop-i.plain 0
plain c = sym (c.loop-i.invariant.0 ∙ tested false c)

inverted : (c : After-loop-i)
    → agree_part true c.args.w c.args.f.now (take (c.args.w + c.args.w) c.args.entry.now) ≡ eqb c.loop-i.inverted 0
inverted c = sym (c.loop-i.invariant.1 ∙ tested true c)

pub returns-then-plain-eq0 : goal.returns-then-plain-eq0
returns-then-plain-eq0 c =
    let p = (goal.at.returns-then-plain-eq0 c).After-loop-i in
    agreement-met _ _ _ false (plain-first _ _ _ (plain p ∙ eq-eqb _ 0 c.if-plain-eq0.true))

pub returns-then-inverted-eq0 : goal.returns-then-inverted-eq0
returns-then-inverted-eq0 c =
    let p = (goal.at.returns-then-inverted-eq0 c).After-loop-i in
    agreement-met _ _ _ true
    (inverted-first _ _ _ (plain p ∙ ne_eqb _ 0 c.if-plain-eq0.false) (inverted p ∙ eq-eqb _ 0 c.if-inverted-eq0.true))

pub returns-else-inverted-eq0 : goal.returns-else-inverted-eq0
returns-else-inverted-eq0 c =
    let p = (goal.at.returns-else-inverted-eq0 c).After-loop-i in
    agreement-missed _ _ _ (plain p ∙ ne_eqb _ 0 c.if-plain-eq0.false) (inverted p ∙ ne_eqb _ 0 c.if-inverted-eq0.false)
