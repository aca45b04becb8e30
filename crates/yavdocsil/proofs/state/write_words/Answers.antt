use mathlib.Core.Path.{◌≡◌, ap, ◌∙◌}
use mathlib.Core.List.{List}
use Prim.Native.Nat.{ℕ, ◌+◌}
use native.Mathlib.Omega.{arith}
use native.Mathlib.Numerals.{add-one}
use lib.ListN.{length, get_or, set}
use lib.Seq.{paste, paste-zero, paste-suc, length-paste}
use Rattle.yavdocsil.proofs.state.write_words.Goals as goal

pub loop-i-init : goal.loop-i-init
loop-i-init c =
    let a = c.args in (omega arith, paste-zero a.words.now a.at a.numbers.now)

pub bounds-words-at : goal.bounds-words-at
bounds-words-at c =
    let l = c.loop-i in
    let a = c.args in
    omega (
      arith,
      ap length l.invariant.1,
      length-paste a.words.now a.at a.numbers.now l.i (omega arith) (omega arith),
    )

pub loop-i-preserved : goal.loop-i-preserved
loop-i-preserved c =
    let l = c.loop-i in
    let a = c.args in
    let x : ℕ = get_or a.numbers.now l.i 0 in (
      omega arith,
      rw (add-one l.i)
          (ap (λ (ws : List ℕ). set ws (a.at + l.i) x) l.invariant.1
          ∙ paste-suc a.words.now a.at a.numbers.now l.i 0 (omega arith) (omega arith)),
    )

pub shape_of-words : goal.shape_of-words
shape_of-words c =
    let l = c.loop-i in
    let a = c.args in
    ap length l.invariant.1 ∙ length-paste a.words.now a.at a.numbers.now l.i (omega arith) (omega arith)

pub returns : goal.returns
returns c =
    let l = c.loop-i in
    let a = c.args in
    let e : l.i ≡ length a.numbers.now = omega arith in
    l.invariant.1 ∙ ap (λ (k : ℕ). paste a.words.now a.at a.numbers.now k) e
