-- A read puts its bytes behind what was read before it: what both gave stands at the front.
-- Assumes nothing.
use Rattle.std.proofs.Common.{◌≡◌, ℕ, ◌+◌, ◌≤◌, List, ◌++◌, length, take, sym, ap, subst, ◌∙◌, rules, length-take-le}
use Rattle.std.proofs.lemmas.List.{take-append-le, places}
use Rattle.std.proofs.Math.Seq.{take-append-add}
use Rattle.std.specs.Io.KnownBytes.{Consumes}
use Rattle.std.proofs.KnownBytes.{Consumes-trans}
use Rattle.input.proofs.read_full.Goals as goal

take-joined : (f n : ℕ) (xs ys rest : List ℕ) → f ≤ length xs → n ≤ length ys
    → take (f + n) (take f xs ++ (ys ++ rest)) ≡ take f xs ++ take n ys
take-joined f n xs ys rest within fits =
    ap (λ k. take (k + n) (take f xs ++ (ys ++ rest))) (sym (length-take-le f xs within)) ∙ take-append-add (take f xs) (ys ++ rest) n
    ∙ ap (λ l. take f xs ++ l) (take-append-le n ys rest fits)

pub loop-filled-preserved : goal.loop-filled-preserved
loop-filled-preserved g c =
    let read = c.in_ok-count.ensures in
    let before = c.loop-filled.invariant in
    let joined = take-joined _ _ c.loop-filled.buf c.read_once.new.buf _ before.0 read.within.0 in
    (search (rules, places), subst (Consumes _ _) (sym joined) (Consumes-trans _ _ _ _ _ before.1 read.bytes.0))
