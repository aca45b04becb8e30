-- `text::put::put` meets its contract. Assumes nothing.
use Rattle.std.proofs.Common.{◌≡◌, ◌∙◌, ap, ap₂, List, ℕ, ◌++◌, ◌+◌, ◌-◌, take, drop, arith}
use Rattle.text.proofs.Writing.{written-copied}
use Rattle.text.proofs.put.put.Goals as goal

pub returns : goal.returns
returns c =
    let a = c.args in
    let n = c.min.result in
    let e : a.at + n - a.at ≡ n = omega arith in
    written-copied a.text.now n c.requires c.min.ensures
    (ap₂ (λ (part : List ℕ) (k : ℕ). take a.at a.out.now ++ (part ++ drop k (drop a.at a.out.now)))
    (c.copy_from_slice.ensures.after ∙ ap (λ (k : ℕ). take k a.text.now) e) e)
