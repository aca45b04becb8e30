use borrow.Author.Rules.{rules}
use mathlib.Core.Path.{◌≡◌, refl, ap, ◌∙◌}
use mathlib.Core.Bool.{Bool, false, not}
use Prim.Native.Nat.{ℕ, ◌+◌, ◌-◌}
use native.Mathlib.Omega.{arith}
use lib.ListN.{get_or, take, drop}
use Rattle.lists.specs.Lists.{keep, up_to}
use Rattle.diagram.proofs.Orders.Order.{index_below}
use Rattle.sift.specs.Inner.Choice.{nodes_at, overtaken}
use Rattle.sift.proofs.Passing.LeadingVariable.{leading, lead-none, lead-more, lead-all}
use Rattle.sift.proofs.choice.fullest.Goals as goal

pub loop-v-init : goal.loop-v-init
loop-v-init c =
    let a = c.args in
    (search rules, lead-none (nodes_at a.counts (take a.n a.order)) (λ w. get_or a.sifted w false) a.n _ refl)

pub offset_bounds-counts-level : goal.offset_bounds-counts-level
offset_bounds-counts-level c =
    let i = index_below c.args.n (take c.args.n c.args.order) c.requires.order (c.loop-v.v - 1) (omega arith) in
    omega (arith, c.level_of-level.ensures)

pub bounds-counts-level : goal.bounds-counts-level
bounds-counts-level c =
    let i = index_below c.args.n (take c.args.n c.args.order) c.requires.order (c.loop-v.v - 1) (omega arith) in
    omega (arith, c.level_of-level.ensures)

pub loop-v-preserved : goal.loop-v-preserved
loop-v-preserved c =
    let a = c.args in
    let l = c.loop-v in
    let u = l.v - 1 in
    let f = nodes_at a.counts (take a.n a.order) in
    let g : ℕ → Bool = λ w. get_or a.sifted w false in
    let back : l.v ≡ u + 1 = omega arith in (
      omega arith,
      lead-more f g a.n u (omega arith) l.lead c.overtake-lead.result
          (l.invariant.1 ∙ ap (λ (k : ℕ). leading f (keep (λ w. not (g w)) (drop k (up_to a.n)))) back)
          (c.overtake-lead.ensures ∙ ap (λ (k : ℕ). overtaken l.lead u (get_or a.counts k 0) (g u)) c.level_of-level.ensures),
    )
