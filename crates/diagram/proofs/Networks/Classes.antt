-- Laws of the classes of a level's segments: which functions are among them, that none stands twice, how many they are.
-- Assumes nothing.
use mathlib.Core.Path.{◌≡◌, sym, subst}
use mathlib.Core.Bool.{Bool}
use mathlib.Core.List.{List, map}
use Prim.Native.Nat.{ℕ, suc, ◌≤◌}
use native.Mathlib.Nat.{le_trans, le_of_eq}
use lib.Dec.{T}
use lib.ListN.{length, length-map}
use Rattle.lists.specs.Lists.{keep, has, distinct}
use Rattle.lists.proofs.Lists.Membership.{keep-length, has-keep, keep-has, has-firsts, firsts-has, distinct-firsts, firsts-length, has-map}
use Rattle.lists.proofs.Lists.Membership.{map-has}
use Rattle.diagram.specs.Tree.{Tree, same}
use Rattle.diagram.specs.Networks.Network.{depends, normal, classes}
use Rattle.diagram.proofs.Tree.{same-equality, depends-normal, normal-normal}

module _ {d : ℕ} (inv : Bool) (ts : List (Tree Bool (suc d))) where
  pub classes-distinct : T (distinct same (classes inv ts))
  unfolding classes
  classes-distinct = distinct-firsts same same-equality (map (normal inv) (keep depends ts))

  pub classes-length : length (classes inv ts) ≤ length ts
  unfolding classes
  classes-length =
      le_trans (firsts-length same same-equality (map (normal inv) (keep depends ts)))
      (le_trans (le_of_eq (length-map (keep depends ts) (normal inv))) (keep-length depends ts))

  -- a segment that depends on its top variable has its class there
  pub has-classes : (t : Tree Bool (suc d)) → T (has same t ts) → T (depends t) → T (has same (normal inv t) (classes inv ts))
  unfolding classes
  has-classes t h e =
      has-firsts same same-equality (normal inv t) (map (normal inv) (keep depends ts))
      (has-map same same-equality same same-equality (normal inv) t (keep depends ts) (has-keep same same-equality depends t ts h e))

  -- and a class is there for such a segment
  pub classes-has : (x : Tree Bool (suc d)) → T (has same x (classes inv ts))
      → (t : Tree Bool (suc d)) × T (has same t ts) × T (depends t) × (normal inv t ≡ x)
  unfolding classes
  classes-has x h =
      let r = map-has same same-equality same same-equality (normal inv) x (keep depends ts)
      (firsts-has same same-equality x (map (normal inv) (keep depends ts)) h) in
      let k = keep-has same same-equality depends r.0 ts r.1 in
      (r.0, k.0, k.1, r.2)

  pub classes-depend : (x : Tree Bool (suc d)) → T (has same x (classes inv ts)) → T (depends x)
  classes-depend x h =
      let r = classes-has x h in
      subst (λ y. T (depends y)) r.3 (subst T (sym (depends-normal inv r.0)) r.2)

  pub classes-normal : (x : Tree Bool (suc d)) → T (has same x (classes inv ts)) → normal inv x ≡ x
  classes-normal x h =
      let r = classes-has x h in
      subst (λ y. normal inv y ≡ y) r.3 (normal-normal inv r.0)
