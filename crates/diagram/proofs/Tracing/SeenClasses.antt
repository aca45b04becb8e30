-- The classes of a list of segments are those of the functions seen first that depend on the top variable.
-- Assumes nothing.
use mathlib.Core.Path.{◌≡◌, refl, sym, ap, ◌∙◌}
use mathlib.Core.Bool.{Bool, true, false}
use mathlib.Core.List.{List, [], ◌∷◌, map}
use Prim.Native.Nat.{ℕ, suc}
use lib.Dec.{T}
use Rattle.lists.specs.Lists.{all, keep, has, firsts}
use Rattle.lists.proofs.Bools.{split, to-T, absurd-T, and_T}
use Rattle.lists.proofs.Lists.Membership.{all-has, firsts-has}
use Rattle.lists.proofs.Lists.Less.{keep_all, less, less-more, less-again, less_other}
use Rattle.diagram.specs.Tree.{Tree, same}
use Rattle.diagram.specs.Networks.Network.{depends, normal, classes}
use Rattle.diagram.proofs.Tree.{same-equality, depends-normal, varies}
use Rattle.diagram.proofs.Tracing.FirstSeen.{steady-depends, is_new, fresh}

module _ {d : ℕ} (inv : Bool) where
  -- the classes of the functions that depend
  abbrev pub listed : List (Tree Bool (suc d)) → List (Tree Bool (suc d))
  listed ts = map (normal inv) (keep depends ts)

  listed-depends : (ts : List (Tree Bool (suc d))) → T (all depends (listed ts))
  listed-depends [] = tt
  listed-depends (t ∷ ts) =
      split (depends t)
      (λ e. rw e (and_T (depends (normal inv t)) (all depends (listed ts)) (to-T (depends-normal inv t ∙ e)) (listed-depends ts)))
      (λ e. rw e (listed-depends ts))

  -- a function that doesn't depend has no class there
  unlisted : (t : Tree Bool (suc d)) (ts : List (Tree Bool (suc d))) → depends t ≡ false
      → has same (normal inv t) (firsts same (listed ts)) ≡ false
  unlisted t ts e =
      split (has same (normal inv t) (firsts same (listed ts)))
      (λ h. absurd-T
      (all-has same same-equality depends (listed ts) (listed-depends ts) (normal inv t)
      (firsts-has same same-equality (normal inv t) (listed ts) (to-T h)))
      (depends-normal inv t ∙ e))
      (λ h. h)

  depends-varies : (t : Tree Bool (suc d)) → depends t ≡ true → varies t ≡ true
  depends-varies t e = split (varies t) (λ v. v) (λ v. absurd-T (to-T e) (steady-depends t v))

  -- A function that depends is listed once, by its first; one that doesn't has a class that isn't listed.
  listed-fresh : (gs ts : List (Tree Bool (suc d))) → less same gs (firsts same (listed ts)) ≡ listed (fresh inv gs ts)
  listed-fresh gs [] = refl
  listed-fresh gs (t ∷ ts) =
      let n = normal inv t in
      let F = firsts same (listed ts) in
      split (depends t)
      (λ e. let v = depends-varies t e in
      split (has same n gs)
      (λ q. rw (v, e, q) (less-more same same-equality n gs F ∙ less-again same same-equality n gs F (to-T q) ∙ listed-fresh gs ts))
      (λ q. rw (v, e, q, e) (ap (λ (l : List (Tree Bool (suc d))). n ∷ l)
      (less-more same same-equality n gs F ∙ listed-fresh (n ∷ gs) ts))))
      (λ e. split (is_new inv gs t)
      (λ q. rw (e, q, e) (sym (less_other same same-equality n gs F (unlisted t ts e)) ∙ listed-fresh (n ∷ gs) ts))
      (λ q. rw (e, q) (listed-fresh gs ts)))

  pub classes-fresh : (ts : List (Tree Bool (suc d))) → classes inv ts ≡ listed (fresh inv [] ts)
  unfolding classes
  classes-fresh ts = sym (keep_all (firsts same (listed ts))) ∙ listed-fresh [] ts
