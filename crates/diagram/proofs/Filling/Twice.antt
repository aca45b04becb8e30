-- The same candidate twice in a row is the same candidate once: placed again it gets the same link, and changes no entry.
-- Assumes nothing.
use mathlib.Core.Path.{◌≡◌, ap}
use mathlib.Core.Bool.{Bool, true, false, not, ◌&&◌, ◌||◌}
use mathlib.Core.List.{List, [], ◌∷◌}
use Prim.Native.Nat.{ℕ, suc}
use lib.Dec.{T}
use Rattle.lists.proofs.Bools.{split, of_T, to-T, absurd-T, and_T, and_l}
use Rattle.diagram.specs.Tree.{Tree}
use Rattle.diagram.specs.Filling.Fill.{Row, always, agree, merge, entry, Linked, after, along, candidate, then, level}
use Rattle.diagram.proofs.Filling.Merge.{Within, within-refl, merge-first, within-agree, within-merge, within-opposed}

abbrev linked : {d : ℕ} → List (Tree Row d) → ℕ → Bool → Linked d
linked es k i = record { entries = es; link = entry k i }

module _ (inv : Bool) {d : ℕ} (f : Tree Row d) (varied : always false f ≡ false) where
  -- an entry in which f's rows stand, inverted where i is true, is the one that f meets, compared so, and stays as it is
  meets : (i : Bool) → T (not i || inv) → (k : ℕ) (e : Tree Row d) (gs : List (Tree Row d)) → Within i f e
      → along inv k f (e ∷ gs) ≡ linked (e ∷ gs) k i
  meets false t k e gs w =
      let a : agree false f e ≡ true = of_T (within-agree false f e w) in
      rw (a, within-merge false f e w)
  meets true t k e gs w =
      let a : agree false f e ≡ false =
      split (agree false f e) (λ q. absurd-T (within-opposed false f e w (to-T q)) varied) (λ q. q) in
      let b : (inv && agree true f e) ≡ true = of_T (and_T inv (agree true f e) t (within-agree true f e w)) in
      rw (a, b, within-merge true f e w)

  -- f's rows stand in the entry that it met or made, and the entries before that one conflict with it as they did
  along-twice : (k : ℕ) (gs : List (Tree Row d)) → along inv k f (along inv k f gs).entries ≡ along inv k f gs
  along-twice k [] = meets false tt k f [] (within-refl f)
  along-twice k (g ∷ gs) =
      split (agree false f g) (λ e. rw e (meets false tt k (merge false f g) gs (merge-first false f g)))
      (λ e. rw e
      (split (inv && agree true f g)
      (λ q. rw q (meets true (and_l inv (agree true f g) (to-T q)) k (merge true f g) gs (merge-first true f g)))
      (λ q. rw q (rw (e, q) (ap (after g) (along-twice (suc k) gs))))))

pub candidate-twice : (inv : Bool) {d : ℕ} (f : Tree Row d) (gs : List (Tree Row d))
    → candidate inv f (candidate inv f gs).entries ≡ candidate inv f gs
candidate-twice inv f gs =
    split (always false f) (λ e. rw e)
    (λ e. rw e (split (always true f) (λ q. rw q) (λ q. rw q (along-twice inv f e 0 gs))))

pub level-twice : (inv : Bool) {d : ℕ} (gs : List (Tree Row d)) (f : Tree Row d) (fs : List (Tree Row d))
    → level inv gs (f ∷ f ∷ fs) ≡ then (candidate inv f gs).link (level inv gs (f ∷ fs))
level-twice inv gs f fs =
    ap (λ p. then (candidate inv f gs).link (then p.link (level inv p.entries fs))) (candidate-twice inv f gs)
