-- Trees with their rows shuffled, all alike: the filling's tests and its merge never look at where a row stands, so a level of shuffled
-- candidates has the entries shuffled, and the same links.
-- Assumes nothing.
use mathlib.Core.Path.{◌≡◌, refl, ap, ap₂, ◌∙◌}
use mathlib.Core.Bool.{Bool, true, false, ◌&&◌}
use mathlib.Core.List.{List, [], ◌∷◌, map}
use Prim.Native.Nat.{ℕ, suc}
use Rattle.lists.proofs.Bools.{split}
use Rattle.diagram.specs.Tree.{Tree, node, half}
use Rattle.diagram.specs.Filling.Fill.{Row, always, agree, merge, Linked, Level, after, along, candidate, then, level, unites}
use Rattle.diagram.proofs.Filling.Evened.{next_of}

-- σ shuffles rows: it changes no test, and shuffled trees merge to the merge, shuffled
pub record Shuffle {d : ℕ} (σ : Tree Row d → Tree Row d) : Type 0 where
  pub always-same : (v : Bool) (f : Tree Row d) → always v (σ f) ≡ always v f
  pub agree_same : (i : Bool) (f g : Tree Row d) → agree i (σ f) (σ g) ≡ agree i f g
  pub merge-shuffled : (i : Bool) (f g : Tree Row d) → merge i (σ f) (σ g) ≡ σ (merge i f g)

-- with σ of each entry
abbrev linked_shuffled : {d : ℕ} → (Tree Row d → Tree Row d) → Linked d → Linked d
linked_shuffled σ p = record { entries = map σ p.entries; link = p.link }

abbrev pub level_shuffled : {d : ℕ} → (Tree Row d → Tree Row d) → Level d → Level d
level_shuffled σ l = record { entries = map σ l.entries; links = l.links }

module _ {d : ℕ} {σ : Tree Row d → Tree Row d} (S : Shuffle σ) (inv : Bool) where
  along-shuffled : (k : ℕ) (f : Tree Row d) (gs : List (Tree Row d)) → along inv k (σ f) (map σ gs) ≡ linked_shuffled σ (along inv k f gs)
  along-shuffled k f [] = refl
  along-shuffled k f (g ∷ gs) =
      rw (S.agree_same false f g, S.agree_same true f g, S.merge-shuffled false f g, S.merge-shuffled true f g)
      (split (agree false f g) (λ e. rw e)
      (λ e. rw e (split (inv && agree true f g) (λ q. rw q) (λ q. rw q (ap (after (σ g)) (along-shuffled (suc k) f gs))))))

  candidate-shuffled : (f : Tree Row d) (gs : List (Tree Row d)) → candidate inv (σ f) (map σ gs) ≡ linked_shuffled σ (candidate inv f gs)
  candidate-shuffled f gs =
      rw (S.always-same false f, S.always-same true f)
      (split (always false f) (λ e. rw e) (λ e. rw e (split (always true f) (λ q. rw q) (λ q. rw q (along-shuffled 0 f gs)))))

  pub level-shuffled : (gs fs : List (Tree Row d)) → level inv (map σ gs) (map σ fs) ≡ level_shuffled σ (level inv gs fs)
  level-shuffled gs [] = refl
  level-shuffled gs (f ∷ fs) =
      ap (λ p. then p.link (level inv p.entries (map σ fs))) (candidate-shuffled f gs)
      ∙ ap (then (candidate inv f gs).link) (level-shuffled (candidate inv f gs).entries fs)

-- each half shuffled by itself
abbrev pub underneath : {A : Type 0} {d : ℕ} → (Tree A d → Tree A d) → Tree A (suc d) → Tree A (suc d)
underneath σ t = node (σ (half false t)) (σ (half true t))

pub shuffle-underneath : {d : ℕ} {σ : Tree Row d → Tree Row d} → Shuffle σ → Shuffle (underneath σ)
shuffle-underneath {d} {σ} S = record { always-same = tests; agree_same = compares; merge-shuffled = merges }
  where
    tests : (v : Bool) (f : Tree Row (suc d)) → always v (underneath σ f) ≡ always v f
    tests v (node l h) = ap₂ ◌&&◌ (S.always-same v l) (S.always-same v h)

    compares : (i : Bool) (f g : Tree Row (suc d)) → agree i (underneath σ f) (underneath σ g) ≡ agree i f g
    compares i (node l h) (node l' h') = ap₂ ◌&&◌ (S.agree_same i l l') (S.agree_same i h h')

    merges : (i : Bool) (f g : Tree Row (suc d)) → merge i (underneath σ f) (underneath σ g) ≡ underneath σ (merge i f g)
    merges i (node l h) (node l' h') = ap₂ node (S.merge-shuffled i l l') (S.merge-shuffled i h h')

pub shuffle-then : {d : ℕ} {σ τ : Tree Row d → Tree Row d} → Shuffle σ → Shuffle τ → Shuffle (λ t. τ (σ t))
shuffle-then {σ = σ} {τ = τ} S R = record {
  always-same = λ v f. R.always-same v (σ f) ∙ S.always-same v f;
  agree_same = λ i f g. R.agree_same i (σ f) (σ g) ∙ S.agree_same i f g;
  merge-shuffled = λ i f g. R.merge-shuffled i (σ f) (σ g) ∙ ap τ (S.merge-shuffled i f g);
}

-- the next level's candidates under such entries
pub next-shuffled : {d : ℕ} {σ : Tree Row d → Tree Row d} → Shuffle σ → (es : List (Tree Row (suc d)))
    → next_of (map (underneath σ) es) ≡ map σ (next_of es)
next-shuffled S [] = refl
next-shuffled S (e ∷ es) =
    rw (S.agree_same false (half true e) (half false e), S.merge-shuffled false (half true e) (half false e), next-shuffled S es)
    (split (unites e) (λ u. rw u) (λ u. rw u))
