-- What the nodes of a level are below it, and what the roots are to, one after the other in a list with marks.
-- Assumes nothing.
use mathlib.Core.Path.{◌≡◌, refl, sym, ap, ◌∙◌}
use mathlib.Core.Bool.{true}
use mathlib.Core.List.{List, [], ◌∷◌, ◌++◌, append-nil, append_assoc}
use Prim.Native.Nat.{ℕ, ◌+◌, ◌*◌, ◌-◌, ◌/◌, ◌≤◌, ◌<◌}
use borrow.Author.Tests.{eq-eqb, ne_eqb, lt-ltb, le-ltb}
use lib.Dec.{eqb}
use lib.ListN.{length, get_or, take}
use Rattle.lists.specs.Lists.{firsts}
use Rattle.lists.proofs.Bools.{split}
use Rattle.lists.proofs.Lists.Grown.{take_more}
use Rattle.diagram.specs.Canonical.Structure.{targets, all_targets}
use Rattle.canonical.specs.Inner.Walk.{arrived_all, stands_at, lent_spread}
use Rattle.canonical.proofs.Firsts.{firsts-append, arrived_all-append}

-- references

pub targets-none : (r : ℕ) → r < 2 → targets true r ≡ []
targets-none r h = rw (lt-ltb r 2 h)

pub targets-one : (r : ℕ) → 2 ≤ r → targets true r ≡ (r / 2 - 1) ∷ []
targets-one r h = rw (le-ltb r 2 h)

targets-append : (xs ys : List ℕ) → all_targets true (xs ++ ys) ≡ all_targets true xs ++ all_targets true ys
targets-append [] ys = refl
targets-append (x ∷ xs) ys =
    ap (λ (l : List ℕ). targets true x ++ l) (targets-append xs ys)
    ∙ sym (append_assoc (targets true x) (all_targets true xs) (all_targets true ys))

-- what has arrived after one turn more: ws are xs, and then js
turn : (ws xs js ks : List ℕ) → ws ≡ xs ++ js → ks ≡ firsts eqb xs → arrived_all ks js ≡ firsts eqb ws
turn ws xs js ks e f = ap (λ (l : List ℕ). arrived_all l js) f ∙ sym (firsts-append xs js) ∙ ap (firsts eqb) (sym e)

roots-next : (roots : List ℕ) (j r : ℕ) → j < length roots → r ≡ get_or roots j 0
    → all_targets true (take (j + 1) roots) ≡ all_targets true (take j roots) ++ targets true r
roots-next roots j r h e =
    ap (all_targets true) (take_more roots j h) ∙ targets-append (take j roots) (get_or roots j 0 ∷ [])
    ∙ ap (λ (l : List ℕ). all_targets true (take j roots) ++ l) (append-nil (targets true (get_or roots j 0)))
    ∙ ap (λ (x : ℕ). all_targets true (take j roots) ++ targets true x) (sym e)

pub roots-turn : (roots : List ℕ) (j r : ℕ) → j < length roots → r ≡ get_or roots j 0 → (ks : List ℕ)
    → ks ≡ firsts eqb (all_targets true (take j roots)) → arrived_all ks (targets true r) ≡ firsts eqb (all_targets true (take (j + 1) roots))
roots-turn roots j r h e ks f =
    turn (all_targets true (take (j + 1) roots)) (all_targets true (take j roots)) (targets true r) ks (roots-next roots j r h e) f

-- nodes

module _ (cells : List ℕ) (p : ℕ) where
  spread-append : (xs ys : List ℕ) → lent_spread cells p (xs ++ ys) ≡ lent_spread cells p xs ++ lent_spread cells p ys
  spread-append [] ys = refl
  spread-append (k ∷ xs) ys =
      let a = targets true (get_or cells (3 * k + 1) 0) in
      let b = targets true (get_or cells (3 * k + 2) 0) in
      split (stands_at cells p k)
      (λ e. rw e (ap (λ (l : List ℕ). a ++ (b ++ l)) (spread-append xs ys)
      ∙ ap (λ (l : List ℕ). a ++ l) (sym (append_assoc b (lent_spread cells p xs) (lent_spread cells p ys)))
      ∙ sym (append_assoc a (b ++ lent_spread cells p xs) (lent_spread cells p ys))))
      (λ e. rw e (ap (λ (l : List ℕ). k ∷ l) (spread-append xs ys)))

  spread-next : (seen : List ℕ) (i k : ℕ) → i < length seen → k ≡ get_or seen i 0
      → lent_spread cells p (take (i + 1) seen) ≡ lent_spread cells p (take i seen) ++ lent_spread cells p (k ∷ [])
  spread-next seen i k h e =
      ap (lent_spread cells p) (take_more seen i h) ∙ spread-append (take i seen) (get_or seen i 0 ∷ [])
      ∙ ap (λ (x : ℕ). lent_spread cells p (take i seen) ++ lent_spread cells p (x ∷ [])) (sym e)

  pub spread-turn : (seen : List ℕ) (i k : ℕ) → i < length seen → k ≡ get_or seen i 0 → (ks : List ℕ)
      → ks ≡ firsts eqb (lent_spread cells p (take i seen))
      → arrived_all ks (lent_spread cells p (k ∷ [])) ≡ firsts eqb (lent_spread cells p (take (i + 1) seen))
  spread-turn seen i k h e ks f =
      turn (lent_spread cells p (take (i + 1) seen)) (lent_spread cells p (take i seen)) (lent_spread cells p (k ∷ [])) ks
      (spread-next seen i k h e) f
