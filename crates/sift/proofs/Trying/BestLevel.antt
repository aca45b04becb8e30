-- A variable tried at one level after the other: of the levels so far with the fewest nodes the present one, or else the topmost.
-- Assumes nothing.
use mathlib.Core.Path.{◌≡◌, refl, sym, ap, ◌∙◌, subst}
use mathlib.Core.Bool.{Bool, true, false, ◌&&◌, ◌||◌, and-true, and-false, or-false}
use mathlib.Core.List.{List}
use Prim.Native.Nat.{ℕ, zero, suc, ◌+◌, ◌<◌}
use native.Mathlib.Nat.{not-suc-le-zero}
use native.Mathlib.Numerals.{add-one}
use native.Mathlib.Omega.{arith}
use borrow.Author.Tests.{le-ltb, eq-eqb, ne_eqb}
use lib.Dec.{T, eqb, ltb, eqb→eq}
use lib.ListN.{get_or, take}
use lib.Seq.{get_or-take}
use Rattle.lists.specs.Lists.{index}
use Rattle.lists.proofs.Bools.{split, to-T, both_ways}
use Rattle.diagram.specs.Orders.Order.{is_order}
use Rattle.diagram.specs.Table.{Table}
use Rattle.diagram.specs.Orders.Sift.{preferred, chosen}
use Rattle.diagram.proofs.Orders.Order.{index-order, order-index}
use Rattle.diagram.proofs.Orders.Fewest.{preferred-zero, preferred-suc, chosen-below}
use Rattle.sift.specs.declared.trials.Best.{Best}
use Rattle.sift.specs.Inner.Trials.{cost_at, is_present, taken, best_with, best_of}

-- whether a level is taken, by the two tests

module _ (b : Best) (nodes : ℕ) (present : Bool) where
  pub taken-first : b.tried ≡ 0 → taken b nodes present ≡ true
  unfolding taken
  taken-first e = rw (eq-eqb b.tried 0 e)

  pub taken-tie : (b.tried ≡ 0 → ⊥) → nodes ≡ b.cost → taken b nodes present ≡ present
  unfolding taken
  taken-tie e d = rw (ne_eqb b.tried 0 e, le-ltb nodes b.cost (omega arith), eq-eqb nodes b.cost d) (and-true present)

  pub taken-else : (b.tried ≡ 0 → ⊥) → (nodes ≡ b.cost → ⊥) → taken b nodes present ≡ ltb nodes b.cost
  unfolding taken
  taken-else e d = rw (ne_eqb b.tried 0 e, ne_eqb nodes b.cost d, and-false present) (or-false (ltb nodes b.cost))

  -- one trial more

  pub with-taken : (p : ℕ) → taken b nodes present ≡ true
      → best_with b p nodes present ≡ record { level = p; cost = nodes; tried = b.tried + 1 }
  unfolding best_with
  with-taken p e = rw e

  pub with-left : (p : ℕ) → taken b nodes present ≡ false
      → best_with b p nodes present ≡ record { level = b.level; cost = b.cost; tried = b.tried + 1 }
  unfolding best_with
  with-left p e = rw e

-- after so many trials from the top, where the present level is q
abbrev best_after : (ℕ → ℕ) → ℕ → ℕ → Best
best_after f q zero = record { level = 0; cost = 0; tried = 0 }
best_after f q (suc k) = record { level = preferred f q k; cost = f (preferred f q k); tried = suc k }

module _ (f : ℕ → ℕ) (q : ℕ) where
  -- each was counted
  after-counted : (p : ℕ) (b : Best) → b ≡ best_after f q p → b.tried ≡ p
  after-counted p b e = ap (λ (x : Best). x.tried) e ∙ counted p
    where
      counted : (k : ℕ) → (best_after f q k).tried ≡ k
      counted zero = refl
      counted (suc k) = refl

  after_next : (k : ℕ) → best_with (best_after f q k) k (f k) (eqb k q) ≡ best_after f q (suc k)
  unfolding best_with taken
  after_next zero = rw (preferred-zero f q)
  after_next (suc k) =
      rw (ne_eqb (suc k) 0 (omega arith), add-one (suc k), preferred-suc f q k)
      (split (ltb (f (suc k)) (f (preferred f q k)) || (eqb (suc k) q && eqb (f (suc k)) (f (preferred f q k)))) (λ e. rw e) (λ e. rw e))

  after_more : (p : ℕ) (b c : Best) → b ≡ best_after f q p → c ≡ best_with b p (f p) (eqb p q) → c ≡ best_after f q (p + 1)
  after_more p b c e d =
      d ∙ ap (λ (x : Best). best_with x p (f p) (eqb p q)) e ∙ after_next p ∙ ap (best_after f q) (sym (add-one p))

-- of a table's variable under an order
module _ (t : Table) (v : ℕ) (order : List ℕ) where
  abbrev pub after_trials : ℕ → Best
  after_trials = best_after (cost_at t v order) (index eqb v order)

  pub trials-counted : (p : ℕ) (b : Best) → b ≡ after_trials p → b.tried ≡ p
  trials-counted = after-counted (cost_at t v order) (index eqb v order)

  pub trials-more : (p : ℕ) (b c : Best) → b ≡ after_trials p → c ≡ best_with b p (cost_at t v order p) (is_present v order p)
      → c ≡ after_trials (p + 1)
  trials-more = after_more (cost_at t v order) (index eqb v order)

  -- after all n of them
  all-tried : (n : ℕ) → 0 < n
      → after_trials n ≡ record { level = chosen t v order n; cost = cost_at t v order (chosen t v order n); tried = n }
  unfolding chosen
  all-tried zero h = absurd (not-suc-le-zero h)
  all-tried (suc k) h = refl

  pub best-all : (p : ℕ) (b : Best) → p ≡ t.n → 0 < t.n → b ≡ after_trials p → b ≡ best_of t v order
  unfolding best_of
  best-all p b d h e = e ∙ ap after_trials d ∙ all-tried t.n h

  pub best-below : (b : Best) → b ≡ best_of t v order → v < t.n → b.level < t.n
  unfolding best_of
  best-below b d h =
      subst (λ (k : ℕ). k < t.n) (sym (ap (λ (x : Best). x.level) d)) (chosen-below t v order t.n (omega arith))

-- v stands at level p where the order has it there
pub present-level : (n : ℕ) (order : List ℕ) (v p : ℕ) → T (is_order n (take n order)) → v < n → p < n
    → eqb (get_or order p 0) v ≡ is_present v (take n order) p
present-level n order v p o h i =
    let same : get_or (take n order) p 0 ≡ get_or order p 0 = get_or-take n order p 0 i in
    both_ways (eqb (get_or order p 0) v) (is_present v (take n order) p)
    (λ e. to-T (eq-eqb p (index eqb v (take n order))
    (sym (index-order n (take n order) o p i) ∙ ap (λ (w : ℕ). index eqb w (take n order)) (same ∙ eqb→eq (get_or order p 0) v e))))
    (λ e. to-T (eq-eqb (get_or order p 0) v
    (sym same ∙ ap (λ (k : ℕ). get_or (take n order) k 0) (eqb→eq p (index eqb v (take n order)) e) ∙ order-index n (take n order) o v h)))
