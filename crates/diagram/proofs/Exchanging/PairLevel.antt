-- One level of the filling, where each candidate is the function that a pair of references stands for: its entries and links are those
-- that `entries_from` and `links_from` read off the pairs. All that it needs is that pairs stand for functions one to one, inverse pairs for
-- inverse functions, and the constants for themselves.
-- Assumes nothing.
use mathlib.Core.Path.{◌≡◌, refl, sym, ap, ap₂, ◌∙◌, subst}
use mathlib.Core.Bool.{Bool, true, false, cond, ◌||◌}
use mathlib.Core.List.{List, [], ◌∷◌, ◌++◌, map}
use Prim.Native.Nat.{ℕ, suc, ◌+◌}
use native.Mathlib.Nat.{zero-add, add-zero}
use native.Mathlib.Omega.{arith}
use lib.Dec.{T, eqb, ltb, eqb→eq}
use lib.ListN.{get_or}
use Rattle.lists.specs.Lists.{has, index}
use Rattle.lists.specs.Bits.{flip, digit}
use Rattle.lists.proofs.Bools.{split, of_T, to-T, absurd-T, and_l, and_r, both_ways}
use Rattle.diagram.specs.Tree.{Tree, full, same, inverted}
use Rattle.diagram.specs.Filling.Fill.{Row, always, agree, Link, entry, Linked, Level, after, along, candidate, then, level}
use Rattle.diagram.specs.Networks.Diagram.{inverts}
use Rattle.diagram.specs.Exchanging.Exchange.{Pair, both, same_pair, opposite_pair, normal_pair, same_class, constant_pair}
use Rattle.diagram.specs.Exchanging.Exchange.{entries_after, link_into, entries_from, links_from}
use Rattle.diagram.proofs.Tree.{same→eq, eq→same, inverted-false}
use Rattle.diagram.proofs.Networks.Least.{Every}
use Rattle.diagram.proofs.Canonical.Reduced.{constant-digit}
use Rattle.diagram.proofs.Exchanging.Pairs.{pair-equality, pair-equal, class-either, relative-same, relative-opposite}
use Rattle.diagram.proofs.Exchanging.CaredRows.{cared_rows, always-rows, agree-rows, merge-rows, candidate-full}

-- of which pairs it is asked, and that they stand for functions
pub record Stands {d : ℕ} (sem : Pair → Tree Bool d) (P : Pair → Type 0) : Type 0 where
  pub injective : (f g : Pair) → P f → P g → sem f ≡ sem g → f ≡ g
  pub turns : (f : Pair) → P f → P (opposite_pair true f)
  pub turned : (f : Pair) → P f → sem (opposite_pair true f) ≡ inverted true (sem f)
  pub fixes : (v : Bool) → P (both (digit v))
  pub fixed : (v : Bool) → sem (both (digit v)) ≡ full v d

-- the entries after a pair that is no constant, and its link into them, numbered from k on

abbrev joined : List Pair → Pair → List Pair
joined gs f = cond (has same_class f gs) gs (gs ++ (f ∷ []))

abbrev link_from : ℕ → List Pair → Pair → Link
link_from k gs f =
    entry (k + index same_class f gs) (flip (inverts true (get_or gs (index same_class f gs) (both 0)).low) (inverts true f.low))

joined-here : (g : Pair) (gs : List Pair) (f : Pair) → same_class f g ≡ true → joined (g ∷ gs) f ≡ g ∷ gs
joined-here g gs f e = rw e

joined-next : (g : Pair) (gs : List Pair) (f : Pair) → same_class f g ≡ false → joined (g ∷ gs) f ≡ g ∷ joined gs f
joined-next g gs f e = rw e (split (has same_class f gs) (λ q. rw q) (λ q. rw q))

link_here : (k : ℕ) (g : Pair) (gs : List Pair) (f : Pair) (i : Bool) → same_class f g ≡ true
    → flip (inverts true g.low) (inverts true f.low) ≡ i → link_from k (g ∷ gs) f ≡ entry k i
link_here k g gs f i e q = rw e (ap₂ entry (add-zero k) q)

link-next : (k : ℕ) (g : Pair) (gs : List Pair) (f : Pair) → same_class f g ≡ false → link_from k (g ∷ gs) f ≡ link_from (suc k) gs f
link-next k g gs f e = rw e (ap₂ entry (omega arith) refl)

-- a constant pair is one constant on both sides
constant-both : (f : Pair) → constant_pair f ≡ true → f ≡ both (digit (eqb f.low 1))
constant-both f e =
    let a = ltb f.low 2 in
    let b = eqb f.low f.high in
    let l : f.low ≡ digit (eqb f.low 1) = constant-digit f.low (of_T (and_l a b (to-T e))) in
    pair-equal f (both (digit (eqb f.low 1))) l (sym (eqb→eq f.low f.high (and_r a b (to-T e))) ∙ l)

both_constant : (v : Bool) → constant_pair (both (digit v)) ≡ true
both_constant true = refl
both_constant false = refl

-- what holds of every pair that is seen holds of the entries

module _ (P : Pair → Type 0) where
  every_append : (xs ys : List Pair) → Every P xs → Every P ys → Every P (xs ++ ys)
  every_append [] ys x y = y
  every_append (_ ∷ xs) ys x y = (x.0, every_append xs ys x.1 y)

  entries-after : (gs : List Pair) (f : Pair) → Every P gs → P f → Every P (entries_after gs f)
  entries-after gs f y x =
      split (constant_pair f || has same_class f gs) (λ e. rw e y) (λ e. rw e (every_append gs (f ∷ []) y (x, tt)))

  pub entries-every : (gs fs : List Pair) → Every P gs → Every P fs → Every P (entries_from gs fs)
  entries-every gs [] y z = y
  entries-every gs (f ∷ fs) y z = entries-every (entries_after gs f) fs (entries-after gs f y z.0) z.1

module _ {d : ℕ} (sem : Pair → Tree Bool d) (P : Pair → Type 0) (w : Stands sem P) where
  abbrev rows : Pair → Tree Row d
  rows f = cared_rows (sem f)

  -- equal functions, one pair
  same-pair : (f g : Pair) → P f → P g → same (sem f) (sem g) ≡ same_pair f g
  same-pair f g x y =
      both_ways (same (sem f) (sem g)) (same_pair f g)
      (λ t. subst (λ (h : Pair). T (same_pair f h)) (w.injective f g x y (same→eq (sem f) (sem g) t)) (pair-equality.self f))
      (λ t. eq→same (ap sem (pair-equality.sound f g t)))

  agree-plain : (f g : Pair) → P f → P g → agree false (rows f) (rows g) ≡ same_pair f g
  agree-plain f g x y = agree-rows false (sem f) (sem g) ∙ ap (λ t. same t (sem g)) (inverted-false (sem f)) ∙ same-pair f g x y

  agree-turned : (f g : Pair) → P f → P g → agree true (rows f) (rows g) ≡ same_pair (opposite_pair true f) g
  agree-turned f g x y =
      agree-rows true (sem f) (sem g) ∙ ap (λ t. same t (sem g)) (sym (w.turned f x))
      ∙ same-pair (opposite_pair true f) g (w.turns f x) y

  abbrev linked_to : List (Tree Row d) → Link → Linked d
  linked_to es l = record { entries = es; link = l }

  abbrev joined_link : ℕ → List Pair → Pair → Linked d
  joined_link k gs f = linked_to (map rows (joined gs f)) (link_from k (joined gs f) f)

  join-here : (k : ℕ) (f g : Pair) (gs : List Pair) (i : Bool) → same_class f g ≡ true
      → flip (inverts true g.low) (inverts true f.low) ≡ i → joined_link k (g ∷ gs) f ≡ linked_to (map rows (g ∷ gs)) (entry k i)
  join-here k f g gs i c q =
      ap (λ (l : List Pair). linked_to (map rows l) (link_from k l f)) (joined-here g gs f c)
      ∙ ap (linked_to (map rows (g ∷ gs))) (link_here k g gs f i c q)

  join-next : (k : ℕ) (f g : Pair) (gs : List Pair) → same_class f g ≡ false
      → joined_link k (g ∷ gs) f ≡ after (rows g) (joined_link (suc k) gs f)
  join-next k f g gs c =
      ap (λ (l : List Pair). linked_to (map rows l) (link_from k l f)) (joined-next g gs f c)
      ∙ ap (linked_to (map rows (g ∷ joined gs f))) (link-next k g (joined gs f) f c)

  along-pair : (k : ℕ) (f : Pair) (gs : List Pair) → P f → Every P gs → along true k (rows f) (map rows gs) ≡ joined_link k gs f
  along-pair k f [] x y =
      ap (linked_to (rows f ∷ [])) (sym (link_here k f [] f false (of_T (pair-equality.self (normal_pair f)))
      (relative-same f f (of_T (pair-equality.self f)))))
  along-pair k f (g ∷ gs) x y =
      let a = agree-plain f g x y.0 in
      let b = agree-turned f g x y.0 in
      split (same_pair f g)
      (λ e. let c : same_class f g ≡ true = class-either f g ∙ ap (λ (t : Bool). t || same_pair (opposite_pair true f) g) e in
      rw (a ∙ e)
      (ap (λ t. linked_to (t ∷ map rows gs) (entry k false)) (merge-rows false (sem f) (sem g) (to-T (a ∙ e)))
      ∙ sym (join-here k f g gs false c (relative-same f g e))))
      (λ e. split (same_pair (opposite_pair true f) g)
      (λ q. let c : same_class f g ≡ true = class-either f g ∙ ap₂ ◌||◌ e q in
      rw (a ∙ e, b ∙ q)
      (ap (λ t. linked_to (t ∷ map rows gs) (entry k true)) (merge-rows true (sem f) (sem g) (to-T (b ∙ q)))
      ∙ sym (join-here k f g gs true c (relative-opposite f g q))))
      (λ q. let c : same_class f g ≡ false = class-either f g ∙ ap₂ ◌||◌ e q in
      rw (a ∙ e, b ∙ q) (ap (after (rows g)) (along-pair (suc k) f gs x y.1) ∙ sym (join-next k f g gs c))))

  -- a pair that is no constant stands for none
  never : (f : Pair) → P f → constant_pair f ≡ false → (v : Bool) → always v (rows f) ≡ false
  never f x e v =
      always-rows v (sem f)
      ∙ split (same (sem f) (full v d))
      (λ q. let z : f ≡ both (digit v) =
      w.injective f (both (digit v)) x (w.fixes v) (same→eq (sem f) (full v d) (to-T q) ∙ sym (w.fixed v)) in
      absurd-T (to-T (ap constant_pair z ∙ both_constant v)) e)
      (λ q. q)

  abbrev pair_link : List Pair → Pair → Linked d
  pair_link gs f = record { entries = map rows (entries_after gs f); link = link_into (entries_after gs f) f }

  candidate-pair : (f : Pair) (gs : List Pair) → P f → Every P gs → candidate true (rows f) (map rows gs) ≡ pair_link gs f
  candidate-pair f gs x y =
      split (constant_pair f)
      (λ e. let v = eqb f.low 1 in
      rw e
      (ap (λ t. candidate true (cared_rows t) (map rows gs)) (ap sem (constant-both f e) ∙ w.fixed v) ∙ candidate-full v d (map rows gs)))
      (λ e. rw (e, never f x e false, never f x e true)
      (along-pair 0 f gs x y ∙ ap (linked_to (map rows (joined gs f))) (ap₂ entry (zero-add (index same_class f (joined gs f))) refl)))

  abbrev pairs_level : List Pair → List Pair → Level d
  pairs_level gs fs = record { entries = map rows (entries_from gs fs); links = links_from gs fs }

  pub level-pairs : (gs fs : List Pair) → Every P gs → Every P fs → level true (map rows gs) (map rows fs) ≡ pairs_level gs fs
  level-pairs gs [] y z = refl
  level-pairs gs (f ∷ fs) y z =
      let es = entries_after gs f in
      ap (λ (p : Linked d). then p.link (level true p.entries (map rows fs))) (candidate-pair f gs z.0 y)
      ∙ ap (then (link_into es f)) (level-pairs es fs (entries-after P gs f y z.0) z.1)
