-- A level's entries with marks: what is found, by the marks or by a search, and the entries with a new class behind them.
-- Assumes nothing.
use mathlib.Core.Path.{◌≡◌, refl, sym, ap, ap₂, ◌∙◌, subst}
use mathlib.Core.Bool.{Bool, true, false, not, cond, ◌&&◌, ◌||◌}
use mathlib.Core.List.{List, [], ◌∷◌, ◌++◌, map, map-append}
use Prim.Native.Nat.{ℕ, zero, suc, ◌≤◌, ◌<◌}
use native.Mathlib.Omega.{arith}
use borrow.Author.Tests.{lt-ltb, le-ltb, ltb-true, ltb-false, eqb-true}
use lib.Dec.{T, eqb, ltb}
use lib.ListN.{length, get_or, set, length-append, length-map, get_or-map, get_or-append}
use lib.Seq.{get_or-append_seam, get_or-set_same, get_or-set_other}
use Rattle.std.proofs.Common.{Some, None}
use Rattle.std.specs.List.{position, position_or_len}
use Rattle.lists.proofs.Numbers.Compared.{differ}
use Rattle.lists.specs.Lists.{has, index, distinct}
use Rattle.lists.proofs.Bools.{split, to-T, to-not, and_T, of_T, absurd-T}
use Rattle.lists.proofs.Lists.Membership.{index-lt, get_or-index, has_get_d, index-get_or}
use Rattle.lists.proofs.Lists.Grown.{distinct_more}
use Rattle.diagram.specs.Exchanging.Exchange.{Pair, both, same_pair, normal_pair, same_class}
use Rattle.diagram.proofs.Exchanging.Pairs.{pair-equality}
use Rattle.swapping.specs.Inner.Exchange.{pair_slot, Seen}

-- the class of a pair is told by its normal pair

abbrev pub classes_of : List Pair → List Pair
classes_of gs = map normal_pair gs

pub index-class : (f : Pair) (gs : List Pair) → index same_class f gs ≡ index same_pair (normal_pair f) (classes_of gs)
index-class f [] = refl
index-class f (g ∷ gs) = ap (λ (k : ℕ). cond (same_class f g) zero (suc k)) (index-class f gs)

pub has-class : (f : Pair) (gs : List Pair) → has same_class f gs ≡ has same_pair (normal_pair f) (classes_of gs)
has-class f [] = refl
has-class f (g ∷ gs) = ap (λ (b : Bool). same_class f g || b) (has-class f gs)

pub distinct-class : (gs : List Pair) → distinct same_class gs ≡ distinct same_pair (classes_of gs)
distinct-class [] = refl
distinct-class (g ∷ gs) = ap₂ (λ (a b : Bool). not a && b) (has-class g gs) (distinct-class gs)

pub index-none : {A : Type 0} (eq : A → A → Bool) (x : A) (xs : List A) → has eq x xs ≡ false → index eq x xs ≡ length xs
index-none eq x [] e = refl
index-none eq x (y ∷ ys) e =
    split (eq x y) (λ q. absurd-T {b = true} tt (rw q at e)) (λ q. rw q (ap suc (index-none eq x ys (rw q at e))))

-- the place of the first that is alike
pub index-position : (f : Pair) (gs : List Pair) → index same_class f gs ≡ position_or_len (same_class f) gs
index-position f [] = refl
index-position f (g ∷ gs) =
    split (same_class f g) (λ q. rw q refl) (λ q. rw q (omega (arith, index-position f gs)))

has-index : (f : Pair) (gs : List Pair) → has same_class f gs ≡ ltb (index same_class f gs) (length gs)
has-index f gs =
    split (has same_class f gs)
    (λ q. q ∙ sym (lt-ltb (index same_class f gs) (length gs) (omega (
      arith,
      index-class f gs,
      index-lt same_pair pair-equality (normal_pair f) (classes_of gs) (to-T (sym (has-class f gs) ∙ q)),
      length-map gs normal_pair,
    ))))
    (λ q. q ∙ sym (le-ltb (index same_class f gs) (length gs) (omega (arith, index-none same_class f gs q))))

pub position-class : (f : Pair) (gs : List Pair) → position (same_class f) gs ≡ cond (has same_class f gs) (Some (index same_class f gs)) None
position-class f gs = rw (has-index f gs, index-position f gs) refl

module _ (f : Pair) (gs : List Pair) where
  -- a class with an entry, and one with none

  pub known-class : (k : ℕ) → position (same_class f) gs ≡ Some k → (has same_class f gs ≡ true) × (k ≡ index same_class f gs)
  known-class k e =
      split (has same_class f gs) (λ q. (q, let p = rw q at (sym (position-class f gs) ∙ e) in (cc)))
      (λ q. let p = rw q at (sym (position-class f gs) ∙ e) in absurd (cc))

  pub known-small : (k : ℕ) → position (same_class f) gs ≡ Some k → k < length gs
  known-small k e = ltb-true k (length gs) (ap (λ (i : ℕ). ltb i (length gs)) ((known-class k e).1) ∙ sym (has-index f gs) ∙ (known-class k e).0)

  pub new-class : position (same_class f) gs ≡ None → has same_class f gs ≡ false
  new-class e = split (has same_class f gs) (λ q. let p = rw q at (sym (position-class f gs) ∙ e) in absurd (cc)) (λ q. q)

  class-at : (i : ℕ) (d : Pair) → get_or (classes_of gs) i (normal_pair d) ≡ normal_pair (get_or gs i d)
  class-at i d = get_or-map normal_pair gs i d

  -- an entry of the class is the only one
  pub found-at : T (distinct same_class gs) → (i : ℕ) (d : Pair) → i < length gs → same_class f (get_or gs i d) ≡ true
      → Some i ≡ position (same_class f) gs
  found-at apart i d h e =
      let same : normal_pair f ≡ get_or (classes_of gs) i (normal_pair d) =
      pair-equality.sound (normal_pair f) (normal_pair (get_or gs i d)) (to-T e) ∙ sym (class-at i d) in
      let k : i < length (classes_of gs) = omega (arith, length-map gs normal_pair) in
      let there : has same_class f gs ≡ true =
      has-class f gs ∙ ap (λ (g : Pair). has same_pair g (classes_of gs)) same
      ∙ of_T (has_get_d same_pair pair-equality (classes_of gs) i (normal_pair d) k) in
      let at : index same_class f gs ≡ i =
      index-class f gs ∙ ap (λ (g : Pair). index same_pair g (classes_of gs)) same
      ∙ index-get_or same_pair pair-equality (classes_of gs) i (normal_pair d) (subst (λ (b : Bool). T b) (distinct-class gs) apart) k in
      sym (position-class f gs ∙ rw there (ap Some at))

  module _ (marks : List ℕ) (s : Seen gs marks) (slot : ℕ) (es : slot ≡ pair_slot (normal_pair f)) where
    -- a slot with no mark has no entry of the class
    pub found-unmarked : get_or marks slot 0 ≡ 0 → None ≡ position (same_class f) gs
    found-unmarked e =
        split (has same_class f gs)
        (λ q. let t : T (has same_pair (normal_pair f) (classes_of gs)) = to-T (sym (has-class f gs) ∙ q) in
        let i = index same_pair (normal_pair f) (classes_of gs) in
        let h : i < length gs = omega (
          arith,
          index-lt same_pair pair-equality (normal_pair f) (classes_of gs) t,
          length-map gs normal_pair,
        ) in
        let same : normal_pair (get_or gs i (both 0)) ≡ normal_pair f =
        sym (class-at i (both 0)) ∙ get_or-index same_pair pair-equality (normal_pair f) (classes_of gs) (normal_pair (both 0)) t in
        absurd (omega (arith, s.marked i h, ap (λ (g : Pair). get_or marks (pair_slot g) 0) same, ap (λ (k : ℕ). get_or marks k 0) es, e)))
        (λ q. sym (position-class f gs ∙ rw q refl))

    -- a new class behind the others, with the mark x
    module _ (new : position (same_class f) gs ≡ None) (small : slot < length marks) (x : ℕ) (one : 1 ≤ x) where
      apart-more : T (distinct same_class (gs ++ (f ∷ [])))
      apart-more =
          let cs = classes_of gs in
          let e : distinct same_class (gs ++ (f ∷ [])) ≡ distinct same_pair cs && not (has same_pair (normal_pair f) cs) =
          distinct-class (gs ++ (f ∷ [])) ∙ ap (distinct same_pair) (map-append normal_pair gs (f ∷ []))
          ∙ distinct_more same_pair pair-equality cs (normal_pair f) in
          rw e
          (and_T (distinct same_pair cs) (not (has same_pair (normal_pair f) cs)) (subst (λ (b : Bool). T b) (distinct-class gs) s.apart)
          (to-not (sym (has-class f gs) ∙ new-class new)))

      marked-more : (e : ℕ) → e < length (gs ++ (f ∷ [])) → 1 ≤ get_or (set marks slot x) (pair_slot (normal_pair (get_or (gs ++ (f ∷ [])) e (both 0)))) 0
      marked-more e he =
          let i = pair_slot (normal_pair (get_or (gs ++ (f ∷ [])) e (both 0))) in
          split (eqb i slot)
          (λ q. omega (arith, ap (λ (j : ℕ). get_or (set marks slot x) j 0) (eqb-true i slot q), get_or-set_same marks slot x 0 small))
          (λ q. split (ltb e (length gs))
          (λ p. let lt : e < length gs = ltb-true e (length gs) p in
          let o : get_or (gs ++ (f ∷ [])) e (both 0) ≡ get_or gs e (both 0) = get_or-append gs (f ∷ []) (both 0) e lt in
          omega (
            arith,
            get_or-set_other marks slot i x 0 (differ i slot q),
            ap (λ (g : Pair). get_or marks (pair_slot (normal_pair g)) 0) o,
            s.marked e lt,
          ))
          (λ p. let last : e ≡ length gs = omega (arith, ltb-false e (length gs) p, length-append gs (f ∷ [])) in
          absurd (differ i slot q
          (ap (λ (j : ℕ). pair_slot (normal_pair (get_or (gs ++ (f ∷ [])) j (both 0)))) last
          ∙ ap (λ (g : Pair). pair_slot (normal_pair g)) (get_or-append_seam gs f [] (both 0)) ∙ sym es))))

      pub seen-more : Seen (gs ++ (f ∷ [])) (set marks slot x)
      seen-more = record { apart = apart-more; marked = marked-more }
