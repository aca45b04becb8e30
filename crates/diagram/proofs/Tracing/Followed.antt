-- What links stand for, where the entries' functions E vary and are of different classes: rising links show E first, in sequence,
-- and different links stand for different functions.
-- Assumes nothing.
use mathlib.Core.Path.{◌≡◌, refl, sym, ap, ap₂, ◌∙◌, subst}
use mathlib.Core.Bool.{Bool, true, false, not, beq, ◌&&◌, ◌||◌, true≢false}
use mathlib.Core.List.{List, [], ◌∷◌, map}
use mathlib.Core.Logic.{inl, inr}
use Prim.Native.Nat.{ℕ, suc, ◌≤◌, ◌<◌}
use native.Mathlib.Nat.{le_refl, not-suc-le-zero}
use native.Mathlib.Omega.{arith}
use lib.Dec.{T, not_T, eqb, eqb→eq, eqb_refl}
use lib.ListN.{length, get_or, drop, length-map, get_or-map}
use lib.Seq.{drop-cons, drop-length}
use Rattle.lists.specs.Lists.{all, has, distinct, index}
use Rattle.lists.specs.Bits.{flip}
use Rattle.lists.proofs.Bools.{both_ways, split, of_T, of-not, to-T, and_T, and_l, and_r, or_l, or_r, beq→eq, beq-refl}
use Rattle.lists.proofs.Lists.Membership.{all-at, index-get_or}
use Rattle.lists.proofs.Numbers.Compared.{below_other}
use Rattle.diagram.specs.Tree.{Tree, full, inverted, first, same}
use Rattle.diagram.specs.Filling.Fill.{Link, const, entry, follow}
use Rattle.diagram.specs.Networks.Network.{normal}
use Rattle.diagram.specs.Networks.Trace.{same_link}
use Rattle.diagram.proofs.Tree.{first-full, varies-full, same→eq, same-equality, eq→same, inverted-false, first-inverted}
use Rattle.diagram.proofs.Tree.{normal-inverted, varies}
use Rattle.diagram.proofs.Tracing.FirstSeen.{varies-inverted}
use Rattle.diagram.proofs.Tracing.FirstSeen.{is_new, fresh, seen-steady, seen-has, new-inverted, fresh-seen, fresh-new}
use Rattle.diagram.proofs.Tracing.Rising.{Step, Rising, rising_le, Valid}

-- the function of entry j
abbrev pub nth : {d : ℕ} → List (Tree Bool d) → ℕ → Tree Bool d
nth {d} E j = get_or E j (full false d)

-- the classes gs are those of the first k of E
pub record Met {d : ℕ} (inv : Bool) (E : List (Tree Bool d)) (k : ℕ) (gs : List (Tree Bool d)) : Type 0 where
  pub before : (j : ℕ) → j < k → T (has same (normal inv (nth E j)) gs)
  pub after : (j : ℕ) → k ≤ j → j < length E → has same (normal inv (nth E j)) gs ≡ false

flip_one : (i j b : Bool) → flip i b ≡ flip j b → i ≡ j
flip_one true true b e = refl
flip_one false false b e = refl
flip_one true false true e = sym e
flip_one true false false e = e
flip_one false true true e = sym e
flip_one false true false e = e

full-same : (v w : Bool) (d : ℕ) → same (full v d) (full w d) ≡ beq v w
full-same v w d =
    both_ways (same (full v d) (full w d)) (beq v w)
    (λ t. subst (λ b. T (beq v b)) (sym (first-full v d) ∙ ap first (same→eq (full v d) (full w d) t) ∙ first-full w d) (beq-refl v))
    (λ t. eq→same (ap (λ b. full b d) (beq→eq v w t)))

module _ {d : ℕ} (inv : Bool) (E : List (Tree Bool d)) (apart : T (distinct same (map (normal inv) E))) (varied : T (all varies E)) where
  -- the class tells the entry
  index-nth : (j : ℕ) → j < length E → index same (normal inv (nth E j)) (map (normal inv) E) ≡ j
  index-nth j h =
      ap (λ u. index same u (map (normal inv) E)) (sym (get_or-map (normal inv) E j (full false d)))
      ∙ index-get_or same same-equality (map (normal inv) E) j (normal inv (full false d)) apart
      (subst (λ n. j < n) (sym (length-map E (normal inv))) h)

  class-nth : (j k : ℕ) → j < length E → k < length E → normal inv (nth E j) ≡ normal inv (nth E k) → j ≡ k
  class-nth j k h g e = sym (index-nth j h) ∙ ap (λ u. index same u (map (normal inv) E)) e ∙ index-nth k g

  varied-nth : (j : ℕ) → j < length E → varies (nth E j) ≡ true
  varied-nth j h = of_T {b = varies (nth E j)} (all-at varies E varied j (full false d) h)

  -- the next entry met
  met_next : (k : ℕ) (gs : List (Tree Bool d)) → k < length E → Met inv E k gs → Met inv E (suc k) (normal inv (nth E k) ∷ gs)
  met_next k gs h m = record { before = before; after = after }
    where
      before : (j : ℕ) → j < suc k → T (has same (normal inv (nth E j)) (normal inv (nth E k) ∷ gs))
      before j p =
          let a = same (normal inv (nth E j)) (normal inv (nth E k)) in
          let b = has same (normal inv (nth E j)) gs in
          split (eqb j k) (λ e. or_l a b (eq→same (ap (λ q. normal inv (nth E q)) (eqb→eq j k (to-T e)))))
          (λ e. or_r a b (m.before j (below_other j k p e)))

      after : (j : ℕ) → suc k ≤ j → j < length E → has same (normal inv (nth E j)) (normal inv (nth E k) ∷ gs) ≡ false
      after j p g =
          split (same (normal inv (nth E j)) (normal inv (nth E k)))
          (λ e. let z = class-nth j k g h (same→eq (normal inv (nth E j)) (normal inv (nth E k)) (to-T e)) in absurd (omega arith))
          (λ e. ap₂ ◌||◌ e (m.after j (omega arith) g))

  -- one link: a constant or an entry met before isn't new; the next entry is
  fresh_step : (k n : ℕ) (gs : List (Tree Bool d)) (l : Link) (xs : List (Tree Bool d)) → Step inv k l n → n ≤ length E → Met inv E k gs
      → ((hs : List (Tree Bool d)) → Met inv E n hs → fresh inv hs xs ≡ drop n E) → fresh inv gs (follow E l ∷ xs) ≡ drop k E
  fresh_step k n gs (const v) xs s h m f =
      fresh-seen inv gs (full v d) xs (seen-steady inv gs (full v d) (varies-full v d))
      ∙ f gs (subst (λ q. Met inv E q gs) (sym s) m) ∙ ap (λ q. drop q E) s
  fresh_step k n gs (entry j i) xs (inl s) h m f =
      fresh-seen inv gs (inverted i (nth E j)) xs
      (ap (λ b. is_new inv gs (inverted b (nth E j))) s.1 ∙ new-inverted inv i gs (nth E j)
      ∙ seen-has inv gs (nth E j) (m.before j s.0))
      ∙ f gs (subst (λ q. Met inv E q gs) (sym s.2) m) ∙ ap (λ q. drop q E) s.2
  fresh_step k n gs (entry j i) xs (inr s) h m f =
      let lt : k < length E = omega arith in
      let e = nth E k in
      ap (λ u. fresh inv gs (u ∷ xs)) (ap₂ (λ b q. inverted b (nth E q)) s.1 s.0 ∙ inverted-false e)
      ∙ fresh-new inv gs e xs (ap₂ (λ a b. a && not b) (varied-nth k lt) (m.after k (le_refl k) lt))
      ∙ ap (λ (l : List (Tree Bool d)). e ∷ l)
      (f (normal inv e ∷ gs) (subst (λ q. Met inv E q (normal inv e ∷ gs)) (sym s.2) (met_next k gs lt m)) ∙ ap (λ q. drop q E) s.2)
      ∙ sym (drop-cons E k (full false d) lt)

  fresh-rising : (k : ℕ) (gs : List (Tree Bool d)) (ls : List Link) → Rising inv k ls (length E) → Met inv E k gs
      → fresh inv gs (map (follow E) ls) ≡ drop k E
  fresh-rising k gs [] r m = sym (ap (λ n. drop n E) r ∙ drop-length E)
  fresh-rising k gs (l ∷ ls) r m =
      fresh_step k r.0 gs l (map (follow E) ls) r.1 (rising_le inv r.0 (length E) ls r.2) m
      (λ hs q. fresh-rising r.0 hs ls r.2 q)

  pub fresh-follow : (ls : List Link) → Rising inv 0 ls (length E) → fresh inv [] (map (follow E) ls) ≡ E
  fresh-follow ls r = fresh-rising 0 [] ls r (record { before = λ j h. absurd (not-suc-le-zero h); after = λ j h g. refl })

  -- different links, different functions

  -- equal functions are of one class, so of one entry; and no function is its own inverse
  entry-same : (j k : ℕ) (i l : Bool) → j < length E → i ≡ (inv && i) → k < length E → l ≡ (inv && l)
      → T (same (inverted i (nth E j)) (inverted l (nth E k))) → T (eqb j k && beq i l)
  entry-same j k i l h p g q t =
      let e = same→eq (inverted i (nth E j)) (inverted l (nth E k)) t in
      let z = class-nth j k h g (class-inverted i (nth E j) p ∙ ap (normal inv) e ∙ sym (class-inverted l (nth E k) q)) in
      let f = sym (first-inverted i (nth E j)) ∙ ap first e ∙ first-inverted l (nth E k) ∙ ap (λ n. flip l (first (nth E n))) (sym z) in
      and_T (eqb j k) (beq i l) (subst (λ n. T (eqb j n)) z (eqb_refl j))
      (subst (λ b. T (beq i b)) (flip_one i l (first (nth E j)) f) (beq-refl i))
    where
      class-inverted : (b : Bool) (u : Tree Bool d) → b ≡ (inv && b) → normal inv u ≡ normal inv (inverted b u)
      class-inverted b u c = sym (ap (λ x. normal inv (inverted x u)) c ∙ normal-inverted inv b u)

  const_entry : (v : Bool) (j : ℕ) (i : Bool) → j < length E → full v d ≡ inverted i (nth E j) → ⊥
  const_entry v j i h e = true≢false (sym (varies-inverted i (nth E j) ∙ varied-nth j h) ∙ sym (ap varies e) ∙ varies-full v d)

  pub follow-same : (k l : Link) → Valid inv (length E) k → Valid inv (length E) l → same (follow E k) (follow E l) ≡ same_link k l
  follow-same (const v) (const w) p q = full-same v w d
  follow-same (const v) (entry j i) p q =
      let t = inverted i (nth E j) in
      of-not (not_T (same (full v d) t) (λ h. const_entry v j i q.0 (same→eq (full v d) t h)))
  follow-same (entry j i) (const v) p q =
      let t = inverted i (nth E j) in
      of-not (not_T (same t (full v d)) (λ h. const_entry v j i p.0 (sym (same→eq t (full v d) h))))
  follow-same (entry j i) (entry k l) p q =
      both_ways (same (inverted i (nth E j)) (inverted l (nth E k))) (eqb j k && beq i l)
      (entry-same j k i l p.0 p.1 q.0 q.1)
      (λ t. eq→same (ap₂ (λ b n. inverted b (nth E n))
      (beq→eq i l (and_r (eqb j k) (beq i l) t)) (eqb→eq j k (and_l (eqb j k) (beq i l) t))))
