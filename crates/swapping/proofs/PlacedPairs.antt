-- A pair that is seen: the entries and its link.
-- Assumes nothing.
use mathlib.Core.Path.{◌≡◌, sym, ap, ◌∙◌}
use mathlib.Core.Bool.{Bool, true, false}
use mathlib.Core.List.{List, [], ◌∷◌, ◌++◌}
use Prim.Native.Nat.{ℕ, suc, ◌+◌, ◌*◌, ◌%◌}
use native.Mathlib.Omega.{arith}
use borrow.Author.Tests.{eqb-true, eqb-false}
use lib.Dec.{eqb}
use lib.ListN.{length, get_or}
use lib.Seq.{get_or-append_seam}
use Rattle.std.proofs.Common.{Some, None}
use Rattle.std.specs.List.{position}
use Rattle.std.proofs.lemmas.List.{get_or_default}
use Rattle.lists.specs.Lists.{has, index}
use Rattle.lists.specs.Bits.{flip, digit}
use Rattle.lists.proofs.Bools.{flip-self, split, absurd-T, of_T}
use Rattle.diagram.specs.Networks.Diagram.{inverts}
use Rattle.diagram.specs.Exchanging.Exchange.{Pair, both, normal_pair, same_class, constant_pair, entries_after, link_into}
use Rattle.diagram.proofs.Exchanging.Pairs.{pair-equality}
use Rattle.matching.specs.Links.{link_number}
use Rattle.swapping.proofs.SeenPairs.{known-class, known-small, new-class}

-- parities

odd-sum : (x y : ℕ) → (x + y) % 2 ≡ digit (flip (eqb (y % 2) 1) (eqb (x % 2) 1))
odd-sum x y =
    split (eqb (y % 2) 1)
    (λ p. split (eqb (x % 2) 1)
    (λ q. rw (p, q) (omega (arith, eqb-true (y % 2) 1 p, eqb-true (x % 2) 1 q)))
    (λ q. rw (p, q) (even_odd x y (eqb-false (x % 2) 1 q) (eqb-true (y % 2) 1 p))))
    (λ p. split (eqb (x % 2) 1)
    (λ q. rw (p, q) (odd_even x y (eqb-true (x % 2) 1 q) (eqb-false (y % 2) 1 p)))
    (λ q. rw (p, q) (even-even x y (eqb-false (x % 2) 1 q) (eqb-false (y % 2) 1 p))))
  where
    even_odd : (x y : ℕ) → (x % 2 ≡ 1 → ⊥) → y % 2 ≡ 1 → (x + y) % 2 ≡ 1
    even_odd x y n e = split (eqb (x % 2) 0) (λ q. omega (arith, eqb-true (x % 2) 0 q)) (λ q. absurd (n (omega (arith, eqb-false (x % 2) 0 q))))

    odd_even : (x y : ℕ) → x % 2 ≡ 1 → (y % 2 ≡ 1 → ⊥) → (x + y) % 2 ≡ 1
    odd_even x y e n = omega (arith, even_odd y x n e)

    even-even : (x y : ℕ) → (x % 2 ≡ 1 → ⊥) → (y % 2 ≡ 1 → ⊥) → (x + y) % 2 ≡ 0
    even-even x y n m =
        split (eqb (x % 2) 0)
        (λ p. split (eqb (y % 2) 0) (λ q. omega (arith, eqb-true (x % 2) 0 p, eqb-true (y % 2) 0 q))
        (λ q. absurd (m (omega (arith, eqb-false (y % 2) 0 q)))))
        (λ p. absurd (n (omega (arith, eqb-false (x % 2) 0 p))))

-- a new pair stands behind the others
index-seam : (g : Pair) (hs : List Pair) → has same_class g hs ≡ false → index same_class g (hs ++ (g ∷ [])) ≡ length hs
index-seam g [] e = let q : same_class g g ≡ true = of_T (pair-equality.self (normal_pair g)) in rw q
index-seam g (h ∷ hs) e =
    split (same_class g h) (λ q. absurd-T {b = true} tt (rw q at e)) (λ q. rw q (ap suc (index-seam g hs (rw q at e))))

module _ (f : Pair) (gs : List Pair) where
  module _ (n : constant_pair f ≡ false) where
    -- a known class
    module _ (k : ℕ) (found : position (same_class f) gs ≡ Some k) where
      pub known-after : gs ≡ entries_after gs f
      known-after = let h = (known-class f gs k found).0 in rw (n, h)

      pub known-link : (d : Pair) → 2 * (k + 1) + (f.low + (get_or gs k d).low) % 2 ≡ link_number (link_into gs f)
      known-link d =
          let g = get_or gs k (both 0) in
          let e : get_or gs k d ≡ g = get_or_default gs k d (both 0) (known-small f gs k found) in
          let i : index same_class f gs ≡ k = sym ((known-class f gs k found).1) in
          rw e (sym (rw (n, i) (omega (arith, odd-sum f.low g.low))))

    -- a new class
    module _ (new : position (same_class f) gs ≡ None) where
      pub new-after : gs ++ (f ∷ []) ≡ entries_after gs f
      new-after = let h = new-class f gs new in rw (n, h)

      pub new-link : 2 * (length gs + 1) ≡ link_number (link_into (gs ++ (f ∷ [])) f)
      new-link =
          let i = inverts true f.low in
          let here : index same_class f (gs ++ (f ∷ [])) ≡ length gs = index-seam f gs (new-class f gs new) in
          let e : get_or (gs ++ (f ∷ [])) (length gs) (both 0) ≡ f = get_or-append_seam gs f [] (both 0) in
          sym (rw (n, here, e) (ap (λ (b : Bool). 2 * suc (length gs) + digit b) (flip-self i) ∙ omega arith))
