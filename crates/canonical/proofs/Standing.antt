-- The nodes of a list that stand at a level, and whether they are the next ones: node by node.
-- Assumes nothing.
use mathlib.Core.Path.{◌≡◌, refl, sym, ap, ap₂, ◌∙◌, subst}
use mathlib.Core.Bool.{true, false}
use mathlib.Core.List.{List, [], ◌∷◌, ◌++◌, append-nil}
use Prim.Native.Nat.{ℕ, suc, ◌+◌, ◌*◌, ◌≤◌, ◌<◌}
use native.Mathlib.Omega.{arith}
use borrow.Author.Tests.{eq-eqb, ne_eqb}
use lib.Dec.{T, eqb}
use lib.ListN.{length, get_or, take, drop, length-append}
use lib.Seq.{length-take-le, take-length, split_at, get_or-append_seam}
use Rattle.lists.specs.Lists.{equal}
use Rattle.lists.proofs.Lists.Equal.{numbers-equality}
use Rattle.lists.proofs.Bools.{split, of_T, to-T}
use Rattle.lists.proofs.Lists.Membership.{keep-length}
use Rattle.lists.proofs.Lists.Less.{keep_append}
use Rattle.lists.proofs.Numbers.UpTo.{map-up_to-more, get_or-map-up_to}
use Rattle.lists.proofs.Lists.Grown.{take_more}
use Rattle.diagram.specs.Canonical.Structure.{range}
use Rattle.std.proofs.Common.{Some, None}
use Rattle.canonical.specs.Inner.Walk.{stands_at, lent_standing, followed}

-- the first i of the nodes seen: those that stand at level p are the next ones, and `after` is the number after them
pub record Follows (cells : List ℕ) (p next : ℕ) (seen : List ℕ) (i after : ℕ) : Type 0 where
  pub in_turn : lent_standing cells p (take i seen) ≡ range next (length (lent_standing cells p (take i seen)))
  pub counted : after ≡ next + length (lent_standing cells p (take i seen))

module _ (cells : List ℕ) (p next : ℕ) (seen : List ℕ) where
  module _ (i after : ℕ) (F : Follows cells p next seen i after) where
    -- the nodes seen are those of the whole list
    pub follows-end : i ≡ length seen → Some after ≡ followed cells p next seen
    unfolding followed
    follows-end e =
        let whole : take i seen ≡ seen = rw e (take-length seen) in
        let s = lent_standing cells p seen in
        let F' = subst (λ (l : List ℕ). (lent_standing cells p l ≡ range next (length (lent_standing cells p l)))
        × (after ≡ next + length (lent_standing cells p l))) whole (F.in_turn, F.counted) in
        let t : equal eqb s (range next (length s)) ≡ true =
        of_T (subst (λ (l : List ℕ). T (equal eqb s l)) F'.0 (numbers-equality.self s)) in
        rw t (ap Some F'.1)

    -- the next node, k, of whose numbers l is the level
    module _ (h : i < length seen) (k l : ℕ) (node : k ≡ get_or seen i 0) (level : l ≡ get_or cells (3 * k) 0) where
      one : lent_standing cells p (take (i + 1) seen) ≡ lent_standing cells p (take i seen) ++ lent_standing cells p (k ∷ [])
      one =
          ap (lent_standing cells p) (take_more seen i h)
          ∙ keep_append (stands_at cells p) (take i seen) (get_or seen i 0 ∷ [])
          ∙ ap (λ (x : ℕ). lent_standing cells p (take i seen) ++ lent_standing cells p (x ∷ [])) (sym node)

      pub follows-other : (l ≡ p → ⊥) → Follows cells p next seen (i + 1) after
      follows-other n =
          let e : lent_standing cells p (take (i + 1) seen) ≡ lent_standing cells p (take i seen) =
          one ∙ rw (← level, ne_eqb l p n) (append-nil (lent_standing cells p (take i seen))) in
          record { in_turn = rw e F.in_turn; counted = rw e F.counted }

      module _ (stands : l ≡ p) where
        stood : lent_standing cells p (k ∷ []) ≡ k ∷ []
        stood = rw (← level, eq-eqb l p stands)

        pub follows_next : k ≡ after → Follows cells p next seen (i + 1) (after + 1)
        follows_next q =
            let s = lent_standing cells p (take i seen) in
            let e : lent_standing cells p (take (i + 1) seen) ≡ s ++ (k ∷ []) = one ∙ ap (λ (x : List ℕ). s ++ x) stood in
            let m : length (s ++ (k ∷ [])) ≡ length s + 1 = length-append s (k ∷ []) in
            let r : s ++ (k ∷ []) ≡ range next (length s + 1) =
            ap₂ (λ (x : List ℕ) (y : ℕ). x ++ (y ∷ [])) F.in_turn (q ∙ F.counted)
            ∙ sym (map-up_to-more (λ j. next + j) (length s)) in
            record {
              in_turn = rw (e, m) r;
              counted = rw (e, m) (omega (arith, F.counted));
            }

        -- another number than the next
        pub follows-broken : (k ≡ after → ⊥) → None ≡ followed cells p next seen
        unfolding followed
        follows-broken n =
            let s = lent_standing cells p (take i seen) in
            let w = lent_standing cells p seen in
            let rest = lent_standing cells p (drop (suc i) seen) in
            let t : equal eqb w (range next (length w)) ≡ false =
            split (equal eqb w (range next (length w)))
            (λ q. absurd (n
            (sym (get_or-append_seam s k rest 0) ∙ ap (λ (x : List ℕ). get_or x (length s) 0) (sym parts)
            ∙ ap (λ (x : List ℕ). get_or x (length s) 0) (numbers-equality.sound w (range next (length w)) (to-T q))
            ∙ get_or-map-up_to (λ j. next + j) (length w) (length s) 0
            (omega (arith, ap length parts, length-append s (k ∷ rest)))
            ∙ sym F.counted)))
            (λ q. q) in
            rw t
          where
            parts : lent_standing cells p seen ≡ lent_standing cells p (take i seen) ++ (k ∷ lent_standing cells p (drop (suc i) seen))
            parts =
                let z = drop (suc i) seen in
                ap (lent_standing cells p) (split_at seen i 0 h ∙ ap (λ (y : ℕ). take i seen ++ (y ∷ z)) (sym node))
                ∙ keep_append (stands_at cells p) (take i seen) (k ∷ z)
                ∙ ap (λ (x : List ℕ). lent_standing cells p (take i seen) ++ x) (rw (← level, eq-eqb l p stands))
