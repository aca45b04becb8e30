-- A tree's top variable moved down, the others in sequence: this only shuffles the rows, and goes with the variable's move in an order.
-- Assumes nothing.
use mathlib.Core.Path.{◌≡◌, refl, sym, ap₂, ◌∙◌}
use mathlib.Core.Bool.{Bool, true, false, cond, ◌&&◌}
use mathlib.Core.List.{List, [], ◌∷◌, ◌++◌}
use Prim.Native.Nat.{ℕ, zero, suc}
use native.Mathlib.Omega.{arith}
use lib.ListN.{length, get_or, take, drop}
use Rattle.diagram.specs.Tree.{Tree, leaf, node, half, at}
use Rattle.diagram.specs.Filling.Fill.{Row, always, agree, merge}
use Rattle.diagram.proofs.Orders.Shuffle.{Shuffle, underneath, shuffle-underneath, shuffle-then}

-- the two top variables exchanged
abbrev pub exchange : {A : Type 0} {d : ℕ} → Tree A (suc (suc d)) → Tree A (suc (suc d))
exchange t = node (node (half false (half false t)) (half false (half true t))) (node (half true (half false t)) (half true (half true t)))

-- the top variable moved p levels down, at most to the bottom
abbrev pub lowered : {A : Type 0} {d : ℕ} → ℕ → Tree A d → Tree A d
lowered zero t = t
lowered {d = zero} (suc p) t = t
lowered {d = suc zero} (suc p) t = t
lowered {d = suc (suc d)} (suc p) t = underneath (lowered p) (exchange t)

-- both shuffle rows

and-exchange : (a b c e : Bool) → ((a && c) && (b && e)) ≡ ((a && b) && (c && e))
and-exchange false b c e = refl
and-exchange true true c e = refl
and-exchange true false true e = refl
and-exchange true false false e = refl

pub shuffle-exchange : {d : ℕ} → Shuffle (exchange {A = Row} {d = d})
shuffle-exchange {d} = record { always-same = tests; agree_same = compares; merge-shuffled = merges }
  where
    tests : (v : Bool) (f : Tree Row (suc (suc d))) → always v (exchange f) ≡ always v f
    tests v (node (node a b) (node c e)) = and-exchange (always v a) (always v b) (always v c) (always v e)

    compares : (i : Bool) (f g : Tree Row (suc (suc d))) → agree i (exchange f) (exchange g) ≡ agree i f g
    compares i (node (node a b) (node c e)) (node (node a' b') (node c' e')) =
        and-exchange (agree i a a') (agree i b b') (agree i c c') (agree i e e')

    merges : (i : Bool) (f g : Tree Row (suc (suc d))) → merge i (exchange f) (exchange g) ≡ exchange (merge i f g)
    merges i (node (node a b) (node c e)) (node (node a' b') (node c' e')) = refl

shuffle-none : {d : ℕ} → Shuffle {d = d} (λ t. t)
shuffle-none = record { always-same = λ v f. refl; agree_same = λ i f g. refl; merge-shuffled = λ i f g. refl }

pub shuffle-lowered : (d p : ℕ) → Shuffle (lowered {A = Row} {d = d} p)
shuffle-lowered d zero = shuffle-none
shuffle-lowered zero (suc p) = shuffle-none
shuffle-lowered (suc zero) (suc p) = shuffle-none
shuffle-lowered (suc (suc d)) (suc p) = shuffle-then shuffle-exchange (shuffle-underneath (shuffle-lowered (suc d) p))

-- what stands at a row, by its bit g w of each variable w

-- the levels numbered from one more
at-later : {A : Type 0} {d : ℕ} (p : ℕ) (a : ℕ → Bool) (t : Tree A d) → at (suc p) a t ≡ at p (λ q. a (suc q)) t
at-later p a (leaf x) = refl
at-later p a (node l h) = ap₂ (cond (a (suc p))) (at-later (suc p) a h) (at-later (suc p) a l)

cond-exchange : {A : Type 0} (b c : Bool) (w x y z : A) → cond b (cond c w x) (cond c y z) ≡ cond c (cond b w y) (cond b x z)
cond-exchange true true w x y z = refl
cond-exchange true false w x y z = refl
cond-exchange false true w x y z = refl
cond-exchange false false w x y z = refl

-- vs are the variables below v in an order: v moved to level p there, and the tree's top variable with it
pub at-lowered : {A : Type 0} {d : ℕ} (p : ℕ) (g : ℕ → Bool) (v : ℕ) (vs : List ℕ) (t : Tree A d) → suc (length vs) ≡ d
    → at 0 (λ q. g (get_or (take p vs ++ v ∷ drop p vs) q 0)) (lowered p t) ≡ at 0 (λ q. g (get_or (v ∷ vs) q 0)) t
at-lowered zero g v vs t e = refl
at-lowered (suc p) g v vs (leaf x) e = refl
at-lowered (suc p) g v [] (node (leaf x) (leaf y)) e = refl
at-lowered (suc p) g v [] (node (node k l) h) e = absurd (omega arith)
at-lowered (suc p) g v (w ∷ ws) (node (leaf x) (leaf y)) e = absurd (omega arith)
at-lowered {A} (suc p) g v (w ∷ ws) (node {d = suc d} (node k l) (node m n)) e =
    let below : (t : Tree A d) → at 1 (λ q. g (get_or (v ∷ ws) q 0)) t ≡ at 2 (λ q. g (get_or (v ∷ w ∷ ws) q 0)) t =
    λ t. at-later 0 _ t ∙ sym (at-later 1 _ t ∙ at-later 0 _ t) in
    let side : (s t : Tree A d) → at 1 (λ q. g (get_or (w ∷ take p ws ++ v ∷ drop p ws) q 0)) (lowered p (node s t))
    ≡ cond (g v) (at 2 (λ q. g (get_or (v ∷ w ∷ ws) q 0)) t) (at 2 (λ q. g (get_or (v ∷ w ∷ ws) q 0)) s) =
    λ s t. at-later 0 _ (lowered p (node s t)) ∙ at-lowered p g v ws (node s t) (omega arith) ∙ ap₂ (cond (g v)) (below t) (below s) in
    ap₂ (cond (g w)) (side l n) (side k m) ∙ cond-exchange (g w) (g v) _ _ _ _
