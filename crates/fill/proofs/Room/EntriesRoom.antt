-- How many entries a level has: at most one a candidate, and at most as many as there are classes of functions that vary. A single
-- row makes none.
-- Assumes nothing.
use mathlib.Core.Path.{◌≡◌, refl, sym, ap, ◌∙◌, subst}
use mathlib.Core.Bool.{Bool, true, false, not, beq, ◌||◌}
use mathlib.Core.List.{List, [], ◌∷◌, map}
use Prim.Native.Nat.{ℕ, suc, ◌+◌, ◌-◌, ◌^◌, ◌≤◌, suc-le-suc}
use native.Mathlib.Nat.{le_refl, le-suc}
use native.Mathlib.Omega.{arith}
use lib.ListN.{length, length-map}
use Rattle.lists.proofs.Bools.{split, of_T, to-T}
use Rattle.lists.proofs.Lists.Membership.{all-has, all_map, map-has}
use Rattle.diagram.specs.Tree.{Tree, leaf, pairs, same}
use Rattle.diagram.specs.Filling.Fill.{Row, always, Link, candidate, level, fill}
use Rattle.diagram.specs.Networks.Network.{normal}
use Rattle.diagram.proofs.Tree.{same-equality, normal-normal, varies}
use Rattle.diagram.proofs.Filling.Evened.{next_of}
use Rattle.diagram.proofs.Filling.Fill.{Along, new, met, next, Joined, fixed, linked, candidate-view, filled-length}
use Rattle.diagram.proofs.Tracing.FirstSeen.{varies-inverted}
use Rattle.diagram.proofs.Filling.Apart.{apart-filled, varied-filled}
use Rattle.diagram.proofs.Networks.Enumerate.{classes-of-varied}

-- a candidate adds at most one

along-room : {d : ℕ} {inv : Bool} {f : Tree Row d} {gs es : List (Tree Row d)} {k : ℕ} {i : Bool} → Along inv f gs k i es
    → length es ≤ suc (length gs)
along-room new = le_refl 1
along-room (met i c t) = le-suc _
along-room (next m r) = suc-le-suc (along-room r)

joined-room : {d : ℕ} {inv : Bool} {f : Tree Row d} {gs es : List (Tree Row d)} {l : Link} → Joined inv f gs l es
    → length es ≤ suc (length gs)
joined-room (fixed v t) = le-suc _
joined-room (linked n r) = along-room r

pub candidate-room : {d : ℕ} (inv : Bool) (f : Tree Row d) (gs : List (Tree Row d))
    → length (candidate inv f gs).entries ≤ suc (length gs)
candidate-room inv f gs = joined-room (candidate-view inv f gs)

pub entries_from : {d : ℕ} (inv : Bool) (gs fs : List (Tree Row d)) → length (level inv gs fs).entries ≤ length gs + length fs
entries_from inv gs [] = omega arith
entries_from inv gs (f ∷ fs) = omega (arith, candidate-room inv f gs, entries_from inv (candidate inv f gs).entries fs)

pub entries-candidates : {d : ℕ} (inv : Bool) (fs : List (Tree Row d)) → length (level inv [] fs).entries ≤ length fs
entries-candidates inv fs = omega (arith, entries_from inv [] fs)

-- The filled functions of a level's entries vary, and their normal members differ: so they are at most the classes of functions,
-- less that of the constant ones.
pub entries-most : (d : ℕ) (fs : List (Tree Row (suc d))) → length (level true [] fs).entries + 1 ≤ 2 ^ (2 ^ suc d - 1)
entries-most d fs =
    let es : List (Tree Row (suc d)) = (level true [] fs).entries in
    let ts : List (Tree Bool (suc d)) = pairs (fill true d (next_of es)) in
    let most =
    classes-of-varied true (suc d) (map (normal true) ts) (apart-filled true d fs)
    (λ t h. let r = map-has same same-equality same same-equality (normal true) t ts h in
    subst (λ u. normal true u ≡ u) r.2 (normal-normal true r.0))
    (all_map same same-equality varies (normal true) ts
    (λ t h. to-T (varies-inverted _ t ∙ of_T (all-has same same-equality varies ts (varied-filled true d fs) t h)))) in
    let e : length (map (normal true) ts) ≡ length es = length-map ts (normal true) ∙ filled-length true es in
    rw e at most

-- a single row is constant on its cared rows

single : (c v : Bool) → (not c || beq v false) ≡ false → (not c || beq v true) ≡ true
single false v e = refl
single true true e = refl
single true false e = sym e

candidate-single : (inv : Bool) (f : Tree Row 0) (gs : List (Tree Row 0)) → (candidate inv f gs).entries ≡ gs
candidate-single inv (leaf r) gs =
    split (always false (leaf r)) (λ e. rw e)
    (λ e. let q : always true (leaf r) ≡ true = single r.care r.value e in rw (e, q))

pub entries-single : (inv : Bool) (gs fs : List (Tree Row 0)) → (level inv gs fs).entries ≡ gs
entries-single inv gs [] = refl
entries-single inv gs (f ∷ fs) = entries-single inv (candidate inv f gs).entries fs ∙ candidate-single inv f gs

pub entries_none : (inv : Bool) (fs : List (Tree Row 0)) → length (level inv [] fs).entries ≡ 0
entries_none inv fs = ap length (entries-single inv [] fs)
