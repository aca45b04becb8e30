-- A candidate placed twice in a row: the second time it gets the link of the first and changes no entry.
-- Assumes nothing.
use mathlib.Core.Path.{◌≡◌, refl, ap, ◌∙◌, subst}
use mathlib.Core.Bool.{Bool, true, false}
use mathlib.Core.List.{List, [], ◌∷◌}
use Prim.Native.Nat.{ℕ, suc, ◌+◌}
use lib.ListN.{length}
use Rattle.lists.proofs.Bools.{split}
use Rattle.diagram.specs.Filling.Fill.{entry}
use Rattle.matching.specs.Parts.{LinkedPart, after_part, always_part, agree_part, merge_part, along_parts, candidate_part, level_parts}
use Rattle.matching.proofs.Parts.MergedAgain.{agree-again, merge-again, differ-again, merge-self}
use Rattle.matching.proofs.Linking.Along.{along-first, along-pass}
use Rattle.matching.proofs.Linking.First.{First, plain-first, inverted-first}

-- the first to agree is the first again
first-again : (i : Bool) (w : ℕ) (f g : List ℕ) → First i w f g → First i w f (merge_part i w f g)
first-again false w f g h = plain-first w f (merge_part false w f g) (agree-again false w f g)
first-again true w f g h = inverted-first w f (merge_part true w f g) (differ-again w f g (h.0 refl)) (agree-again true w f g)

-- an entry that f was merged into, or that f became
again : (i : Bool) (w e : ℕ) (f g : List ℕ) (gs : List (List ℕ)) → First i w f g → merge_part i w f g ≡ g
    → along_parts w e f (g ∷ gs) ≡ record { parts = g ∷ gs; link = entry e i }
again i w e f g gs h m =
    along-first i w e f g gs h ∙ ap (λ (y : List ℕ). record { parts = y ∷ gs; link = entry e i }) m

along-twice : (w e : ℕ) (f : List ℕ) (gs : List (List ℕ)) → length f ≡ w + w
    → along_parts w e f (along_parts w e f gs).parts ≡ along_parts w e f gs
unfolding along_parts
along-twice w e f [] l =
    let m = merge-self w f l in
    again false w e f f [] (plain-first w f f (subst (λ (y : List ℕ). agree_part false w f y ≡ true) m (agree-again false w f f))) m
along-twice w e f (g ∷ gs) l =
    let met : (i : Bool) → First i w f g
    → along_parts w e f (merge_part i w f g ∷ gs) ≡ record { parts = merge_part i w f g ∷ gs; link = entry e i } =
    λ i h. again i w e f (merge_part i w f g) gs (first-again i w f g h) (merge-again i w f g) in
    split (agree_part false w f g) (λ p. rw p (met false (plain-first w f g p)))
    (λ p. split (agree_part true w f g) (λ q. rw (p, q) (met true (inverted-first w f g p q)))
    (λ q. rw (p, q)
    (along-pass w e f g (along_parts w (suc e) f gs).parts p q ∙ ap (after_part g) (along-twice w (suc e) f gs l))))

candidate-twice : (w : ℕ) (f : List ℕ) (gs : List (List ℕ)) → length f ≡ w + w
    → candidate_part w f (candidate_part w f gs).parts ≡ candidate_part w f gs
unfolding candidate_part
candidate-twice w f gs l =
    split (always_part false w f) (λ p. rw p)
    (λ p. split (always_part true w f) (λ q. rw (p, q)) (λ q. rw (p, q) (along-twice w 0 f gs l)))

-- a level with the candidate twice has the entries of one with it once, and its link twice
pub level-twice : (w : ℕ) (gs : List (List ℕ)) (f : List ℕ) (fs : List (List ℕ)) → length f ≡ w + w
    → level_parts w gs (f ∷ f ∷ fs)
    ≡ record { parts = (level_parts w gs (f ∷ fs)).parts; links = (candidate_part w f gs).link ∷ (level_parts w gs (f ∷ fs)).links }
unfolding level_parts
level-twice w gs f fs l =
    let k = (candidate_part w f gs).link in
    ap (λ (p : LinkedPart). record {
      parts = (level_parts w p.parts fs).parts;
      links = k ∷ p.link ∷ (level_parts w p.parts fs).links;
    }) (candidate-twice w f gs l)
