-- A level of the filling on parts of bytes is the level on the entries themselves; and entries stored one after the other, cut
-- again into their parts.
-- Assumes nothing.
use mathlib.Core.Path.{◌≡◌, refl, ap}
use mathlib.Core.Bool.{true, false}
use mathlib.Core.List.{List, [], ◌∷◌, map}
use Prim.Native.Nat.{ℕ, suc}
use Rattle.lists.proofs.Bools.{split}
use Rattle.diagram.specs.Tree.{Tree}
use Rattle.diagram.specs.Filling.Fill.{Row, always, agree, Linked, Level, along, candidate, level}
use Rattle.reorder.specs.Sizes.{width}
use Rattle.reorder.specs.Pack.{encode}
use Rattle.matching.specs.Parts.{LinkedPart, LevelParts, after_part, along_parts, candidate_part, level_parts}
use Rattle.matching.proofs.Parts.TreeTests.{always-bytes, agree-bytes, merge-bytes}

-- what one candidate leaves, and what a level does, with the entries as parts

abbrev pub linked_part : {d : ℕ} → Linked d → LinkedPart
linked_part p = record { parts = map encode p.entries; link = p.link }

abbrev pub level_part : {d : ℕ} → Level d → LevelParts
level_part l = record { parts = map encode l.entries; links = l.links }

pub along-bytes : {d : ℕ} (k : ℕ) (f : Tree Row d) (gs : List (Tree Row d))
    → along_parts (width d) k (encode f) (map encode gs) ≡ linked_part (along true k f gs)
unfolding along_parts
along-bytes k f [] = refl
along-bytes k f (g ∷ gs) =
    split (agree false f g) (λ e. rw (agree-bytes false f g, e, merge-bytes false f g))
    (λ e. rw (agree-bytes false f g, e)
    (split (agree true f g) (λ q. rw (agree-bytes true f g, q, merge-bytes true f g))
    (λ q. rw (agree-bytes true f g, q) (ap (after_part (encode g)) (along-bytes (suc k) f gs)))))

pub candidate-bytes : {d : ℕ} (f : Tree Row d) (gs : List (Tree Row d))
    → candidate_part (width d) (encode f) (map encode gs) ≡ linked_part (candidate true f gs)
unfolding candidate_part
candidate-bytes f gs =
    split (always false f) (λ e. rw (always-bytes false f, e))
    (λ e. rw (always-bytes false f, e)
    (split (always true f) (λ q. rw (always-bytes true f, q)) (λ q. rw (always-bytes true f, q) (along-bytes 0 f gs))))

pub level-bytes : {d : ℕ} (gs fs : List (Tree Row d))
    → level_parts (width d) (map encode gs) (map encode fs) ≡ level_part (level true gs fs)
unfolding level_parts
level-bytes gs [] = refl
level-bytes gs (f ∷ fs) =
    rw (candidate-bytes f gs)
    (ap {B = LevelParts} (λ l. record { parts = l.parts; links = (candidate true f gs).link ∷ l.links })
    (level-bytes (candidate true f gs).entries fs))
