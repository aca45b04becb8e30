-- Document 02, 2.7: the links of the levels of what a diagram computes, where levels p and p + 1 are exchanged, read off its nodes alone.
-- An entry is a pair of references. It stands for the function that is the pair's high where the variable of the old level p is 1, else
-- its low: only the entries of the new level p + 1 have two that may differ. The law `exchanged-trace` says that these are the links of
-- the filling.
-- Assumes nothing.
use Rattle.std.specs.Prelude.{◌≡◌, Bool, true, false, not, cond, ◌&&◌, ◌||◌, List, [], ◌∷◌, ◌++◌, map, ℕ, zero, suc, T, eqb, ltb, get_or}
use Rattle.lists.specs.Lists.{has, index, up_to}
use Rattle.lists.specs.Bits.{flip}
use Rattle.diagram.specs.Filling.Fill.{Link, const, entry}
use Rattle.diagram.specs.Networks.Diagram.{Node, edge, inverts, opposite}
use Rattle.diagram.specs.Orders.Order.{is_order}

-- an order in which levels p and p + 1 of another are exchanged
pub record Exchanged (n p : ℕ) (order other : List ℕ) : Type 0 where
  pub valid : T (is_order n other)
  pub upper : get_or other p 0 ≡ get_or order (suc p) 0
  pub lower : get_or other (suc p) 0 ≡ get_or order p 0
  pub others : (q : ℕ) → eqb q p ≡ false → eqb q (suc p) ≡ false → get_or other q 0 ≡ get_or order q 0

pub record Pair : Type 0 where
  pub low : ℕ
  pub high : ℕ

abbrev pub pair : ℕ → ℕ → Pair
pair l h = record { low = l; high = h }

-- one reference, whatever the variable is
abbrev pub both : ℕ → Pair
both r = pair r r

abbrev pub same_pair : Pair → Pair → Bool
same_pair f g = eqb f.low g.low && eqb f.high g.high

-- the pair of the inverse, where i is true
abbrev pub opposite_pair : Bool → Pair → Pair
opposite_pair i f = pair (opposite i f.low) (opposite i f.high)

-- the member of a pair's class whose low doesn't invert, and whether two pairs are of one class
abbrev pub normal_pair : Pair → Pair
normal_pair f = opposite_pair (inverts true f.low) f

abbrev pub same_class : Pair → Pair → Bool
same_class f g = same_pair (normal_pair f) (normal_pair g)

-- one constant, whatever the variable is
abbrev pub constant_pair : Pair → Bool
constant_pair f = ltb f.low 2 && eqb f.low f.high

-- the entries after a pair is seen: each class once, as it was seen first
abbrev pub entries_after : List Pair → Pair → List Pair
entries_after gs f = cond (constant_pair f || has same_class f gs) gs (gs ++ (f ∷ []))

-- a pair's link into the entries: it inverts relative to its entry as that was seen first
abbrev pub link_into : List Pair → Pair → Link
link_into gs f =
    cond (constant_pair f) (const (eqb f.low 1))
    (entry (index same_class f gs) (flip (inverts true (get_or gs (index same_class f gs) (both 0)).low) (inverts true f.low)))

-- the entries after several pairs, and their links
abbrev pub entries_from : List Pair → List Pair → List Pair
entries_from gs [] = gs
entries_from gs (f ∷ fs) = entries_from (entries_after gs f) fs

abbrev pub links_from : List Pair → List Pair → List Link
links_from gs [] = []
links_from gs (f ∷ fs) = link_into (entries_after gs f) f ∷ links_from (entries_after gs f) fs

-- `node` is the node that a reference is to
module _ (node : ℕ → Node) where
  -- the cofactor of a reference by the variable at level q: of one to a node there its edge, inverted where the reference inverts
  abbrev pub cofactor : ℕ → Bool → ℕ → ℕ
  cofactor q b r =
      cond (not (ltb r 2) && eqb (node r).level q) (opposite (inverts true r) (edge b (node r))) r

  module _ (p : ℕ) where
    -- half b of an entry of level q. At level p it fixes the variable of the old level p + 1, and its pair are the cofactors of both by
    -- that one: the four cofactors, taken crosswise. At level p + 1 it is one of the pair.
    abbrev pub half_pair : ℕ → Bool → Pair → Pair
    half_pair q b f =
        cond (eqb q p) (pair (cofactor (suc p) b (cofactor p false f.low)) (cofactor (suc p) b (cofactor p true f.high)))
        (both (cofactor q b (cond b f.high f.low)))

    -- each entry's 0-half, then its 1-half
    abbrev pub half_pairs : ℕ → List Pair → List Pair
    half_pairs q [] = []
    half_pairs q (f ∷ fs) = half_pair q false f ∷ half_pair q true f ∷ half_pairs q fs

    -- the entries of level q, where fs are the outputs', and the links of their halves
    unfoldable pub level_pairs : List Pair → ℕ → List Pair
    level_pairs fs zero = entries_from [] fs
    level_pairs fs (suc q) = entries_from [] (half_pairs q (level_pairs fs q))

    unfoldable pub level_links : List Pair → ℕ → List Link
    level_links fs q = links_from [] (half_pairs q (level_pairs fs q))

    -- the links of n levels: the outputs', then two an entry of each level in turn
    unfoldable pub exchanged_trace : ℕ → List Pair → List (List Link)
    exchanged_trace n fs = links_from [] fs ∷ map (level_links fs) (up_to n)
