-- Section 3 of document 01, 'Value bits of free rows never matter': two tables of as many variables and outputs, alike on the care of their
-- rows and on the values where they are cared, are filled alike under every order. So their networks, costs, sifts, passes and moves are
-- the same.
-- Assumes nothing.
use mathlib.Core.Path.{◌≡◌, refl, sym, ap, ap₂, ◌∙◌}
use mathlib.Core.Bool.{Bool, true, false, ◌&&◌}
use mathlib.Core.List.{List, map, map-map}
use Prim.Native.Nat.{ℕ, ◌<◌, ◌^◌}
use lib.Dec.{T, eqb}
use lib.ListN.{get_or}
use Rattle.lists.specs.Lists.{up_to, index}
use Rattle.lists.proofs.Numbers.UpTo.{map-up_to-cong}
use Rattle.diagram.specs.Tree.{Tree, at, full}
use Rattle.diagram.specs.Filling.Fill.{Row, fill}
use Rattle.diagram.specs.Networks.Diagram.{Diagram}
use Rattle.diagram.specs.Networks.Network.{network, counts, count}
use Rattle.diagram.specs.Orders.Order.{behind, row_under}
use Rattle.diagram.specs.Table.{Table, reordered, filled, filled_bit, network_of, cost}
use Rattle.diagram.specs.Orders.Sift.{nodes_of, sift, pass}
use Rattle.diagram.specs.Orders.Moves.{gain_at}
use Rattle.diagram.proofs.Orders.Order.{behind-lt}
use Rattle.diagram.proofs.Orders.Sift.{sift-cong}
use Rattle.diagram.proofs.Orders.Pass.{pass-cong}
use Rattle.diagram.proofs.Orders.Moves.{gains-cong}
use Rattle.diagram.proofs.Filling.MaskedRows.{mask, masked, fill-masked, draw-masked}

pub record Alike (t u : Table) : Type 0 where
  pub inputs : t.n ≡ u.n
  pub outputs : t.m ≡ u.m
  pub cared : (j r : ℕ) → j < t.m → r < 2 ^ t.n → (t.row j r).care ≡ (u.row j r).care
  pub valued : (j r : ℕ) → j < t.m → r < 2 ^ t.n → T (t.row j r).care → (t.row j r).value ≡ (u.row j r).value

-- rows with the value 0 where they are free are then the same

and_alike : (c v v' : Bool) → (T c → v ≡ v') → (c && v) ≡ (c && v')
and_alike true v v' h = h tt
and_alike false v v' h = refl

mask-alike : (r s : Row) → r.care ≡ s.care → (T r.care → r.value ≡ s.value) → mask r ≡ mask s
mask-alike r s e h =
    ap₂ (λ (b c : Bool). record { value = b; care = c })
    (and_alike r.care r.value s.value h ∙ ap (λ (b : Bool). b && s.value) e) e

-- other rows for one n and m
module _ (t : Table) (g : ℕ → ℕ → Row) (rows : (j r : ℕ) → j < t.m → r < 2 ^ t.n → mask (t.row j r) ≡ mask (g j r)) where
  abbrev other : Table
  other = record { n = t.n; m = t.m; row = g }

  pub outputs-same : (order : List ℕ)
      → map masked (map (reordered t order) (up_to t.m)) ≡ map masked (map (reordered other order) (up_to t.m))
  outputs-same order =
      map-map masked (reordered t order) (up_to t.m)
      ∙ map-up_to-cong t.m (λ j. masked (reordered t order j)) (λ j. masked (reordered other order j))
      (λ j h. draw-masked t.n (λ x. t.row j (behind t.n order x)) (λ x. g j (behind t.n order x)) 0
      (λ x. rows j (behind t.n order x) h (behind-lt t.n order x)))
      ∙ sym (map-map masked (reordered other order) (up_to t.m))

  filled-same : (inv : Bool) (order : List ℕ) → filled inv t order ≡ filled inv other order
  unfolding filled
  filled-same inv order =
      sym (fill-masked inv t.n (map (reordered t order) (up_to t.m))) ∙ ap (fill inv t.n) (outputs-same order)
      ∙ fill-masked inv t.n (map (reordered other order) (up_to t.m))

-- any two that are alike
module _ (t u : Table) (a : Alike t u) where
  pub rows_alike : (j r : ℕ) → j < t.m → r < 2 ^ t.n → mask (t.row j r) ≡ mask (u.row j r)
  rows_alike j r h k = mask-alike (t.row j r) (u.row j r) (a.cared j r h k) (a.valued j r h k)

  -- whatever is made of the number of variables and of the functions filled under each order
  pub filled-alike : {A : Type 0} (inv : Bool) (X : (n : ℕ) → (List ℕ → List (Tree Bool n)) → A)
      → X t.n (filled inv t) ≡ X u.n (filled inv u)
  filled-alike {A} inv X =
      let renumbered : other t u.row rows_alike ≡ u = λ i. record { n = a.inputs i; m = a.outputs i; row = u.row } in
      ap (X t.n) (λ i order. filled-same t u.row rows_alike inv order i) ∙ ap (λ (w : Table). X w.n (filled inv w)) renumbered

  pub network-alike : (inv : Bool) (order : List ℕ) → network_of inv t order ≡ network_of inv u order
  unfolding network_of
  network-alike inv order = filled-alike {A = Diagram} inv (λ n f. network inv n (f order))

  pub bit-alike : (inv : Bool) (order : List ℕ) (j r : ℕ) → filled_bit inv t order j r ≡ filled_bit inv u order j r
  unfolding filled_bit
  bit-alike inv order j r = filled-alike {A = Bool} inv (λ n f. at 0 (row_under n order r) (get_or (f order) j (full false n)))

  pub cost-alike : (order : List ℕ) → cost t order ≡ cost u order
  unfolding cost
  cost-alike order = filled-alike {A = ℕ} true (λ n f. count true n (f order))

  nodes-alike : (order : List ℕ) (v : ℕ) → nodes_of t order v ≡ nodes_of u order v
  unfolding nodes_of
  nodes-alike order v = filled-alike {A = ℕ} true (λ n f. get_or (counts true n (f order)) (index eqb v order) 0)

  pub sift-alike : (v : ℕ) (order : List ℕ) → sift t v order ≡ sift u v order
  sift-alike v order = sift-cong t u a.inputs cost-alike v order

  pub pass-alike : (limit : ℕ) (order : List ℕ) → pass t limit order ≡ pass u limit order
  pass-alike limit order = pass-cong t u a.inputs cost-alike nodes-alike limit order

  pub gains-alike : (order : List ℕ) (e : ℕ) → gain_at t order e ≡ gain_at u order e
  gains-alike order e = gains-cong t u a.inputs cost-alike order e
