-- A lent diagram is its counted cells, their count and its first m roots (document 02, 2.10): two are equal exactly where these are.
-- Assumes nothing.
use mathlib.Core.Path.{◌≡◌, sym, ap, ap₂, ◌∙◌}
use mathlib.Core.List.{List, map}
use mathlib.Core.Logic.{◌↔◌}
use Prim.Native.Nat.{ℕ, ◌*◌, ◌≤◌, ◌<◌}
use native.Mathlib.Omega.{arith}
use lib.ListN.{length, get_or, take}
use lib.Seq.{ext_get_or, length-take-le, get_or-take}
use Rattle.lists.specs.Lists.{up_to}
use Rattle.lists.proofs.Numbers.UpTo.{length-map-up_to}
use Rattle.diagram.specs.Networks.Diagram.{Node, Diagram}
use Rattle.lent.specs.Lent.{number_in, lent_node, lent_diagram}
use Rattle.lent.specs.SameCells.{SameLent}
use Rattle.lent.proofs.Nodes.{nodes-same, same_number}

module _ (m count count' : ℕ) (cells cells' roots roots' : List ℕ) (fit : 3 * count ≤ length cells) (fit' : 3 * count' ≤ length cells') where
  abbrev ours : Diagram
  ours = lent_diagram count m cells roots

  abbrev theirs : Diagram
  theirs = lent_diagram count' m cells' roots'

  diagram-counts : ours ≡ theirs → count ≡ count'
  unfolding lent_diagram
  diagram-counts e =
      sym (length-map-up_to (lent_node cells) count) ∙ ap (λ (D : Diagram). length D.nodes) e ∙ length-map-up_to (lent_node cells') count'

  diagram-same : ours ≡ theirs → SameLent m count count' cells cells' roots roots'
  unfolding lent_diagram
  diagram-same e =
      let k : count ≡ count' = diagram-counts e in
      let ns : map (lent_node cells) (up_to count) ≡ map (lent_node cells') (up_to count) =
      ap (λ (D : Diagram). D.nodes) e ∙ ap (λ (c : ℕ). map (lent_node cells') (up_to c)) (sym k) in
      let l = length-take-le (3 * count) cells fit in
      let l' = length-take-le (3 * count') cells' fit' in
      record {
        counts = k;
        counted =
            ext_get_or 0 (take (3 * count) cells) (take (3 * count') cells') (l ∙ ap (λ (c : ℕ). 3 * c) k ∙ sym l')
            (λ x h. let b : x < 3 * count = omega (arith, l) in
            get_or-take (3 * count) cells x 0 b ∙ same_number count (number_in cells) (number_in cells') ns x b
            ∙ sym (get_or-take (3 * count') cells' x 0 (omega arith)));
        rooted = ap (λ (D : Diagram). D.roots) e;
      }

  same-diagram : SameLent m count count' cells cells' roots roots' → ours ≡ theirs
  unfolding lent_diagram
  same-diagram s =
      let number : (x : ℕ) → x < 3 * count → number_in cells x ≡ number_in cells' x = λ x h.
      sym (get_or-take (3 * count) cells x 0 h) ∙ ap (λ (l : List ℕ). get_or l x 0) s.counted
      ∙ get_or-take (3 * count') cells' x 0 (omega (arith, s.counts)) in
      ap₂ (λ (ns : List Node) (rs : List ℕ). record { nodes = ns; roots = rs })
      (nodes-same count (number_in cells) (number_in cells') number ∙ ap (λ (c : ℕ). map (lent_node cells') (up_to c)) s.counts)
      s.rooted

  pub lent_same : (ours ≡ theirs) ↔ SameLent m count count' cells cells' roots roots'
  lent_same = (diagram-same, same-diagram)
