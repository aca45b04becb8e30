-- The links of the filling of what a diagram computes, where two levels next to each other are exchanged, are those that `exchanged_trace`
-- reads off its nodes (law `exchanged-trace`).
-- Assumes nothing.
use mathlib.Core.Path.{◌≡◌, refl, sym, ap, ap₂, ◌∙◌}
use mathlib.Core.Bool.{Bool, true, false}
use mathlib.Core.List.{List, [], ◌∷◌, map}
use Prim.Native.Nat.{ℕ, zero, suc, ◌+◌, ◌<◌}
use native.Mathlib.Nat.{zero-add, add-zero}
use native.Mathlib.Omega.{arith}
use lib.Dec.{T, eqb→eq, eqb-zero-suc}
use lib.ListN.{length, get_or, length-map}
use lib.Seq.{ext_get_or}
use Rattle.lists.specs.Lists.{all, up_to}
use Rattle.lists.proofs.Bools.{and_T, and_l, and_r}
use Rattle.lists.proofs.Lists.Membership.{get_d_map, all-at}
use Rattle.lists.proofs.Numbers.UpTo.{length-map-up_to, get_or-map-up_to, map-up_to-first, map-up_to-cong}
use Rattle.diagram.specs.Tree.{Tree, halves}
use Rattle.diagram.specs.Filling.Fill.{Row, Link, trace}
use Rattle.diagram.specs.Filling.Halves.{cared, trace_halves}
use Rattle.diagram.specs.Networks.Diagram.{Node, Diagram, node_at, refers, well_formed}
use Rattle.diagram.specs.Orders.Order.{is_order}
use Rattle.diagram.specs.Table.{reordered, filled, network_of}
use Rattle.diagram.specs.Canonical.Computed.{computed_table, canonical}
use Rattle.diagram.specs.Networks.Trace.{traced_network}
use Rattle.diagram.specs.Exchanging.Exchange.{Exchanged, Pair, both, entries_from, links_from, half_pair, half_pairs}
use Rattle.diagram.specs.Exchanging.Exchange.{level_pairs, level_links, exchanged_trace}
use Rattle.diagram.proofs.Networks.Evaluate.{formed-length, formed-roots, from-top}
use Rattle.diagram.proofs.Networks.Least.{Every}
use Rattle.diagram.proofs.Canonical.Reduced.{Reduced}
use Rattle.diagram.proofs.Canonical.NetworkIff.{canonical-reduced}
use Rattle.diagram.proofs.Tracing.Traced.{traced}
use Rattle.diagram.proofs.Filling.Cared.{cared-trace}
use Rattle.diagram.proofs.Exchanging.CaredRows.{cared_rows, cared-rows}
use Rattle.diagram.proofs.Exchanging.PairLevel.{entries-every, level-pairs}
use Rattle.diagram.proofs.Exchanging.PairTree.{pair_tree, Entry, entry-both}
use Rattle.diagram.proofs.Exchanging.Crosswise.{entry-halves, stands}
use Rattle.diagram.proofs.Exchanging.Crossed.{crossed-root}

-- the trace by pairs, from the top down: d levels are left from level q on, and fs are the candidates' pairs
abbrev pair_trace : (ℕ → Node) → ℕ → (d : ℕ) → ℕ → List Pair → List (List Link)
pair_trace node p zero q fs = links_from [] fs ∷ []
pair_trace node p (suc d) q fs = links_from [] fs ∷ pair_trace node p d (suc q) (half_pairs node p q (entries_from [] fs))

-- the halves of what pairs stand for
halves-rows : (D : Diagram) (p d q : ℕ) (fs : List Pair)
    → halves (map (λ f. cared_rows (pair_tree D p (suc d) q f)) fs)
    ≡ map (λ f. cared_rows (pair_tree D p d (suc q) f)) (half_pairs (node_at true D) p q fs)
halves-rows D p d q [] = refl
halves-rows D p d q (f ∷ fs) =
    let g : Bool → Tree Row d = λ b. cared_rows (pair_tree D p d (suc q) (half_pair (node_at true D) p q b f)) in
    ap (λ (l : List (Tree Row d)). g false ∷ g true ∷ l) (halves-rows D p d q fs)

module _ (n : ℕ) (D : Diagram) (w : Reduced true n D) (p : ℕ) (k : suc p < n) where
  -- level by level, the filling of what pairs stand for goes by the pairs
  halves-trace : (d q : ℕ) (fs : List Pair) → q + d ≡ n → Every (Entry D p q) fs
      → trace_halves true d (map (λ f. cared_rows (pair_tree D p d q f)) fs) ≡ pair_trace (node_at true D) p d q fs
  unfolding trace_halves
  halves-trace zero q fs e x =
      ap (λ l. l.links ∷ []) (level-pairs (pair_tree D p zero q) (Entry D p q) (stands n D w p k zero q e) [] fs tt x)
  halves-trace (suc d) q fs e x =
      let es = entries_from [] fs in
      ap (λ l. l.links ∷ trace_halves true d (halves l.entries))
      (level-pairs (pair_tree D p (suc d) q) (Entry D p q) (stands n D w p k (suc d) q e) [] fs tt x)
      ∙ ap (λ (l : List (List Link)). links_from [] fs ∷ l)
      (ap (trace_halves true d) (halves-rows D p d q es)
      ∙ halves-trace d (suc q) (half_pairs (node_at true D) p q es) (omega arith)
      (entry-halves n D w p k q es (entries-every (Entry D p q) [] fs tt x)))

-- the candidates' pairs of level q, where fs are the outputs'
abbrev seen : (ℕ → Node) → ℕ → List Pair → ℕ → List Pair
seen node p fs zero = fs
seen node p fs (suc q) = half_pairs node p q (level_pairs node p fs q)

module _ (node : ℕ → Node) (p : ℕ) (fs : List Pair) where
  level-seen : (q : ℕ) → level_pairs node p fs q ≡ entries_from [] (seen node p fs q)
  unfolding level_pairs
  level-seen zero = refl
  level-seen (suc q) = refl

  links-seen : (q : ℕ) → level_links node p fs q ≡ links_from [] (seen node p fs (suc q))
  unfolding level_links
  links-seen q = refl

  -- level by level it is the trace from the top down
  trace-seen : (d q : ℕ)
      → pair_trace node p d q (seen node p fs q) ≡ links_from [] (seen node p fs q) ∷ map (λ j. level_links node p fs (q + j)) (up_to d)
  trace-seen zero q = refl
  trace-seen (suc d) q =
      ap (λ (l : List (List Link)). links_from [] (seen node p fs q) ∷ l)
      (ap (λ (es : List Pair). pair_trace node p d (suc q) (half_pairs node p q es)) (sym (level-seen q))
      ∙ trace-seen d (suc q)
      ∙ sym (map-up_to-first (λ j. level_links node p fs (q + j)) d
      ∙ ap₂ (λ (x : List Link) (l : List (List Link)). x ∷ l) (ap (level_links node p fs) (add-zero q) ∙ links-seen q)
      (map-up_to-cong d (λ j. level_links node p fs (q + suc j)) (λ j. level_links node p fs (suc q + j))
      (λ j h. ap (level_links node p fs) (omega arith)))))

  trace-exchanged : (n : ℕ) → pair_trace node p n 0 fs ≡ exchanged_trace node p n fs
  unfolding exchanged_trace
  trace-exchanged n = trace-seen n 0 ∙ ap (λ (l : List (List Link)). links_from [] fs ∷ l)
      (map-up_to-cong n (λ j. level_links node p fs (0 + j)) (level_links node p fs) (λ j h. ap (level_links node p fs) (zero-add j)))

-- the roots' pairs are entries of the top level
entry-roots : (D : Diagram) (p : ℕ) (rs : List ℕ) → T (all (refers true D) rs) → Every (Entry D p 0) (map both rs)
entry-roots D p [] t = tt
entry-roots D p (r ∷ rs) t = (
  entry-both D p 0 r (eqb-zero-suc p) (from-top true D r (and_l (refers true D r) (all (refers true D) rs) t)),
  entry-roots D p rs (and_r (refers true D r) (all (refers true D) rs) t),
)

cared-mapped : {A : Type 0} {d : ℕ} (f : A → Tree Bool d) (xs : List A) → T (all cared (map (λ x. cared_rows (f x)) xs))
cared-mapped f [] = tt
cared-mapped f (x ∷ xs) = and_T (cared (cared_rows (f x))) (all cared (map (λ x. cared_rows (f x)) xs)) (cared-rows (f x)) (cared-mapped f xs)

-- the links of the filling are those read off the nodes
pub exchanged-trace : (n m p : ℕ) (order other : List ℕ) (D : Diagram) → T (is_order n order) → Exchanged n p order other → suc p < n
    → T (well_formed true n m D) → T (canonical true n m order D)
    → trace true n (map (reordered (computed_table true n m order D) other) (up_to m))
    ≡ exchanged_trace (node_at true D) p n (map both D.roots)
exchanged-trace n m p order other D o x k w c =
    let z = canonical-reduced true n m order D o w c in
    let t = computed_table true n m order D in
    let roots = formed-roots true n m D w in
    let long : length D.roots ≡ m = eqb→eq (length D.roots) m (formed-length true n m D w) in
    let fs : List Pair = map both D.roots in
    let g : Pair → Tree Row n = λ f. cared_rows (pair_tree D p n 0 f) in
    let f₀ = g (both 0) in
    let rows : map (reordered t other) (up_to m) ≡ map g fs =
    ext_get_or f₀ (map (reordered t other) (up_to m)) (map g fs)
    (length-map-up_to (reordered t other) m ∙ sym long ∙ sym (length-map fs g ∙ length-map D.roots both))
    (λ j h. let i : j < m = omega (arith, length-map-up_to (reordered t other) m) in
    get_or-map-up_to (reordered t other) m j f₀ i
    ∙ crossed-root n m order other D z p k x j
    (from-top true D (get_or D.roots j 0) (all-at (refers true D) D.roots roots j 0 (omega arith)))
    ∙ ap g (sym (get_d_map both D.roots j 0 (both 0) (omega arith)))
    ∙ sym (get_d_map g fs j (both 0) f₀ (omega (arith, length-map D.roots both)))) in
    ap (trace true n) rows ∙ cared-trace true n (map g fs) (cared-mapped (pair_tree D p n 0) fs)
    ∙ halves-trace n D z p k n 0 fs (omega arith) (entry-roots D p D.roots roots) ∙ trace-exchanged (node_at true D) p fs n

-- so the network that they make is section 4's network of what the diagram computes, under the other order
pub exchanged-network : (n m p : ℕ) (order other : List ℕ) (D : Diagram) → T (is_order n order) → Exchanged n p order other → suc p < n
    → T (well_formed true n m D) → T (canonical true n m order D)
    → traced_network true (exchanged_trace (node_at true D) p n (map both D.roots)) ≡ network_of true (computed_table true n m order D) other
unfolding network_of filled
exchanged-network n m p order other D o x k w c =
    ap (traced_network true) (sym (exchanged-trace n m p order other D o x k w c))
    ∙ traced true n (map (reordered (computed_table true n m order D) other) (up_to m))
