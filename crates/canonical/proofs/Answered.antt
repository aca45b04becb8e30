-- What the test of number 32 answers, one test after the other, and what a success says.
-- Assumes nothing.
use Rattle.std.specs.Prelude.{Ok, Err}
use mathlib.Core.Path.{◌≡◌, refl, ◌∙◌}
use mathlib.Core.Bool.{true, false, not}
use mathlib.Core.List.{List}
use Prim.Native.Nat.{ℕ, ◌/◌, ◌≤◌, ◌<◌}
use native.Mathlib.Omega.{arith}
use borrow.Author.Tests.{le-leb, lt-leb}
use lib.Dec.{T, leb, leb→le}
use lib.ListN.{length}
use Rattle.lists.proofs.Bools.{split, of_T, to-T, and_r}
use Rattle.lists.proofs.Numbers.UpTo.{length-map-up_to}
use Rattle.diagram.specs.Networks.Diagram.{Diagram, well_formed}
use Rattle.diagram.specs.Networks.Bound.{most_variables, most_outputs, most_nodes}
use Rattle.diagram.specs.Orders.Order.{is_order}
use Rattle.diagram.specs.Canonical.Computed.{canonical}
use Rattle.diagram.specs.Canonical.Structure.{structured}
use Rattle.diagram.proofs.Canonical.NetworkIff.{network-iff, canonical-count}
use Rattle.table.specs.declared.Refusal.TheVariants.{ShortBuffer, NoNetwork, BadCells, NotCanonical}
use Rattle.table.specs.declared.State.{State}
use Rattle.table.specs.Answer.{done}
use Rattle.table.specs.State.{order_of, stage_of, is_nothing, is_network}
use Rattle.table.proofs.Files.Accepted.{unless-done}
use Rattle.lent.specs.Lent.{lent_node, lent_diagram, roots_size}
use Rattle.lent.specs.Evaluate.{good_cells}
use Rattle.lent.proofs.Answered.{network-held, followable, rooted}
use Rattle.canonical.specs.Canonical.{canonical_answer}

lent-count : (count m : ℕ) (cells roots : List ℕ) → length (lent_diagram count m cells roots).nodes ≡ count
unfolding lent_diagram
lent-count count m cells roots = length-map-up_to (lent_node cells) count

-- a diagram with more nodes than a network ever has is none's
pub many-none : (n m : ℕ) (order : List ℕ) (D : Diagram) → n ≤ most_variables → m ≤ most_outputs → T (is_order n order)
    → T (well_formed true n m D) → most_nodes < length D.nodes → canonical true n m order D ≡ false
many-none n m order D hn hm o w h =
    split (canonical true n m order D) (λ e. absurd (omega (arith, canonical-count n m order D o w hn hm (to-T e)))) (λ e. e)

module _ (s : State) (roots cells : List ℕ) where
  pub answer-short : length roots < most_outputs → Err ShortBuffer ≡ canonical_answer s roots cells
  unfolding canonical_answer roots_size
  answer-short h = rw (lt-leb most_outputs (length roots) h)

  module _ (long : most_outputs ≤ length roots) where
    pub answer-no-network : is_network (stage_of s) ≡ false → Err NoNetwork ≡ canonical_answer s roots cells
    unfolding canonical_answer roots_size
    answer-no-network e = rw (le-leb most_outputs (length roots) long, e)

    module _ (held : is_network (stage_of s) ≡ true) where
      pub answer-bad-cells : good_cells s roots cells ≡ false → Err BadCells ≡ canonical_answer s roots cells
      unfolding canonical_answer roots_size
      answer-bad-cells e = rw (le-leb most_outputs (length roots) long, held, e)

      module _ (good : good_cells s roots cells ≡ true) where
        formed : T (well_formed true s.n s.m (lent_diagram s.count s.m cells roots))
        unfolding good_cells
        formed = and_r (leb s.count (length cells / 3)) _ (to-T good)

        ordered : T (is_order s.n (order_of s))
        ordered = (followable s roots cells long held good).ordered

        not-canonical : canonical true s.n s.m (order_of s) (lent_diagram s.count s.m cells roots) ≡ false
            → Err NotCanonical ≡ canonical_answer s roots cells
        unfolding canonical_answer roots_size
        not-canonical e = rw (le-leb most_outputs (length roots) long, held, good, e)

        pub answer-many : most_nodes < s.count → Err NotCanonical ≡ canonical_answer s roots cells
        answer-many h =
            not-canonical
            (many-none s.n s.m (order_of s) (lent_diagram s.count s.m cells roots)
            (followable s roots cells long held good).levelled.few (rooted s roots cells long held good).few ordered formed
            (omega (arith, lent-count s.count s.m cells roots)))

        iff : canonical true s.n s.m (order_of s) (lent_diagram s.count s.m cells roots)
            ≡ structured true s.n (lent_diagram s.count s.m cells roots)
        iff = network-iff true s.n s.m (order_of s) (lent_diagram s.count s.m cells roots) ordered formed

        pub answer-not : structured true s.n (lent_diagram s.count s.m cells roots) ≡ false
            → Err NotCanonical ≡ canonical_answer s roots cells
        answer-not e = not-canonical (iff ∙ e)

        pub answer-done : structured true s.n (lent_diagram s.count s.m cells roots) ≡ true
            → Ok 0 ≡ canonical_answer s roots cells
        unfolding canonical_answer roots_size
        answer-done e = rw (le-leb most_outputs (length roots) long, held, good, iff ∙ e)

-- what a success says
pub record Success (s : State) (roots cells : List ℕ) : Type 0 where
  pub long : roots_size ≤ length roots
  pub held : T (not (is_nothing (stage_of s)))
  pub enough : s.count ≤ length cells / 3
  pub formed : T (well_formed true s.n s.m (lent_diagram s.count s.m cells roots))
  pub network : T (canonical true s.n s.m (order_of s) (lent_diagram s.count s.m cells roots))
  pub few : s.count ≤ most_nodes

pub success : (s : State) (roots cells : List ℕ) → T (done (canonical_answer s roots cells)) → Success s roots cells
unfolding canonical_answer roots_size
success s roots cells t =
    let D : Diagram = lent_diagram s.count s.m cells roots in
    let r = unless-done (leb most_outputs (length roots)) ShortBuffer _ t in
    let n = unless-done (is_network (stage_of s)) NoNetwork _ r.1 in
    let g = unless-done (good_cells s roots cells) BadCells _ n.1 in
    let c = unless-done (canonical true s.n s.m (order_of s) D) NotCanonical (Ok 0) g.1 in
    let long : most_outputs ≤ length roots = leb→le most_outputs (length roots) r.0 in
    let held : is_network (stage_of s) ≡ true = of_T n.0 in
    let good : good_cells s roots cells ≡ true = of_T g.0 in
    let f = followable s roots cells long held good in
    let w = formed s roots cells long held good in
    record {
      long = long;
      held = network-held (stage_of s) n.0;
      enough = f.levelled.held;
      formed = w;
      network = c.0;
      few = omega (
        arith,
        lent-count s.count s.m cells roots,
        canonical-count s.n s.m (order_of s) D f.ordered w f.levelled.few (rooted s roots cells long held good).few c.0,
      );
    }
