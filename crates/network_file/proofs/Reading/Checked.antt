-- Numbers 24 and 32 of a network file: by the tests of a copy of its numbers, and of more cells than a network ever has.
-- Assumes nothing.
use Rattle.std.specs.Prelude.{Ok, Err}
use mathlib.Core.Path.{◌≡◌, ap, ◌∙◌}
use mathlib.Core.Bool.{true, false}
use mathlib.Core.List.{List}
use Prim.Native.Nat.{ℕ, ◌<◌}
use native.Mathlib.Omega.{arith}
use borrow.Author.Tests.{le-leb}
use lib.Dec.{T}
use lib.ListN.{length}
use Rattle.lists.proofs.Bools.{of_T, to-T}
use Rattle.lists.proofs.Numbers.UpTo.{length-map-up_to}
use Rattle.diagram.specs.Networks.Bound.{most_nodes}
use Rattle.diagram.specs.Networks.Diagram.{well_formed}
use Rattle.diagram.specs.Canonical.Computed.{canonical}
use Rattle.table.specs.declared.Refusal.TheVariants.{BadCells, NotCanonical}
use Rattle.table.specs.Answer.{unless, done}
use Rattle.table.specs.File.{file_inputs, file_outputs, file_order}
use Rattle.table.proofs.Files.Accepted.{AcceptedShape, unless-done}
use Rattle.lent.specs.Lent.{lent_diagram, roots_size}
use Rattle.lent.specs.Evaluate.{good_cells}
use Rattle.lent.proofs.Answered.{enough-cells}
use Rattle.canonical.specs.Canonical.{canonical_answer}
use Rattle.canonical.proofs.Answered.{many-none}
use Rattle.network_file.specs.File.{file_count, file_node, file_diagram, network_file_answer}
use Rattle.network_file.specs.Read.{read_state}
use Rattle.network_file.specs.Inner.Checked.{checked_answer}
use Rattle.network_file.proofs.Format.AcceptedNetwork.{accepted-network}
use Rattle.network_file.proofs.Reading.Copied.{outputs-fit, Copied, copied-diagram}
use Rattle.network_file.proofs.Reading.ReadState.{order-of, network-state}

-- the heading of an accepted file
pub shape_of : (file : List ℕ) → done (network_file_answer file) ≡ true → AcceptedShape file
shape_of file e = (accepted-network file (to-T e)).heading.shape

pub counted-nodes : (file : List ℕ) → length (file_diagram file).nodes ≡ file_count file
unfolding file_diagram
counted-nodes file = length-map-up_to (file_node file) (file_count file)

module _ (file : List ℕ) (a : AcceptedShape file) where
  -- a copy of the file's numbers, lent with the file's state
  module _ (cells roots : List ℕ) (c : Copied file cells roots) where
    pub lent-file : lent_diagram (file_count file) (file_outputs file) cells roots ≡ file_diagram file
    lent-file = copied-diagram file (outputs-fit file a) cells roots c

    pub good-file : good_cells (read_state file) roots cells ≡ well_formed true (file_inputs file) (file_outputs file) (file_diagram file)
    good-file =
        enough-cells (read_state file) roots cells c.enough-cells
        ∙ ap (well_formed true (file_inputs file) (file_outputs file)) lent-file

    pub copy-checked : canonical_answer (read_state file) roots cells ≡ checked_answer file
    unfolding canonical_answer checked_answer
    copy-checked =
        rw (le-leb roots_size (length roots) c.enough-roots, network-state file a, good-file, order-of file a, lent-file)

  -- more cells than a network ever has

  pub many-formed : most_nodes < file_count file → well_formed true (file_inputs file) (file_outputs file) (file_diagram file) ≡ true
      → Err NotCanonical ≡ checked_answer file
  unfolding checked_answer
  many-formed h e =
      let n = file_inputs file in
      let m = file_outputs file in
      let none : canonical true n m (file_order file) (file_diagram file) ≡ false =
      many-none n m (file_order file) (file_diagram file) a.inputs a.outputs a.order (to-T e) (omega (arith, counted-nodes file)) in
      rw (e, none)

  pub many-bad : well_formed true (file_inputs file) (file_outputs file) (file_diagram file) ≡ false → Err BadCells ≡ checked_answer file
  unfolding checked_answer
  many-bad e = rw e

-- a file that passes both tests
pub record Passed (file : List ℕ) : Type 0 where
  pub formed : T (well_formed true (file_inputs file) (file_outputs file) (file_diagram file))
  pub network : T (canonical true (file_inputs file) (file_outputs file) (file_order file) (file_diagram file))

pub passed : (file : List ℕ) → done (checked_answer file) ≡ true → Passed file
unfolding checked_answer
passed file e =
    let w = well_formed true (file_inputs file) (file_outputs file) (file_diagram file) in
    let k = canonical true (file_inputs file) (file_outputs file) (file_order file) (file_diagram file) in
    let u = unless-done w BadCells (unless k NotCanonical (Ok 0)) (to-T e) in
    let v = unless-done k NotCanonical (Ok 0) u.1 in
    record { formed = u.0; network = v.0 }

pub checked : (file : List ℕ) → Passed file → checked_answer file ≡ Ok 0
unfolding checked_answer
checked file p =
    let w : well_formed true (file_inputs file) (file_outputs file) (file_diagram file) ≡ true = of_T p.formed in
    let k : canonical true (file_inputs file) (file_outputs file) (file_order file) (file_diagram file) ≡ true = of_T p.network in
    rw (w, k)
