-- Network files of equal tables have equal bytes (document 02, 2.10): equal tables have one network, and of one network the writer makes one
-- file, which every accepted file is.
-- Assumes nothing.
use mathlib.Core.Path.{◌≡◌, sym, ap, ◌∙◌, subst}
use mathlib.Core.Bool.{true, cond}
use mathlib.Core.List.{List, map}
use Prim.Native.Nat.{ℕ, ◌+◌, ◌*◌, ◌<◌, ◌^◌}
use native.Mathlib.Omega.{arith}
use borrow.Author.Tests.{ltb-true}
use lib.Dec.{T, ltb}
use lib.ListN.{length, get_or}
use Rattle.lists.specs.Lists.{up_to}
use Rattle.lists.proofs.Bools.{split, to-T}
use Rattle.lists.proofs.Numbers.UpTo.{get_or-map-up_to, map-up_to-cong}
use Rattle.diagram.specs.Networks.Bound.{most_variables}
use Rattle.diagram.specs.Networks.Diagram.{Diagram}
use Rattle.diagram.specs.Orders.Order.{is_order}
use Rattle.diagram.specs.Table.{FullyCared, network_of}
use Rattle.diagram.specs.Canonical.SameCells.{SameBits, value_at}
use Rattle.diagram.proofs.Canonical.NetworkIff.{Drawn, canonical-table}
use Rattle.diagram.proofs.Canonical.SameCells.{same-network, cared-cells}
use Rattle.block.specs.Block.{byte}
use Rattle.block.specs.Numbers.{are_bytes}
use Rattle.table.specs.declared.Stage.TheVariants.{Network}
use Rattle.table.specs.declared.State.{State}
use Rattle.table.specs.State.{order_of}
use Rattle.table.proofs.Outcomes.{outcome-state}
use Rattle.table.specs.File.{file_inputs, file_outputs, file_order}
use Rattle.table.specs.Calls.{loaded_order}
use Rattle.table.proofs.Files.Accepted.{AcceptedShape}
use Rattle.fill.specs.Calls.{held_table}
use Rattle.lent.proofs.Nodes.{same_number}
use Rattle.network_file.specs.File.{file_count, file_root, cell_number, file_node, file_diagram}
use Rattle.network_file.specs.Read.{read_answer, read_state, read_table, read_outcome, read_values, read_care}
use Rattle.network_file.specs.SameFiles.{Found, reads, state_left, table_left, SameFiles}
use Rattle.network_file.specs.Inner.Checked.{Readable}
use Rattle.network_file.proofs.Format.AcceptedNetwork.{accepted-network}
use Rattle.network_file.proofs.Reading.Copied.{outputs-fit, file_cells, file_roots, Copied, own-copy}
use Rattle.network_file.proofs.Reading.Checked.{shape_of, counted-nodes, Passed, passed}
use Rattle.network_file.proofs.Reading.ReadAnswer.{success}
use Rattle.network_file.proofs.Reading.ReadState.{order-of}
use Rattle.network_file.proofs.Reading.ReadTable.{values_of, care_of, drawn-file}
use Rattle.network_file.proofs.RoundTrips.WrittenFile.{written_bytes}
use Rattle.network_file.proofs.RoundTrips.WrittenSmall.{bytes_small}
use Rattle.network_file.proofs.RoundTrips.SameBytes.{written_same}

-- what an accepted read leaves
module _ (f : Found) (d : reads f ≡ true) where
  readable : Readable f.file f.values f.care f.roots f.cells
  readable = success f.file f.values f.care f.work f.roots f.cells d

  shape : AcceptedShape f.file
  shape = shape_of f.file readable.accepted

  tested : Passed f.file
  tested = passed f.file readable.checked

  state-left : state_left f ≡ read_state f.file
  unfolding read_outcome
  state-left =
      outcome-state (read_answer f.file f.values f.care f.work f.roots f.cells) f.state (read_state f.file) d

  order-left : order_of (state_left f) ≡ file_order f.file
  order-left = ap order_of state-left ∙ order-of f.file shape

  table-left : table_left f ≡ held_table (read_state f.file) (values_of f.file f.values) (care_of f.file f.care)
  unfolding read_values read_care
  table-left = rw (state-left, d)

  -- in its rows is what the file's cells compute, so the file's diagram is its network
  drawn-left : Drawn true (file_inputs f.file) (file_outputs f.file) (file_order f.file) (file_diagram f.file) (table_left f)
  drawn-left =
      subst (Drawn true (file_inputs f.file) (file_outputs f.file) (file_order f.file) (file_diagram f.file)) (sym table-left)
      (drawn-file f.file shape tested f.values f.care)

  network-left : network_of true (table_left f) (file_order f.file) ≡ file_diagram f.file
  network-left =
      canonical-table true (file_inputs f.file) (file_outputs f.file) (file_order f.file) (file_diagram f.file) shape.order
      tested.formed (table_left f) drawn-left tested.network

  -- an output and a row of the state left are the file's

  output-left : (j : ℕ) → j < (state_left f).m → j < file_outputs f.file
  output-left j h = subst (λ (s : State). j < s.m) state-left h

  row-left : (r : ℕ) → r < 2 ^ (state_left f).n → r < 2 ^ file_inputs f.file
  row-left r h = subst (λ (s : State). r < 2 ^ s.n) state-left h

  order-valid : T (is_order (state_left f).n (file_order f.file))
  order-valid = subst (λ (s : State). T (is_order s.n (file_order f.file))) (sym state-left) shape.order

  cared-left : FullyCared (table_left f)
  cared-left j r hj hr = drawn-left.cared j r (output-left j hj) (row-left r hr)

-- files of the same n, m and order with one diagram
module _ (F G : List ℕ) (en : file_inputs F ≡ file_inputs G) (em : file_outputs F ≡ file_outputs G) (eo : file_order F ≡ file_order G)
    (e : file_diagram F ≡ file_diagram G) where
  counts_same : file_count F ≡ file_count G
  counts_same = sym (counted-nodes F) ∙ ap (λ (D : Diagram). length D.nodes) e ∙ counted-nodes G

  numbers-same : (x : ℕ) → x < 3 * file_count F → cell_number F x ≡ cell_number G x
  unfolding file_diagram
  numbers-same =
      same_number (file_count F) (cell_number F) (cell_number G)
      (ap (λ (D : Diagram). D.nodes) e ∙ ap (λ (k : ℕ). map (file_node G) (up_to k)) (sym counts_same))

  roots-same : (j : ℕ) → j < file_outputs F → file_root F j ≡ file_root G j
  unfolding file_diagram
  roots-same j h =
      sym (get_or-map-up_to (file_root F) (file_outputs F) j 0 h) ∙ ap (λ (D : Diagram). get_or D.roots j 0) e
      ∙ get_or-map-up_to (file_root G) (file_outputs G) j 0 (omega arith)

  entry-same : (p : ℕ) → p < file_inputs F → byte F 0 (6 + p) ≡ byte G 0 (6 + p)
  entry-same p h =
      sym (get_or-map-up_to (λ q. byte F 0 (6 + q)) (file_inputs F) p 0 h) ∙ ap (λ (l : List ℕ). get_or l p 0) eo
      ∙ get_or-map-up_to (λ q. byte G 0 (6 + q)) (file_inputs G) p 0 (omega arith)

  orders-same : loaded_order F ≡ loaded_order G
  orders-same =
      let n : ℕ = file_inputs G in
      ap (λ (k : ℕ). map (λ p. cond (ltb p k) (byte F 0 (6 + p)) 0) (up_to most_variables)) en
      ∙ map-up_to-cong most_variables (λ p. cond (ltb p n) (byte F 0 (6 + p)) 0) (λ p. cond (ltb p n) (byte G 0 (6 + p)) 0)
      (λ p h. split (ltb p (file_inputs G)) (λ l. rw l (entry-same p (omega (arith, ltb-true p (file_inputs G) l)))) (λ l. rw l))

  states-same : read_state F ≡ read_state G
  states-same = λ i. record { n = en i; m = em i; order = orders-same i; count = counts_same i; stage = Network }

  -- the numbers of the one are a copy of the other's
  copy-same : Copied F (file_cells F) (file_roots F) → Copied G (file_cells F) (file_roots F)
  copy-same c =
      record {
        cell = λ x h. let k : x < 3 * file_count F = omega (arith, counts_same) in c.cell x k ∙ numbers-same x k;
        root = λ j h. let k : j < file_outputs F = omega arith in c.root j k ∙ roots-same j k;
        enough-cells = omega (arith, c.enough-cells, counts_same);
        enough-roots = c.enough-roots;
      }

-- both ways, of two accepted reads
module _ (f g : Found) (df : reads f ≡ true) (dg : reads g ≡ true) (en : (state_left f).n ≡ (state_left g).n)
    (em : (state_left f).m ≡ (state_left g).m) (eo : order_of (state_left f) ≡ order_of (state_left g)) where
  inputs-same : file_inputs f.file ≡ file_inputs g.file
  inputs-same = ap (λ (s : State). s.n) (sym (state-left f df)) ∙ en ∙ ap (λ (s : State). s.n) (state-left g dg)

  outputs-same : file_outputs f.file ≡ file_outputs g.file
  outputs-same = ap (λ (s : State). s.m) (sym (state-left f df)) ∙ em ∙ ap (λ (s : State). s.m) (state-left g dg)

  order_same : file_order f.file ≡ file_order g.file
  order_same = sym (order-left f df) ∙ eo ∙ order-left g dg

  bytes-table : f.file ≡ g.file → SameBits (state_left f).n (state_left f).m (value_at (table_left f)) (value_at (table_left g))
  bytes-table e j r hj hr =
      (drawn-left f df).valued j r (output-left f df j hj) (row-left f df r hr)
      ∙ ap (λ (file : List ℕ). value_at (read_table file) j r) e
      ∙ sym ((drawn-left g dg).valued j r (output-left g dg j (omega arith)) (row-left g dg r (subst (λ (n : ℕ). r < 2 ^ n) en hr)))

  table-diagram : SameBits (state_left f).n (state_left f).m (value_at (table_left f)) (value_at (table_left g))
      → file_diagram f.file ≡ file_diagram g.file
  table-diagram same =
      sym (network-left f df)
      ∙ same-network
      ((cared-cells true (table_left f) (table_left g) (file_order f.file) (file_order g.file) en em order_same (order-valid f df)
      (cared-left f df) (cared-left g dg)).0 same)
      ∙ network-left g dg

  -- each file is what the writer makes of the one copy
  diagram-bytes : T (are_bytes f.file) → T (are_bytes g.file) → file_diagram f.file ≡ file_diagram g.file → f.file ≡ g.file
  diagram-bytes bf bg e =
      let F : List ℕ = f.file in
      let G : List ℕ = g.file in
      let copy : Copied F (file_cells F) (file_roots F) = own-copy F (outputs-fit F (shape f df)) in
      sym (written_same F (file_roots F) (file_cells F) (bytes_small F bf) (accepted-network F (to-T (readable f df).accepted)) copy)
      ∙ ap (λ (s : State). written_bytes s (file_roots F) (file_cells F)) (states-same F G inputs-same outputs-same order_same e)
      ∙ written_same G (file_roots F) (file_cells F) (bytes_small G bg) (accepted-network G (to-T (readable g dg).accepted))
      (copy-same F G inputs-same outputs-same order_same e copy)

pub same-files : SameFiles
unfolding SameFiles
same-files f g bf bg df dg en em eo = (
  λ same. diagram-bytes f g df dg en em eo bf bg (table-diagram f g df dg en em eo same),
  bytes-table f g df dg en em eo,
)
