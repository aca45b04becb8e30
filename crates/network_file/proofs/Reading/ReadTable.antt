-- The table that a network file's cells compute: what is written of it, and demands 2 and 3 of it and the file's diagram.
-- Assumes nothing.
use mathlib.Core.Path.{◌≡◌, refl, sym, ap, ap₂, ◌∙◌, subst}
use mathlib.Core.Bool.{true}
use mathlib.Core.List.{List}
use Prim.Native.Nat.{ℕ, ◌*◌, ◌^◌, ◌≤◌}
use native.Mathlib.Omega.{arith}
use lib.Dec.{T}
use lib.ListN.{length}
use Rattle.lists.specs.Written.{over}
use Rattle.lists.proofs.Bools.{of_T, to-T}
use Rattle.diagram.specs.Networks.Bound.{most_outputs}
use Rattle.diagram.specs.Networks.Diagram.{Diagram}
use Rattle.diagram.specs.Orders.Order.{is_order}
use Rattle.diagram.specs.Table.{Table}
use Rattle.diagram.specs.Demands.{Least}
use Rattle.diagram.specs.Canonical.Computed.{computed_table, canonical}
use Rattle.diagram.proofs.Canonical.NetworkIff.{Drawn, solves-of, least-of}
use Rattle.diagram.proofs.Demands.{as-drawn}
use Rattle.table.specs.State.{order_of}
use Rattle.table.specs.File.{file_inputs, file_outputs, file_order}
use Rattle.table.specs.Stream.{plane_byte}
use Rattle.table.specs.Calls.{plane_size}
use Rattle.table.proofs.Files.Accepted.{AcceptedShape}
use Rattle.table.proofs.Files.Answers.{stream-small}
use Rattle.table.proofs.Planes.PlaneSize.{plane-size}
use Rattle.fill.specs.Calls.{held_table}
use Rattle.lent.specs.Tabulate.{lent_table, tabulate_values, tabulate_care}
use Rattle.lent.proofs.Sizes.{roots-size}
use Rattle.lent.proofs.Tables.Tabulated.{plane-bit}
use Rattle.lent.proofs.Tables.Tabulating.{tabulated_values, tabulated_care}
use Rattle.network_file.specs.File.{file_count, file_diagram}
use Rattle.network_file.specs.Read.{read_state, read_table, Given}
use Rattle.network_file.proofs.Reading.Copied.{Copied}
use Rattle.network_file.proofs.Reading.ReadState.{order-of, network-state}
use Rattle.network_file.proofs.Reading.Checked.{Passed, counted-nodes, lent-file, good-file}

-- a plane with the values, and one with the care
abbrev pub values_of : List ℕ → List ℕ → List ℕ
values_of file plane = over (plane_byte (λ x. x.value) (read_table file)) plane_size plane

abbrev pub care_of : List ℕ → List ℕ → List ℕ
care_of file plane = over (plane_byte (λ x. x.care) (read_table file)) plane_size plane

module _ (file : List ℕ) (a : AcceptedShape file) (p : Passed file) where
  -- what is tabulated of a copy of the file's numbers
  module _ (cells roots : List ℕ) (c : Copied file cells roots) where
    lent-table : lent_table (read_state file) roots cells ≡ read_table file
    lent-table =
        ap₂ (λ (o : List ℕ) (D : Diagram). computed_table true (file_inputs file) (file_outputs file) o D) (order-of file a)
        (lent-file file a cells roots c)

    module _ (values care : List ℕ) (hv : plane_size ≤ length values) (hc : plane_size ≤ length care) where
      pub tabulated : (tabulate_values (read_state file) roots cells values care ≡ values_of file values)
          × (tabulate_care (read_state file) roots cells values care ≡ care_of file care)
      tabulated =
          let s = read_state file in
          let long : most_outputs ≤ length roots = omega (arith, c.enough-roots, roots-size) in
          let held = network-state file a in
          let good = good-file file a cells roots c ∙ of_T p.formed in (
            tabulated_values s roots cells values care long hv hc held good
                ∙ ap (λ (t : Table). over (plane_byte (λ x. x.value) t) plane_size values) lent-table,
            tabulated_care s roots cells values care long hv hc held good
                ∙ ap (λ (t : Table). over (plane_byte (λ x. x.care) t) plane_size care) lent-table,
          )

  -- the table in the planes has what the diagram computes, every row cared
  module _ (values care : List ℕ) where
    pub drawn-file : Drawn true (file_inputs file) (file_outputs file) (file_order file) (file_diagram file)
        (held_table (read_state file) (values_of file values) (care_of file care))
    drawn-file =
        let h : file_outputs file * 2 ^ file_inputs file ≤ 8 * plane_size =
        omega (arith, stream-small (file_inputs file) (file_outputs file) a.inputs a.outputs, plane-size) in
        record {
          inputs = refl;
          outputs = refl;
          valued = λ j r hj hr. plane-bit (λ x. x.value) (read_table file) values j r hj hr h;
          cared = λ j r hj hr. to-T (plane-bit (λ x. x.care) (read_table file) care j r hj hr h);
        }

    pub given-file : (board : ℕ) → file_count file ≤ board
        → Given (read_state file) (values_of file values) (care_of file care) (file_diagram file) board
    given-file board h =
        let n = file_inputs file in
        let m = file_outputs file in
        let t = held_table (read_state file) (values_of file values) (care_of file care) in
        let o : T (is_order n (order_of (read_state file))) = subst (λ (l : List ℕ). T (is_order n l)) (sym (order-of file a)) a.order in
        let d : Drawn true n m (order_of (read_state file)) (file_diagram file) t =
        subst (λ (l : List ℕ). Drawn true n m l (file_diagram file) t) (sym (order-of file a)) drawn-file in
        let k : T (canonical true n m (order_of (read_state file)) (file_diagram file)) =
        subst (λ (l : List ℕ). T (canonical true n m l (file_diagram file))) (sym (order-of file a)) p.network in
        let s = solves-of true n m (order_of (read_state file)) (file_diagram file) o p.formed t d in
        record {
          solves = s;
          drawn = as-drawn true t (order_of (read_state file)) (file_diagram file) s o;
          counted = counted-nodes file;
          fits = omega (arith, counted-nodes file);
          least =
              subst (Least true t (order_of (read_state file))) (counted-nodes file)
              (least-of true n m (order_of (read_state file)) (file_diagram file) o p.formed t d k);
        }
