-- A copy of a network file's cells and roots in lent numbers: the diagram of those is the file's.
-- Assumes nothing.
use mathlib.Core.Path.{◌≡◌, sym, ap₂, ◌∙◌, subst₂}
use mathlib.Core.List.{List, map}
use Prim.Native.Nat.{ℕ, ◌*◌, ◌/◌, ◌≤◌, ◌<◌}
use native.Mathlib.Omega.{arith}
use lib.ListN.{length, get_or}
use Rattle.lists.specs.Lists.{up_to}
use Rattle.lists.specs.Written.{over}
use Rattle.lists.proofs.Numbers.UpTo.{length-map-up_to, get_or-map-up_to, map-up_to-cong}
use Rattle.lists.proofs.Written.Over.{length_over, get_d_over}
use Rattle.diagram.specs.Networks.Diagram.{Node}
use Rattle.table.specs.File.{file_outputs}
use Rattle.table.proofs.Files.Accepted.{AcceptedShape}
use Rattle.lent.specs.Lent.{number_in, lent_diagram, roots_size}
use Rattle.lent.proofs.Nodes.{lent-diagram, nodes-same}
use Rattle.lent.proofs.Sizes.{roots-size}
use Rattle.network_file.specs.File.{file_count, file_root, cell_number, file_diagram}

-- an accepted heading has a root for each output
pub outputs-fit : (file : List ℕ) → AcceptedShape file → file_outputs file ≤ roots_size
outputs-fit file a = omega (arith, a.outputs, roots-size)

-- the numbers of a file's cells, and all the roots that its heading has, as lists

abbrev pub file_cells : List ℕ → List ℕ
file_cells file = map (cell_number file) (up_to (3 * file_count file))

abbrev pub file_roots : List ℕ → List ℕ
file_roots file = map (file_root file) (up_to roots_size)

-- lent numbers that have the counted cells of a file and the roots of its outputs
pub record Copied (file cells roots : List ℕ) : Type 0 where
  pub cell : (x : ℕ) → x < 3 * file_count file → get_or cells x 0 ≡ cell_number file x
  pub root : (j : ℕ) → j < file_outputs file → get_or roots j 0 ≡ file_root file j
  pub enough-cells : file_count file ≤ length cells / 3
  pub enough-roots : roots_size ≤ length roots

module _ (file : List ℕ) (fit : file_outputs file ≤ roots_size) where
  -- they are the file's diagram
  pub copied-diagram : (cells roots : List ℕ) → Copied file cells roots
      → lent_diagram (file_count file) (file_outputs file) cells roots ≡ file_diagram file
  unfolding file_diagram
  copied-diagram cells roots c =
      lent-diagram (file_count file) (file_outputs file) cells roots (omega (arith, c.enough-roots))
      ∙ ap₂ (λ (x : List Node) (y : List ℕ). record { nodes = x; roots = y })
      (nodes-same (file_count file) (number_in cells) (cell_number file) c.cell)
      (map-up_to-cong (file_outputs file) (number_in roots) (file_root file) c.root)

  -- the file's own lists are a copy
  pub own-copy : Copied file (file_cells file) (file_roots file)
  own-copy =
      record {
        cell = λ x h. get_or-map-up_to (cell_number file) (3 * file_count file) x 0 h;
        root = λ j h. get_or-map-up_to (file_root file) roots_size j 0 (omega arith);
        enough-cells = omega (arith, length-map-up_to (cell_number file) (3 * file_count file));
        enough-roots = omega (arith, length-map-up_to (file_root file) roots_size);
      }

  -- and so are the file's numbers written over lent ones
  pub copied-over : (cells roots cells' roots' : List ℕ) → 3 * file_count file ≤ length cells → roots_size ≤ length roots
      → cells' ≡ over (cell_number file) (3 * file_count file) cells → roots' ≡ over (file_root file) roots_size roots
      → Copied file cells' roots'
  copied-over cells roots cells' roots' hc hr ec er =
      subst₂ (Copied file) (sym ec) (sym er)
      (record {
        cell = λ x b. get_d_over (cell_number file) (3 * file_count file) cells x 0 b;
        root = λ j b. get_d_over (file_root file) roots_size roots j 0 (omega arith);
        enough-cells = omega (arith, length_over (cell_number file) (3 * file_count file) cells hc);
        enough-roots = omega (arith, length_over (file_root file) roots_size roots hr);
      })
