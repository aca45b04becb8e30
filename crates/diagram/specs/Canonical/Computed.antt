-- Request 2.2 of document 02, 'section 4's network of what they compute': the table that a diagram computes, and whether the diagram is
-- the network of that table. A reduced diagram with section 4's numbering is the canonical one of its functions.
-- Assumes nothing.
use Rattle.std.specs.Prelude.{Bool, true, List, ℕ, get_or}
use Rattle.diagram.specs.Networks.Diagram.{Diagram, gives, same_diagram}
use Rattle.diagram.specs.Orders.Order.{row_under}
use Rattle.diagram.specs.Table.{Table, network_of}

-- 'the table that the cells compute', with 'every row cared': at each row of output j what the row gives at root j
abbrev pub computed_table : Bool → ℕ → ℕ → List ℕ → Diagram → Table
computed_table inv n m order D =
    record {
      n = n;
      m = m;
      row = λ j r. record { value = gives inv D (row_under n order r) n (get_or D.roots j 0); care = true };
    }

-- whether nodes and roots are section 4's network of what they compute under the order
unfoldable pub canonical : Bool → ℕ → ℕ → List ℕ → Diagram → Bool
canonical inv n m order D = same_diagram D (network_of inv (computed_table inv n m order D) order)
