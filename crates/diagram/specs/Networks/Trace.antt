-- The network read off the links of the filling, level by level: what a build that never looks at the segments makes of them.
-- The law `traced` says that it is section 4's network. `lss` are the links of the levels below a level, two an entry.
-- Assumes nothing.
use Rattle.std.specs.Prelude.{Bool, false, cond, ◌&&◌, List, [], ◌∷◌, ◌++◌, map, ℕ, suc, ◌+◌, eqb, get_or}
use Rattle.std.specs.Bool.{beq}
use Rattle.lists.specs.Bits.{digit}
use Rattle.diagram.specs.Filling.Fill.{Link, const, entry}
use Rattle.diagram.specs.Networks.Diagram.{Node, Diagram, inverts, opposite}
use Rattle.diagram.specs.Networks.Network.{reference}

abbrev pub same_link : Link → Link → Bool
same_link (const v) (const w) = beq v w
same_link (const v) (entry k i) = false
same_link (entry k i) (const w) = false
same_link (entry k i) (entry l j) = eqb k l && beq i j

-- how many entries have two links that differ
abbrev pub differing : List Link → ℕ
differing [] = 0
differing (k ∷ []) = 0
differing (k ∷ l ∷ ls) = cond (same_link k l) (differing ls) (suc (differing ls))

-- the reference that a link stands for, where `refs` are the entries'
abbrev pub link_ref : List ℕ → Link → ℕ
link_ref refs (const v) = digit v
link_ref refs (entry k i) = opposite i (get_or refs k 0)

-- the references of a level's entries, by their links; the level's next node stands at index `at`
abbrev pub entry_refs : Bool → ℕ → List ℕ → List Link → List ℕ
entry_refs inv at refs [] = []
entry_refs inv at refs (k ∷ []) = []
entry_refs inv at refs (k ∷ l ∷ ls) =
    cond (same_link k l) (link_ref refs k ∷ entry_refs inv at refs ls)
    (reference inv at (inverts inv (link_ref refs k)) ∷ entry_refs inv (suc at) refs ls)

-- the nodes of a level p: those of the entries with two links that differ, each inverted where its low edge would invert
abbrev pub entry_nodes : Bool → ℕ → List ℕ → List Link → List Node
entry_nodes inv p refs [] = []
entry_nodes inv p refs (k ∷ []) = []
entry_nodes inv p refs (k ∷ l ∷ ls) =
    cond (same_link k l) (entry_nodes inv p refs ls)
    (record {
      level = p;
      low = opposite (inverts inv (link_ref refs k)) (link_ref refs k);
      high = opposite (inverts inv (link_ref refs k)) (link_ref refs l);
    }
    ∷ entry_nodes inv p refs ls)

-- the references of the entries above `lss`, where `base` nodes stand at the levels above
unfoldable pub traced_refs : Bool → ℕ → List (List Link) → List ℕ
traced_refs inv base [] = []
traced_refs inv base (ls ∷ lss) = entry_refs inv base (traced_refs inv (base + differing ls) lss) ls

-- the nodes from level p on
unfoldable pub traced_nodes : Bool → ℕ → ℕ → List (List Link) → List Node
traced_nodes inv p base [] = []
traced_nodes inv p base (ls ∷ lss) =
    entry_nodes inv p (traced_refs inv (base + differing ls) lss) ls ++ traced_nodes inv (suc p) (base + differing ls) lss

-- the network of the outputs' links and the levels' links below them
unfoldable pub traced_network : Bool → List (List Link) → Diagram
traced_network inv [] = record { nodes = []; roots = [] }
traced_network inv (ls ∷ lss) = record { nodes = traced_nodes inv 0 0 lss; roots = map (link_ref (traced_refs inv 0 lss)) ls }

-- how many nodes stand at each level
unfoldable pub traced_counts : List (List Link) → List ℕ
traced_counts [] = []
traced_counts (ls ∷ lss) = map differing lss
