-- The links of a network under an exchanged order (document 02, 2.7), made in buffers: a level's entries with marks that tell most of
-- them apart, and links put one after the other.
-- Assumes nothing.
use Rattle.std.specs.Prelude.{◌≡◌, List, [], ◌∷◌, ℕ, ◌+◌, ◌-◌, ◌*◌, ◌/◌, ◌%◌, ◌≤◌, ◌<◌, T, length, get_or}
use Rattle.lists.specs.Lists.{distinct}
use Rattle.diagram.specs.Filling.Fill.{Link}
use Rattle.diagram.specs.Networks.Diagram.{Node}
use Rattle.diagram.specs.Exchanging.Exchange.{Pair, both, normal_pair, same_class, level_pairs}
use Rattle.matching.specs.Links.{link_number}
use Rattle.lent.specs.Lent.{lent_node}
use Rattle.network.specs.Levels.{stored_limit, put_stored}

-- how many entries a level may have: as many as a filling has links (fill's law links-room); src/seen.rt has the constant, PAIRS
abbrev pub most_pairs : ℕ
most_pairs = 4350

-- the node of lent cells that a reference is to, however many of them are counted
abbrev pub lent_at : List ℕ → ℕ → Node
lent_at cells r = lent_node cells (r / 2 - 1)

-- how many slots there are; src/seen.rt has the constant, SLOTS
abbrev pub slots : ℕ
slots = 8192

-- a slot of a class, by its normal pair: classes in different slots differ, and those of one reference have a slot each
unfoldable pub pair_slot : Pair → ℕ
pair_slot f = (f.low / 2 + 1021 * (f.high + stored_limit - f.low)) % slots

-- the entries of a level, each class once; the slot of each has a mark
pub record Seen (gs : List Pair) (marks : List ℕ) : Type 0 where
  pub apart : T (distinct same_class gs)
  pub marked : (e : ℕ) → e < length gs → 1 ≤ get_or marks (pair_slot (normal_pair (get_or gs e (both 0)))) 0

-- links put from byte i on
abbrev pub put_links : List ℕ → ℕ → List Link → List ℕ
put_links work i [] = work
put_links work i (k ∷ ks) = put_links (put_stored work i (link_number k)) (i + 2) ks

-- how many entries each of n levels has; fs are the outputs' pairs
abbrev pub Entered : (ℕ → Node) → ℕ → ℕ → List Pair → List ℕ → Type 0
Entered node p n fs entries = (q : ℕ) → q < n → get_or entries q 0 ≡ length (level_pairs node p fs q)
