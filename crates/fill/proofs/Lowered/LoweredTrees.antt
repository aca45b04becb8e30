-- The lowered candidates of a level: their rows, their bytes, and what is counted with the variable on top.
-- Assumes nothing.
use mathlib.Core.Path.{◌≡◌, ap, ◌∙◌}
use mathlib.Core.Bool.{true}
use mathlib.Core.List.{List, [], ◌∷◌, map}
use Prim.Native.Nat.{ℕ, zero, suc, ◌*◌, ◌^◌, ◌≤◌}
use native.Mathlib.Nat.{not-suc-le-zero}
use native.Mathlib.Omega.{arith}
use lib.ListN.{length}
use Rattle.diagram.specs.Tree.{Tree}
use Rattle.diagram.specs.Filling.Fill.{Row, level, fill}
use Rattle.diagram.specs.Networks.Network.{counts}
use Rattle.diagram.proofs.Orders.Lowered.{exchange}
use Rattle.diagram.proofs.Orders.LoweredCounts.{lowered_next, lowered_counts, lowered-one, lowered-suc, length-lowered-next}
use Rattle.fill.specs.Inner.Descent.{level_below}
use Rattle.fill.specs.Inner.Lowering.{lowered_below}
use Rattle.matching.proofs.Parts.PartExchange.{exchanged-parts}
use Rattle.fill.proofs.Descents.TreeDescent.{entries_of, parts_of, below-bytes}
use Rattle.matching.proofs.Linking.TreeLevel.{level_part}
use Rattle.fill.proofs.Room.RegionRoom.{Rows, entry-rows}

-- the lowered candidates have no more rows
pub rows-lowered : {d : ℕ} (fs : List (Tree Row (suc (suc d)))) → Rows fs → Rows (lowered_next fs)
rows-lowered {d} fs h =
    let n = length (entries_of fs) in
    let e : length (lowered_next fs) * 2 ^ suc d ≡ (2 * n) * 2 ^ suc d = ap (λ (k : ℕ). k * 2 ^ suc d) (length-lowered-next fs) in
    let q : n * 2 ^ suc (suc d) ≡ n * (2 * 2 ^ suc d) = ap (λ (k : ℕ). n * k) (omega arith) in
    omega (arith, entry-rows fs h)

pub lowered-bytes : {d : ℕ} (fs : List (Tree Row (suc (suc d)))) → lowered_below d (parts_of fs) ≡ level_part (level true [] (lowered_next fs))
lowered-bytes {d} fs = ap (level_below (suc d)) (exchanged-parts (entries_of fs)) ∙ below-bytes (map exchange (entries_of fs))

-- with the variable on top
pub lowered-top : (d : ℕ) → 1 ≤ d → (fs : List (Tree Row d))
    → (lower : List (List ℕ)) × (lowered_counts d fs ≡ counts true d (fill true d fs) ∷ lower)
lowered-top zero h fs = absurd (not-suc-le-zero h)
lowered-top (suc zero) h fs = (_, lowered-one fs)
lowered-top (suc (suc d)) h fs = (_, lowered-suc d fs)
