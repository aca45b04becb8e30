-- The sizes of a network file as numbers: the blocks that cells take, and the longest file.
-- Assumes nothing.
use mathlib.Core.Path.{◌≡◌, refl}
use Prim.Native.Nat.{ℕ, ◌≤◌, ◌<◌}
use native.Mathlib.Omega.{arith}
use Rattle.diagram.specs.Networks.Bound.{most_nodes}
use Rattle.block.specs.Numbers.{number_limit}
use Rattle.network_file.specs.File.{cell_blocks}
use Rattle.network_file.specs.Write.{file_size}
use Rattle.network_file.specs.Inner.Writable.{most_cell_blocks}

-- src/lib.rt has the constant, FILE
pub file-size : file_size ≡ 13824
unfolding file_size cell_blocks
file-size = refl

-- the blocks of as many cells as a network may have
pub cell-blocks-most : (count : ℕ) → count ≤ most_nodes → cell_blocks count ≤ most_cell_blocks
unfolding cell_blocks
cell-blocks-most count h = omega arith

-- and of the largest count that a heading can have
pub few-blocks : (count : ℕ) → count < number_limit → cell_blocks count < number_limit
unfolding cell_blocks
few-blocks count h = omega arith
