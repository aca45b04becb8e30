use mathlib.Core.Path.{◌≡◌, refl, ap, ◌∙◌}
use Prim.Native.Nat.{ℕ, suc, ◌+◌, ◌*◌, ◌≤◌}
use native.Mathlib.Omega.{arith}
use lib.ListN.{length}
use Rattle.lists.specs.Written.{over}
use Rattle.lists.proofs.Written.Over.{length_over}
use Rattle.block.specs.Block.{block_size}
use Rattle.network_file.specs.Write.{file_byte}
use Rattle.network_file.proofs.Format.FileSizes.{file-size, cell-blocks-most}
use Rattle.network_file.proofs.Writing.WrittenBlocks.{over-further, over-already}
use Rattle.network_file.proofs.blocks.write_blocks.Goals as goal
use Rattle.network_file.proofs.blocks.write_blocks.Goals.{At-loop-k}

-- block k has its room
room : (c : At-loop-k) → c.loop-k.k ≤ suc c.blocks_for-blocks.result
    → block_size * c.loop-k.k ≤ length c.args.file.now
room c h =
    omega (arith, h, c.blocks_for-blocks.ensures, file-size, cell-blocks-most c.args.state.count c.requires.0.counted, c.requires.1)

-- the file keeps its length
same : (c : At-loop-k) → length c.loop-k.file ≡ length c.args.file.now
same c =
    let l = c.loop-k in
    let a = c.args in
    ap length l.invariant.1
    ∙ length_over (file_byte a.state a.roots.now a.cells.now) (block_size * l.k) a.file.now (room c l.invariant.0)

pub loop-k-init : goal.loop-k-init
loop-k-init c =
    (omega arith, refl)

pub write_block-requires : goal.write_block-requires
write_block-requires c =
    let a = c.args in
    let few = cell-blocks-most a.state.count c.requires.0.counted in record {
      writable = (c.requires.0, omega (arith, few, c.blocks_for-blocks.ensures, c.loop-k-test.true));
      k_in_bounds = omega (
        arith,
        few,
        c.blocks_for-blocks.ensures,
        c.loop-k-test.true,
        same (goal.at.write_block-requires c).At-loop-k,
        file-size,
        c.requires.1,
      );
      file_value = over-already (file_byte a.state a.roots.now a.cells.now) (block_size * c.loop-k.k) a.file.now c.loop-k.file
          c.loop-k.invariant.1;
    }

pub loop-k-preserved : goal.loop-k-preserved
loop-k-preserved c =
    let w = c.write_block in
    let l = c.loop-k in
    let a = c.args in
    let f = file_byte a.state a.roots.now a.cells.now in
    let e : block_size * suc l.k ≡ block_size * (l.k + 1) = omega arith in (
      omega arith,
      over-further f (block_size * l.k) (block_size * suc l.k) a.file.now (omega arith) l.file w.new.file
          l.invariant.1 w.ensures
          ∙ ap (λ (n : ℕ). over f n a.file.now) e,
    )

pub shape_of-file : goal.shape_of-file
shape_of-file c =
    same (goal.at.shape_of-file c).At-loop-k

pub returns : goal.returns
returns c =
    let a = c.args in
    let e : c.loop-k.k ≡ suc c.blocks_for-blocks.result = omega (arith, c.loop-k.invariant.0, c.loop-k-test.false) in
    c.loop-k.invariant.1
    ∙ ap (λ (n : ℕ). over (file_byte a.state a.roots.now a.cells.now) (block_size * n) a.file.now)
    (e ∙ ap suc c.blocks_for-blocks.ensures)
