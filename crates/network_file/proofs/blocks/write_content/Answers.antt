use mathlib.Core.Path.{◌≡◌, refl, ap, ◌∙◌}
use Prim.Native.Nat.{ℕ, suc, ◌+◌, ◌*◌}
use native.Mathlib.Omega.{arith}
use lib.ListN.{length}
use Rattle.lists.specs.Sums.{sum_below}
use Rattle.lists.specs.Written.{over}
use Rattle.lists.proofs.Numbers.Sums.{sum_more}
use Rattle.lists.proofs.Written.Over.{length_over}
use Rattle.block.specs.Block.{block_size, check_at}
use Rattle.network_file.specs.Write.{block_content, file_byte}
use Rattle.network_file.specs.Inner.Writable.{block_sum}
use Rattle.network_file.proofs.Writing.WrittenBlocks.{content-next}
use Rattle.network_file.proofs.blocks.write_content.Goals as goal
use Rattle.network_file.proofs.blocks.write_content.Goals.{At-loop-i}

-- the file keeps its length
same : (c : At-loop-i) → length c.loop-i.file ≡ length c.args.file.now
same c =
    let l = c.loop-i in
    let a = c.args in
    ap length l.invariant.3
    ∙ length_over (file_byte a.state a.roots.now a.cells.now) (block_size * a.k + l.i) a.file.now
    (omega (arith, c.requires.k_in_bounds, l.invariant.0))

pub loop-i-init : goal.loop-i-init
loop-i-init c =
    let a = c.args in
    let e : block_size * a.k ≡ block_size * a.k + 0 = omega arith in (
      omega arith,
      refl,
      omega arith,
      c.requires.file_value ∙ ap (λ (n : ℕ). over (file_byte a.state a.roots.now a.cells.now) n a.file.now) e,
    )

pub write_byte-total-requires : goal.write_byte-total-requires
write_byte-total-requires c =
    record {
      writable = (c.requires.writable.0, (c.requires.writable.1, c.loop-i-test.true));
      i_in_bounds = omega (arith, same (goal.at.write_byte-total-requires c).At-loop-i, c.requires.k_in_bounds, c.loop-i-test.true);
    }

pub loop-i-preserved : goal.loop-i-preserved
loop-i-preserved c =
    let w = c.write_byte-total in
    let l = c.loop-i in
    let a = c.args in (
      omega arith,
      sum_more (λ j. suc j * block_content a.state a.roots.now a.cells.now a.k j) l.i l.total w.result l.invariant.1
          w.ensures.sum.0,
      omega arith,
      content-next a.state a.roots.now a.cells.now a.k a.file.now l.file w.new.file
          c.requires.k_in_bounds l.i c.loop-i-test.true l.invariant.3 w.ensures.file,
    )

pub shape_of-file : goal.shape_of-file
shape_of-file c =
    same (goal.at.shape_of-file c).At-loop-i

pub returns : goal.returns
unfolding block_sum
returns c =
    let l = c.loop-i in
    let a = c.args in
    let e : l.i ≡ check_at = omega (arith, l.invariant.0, c.loop-i-test.false) in record {
      sum = l.invariant.1 ∙ ap (sum_below (λ j. suc j * block_content a.state a.roots.now a.cells.now a.k j)) e;
      file = l.invariant.3
          ∙ ap (λ (n : ℕ). over (file_byte a.state a.roots.now a.cells.now) (block_size * a.k + n) a.file.now) e;
    }
