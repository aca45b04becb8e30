-- `network::reading::lay_out` meets its contract: the levels are read, then the roots, and the work buffer is cleared.
-- Assumes nothing.
use mathlib.Core.Path.{sym, ap, ap₂, ◌∙◌}
use mathlib.Core.List.{List}
use Prim.Native.Nat.{ℕ, ◌+◌, ◌*◌}
use native.Mathlib.Omega.{arith}
use Rattle.lists.specs.Written.{over}
use Rattle.fill.specs.Work.{cleared_work}
use Rattle.fill.proofs.Buffers.Sizes.{work-size, links-at}
use Rattle.lent.specs.Lent.{roots_size}
use Rattle.network.specs.Levels.{root_at}
use Rattle.network.proofs.LinksRead.Offsets.{first-at}
use Rattle.network.proofs.reading.lay_out.Goals as goal

pub write_roots-requires : goal.write_roots-requires
write_roots-requires c =
    omega (arith, work-size)

pub returns : goal.returns
returns c =
    let a = c.args in
    let r = c.read_levels.ensures in record {
      work = c.clear.ensures ∙ ap cleared_work r.work;
      cells = r.cells;
      roots = c.write_roots.ensures
          ∙ ap₂ (λ (w : List ℕ) (i : ℕ). over (root_at w a.m i) roots_size a.roots.now) r.work
          (ap (λ k. k + 2 * a.m) (sym links-at) ∙ sym (first-at a.m a.entries));
    }
