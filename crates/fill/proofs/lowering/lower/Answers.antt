-- `fill::lowering::lower` meets its contract. Assumes nothing.
use Rattle.std.proofs.Common.{◌∙◌, ℕ, suc, ap, sym, subst, set}
use Rattle.matching.specs.Level.{parts_at}
use Rattle.fill.proofs.Buffers.HeldParts.{Region, region-end, region-other, region-told, region-met}
use Rattle.fill.proofs.Lowered.TrialSizes.{trial_sizes}
use Rattle.fill.proofs.Lowered.LoweredLevel.{exchange-asks, level-asks, level-links, lower-leaves}
use Rattle.fill.proofs.lowering.lower.Goals as goal
use Rattle.fill.proofs.lowering.lower.Goals.{Start, After-exchange_kept}

region : (c : Start) → Region c.args.kept.entries.from
region c = region-told c.args.kept.entries.from c.args.kept.in_region

pub exchange_kept-requires : goal.exchange_kept-requires
exchange_kept-requires c =
    let a = c.args in
    let k = a.kept.entries in
    exchange-asks a.d k.from k.count a.work.now (region (goal.at.exchange_kept-requires c).Start) c.requires.long_work c.requires.has_room.0
    c.requires.has_room.1 c.requires.levels_left.0

pub overflow_sub-upper : goal.overflow_sub-upper
overflow_sub-upper c =
    omega (trial_sizes, region-end c.args.kept.entries.from (region (goal.at.overflow_sub-upper c).Start))

pub level-entries-requires : goal.level-entries-requires
level-entries-requires c =
    let a = c.args in
    let k = a.kept.entries in
    let r = c.exchange_kept in
    level-asks a.d k.from k.count a.work.now (region (goal.at.level-entries-requires c).Start) c.requires.long_work c.requires.has_room.0
    c.requires.has_room.1 r.new.work r.ensures r.auto.work c.requires.levels_left.0

pub cells_of-requires : goal.cells_of-requires
cells_of-requires c =
    let a = c.args in
    let k = a.kept.entries in
    let r = c.exchange_kept in
    omega (
      trial_sizes,
      level-links a.d k.from k.count a.work.now (region (goal.at.cells_of-requires c).Start) c.requires.long_work c.requires.has_room.0
          c.requires.has_room.1 r.new.work r.ensures r.auto.work,
      c.level-entries.auto.work,
    )

pub invariant_of-result : goal.invariant_of-result
invariant_of-result c =
    let from = c.args.kept.entries.from in
    let l = c.level-entries in
    let other : Region l.result.from = subst Region (sym l.ensures.from) (region-other from (region (goal.at.invariant_of-result c).Start)) in
    record { in_region = region-met l.result.from other }

pub returns : goal.returns
returns c =
    let a = c.args in
    let k = a.kept.entries in
    let r = c.exchange_kept in
    let l = c.level-entries in
    let t = lower-leaves a.d k.from k.count a.work.now (region (goal.at.returns c).Start) c.requires.long_work c.requires.has_room.0
    c.requires.has_room.1 r.new.work r.ensures r.auto.work l.result.count c.cells_of.result l.new.work l.ensures.count l.ensures.work c.cells_of.ensures in
    record {
      from = l.ensures.from;
      entries = t.0;
      above = ap (set a.kept.above a.p) t.1;
      parts = ap (λ (from : ℕ). parts_at (suc a.d) l.result.count from l.new.work) l.ensures.from ∙ t.2;
      behind = t.3;
    }
