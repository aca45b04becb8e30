-- `fill::filling::fill_held` meets its contract, by the laws of a held table's filling. Assumes nothing.
use Rattle.table.proofs.Held.{few-inputs, few-outputs}
use Rattle.fill.specs.Work.{links_at}
use Rattle.fill.proofs.Buffers.Sizes.{sizes}
use Rattle.fill.proofs.Calls.HeldFilling.{asks, left-held, counts-room, cells-room, levels-held}
use Rattle.fill.proofs.filling.fill_held.Goals as goal

pub overflow_mul-links : goal.overflow_mul-links
overflow_mul-links c =
    omega (sizes, few-outputs c.args.state c.requires.t)

pub overflow_add-links : goal.overflow_add-links
overflow_add-links c =
    omega (sizes, few-outputs c.args.state c.requires.t)

pub descend-entries-requires : goal.descend-entries-requires
unfolding links_at
descend-entries-requires c =
    let a = c.args in
    let r = c.first_level-count in
    let rest = asks a.state a.values.now a.care.now c.requires.t a.work.now c.requires.work_size_in_bounds
    r.result r.new.work r.ensures.entries
    r.ensures.work in record {
      in_bounds = (
        few-inputs a.state c.requires.t,
        omega sizes,
        omega (sizes, c.requires.work_size_in_bounds, r.auto.work),
      );
      holds_entries = rest.0;
      has_room = rest.1.0;
      links_fit = rest.1.1;
    }

pub level_counts-counts-requires : goal.level_counts-counts-requires
unfolding links_at
level_counts-counts-requires c =
    let a = c.args in
    let r = c.first_level-count in
    let t = c.descend-entries in (
      few-inputs a.state c.requires.t,
      few-outputs a.state c.requires.t,
      omega (
        sizes,
        counts-room a.state a.values.now a.care.now c.requires.t a.work.now c.requires.work_size_in_bounds
            r.result r.new.work r.ensures.entries
            r.ensures.work t.result t.new.work t.ensures.entries t.ensures.work,
        c.requires.work_size_in_bounds,
        r.auto.work,
        t.auto.work,
      ),
    )

pub total-requires : goal.total-requires
unfolding links_at
total-requires c =
    let a = c.args in
    let r = c.first_level-count in
    let t = c.descend-entries in
    omega (
      sizes,
      cells-room a.state a.values.now a.care.now c.requires.t a.work.now c.requires.work_size_in_bounds
          r.result r.new.work r.ensures.entries
          r.ensures.work t.result t.new.work t.ensures.entries t.ensures.work c.level_counts-counts.result
          c.level_counts-counts.ensures,
    )

pub returns : goal.returns
unfolding links_at
returns c =
    let l = c.level_counts-counts in
    let a = c.args in
    let r = c.first_level-count in
    let t = c.descend-entries in record {
      levels = levels-held a.state a.values.now a.care.now c.requires.t a.work.now c.requires.work_size_in_bounds
          r.result r.new.work r.ensures.entries
          r.ensures.work t.result t.new.work t.ensures.entries t.ensures.work
          l.result l.ensures c.total.result c.total.ensures;
      work = left-held a.state a.values.now a.care.now c.requires.t a.work.now c.requires.work_size_in_bounds
          r.result r.new.work r.ensures.entries
          r.ensures.work t.result t.new.work t.ensures.entries t.ensures.work;
    }
