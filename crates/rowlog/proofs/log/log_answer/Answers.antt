-- `rowlog::log::log_answer` meets its contract: each return by the tests that led there.
-- Assumes nothing.
use mathlib.Core.Path.{◌≡◌, sym, ap, ◌∙◌}
use mathlib.Core.Bool.{true, not}
use mathlib.Core.List.{List}
use Prim.Native.Nat.{ℕ, ◌+◌, ◌*◌, ◌%◌, ◌^◌, ◌≤◌}
use native.Mathlib.Omega.{arith}
use borrow.Author.Tests.{not-true, not-false}
use lib.Dec.{ltb, leb}
use lib.ListN.{length, get_or}
use lib.Pow.{pow_mono}
use Rattle.lists.specs.Sums.{sum_below}
use Rattle.lists.specs.Lists.{all}
use Rattle.lists.proofs.Bools.{to-T}
use Rattle.lists.proofs.Bits.Digits.{one_shifted}
use Rattle.diagram.specs.Networks.Bound.{most_variables}
use Rattle.table.specs.declared.State.{State}
use Rattle.table.specs.State.{stage_of, is_nothing, order_of}
use Rattle.table.specs.Calls.{plane_size}
use Rattle.table.proofs.Held.{held-heading, heading-inputs}
use Rattle.table.proofs.Planes.PlaneSize.{plane-size}
use Rattle.rowlog.specs.Log.{most_records, records_of}
use Rattle.rowlog.proofs.Answered.{log-short, log-no-table, log-few-counts, log-no-row, log-too-many, log-good}
use Rattle.rowlog.proofs.log.log_answer.Goals as goal
use Rattle.rowlog.proofs.log.log_answer.Goals.{After-has_room, Else-counts-end, Else-not-all_below, Else-not-holds_table}

-- past the tests of 10 and 21
abbrev state : (c : Else-not-holds_table) → State
state c = c.args.state

-- past the tests of 10 and 21
abbrev state-2 : (c : Else-counts-end) → State
state-2 c = c.args.state

-- past the tests of 10 and 21
abbrev state-3 : (c : Else-not-all_below) → State
state-3 c = c.args.state

-- past the tests of 10 and 21
abbrev state-4 : (c : After-has_room) → State
state-4 c = c.args.state

abbrev rows : (c : Else-not-holds_table) → List ℕ
rows c = c.args.rows.now

abbrev rows-2 : (c : Else-not-all_below) → List ℕ
rows-2 c = c.args.rows.now

abbrev rows-3 : (c : After-has_room) → List ℕ
rows-3 c = c.args.rows.now

abbrev counts : (c : Else-not-holds_table) → List ℕ
counts c = c.args.counts.now

abbrev counts-2 : (c : Else-counts-end) → List ℕ
counts-2 c = c.args.counts.now

abbrev counts-3 : (c : After-has_room) → List ℕ
counts-3 c = c.args.counts.now

abbrev care : (c : Else-not-holds_table) → List ℕ
care c = c.args.care.now

held : (c : Else-not-holds_table) → not (is_nothing (stage_of (state c))) ≡ true
held c = let h = c.holds_table in sym h.ensures ∙ not-false h.result c.if-not-holds_table.false-raw

held-2 : (c : Else-counts-end) → not (is_nothing (stage_of (state-2 c))) ≡ true
held-2 c = let h = c.holds_table in sym h.ensures ∙ not-false h.result c.if-not-holds_table.false-raw

held-3 : (c : Else-not-all_below) → not (is_nothing (stage_of (state-3 c))) ≡ true
held-3 c = let h = c.holds_table in sym h.ensures ∙ not-false h.result c.if-not-holds_table.false-raw

held-4 : (c : After-has_room) → not (is_nothing (stage_of (state-4 c))) ≡ true
held-4 c = let h = c.holds_table in sym h.ensures ∙ not-false h.result c.if-not-holds_table.false-raw

long : (c : Else-not-holds_table) → plane_size ≤ length (care c)
long c = omega (arith, plane-size, c.if-care-lt-PLANE.false)

few : (c : Else-not-holds_table) → (state c).n ≤ most_variables
few c = heading-inputs (state c).n (state c).m (order_of (state c)) (held-heading (state c) (to-T (held c)))

few-2 : (c : Else-counts-end) → (state-2 c).n ≤ most_variables
few-2 c = heading-inputs (state-2 c).n (state-2 c).m (order_of (state-2 c)) (held-heading (state-2 c) (to-T (held-2 c)))

few-3 : (c : Else-not-all_below) → (state-3 c).n ≤ most_variables
few-3 c = heading-inputs (state-3 c).n (state-3 c).m (order_of (state-3 c)) (held-heading (state-3 c) (to-T (held-3 c)))

few-4 : (c : After-has_room) → (state-4 c).n ≤ most_variables
few-4 c = heading-inputs (state-4 c).n (state-4 c).m (order_of (state-4 c)) (held-heading (state-4 c) (to-T (held-4 c)))

-- the number of rows
rows_end : (c : Else-not-holds_table) → 1 * 2 ^ (state c).n % 2 ^ 64 ≡ 2 ^ (state c).n
rows_end c = one_shifted (state c).n (omega (arith, (few c)))

-- the number of rows
rows_end-2 : (c : Else-counts-end) → 1 * 2 ^ (state-2 c).n % 2 ^ 64 ≡ 2 ^ (state-2 c).n
rows_end-2 c = one_shifted (state-2 c).n (omega (arith, (few-2 c)))

-- the number of rows
rows_end-3 : (c : Else-not-all_below) → 1 * 2 ^ (state-3 c).n % 2 ^ 64 ≡ 2 ^ (state-3 c).n
rows_end-3 c = one_shifted (state-3 c).n (omega (arith, (few-3 c)))

-- the number of rows
rows_end-4 : (c : After-has_room) → 1 * 2 ^ (state-4 c).n % 2 ^ 64 ≡ 2 ^ (state-4 c).n
rows_end-4 c = one_shifted (state-4 c).n (omega (arith, (few-4 c)))

-- past the counts' 10
counted : (c : Else-counts-end) → 2 ^ (state-2 c).n ≤ length (counts-2 c)
counted c = omega (arith, c.if-counts-end.false, rows_end-2 c)

-- past the test of 8
known : (c : Else-not-all_below)
    → all (λ row. ltb row (2 ^ (state-3 c).n)) (rows-2 c) ≡ true
known c =
    let r = c.all_below in
    ap (λ (k : ℕ). all (λ row. ltb row k) (rows-2 c)) (sym (rows_end-3 c)) ∙ sym r.ensures ∙ not-false r.result c.if-not-all_below.false-raw

pub returns-then-care-lt-PLANE : goal.returns-then-care-lt-PLANE
returns-then-care-lt-PLANE c =
    let a = c.args in
    log-short a.state a.rows.now a.counts.now a.care.now (omega (arith, plane-size, c.if-care-lt-PLANE.true))

pub returns-then-not-holds_table : goal.returns-then-not-holds_table
returns-then-not-holds_table c =
    let a = c.args in
    let h = c.holds_table in
    log-no-table a.state a.rows.now a.counts.now a.care.now (omega (arith, plane-size, c.if-care-lt-PLANE.false))
    (sym h.ensures ∙ not-true h.result c.if-not-holds_table.true-raw)

pub overflow_shl-end : goal.overflow_shl-end
overflow_shl-end c =
    omega (arith, few (goal.at.overflow_shl-end c).Else-not-holds_table)

pub returns-then-counts-end : goal.returns-then-counts-end
returns-then-counts-end c =
    log-few-counts (state (goal.at.returns-then-counts-end c).Else-not-holds_table)
    (rows (goal.at.returns-then-counts-end c).Else-not-holds_table)
    (counts (goal.at.returns-then-counts-end c).Else-not-holds_table)
    (care (goal.at.returns-then-counts-end c).Else-not-holds_table)
    (long (goal.at.returns-then-counts-end c).Else-not-holds_table)
    (held (goal.at.returns-then-counts-end c).Else-not-holds_table)
    (omega (arith, c.if-counts-end.true, rows_end (goal.at.returns-then-counts-end c).Else-not-holds_table))

pub returns-then-not-all_below : goal.returns-then-not-all_below
returns-then-not-all_below c =
    let r = c.all_below in
    log-no-row (state (goal.at.returns-then-not-all_below c).Else-not-holds_table)
    (rows (goal.at.returns-then-not-all_below c).Else-not-holds_table)
    (counts (goal.at.returns-then-not-all_below c).Else-not-holds_table)
    (care (goal.at.returns-then-not-all_below c).Else-not-holds_table)
    (long (goal.at.returns-then-not-all_below c).Else-not-holds_table)
    (held (goal.at.returns-then-not-all_below c).Else-not-holds_table)
    (counted (goal.at.returns-then-not-all_below c).Else-counts-end)
    (ap (λ (k : ℕ). all (λ row. ltb row k) (rows (goal.at.returns-then-not-all_below c).Else-not-holds_table))
    (sym (rows_end (goal.at.returns-then-not-all_below c).Else-not-holds_table)) ∙ sym r.ensures
    ∙ not-true r.result c.if-not-all_below.true-raw)

pub has_room-requires : goal.has_room-requires
has_room-requires c =
    omega (
      arith,
      rows_end (goal.at.has_room-requires c).Else-not-holds_table,
      pow_mono {i = (state (goal.at.has_room-requires c).Else-not-holds_table).n} {j = most_variables}
          (few (goal.at.has_room-requires c).Else-not-holds_table),
    )

-- the room that the records have
room : (c : After-has_room)
    → c.has_room.result ≡ leb (records_of (state-4 c) (counts-3 c) + length (rows-3 c)) most_records
room c =
    c.has_room.ensures
    ∙ ap (λ (k : ℕ). leb (sum_below (λ i. get_or (counts-3 c) i 0) k + length (rows-3 c)) most_records) (rows_end-4 c)

pub returns-then-not-has_room : goal.returns-then-not-has_room
returns-then-not-has_room c =
    log-too-many (state (goal.at.returns-then-not-has_room c).Else-not-holds_table)
    (rows (goal.at.returns-then-not-has_room c).Else-not-holds_table)
    (counts (goal.at.returns-then-not-has_room c).Else-not-holds_table)
    (care (goal.at.returns-then-not-has_room c).Else-not-holds_table)
    (long (goal.at.returns-then-not-has_room c).Else-not-holds_table)
    (held (goal.at.returns-then-not-has_room c).Else-not-holds_table)
    (counted (goal.at.returns-then-not-has_room c).Else-counts-end) (known (goal.at.returns-then-not-has_room c).Else-not-all_below)
    (sym (room (goal.at.returns-then-not-has_room c).After-has_room) ∙ not-true c.has_room.result c.if-not-has_room.true-raw)

pub returns : goal.returns
returns c =
    log-good (state (goal.at.returns c).Else-not-holds_table) (rows (goal.at.returns c).Else-not-holds_table)
    (counts (goal.at.returns c).Else-not-holds_table) (care (goal.at.returns c).Else-not-holds_table)
    (long (goal.at.returns c).Else-not-holds_table) (held (goal.at.returns c).Else-not-holds_table)
    (counted (goal.at.returns c).Else-counts-end) (known (goal.at.returns c).Else-not-all_below)
    (sym (room (goal.at.returns c).After-has_room) ∙ not-false c.has_room.result c.if-not-has_room.false-raw)
