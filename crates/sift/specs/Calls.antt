-- What a single sift and a pass answer and leave (document 01, sections 2, 5, 6 and 7).
-- Assumes nothing.
use Rattle.std.specs.Prelude.{◌≡◌, cond, not, List, ◌++◌, ℕ, ◌*◌, ◌-◌, ◌≤◌, ◌<◌, ltb, drop, Ok}
use Rattle.diagram.specs.Table.{cost}
use Rattle.diagram.specs.Orders.Sift.{sift, pass, next, allowed, Pass}
use Rattle.diagram.specs.Demands.{SiftedLeast, order_after, TurnsLeast}
use Rattle.table.specs.Answer.{Answer, Outcome, outcome_of}
use Rattle.table.specs.declared.Refusal.TheVariants.{NoSuch, ShortBuffer, NoTable}
use Rattle.table.specs.declared.Done.{Done}
use Rattle.table.specs.declared.State.{State}
use Rattle.table.specs.Answer.{unless, done}
use Rattle.table.specs.State.{order_of, stage_of, is_nothing, reordered_state}
use Rattle.fill.specs.Work.{zero_work}
use Rattle.fill.specs.Calls.{held_table, enough}

-- 'A sift or pass changes only order, stage, count and work buffer'; the order's entries past n are kept
abbrev pub with_order : State → List ℕ → State
with_order s order = reordered_state s (order ++ drop s.n s.order)

-- the order that a single sift leaves
abbrev pub sifted_order : State → ℕ → List ℕ → List ℕ → List ℕ
sifted_order s v values care = sift (held_table s values care) v (order_of s)

-- sift: 10, 21, 9; 'a single sift answers the cost of the order it leaves'
unfoldable pub sift_answer : State → ℕ → List ℕ → List ℕ → List ℕ → Answer
sift_answer s v values care work =
    unless (enough values care work) ShortBuffer
    (unless (not (is_nothing (stage_of s))) NoTable
    (unless (ltb v s.n) NoSuch (Ok (cost (held_table s values care) (sifted_order s v values care)))))

unfoldable pub sift_outcome : State → ℕ → List ℕ → List ℕ → List ℕ → Outcome
sift_outcome s v values care work = outcome_of (sift_answer s v values care work) (with_order s (sifted_order s v values care))

unfoldable pub sift_work : State → ℕ → List ℕ → List ℕ → List ℕ → List ℕ
sift_work s v values care work = cond (done (sift_answer s v values care work)) (zero_work work) work

-- the pass under a limit
abbrev pub pass_of : State → ℕ → List ℕ → List ℕ → Pass
pass_of s limit values care = pass (held_table s values care) limit (order_of s)

-- pass: 10, 21; 'The pass answers the number of orders tried'
unfoldable pub pass_answer : State → ℕ → List ℕ → List ℕ → List ℕ → Answer
pass_answer s limit values care work =
    unless (enough values care work) ShortBuffer
    (unless (not (is_nothing (stage_of s))) NoTable (Ok (pass_of s limit values care).tried))

unfoldable pub pass_outcome : State → ℕ → List ℕ → List ℕ → List ℕ → Outcome
pass_outcome s limit values care work =
    outcome_of (pass_answer s limit values care work) (with_order s (pass_of s limit values care).order)

unfoldable pub pass_work : State → ℕ → List ℕ → List ℕ → List ℕ → List ℕ
pass_work s limit values care work = cond (done (pass_answer s limit values care work)) (zero_work work) work

-- demand 3 after a single sift that is done, of the order it leaves and the value it answers: 'for every order that differs only in
-- the place of the input just sifted, the others in sequence, every diagram that uses it and computes its filled table has at least
-- as many cells as the cost of the order left'
unfoldable pub SiftDemand : ℕ → List ℕ → List ℕ → Done → Type 0
SiftDemand v values care r = SiftedLeast (held_table r.state values care) v (order_of r.state) r.value

-- the variable that the k-th sift of a pass sifts, k from 1: the one that came next after the sifts before it
abbrev pub sifted_at : State → ℕ → List ℕ → List ℕ → ℕ
sifted_at s k values care = next (held_table s values care) (pass_of s (s.n * (k - 1)) values care)

-- demand 3 of a pass that is done: it holds just after each sift, and the order just after the last one is the order left
pub record PassDemand (s : State) (limit : ℕ) (values care : List ℕ) (r : Done) : Type 0 where
  -- 'The pass answers the number of orders tried, which is n times the inputs sifted'
  pub tried : r.value ≡ s.n * allowed s.n limit
  -- at the order just after each sift, of that order's cost
  pub turns : TurnsLeast (held_table s values care) (order_of s)
  -- 'any other limit leaves the order just after the last sift it allows, or with none the order found'
  pub left : order_of r.state ≡ order_after (held_table s values care) (order_of s) (allowed s.n limit)
  -- so it holds of the very order left, where any was sifted
  pub last : 0 < allowed s.n limit
      → SiftedLeast (held_table r.state values care) (sifted_at s (allowed s.n limit) values care) (order_of r.state)
      (cost (held_table r.state values care) (order_of r.state))

-- 'An order's cost is section 4's count for the lent table filled afresh under it': that of a state's order
abbrev pub order_cost : State → List ℕ → List ℕ → ℕ
order_cost s values care = cost (held_table s values care) (order_of s)

-- what a single sift that is done owes besides: it never ends with more cells than the order found takes (document 02, 2.10)
abbrev pub SiftNeverDearer : State → List ℕ → List ℕ → Done → Type 0
SiftNeverDearer s values care r = r.value ≤ order_cost s values care

-- what a pass that is done owes besides
pub record PassNeverDearer (s : State) (limit : ℕ) (values care : List ℕ) (r : Done) : Type 0 where
  -- 'a pass with a larger limit never ends with more cells than the same pass with a smaller one' (document 02, 2.10)
  pub fewer : (smaller : ℕ) → smaller ≤ limit
      → order_cost r.state values care ≤ cost (held_table s values care) (pass_of s smaller values care).order
  -- and none with more than the order found takes
  pub no-dearer : order_cost r.state values care ≤ order_cost s values care
