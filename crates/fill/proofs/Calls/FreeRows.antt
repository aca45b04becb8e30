-- Two lents that agree on the care bits of the stream, and on its value bits where they are cared, hold tables that are alike, and are
-- counted alike: the value bits of free rows and all bits past the stream never matter.
-- Assumes nothing.
use Rattle.std.specs.Prelude.{Ok}
use mathlib.Core.Path.{◌≡◌, refl, ap, ap₂}
use mathlib.Core.Bool.{Bool, not, cond}
use mathlib.Core.List.{List}
use Prim.Native.Nat.{ℕ, ◌+◌, ◌*◌, ◌^◌, ◌<◌}
use lib.Arith.{digits_lt}
use lib.Dec.{T}
use Rattle.diagram.proofs.Filling.FreeRows.{Alike, cost-alike}
use Rattle.block.specs.Bits.{stream_bit}
use Rattle.table.specs.declared.State.{State}
use Rattle.table.specs.Answer.{Answer}
use Rattle.table.specs.declared.Refusal.TheVariants.{ShortBuffer, NoTable}
use Rattle.table.specs.Answer.{unless, done}
use Rattle.table.specs.State.{order_of, stage_of, is_nothing}
use Rattle.fill.specs.Work.{zero_work}
use Rattle.fill.specs.Calls.{held_table, enough, count_answer, count_work}

-- the first `bits` bits agree on care, and on values where they are cared
abbrev pub AlikeBits : ℕ → List ℕ → List ℕ → List ℕ → List ℕ → Type 0
AlikeBits bits values care values' care' =
    (i : ℕ) → i < bits → (stream_bit care i ≡ stream_bit care' i) × (T (stream_bit care i) → stream_bit values i ≡ stream_bit values' i)

module _ (s : State) (values care values' care' : List ℕ) (alike : AlikeBits (s.m * 2 ^ s.n) values care values' care') where
  -- a row of an output stands within the stream, so the tables are alike
  pub held-alike : Alike (held_table s values care) (held_table s values' care')
  held-alike =
      record {
        inputs = refl;
        outputs = refl;
        cared = λ j r h k. (alike (j * 2 ^ s.n + r) (digits_lt h k)).0;
        valued = λ j r h k. (alike (j * 2 ^ s.n + r) (digits_lt h k)).1;
      }

  module _ (work work' : List ℕ) (room : enough values care work ≡ enough values' care' work') where
    pub answer-alike : count_answer s values care work ≡ count_answer s values' care' work'
    unfolding count_answer
    answer-alike =
        ap₂ (λ (b : Bool) (c : ℕ). unless b ShortBuffer (unless (not (is_nothing (stage_of s))) NoTable (Ok c))) room
        (cost-alike (held_table s values care) (held_table s values' care') held-alike (order_of s))

  -- and the work buffer after a count
  pub work-alike : (work : List ℕ) → enough values care work ≡ enough values' care' work
      → count_work s values care work ≡ count_work s values' care' work
  unfolding count_work
  work-alike work room = ap (λ (a : Answer). cond (done a) (zero_work work) work) (answer-alike work work room)
