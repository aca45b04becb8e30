-- What an accepted file keeps: each test of section 6's sequence.
-- Assumes nothing.
use Rattle.std.specs.Prelude.{Ok, Err}
use mathlib.Core.Path.{◌≡◌, sym, subst}
use mathlib.Core.Bool.{Bool, true, false, ◌&&◌}
use mathlib.Core.List.{List}
use mathlib.Core.Logic.{◌≢◌}
use Prim.Native.Nat.{ℕ, zero, suc, ◌+◌, ◌*◌, ◌-◌, ◌≤◌, ◌<◌}
use native.Mathlib.Omega.{arith}
use borrow.Author.Tests.{eqb-true, eqb-false}
use lib.Dec.{T, eqb, leb, eqb→eq, leb→le}
use lib.ListN.{length}
use Rattle.lists.proofs.Bools.{split, and_l, and_r}
use Rattle.diagram.specs.Networks.Bound.{most_variables, most_outputs}
use Rattle.diagram.specs.Orders.Order.{is_order}
use Rattle.table.specs.declared.Refusal.{Refusal}
use Rattle.table.specs.Answer.{Answer}
use Rattle.table.specs.declared.Refusal.TheVariants.{BadLength, BadCheck, BadKind}
use Rattle.table.specs.declared.Refusal.TheVariants.{BadInputs, BadOutputs, BadOrder, BadContent}
use Rattle.table.specs.Answer.{unless, unless_refused, first_refusal, done}
use Rattle.block.specs.Block.{block_size, whole_blocks, good_check, unused_zero, unused_bits_zero}
use Rattle.table.specs.File.{good_kind, file_inputs, file_outputs, file_order, shape_answer, fields_answer, heading_answer}
use Rattle.table.specs.File.{stream_bits, stream_blocks}
use Rattle.table.specs.File.{first_bit, tail_answer, block_answer, streams_answer, file_answer}

-- a success passes each test
pub unless-done : (ok : Bool) (refusal : Refusal) (rest : Answer) → T (done (unless ok refusal rest)) → T ok × T (done rest)
unless-done true refusal rest t = (tt, t)
unless-done false refusal rest t = absurd t

-- block k of an accepted file
pub record AcceptedBlock (bits blocks : ℕ) (file : List ℕ) (k : ℕ) : Type 0 where
  pub check : T (good_check file k)
  pub kind : T (good_kind blocks file k)
  pub tail : T (unused_bits_zero file k (bits - first_bit blocks k))

pub accepted-block : (bits blocks : ℕ) (file : List ℕ) (k : ℕ) → T (done (block_answer bits blocks file k))
    → AcceptedBlock bits blocks file k
unfolding block_answer tail_answer
accepted-block bits blocks file k t =
    let u = unless-done (good_check file k) BadCheck _ t in
    let v = unless-done (good_kind blocks file k) BadKind _ u.1 in
    let w = unless-done (unused_bits_zero file k (bits - first_bit blocks k)) BadContent (Ok 0) v.1 in
    record { check = u.0; kind = v.0; tail = w.0 }

pub both-done : (a rest : Answer) → T (done (unless_refused a rest)) → T (done a) × T (done rest)
both-done (Ok v) rest t = (tt, t)
both-done (Err refusal) rest t = absurd t

-- each of the `left` blocks from block k on
pub accepted-from : (f : ℕ → Answer) (k left : ℕ) → T (done (first_refusal f k left)) → (j : ℕ) → k ≤ j → j < k + left → T (done (f j))
unfolding first_refusal
accepted-from f k zero t j h l = absurd (omega arith)
accepted-from f k (suc left) t j h l =
    let u = both-done (f k) (first_refusal f (suc k) left) t in
    split (eqb j k) (λ e. subst (λ (i : ℕ). T (done (f i))) (sym (eqb-true j k e)) u.0)
    (λ e. let d : j ≢ k = eqb-false j k e in accepted-from f (suc k) left u.1 j (omega arith) (omega arith))

-- a heading's n, m and order, whatever the kind of file
pub record AcceptedShape (file : List ℕ) : Type 0 where
  pub inputs : file_inputs file ≤ most_variables
  pub one-output : 1 ≤ file_outputs file
  pub outputs : file_outputs file ≤ most_outputs
  pub order : T (is_order (file_inputs file) (file_order file))

pub accepted-shape : (file : List ℕ) → T (done (shape_answer file)) → AcceptedShape file
unfolding shape_answer
accepted-shape file t =
    let n : ℕ = file_inputs file in
    let m : ℕ = file_outputs file in
    let i = unless-done (leb n most_variables) BadInputs _ t in
    let o = unless-done (leb 1 m && leb m most_outputs) BadOutputs _ i.1 in
    let p = unless-done (is_order n (file_order file)) BadOrder (Ok 0) o.1 in
    record {
      inputs = leb→le n most_variables i.0;
      one-output = leb→le 1 m (and_l (leb 1 m) (leb m most_outputs) o.0);
      outputs = leb→le m most_outputs (and_r (leb 1 m) (leb m most_outputs) o.0);
      order = p.0;
    }

-- the heading of an accepted file
pub record AcceptedHeading (file : List ℕ) : Type 0 where
  pub check : T (good_check file 0)
  pub kind : T (good_kind 0 file 0)
  pub shape : AcceptedShape file
  pub rest : T (unused_zero file 0 (6 + file_inputs file))

pub accepted-heading : (file : List ℕ) → T (done (heading_answer file)) → AcceptedHeading file
unfolding heading_answer fields_answer
accepted-heading file t =
    let c = unless-done (good_check file 0) BadCheck _ t in
    let k = unless-done (good_kind 0 file 0) BadKind _ c.1 in
    let p = both-done (shape_answer file) _ k.1 in
    let r = unless-done (unused_zero file 0 (6 + file_inputs file)) BadContent (Ok 0) p.1 in
    record { check = c.0; kind = k.0; shape = accepted-shape file p.0; rest = r.0 }

-- an accepted file
pub record Accepted (file : List ℕ) : Type 0 where
  pub heading : AcceptedHeading file
  pub long : length file ≡ block_size * (1 + 2 * stream_blocks (file_inputs file) (file_outputs file))
  pub blocks : (k : ℕ) → 1 ≤ k → k ≤ 2 * stream_blocks (file_inputs file) (file_outputs file)
      → AcceptedBlock (stream_bits (file_inputs file) (file_outputs file)) (stream_blocks (file_inputs file) (file_outputs file)) file k

pub accepted : (file : List ℕ) → T (done (file_answer file)) → Accepted file
unfolding file_answer streams_answer
accepted file t =
    let n : ℕ = file_inputs file in
    let m : ℕ = file_outputs file in
    let l = unless-done (whole_blocks file) BadLength _ t in
    let h = both-done (heading_answer file) _ l.1 in
    let s = unless-done (eqb (length file) (block_size * (1 + 2 * stream_blocks n m))) BadLength _ h.1 in
    record {
      heading = accepted-heading file h.0;
      long = eqb→eq (length file) (block_size * (1 + 2 * stream_blocks n m)) s.0;
      blocks = λ j g k. accepted-block (stream_bits n m) (stream_blocks n m) file j
          (accepted-from (block_answer (stream_bits n m) (stream_blocks n m) file) 1 (2 * stream_blocks n m) s.1 j g (omega arith));
    }
