-- What an accepted network file keeps: each test of document 02, 2.2, in its sequence; and a file that keeps them all is accepted.
-- Assumes nothing.
use Rattle.std.specs.Prelude.{Ok}
use mathlib.Core.Path.{◌≡◌, refl, sym, ap, ◌∙◌}
use mathlib.Core.Bool.{Bool, true, ◌&&◌}
use mathlib.Core.List.{List}
use Prim.Native.Nat.{ℕ, zero, suc, ◌+◌, ◌*◌, ◌-◌, ◌%◌, ◌≤◌, ◌<◌}
use native.Mathlib.Omega.{arith}
use borrow.Author.Tests.{eq-eqb, le-leb}
use lib.Dec.{T, eqb, eqb→eq}
use lib.ListN.{length}
use Rattle.lists.proofs.Bools.{of_T, and_l, and_r}
use Rattle.lists.proofs.Numbers.Compared.{all-up_to-at, all-up_to-of}
use Rattle.diagram.specs.Networks.Bound.{most_variables, most_outputs}
use Rattle.diagram.specs.Orders.Order.{is_order}
use Rattle.block.specs.Block.{block_size, content_at, whole_blocks, byte, good_check, good_number, unused_zero, unused_between}
use Rattle.table.specs.Answer.{Answer}
use Rattle.table.specs.declared.Refusal.TheVariants.{BadLength, BadCheck, BadKind, BadContent}
use Rattle.table.specs.Answer.{done, first_refusal}
use Rattle.table.specs.File.{file_inputs, file_outputs, file_order, shape_answer}
use Rattle.table.proofs.Files.Accepted.{AcceptedShape, unless-done, both-done, accepted-from, accepted-shape}
use Rattle.network_file.specs.File.{count_at, roots_at, file_count, cell_blocks, unused_heading, network_heading, carried_numbers, cells_block}
use Rattle.network_file.specs.File.{cells_answer, network_file_answer}

-- the heading
pub record AcceptedNetworkHeading (file : List ℕ) : Type 0 where
  pub check : T (good_check file 0)
  pub kind : byte file 0 0 ≡ 4
  pub number : T (good_number file 0)
  pub shape : AcceptedShape file
  -- past the order to the count, and past the roots of the outputs
  pub between : T (unused_between file 0 (6 + file_inputs file) count_at)
  pub rest : T (unused_zero file 0 (roots_at + 2 * file_outputs file))

-- block k, of a file of `count` cells
pub record AcceptedCells (count : ℕ) (file : List ℕ) (k : ℕ) : Type 0 where
  pub check : T (good_check file k)
  pub kind : byte file k 0 ≡ 5
  pub number : T (good_number file k)
  pub rest : T (unused_zero file k (content_at + 2 * carried_numbers count k))

pub record AcceptedNetwork (file : List ℕ) : Type 0 where
  pub heading : AcceptedNetworkHeading file
  pub long : length file ≡ block_size * suc (cell_blocks (file_count file))
  pub blocks : (k : ℕ) → 1 ≤ k → k ≤ cell_blocks (file_count file) → AcceptedCells (file_count file) file k

-- an accepted file keeps them

accepted-network-heading : (file : List ℕ) → T (done (network_heading file)) → AcceptedNetworkHeading file
unfolding network_heading unused_heading
accepted-network-heading file t =
    let e : Bool = eqb (byte file 0 0) 4 in
    let b : Bool = unused_between file 0 (6 + file_inputs file) count_at in
    let z : Bool = unused_zero file 0 (roots_at + 2 * file_outputs file) in
    let c = unless-done (good_check file 0) BadCheck _ t in
    let k = unless-done (e && good_number file 0) BadKind _ c.1 in
    let p = both-done (shape_answer file) _ k.1 in
    let r = unless-done (b && z) BadContent (Ok 0) p.1 in
    record {
      check = c.0;
      kind = eqb→eq (byte file 0 0) 4 (and_l e (good_number file 0) k.0);
      number = and_r e (good_number file 0) k.0;
      shape = accepted-shape file p.0;
      between = and_l b z r.0;
      rest = and_r b z r.0;
    }

accepted-cells : (count : ℕ) (file : List ℕ) (k : ℕ) → T (done (cells_block count file k)) → AcceptedCells count file k
unfolding cells_block
accepted-cells count file k t =
    let e : Bool = eqb (byte file k 0) 5 in
    let c = unless-done (good_check file k) BadCheck _ t in
    let n = unless-done (e && good_number file k) BadKind _ c.1 in
    let r = unless-done (unused_zero file k (content_at + 2 * carried_numbers count k)) BadContent (Ok 0) n.1 in
    record {
      check = c.0;
      kind = eqb→eq (byte file k 0) 5 (and_l e (good_number file k) n.0);
      number = and_r e (good_number file k) n.0;
      rest = r.0;
    }

pub accepted-network : (file : List ℕ) → T (done (network_file_answer file)) → AcceptedNetwork file
unfolding network_file_answer cells_answer
accepted-network file t =
    let c : ℕ = file_count file in
    let l = unless-done (whole_blocks file) BadLength _ t in
    let h = both-done (network_heading file) _ l.1 in
    let s = unless-done (eqb (length file) (block_size * suc (cell_blocks c))) BadLength _ h.1 in
    record {
      heading = accepted-network-heading file h.0;
      long = eqb→eq (length file) (block_size * suc (cell_blocks c)) s.0;
      blocks = λ k g m. accepted-cells c file k (accepted-from (cells_block c file) 1 (cell_blocks c) s.1 k g (omega arith));
    }

-- one that keeps them is accepted

none-refuses : (f : ℕ → Answer) (k left : ℕ) → ((j : ℕ) → k ≤ j → j < k + left → f j ≡ Ok 0) → first_refusal f k left ≡ Ok 0
unfolding first_refusal
none-refuses f k zero h = refl
none-refuses f k (suc left) h =
    rw (h k (omega arith) (omega arith)) (none-refuses f (suc k) left (λ j g l. h j (omega arith) (omega arith)))

shape-accepted : (file : List ℕ) → AcceptedShape file → shape_answer file ≡ Ok 0
unfolding shape_answer
shape-accepted file a =
    rw (
      le-leb (file_inputs file) most_variables a.inputs,
      le-leb 1 (file_outputs file) a.one-output,
      le-leb (file_outputs file) most_outputs a.outputs,
      of_T {b = is_order (file_inputs file) (file_order file)} a.order,
    )

heading-accepted : (file : List ℕ) → AcceptedNetworkHeading file → network_heading file ≡ Ok 0
unfolding network_heading unused_heading
heading-accepted file a =
    let b : unused_between file 0 (6 + file_inputs file) count_at ≡ true = of_T a.between in
    let z : unused_zero file 0 (roots_at + 2 * file_outputs file) ≡ true = of_T a.rest in
    rw (
      of_T {b = good_check file 0} a.check,
      eq-eqb (byte file 0 0) 4 a.kind,
      of_T {b = good_number file 0} a.number,
      shape-accepted file a.shape,
      b,
      z,
    )

cells-accepted : (count : ℕ) (file : List ℕ) (k : ℕ) → AcceptedCells count file k → cells_block count file k ≡ Ok 0
unfolding cells_block
cells-accepted count file k a =
    let z : unused_zero file k (content_at + 2 * carried_numbers count k) ≡ true = of_T a.rest in
    rw (of_T {b = good_check file k} a.check, eq-eqb (byte file k 0) 5 a.kind, of_T {b = good_number file k} a.number, z)

whole : (file : List ℕ) (blocks : ℕ) → length file ≡ block_size * suc blocks → whole_blocks file ≡ true
unfolding whole_blocks
whole file blocks e =
    rw (le-leb 1 (length file) (omega arith), eq-eqb (length file % block_size) 0 (omega arith))

pub network-accepted : (file : List ℕ) → AcceptedNetwork file → network_file_answer file ≡ Ok 0
unfolding network_file_answer cells_answer
network-accepted file a =
    let b : ℕ = cell_blocks (file_count file) in
    rw (whole file b a.long, heading-accepted file a.heading, eq-eqb (length file) (block_size * suc b) a.long)
    (none-refuses (cells_block (file_count file) file) 1 b
    (λ k g l. cells-accepted (file_count file) file k (a.blocks k g (omega arith))))

-- the tests one by one

module _ (file : List ℕ) (k : ℕ) where
  pub number-second : T (good_number file k) → byte file k 1 ≡ 0
  unfolding good_number
  number-second t = eqb→eq (byte file k 1) 0 (and_l (eqb (byte file k 1) 0) _ t)

  pub number-two : T (good_number file k) → byte file k 2 + 256 * byte file k 3 ≡ k
  unfolding good_number
  number-two t = eqb→eq (byte file k 2 + 256 * byte file k 3) k (and_r (eqb (byte file k 1) 0) _ t)

  pub number-good : byte file k 1 ≡ 0 → byte file k 2 + 256 * byte file k 3 ≡ k → T (good_number file k)
  unfolding good_number
  number-good e d = rw (eq-eqb (byte file k 1) 0 e, eq-eqb (byte file k 2 + 256 * byte file k 3) k d) tt

  pub unused-at : (from end : ℕ) → T (unused_between file k from end) → (i : ℕ) → from ≤ i → i < end → byte file k i ≡ 0
  unfolding unused_between
  unused-at from end t i h l =
      let e : from + (i - from) ≡ i = omega arith in
      sym (ap (byte file k) e)
      ∙ eqb→eq (byte file k (from + (i - from))) 0
      (all-up_to-at (λ j. eqb (byte file k (from + j)) 0) (end - from) t (i - from) (omega arith))

  pub unused-of : (from end : ℕ) → ((i : ℕ) → from ≤ i → i < end → byte file k i ≡ 0) → T (unused_between file k from end)
  unfolding unused_between
  unused-of from end f =
      all-up_to-of (λ j. eqb (byte file k (from + j)) 0) (end - from)
      (λ j h. rw (eq-eqb (byte file k (from + j)) 0 (f (from + j) (omega arith) (omega arith))) tt)
