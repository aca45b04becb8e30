-- Whatever is read and lent, what the printing program prints has room in the buffer of its text.
-- Assumes nothing.
use Rattle.std.specs.Prelude.{Ok, is_ok}
use mathlib.Core.Path.{◌≡◌, ◌∙◌, subst}
use mathlib.Core.Bool.{false, not}
use mathlib.Core.List.{List, ◌++◌}
use Prim.Native.Nat.{ℕ, ◌*◌, ◌^◌, ◌≤◌, ◌<◌}
use native.Mathlib.Omega.{arith}
use lib.Dec.{T, leb}
use lib.ListN.{length, get_or, drop}
use lib.Seq.{get_or-take}
use Rattle.lists.specs.Written.{over}
use Rattle.lists.proofs.Bools.{split}
use Rattle.lists.proofs.Numbers.Sums.{sum-digits}
use Rattle.diagram.specs.Networks.Bound.{most_variables, most_outputs}
use Rattle.diagram.proofs.Orders.Order.{order-at}
use Rattle.table.specs.Answer.{Answer}
use Rattle.table.specs.declared.State.{State}
use Rattle.table.specs.Answer.{number, value, done, answer_of}
use Rattle.block.specs.Bits.{stream_bit}
use Rattle.table.specs.Stream.{cared_bits}
use Rattle.table.specs.State.{order_of, stage_of, is_nothing}
use Rattle.table.specs.Calls.{plane_size, cared_answer, loaded_state}
use Rattle.table.proofs.Held.{few-inputs, few-outputs, few_bits, ordered}
use Rattle.table.proofs.Outcomes.{outcome-ok}
use Rattle.table.proofs.Variants.{number-few, refused-first, done-first}
use Rattle.lent.specs.Lent.{numbers_of, roots_size}
use Rattle.network.specs.Build.{network_state}
use Rattle.network.specs.Build.{held_network, wanted, build_answer, build_outcome, build_roots, build_cells}
use Rattle.network.proofs.Building.HeldRead.{few-wanted}
use Rattle.network.proofs.Building.Outcomes.{succeeded, done-outcome, done-roots, done-cells}
use Rattle.printed.specs.Input.{input_values, input_care}
use Rattle.printed.specs.Built.{refused-keyword, refused_line}
use Rattle.printed.specs.Output.{text_size}
use Rattle.printed.specs.BuiltInput.{read, is_read, built_outcome, built_roots, built_cells}
use Rattle.printed.specs.Inner.Printed.{outcome_text, printed_text}
use Rattle.printed.proofs.Texts.SmallNumbers.{cell-small, root-small}
use Rattle.printed.proofs.Texts.OutputCases.{unbuilt-text}
use Rattle.printed.proofs.Texts.TextLength.{spaced-two, line-few, network-fits}

-- a refusal's line is short
pub refused-few : (a : Answer) → length (refused_line a) ≤ 11
unfolding refused_line
refused-few a = line-few refused-keyword (number a) 3 (spaced-two (number a) (number-few a))

refused-fits : (a : Answer) → length (refused_line a) ≤ text_size
refused-fits a = omega (arith, refused-few a)

-- the cared bits are at most the stream's

cared-few : (s : State) (care : List ℕ) → s.m * 2 ^ s.n ≤ most_outputs * 2 ^ most_variables → value (cared_answer s care) < 100000
unfolding cared_answer cared_bits
cared-few s care h =
    split (leb plane_size (length care))
    (λ a. split (not (is_nothing (stage_of s)))
    (λ b. rw (a, b) (omega (arith, sum-digits (stream_bit care) (s.m * 2 ^ s.n))))
    (λ b. rw (a, b) (omega arith)))
    (λ a. rw a (omega arith))

-- the entries of a held order are small
entry-few : (s : State) → T (not (is_nothing (stage_of s))) → (i : ℕ) → i < s.n → get_or s.order i 0 < 100000
entry-few s held i h =
    omega (arith, order-at s.n (order_of s) (ordered s held) i h, get_or-take s.n s.order i 0 h, few-inputs s held)

module _ (s : State) (values care work roots cells : List ℕ) where
  module _ (held : T (not (is_nothing (stage_of s)))) (e : build_answer s values care work roots cells ≡ Ok (wanted s values care)) where
    -- the text with the state, the roots and the cells that the build leaves
    network-length : length (outcome_text (build_outcome s values care work roots cells) care
        (build_roots s values care work roots cells) (build_cells s values care work roots cells)) ≤ text_size
    unfolding outcome_text
    network-length =
        let t = network_state s (wanted s values care) in
        let o = done-outcome s values care work roots cells e in
        let r = done-roots s values care work roots cells e in
        let c = done-cells s values care work roots cells e in
        subst (λ (l : List ℕ). length l ≤ text_size) (λ k. outcome_text (o k) care (r k) (c k))
        (network-fits t (value (cared_answer t care)) (over (λ j. get_or (held_network s values care).roots j 0) roots_size roots)
        (numbers_of (held_network s values care).nodes ++ drop (3 * wanted s values care) cells)
        (few-inputs s held) (few-outputs s held) (few-wanted s values care held) (cared-few t care (few_bits s held)) (entry-few s held)
        (λ j h. omega (arith, root-small s values care held roots j h)) (λ i h. omega (arith, cell-small s values care held cells i h)))

  refused : done (build_answer s values care work roots cells) ≡ false → is_ok (build_outcome s values care work roots cells) ≡ false
  unfolding build_outcome
  refused e = outcome-ok (build_answer s values care work roots cells) (network_state s (wanted s values care)) ∙ e

  built-fits : length (outcome_text (build_outcome s values care work roots cells) care (build_roots s values care work roots cells)
      (build_cells s values care work roots cells)) ≤ text_size
  built-fits =
      let o = build_outcome s values care work roots cells in
      split (done (build_answer s values care work roots cells))
      (λ e. let B = succeeded s values care work roots cells e in network-length B.held B.answer)
      (λ e. rw (unbuilt-text o care (build_roots s values care work roots cells) (build_cells s values care work roots cells) (refused e))
      (refused-fits (answer_of o)))

-- whatever is read, and whatever is lent
pub printed-fits : (file values care work roots cells : List ℕ) → length (printed_text file values care work roots cells) ≤ text_size
unfolding printed_text built_outcome built_roots built_cells
printed-fits file values care work roots cells =
    let r = read file values care in
    let b = build_outcome (loaded_state file) (input_values file values care) (input_care file values care) work roots cells in
    split (is_read file values care)
    (λ e. rw (e, done-first r b e)
    (built-fits (loaded_state file) (input_values file values care) (input_care file values care) work roots cells))
    (λ e. rw (e, refused-first r b e, unbuilt-text r (input_care file values care) roots cells e) (refused-fits (answer_of r)))
