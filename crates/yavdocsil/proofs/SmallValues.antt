-- Every call's value is below 2³², so that an answer's word has room for it.
-- Assumes nothing.
use Rattle.std.specs.Prelude.{Ok, Err}
use mathlib.Core.Path.{◌≡◌, refl}
use mathlib.Core.Bool.{Bool, true, false, not, ◌&&◌}
use mathlib.Core.List.{List}
use Prim.Native.Nat.{ℕ, zero, suc, ◌+◌, ◌*◌, ◌-◌, ◌≤◌, ◌<◌, ◌^◌}
use native.Mathlib.Omega.{arith}
use lib.Dec.{eqb, ltb, leb}
use lib.IntN.{ℤ}
use lib.ListN.{length, get_or}
use lib.Pow.{pow_mono}
use Rattle.lists.specs.Lists.{all}
use Rattle.lists.specs.Bits.{packed}
use Rattle.lists.proofs.Bools.{split, to-T}
use Rattle.lists.proofs.Bits.Packed.{packed_lt}
use Rattle.lists.proofs.Numbers.Sums.{sum-digits}
use Rattle.diagram.specs.Networks.Bound.{most_variables, most_outputs, most_nodes}
use Rattle.diagram.specs.Canonical.Computed.{canonical}
use Rattle.diagram.specs.Networks.Diagram.{well_formed}
use Rattle.diagram.specs.Orders.Order.{is_order}
use Rattle.diagram.specs.Table.{cost}
use Rattle.diagram.proofs.Networks.Bound.{few-cost}
use Rattle.diagram.proofs.Orders.Pass.{pass-within}
use Rattle.block.specs.Bits.{stream_bit}
use Rattle.block.specs.Block.{block_size, content_at, whole_blocks, byte, good_check, good_number}
use Rattle.block.specs.Block.{unused_between, unused_zero, unused_bits_zero}
use Rattle.table.specs.declared.Refusal.{Refusal}
use Rattle.table.specs.Answer.{Answer, cells_wanted}
use Rattle.table.specs.declared.Refusal.TheVariants.{BadLength, BadCheck, BadKind, BadInputs, BadOutputs, BadOrder}
use Rattle.table.specs.declared.Refusal.TheVariants.{BadContent, NoRow, NoSuch, ShortBuffer, NoTable, NoNetwork, TooSmall}
use Rattle.table.specs.declared.Refusal.TheVariants.{BadCells, ShortAnswers, NotCanonical, TooManyRecords, ShortGains}
use Rattle.table.specs.declared.State.{State}
use Rattle.table.specs.Answer.{value, unless, unless_refused, first_refusal, answer_of, outcome_of}
use Rattle.table.specs.State.{order_of, stage_of, is_nothing, is_network, exchanged, reordered_state}
use Rattle.table.specs.Stream.{cared_bits}
use Rattle.table.specs.File.{file_inputs, file_outputs, file_order, good_kind, stream_bits, stream_blocks, first_bit}
use Rattle.table.specs.File.{shape_answer, fields_answer, heading_answer, tail_answer, block_answer, streams_answer, file_answer}
use Rattle.table.specs.Calls.{plane_size, load_answer, loaded_state, load_outcome, swap_answer, swap_outcome, cared_answer}
use Rattle.table.proofs.Held.{few_bits, few-inputs, few-outputs}
use Rattle.fill.specs.Work.{work_size}
use Rattle.fill.specs.Calls.{held_table, enough, count_answer}
use Rattle.lent.specs.Lent.{lent_diagram, roots_size}
use Rattle.lent.specs.Evaluate.{good_cells, row_outputs, evaluate_answer}
use Rattle.lent.specs.Rows.{rows_answer}
use Rattle.lent.proofs.Answered.{network-held}
use Rattle.network.specs.Build.{wanted, capacity, long_enough, network_state, build_answer, build_outcome}
use Rattle.swapping.specs.Swap.{cell_table, exchanged_order, swapped_count, swap_checks, swap_cells_answer, swap_cells_outcome}
use Rattle.network.proofs.Building.HeldRead.{few-nodes, few-wanted}
use Rattle.canonical.specs.Canonical.{canonical_answer}
use Rattle.network_file.specs.File.{count_at, roots_at, file_count, file_diagram, cell_blocks, carried_numbers}
use Rattle.network_file.specs.File.{unused_heading, network_heading, cells_block, cells_answer, network_file_answer}
use Rattle.network_file.specs.Read.{read_answer, read_state, read_outcome}
use Rattle.network_file.specs.Write.{file_size, write_answer}
use Rattle.rowlog.specs.Log.{most_records, records_of, log_answer, log_outcome}
use Rattle.sift.specs.Calls.{with_order, sifted_order, sift_answer, sift_outcome, pass_of, pass_answer, pass_outcome}
use Rattle.sift.specs.Moves.{moves_answer}
use Rattle.yavdocsil.specs.Words.{value_limit}

abbrev pub Small : Answer → Type 0
Small a = value a < value_limit

-- an answer after a check: the refusal, whose value is 0, or what follows
checked : (ok : Bool) (refusal : Refusal) (rest : Answer) → cells_wanted refusal ≡ 0 → (ok ≡ true → Small rest) → Small (unless ok refusal rest)
checked true refusal rest r s = s refl
checked false refusal rest r s = omega (arith, r)

none : Small (Ok 0)
none = omega arith

-- an outcome's answer is the call's
of-outcome : (a : Answer) (s : State) → Small a → Small (answer_of (outcome_of a s))
of-outcome (Ok v) s r = r
of-outcome (Err refusal) s r = r

-- a refusal, or what follows the success
after : (first rest : Answer) → Small first → Small rest → Small (unless_refused first rest)
after (Ok v) rest f r = r
after (Err refusal) rest f r = f

-- the first refusal of several
each-small : (f : ℕ → Answer) → ((k : ℕ) → Small (f k)) → (k left : ℕ) → Small (first_refusal f k left)
unfolding first_refusal
each-small f s k zero = none
each-small f s k (suc left) = after (f k) (first_refusal f (suc k) left) (s k) (each-small f s (suc k) left)

-- a file's checks: every success is 0
module _ (file : List ℕ) where
  unused-small : (ok : Bool) → Small (unless ok BadContent (Ok 0))
  unused-small ok = checked ok BadContent (Ok 0) refl (λ _. none)

  shape-small : Small (shape_answer file)
  unfolding shape_answer
  shape-small =
      let order = is_order (file_inputs file) (file_order file) in
      let outputs = leb 1 (file_outputs file) && leb (file_outputs file) most_outputs in
      let last = unless order BadOrder (Ok 0) in
      checked (leb (file_inputs file) most_variables) BadInputs (unless outputs BadOutputs last) refl
      (λ _. checked outputs BadOutputs last refl (λ _. checked order BadOrder (Ok 0) refl (λ _. none)))

  fields-small : Small (fields_answer file)
  unfolding fields_answer
  fields-small =
      let unused = unused_zero file 0 (6 + file_inputs file) in
      after (shape_answer file) (unless unused BadContent (Ok 0)) shape-small (unused-small unused)

  -- of a block: 2, 3, then what follows
  checked-block : (k : ℕ) (kind : Bool) (rest : Answer) → Small rest → Small (unless (good_check file k) BadCheck (unless kind BadKind rest))
  checked-block k kind rest r =
      checked (good_check file k) BadCheck (unless kind BadKind rest) refl (λ _. checked kind BadKind rest refl (λ _. r))

  -- of the further blocks: 1, then each in turn
  further-blocks : (total : ℕ) (f : ℕ → Answer) → ((k : ℕ) → Small (f k)) → (left : ℕ)
      → Small (unless (eqb (length file) total) BadLength (first_refusal f 1 left))
  further-blocks total f s left =
      checked (eqb (length file) total) BadLength (first_refusal f 1 left) refl (λ _. each-small f s 1 left)

  -- of a file: 1, the heading, then what follows
  whole-file : (heading rest : Answer) → Small heading → Small rest
      → Small (unless (whole_blocks file) BadLength (unless_refused heading rest))
  whole-file heading rest h r =
      checked (whole_blocks file) BadLength (unless_refused heading rest) refl (λ _. after heading rest h r)

  heading-small : Small (heading_answer file)
  unfolding heading_answer
  heading-small = checked-block 0 (good_kind 0 file 0) (fields_answer file) fields-small

  module _ (bits blocks : ℕ) where
    tail-small : (k : ℕ) → Small (tail_answer bits blocks file k)
    unfolding tail_answer
    tail-small k = unused-small (unused_bits_zero file k (bits - first_bit blocks k))

    block-small : (k : ℕ) → Small (block_answer bits blocks file k)
    unfolding block_answer
    block-small k = checked-block k (good_kind blocks file k) (tail_answer bits blocks file k) (tail-small k)

  streams-small : (n m : ℕ) → Small (streams_answer file n m)
  unfolding streams_answer
  streams-small n m =
      let blocks = stream_blocks n m in
      further-blocks (block_size * (1 + 2 * blocks)) (block_answer (stream_bits n m) blocks file) (block-small (stream_bits n m) blocks)
      (2 * blocks)

  file-small : Small (file_answer file)
  unfolding file_answer
  file-small =
      whole-file (heading_answer file) (streams_answer file (file_inputs file) (file_outputs file)) heading-small
      (streams-small (file_inputs file) (file_outputs file))

  network-heading-small : Small (network_heading file)
  unfolding network_heading unused_heading
  network-heading-small =
      let unused =
      unused_between file 0 (6 + file_inputs file) count_at && unused_zero file 0 (roots_at + 2 * file_outputs file) in
      checked-block 0 (eqb (byte file 0 0) 4 && good_number file 0) (unless_refused (shape_answer file) (unused_heading file))
      (after (shape_answer file) (unused_heading file) shape-small (unused-small unused))

  cells-block-small : (count k : ℕ) → Small (cells_block count file k)
  unfolding cells_block
  cells-block-small count k =
      let unused = unused_zero file k (content_at + 2 * carried_numbers count k) in
      checked-block k (eqb (byte file k 0) 5 && good_number file k) (unless unused BadContent (Ok 0)) (unused-small unused)

  network-file-small : Small (network_file_answer file)
  unfolding network_file_answer cells_answer
  network-file-small =
      let count = file_count file in
      whole-file (network_heading file) (cells_answer file count) network-heading-small
      (further-blocks (block_size * suc (cell_blocks count)) (cells_block count file) (cells-block-small count) (cell_blocks count))

  -- reading: 23 answers the file's count, which is two bytes
  pub read_small : ((i : ℕ) → get_or file i 0 < 256) → (values care work roots cells : List ℕ)
      → Small (answer_of (read_outcome file values care work roots cells))
  unfolding read_outcome read_answer
  read_small bytes values care work roots cells =
      of-outcome (read_answer file values care work roots cells) (read_state file)
      (let n = file_inputs file in
      let m = file_outputs file in
      let count = file_count file in
      let same = canonical true n m (file_order file) (file_diagram file) in
      let good = well_formed true n m (file_diagram file) in
      let last = unless same NotCanonical (Ok 0) in
      let cells-checked = unless good BadCells last in
      let board = unless (leb count (capacity cells)) (TooSmall count) cells-checked in
      let tested : Small cells-checked = checked good BadCells last refl (λ _. checked same NotCanonical (Ok 0) refl (λ _. none)) in
      checked (long_enough values care work roots) ShortBuffer (unless_refused (network_file_answer file) board) refl
      (λ _. after (network_file_answer file) board network-file-small
      (split (leb count (capacity cells)) (λ e. rw e tested) (λ e. rw e (omega (arith, bytes count_at, bytes (suc count_at)))))))

pub load-small : (file values care : List ℕ) → Small (answer_of (load_outcome file values care))
unfolding load_outcome load_answer
load-small file values care =
    of-outcome (load_answer file values care) (loaded_state file)
    (checked (leb plane_size (length values) && leb plane_size (length care)) ShortBuffer (file_answer file) refl (λ _. file-small file))

module _ (s : State) where
  -- a table is held
  abbrev held : Bool
  held = not (is_nothing (stage_of s))

  pub swap-small : (p : ℕ) → Small (answer_of (swap_outcome s p))
  unfolding swap_outcome swap_answer
  swap-small p =
      of-outcome (swap_answer s p) (reordered_state s (exchanged p s.order))
      (let last = unless (ltb (suc p) s.n) NoSuch (Ok 0) in
      checked held NoTable last refl (λ _. checked (ltb (suc p) s.n) NoSuch (Ok 0) refl (λ _. none)))

  -- logging: the one success is 0
  pub log-small : (rows counts care : List ℕ) → Small (answer_of (log_outcome s rows counts care))
  unfolding log_outcome log_answer
  log-small rows counts care =
      of-outcome (log_answer s rows counts care) (reordered_state s s.order)
      (let room = leb (records_of s counts + length rows) most_records in
      let inside = all (λ row. ltb row (2 ^ s.n)) rows in
      let last = unless inside NoRow (unless room TooManyRecords (Ok 0)) in
      let counted = unless (leb (2 ^ s.n) (length counts)) ShortBuffer last in
      checked (leb plane_size (length care)) ShortBuffer (unless held NoTable counted) refl
      (λ _. checked held NoTable counted refl
      (λ _. checked (leb (2 ^ s.n) (length counts)) ShortBuffer last refl
      (λ _. checked inside NoRow (unless room TooManyRecords (Ok 0)) refl
      (λ _. checked room TooManyRecords (Ok 0) refl (λ _. none))))))

  pub cared-small : (care : List ℕ) → Small (cared_answer s care)
  unfolding cared_answer cared_bits
  cared-small care =
      let last = Ok (cared_bits s.n s.m care) in
      checked (leb plane_size (length care)) ShortBuffer (unless held NoTable last) refl
      (λ _. checked held NoTable last refl
      (λ e. omega (arith, few_bits s (to-T e), sum-digits (stream_bit care) (s.m * 2 ^ s.n))))

  outputs-small : is_network (stage_of s) ≡ true → (f : ℕ → Bool) → packed s.m f < value_limit
  outputs-small e f =
      let few : s.m ≤ most_outputs = few-outputs s (network-held (stage_of s) (to-T e)) in
      omega (arith, packed_lt s.m f, pow_mono {i = s.m} {j = most_outputs} few)

  pub evaluate-small : (row : ℕ) (roots cells : List ℕ) → Small (evaluate_answer s row roots cells)
  unfolding evaluate_answer row_outputs
  evaluate-small row roots cells =
      let last = unless (good_cells s roots cells) BadCells (Ok (row_outputs s row roots cells)) in
      let inside = ltb row (2 ^ s.n) in
      checked (leb roots_size (length roots)) ShortBuffer (unless (is_network (stage_of s)) NoNetwork (unless inside NoRow last)) refl
      (λ _. checked (is_network (stage_of s)) NoNetwork (unless inside NoRow last) refl
      (λ e. checked inside NoRow last refl
      (λ _. checked (good_cells s roots cells) BadCells (Ok (row_outputs s row roots cells)) refl (λ _. outputs-small e _))))

  -- many rows: the one success is 0
  pub rows-small : (rows answers roots cells : List ℕ) → Small (rows_answer s rows answers roots cells)
  unfolding rows_answer
  rows-small rows answers roots cells =
      let last = unless (good_cells s roots cells) BadCells (Ok 0) in
      let inside = all (λ row. ltb row (2 ^ s.n)) rows in
      let network = unless (is_network (stage_of s)) NoNetwork (unless inside NoRow last) in
      checked (leb roots_size (length roots)) ShortBuffer (unless (leb (length rows) (length answers)) ShortAnswers network) refl
      (λ _. checked (leb (length rows) (length answers)) ShortAnswers network refl
      (λ _. checked (is_network (stage_of s)) NoNetwork (unless inside NoRow last) refl
      (λ _. checked inside NoRow last refl (λ _. checked (good_cells s roots cells) BadCells (Ok 0) refl (λ _. none)))))

  -- of held cells: 24, 32, then what follows
  abbrev tested : List ℕ → List ℕ → Answer → Answer
  tested roots cells rest =
      unless (good_cells s roots cells) BadCells
      (unless (canonical true s.n s.m (order_of s) (lent_diagram s.count s.m cells roots)) NotCanonical rest)

  tested-small : (roots cells : List ℕ) (rest : Answer) → Small rest → Small (tested roots cells rest)
  tested-small roots cells rest r =
      let same = canonical true s.n s.m (order_of s) (lent_diagram s.count s.m cells roots) in
      checked (good_cells s roots cells) BadCells (unless same NotCanonical rest) refl (λ _. checked same NotCanonical rest refl (λ _. r))

  -- a held network's checks, and writing it: the one success is 0
  canonical-small : (roots cells : List ℕ) → Small (canonical_answer s roots cells)
  unfolding canonical_answer
  canonical-small roots cells =
      let last = tested roots cells (Ok 0) in
      checked (leb roots_size (length roots)) ShortBuffer (unless (is_network (stage_of s)) NoNetwork last) refl
      (λ _. checked (is_network (stage_of s)) NoNetwork last refl (λ _. tested-small roots cells (Ok 0) none))

  -- swapping in the cells: the one success is 0, and 23 answers the cells wanted
  pub swap-cells-small : (p : ℕ) (work roots cells : List ℕ) → Small (answer_of (swap_cells_outcome s p work roots cells))
  unfolding swap_cells_outcome swap_cells_answer swap_checks swapped_count
  swap-cells-small p work roots cells =
      of-outcome (swap_cells_answer s p work roots cells) (network_state (reordered_state s (exchanged p s.order)) (swapped_count s p roots cells))
      (let w = cost (cell_table s roots cells) (exchanged_order s p) in
      let long = leb work_size (length work) && leb roots_size (length roots) in
      let last = unless (leb w (capacity cells)) (TooSmall w) (Ok 0) in
      let placed = unless (ltb (suc p) s.n) NoSuch (tested roots cells last) in
      checked long ShortBuffer (unless (is_network (stage_of s)) NoNetwork placed) refl
      (λ _. checked (is_network (stage_of s)) NoNetwork placed refl
      (λ e. let h = network-held (stage_of s) (to-T e) in
      let few : w ≤ most_nodes = few-cost (cell_table s roots cells) (exchanged_order s p) (few-inputs s h) (few-outputs s h) in
      checked (ltb (suc p) s.n) NoSuch (tested roots cells last) refl
      (λ _. tested-small roots cells last
      (split (leb w (capacity cells)) (λ f. rw f none) (λ f. rw f (omega (arith, few))))))))

  pub write-small : (roots cells work file : List ℕ) → Small (write_answer s roots cells work file)
  unfolding write_answer
  write-small roots cells work file =
      let long = leb roots_size (length roots) && (leb work_size (length work) && leb file_size (length file)) in
      checked long ShortBuffer (canonical_answer s roots cells) refl (λ _. canonical-small roots cells)

  -- the calls that are lent values, care and a work buffer: 10, then 21
  module _ (values care work : List ℕ) where
    lent-small : (rest : Answer) → (held ≡ true → Small rest)
        → Small (unless (enough values care work) ShortBuffer (unless held NoTable rest))
    lent-small rest r =
        checked (enough values care work) ShortBuffer (unless held NoTable rest) refl (λ _. checked held NoTable rest refl r)

    pub count_small : Small (count_answer s values care work)
    unfolding count_answer
    count_small =
        lent-small (Ok (cost (held_table s values care) (order_of s)))
        (λ e. omega (arith, few-nodes s values care (to-T e) (order_of s)))

    pub build-small : (roots cells : List ℕ) → Small (answer_of (build_outcome s values care work roots cells))
    unfolding build_outcome build_answer
    build-small roots cells =
        of-outcome (build_answer s values care work roots cells) (network_state s (wanted s values care))
        (let w = wanted s values care in
        let last = unless (leb w (capacity cells)) (TooSmall w) (Ok w) in
        checked (long_enough values care work roots) ShortBuffer (unless held NoTable last) refl
        (λ _. checked held NoTable last refl
        (λ e. split (leb w (capacity cells)) (λ f. rw f (omega (arith, few-wanted s values care (to-T e))))
        (λ f. rw f (omega (arith, few-wanted s values care (to-T e)))))))

    pub sift-small : (v : ℕ) → Small (answer_of (sift_outcome s v values care work))
    unfolding sift_outcome sift_answer
    sift-small v =
        of-outcome (sift_answer s v values care work) (with_order s (sifted_order s v values care))
        (let order = sifted_order s v values care in
        let last = Ok (cost (held_table s values care) order) in
        lent-small (unless (ltb v s.n) NoSuch last)
        (λ e. checked (ltb v s.n) NoSuch last refl (λ _. omega (arith, few-nodes s values care (to-T e) order))))

    -- a report of all moves: the one success is 0
    pub moves-small : (gains : List ℤ) → Small (moves_answer s gains values care work)
    unfolding moves_answer
    moves-small gains =
        let room = leb (s.n * s.n) (length gains) in
        lent-small (unless room ShortGains (Ok 0)) (λ _. checked room ShortGains (Ok 0) refl (λ _. none))

    -- no more orders are tried than the limit allows
    pub pass-small : (limit : ℕ) → limit < value_limit → Small (answer_of (pass_outcome s limit values care work))
    unfolding pass_outcome pass_answer
    pass-small limit h =
        of-outcome (pass_answer s limit values care work) (with_order s (pass_of s limit values care).order)
        (lent-small (Ok (pass_of s limit values care).tried)
        (λ _. omega (arith, h, pass-within (held_table s values care) limit (order_of s))))
