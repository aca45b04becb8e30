-- The ways a swap in the cells ends once the checks are passed, 23 and the network; demands 2 and 3; and a refusal before.
-- Assumes nothing.
use Rattle.std.specs.Prelude.{Ok, Err}
use mathlib.Core.Path.{◌≡◌, refl, sym, ap, ◌∙◌, subst, subst₂}
use mathlib.Core.Bool.{true, false, cond}
use mathlib.Core.List.{List, ◌++◌}
use Prim.Native.Nat.{ℕ, ◌*◌, ◌≤◌}
use native.Mathlib.Omega.{arith}
use borrow.Author.Tests.{le-leb, eq-eqb, ne_eqb, eqb-true, eqb-false}
use lib.Dec.{leb, leb→le, eqb}
use lib.ListN.{length, get_or, drop}
use Rattle.lists.specs.Written.{over}
use Rattle.lists.proofs.Bools.{split, to-T, absurd-T}
use Rattle.diagram.specs.Table.{Table}
use Rattle.diagram.specs.Networks.Bound.{most_variables, most_outputs}
use Rattle.table.specs.Answer.{Answer, Outcome}
use Rattle.table.specs.declared.Refusal.{Refusal}
use Rattle.table.specs.declared.Refusal.TheVariants.{TooSmall}
use Rattle.table.specs.declared.State.{State}
use Rattle.table.specs.Answer.{unless, done, number, value, refusal_number}
use Rattle.table.specs.State.{exchanged, reordered_state}
use Rattle.fill.specs.Work.{work_size, links_at, all_links, zero_work, cleared_work}
use Rattle.fill.specs.Counts.{links_fit, counted_links}
use Rattle.fill.proofs.Counting.LinkPairs.{Links}
use Rattle.fill.proofs.Counting.LinkedLevels.{linked-fit, linked-at, linked-ok, linked-total}
use Rattle.lent.specs.Lent.{numbers_of, roots_size}
use Rattle.network.specs.Build.{capacity, network_state, clears}
use Rattle.network.specs.Reading.{read_links_answer, read_links_roots, read_links_cells, read_links_work}
use Rattle.swapping.specs.Swap.{cell_table, exchanged_order, swapped_network, swapped_count, swap_checks, swap_cells_answer}
use Rattle.swapping.specs.Swap.{swap_cells_outcome, swap_cells_roots, swap_cells_cells, clears_swap, swap_cells_work}
use Rattle.swapping.specs.Inner.Exchange.{lent_at, put_links, Entered}
use Rattle.diagram.specs.Exchanging.Exchange.{exchanged_trace}
use Rattle.network.proofs.LinksRead.LevelsRead.{Sized}
use Rattle.network.proofs.LinksRead.TraceRead.{kss, lss, read-total, read-cells, read-roots}
use Rattle.network.proofs.LinksRead.WorkLinks.{zero_same, clear_zero}
use Rattle.swapping.proofs.Checks.{Passed, refused, checks-clear, checks-long}
use Rattle.swapping.proofs.HeldLinks.{root_pairs, few, few', held-sized, held-end, held-counts}
use Rattle.swapping.proofs.HeldLinks.{held-there, held-long, held-past}

module _ (s : State) (p : ℕ) (work roots cells : List ℕ) where
  abbrev answered : Answer
  answered = swap_cells_answer s p work roots cells

  abbrev checked : Answer
  checked = swap_checks s p work roots cells (Ok 0)

  abbrev count : ℕ
  count = swapped_count s p roots cells

  abbrev after : State
  after = network_state (reordered_state s (exchanged p s.order)) count

  -- what is promised of the outcome and of each buffer at the end
  abbrev pub Ended : Outcome → List ℕ → List ℕ → List ℕ → Type 0
  Ended o w r c =
      (o ≡ swap_cells_outcome s p work roots cells)
      × ((r ≡ swap_cells_roots s p work roots cells)
      × ((c ≡ swap_cells_cells s p work roots cells)
      × (w ≡ swap_cells_work s p work roots cells)))

  -- a refusal leaves all but the work buffer
  refusal : (x : Refusal) → answered ≡ Err x → (w : List ℕ) → w ≡ swap_cells_work s p work roots cells → Ended (Err x) w roots cells
  unfolding swap_cells_outcome swap_cells_roots swap_cells_cells
  refusal x e w ew = (rw e, (rw e, (rw e, ew)))

  work-kept : (x : Answer) → answered ≡ x → clears_swap x ≡ false → work ≡ swap_cells_work s p work roots cells
  unfolding swap_cells_work
  work-kept x e d = let f : clears_swap answered ≡ false = ap clears_swap e ∙ d in rw f

  work-cleared : (x : Answer) → answered ≡ x → clears_swap x ≡ true → zero_work work ≡ swap_cells_work s p work roots cells
  unfolding swap_cells_work
  work-cleared x e d = let f : clears_swap answered ≡ true = ap clears_swap e ∙ d in rw f

  -- refused before 23
  module _ (d : done checked ≡ false) where
    same-refusal : answered ≡ checked
    unfolding swap_cells_answer
    same-refusal = refused s p work roots cells (unless (leb count (capacity cells)) (TooSmall count) (Ok 0)) d

    module _ (x : Refusal) (e : Err x ≡ checked) where
      same : answered ≡ Err x
      same = same-refusal ∙ sym e

      clear : clears_swap (Err x) ≡ eqb (refusal_number x) 32
      clear = ap clears_swap e ∙ checks-clear s p work roots cells d ∙ ap (λ (y : Answer). eqb (number y) 32) (sym e)

      kept_case : (refusal_number x ≡ 32 → ⊥) → Ended (Err x) work roots cells
      kept_case n = refusal x same work (work-kept (Err x) same (clear ∙ ne_eqb (refusal_number x) 32 n))

      cleared-case : refusal_number x ≡ 32 → (w : List ℕ) → w ≡ cleared_work work → Ended (Err x) w roots cells
      cleared-case n w ew =
          refusal x same w
          (ew ∙ clear_zero work work (checks-long s p work roots cells (sym (ap number e) ∙ n)) refl
          ∙ work-cleared (Err x) same (clear ∙ eq-eqb (refusal_number x) 32 n))

      -- the work buffer is cleared after 32 alone
      pub refused-case : (w : List ℕ) → w ≡ cond (eqb (refusal_number x) 32) (cleared_work work) work → Ended (Err x) w roots cells
      refused-case w ew =
          split (eqb (refusal_number x) 32) (λ t. cleared-case (eqb-true (refusal_number x) 32 t) w (ew ∙ rw t))
          (λ t. let k : w ≡ work = ew ∙ rw t in
          subst (λ (v : List ℕ). Ended (Err x) v roots cells) (sym k) (kept_case (eqb-false (refusal_number x) 32 t)))

  module _ (P : Passed s p work roots cells) where
    abbrev t : Table
    t = cell_table s roots cells

    abbrev other : List ℕ
    other = exchanged_order s p

    board-answer : answered ≡ unless (leb count (capacity cells)) (TooSmall count) (Ok 0)
    unfolding swap_cells_answer
    board-answer = P.next (unless (leb count (capacity cells)) (TooSmall count) (Ok 0))

    enough : count ≤ capacity cells → answered ≡ Ok 0
    enough h = board-answer ∙ (let f = le-leb count (capacity cells) h in rw f)

    -- what a success leaves
    done-case : count ≤ capacity cells → (w r c : List ℕ) → w ≡ zero_work work
        → r ≡ over (λ j. get_or (swapped_network s p roots cells).roots j 0) roots_size roots
        → c ≡ numbers_of (swapped_network s p roots cells).nodes ++ drop (3 * count) cells
        → Ended (Ok (record { value = 0; state = after })) w r c
    unfolding swap_cells_outcome swap_cells_roots swap_cells_cells
    done-case h w r c ew er ec =
        let e = enough h in
        (rw e, (rw e er, (rw e ec, ew ∙ work-cleared (Ok 0) e refl)))

    -- the links in the work buffer w, and the levels' numbers of entries
    module _ (entries w : List ℕ) (E : Entered (lent_at cells) p s.n (root_pairs s p work roots cells P) entries)
        (ew : w ≡ put_links work links_at (all_links (exchanged_trace (lent_at cells) p s.n (root_pairs s p work roots cells P)))) where
      abbrev en : s.n ≤ most_variables
      en = few s p work roots cells P

      abbrev em : s.m ≤ most_outputs
      em = few' s p work roots cells P

      there : Links w links_at (all_links (kss t other))
      there = held-there s p work roots cells P w ew

      long : work_size ≤ length w
      long = held-long s p work roots cells P w ew

      past : drop work_size w ≡ drop work_size work
      past = held-past s p work roots cells P w ew

      -- they are read as they are
      fit : links_fit s.n s.m entries (length w) ≡ true
      fit = linked-fit s.n s.m entries w en em long (held-end s p work roots cells P entries E)

      abbrev cs : List ℕ
      cs = (counted_links s.n s.m entries w).counts

      sized : Sized s.m entries cs 0 (lss t other)
      sized =
          held-sized s p work roots cells P entries E cs
          (λ j h. linked-at s.n s.m entries w fit j h ∙ held-counts s p work roots cells P entries E w there j h)

      counted : (counted_links s.n s.m entries w).cells ≡ count
      unfolding swapped_count
      counted = linked-total s.n s.m entries w fit ∙ read-total t other en em entries cs sized

      abbrev read : Answer
      read = read_links_answer s.n s.m entries w roots cells

      read_answer : read ≡ unless (leb count (capacity cells)) (TooSmall count) (Ok count)
      unfolding read_links_answer
      read_answer = rw (le-leb roots_size (length roots) P.tested.long, linked-ok s.n s.m entries w fit, counted)

      read-enough : leb count (capacity cells) ≡ true → read ≡ Ok count
      read-enough q = read_answer ∙ rw q

      read_small : leb count (capacity cells) ≡ false → read ≡ Err (TooSmall count)
      read_small q = read_answer ∙ rw q

      -- what it leaves: x is its answer
      module _ (x : Answer) (ex : x ≡ read) (w' r' c' : List ℕ) (yr : r' ≡ read_links_roots s.n s.m entries w roots cells)
          (yc : c' ≡ read_links_cells s.n s.m entries w roots cells) (yw : w' ≡ read_links_work s.n s.m entries w roots cells) where
        left-zero : clears x ≡ true → w' ≡ zero_work work
        unfolding read_links_work
        left-zero e = let f : clears read ≡ true = sym (ap clears ex) ∙ e in yw ∙ rw f (zero_same w work past)

        pub small-case : (y : Refusal) → x ≡ Err y → Ended (Err y) w' r' c'
        unfolding read_links_roots read_links_cells
        small-case y d =
            let z : read ≡ Err y = sym ex ∙ d in
            split (leb count (capacity cells))
            (λ q. absurd-T {b = true} tt (sym (ap done (read-enough q)) ∙ ap done z))
            (λ q. let e : Err y ≡ Err (TooSmall count) = sym z ∙ read_small q in
            let a : answered ≡ Err y = board-answer ∙ rw q (sym e) in
            let er : r' ≡ roots = yr ∙ rw z in
            let ec : c' ≡ cells = yc ∙ rw z in
            subst₂ (λ (r c : List ℕ). Ended (Err y) w' r c) (sym er) (sym ec)
            (refusal y a w' (left-zero (ap clears (d ∙ e)) ∙ work-cleared (Err y) a (ap clears_swap e))))

        pub laid-case : (total : ℕ) → x ≡ Ok total → (y : State) → y ≡ network_state (reordered_state s (exchanged p s.order)) total
            → Ended (Ok (record { value = 0; state = y })) w' r' c'
        unfolding read_links_roots read_links_cells swapped_count swapped_network
        laid-case total et y ey =
            let f : done read ≡ true = sym (ap done ex) ∙ ap done et in
            let z : read ≡ Ok total = sym ex ∙ et in
            split (leb count (capacity cells))
            (λ q. let h : count ≤ capacity cells = leb→le count (capacity cells) (to-T q) in
            let k : total ≡ count = sym (ap value z) ∙ ap value (read-enough q) in
            subst (λ (v : State). Ended (Ok (record { value = 0; state = v })) w' r' c')
            (sym (ey ∙ ap (network_state (reordered_state s (exchanged p s.order))) k))
            (done-case h w' r' c' (left-zero (ap clears et))
            (yr ∙ rw f (read-roots t other en em entries cs sized w work cells there long past roots))
            (yc ∙ rw f (read-cells t other en em entries cs sized w work cells there long past (omega (arith, h))))))
            (λ q. let g : ◌≡◌ {A = ℕ} 0 23 = sym (ap number z) ∙ ap number (read_small q) in absurd (omega (arith, g)))
