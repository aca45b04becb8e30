-- What a build answers and leaves, by what the count answers and by the board.
-- Assumes nothing.
use Rattle.std.specs.Prelude.{Ok, Err}
use mathlib.Core.Path.{◌≡◌, refl, sym, ap, ◌∙◌}
use mathlib.Core.Bool.{Bool, true, false, not, ◌&&◌}
use mathlib.Core.List.{List, ◌++◌}
use Prim.Native.Nat.{ℕ, ◌*◌, ◌≤◌, ◌<◌}
use native.Mathlib.Omega.{arith}
use borrow.Author.Tests.{le-leb, lt-leb}
use lib.Dec.{T, leb, leb→le}
use lib.ListN.{length, get_or, drop}
use Rattle.lists.specs.Written.{over}
use Rattle.lists.proofs.Bools.{split, of_T, to-T, absurd-T, and_l, and_r}
use Rattle.diagram.specs.Table.{filled, cost}
use Rattle.diagram.specs.Filling.Fill.{trace}
use Rattle.diagram.specs.Networks.Network.{counts}
use Rattle.diagram.specs.Networks.Bound.{most_outputs}
use Rattle.table.specs.Answer.{Answer}
use Rattle.table.specs.declared.Refusal.{Refusal}
use Rattle.table.specs.declared.Refusal.TheVariants.{ShortBuffer, NoTable, TooSmall}
use Rattle.table.specs.declared.State.{State}
use Rattle.table.specs.Answer.{unless, done, number, value}
use Rattle.table.specs.State.{order_of, stage_of, is_nothing}
use Rattle.table.specs.Calls.{plane_size}
use Rattle.table.proofs.Files.Accepted.{unless-done}
use Rattle.fill.specs.Work.{work_size, trace_work, zero_work}
use Rattle.fill.specs.Calls.{held_table, enough, count_answer, filled_levels, links_work, entry_counts, drawn_outputs, per_level}
use Rattle.lent.specs.Lent.{numbers_of, roots_size}
use Rattle.lent.proofs.Sizes.{roots-size}
use Rattle.network.specs.Build.{held_network, wanted, capacity, long_enough, network_state, reaches_board, clears, build_answer}
use Rattle.network.specs.Build.{build_outcome}
use Rattle.network.specs.Build.{build_roots, build_cells, build_work}

and_last : (a b c d : Bool) → d ≡ false → (a && (b && (c && d))) ≡ false
and_last true true true d e = e
and_last true true false d e = refl
and_last true false c d e = refl
and_last false b c d e = refl

and-more : (a b c d : Bool) → d ≡ true → (a && (b && (c && d))) ≡ (a && (b && c))
and-more true true true d e = e
and-more true true false d e = refl
and-more true false c d e = refl
and-more false b c d e = refl

module _ (s : State) (values care work roots cells : List ℕ) where
  abbrev answered : Answer
  answered = build_answer s values care work roots cells

  abbrev counted : Answer
  counted = count_answer s values care work

  abbrev is_held : Bool
  is_held = not (is_nothing (stage_of s))

  -- 10 for the roots
  pub roots-short : length roots < most_outputs → answered ≡ Err ShortBuffer
  unfolding build_answer
  roots-short h =
      rw (and_last (leb plane_size (length values)) (leb plane_size (length care)) (leb work_size (length work)) (leb roots_size (length roots))
      (lt-leb roots_size (length roots) (omega (arith, roots-size))))

  pub short-reaches : length roots < most_outputs → reaches_board s values care work roots ≡ false
  unfolding reaches_board
  short-reaches h =
      rw (and_last (leb plane_size (length values)) (leb plane_size (length care)) (leb work_size (length work)) (leb roots_size (length roots))
      (lt-leb roots_size (length roots) (omega (arith, roots-size))))

  module _ (h : most_outputs ≤ length roots) where
    all-long : long_enough values care work roots ≡ enough values care work
    all-long =
        and-more (leb plane_size (length values)) (leb plane_size (length care)) (leb work_size (length work)) (leb roots_size (length roots))
        (le-leb roots_size (length roots) (omega (arith, roots-size)))

    -- then what the count refuses, then 23
    answer-is : answered
        ≡ unless (enough values care work) ShortBuffer
        (unless is_held NoTable (unless (leb (wanted s values care) (capacity cells)) (TooSmall (wanted s values care))
        (Ok (wanted s values care))))
    unfolding build_answer
    answer-is = rw all-long

    pub count-refused : done counted ≡ false → (answered ≡ counted) × (clears counted ≡ false)
    unfolding count_answer
    count-refused e =
        split (enough values care work)
        (λ a. split is_held
        (λ b. absurd-T {b = true} tt (rw (a, b) at e))
        (λ b. (answer-is ∙ rw (a, b), rw (a, b))))
        (λ a. (answer-is ∙ rw a, rw a))

    pub refused-reaches : done counted ≡ false → reaches_board s values care work roots ≡ false
    unfolding count_answer reaches_board
    refused-reaches e =
        split (enough values care work)
        (λ a. split is_held (λ b. absurd-T {b = true} tt (rw (a, b) at e)) (λ b. rw (all-long, a, b)))
        (λ a. rw (all-long, a))

    -- where the count is a success, the board decides

    pub count-done : (total : ℕ) → counted ≡ Ok total → T is_held × (total ≡ wanted s values care)
    unfolding count_answer wanted
    count-done total e =
        split (enough values care work)
        (λ a. split is_held
        (λ b. let q : Ok (cost (held_table s values care) (order_of s)) ≡ Ok total = rw (a, b) at e in (to-T b, sym (ap value q)))
        (λ b. let q : Err NoTable ≡ Ok total = rw (a, b) at e in
        let z : ◌≡◌ {A = ℕ} 21 0 = ap number q in absurd (omega arith)))
        (λ a. let q : Err ShortBuffer ≡ Ok total = rw a at e in
        let z : ◌≡◌ {A = ℕ} 10 0 = ap number q in absurd (omega arith))

    both : counted ≡ Ok (wanted s values care)
        → answered ≡ unless (leb (wanted s values care) (capacity cells)) (TooSmall (wanted s values care)) (Ok (wanted s values care))
    unfolding count_answer
    both e =
        split (enough values care work)
        (λ a. split is_held (λ b. answer-is ∙ rw (a, b))
        (λ b. let q : Err NoTable ≡ Ok (wanted s values care) = rw (a, b) at e in
        let z : ◌≡◌ {A = ℕ} 21 0 = ap number q in absurd (omega arith)))
        (λ a. let q : Err ShortBuffer ≡ Ok (wanted s values care) = rw a at e in
        let z : ◌≡◌ {A = ℕ} 10 0 = ap number q in absurd (omega arith))

    pub too_small : counted ≡ Ok (wanted s values care) → capacity cells < wanted s values care
        → answered ≡ Err (TooSmall (wanted s values care))
    too_small e b = both e ∙ rw (lt-leb (wanted s values care) (capacity cells) b)

    pub room-enough : counted ≡ Ok (wanted s values care) → wanted s values care ≤ capacity cells → answered ≡ Ok (wanted s values care)
    room-enough e b = both e ∙ rw (le-leb (wanted s values care) (capacity cells) b)

  -- what a success says
  pub record Succeeded : Type 0 where
    pub long-values : plane_size ≤ length values
    pub long-care : plane_size ≤ length care
    pub long-roots : roots_size ≤ length roots
    pub held : T is_held
    pub room : wanted s values care ≤ capacity cells
    pub answer : answered ≡ Ok (wanted s values care)

  pub succeeded : done answered ≡ true → Succeeded
  unfolding build_answer
  succeeded d =
      let v = leb plane_size (length values) in
      let c = leb plane_size (length care) in
      let w = leb work_size (length work) in
      let r = leb roots_size (length roots) in
      let k = wanted s values care in
      let l = unless-done (long_enough values care work roots) ShortBuffer _ (to-T d) in
      let h = unless-done is_held NoTable _ l.1 in
      let b = unless-done (leb k (capacity cells)) (TooSmall k) (Ok k) h.1 in
      let q = and_r v (c && (w && r)) l.0 in
      let el : long_enough values care work roots ≡ true = of_T l.0 in
      let eh : is_held ≡ true = of_T h.0 in
      let eb : leb k (capacity cells) ≡ true = of_T b.0 in
      record {
        long-values = leb→le plane_size (length values) (and_l v (c && (w && r)) l.0);
        long-care = leb→le plane_size (length care) (and_l c (w && r) q);
        long-roots = leb→le roots_size (length roots) (and_r w r (and_r c (w && r) q));
        held = h.0;
        room = leb→le k (capacity cells) b.0;
        answer = rw (el, eh, eb);
      }

  -- what a refusal leaves

  module _ (x : Refusal) (e : answered ≡ Err x) where
    pub refused-outcome : Err x ≡ build_outcome s values care work roots cells
    unfolding build_outcome
    refused-outcome = rw e

    pub refused-roots : roots ≡ build_roots s values care work roots cells
    unfolding build_roots
    refused-roots = rw e

    pub refused-cells : cells ≡ build_cells s values care work roots cells
    unfolding build_cells
    refused-cells = rw e

  pub work-kept : (x : Answer) → answered ≡ x → clears x ≡ false → work ≡ build_work s values care work roots cells
  unfolding build_work
  work-kept x e d = rw (e, d)

  pub work-cleared : (x : Answer) → answered ≡ x → clears x ≡ true
      → zero_work work ≡ build_work s values care work roots cells
  unfolding build_work
  work-cleared x e d = rw (e, d)

  -- and a success

  module _ (e : answered ≡ Ok (wanted s values care)) where
    pub done-outcome : Ok (record { value = wanted s values care; state = network_state s (wanted s values care) })
        ≡ build_outcome s values care work roots cells
    unfolding build_outcome
    done-outcome = rw e

    pub done-roots : over (λ j. get_or (held_network s values care).roots j 0) roots_size roots ≡ build_roots s values care work roots cells
    unfolding build_roots
    done-roots = rw e

    pub done-cells : numbers_of (held_network s values care).nodes ++ drop (3 * wanted s values care) cells
        ≡ build_cells s values care work roots cells
    unfolding build_cells
    done-cells = rw e

-- what the filling leaves where the count is a success, and where it isn't

module _ (s : State) (values care work : List ℕ) where
  pub links-kept-work : done (count_answer s values care work) ≡ false → links_work s values care work ≡ work
  unfolding links_work
  links-kept-work e = rw e

  pub links-traced : (total : ℕ) → count_answer s values care work ≡ Ok total
      → links_work s values care work ≡ trace_work (trace true s.n (drawn_outputs s values care)) work
  unfolding links_work
  links-traced total e = rw e

module _ (s : State) (values care : List ℕ) where
  pub levels-entries : (filled_levels s values care).entries ≡ per_level (entry_counts s.n (drawn_outputs s values care))
  unfolding filled_levels
  levels-entries = refl

  pub levels-counts : (filled_levels s values care).counts ≡ per_level
      (counts true s.n (filled true (held_table s values care) (order_of s)))
  unfolding filled_levels
  levels-counts = refl
