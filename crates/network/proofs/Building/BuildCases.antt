-- The four ways a build ends: 10 for the roots, what the count refuses, 23, and the network.
-- Assumes nothing.
use Rattle.std.specs.Prelude.{Ok, Err, IfOk}
use mathlib.Core.Path.{◌≡◌, refl, sym, ap, ◌∙◌, subst}
use mathlib.Core.Bool.{Bool, true, false, not}
use mathlib.Core.List.{List}
use mathlib.Core.Logic.{◌↔◌}
use Prim.Native.Nat.{ℕ, ◌+◌, ◌*◌, ◌-◌, ◌≤◌, ◌<◌}
use native.Mathlib.Omega.{arith}
use lib.Dec.{T}
use lib.ListN.{length, get_or}
use Rattle.lists.specs.Sums.{sum_below}
use Rattle.lists.specs.Written.{over}
use Rattle.lists.proofs.Bools.{absurd-T}
use Rattle.diagram.specs.Networks.Bound.{most_variables, most_outputs}
use Rattle.diagram.specs.Demands.{NoneFits}
use Rattle.table.specs.Answer.{Outcome, answer_of}
use Rattle.table.specs.declared.Refusal.{Refusal}
use Rattle.table.specs.declared.Refusal.TheVariants.{ShortBuffer, TooSmall}
use Rattle.table.specs.declared.State.{State}
use Rattle.table.specs.Answer.{done, number}
use Rattle.table.specs.State.{order_of, stage_of, is_nothing}
use Rattle.table.proofs.Held.{few-inputs, few-outputs}
use Rattle.fill.specs.declared.Levels.{Levels}
use Rattle.fill.specs.Work.{work_size, cleared_work, trace_work}
use Rattle.fill.specs.Calls.{held_table, count_answer, filled_levels, levels_of, links_work}
use Rattle.fill.proofs.Calls.Answers.{levels-refused, levels-done}
use Rattle.lent.specs.Lent.{lent_diagram, roots_size}
use Rattle.lent.proofs.Sizes.{roots-size}
use Rattle.network.specs.Levels.{stored_limit, made, level_at, levels_made, root_at}
use Rattle.network.specs.Build.{wanted, capacity, reaches_board, network_state, clears, build_outcome, build_roots, build_cells}
use Rattle.network.specs.Build.{build_work, Built}
use Rattle.network.proofs.Building.HeldRead.{held_links, held_entries, held_counts}
use Rattle.network.proofs.Building.LentNetwork.{built-lent, fit-held}
use Rattle.network.proofs.Building.Laid.{links-cleared, ready-end, ready-long, ready-total, ready-few, ready-next, laid-work, laid_cells}
use Rattle.network.proofs.Building.Laid.{laid-roots}
use Rattle.network.proofs.Building.Outcomes.{roots-short, short-reaches, count-refused, refused-reaches, count-done}
use Rattle.network.proofs.Building.Outcomes.{too_small, room-enough, refused-outcome, refused-roots, refused-cells, work-kept, work-cleared}
use Rattle.network.proofs.Building.Outcomes.{done-outcome, done-roots, done-cells, links-kept-work, links-traced, levels-entries}
use Rattle.network.proofs.Building.Outcomes.{levels-counts}

-- a test that fails does not hold
pub never : {X : Type 0} {b : Bool} → b ≡ false → b ≡ true → X
never f t = absurd-T {b = true} tt (sym t ∙ f)

module _ (s : State) (values care work roots cells : List ℕ) where
  -- what is promised of the outcome o and of the work buffer, the roots and the cells at the end
  abbrev pub Ended : Outcome → List ℕ → List ℕ → List ℕ → Type 0
  Ended o w r c =
      (o ≡ build_outcome s values care work roots cells)
      × ((r ≡ build_roots s values care work roots cells)
      × ((c ≡ build_cells s values care work roots cells)
      × ((w ≡ build_work s values care work roots cells)
      × (IfOk o (λ d. Built s values care d (lent_diagram d.state.count s.m c r) (capacity c))
      × (reaches_board s values care work roots ≡ true
      → (number (answer_of o) ≡ 23) ↔ NoneFits true (held_table s values care) (order_of s) (capacity cells))))))

  pub short-case : length roots < most_outputs → Ended (Err ShortBuffer) work roots cells
  short-case h =
      let e = roots-short s values care work roots cells h in (
        refused-outcome s values care work roots cells ShortBuffer e,
        (
          refused-roots s values care work roots cells ShortBuffer e,
          (
            refused-cells s values care work roots cells ShortBuffer e,
            (
              work-kept s values care work roots cells (Err ShortBuffer) e refl,
              (tt, never (short-reaches s values care work roots cells h)),
            ),
          ),
        ),
      )

  -- w is what the filling leaves
  module _ (h : most_outputs ≤ length roots) (w : List ℕ) (ew : w ≡ links_work s values care work) where
    -- it is refused with r
    pub refused-case : (r : Refusal) → levels_of s values care work ≡ Err r → Ended (Err r) w roots cells
    refused-case r t =
        let counted = levels-refused s values care work r t in
        let fc = ap done counted in
        let q = count-refused s values care work roots cells h fc in
        let e = q.0 ∙ counted in
        let g = sym (ap clears counted) ∙ q.1 in (
          refused-outcome s values care work roots cells r e,
          (
            refused-roots s values care work roots cells r e,
            (
              refused-cells s values care work roots cells r e,
              (
                ew ∙ links-kept-work s values care work fc ∙ work-kept s values care work roots cells (Err r) e g,
                (tt, never (refused-reaches s values care work roots cells h fc)),
              ),
            ),
          ),
        )

    -- it is a success with the levels k
    module _ (k : Levels) (d : levels_of s values care work ≡ Ok k) where
      abbrev total : ℕ
      total = k.cells

      is : k ≡ filled_levels s values care
      is = (levels-done s values care work k d).0

      success : count_answer s values care work ≡ Ok total
      success = (levels-done s values care work k d).1

      held : T (not (is_nothing (stage_of s)))
      held = (count-done s values care work roots cells h total success).0

      right-total : total ≡ wanted s values care
      right-total = (count-done s values care work roots cells h total success).1

      wanted-success : count_answer s values care work ≡ Ok (wanted s values care)
      wanted-success = success ∙ ap Ok right-total

      traced : w ≡ trace_work (held_links s values care) work
      traced = ew ∙ links-traced s values care work total success

      pub small-case : capacity cells < total → (w' : List ℕ) → w' ≡ cleared_work w → Ended (Err (TooSmall total)) w' roots cells
      small-case b w' e' =
          let x = TooSmall total in
          let e = too_small s values care work roots cells h wanted-success (subst (λ n. capacity cells < n) right-total b)
          ∙ ap (λ (k : ℕ). Err (TooSmall k)) (sym right-total) in (
            refused-outcome s values care work roots cells x e,
            (
              refused-roots s values care work roots cells x e,
              (
                refused-cells s values care work roots cells x e,
                (
                  e' ∙ links-cleared s values care held work w traced ∙ work-cleared s values care work roots cells (Err x) e refl,
                  (tt, λ t. (λ e. (fit-held s values care held (capacity cells)).1 (omega (arith, right-total, b)), λ none. refl)),
                ),
              ),
            ),
          )

      entries-held : k.entries ≡ held_entries s values care
      entries-held = ap (λ (x : Levels). x.entries) is ∙ levels-entries s values care

      counts-held : k.counts ≡ held_counts s values care
      counts-held = ap (λ (x : Levels). x.counts) is ∙ levels-counts s values care

      module _ (fits : total ≤ capacity cells) where
        -- the levels may be read
        pub ready : ((s.n ≤ most_variables) × (s.m ≤ most_outputs) × (level_at s.m k.entries s.n ≤ work_size)
            × (level_at s.m k.entries s.n ≤ length w))
            × (((total ≡ sum_below (λ q. get_or k.counts q 0) s.n) × (2 * total + 1 < stored_limit) × (3 * total ≤ length cells))
            × ((roots_size ≤ length roots)
            × ((q : ℕ) → q < s.n → (levels_made s.m k.entries k.counts q (s.n - q) (made w cells 0)).next ≤ total)))
        ready = (
          (
            few-inputs s held,
            few-outputs s held,
            ready-end s values care held work cells k.entries k.counts w total entries-held counts-held traced right-total,
            ready-long s values care held work cells k.entries k.counts w total entries-held counts-held traced right-total,
          ),
          (
            (
              ready-total s values care held work cells k.entries k.counts w total entries-held counts-held traced right-total,
              ready-few s values care held work cells k.entries k.counts w total entries-held counts-held traced right-total,
              omega arith,
            ),
            (
              omega (arith, h, roots-size),
              ready-next s values care held work cells k.entries k.counts w total entries-held counts-held traced right-total,
            ),
          ),
        )

        pub built-case : (w' r' c' : List ℕ)
            → w' ≡ cleared_work (levels_made s.m k.entries k.counts 0 s.n (made w cells 0)).work
            → c' ≡ (levels_made s.m k.entries k.counts 0 s.n (made w cells 0)).cells
            → r' ≡ over (root_at (levels_made s.m k.entries k.counts 0 s.n (made w cells 0)).work s.m
            (level_at s.m k.entries 0)) roots_size roots
            → (after : State) → after ≡ network_state s total → Ended (Ok (record { value = total; state = after })) w' r' c'
        built-case w' r' c' yw yc yr after ea =
            let e = room-enough s values care work roots cells h wanted-success (subst (λ n. n ≤ capacity cells) right-total fits) in
            let ec = yc ∙ laid_cells s values care held work cells k.entries k.counts w total entries-held counts-held traced
            right-total (omega arith) in
            let er = yr ∙ laid-roots s values care held work cells k.entries k.counts w total entries-held counts-held traced
            right-total roots in (
              ap (λ (x : State). Ok (record { value = total; state = x })) ea
                  ∙ ap (λ n. Ok (record { value = n; state = network_state s n })) right-total
                  ∙ done-outcome s values care work roots cells e,
              (
                er ∙ done-roots s values care work roots cells e,
                (
                  ec ∙ done-cells s values care work roots cells e,
                  (
                    yw ∙ laid-work s values care held work cells k.entries k.counts w total entries-held counts-held traced
                        right-total
                        ∙ work-cleared s values care work roots cells (Ok (wanted s values care)) e refl,
                    (
                      built-lent s values care held (record { value = total; state = after }) right-total
                          (ap (λ (x : State). x.count) ea ∙ right-total) cells roots c' r' ec er,
                      λ t. (
                        λ z. absurd (omega (arith, z)),
                        λ none. absurd (omega (arith, (fit-held s values care held (capacity cells)).0 none, fits, right-total)),
                      ),
                    ),
                  ),
                ),
              ),
            )
