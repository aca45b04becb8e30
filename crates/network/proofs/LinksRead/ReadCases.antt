-- The four ways reading links ends: 10 for the roots, 10 for the links, 23, and the network that they say.
-- Assumes nothing.
use Rattle.std.specs.Prelude.{Ok, Err, is_ok}
use Rattle.std.proofs.lemmas.Result.{IfOk-at_ok, IfErr-at_err}
use mathlib.Core.Path.{◌≡◌, refl, sym, ap, ◌∙◌}
use mathlib.Core.Bool.{true, false, true≢false}
use mathlib.Core.List.{List}
use Prim.Native.Nat.{ℕ, ◌+◌, ◌*◌, ◌-◌, ◌≤◌, ◌<◌}
use native.Mathlib.Nat.{zero-add}
use native.Mathlib.Omega.{arith}
use borrow.Author.Tests.{le-leb, lt-leb}
use lib.Dec.{leb}
use lib.ListN.{length, get_or}
use Rattle.lists.specs.Sums.{sum_below}
use Rattle.lists.specs.Written.{over}
use Rattle.lists.proofs.Bools.{split}
use Rattle.lists.proofs.Written.Outside.{past_same}
use Rattle.diagram.specs.Networks.Bound.{most_variables, most_outputs}
use Rattle.table.specs.Answer.{Answer}
use Rattle.table.specs.declared.Refusal.{Refusal}
use Rattle.table.specs.declared.Refusal.TheVariants.{ShortBuffer, TooSmall}
use Rattle.table.specs.Answer.{unless, unless_refused, done}
use Rattle.fill.specs.declared.Levels.{Levels}
use Rattle.fill.specs.Work.{work_size, zero_work, cleared_work}
use Rattle.fill.specs.Counts.{links_fit, counted_links, linked_levels}
use Rattle.fill.proofs.Buffers.Sizes.{work-size}
use Rattle.fill.proofs.Counting.LinkedLevels.{linked-asks, linked-ok, linked-end, linked-at, linked-total, linked-small}
use Rattle.lent.specs.Lent.{roots_size}
use Rattle.lent.proofs.Sizes.{roots-size}
use Rattle.network.specs.Build.{capacity, clears}
use Rattle.network.specs.Levels.{stored_limit, Made, made, level_at, levels_made, root_at}
use Rattle.network.specs.Reading.{boarded, read_links_answer, read_links_roots, read_links_cells, read_links_work}
use Rattle.network.proofs.LinksRead.AnyLinks.{levels-outside, levels-counted}
use Rattle.network.proofs.LinksRead.LevelTurns.{levels-work}
use Rattle.network.proofs.LinksRead.Offsets.{sum_below-part}
use Rattle.network.proofs.LinksRead.WorkLinks.{clear_zero}

module _ (n m : ℕ) (entries work roots cells : List ℕ) where
  abbrev answered : Answer
  answered = read_links_answer n m entries work roots cells

  abbrev levels : Levels
  levels = counted_links n m entries work

  -- what is promised of the answer and of each buffer at the end
  abbrev pub Ended : Answer → List ℕ → List ℕ → List ℕ → Type 0
  Ended x w r c =
      (x ≡ answered)
      × ((r ≡ read_links_roots n m entries work roots cells)
      × ((c ≡ read_links_cells n m entries work roots cells) × (w ≡ read_links_work n m entries work roots cells)))

  -- a refusal leaves all but the work buffer
  refusal : (x : Answer) → answered ≡ x → done x ≡ false → (w : List ℕ) → w ≡ read_links_work n m entries work roots cells → Ended x w roots cells
  unfolding read_links_roots read_links_cells
  refusal x e d w ew = let f : done answered ≡ false = ap done e ∙ d in (sym e, (rw f, (rw f, ew)))

  kept : (x : Answer) → answered ≡ x → clears x ≡ false → work ≡ read_links_work n m entries work roots cells
  unfolding read_links_work
  kept x e d = let f : clears answered ≡ false = ap clears e ∙ d in rw f

  cleared : (x : Answer) → answered ≡ x → clears x ≡ true → zero_work work ≡ read_links_work n m entries work roots cells
  unfolding read_links_work
  cleared x e d = let f : clears answered ≡ true = ap clears e ∙ d in rw f

  pub short-case : length roots < most_outputs → Ended (Err ShortBuffer) work roots cells
  unfolding read_links_answer
  short-case h =
      let e : answered ≡ (Err ShortBuffer) = rw (lt-leb roots_size (length roots) (omega (arith, roots-size))) in
      refusal (Err ShortBuffer) e refl work (kept (Err ShortBuffer) e refl)

  module _ (h : most_outputs ≤ length roots) where
    -- what the count refuses, then 23
    answer-is : answered ≡ unless_refused (linked_levels n m entries work) (boarded cells levels.cells)
    unfolding read_links_answer
    answer-is = rw (le-leb roots_size (length roots) (omega (arith, roots-size)))

    -- the links don't lie in the work buffer
    unfit : links_fit n m entries (length work) ≡ false → linked_levels n m entries work ≡ Err ShortBuffer
    unfolding linked_levels
    unfit e = rw e

    pub refused-case : (x : Refusal) → linked_levels n m entries work ≡ Err x → Ended (Err x) work roots cells
    refused-case x t =
        let s : linked_levels n m entries work ≡ Err ShortBuffer =
        split (links_fit n m entries (length work))
        (λ f. absurd (true≢false (sym (ap is_ok (linked-ok n m entries work f)) ∙ ap is_ok t))) unfit in
        let e : answered ≡ Err x = answer-is ∙ rw t in
        refusal (Err x) e refl work (kept (Err x) e (IfErr-at_err (λ y. clears (Err y) ≡ false) (sym s ∙ t) refl))

    -- the count is a success, and k is what it comes to
    module _ (k : Levels) (d : linked_levels n m entries work ≡ Ok k) where
      fit : links_fit n m entries (length work) ≡ true
      fit =
          split (links_fit n m entries (length work)) (λ f. f)
          (λ f. absurd (true≢false (sym (ap is_ok d) ∙ ap is_ok (unfit f))))

      is : k ≡ levels
      is = IfOk-at_ok (λ y. k ≡ y) (sym d ∙ linked-ok n m entries work fit) refl

      abbrev total : ℕ
      total = k.cells

      right-total : total ≡ sum_below (λ q. get_or levels.counts q 0) n
      right-total = ap (λ (x : Levels). x.cells) is ∙ linked-total n m entries work fit

      board : answered ≡ unless (leb total (capacity cells)) (TooSmall total) (Ok total)
      board = answer-is ∙ rw d (ap (λ (x : Levels). boarded cells x.cells) (sym is))

      pub small-case : capacity cells < total → (w : List ℕ) → w ≡ cleared_work work → Ended (Err (TooSmall total)) w roots cells
      small-case b w ew =
          let e : answered ≡ Err (TooSmall total) = board ∙ rw (lt-leb total (capacity cells) b) in
          refusal (Err (TooSmall total)) e refl w
          (ew ∙ clear_zero work work (linked-asks n m entries work fit).2 refl ∙ cleared (Err (TooSmall total)) e refl)

      counts-are : k.counts ≡ levels.counts
      counts-are = ap (λ (x : Levels). x.counts) is

      module _ (b : total ≤ capacity cells) where
        -- no level's nodes come behind the last
        next : (q : ℕ) → q < n → (levels_made m entries levels.counts q (n - q) (made work cells 0)).next ≤ total
        next q l =
            omega (
              arith,
              levels-counted m entries levels.counts q (made work cells 0) (linked-at n m entries work fit q l) n l,
              sum_below-part (λ r. get_or levels.counts r 0) q n l,
              right-total,
            )

        -- the levels may be read
        pub ready : ((n ≤ most_variables) × (m ≤ most_outputs) × (level_at m entries n ≤ work_size) × (level_at m entries n ≤ length work))
            × (((total ≡ sum_below (λ q. get_or k.counts q 0) n) × (2 * total + 1 < stored_limit) × (3 * total ≤ length cells))
            × ((roots_size ≤ length roots)
            × ((q : ℕ) → q < n → (levels_made m entries k.counts q (n - q) (made work cells 0)).next ≤ total)))
        ready =
            let a = linked-asks n m entries work fit in
            let end = linked-end n m entries work fit in
            rw counts-are (
              (a.0, a.1, end, omega (arith, end, a.2)),
              (
                (right-total, omega (arith, right-total, linked-small n m entries work fit, work-size), omega arith),
                (omega (arith, h, roots-size), next),
              ),
            )

        abbrev laid : Made
        laid = levels_made m entries levels.counts 0 n (made work cells 0)

        zeroed : cleared_work laid.work ≡ zero_work work
        zeroed =
            let same : length laid.work ≡ length work = levels-work m entries levels.counts 0 n (made work cells 0) in
            let a = linked-asks n m entries work fit in
            clear_zero laid.work work (omega (arith, a.2))
            (past_same work laid.work (level_at m entries 0) (level_at m entries (0 + n)) work_size same
            (omega (arith, ap (level_at m entries) (zero-add n), linked-end n m entries work fit))
            (levels-outside m entries levels.counts 0 n (made work cells 0)))

        pub read-case : (w r c : List ℕ) → w ≡ cleared_work (levels_made m entries k.counts 0 n (made work cells 0)).work
            → c ≡ (levels_made m entries k.counts 0 n (made work cells 0)).cells
            → r ≡ over (root_at (levels_made m entries k.counts 0 n (made work cells 0)).work m (level_at m entries 0)) roots_size roots
            → Ended (Ok total) w r c
        unfolding read_links_roots read_links_cells
        read-case w r c yw yc yr =
            let e : answered ≡ Ok total = board ∙ rw (le-leb total (capacity cells) b) in
            let f : done answered ≡ true = ap done e in
            let at : (cs : List ℕ) → Made = λ cs. levels_made m entries cs 0 n (made work cells 0) in (
              sym e,
              (
                rw f (yr ∙ ap (λ (cs : List ℕ). over (root_at (at cs).work m (level_at m entries 0)) roots_size roots) counts-are),
                (
                  rw f (yc ∙ ap (λ (cs : List ℕ). (at cs).cells) counts-are),
                  yw ∙ ap (λ (cs : List ℕ). cleared_work (at cs).work) counts-are ∙ zeroed ∙ cleared (Ok total) e refl,
                ),
              ),
            )
