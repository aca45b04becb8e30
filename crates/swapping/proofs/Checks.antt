-- The checks of a swap in the cells, one after the other, and what is known once they are passed.
-- Assumes nothing.
use Rattle.std.specs.Prelude.{Ok, Err}
use mathlib.Core.Path.{◌≡◌, refl, sym, ap, ◌∙◌}
use mathlib.Core.Bool.{Bool, true, false, not, ◌&&◌, and-false}
use mathlib.Core.List.{List}
use Prim.Native.Nat.{ℕ, suc, ◌≤◌, ◌<◌}
use native.Mathlib.Omega.{arith}
use borrow.Author.Tests.{lt-leb, le-leb}
use lib.Dec.{T, eqb, ltb, leb, leb→le, ltb→lt, lt→ltb}
use lib.ListN.{length}
use Rattle.lists.proofs.Bools.{split, of_T, to-T, absurd-T, and_l, and_r}
use Rattle.diagram.specs.Networks.Bound.{most_outputs}
use Rattle.diagram.specs.Canonical.Computed.{canonical}
use Rattle.table.specs.declared.Refusal.{Refusal}
use Rattle.table.specs.Answer.{Answer}
use Rattle.table.specs.declared.Refusal.TheVariants.{ShortBuffer, NoSuch, NoNetwork, BadCells, NotCanonical}
use Rattle.table.specs.declared.State.{State}
use Rattle.table.specs.declared.Done.{Done}
use Rattle.table.specs.Answer.{unless, done, number, answer_of}
use Rattle.table.proofs.Outcomes.{outcome-answer}
use Rattle.table.specs.State.{order_of, stage_of, is_nothing, is_network, exchanged, reordered_state}
use Rattle.table.specs.Calls.{swap_answer, swap_outcome}
use Rattle.table.proofs.Files.Accepted.{unless-done}
use Rattle.fill.specs.Work.{work_size}
use Rattle.fill.proofs.Buffers.Sizes.{work-size}
use Rattle.lent.specs.Lent.{roots_size}
use Rattle.lent.specs.Evaluate.{good_cells}
use Rattle.lent.proofs.Sizes.{roots-size}
use Rattle.lent.proofs.Answered.{network-held}
use Rattle.canonical.specs.Canonical.{canonical_answer}
use Rattle.canonical.proofs.Answered.{Success, success}
use Rattle.swapping.specs.Swap.{held_diagram, swap_checks, clears_swap}

-- a refusal is the same whatever would come after it
unless-refused : (b : Bool) (e : Refusal) (x y : Answer) → (done x ≡ false → y ≡ x) → done (unless b e x) ≡ false → unless b e y ≡ unless b e x
unless-refused true e x y f r = f r
unless-refused false e x y f r = refl

-- of the answers that are no success, the work buffer is cleared after 32 alone
abbrev ClearsLast : Answer → Type 0
ClearsLast x = done x ≡ false → clears_swap x ≡ eqb (number x) 32

unless-clears : (b : Bool) (e : Refusal) (x : Answer) → ClearsLast (Err e) → ClearsLast x → ClearsLast (unless b e x)
unless-clears true e x f g = g
unless-clears false e x f g = f

module _ (s : State) (p : ℕ) (work roots cells : List ℕ) where
  abbrev checks : Answer → Answer
  checks = swap_checks s p work roots cells

  abbrev held : Bool
  held = is_network (stage_of s)

  abbrev is_canonical : Bool
  is_canonical = canonical true s.n s.m (order_of s) (held_diagram s roots cells)

  abbrev long : Bool
  long = leb work_size (length work) && leb roots_size (length roots)

  pub short-work : (x : Answer) → length work < 32768 → Err ShortBuffer ≡ checks x
  unfolding swap_checks
  short-work x h = rw (lt-leb work_size (length work) (omega (arith, work-size)))

  pub short-roots : (x : Answer) → length roots < most_outputs → Err ShortBuffer ≡ checks x
  unfolding swap_checks
  short-roots x h =
      rw (lt-leb roots_size (length roots) (omega (arith, roots-size)), and-false (leb work_size (length work)))

  module _ (hw : 32768 ≤ length work) (hr : most_outputs ≤ length roots) where
    long-both : long ≡ true
    long-both = rw (le-leb work_size (length work) (omega (arith, work-size)), le-leb roots_size (length roots) (omega (arith, roots-size)))

    pub no-network : (x : Answer) → held ≡ false → Err NoNetwork ≡ checks x
    unfolding swap_checks
    no-network x e = rw (long-both, e)

    module _ (e : held ≡ true) where
      -- a held network is a held table, so a swap of the order refuses with 9 alone
      place-answer : answer_of (swap_outcome s p) ≡ unless (ltb (suc p) s.n) NoSuch (Ok 0)
      unfolding swap_outcome swap_answer
      place-answer = let h : not (is_nothing (stage_of s)) ≡ true = of_T (network-held (stage_of s) (to-T e)) in
          outcome-answer (swap_answer s p) (reordered_state s (exchanged p s.order)) ∙ rw h

      pub no_place : (x : Answer) (r : Refusal) → swap_outcome s p ≡ Err r → Err r ≡ checks x
      unfolding swap_checks
      no_place x r d =
          let a : Err r ≡ unless (ltb (suc p) s.n) NoSuch (Ok 0) = ap answer_of (sym d) ∙ place-answer in
          let d' : done (unless (ltb (suc p) s.n) NoSuch (Ok 0)) ≡ false = sym (ap done a) in
          split (ltb (suc p) s.n) (λ q. absurd-T {b = true} tt (rw q at d')) (λ q. a ∙ rw (long-both, e, q))

      pub then-canonical : (r : Done) → swap_outcome s p ≡ Ok r → canonical_answer s roots cells ≡ checks (Ok 0)
      unfolding swap_checks canonical_answer
      then-canonical r d =
          let a : Ok r.value ≡ unless (ltb (suc p) s.n) NoSuch (Ok 0) = ap answer_of (sym d) ∙ place-answer in
          let d' : done (unless (ltb (suc p) s.n) NoSuch (Ok 0)) ≡ true = sym (ap done a) in
          split (ltb (suc p) s.n)
          (λ q. rw (long-both, le-leb roots_size (length roots) (omega (arith, roots-size)), e, q))
          (λ q. absurd-T {b = true} tt (sym (rw q at d')))

  -- the checks are passed
  pub record Passed : Type 0 where
    pub enough : work_size ≤ length work
    pub place : suc p < s.n
    pub network : is_network (stage_of s) ≡ true
    pub tested : Success s roots cells
    pub next : (x : Answer) → checks x ≡ x

  pub passed : T (done (checks (Ok 0))) → Passed
  unfolding swap_checks canonical_answer
  passed t =
      let l = unless-done long ShortBuffer _ t in
      let n = unless-done held NoNetwork _ l.1 in
      let q = unless-done (ltb (suc p) s.n) NoSuch _ n.1 in
      let g = unless-done (good_cells s roots cells) BadCells _ q.1 in
      let c = unless-done is_canonical NotCanonical (Ok 0) g.1 in
      let el : long ≡ true = of_T l.0 in
      let en : held ≡ true = of_T n.0 in
      let eq : ltb (suc p) s.n ≡ true = of_T q.0 in
      let eg : good_cells s roots cells ≡ true = of_T g.0 in
      let ec : is_canonical ≡ true = of_T c.0 in
      let er : leb roots_size (length roots) ≡ true = of_T (and_r (leb work_size (length work)) (leb roots_size (length roots)) l.0) in
      record {
        enough = leb→le work_size (length work) (and_l (leb work_size (length work)) (leb roots_size (length roots)) l.0);
        place = ltb→lt (suc p) s.n q.0;
        network = en;
        tested = success s roots cells (rw (er, en, eg, ec) tt);
        next = λ x. rw (el, en, eq, eg, ec);
      }

  pub refused : (x : Answer) → done (checks (Ok 0)) ≡ false → checks x ≡ checks (Ok 0)
  unfolding swap_checks
  refused x =
      unless-refused long ShortBuffer _ _
      (unless-refused held NoNetwork _ _
      (unless-refused (ltb (suc p) s.n) NoSuch _ _
      (unless-refused (good_cells s roots cells) BadCells _ _
      (unless-refused is_canonical NotCanonical (Ok 0) x (λ e. absurd-T {b = true} tt e)))))

  pub checks-clear : ClearsLast (checks (Ok 0))
  unfolding swap_checks
  checks-clear =
      unless-clears long ShortBuffer _ (λ d. refl)
      (unless-clears held NoNetwork _ (λ d. refl)
      (unless-clears (ltb (suc p) s.n) NoSuch _ (λ d. refl)
      (unless-clears (good_cells s roots cells) BadCells _ (λ d. refl)
      (unless-clears is_canonical NotCanonical (Ok 0) (λ d. refl) (λ d. absurd-T {b = true} tt d)))))

  -- 32 comes after 10
  pub checks-long : number (checks (Ok 0)) ≡ 32 → work_size ≤ length work
  unfolding swap_checks
  checks-long e =
      split (leb work_size (length work)) (λ q. leb→le work_size (length work) (to-T q)) (λ q. absurd (omega (arith, rw q at e)))

  -- and a swap of the order is a success
  pub swapped-done : Passed → swap_outcome s p ≡ Ok (record { value = 0; state = reordered_state s (exchanged p s.order) })
  unfolding swap_outcome swap_answer
  swapped-done P =
      let h : not (is_nothing (stage_of s)) ≡ true = of_T P.tested.held in
      let q : ltb (suc p) s.n ≡ true = of_T (lt→ltb (suc p) s.n P.place) in
      rw (h, q)
