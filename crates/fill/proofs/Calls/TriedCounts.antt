-- What trials leave: the lent counts level by level, the work buffer, and that they succeed; and what counts add up to.
-- Assumes nothing.
use Rattle.std.specs.Prelude.{Ok}
use mathlib.Core.Path.{◌≡◌, refl, sym, ap, ◌∙◌, subst}
use mathlib.Core.Bool.{true, false, not}
use mathlib.Core.List.{List, ◌++◌, map, sum, append_assoc}
use Prim.Native.Nat.{ℕ, zero, suc, ◌+◌, ◌*◌, ◌-◌, ◌≤◌, ◌<◌}
use native.Mathlib.Omega.{arith}
use borrow.Author.Tests.{le-leb, lt-ltb, ltb-true, ltb-false, eqb-true, eqb-false}
use lib.Dec.{T, eqb, ltb}
use lib.ListN.{length, take, drop, replicate, replicate-append-replicate}
use lib.Seq.{take_at}
use Rattle.lists.specs.Written.{splice}
use Rattle.lists.specs.Lists.{up_to}
use Rattle.lists.proofs.Bools.{split, of_T}
use Rattle.lists.proofs.Numbers.UpTo.{length-map-up_to}
use Rattle.lists.proofs.Written.Splice.{length-splice}
use Rattle.lists.proofs.Written.Windows.{drop_here, drop-behind, window-before}
use Rattle.lists.proofs.Written.Zeros.{zeros-drop}
use Rattle.diagram.specs.Networks.Bound.{most_variables, most_outputs, most_nodes}
use Rattle.diagram.specs.Networks.Network.{counts}
use Rattle.diagram.specs.Table.{Table, reordered, filled, cost}
use Rattle.table.specs.declared.State.{State}
use Rattle.table.specs.State.{good_heading, stage_of, is_nothing}
use Rattle.table.proofs.Held.{heading-inputs, heading-few}
use Rattle.fill.specs.Work.{work_size, trials_size, trials_zero, zero_work}
use Rattle.fill.specs.Calls.{enough, per_level, counts_size, counts_of, counts_put}
use Rattle.fill.specs.Calls.{trial_counts, tried_counts, trials_answer, trials_counts, trials_work}
use Rattle.fill.proofs.Buffers.Sizes.{sizes}
use Rattle.fill.proofs.Calls.Filling.{cells-filled}
use Rattle.fill.proofs.Lowered.TrialSizes.{trials-size}

-- the counts of one level put in, or nothing
module _ (p : ℕ) (known found : List ℕ) where
  pub counts-put : p < most_variables → counts_size ≤ length found → counts_put p known found ≡ splice found (most_variables * p) known
  unfolding counts_put
  counts-put h k = rw (lt-ltb p most_variables h, le-leb counts_size (length found) k)

module _ (l : List ℕ) (p : ℕ) (x : List ℕ) (long : length x ≡ most_variables) (room : most_variables * p ≤ length l) where
  pub put-here : counts_of p (splice l (most_variables * p) x) ≡ x
  put-here =
      ap (take most_variables) (drop_here l (most_variables * p) x room)
      ∙ take_at x (drop (most_variables * p + length x) l) most_variables long

  put_other : (q : ℕ) → eqb p q ≡ false → counts_of q (splice l (most_variables * p) x) ≡ counts_of q l
  put_other q e =
      split (ltb q p)
      (λ h. window-before l (most_variables * p) x room (most_variables * q) most_variables (omega (arith, ltb-true q p h)))
      (λ h. ap (take most_variables)
      (drop-behind l (most_variables * p) x room (most_variables * q) (omega (arith, ltb-false q p h, eqb-false p q e))))

-- the lent counts after the trials of the levels below k

module _ (s : State) (except : ℕ) (values care found : List ℕ) where
  pub tried-length : (k : ℕ) → most_variables * k ≤ length found → length (tried_counts s except values care found k) ≡ length found
  unfolding tried_counts
  tried-length zero room = refl
  tried-length (suc k) room =
      let h = tried-length k (omega arith) in
      split (eqb k except) (λ e. rw e h)
      (λ e. rw e
      (length-splice (tried_counts s except values care found k) (most_variables * k) (trial_counts s values care k) (omega arith) ∙ h))

  -- a trial leaves the counts of the other levels
  other-kept : (k q : ℕ) → eqb k q ≡ false → most_variables * suc k ≤ length found
      → counts_of q (tried_counts s except values care found (suc k)) ≡ counts_of q (tried_counts s except values care found k)
  unfolding tried_counts
  other-kept k q d room =
      split (eqb k except) (λ e. rw e)
      (λ e. rw e
      (put_other (tried_counts s except values care found k) k (trial_counts s values care k) refl
      (omega (arith, tried-length k (omega arith))) q d))

  pub tried-at : (p k : ℕ) → p < k → eqb p except ≡ false → most_variables * k ≤ length found
      → counts_of p (tried_counts s except values care found k) ≡ trial_counts s values care p
  unfolding tried_counts
  tried-at p zero h d room = absurd (omega arith)
  tried-at p (suc k) h d room =
      split (eqb k p)
      (λ e. let same : k ≡ p = eqb-true k p e in
      let here : eqb k except ≡ false = subst (λ (j : ℕ). eqb j except ≡ false) (sym same) d in
      subst (λ (j : ℕ). counts_of j (tried_counts s except values care found (suc k)) ≡ trial_counts s values care j) same
      (rw here
      (put-here (tried_counts s except values care found k) k (trial_counts s values care k) refl
      (omega (arith, tried-length k (omega arith))))))
      (λ e. other-kept k p e room ∙ tried-at p k (omega (arith, eqb-false k p e)) d (omega arith))

  pub tried-kept : (k : ℕ) → most_variables * k ≤ length found
      → counts_of except (tried_counts s except values care found k) ≡ counts_of except found
  unfolding tried_counts
  tried-kept zero room = refl
  tried-kept (suc k) room =
      split (eqb k except) (λ e. rw e (tried-kept k (omega arith))) (λ e. other-kept k except e room ∙ tried-kept k (omega arith))

  -- trials of a held table in buffers that are long enough succeed
  module _ (work : List ℕ) (e : T (enough values care work)) (room : counts_size ≤ length found)
      (held : T (not (is_nothing (stage_of s)))) where
    pub trials-done : trials_answer s values care found work ≡ Ok s.n
    unfolding trials_answer
    trials-done =
        let b : enough values care work ≡ true = of_T e in
        let t : not (is_nothing (stage_of s)) ≡ true = of_T held in
        rw (b, le-leb counts_size (length found) room, t)

    pub trials-counts : trials_counts s except values care found work ≡ tried_counts s except values care found s.n
    unfolding trials_counts
    trials-counts = rw trials-done

    pub trials-work : trials_work s values care found work ≡ trials_zero work
    unfolding trials_work
    trials-work = rw trials-done

-- a work buffer that is zero stays so
pub trials-zeroed : (work : List ℕ) → trials_zero (zero_work work) ≡ zero_work work
unfolding trials_zero zero_work
trials-zeroed work =
    let rest = drop work_size work in
    let less : trials_size ≤ work_size = omega (sizes, trials-size) in
    let e : trials_size + (work_size - trials_size) ≡ work_size = omega (sizes, trials-size) in
    ap (λ (y : List ℕ). replicate trials_size 0 ++ y) (zeros-drop rest work_size trials_size less)
    ∙ sym (append_assoc (replicate trials_size 0) (replicate (work_size - trials_size) 0) rest)
    ∙ ap (λ (y : List ℕ). y ++ rest) (replicate-append-replicate trials_size (work_size - trials_size) 0)
    ∙ ap (λ (n : ℕ). replicate n 0 ++ rest) e

-- what the counts of an order add up to
pub counts-cost : (t : Table) (order : List ℕ) → T (good_heading t.n t.m order)
    → (sum ◌+◌ 0 (per_level (counts true t.n (filled true t order))) ≡ cost t order)
    × (sum ◌+◌ 0 (per_level (counts true t.n (filled true t order))) ≤ most_nodes)
unfolding filled cost
counts-cost t order g =
    let few : t.m ≤ most_outputs = heading-few t.n t.m order g in
    cells-filled (map (reordered t order) (up_to t.m)) _ (heading-inputs t.n t.m order g)
    (omega (arith, length-map-up_to (reordered t order) t.m)) refl
