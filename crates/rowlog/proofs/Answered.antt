-- What a log answers and leaves, one test after the other.
-- Assumes nothing.
use Rattle.std.specs.Prelude.{Ok, Err}
use mathlib.Core.Path.{◌≡◌, ap, ◌∙◌}
use mathlib.Core.Bool.{true, false, not}
use mathlib.Core.List.{List}
use Prim.Native.Nat.{ℕ, ◌+◌, ◌*◌, ◌^◌, ◌≤◌, ◌<◌}
use borrow.Author.Tests.{le-leb, lt-leb}
use lib.Dec.{T, ltb, leb, leb→le}
use lib.ListN.{length}
use Rattle.lists.specs.Lists.{all}
use Rattle.lists.specs.Written.{over}
use Rattle.lists.proofs.Bools.{to-T}
use Rattle.table.specs.declared.Refusal.{Refusal}
use Rattle.table.specs.declared.Refusal.TheVariants.{ShortBuffer, NoTable, NoRow, TooManyRecords}
use Rattle.table.specs.declared.State.{State}
use Rattle.table.specs.Answer.{Outcome, done}
use Rattle.table.specs.State.{stage_of, is_nothing, reordered_state}
use Rattle.table.specs.Calls.{plane_size}
use Rattle.table.proofs.Files.Accepted.{unless-done}
use Rattle.rowlog.specs.Log.{most_records, records_of, seen, log_answer, log_outcome, log_counts, log_care}
use Rattle.rowlog.specs.Inner.Care.{counted_byte}
use Rattle.rowlog.proofs.Counting.{counted-first}
use Rattle.rowlog.proofs.Caring.{byte-logged}

module _ (s : State) (rows counts care : List ℕ) where
  pub log-short : length care < plane_size → Err ShortBuffer ≡ log_answer s rows counts care
  unfolding log_answer
  log-short h = rw (lt-leb plane_size (length care) h)

  module _ (long : plane_size ≤ length care) where
    pub log-no-table : not (is_nothing (stage_of s)) ≡ false → Err NoTable ≡ log_answer s rows counts care
    unfolding log_answer
    log-no-table e = rw (le-leb plane_size (length care) long, e)

    module _ (held : not (is_nothing (stage_of s)) ≡ true) where
      pub log-few-counts : length counts < 2 ^ s.n → Err ShortBuffer ≡ log_answer s rows counts care
      unfolding log_answer
      log-few-counts h = rw (le-leb plane_size (length care) long, held, lt-leb (2 ^ s.n) (length counts) h)

      module _ (enough : 2 ^ s.n ≤ length counts) where
        pub log-no-row : all (λ row. ltb row (2 ^ s.n)) rows ≡ false → Err NoRow ≡ log_answer s rows counts care
        unfolding log_answer
        log-no-row e = rw (le-leb plane_size (length care) long, held, le-leb (2 ^ s.n) (length counts) enough, e)

        module _ (known : all (λ row. ltb row (2 ^ s.n)) rows ≡ true) where
          pub log-too-many : leb (records_of s counts + length rows) most_records ≡ false → Err TooManyRecords ≡ log_answer s rows counts care
          unfolding log_answer
          log-too-many e = rw (le-leb plane_size (length care) long, held, le-leb (2 ^ s.n) (length counts) enough, known, e)

          pub log-good : leb (records_of s counts + length rows) most_records ≡ true → Ok 0 ≡ log_answer s rows counts care
          unfolding log_answer
          log-good e = rw (le-leb plane_size (length care) long, held, le-leb (2 ^ s.n) (length counts) enough, known, e)

  -- what a log that is done has passed
  pub record Passed : Type 0 where
    pub long : plane_size ≤ length care
    pub held : T (not (is_nothing (stage_of s)))
    pub enough : 2 ^ s.n ≤ length counts
    pub known : T (all (λ row. ltb row (2 ^ s.n)) rows)
    pub room : records_of s counts + length rows ≤ most_records

  pub passed : T (done (log_answer s rows counts care)) → Passed
  unfolding log_answer
  passed t =
      let a = unless-done (leb plane_size (length care)) ShortBuffer _ t in
      let b = unless-done (not (is_nothing (stage_of s))) NoTable _ a.1 in
      let c = unless-done (leb (2 ^ s.n) (length counts)) ShortBuffer _ b.1 in
      let d = unless-done (all (λ row. ltb row (2 ^ s.n)) rows) NoRow _ c.1 in
      let e = unless-done (leb (records_of s counts + length rows) most_records) TooManyRecords (Ok 0) d.1 in
      record {
        long = leb→le plane_size (length care) a.0;
        held = b.0;
        enough = leb→le (2 ^ s.n) (length counts) c.0;
        known = d.0;
        room = leb→le (records_of s counts + length rows) most_records e.0;
      }

  -- the outcome, and the counts and the care after the call
  abbrev pub Ended : ℕ → Outcome → List ℕ → List ℕ → Type 0
  Ended least r cs ks =
      (r ≡ log_outcome s rows counts care)
      × ((cs ≡ log_counts s rows counts care) × (ks ≡ log_care s rows least counts care))

  module _ (least : ℕ) where
    pub log-refused : (x : Refusal) → log_answer s rows counts care ≡ Err x → Ended least (Err x) counts care
    unfolding log_outcome log_counts log_care
    log-refused x e = (rw e, (rw e, rw e))

    pub log-done : (v : ℕ) → log_answer s rows counts care ≡ Ok v → (cs ks : List ℕ)
        → cs ≡ over (seen rows counts) (length counts) counts → ks ≡ over (counted_byte cs least s.n (s.m * 2 ^ s.n)) plane_size care
        → Ended least (Ok (record { value = v; state = reordered_state s s.order })) cs ks
    unfolding log_outcome log_counts log_care
    log-done v e cs ks ec ek =
        let p = passed (to-T (ap done e)) in
        let c : cs ≡ over (seen rows counts) (2 ^ s.n) counts = ec ∙ counted-first (2 ^ s.n) rows counts p.known p.enough in (
          rw e,
          (
            rw e c,
            rw e (ek ∙ ap (λ (xs : List ℕ). over (counted_byte xs least s.n (s.m * 2 ^ s.n)) plane_size care) c
                ∙ ap (λ (f : ℕ → ℕ). over f plane_size care) (λ k i. byte-logged s rows counts least i k)),
          ),
        )
