-- The work buffer after a filling holds the links; and cleared it is zero, whatever was read and put before its end.
-- Assumes nothing.
use mathlib.Core.Path.{◌≡◌, sym, ap, ◌∙◌}
use mathlib.Core.Bool.{true}
use mathlib.Core.List.{List, [], ◌∷◌, ◌++◌, append_assoc}
use Prim.Native.Nat.{ℕ, ◌-◌, ◌≤◌, ◌<◌}
use native.Mathlib.Omega.{arith}
use borrow.Author.Tests.{le-leb}
use lib.ListN.{length, drop, replicate, length-append, length-replicate}
use lib.Seq.{drop_at}
use Rattle.lists.proofs.Bits.Digits.{digit-le}
use Rattle.diagram.specs.Filling.Fill.{Link, const, entry}
use Rattle.diagram.proofs.Tracing.Rising.{Valid, AllValid}
use Rattle.matching.specs.Links.{link_number}
use Rattle.matching.specs.Links.{link_bytes}
use Rattle.fill.specs.Work.{work_size, links_at, all_links, trace_work, zero_work, cleared_work}
use Rattle.matching.proofs.Buffers.PartLengths.{length-links}
use Rattle.fill.proofs.Room.LinksRoom.{links_limit}
use Rattle.fill.proofs.Buffers.Sizes.{work-size, links-at}
use Rattle.fill.proofs.Counting.LinkPairs.{Links, Under, bytes-there}
use Rattle.network.specs.Levels.{stored_limit}

-- a link to one of few entries has a number of two bytes
number_small : (k : Link) → Valid true links_limit k → link_number k < stored_limit
number_small (const b) v = omega (arith, digit-le b)
number_small (entry k i) v = omega (arith, digit-le i)

numbers-small : (ks : List Link) → AllValid true links_limit ks → Under stored_limit ks
numbers-small [] v = tt
numbers-small (k ∷ ks) v = (number_small k v.0, numbers-small ks v.1)

module _ (kss : List (List Link)) (work : List ℕ) (room : length (all_links kss) ≤ links_limit) where
  pub trace-links : AllValid true links_limit (all_links kss) → Links (trace_work kss work) links_at (all_links kss)
  unfolding trace_work
  trace-links v =
      let front : List ℕ = replicate links_at 0 in
      let bytes = link_bytes (all_links kss) in
      let back : List ℕ = replicate (work_size - links_at - length bytes) 0 ++ drop work_size work in
      bytes-there (front ++ (bytes ++ back)) links_at (all_links kss) back (numbers-small (all_links kss) v)
      (drop_at front (bytes ++ back) links_at (length-replicate {A = ℕ} links_at 0))

  pub trace-long : work_size ≤ length (trace_work kss work)
  unfolding trace_work
  trace-long =
      let front : List ℕ = replicate links_at 0 in
      let bytes = link_bytes (all_links kss) in
      let zeros : List ℕ = replicate (work_size - links_at - length bytes) 0 in
      let past = drop work_size work in
      omega (
        arith,
        length-append front (bytes ++ (zeros ++ past)),
        length-append bytes (zeros ++ past),
        length-append zeros past,
        length-replicate {A = ℕ} links_at 0,
        length-replicate {A = ℕ} (work_size - links_at - length bytes) 0,
      )

  -- what lies past the work buffer's end is as it was
  pub trace-past : drop work_size (trace_work kss work) ≡ drop work_size work
  unfolding trace_work
  trace-past =
      let front : List ℕ = replicate links_at 0 in
      let bytes = link_bytes (all_links kss) in
      let zeros : List ℕ = replicate (work_size - links_at - length bytes) 0 in
      let past = drop work_size work in
      let whole : (front ++ (bytes ++ zeros)) ++ past ≡ front ++ (bytes ++ (zeros ++ past)) =
      append_assoc front (bytes ++ zeros) past ∙ ap (λ (l : List ℕ). front ++ l) (append_assoc bytes zeros past) in
      let long : length (front ++ (bytes ++ zeros)) ≡ work_size =
      omega (
        arith,
        length-append front (bytes ++ zeros),
        length-append bytes zeros,
        length-replicate {A = ℕ} links_at 0,
        length-replicate {A = ℕ} (work_size - links_at - length bytes) 0,
        length-links (all_links kss),
        work-size,
        links-at,
      ) in
      ap (drop work_size) (sym whole) ∙ drop_at (front ++ (bytes ++ zeros)) past work_size long

pub zero_same : (w work : List ℕ) → drop work_size w ≡ drop work_size work → zero_work w ≡ zero_work work
unfolding zero_work
zero_same w work e = ap (λ (l : List ℕ). replicate work_size 0 ++ l) e

pub clear_zero : (w work : List ℕ) → work_size ≤ length w → drop work_size w ≡ drop work_size work → cleared_work w ≡ zero_work work
unfolding cleared_work
clear_zero w work h e = rw (le-leb work_size (length w) h) (zero_same w work e)
