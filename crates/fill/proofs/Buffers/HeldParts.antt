-- A work buffer that holds parts in one region and links' bytes behind both: what is read from it, and what a level makes of it.
-- Assumes nothing.
use mathlib.Core.Path.{◌≡◌, refl, sym, ap, ap₂, ◌∙◌}
use mathlib.Core.List.{List, [], ◌++◌, append_assoc}
use mathlib.Core.Logic.{◌⊎◌, inl, inr, ⊎_elim}
use Prim.Native.Nat.{ℕ, ◌+◌, ◌-◌, ◌≤◌}
use native.Mathlib.Nat.{zero-add}
use lib.ListN.{length, take, drop, replicate, length-append, length-drop, length-replicate}
use lib.Seq.{take_at, drop_at, drop-drop}
use Rattle.lists.specs.Written.{splice}
use Rattle.lists.proofs.Written.Splice.{length-splice, splice-none}
use Rattle.lists.proofs.Written.Windows.{drop_here, drop-behind, splice-over, splice-append, splice-swap}
use Rattle.lists.proofs.Written.Zeros.{zeros-take, zeros-drop, splice-zeros}
use Rattle.diagram.specs.Filling.Fill.{Link}
use Rattle.matching.specs.Parts.{LevelParts, chunks, flat}
use Rattle.matching.specs.Links.{region_size, link_bytes}
use Rattle.fill.specs.Work.{work_size, links_at, all_links, zero_work, trace_work}
use Rattle.matching.specs.Level.{written}
use Rattle.fill.specs.Inner.Descent.{holding, links_up_to}
use Rattle.fill.specs.Inner.Lowering.{first_regions}
use borrow.Author.Tests.{eqb-true, eq-eqb}
use lib.Dec.{T, eqb}
use Rattle.lists.proofs.Bools.{split, to-T, of_T}
use Rattle.fill.proofs.Buffers.Sizes.{sizes}
use Rattle.matching.proofs.Buffers.WrittenLevel.{Fit, fit-end, parts-under}

-- one of the two regions
abbrev pub Region : ℕ → Type 0
Region from = (from ≡ 0) ⊎ (from ≡ region_size)

-- which a test tells

pub region-told : (from : ℕ) → T (first_regions from) → Region from
unfolding first_regions
region-told from t =
    split (eqb from 0) (λ e. inl (eqb-true from 0 e)) (λ e. let k : T (eqb from region_size) = rw e at t in inr (eqb-true from region_size (of_T k)))

pub region-met : (from : ℕ) → Region from → T (first_regions from)
unfolding first_regions
region-met from r =
    ⊎_elim (λ (e : from ≡ 0). to-T (rw (eq-eqb from 0 e)))
    (λ (e : from ≡ region_size). split (eqb from 0) (λ q. to-T (rw q)) (λ q. to-T (rw (q, eq-eqb from region_size e)))) r

pub region-end : (from : ℕ) → Region from → from + region_size ≤ links_at
region-end from r = ⊎_elim (λ (e : from ≡ 0). omega sizes) (λ (e : from ≡ region_size). omega sizes) r

-- the other one
pub region-other : (from : ℕ) → Region from → Region (region_size - from)
region-other from r = ⊎_elim (λ (e : from ≡ 0). inr (omega sizes)) (λ (e : from ≡ region_size). inl (omega sizes)) r

pub regions-apart : (from : ℕ) → Region from → (from + region_size ≤ region_size - from) ⊎ ((region_size - from) + region_size ≤ from)
regions-apart from r = ⊎_elim (λ (e : from ≡ 0). inl (omega sizes)) (λ (e : from ≡ region_size). inr (omega sizes)) r

-- a zero work buffer is told by what lies past its size
past_same : (m work : List ℕ) → drop work_size m ≡ drop work_size work → zero_work m ≡ zero_work work
unfolding zero_work
past_same m work e = ap (λ (y : List ℕ). replicate work_size 0 ++ y) e

zero-past : (work : List ℕ) → drop work_size (zero_work work) ≡ drop work_size work
unfolding zero_work
zero-past work = drop_at (replicate work_size 0) (drop work_size work) work_size (length-replicate work_size 0)

-- and stays as it is when it is zeroed again
pub zero-zero : (work : List ℕ) → zero_work (zero_work work) ≡ zero_work work
zero-zero work = past_same (zero_work work) work (zero-past work)

pub holding-past : (from : ℕ) (parts : List (List ℕ)) (bytes m work : List ℕ) → zero_work m ≡ zero_work work
    → holding from parts bytes m ≡ holding from parts bytes work
unfolding holding
holding-past from parts bytes m work e = ap (λ (z : List ℕ). splice (splice z from (flat parts)) links_at bytes) e

-- n zeros written over a work buffer of that size
pub zero-start : (n : ℕ) (work m : List ℕ) → n ≡ work_size → m ≡ splice work 0 (replicate n 0) → m ≡ zero_work work
unfolding splice zero_work
zero-start n work m e q =
    q
    ∙ ap (λ (k : ℕ). replicate n 0 ++ drop k work) (zero-add (length {A = ℕ} (replicate n 0)) ∙ length-replicate n 0)
    ∙ ap (λ (k : ℕ). replicate k 0 ++ drop k work) e

module _ (work : List ℕ) (big : work_size ≤ length work) where
  pub length-zero : length (zero_work work) ≡ length work
  unfolding zero_work
  length-zero =
      length-append (replicate work_size 0) (drop work_size work)
      ∙ omega (sizes, length-replicate {A = ℕ} work_size 0, length-drop work_size work)

  -- zeros written over it
  zero-again : (k j : ℕ) → k + j ≤ work_size → splice (zero_work work) k (replicate j 0) ≡ zero_work work
  unfolding zero_work
  zero-again k j h = splice-zeros (drop work_size work) work_size k j (omega sizes)

  -- what is held: parts of s bytes each, and the bytes
  module _ (s from : ℕ) (parts : List (List ℕ)) (bytes : List ℕ) (fit : Fit s parts) (region : Region from) where
    in-zero : from + length (flat parts) ≤ length (zero_work work)
    in-zero =
        let r = region-end from region in
        omega (sizes, length-zero, fit-end s from links_at (zero_work work) r (omega (sizes, length-zero)) parts fit)

    length-parts : length (splice (zero_work work) from (flat parts)) ≡ length work
    length-parts = length-splice (zero_work work) from (flat parts) in-zero ∙ length-zero

    pub held-parts : chunks s (length parts) (drop from (holding from parts bytes work)) ≡ parts
    unfolding holding links_at
    held-parts = parts-under s from links_at (zero_work work) (region-end from region) (omega (sizes, length-zero)) parts bytes fit

    pub held_bytes : (links : ℕ) → links ≡ links_at + length bytes → links_up_to links (holding from parts bytes work) ≡ bytes
    unfolding holding links_at
    held_bytes links e =
        let a = splice (zero_work work) from (flat parts) in
        ap (take (links - links_at)) (drop_here a links_at bytes (omega (sizes, length-parts)))
        ∙ take_at bytes (drop (links_at + length bytes) a) (links - links_at) (omega sizes)

    -- what lies behind the bytes, where more follow
    pub held-behind : (more : List ℕ) (links : ℕ) → links ≡ links_at + length bytes
        → (rest : List ℕ) × (drop links (holding from parts (bytes ++ more) work) ≡ more ++ rest)
    unfolding holding links_at
    held-behind more links e =
        let a = splice (zero_work work) from (flat parts) in
        let x = bytes ++ more in
        let rest = drop (links_at + length x) a in (
          rest,
          ap (λ (k : ℕ). drop k (splice a links_at x)) e
              ∙ sym (drop-drop (length bytes) links_at (splice a links_at x))
              ∙ ap (drop (length bytes)) (drop_here a links_at x (omega (sizes, length-parts)) ∙ append_assoc bytes more rest)
              ∙ drop_at bytes (more ++ rest) (length bytes) refl,
        )

    pub held-past : links_at + length bytes ≤ work_size → zero_work (holding from parts bytes work) ≡ zero_work work
    unfolding holding links_at
    held-past h =
        let a = splice (zero_work work) from (flat parts) in
        let e : drop work_size (splice a links_at bytes) ≡ drop work_size work =
        drop-behind a links_at bytes (omega (sizes, length-parts)) work_size h
        ∙ drop-behind (zero_work work) from (flat parts) (omega (sizes, in-zero)) work_size
        (omega (
          sizes,
          region-end from region,
          fit-end s from links_at (zero_work work) (region-end from region)
              (omega (sizes, length-zero)) parts fit,
        ))
        ∙ zero-past work in
        past_same (splice a links_at bytes) work e

    -- A level of entries' parts of s' bytes and their links is written: the parts to the other region, the links behind the bytes. And the
    -- first parts are zero again.
    module _ (s' to n links : ℕ) (l : LevelParts) (fit' : Fit s' l.parts) (other : Region to)
        (apart : (from + region_size ≤ to) ⊎ (to + region_size ≤ from))
        (most : n ≤ region_size) (all : length (flat parts) ≤ n) (ends : links ≡ links_at + length bytes) where
      few' : length (flat l.parts) ≤ region_size
      few' = fit-end s' to links_at (zero_work work) (region-end to other) (omega (sizes, length-zero)) l.parts fit'

      size' : length {A = ℕ} (replicate n 0) ≡ n
      size' = length-replicate n 0

      -- the first parts are gone, whichever of the regions comes first
      gone : splice (splice (splice (zero_work work) from (flat parts)) to (flat l.parts)) from (replicate n 0)
          ≡ splice (zero_work work) to (flat l.parts)
      gone =
          let z = zero_work work in
          let x = flat parts in
          let y = flat l.parts in
          let o : List ℕ = replicate n 0 in
          ⊎_elim
          (λ (h : from + region_size ≤ to).
          splice-swap (splice z from x) from to o y (omega (sizes, size', most)) (omega (sizes, length-parts, region-end to other))
          ∙ ap (λ (m : List ℕ). splice m to y)
          (splice-over z from x (omega (sizes, in-zero)) o (omega (sizes, size', all)) ∙ zero-again from n
          (omega (sizes, most, region-end from region))))
          (λ (h : to + region_size ≤ from).
          let b : from ≤ length (splice z to y) =
          omega (sizes, length-splice z to y (omega (sizes, few', length-zero, region-end to other)), in-zero) in
          ap (λ (m : List ℕ). splice m from o) (splice-swap z to from y x (omega (sizes, few')) (omega (sizes, in-zero)))
          ∙ splice-over (splice z to y) from x b o (omega (sizes, size', all))
          ∙ sym (splice-swap z to from y o (omega (sizes, few')) (omega (sizes, in-zero)))
          ∙ ap (λ (m : List ℕ). splice m to y) (zero-again from n (omega (sizes, most, region-end from region))))
          apart

      pub held_next : (m : List ℕ) → m ≡ splice (written l to links (holding from parts bytes work)) from (replicate n 0)
          → m ≡ holding to l.parts (bytes ++ link_bytes l.links) work
      unfolding holding links_at written
      held_next m e =
          let a = splice (zero_work work) from (flat parts) in
          let y = flat l.parts in
          let c = link_bytes l.links in
          let o : List ℕ = replicate n 0 in
          let b = splice a to y in
          let in_b : links_at ≤ length b =
          omega (sizes, length-splice a to y (omega (sizes, few', length-parts, region-end to other)), length-parts) in
          e
          ∙ ap (λ (k : ℕ). splice (splice (splice (splice a links_at bytes) to y) k c) from o) ends
          ∙ ap (λ (m : List ℕ). splice (splice m (links_at + length bytes) c) from o)
          (splice-swap a to links_at y bytes (omega (sizes, few', region-end to other)) (omega (sizes, length-parts)))
          ∙ ap (λ (m : List ℕ). splice m from o) (splice-append b links_at bytes in_b c)
          ∙ splice-swap b from links_at o (bytes ++ c) (omega (sizes, size', most, region-end from region)) in_b
          ∙ ap (λ (m : List ℕ). splice m links_at (bytes ++ c)) gone

  -- no parts are left
  pub held_none : (from : ℕ) (bytes : List ℕ) → holding from [] bytes work ≡ holding 0 [] bytes work
  unfolding holding
  held_none from bytes =
      ap (λ (m : List ℕ). splice m links_at bytes) (splice-none (zero_work work) from ∙ sym (splice-none (zero_work work) 0))

  -- the links are zero again
  pub held-cleared : (bytes : List ℕ) (n : ℕ) → length bytes ≤ n → links_at + n ≤ work_size
      → splice (holding 0 [] bytes work) links_at (replicate n 0) ≡ zero_work work
  unfolding holding
  held-cleared bytes n few most =
      let z = zero_work work in
      ap (λ (m : List ℕ). splice (splice m links_at bytes) links_at (replicate n 0)) (splice-none z 0)
      ∙ splice-over z links_at bytes (omega (sizes, length-zero)) (replicate n 0) (omega (sizes, length-replicate {A = ℕ} n 0, few))
      ∙ zero-again links_at n most

  pub held-trace : (kss : List (List Link)) → links_at + length (link_bytes (all_links kss)) ≤ work_size
      → holding 0 [] (link_bytes (all_links kss)) work ≡ trace_work kss work
  unfolding holding zero_work trace_work links_at splice
  held-trace kss h =
      let x = link_bytes (all_links kss) in
      let r = drop work_size work in
      let n : work_size - (links_at + length x) ≡ work_size - links_at - length x = omega sizes in
      ap (λ (m : List ℕ). splice m links_at x) (splice-none (replicate work_size 0 ++ r) 0)
      ∙ ap₂ (λ (a b : List ℕ). a ++ (x ++ b)) (zeros-take r work_size links_at (omega sizes))
      (zeros-drop r work_size (links_at + length x) (omega sizes) ∙ ap (λ (k : ℕ). replicate k 0 ++ r) n)
