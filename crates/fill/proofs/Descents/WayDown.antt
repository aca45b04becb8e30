-- The way down, level after level: what is known at each level, where d variables are left.
-- Assumes nothing.
use mathlib.Core.Path.{◌≡◌, refl, sym, ap, ap₂, ◌∙◌, subst}
use mathlib.Core.List.{List, [], ◌∷◌, ◌++◌, append_assoc, append-nil}
use mathlib.Core.Logic.{inl}
use Prim.Native.Nat.{ℕ, suc, ◌+◌, ◌*◌, ◌-◌, ◌≤◌}
use native.Mathlib.Nat.{zero-add}
use lib.Dec.{T}
use lib.ListN.{length, set, drop, replicate, length-append, length-drop}
use lib.Seq.{length-take-le}
use Rattle.lists.specs.Written.{splice}
use Rattle.diagram.specs.Networks.Bound.{most_variables}
use Rattle.reorder.specs.Sizes.{width}
use Rattle.matching.specs.Links.{region_size, link_bytes}
use Rattle.matching.specs.Fits.{level_fits}
use Rattle.fill.specs.Work.{work_size, links_at, all_links}
use Rattle.matching.specs.Level.{parts_at, written}
use Rattle.fill.specs.Calls.{per_level}
use Rattle.fill.specs.Inner.Descent.{level_below, links_below, counts_below, roomy, holding, links_up_to}
use Rattle.fill.proofs.Buffers.Sizes.{sizes}
use Rattle.matching.proofs.Buffers.Chunks.{length-chunks}
use Rattle.matching.specs.Parts.{flat}
use Rattle.matching.proofs.Buffers.PartLengths.{Long, long-chunks, length-links, length-flat}
use Rattle.matching.proofs.Buffers.WrittenLevel.{Fit}
use Rattle.matching.proofs.Buffers.Fitting.{level-says}
use Rattle.lists.proofs.Bools.{to-T}
use Rattle.fill.proofs.Descents.LevelsBelow.{counts-suc, bytes-suc, links-two, links-length, Room, room-suc, none_left, room-first}
use Rattle.fill.proofs.Descents.LevelsBelow.{level-fits}
use Rattle.fill.proofs.Buffers.HeldParts.{Region, region-end, region-other, regions-apart, held-parts, held_next, held_none}
use Rattle.fill.proofs.Counting.PerLevel.{per-level-more}

-- From n variables, the entries `all` and the bytes `before`, in a work buffer that was `work`: where d variables are left, k entries'
-- parts lie in the region at `from`, the next link goes to `links`, m is the work buffer, and `entries` has how many entries each level
-- had.
pub record Going (n : ℕ) (all : List (List ℕ)) (before work : List ℕ) (d from links k : ℕ) (m entries : List ℕ) : Type 0 where
  pub parts : List (List ℕ)
  pub bytes : List ℕ
  pub passed : List ℕ
  pub region : Region from
  pub long : Long (width d + width d) parts
  pub count : k ≡ length parts
  pub buffer : m ≡ holding from parts bytes work
  pub ends : links ≡ links_at + length bytes
  pub room : T (roomy d parts)
  pub links-room : links + 2 * length (all_links (links_below d parts)) ≤ work_size
  pub all-bytes : bytes ++ link_bytes (all_links (links_below d parts)) ≡ before ++ link_bytes (all_links (links_below n all))
  pub all-counts : passed ++ counts_below d parts ≡ counts_below n all
  pub levels : length passed + d ≡ n
  pub recorded : entries ≡ per_level passed

module _ (n : ℕ) (all : List (List ℕ)) (before work : List ℕ) (big : work_size ≤ length work) where
  pub going-first : (count links : ℕ) → all ≡ parts_at n count 0 work → before ≡ links_up_to links work → links_at ≤ links
      → work ≡ holding 0 all before work → T (roomy n all) → links + 2 * length (all_links (links_below n all)) ≤ work_size
      → Going n all before work n 0 links count work (per_level [])
  unfolding links_at
  going-first count links p q h b r e =
      let c : length all ≡ count = ap length p ∙ length-chunks (width n + width n) count work in
      let i : count * (width n + width n) ≤ region_size = subst (λ (y : ℕ). y * (width n + width n) ≤ region_size) c (room-first n all r) in
      let j : length before ≡ links - links_at = ap length q ∙ length-take-le (links - links_at) (drop links_at work)
      (omega (sizes, length-drop links_at work)) in
      record {
        parts = all;
        bytes = before;
        passed = [];
        region = inl refl;
        long = subst (Long (width n + width n)) (sym p) (long-chunks (width n + width n) count work (omega sizes));
        count = sym c;
        buffer = b;
        ends = omega sizes;
        room = r;
        links-room = e;
        all-bytes = refl;
        all-counts = refl;
        levels = zero-add n;
        recorded = refl;
      }

  -- no variable is left, so no entry is
  pub going-last : (from links k : ℕ) (m entries : List ℕ) → Going n all before work 0 from links k m entries
      → (entries ≡ per_level (counts_below n all)) × (m ≡ holding 0 [] (before ++ link_bytes (all_links (links_below n all))) work)
  unfolding links_below counts_below
  going-last from links k m entries g = (
    g.recorded ∙ ap per_level (sym (append-nil g.passed) ∙ g.all-counts),
    g.buffer
        ∙ ap₂ (λ (p : List (List ℕ)) (b : List ℕ). holding from p b work) (none_left g.parts g.room)
        (sym (append-nil g.bytes) ∙ g.all-bytes)
        ∙ held_none work big from (before ++ link_bytes (all_links (links_below n all))),
  )

  module _ (d from links k : ℕ) (m entries : List ℕ) (g : Going n all before work (suc d) from links k m entries) where
    going-room : Room d g.parts
    going-room = room-suc d g.parts g.room

    fit-here : Fit (width (suc d) + width (suc d)) g.parts
    fit-here = (g.long, going-room.here)

    -- the parts as they are read
    pub going-parts : parts_at (suc d) k from m ≡ g.parts
    going-parts =
        ap₂ (λ (j : ℕ) (y : List ℕ). parts_at (suc d) j from y) g.count g.buffer
        ∙ held-parts work big (width (suc d) + width (suc d)) from g.parts g.bytes fit-here g.region

    -- what the level asks
    pub going-asks : n ≤ most_variables → length m ≡ length work → T (level_fits d from k (region_size - from) links (length m))
    going-asks small e =
        let r = going-room in
        let c = g.count in
        let t = links-length d g.parts in
        let here = region-end from g.region in
        let there = region-end (region_size - from) (region-other from g.region) in
        to-T ((level-says d from k (region_size - from) links (length m)).met (
          omega (sizes, g.levels),
          (
            regions-apart from g.region,
            (
              (omega (sizes, here, g.ends), omega (sizes, there, g.ends), omega (sizes, g.links-room, c)),
              ((rw c r.here, rw c r.next), (omega (sizes, here), omega (sizes, there))),
            ),
          ),
        ))

    -- its links lie in the work buffer
    pub going-links : length m ≡ length work → links + 4 * k ≤ length m
    going-links e = let t = links-length d g.parts in omega (sizes, g.links-room, g.count)

    pub going_on : (r : ℕ) (m' entries' : List ℕ) → n ≤ most_variables
        → r ≡ length (level_below d (parts_at (suc d) k from m)).parts
        → m' ≡ splice (written (level_below d (parts_at (suc d) k from m)) (region_size - from) links m) from
        (replicate (k * (width (suc d) + width (suc d))) 0)
        → entries' ≡ set entries (n - suc d) k
        → Going n all before work d (region_size - from) (links + 4 * k) r m' entries'
    going_on r m' entries' small p q o =
        let ps = g.parts in
        let l = level_below d ps in
        let fits = level-fits d ps g.long going-room in
        let c = g.count in
        let t = links-length d ps in
        let two : length (link_bytes l.links) ≡ 4 * k = omega (sizes, length-links l.links, links-two d ps) in
        let b : length (g.bytes ++ link_bytes l.links) ≡ length g.bytes + length (link_bytes l.links) =
        length-append g.bytes (link_bytes l.links) in
        let e : n - suc d ≡ length g.passed = omega (sizes, g.levels) in
        let s = width (suc d) + width (suc d) in
        let all-gone : length (flat ps) ≤ k * s = omega (sizes, length-flat s ps g.long, ap (λ (j : ℕ). j * s) c) in
        record {
          parts = l.parts;
          bytes = g.bytes ++ link_bytes l.links;
          passed = g.passed ++ (k ∷ []);
          region = region-other from g.region;
          long = fits.0;
          count = p ∙ ap (λ (y : List (List ℕ)). length (level_below d y).parts) going-parts;
          buffer =
              held_next work big (width (suc d) + width (suc d)) from ps g.bytes fit-here g.region
              (width d + width d) (region_size - from) (k * s) links l
              fits (region-other from g.region) (regions-apart from g.region) (rw c going-room.here) all-gone g.ends m'
              (q
              ∙ ap₂ (λ (y : List (List ℕ)) (z : List ℕ). splice (written (level_below d y) (region_size - from) links z) from
              (replicate (k * s) 0))
              going-parts g.buffer);
          ends = omega (sizes, g.ends);
          room = going-room.below;
          links-room = omega (sizes, g.links-room);
          all-bytes =
              append_assoc g.bytes (link_bytes l.links) (link_bytes (all_links (links_below d l.parts)))
              ∙ ap (λ (y : List ℕ). g.bytes ++ y) (sym (bytes-suc d ps))
              ∙ g.all-bytes;
          all-counts =
              append_assoc g.passed (k ∷ []) (counts_below d l.parts)
              ∙ ap (λ (y : List ℕ). g.passed ++ y) (ap (λ (j : ℕ). j ∷ counts_below d l.parts) c ∙ sym (counts-suc d ps))
              ∙ g.all-counts;
          levels = omega (sizes, g.levels, length-append g.passed (k ∷ []));
          recorded = o ∙ per-level-more g.passed k (n - suc d) entries e (omega (sizes, g.levels)) g.recorded;
        }
