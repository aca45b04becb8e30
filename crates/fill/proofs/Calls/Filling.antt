-- A filling of a held table in the work buffer: level 0, the levels below, and the cells. fs are the outputs as the levels see them.
-- Assumes nothing.
use mathlib.Core.Path.{◌≡◌, refl, sym, ap, ap₂, ◌∙◌, subst}
use mathlib.Core.Bool.{true}
use mathlib.Core.List.{List, [], ◌∷◌, ◌++◌, map, sum, map-map}
use mathlib.Core.Logic.{inl}
use Prim.Native.Nat.{ℕ, ◌+◌, ◌*◌, ◌≤◌}
use lib.Dec.{T}
use lib.ListN.{length, take, drop, length-append, length-map}
use Rattle.lists.specs.Lists.{up_to}
use Rattle.lists.specs.Written.{splice}
use Rattle.lists.proofs.Numbers.UpTo.{map-up_to-cong}
use Rattle.diagram.specs.Tree.{Tree}
use Rattle.diagram.specs.Filling.Fill.{Row, Link, level, trace, fill}
use Rattle.diagram.specs.Networks.Trace.{differing, traced_counts}
use Rattle.diagram.specs.Networks.Network.{counts, count}
use Rattle.diagram.specs.Networks.Bound.{most_variables, most_outputs, most_nodes}
use Rattle.diagram.specs.Table.{reordered}
use Rattle.diagram.proofs.Filling.Fill.{links-length, fill-length}
use Rattle.diagram.proofs.Tracing.Traced.{traced-counts}
use Rattle.diagram.proofs.Networks.Count.{count-sum, counts-length}
use Rattle.diagram.proofs.Networks.Bound.{most}
use Rattle.diagram.proofs.Filling.Levels.{links_of}
use Rattle.table.specs.Stream.{table_of}
use Rattle.table.proofs.Files.Answers.{stream-small}
use Rattle.reorder.specs.Sizes.{width}
use Rattle.reorder.specs.Pack.{encode}
use Rattle.matching.specs.Parts.{LevelParts, level_parts, flat}
use Rattle.matching.specs.Links.{link_bytes}
use Rattle.fill.specs.Work.{work_size, links_at, all_links, zero_work, trace_work}
use Rattle.matching.specs.Level.{parts_at, written}
use Rattle.reorder.specs.Gather.{row_map, gathered_part}
use Rattle.fill.specs.Calls.{per_level, entry_counts}
use Rattle.fill.specs.Inner.Descent.{links_below, counts_below, roomy, holding, links_up_to}
use Rattle.fill.specs.Counts.{counts_at, links_end}
use Rattle.reorder.proofs.Gathered.{gathered-encode}
use Rattle.fill.proofs.Buffers.Sizes.{sizes}
use Rattle.matching.proofs.Linking.TreeLevel.{level_part, level-bytes}
use Rattle.reorder.proofs.Pack.{encode-length}
use Rattle.matching.proofs.Buffers.PartLengths.{Long, length-links, links-append}
use Rattle.matching.proofs.Buffers.WrittenLevel.{Fit}
use Rattle.fill.proofs.Buffers.HeldParts.{holding-past, held-parts, held_bytes, held-behind, held-past, held-trace}
use Rattle.fill.proofs.Counting.PerLevel.{per-level-take, sum-per-level}
use Rattle.fill.proofs.Descents.LevelsBelow.{room-first}
use Rattle.fill.proofs.Counting.LinkPairs.{counts-below, end_below}
use Rattle.fill.proofs.Descents.TreeDescent.{entries_of, parts_of, trace-bytes, counts-bytes, entry-levels}
use Rattle.fill.proofs.Room.RegionRoom.{Rows, roomy-filled}
use Rattle.fill.proofs.Room.LinksRoom.{links_limit, links-room}

-- the cells of each level, by the links below level 0
pub counts-traced : (n : ℕ) (fs : List (Tree Row n)) → counts true n (fill true n fs) ≡ map differing (links_below n (parts_of fs))
unfolding traced_counts
counts-traced n fs = sym (traced-counts true n fs) ∙ ap traced_counts (trace-bytes n fs)

-- the outputs as they are gathered
pub outputs-encode : (n m : ℕ) (values care order rows : List ℕ) → n ≤ most_variables → rows ≡ row_map n order
    → map (gathered_part values care rows n) (up_to m) ≡ map encode (map (reordered (table_of n m values care) (take n order)) (up_to m))
outputs-encode n m values care order rows small e =
    map-up_to-cong m (gathered_part values care rows n) (λ j. encode (reordered (table_of n m values care) (take n order) j))
    (λ j h. gathered-encode n order small m values care rows j e)
    ∙ sym (map-map encode (reordered (table_of n m values care) (take n order)) (up_to m))

pub long-encode : {d : ℕ} (ts : List (Tree Row d)) → Long (width d + width d) (map encode ts)
long-encode [] = tt
long-encode (t ∷ ts) = (encode-length t, long-encode ts)

-- level 0, in a work buffer that was zero
pub first-is : {n : ℕ} (fs : List (Tree Row n)) (work z : List ℕ) (xs : List (List ℕ)) (r : ℕ) (m : List ℕ) → xs ≡ map encode fs
    → z ≡ zero_work work
    → r ≡ length (level_parts (width n) [] xs).parts → m ≡ written (level_parts (width n) [] xs) 0 links_at z
    → (r ≡ length (entries_of fs)) × (m ≡ holding 0 (parts_of fs) (link_bytes (links_of true fs)) work)
unfolding holding links_at written
first-is {n} fs work z xs r m p q a b =
    let e : level_parts (width n) [] xs ≡ level_part (level true [] fs) = ap (level_parts (width n) []) p ∙ level-bytes [] fs in (
      a ∙ ap (λ (l : LevelParts). length l.parts) e ∙ length-map (entries_of fs) encode,
      b ∙ ap₂ (λ (l : LevelParts) (y : List ℕ). splice (splice y 0 (flat l.parts)) links_at (link_bytes l.links)) e q,
    )

module _ {n : ℕ} (fs : List (Tree Row n)) (small : n ≤ most_variables) (few : length fs ≤ most_outputs) where
  rows : Rows fs
  rows = stream-small n (length fs) small few

  roomy-parts : T (roomy n (parts_of fs))
  roomy-parts = roomy-filled n fs rows

  fit : Fit (width n + width n) (parts_of fs)
  fit = (long-encode (entries_of fs), room-first n (parts_of fs) roomy-parts)

  links-size : length (link_bytes (links_of true fs)) ≡ 2 * length fs
  links-size = length-links (links_of true fs) ∙ ap (λ (k : ℕ). 2 * k) (links-length true [] fs)

  trace-links : link_bytes (all_links (trace true n fs)) ≡ link_bytes (links_of true fs) ++ link_bytes (all_links (links_below n (parts_of fs)))
  trace-links =
      ap (λ (y : List (List Link)). link_bytes (all_links y)) (trace-bytes n fs) ∙ links-append (links_of true fs)
      (all_links (links_below n (parts_of fs)))

  pub trace-size : links_at + length (link_bytes (all_links (trace true n fs))) ≤ work_size
  trace-size = omega (sizes, length-links (all_links (trace true n fs)), links-room n fs small few)

  -- below level 0 there are no more
  links-few : length (all_links (links_below n (parts_of fs))) ≤ links_limit
  links-few =
      let y = all_links (links_below n (parts_of fs)) in
      omega (
        sizes,
        ap (λ (l : List (List Link)). length (all_links l)) (trace-bytes n fs),
        length-append
            (links_of true fs) y,
        links-room n fs small few,
      )

  -- after level 0 there are so many entries, the next link goes to `links`, and m is the work buffer
  module _ (work : List ℕ) (big : work_size ≤ length work) (k links : ℕ) (m : List ℕ) (many : k ≡ length (entries_of fs))
      (ends : links ≡ links_at + 2 * length fs) (is : m ≡ holding 0 (parts_of fs) (link_bytes (links_of true fs)) work) where
    ends' : links ≡ links_at + length (link_bytes (links_of true fs))
    ends' = omega (sizes, links-size)

    parts-read : parts_at n k 0 m ≡ parts_of fs
    parts-read =
        ap₂ (λ (j : ℕ) (y : List ℕ). parts_at n j 0 y) (many ∙ sym (length-map (entries_of fs) encode)) is
        ∙ held-parts work big (width n + width n) 0 (parts_of fs) (link_bytes (links_of true fs)) fit (inl refl)

    links-read : links_up_to links m ≡ link_bytes (links_of true fs)
    links-read = ap (links_up_to links) is ∙ held_bytes work big (width n + width n) 0 (parts_of fs) (link_bytes (links_of true fs)) fit
        (inl refl) links ends'

    past : zero_work m ≡ zero_work work
    past =
        ap zero_work is
        ∙ held-past work big (width n + width n) 0 (parts_of fs) (link_bytes (links_of true fs)) fit (inl refl) (omega (sizes, links-size))

    -- what the way down asks
    pub descend-asks : (m ≡ holding 0 (parts_at n k 0 m) (links_up_to links m) m)
        × (T (roomy n (parts_at n k 0 m)) × (links + 2 * length (all_links (links_below n (parts_at n k 0 m))) ≤ work_size))
    descend-asks = (
      is
          ∙ sym (holding-past 0 (parts_of fs) (link_bytes (links_of true fs)) m work past)
          ∙ sym (ap₂ (λ (p : List (List ℕ)) (b : List ℕ). holding 0 p b m) parts-read links-read),
      (
        subst (λ (p : List (List ℕ)). T (roomy n p)) (sym parts-read) roomy-parts,
        subst (λ (p : List (List ℕ)). links + 2 * length (all_links (links_below n p)) ≤ work_size) (sym parts-read)
            (omega (sizes, links-few)),
      ),
    )

    -- what it leaves: the entries of each level, and the links
    module _ (entries m' : List ℕ) (entries-are : entries ≡ per_level (counts_below n (parts_at n k 0 m)))
        (left : m' ≡ holding 0 [] (links_up_to links m ++ link_bytes (all_links (links_below n (parts_at n k 0 m)))) m) where
      pub entries-filled : entries ≡ per_level (entry_counts n fs)
      entries-filled = entries-are ∙ ap (λ (p : List (List ℕ)). per_level (counts_below n p)) parts-read ∙ ap per_level
          (sym (counts-bytes n fs))

      left_is : m' ≡ holding 0 [] (link_bytes (links_of true fs) ++ link_bytes (all_links (links_below n (parts_of fs)))) work
      left_is =
          left
          ∙ ap₂ (λ (p : List (List ℕ)) (b : List ℕ). holding 0 [] (b ++ link_bytes (all_links (links_below n p))) m) parts-read links-read
          ∙ holding-past 0 [] (link_bytes (links_of true fs) ++ link_bytes (all_links (links_below n (parts_of fs)))) m work past

      pub left-filled : m' ≡ trace_work (trace true n fs) work
      left-filled =
          left_is ∙ ap (λ (b : List ℕ). holding 0 [] b work) (sym trace-links) ∙ held-trace work big (trace true n fs) trace-size

      levels-taken : take n entries ≡ counts_below n (parts_of fs)
      levels-taken =
          ap (take n) entries-filled ∙ per-level-take (entry_counts n fs) n (entry-levels n fs) small ∙ counts-bytes n fs

      pub counts-ask : links_end links (take n entries) ≤ work_size
      counts-ask =
          subst (λ (ks : List ℕ). links_end links ks ≤ work_size) (sym levels-taken)
          (omega (sizes, end_below n links (parts_of fs), links-few))

      pub counts-filled : (cs : List ℕ) → cs ≡ per_level (counts_at m' links (take n entries))
          → cs ≡ per_level (counts true n (fill true n fs))
      counts-filled cs e =
          let (rest, behind) =
          held-behind work big 2 0 [] (link_bytes (links_of true fs)) (tt, omega sizes) (inl refl)
          (link_bytes (all_links (links_below n (parts_of fs)))) links ends' in
          e
          ∙ ap per_level
          (ap (counts_at m' links) levels-taken
          ∙ counts-below m' n links (parts_of fs) rest fit.0 roomy-parts (ap (drop links) left_is ∙ behind)
          ∙ sym (counts-traced n fs))

-- the cells in all
pub cells-filled : {n : ℕ} (fs : List (Tree Row n)) (cs : List ℕ) → n ≤ most_variables → length fs ≤ most_outputs
    → cs ≡ per_level (counts true n (fill true n fs))
    → (sum ◌+◌ 0 cs ≡ count true n (fill true n fs)) × (sum ◌+◌ 0 cs ≤ most_nodes)
cells-filled {n} fs cs small few e =
    let ts = fill true n fs in
    let a : sum ◌+◌ 0 cs ≡ count true n ts =
    ap (sum ◌+◌ 0) e ∙ sum-per-level (counts true n ts) (omega (sizes, counts-length true n ts)) ∙ sym (count-sum true n ts) in
    (a, omega (sizes, most n ts small (omega (sizes, fill-length true n fs))))
