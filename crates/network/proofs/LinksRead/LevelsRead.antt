-- All levels read, the lowest first: the references of the top level's entries and the nodes of all are those of the network that the
-- links trace.
-- Assumes nothing.
use mathlib.Core.Path.{◌≡◌, refl, sym, ap, ◌∙◌, subst}
use mathlib.Core.Bool.{true}
use mathlib.Core.List.{List, [], ◌∷◌, ◌++◌}
use Prim.Native.Nat.{ℕ, zero, suc, ◌+◌, ◌*◌, ◌≤◌, ◌<◌, suc-le-suc, zero-le}
use native.Mathlib.Nat.{add-zero, not-suc-le-zero, le_of_suc-le-suc}
use native.Mathlib.Omega.{arith}
use lib.ListN.{length, get_or, length-append}
use lib.Seq.{sets}
use Rattle.lists.specs.Sums.{sum_below}
use Rattle.diagram.specs.Filling.Fill.{Link}
use Rattle.diagram.specs.Networks.Diagram.{Node}
use Rattle.diagram.specs.Networks.Trace.{differing, entry_nodes, traced_refs, traced_nodes}
use Rattle.diagram.proofs.Tracing.Rising.{AllValid}
use Rattle.fill.specs.Work.{all_links}
use Rattle.fill.specs.Counts.{differing_pairs}
use Rattle.fill.proofs.Counting.LinkPairs.{Links, pairs-there}
use Rattle.lent.specs.Lent.{numbers_of}
use Rattle.network.specs.Levels.{Made, made, level_made, level_at, levels_made}
use Rattle.network.proofs.LinksRead.Stored.{sets-append}
use Rattle.network.proofs.LinksRead.AnyLinks.{levels-outside}
use Rattle.network.proofs.LinksRead.LinkRefs.{Slots, links-kept, links-split}
use Rattle.network.proofs.LinksRead.LevelRead.{pairs_of, pairs-half, refs-length, nodes-length, LevelRead, level-read}
use Rattle.network.proofs.LinksRead.LevelTurns.{levels-work}
use Rattle.network.proofs.LinksRead.Offsets.{at-rises}

pub numbers-append : (cs ds : List Node) → numbers_of (cs ++ ds) ≡ numbers_of cs ++ numbers_of ds
numbers-append [] ds = refl
numbers-append (c ∷ cs) ds = ap (λ (l : List ℕ). c.level ∷ c.low ∷ c.high ∷ l) (numbers-append cs ds)

pub numbers-length : (cs : List Node) → length (numbers_of cs) ≡ 3 * length cs
numbers-length [] = refl
numbers-length (c ∷ cs) = omega (arith, numbers-length cs)

-- the entries of the first of some levels
abbrev pub top_entries : List (List Link) → ℕ
top_entries [] = 0
top_entries (ls ∷ lss) = pairs_of ls

pub traced-length : (base : ℕ) (lss : List (List Link)) → length (traced_refs true base lss) ≡ top_entries lss
unfolding traced_refs
traced-length base [] = refl
traced-length base (ls ∷ lss) = refs-length base (traced_refs true (base + differing ls) lss) ls

module _ (m : ℕ) (entries counts : List ℕ) where
  abbrev C : ℕ → ℕ
  C = sum_below (λ q. get_or counts q 0)

  -- lss are the links of the levels from p on: two an entry, each a constant or an entry of the next level, as many that differ as counted
  abbrev pub Sized : ℕ → List (List Link) → Type 0
  Sized p [] = Unit {0}
  Sized p (ls ∷ lss) =
      (length ls ≡ 2 * get_or entries p 0) × (get_or counts p 0 ≡ differing ls) × AllValid true (top_entries lss) ls × Sized (suc p) lss

  pub record LevelsRead (p : ℕ) (lss : List (List Link)) (s t : Made) : Type 0 where
    pub slots : Slots t.work (level_at m entries p) (traced_refs true (C p) lss)
    pub stored : t.cells ≡ sets s.cells (3 * C p) (numbers_of (traced_nodes true p (C p) lss))

  -- where the levels below begin
  lower-read : {X : Type 0} (ls : List Link) (lss : List (List Link)) (p : ℕ) (s : Made) → Sized p (ls ∷ lss)
      → Links s.work (level_at m entries p) (all_links (ls ∷ lss)) → level_at m entries (p + suc (length lss)) ≤ length s.work
      → (Sized (suc p) lss → Links s.work (level_at m entries (suc p)) (all_links lss)
      → level_at m entries (suc p + length lss) ≤ length s.work → X) → X
  lower-read ls lss p s size held long f =
      let k : suc p + length lss ≡ p + suc (length lss) = omega arith in
      let e : level_at m entries p + 2 * length ls ≡ level_at m entries (suc p) = omega (arith, size.0) in
      f size.3 (subst (λ i. Links s.work i (all_links lss)) e (links-split s.work (level_at m entries p) ls (all_links lss) held).1)
      (subst (λ q. level_at m entries q ≤ length s.work) (sym k) long)

  -- one level more
  module _ (p : ℕ) (ls : List Link) (lss : List (List Link)) (s : Made) (size : Sized p (ls ∷ lss))
      (held : Links s.work (level_at m entries p) (all_links (ls ∷ lss)))
      (long : level_at m entries (p + suc (length lss)) ≤ length s.work)
      (lower : LevelsRead (suc p) lss s (levels_made m entries counts (suc p) (length lss) s)) where
    abbrev t : Made
    t = levels_made m entries counts (suc p) (length lss) s

    abbrev u : Made
    u = made t.work t.cells (C p)

    abbrev refs : List ℕ
    refs = traced_refs true (C p + differing ls) lss

    -- a level's nodes come before those of the levels below
    next-base : C (suc p) ≡ C p + differing ls
    next-base = ap (λ x. C p + x) size.1

    half : pairs_of ls ≡ get_or entries p 0
    half = pairs-half ls (get_or entries p 0) size.0

    read : LevelRead p (level_at m entries p) refs ls u (level_made p (level_at m entries (suc p)) (level_at m entries p) (get_or entries p 0) u)
    read =
        subst (λ e. LevelRead p (level_at m entries p) refs ls u (level_made p (level_at m entries (suc p)) (level_at m entries p) e u)) half
        (level-read p (level_at m entries (suc p)) refs ls (level_at m entries p) u
        (links-kept s.work t.work (level_at m entries p) ls
        (λ j a b. (levels-outside m entries counts (suc p) (length lss) s).under j (omega (arith, size.0)))
        (links-split s.work (level_at m entries p) ls (all_links lss) held).0)
        (subst (λ b. Slots t.work (level_at m entries (suc p)) (traced_refs true b lss)) next-base lower.slots)
        (subst (λ n. AllValid true n ls) (sym (traced-length (C p + differing ls) lss)) size.2)
        (omega (arith, half))
        (omega (
          arith,
          half,
          levels-work m entries counts (suc p) (length lss) s,
          at-rises m entries (suc p) (p + suc (length lss))
              (omega arith),
        )))

    stored-all : (level_made p (level_at m entries (suc p)) (level_at m entries p) (get_or entries p 0) u).cells
        ≡ sets s.cells (3 * C p) (numbers_of (entry_nodes true p refs ls ++ traced_nodes true (suc p) (C p + differing ls) lss))
    stored-all =
        let en = entry_nodes true p refs ls in
        let ln = traced_nodes true (suc p) (C p + differing ls) lss in
        let seam : 3 * (C p + differing ls) ≡ 3 * C p + length (numbers_of en) = omega (arith, numbers-length en, nodes-length p refs ls) in
        read.stored
        ∙ ap (λ (c : List ℕ). sets c (3 * C p) (numbers_of en))
        (lower.stored ∙ ap (λ b. sets s.cells (3 * b) (numbers_of (traced_nodes true (suc p) b lss))) next-base
        ∙ ap (λ k. sets s.cells k (numbers_of ln)) seam)
        ∙ sets-append s.cells (3 * C p) (numbers_of en) (numbers_of ln)
        ∙ ap (sets s.cells (3 * C p)) (sym (numbers-append en ln))

    levels-step : LevelsRead p (ls ∷ lss) s (levels_made m entries counts p (suc (length lss)) s)
    unfolding traced_refs traced_nodes levels_made
    levels-step = record { slots = read.slots; stored = stored-all }

  pub levels-read : (lss : List (List Link)) (p : ℕ) (s : Made) → Sized p lss → Links s.work (level_at m entries p) (all_links lss)
      → level_at m entries (p + length lss) ≤ length s.work → LevelsRead p lss s (levels_made m entries counts p (length lss) s)
  unfolding traced_refs traced_nodes levels_made
  levels-read [] p s size held long = record { slots = tt; stored = refl }
  levels-read (ls ∷ lss) p s size held long =
      levels-step p ls lss s size held long (lower-read ls lss p s size held long (levels-read lss (suc p) s))

  -- links that differ, of level q of those from p on: two an entry
  pub links-counted : (w : List ℕ) (lss : List (List Link)) (p : ℕ)
      → ((q : ℕ) → q < length lss → length (get_or lss q []) ≡ 2 * get_or entries (p + q) 0) → Links w (level_at m entries p) (all_links lss)
      → (q : ℕ) → q < length lss → differing_pairs w (level_at m entries (p + q)) (get_or entries (p + q) 0) ≡ differing (get_or lss q [])
  links-counted w [] p f held q h = absurd (not-suc-le-zero h)
  links-counted w (ls ∷ lss) p f held zero h =
      let e = f 0 h in
      pairs-there w (level_at m entries (p + 0)) (get_or entries (p + 0) 0) ls (omega (arith, e))
      (subst (λ x. Links w (level_at m entries x) ls) (sym (add-zero p)) (links-split w (level_at m entries p) ls (all_links lss) held).0)
  links-counted w (ls ∷ lss) p f held (suc q) h =
      let k : suc p + q ≡ p + suc q = omega arith in
      let first : length ls ≡ 2 * get_or entries p 0 = f 0 (suc-le-suc zero-le) ∙ ap (λ x. 2 * get_or entries x 0) (add-zero p) in
      let e : level_at m entries p + 2 * length ls ≡ level_at m entries (suc p) = omega (arith, first) in
      subst (λ x. differing_pairs w (level_at m entries x) (get_or entries x 0) ≡ differing (get_or lss q [])) k
      (links-counted w lss (suc p)
      (λ j l. let i : p + suc j ≡ suc p + j = omega arith in f (suc j) (suc-le-suc l) ∙ ap (λ x. 2 * get_or entries x 0) i)
      (subst (λ i. Links w i (all_links lss)) e (links-split w (level_at m entries p) ls (all_links lss) held).1) q (le_of_suc-le-suc h))

  sized-at : (lss : List (List Link)) (p : ℕ) → Sized p lss → (q : ℕ) → q < length lss
      → (length (get_or lss q []) ≡ 2 * get_or entries (p + q) 0) × (get_or counts (p + q) 0 ≡ differing (get_or lss q []))
  sized-at [] p size q h = absurd (not-suc-le-zero h)
  sized-at (ls ∷ lss) p size zero h = rw (add-zero p) (size.0, size.1)
  sized-at (ls ∷ lss) p size (suc q) h =
      let k : suc p + q ≡ p + suc q = omega arith in
      subst (λ x. (length (get_or lss q []) ≡ 2 * get_or entries x 0) × (get_or counts x 0 ≡ differing (get_or lss q []))) k
      (sized-at lss (suc p) size.3 q (le_of_suc-le-suc h))

  -- the counts are those of the links
  pub sized-counts : (w : List ℕ) (lss : List (List Link)) (p : ℕ) → Sized p lss → Links w (level_at m entries p) (all_links lss)
      → (q : ℕ) → q < length lss → get_or counts (p + q) 0 ≡ differing_pairs w (level_at m entries (p + q)) (get_or entries (p + q) 0)
  sized-counts w lss p size held q h =
      (sized-at lss p size q h).1 ∙ sym (links-counted w lss p (λ j l. (sized-at lss p size j l).0) held q h)

  -- where the links end, and how many nodes there are
  pub sized-end : (lss : List (List Link)) (p : ℕ) → Sized p lss
      → level_at m entries (p + length lss) ≡ level_at m entries p + 2 * length (all_links lss)
  sized-end [] p size = rw (add-zero p) (omega arith)
  sized-end (ls ∷ lss) p size =
      let k : p + suc (length lss) ≡ suc p + length lss = omega arith in
      rw k (omega (arith, sized-end lss (suc p) size.3, length-append ls (all_links lss), size.0))

  pub sized-nodes : (lss : List (List Link)) (p : ℕ) → Sized p lss → C (p + length lss) ≡ C p + length (traced_nodes true p (C p) lss)
  unfolding traced_nodes
  sized-nodes [] p size = rw (add-zero p) (omega arith)
  sized-nodes (ls ∷ lss) p size =
      let k : p + suc (length lss) ≡ suc p + length lss = omega arith in
      let en = entry_nodes true p (traced_refs true (C p + differing ls) lss) ls in
      let ln = traced_nodes true (suc p) (C p + differing ls) lss in
      let b : C (suc p) ≡ C p + differing ls = ap (λ x. C p + x) size.1 in
      let lower : C (suc p + length lss) ≡ C p + differing ls + length ln =
      subst (λ x. C (suc p + length lss) ≡ x + length (traced_nodes true (suc p) x lss)) b (sized-nodes lss (suc p) size.3) in
      rw k (omega (arith, lower, length-append en ln, nodes-length p (traced_refs true (C p + differing ls) lss) ls))
