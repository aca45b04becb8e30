-- The work buffer while a level's candidates are linked: the entries' parts in a region at `to`, the links at `links` behind it.
-- Assumes nothing.
use mathlib.Core.Path.{◌≡◌, sym, ap, ap₂, ◌∙◌}
use mathlib.Core.List.{List, [], ◌∷◌, ◌++◌}
use mathlib.Core.Logic.{◌⊎◌, ⊎_elim}
use Prim.Native.Nat.{ℕ, ◌+◌, ◌*◌, ◌≤◌}
use native.Mathlib.Nat.{mul-le-mul_right}
use native.Mathlib.Omega.{arith}
use lib.ListN.{length, take, drop}
use Rattle.lists.specs.Written.{splice}
use Rattle.lists.proofs.Written.Splice.{length-splice, splice-none}
use Rattle.lists.proofs.Written.Windows.{window-before, drop_here, drop-behind, splice-over, splice-append, splice-swap}
use Rattle.diagram.specs.Filling.Fill.{Link}
use Rattle.matching.specs.Parts.{LevelParts, level_parts, chunks, flat}
use Rattle.matching.specs.Links.{region_size, link_bytes}
use Rattle.matching.specs.Level.{written}
use Rattle.matching.proofs.Buffers.PartLengths.{Long, length-flat, chunks-flat, chunks-take, level-grown, level-links, length-links}
use Rattle.matching.proofs.Buffers.PartLengths.{links-append, level-append}

-- nothing written yet
pub written_none : (to links : ℕ) (work : List ℕ) → written (record { parts = []; links = [] }) to links work ≡ work
unfolding written
written_none to links work = splice-none (splice work to []) links ∙ splice-none work to

-- parts of s bytes each that fit a region
abbrev pub Fit : ℕ → List (List ℕ) → Type 0
Fit s gs = Long s gs × (length gs * s ≤ region_size)

module _ (s to links : ℕ) (work : List ℕ) (behind : to + region_size ≤ links) (in-work : links ≤ length work) where
  pub fit-end : (gs : List (List ℕ)) → Fit s gs → length (flat gs) ≤ region_size
  fit-end gs h = omega (arith, length-flat s gs h.0, h.1)

  length-parts : (gs : List (List ℕ)) → Fit s gs → length (splice work to (flat gs)) ≡ length work
  length-parts gs h = length-splice work to (flat gs) (omega (arith, fit-end gs h))

  -- the parts are read back as they were written, whatever is written behind them
  pub parts-under : (gs : List (List ℕ)) (x : List ℕ) → Fit s gs
      → chunks s (length gs) (drop to (splice (splice work to (flat gs)) links x)) ≡ gs
  parts-under gs x h =
      let m = splice work to (flat gs) in
      let k = length gs in
      sym (chunks-take s k region_size (drop to (splice m links x)) h.1)
      ∙ ap (chunks s k) (window-before m links x (omega (arith, length-parts gs h)) to region_size behind)
      ∙ chunks-take s k region_size (drop to m) h.1
      ∙ ap (chunks s k) (drop_here work to (flat gs) (omega arith))
      ∙ chunks-flat s gs (drop (to + length (flat gs)) work) h.0

  parts-there : (l : LevelParts) → Fit s l.parts → chunks s (length l.parts) (drop to (written l to links work)) ≡ l.parts
  unfolding written
  parts-there l h = parts-under l.parts (link_bytes l.links) h

  -- what lies outside of the region and before the links is as it was
  pub outside : (l : LevelParts) → Fit s l.parts → (n j : ℕ) → n + j ≤ links → (n + j ≤ to) ⊎ (to + region_size ≤ n)
      → take j (drop n (written l to links work)) ≡ take j (drop n work)
  unfolding written
  outside l h n j i o =
      let gs = l.parts in
      window-before (splice work to (flat gs)) links (link_bytes l.links) (omega (arith, length-parts gs h)) n j i
      ∙ ⊎_elim (λ (p : n + j ≤ to). window-before work to (flat gs) (omega arith) n j p)
      (λ (q : to + region_size ≤ n). ap (take j) (drop-behind work to (flat gs) (omega arith) n (omega (arith, fit-end gs h))))
      o

  -- a link written once more, right behind itself
  pub link-again : (gs : List (List ℕ)) (k : Link) (m m' : List ℕ) → Fit s gs
      → m ≡ written (record { parts = gs; links = k ∷ [] }) to links work → m' ≡ splice m (links + 2) (link_bytes (k ∷ []))
      → m' ≡ written (record { parts = gs; links = k ∷ k ∷ [] }) to links work
  unfolding written
  link-again gs k m m' h e e' =
      let x = link_bytes (k ∷ []) in
      let y = splice work to (flat gs) in
      e' ∙ ap (λ (z : List ℕ). splice z (links + 2) x) e ∙ splice-append y links x (omega (arith, length-parts gs h)) x

  -- more parts and more links
  more : (gs gs' : List (List ℕ)) (ls ls' : List Link) → Fit s gs → Fit s gs' → length gs ≤ length gs'
      → written (record { parts = gs'; links = ls' }) to (links + length (link_bytes ls))
      (written (record { parts = gs; links = ls }) to links work)
      ≡ written (record { parts = gs'; links = ls ++ ls' }) to links work
  unfolding written
  more gs gs' ls ls' h h' c =
      let x = flat gs in
      let x' = flat gs' in
      let y = link_bytes ls in
      let longer : length x ≤ length x' = omega (arith, length-flat s gs h.0, length-flat s gs' h'.0, mul-le-mul_right s c) in
      ap (λ (z : List ℕ). splice z (links + length y) (link_bytes ls'))
      (splice-swap (splice work to x) to links x' y (omega (arith, fit-end gs' h')) (omega (arith, length-parts gs h))
      ∙ ap (λ (z : List ℕ). splice z links y) (splice-over work to x (omega arith) x' longer))
      ∙ splice-append (splice work to x') links y (omega (arith, length-parts gs' h')) (link_bytes ls')
      ∙ ap (splice (splice work to x') links) (sym (links-append ls ls'))

-- Candidates hs after candidates fs, of w bytes of values: k entries are there, m is the work buffer then and m' the one afterwards,
-- n where the links go.
module _ (w to links : ℕ) (work : List ℕ) (behind : to + region_size ≤ links) (in-work : links ≤ length work)
    (gs fs hs : List (List ℕ)) (lg : Long (w + w) gs) (lf : Long (w + w) fs) (lh : Long (w + w) hs)
    (room : (length gs + (length fs + length hs)) * (w + w) ≤ region_size) where
  -- after fs, and after hs
  pub fit-first : Fit (w + w) (level_parts w gs fs).parts
  fit-first =
      let r = level-grown w gs fs lg lf in
      let c : length (level_parts w gs fs).parts ≤ length gs + (length fs + length hs) = omega (arith, r.2) in
      (r.0, omega (arith, mul-le-mul_right (w + w) c))

  fit-second : Fit (w + w) (level_parts w (level_parts w gs fs).parts hs).parts
  fit-second =
      let r = level-grown w gs fs lg lf in
      let q = level-grown w (level_parts w gs fs).parts hs r.0 lh in
      let c : length (level_parts w (level_parts w gs fs).parts hs).parts ≤ length gs + (length fs + length hs) = omega
      (arith, r.2, q.2) in
      (q.0, omega (arith, mul-le-mul_right (w + w) c))

  pub level-step : (k r n : ℕ) (m m' : List ℕ) → k ≡ length (level_parts w gs fs).parts → m ≡ written (level_parts w gs fs) to links work
      → n ≡ links + (length fs + length fs)
      → r ≡ length (level_parts w (chunks (w + w) k (drop to m)) hs).parts
      → m' ≡ written (level_parts w (chunks (w + w) k (drop to m)) hs) to n m
      → (r ≡ length (level_parts w gs (fs ++ hs)).parts) × (m' ≡ written (level_parts w gs (fs ++ hs)) to links work)
  level-step k r n m m' p q o a b =
      let l = level_parts w gs fs in
      let there : chunks (w + w) k (drop to m) ≡ l.parts =
      ap₂ (λ (y : ℕ) (z : List ℕ). chunks (w + w) y (drop to z)) p q ∙ parts-there (w + w) to links work behind in-work l fit-first in
      let l' = level_parts w l.parts hs in
      let e = level-append w gs fs hs in
      let i : n ≡ links + length (link_bytes l.links) = omega (arith, length-links l.links, level-links w gs fs) in
      let c : length l.parts ≤ length l'.parts = (level-grown w l.parts hs fit-first.0 lh).1 in (
        a ∙ ap (λ (y : List (List ℕ)). length (level_parts w y hs).parts) there ∙ sym (ap (λ (y : LevelParts). length y.parts) e),
        b
            ∙ ap₂ (λ (y : List (List ℕ)) (z : ℕ). written (level_parts w y hs) to z m) there i
            ∙ ap (written l' to (links + length (link_bytes l.links))) q
            ∙ more (w + w) to links work behind in-work l.parts l'.parts l.links l'.links fit-first fit-second c
            ∙ sym (ap (λ (y : LevelParts). written y to links work) e),
      )
