-- The links of the outputs and of all levels, level by level: where each begins, and that there is room for it.
-- Assumes nothing.
use mathlib.Core.Path.{◌≡◌, refl, sym, ap, ap₂, ◌∙◌, subst}
use mathlib.Core.List.{List, [], ◌∷◌, ◌++◌, map, append_assoc, append-nil}
use Prim.Native.Nat.{ℕ, zero, suc, ◌+◌, ◌*◌, ◌-◌, ◌≤◌, ◌<◌}
use native.Mathlib.Nat.{add-zero}
use native.Mathlib.Numerals.{add-one}
use native.Mathlib.Omega.{arith}
use borrow.Author.Tests.{eqb-true}
use lib.Dec.{eqb}
use lib.ListN.{length, get_or, set, length-append, length-set}
use lib.Seq.{get_or-set_same, get_or-set_other}
use Rattle.lists.specs.Lists.{up_to}
use Rattle.lists.proofs.Bools.{split}
use Rattle.lists.proofs.Numbers.Compared.{differ}
use Rattle.lists.proofs.Numbers.UpTo.{map-up_to-more}
use Rattle.diagram.specs.Filling.Fill.{Link}
use Rattle.diagram.specs.Networks.Diagram.{Node}
use Rattle.diagram.specs.Networks.Bound.{most_variables}
use Rattle.diagram.specs.Exchanging.Exchange.{Pair, entries_from, links_from, half_pairs, level_pairs, level_links, exchanged_trace}
use Rattle.diagram.proofs.Exchanging.PairBounds.{level-room, links_from-length}
use Rattle.fill.specs.Work.{links_at, all_links}
use Rattle.swapping.specs.Inner.Exchange.{put_links}
use Rattle.swapping.proofs.LevelLinks.{put-append}

all_append : (kss lss : List (List Link)) → all_links (kss ++ lss) ≡ all_links kss ++ all_links lss
all_append [] lss = refl
all_append (ks ∷ kss) lss = ap (λ (l : List Link). ks ++ l) (all_append kss lss) ∙ sym (append_assoc ks (all_links kss) (all_links lss))

-- a number put behind others of an array
pub set_more : (f : ℕ → ℕ) (l : List ℕ) (q x : ℕ) → q < length l → ((j : ℕ) → j < q → get_or l j 0 ≡ f j) → x ≡ f q → (j : ℕ) → j < q + 1
    → get_or (set l q x) j 0 ≡ f j
set_more f l q x h before e j k =
    split (eqb j q)
    (λ y. let i : j ≡ q = eqb-true j q y in
    ap (λ (z : ℕ). get_or (set l q x) z 0) i ∙ get_or-set_same l q x 0 h ∙ e ∙ ap f (sym i))
    (λ y. get_or-set_other l q j x 0 (differ j q y) ∙ before j (omega (arith, differ j q y)))

module _ (node : ℕ → Node) (p : ℕ) (fs : List Pair) where
  -- the links of the first q levels
  abbrev pub links_above : ℕ → List Link
  links_above q = all_links (map (level_links node p fs) (up_to q))

  trace-links : (n : ℕ) → all_links (exchanged_trace node p n fs) ≡ links_from [] fs ++ links_above n
  unfolding exchanged_trace
  trace-links n = refl

  -- behind those of the outputs
  pub trace-length : (n : ℕ) → length (all_links (exchanged_trace node p n fs)) ≡ length fs + length (links_above n)
  trace-length n =
      ap length (trace-links n) ∙ length-append (links_from [] fs) (links_above n)
      ∙ ap (λ (k : ℕ). k + length (links_above n)) (links_from-length [] fs)

  above_more : (q : ℕ) → links_above (q + 1) ≡ links_above q ++ level_links node p fs q
  above_more q =
      let ls = map (level_links node p fs) (up_to q) in
      ap all_links (map-up_to-more (level_links node p fs) q) ∙ all_append ls (level_links node p fs q ∷ [])
      ∙ ap (λ (l : List Link). all_links ls ++ l) (append-nil (level_links node p fs q))

  above-length : (q : ℕ) → length (links_above (q + 1)) ≡ length (links_above q) + 2 * length (level_pairs node p fs q)
  above-length q =
      ap length (above_more q) ∙ length-append (links_above q) (level_links node p fs q)
      ∙ ap (λ (k : ℕ). length (links_above q) + k) (level-room node p fs q)

  above-rises : (q k : ℕ) → length (links_above q) ≤ length (links_above (q + k))
  above-rises q zero = subst (λ (x : ℕ). length (links_above q) ≤ length (links_above x)) (sym (add-zero q)) (omega arith)
  above-rises q (suc k) =
      let e : q + k + 1 ≡ q + suc k = omega arith in
      omega (arith, above-rises q k, above-length (q + k), ap (λ (x : ℕ). length (links_above x)) e)

  -- the links of level q have room before the end of level n's
  above-room : (q n : ℕ) → q < n → length (links_above q) + 2 * length (level_pairs node p fs q) ≤ length (links_above n)
  above-room q n h =
      let e : q + 1 + (n - (q + 1)) ≡ n = omega arith in
      omega (arith, above-length q, above-rises (q + 1) (n - (q + 1)), ap (λ (x : ℕ). length (links_above x)) e)

  pub pairs_first : level_pairs node p fs 0 ≡ entries_from [] fs
  unfolding level_pairs
  pairs_first = refl

  pairs_next : (q : ℕ) → level_pairs node p fs (suc q) ≡ entries_from [] (half_pairs node p q (level_pairs node p fs q))
  unfolding level_pairs
  pairs_next q = refl

  links-at-level : (q : ℕ) → level_links node p fs q ≡ links_from [] (half_pairs node p q (level_pairs node p fs q))
  unfolding level_links
  links-at-level q = refl

  -- the levels before level q are linked, from byte at₀ on; below are the entries of level q
  module _ (work₀ : List ℕ) (at₀ : ℕ) where
    pub record Linking (q : ℕ) (below : List Pair) (work entries : List ℕ) (at : ℕ) : Type 0 where
      pub shown : below ≡ level_pairs node p fs q
      pub put : work ≡ put_links work₀ at₀ (links_above q)
      pub there : at ≡ at₀ + 2 * length (links_above q)
      pub long : length entries ≡ most_variables
      pub sizes : (j : ℕ) → j < q → get_or entries j 0 ≡ length (level_pairs node p fs j)

    -- the outputs alone
    pub linking-top : (below : List Pair) (entries : List ℕ) → length entries ≡ most_variables → below ≡ entries_from [] fs
        → Linking 0 below work₀ entries at₀
    linking-top below entries l e =
        record {
          shown = e ∙ sym pairs_first;
          put = refl;
          there = omega arith;
          long = l;
          sizes = λ j k. absurd (omega arith);
        }

    module _ (q : ℕ) (below : List Pair) (work entries : List ℕ) (at : ℕ) (L : Linking q below work entries at) where
      -- the level's links end where those of all levels end, or before
      pub linking-room : (n : ℕ) → q < n → at + 4 * length below ≤ at₀ + 2 * length (links_above n)
      linking-room n h = omega (arith, L.there, above-room q n h, ap length L.shown)

      pub linking-next : (below' : List Pair) (work' : List ℕ) → q < length entries
          → below' ≡ entries_from [] (half_pairs node p q below)
          → work' ≡ put_links work at (links_from [] (half_pairs node p q below))
          → Linking (q + 1) below' work' (set entries q (length below)) (at + 4 * length below)
      linking-next below' work' he es ew =
          let halves = ap (half_pairs node p q) L.shown in
          let ls : links_from [] (half_pairs node p q below) ≡ level_links node p fs q =
          ap (links_from []) halves ∙ sym (links-at-level q) in
          record {
            shown = es ∙ ap (entries_from []) halves ∙ sym (pairs_next q) ∙ ap (level_pairs node p fs) (sym (add-one q));
            put =
                ew ∙ ap₂ (λ (w : List ℕ) (l : List Link). put_links w at l) L.put ls
                ∙ ap (λ (i : ℕ). put_links (put_links work₀ at₀ (links_above q)) i (level_links node p fs q)) L.there
                ∙ sym (put-append work₀ at₀ (links_above q) (level_links node p fs q)) ∙ ap (put_links work₀ at₀) (sym (above_more q));
            there = omega (arith, L.there, above-length q, ap length L.shown);
            long = length-set entries q (length below) ∙ L.long;
            sizes = set_more (λ j. length (level_pairs node p fs j)) entries q (length below) he L.sizes (ap length L.shown);
          }

      -- at the end
      pub linked-work : (n : ℕ) → q ≡ n → (w : List ℕ) → work₀ ≡ put_links w links_at (links_from [] fs) → at₀ ≡ links_at + 2 * length fs
          → work ≡ put_links w links_at (all_links (exchanged_trace node p n fs))
      linked-work n e w ew ea =
          L.put ∙ ap₂ (λ (x : List ℕ) (k : ℕ). put_links x at₀ (links_above k)) ew e
          ∙ ap (λ (i : ℕ). put_links (put_links w links_at (links_from [] fs)) i (links_above n))
          (ea ∙ ap (λ (k : ℕ). links_at + 2 * k) (sym (links_from-length [] fs)))
          ∙ sym (put-append w links_at (links_from [] fs) (links_above n)) ∙ ap (put_links w links_at) (sym (trace-links n))
