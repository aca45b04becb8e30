-- The links of pairs that are seen one after the other: the entries and the links that one more adds.
-- Assumes nothing.
use mathlib.Core.Path.{◌≡◌, refl, sym, ap, ap₂, ◌∙◌}
use mathlib.Core.Bool.{true, false, ◌||◌}
use mathlib.Core.List.{List, [], ◌∷◌, ◌++◌}
use Prim.Native.Nat.{ℕ, suc, ◌+◌, ◌*◌, ◌≤◌}
use native.Mathlib.Omega.{arith}
use lib.ListN.{length, length-append}
use Rattle.lists.specs.Lists.{has}
use Rattle.lists.proofs.Bools.{split}
use Rattle.diagram.specs.Filling.Fill.{Link}
use Rattle.diagram.specs.Networks.Diagram.{Node}
use Rattle.diagram.specs.Exchanging.Exchange.{Pair, same_class, constant_pair, entries_after, link_into, entries_from, links_from, half_pair, half_pairs}
use Rattle.diagram.proofs.Exchanging.PairBounds.{links_from-length}
use Rattle.matching.specs.Links.{link_number}
use Rattle.network.specs.Levels.{put_stored}
use Rattle.swapping.specs.Inner.Exchange.{put_links}

-- a pair that is seen is at most one entry more

pub after-few : (gs : List Pair) (f : Pair) → length (entries_after gs f) ≤ length gs + 1
after-few gs f =
    split (constant_pair f || has same_class f gs) (λ q. rw q (omega arith)) (λ q. rw q (omega (arith, length-append gs (f ∷ []))))

pub entries-few : (gs fs : List Pair) → length (entries_from gs fs) ≤ length gs + length fs
entries-few gs [] = omega arith
entries-few gs (f ∷ fs) = omega (arith, entries-few (entries_after gs f) fs, after-few gs f)

-- several pairs, and more behind them

pub entries-append : (gs fs hs : List Pair) → entries_from gs (fs ++ hs) ≡ entries_from (entries_from gs fs) hs
entries-append gs [] hs = refl
entries-append gs (f ∷ fs) hs = entries-append (entries_after gs f) fs hs

pub links-append : (gs fs hs : List Pair) → links_from gs (fs ++ hs) ≡ links_from gs fs ++ links_from (entries_from gs fs) hs
links-append gs [] hs = refl
links-append gs (f ∷ fs) hs =
    ap (λ (l : List Link). link_into (entries_after gs f) f ∷ l) (links-append (entries_after gs f) fs hs)

pub halves-append : (node : ℕ → Node) (p q : ℕ) (fs hs : List Pair) → half_pairs node p q (fs ++ hs) ≡ half_pairs node p q fs ++ half_pairs node p q hs
halves-append node p q [] hs = refl
halves-append node p q (f ∷ fs) hs =
    ap (λ (l : List Pair). half_pair node p q false f ∷ half_pair node p q true f ∷ l) (halves-append node p q fs hs)

pub put-append : (work : List ℕ) (i : ℕ) (ks ls : List Link) → put_links work i (ks ++ ls) ≡ put_links (put_links work i ks) (i + 2 * length ks) ls
put-append work i [] ls = ap (λ (j : ℕ). put_links work j ls) (omega arith)
put-append work i (k ∷ ks) ls =
    let e : i + 2 + 2 * length ks ≡ i + 2 * suc (length ks) = omega arith in
    put-append (put_stored work i (link_number k)) (i + 2) ks ls
    ∙ ap (λ (j : ℕ). put_links (put_links (put_stored work i (link_number k)) (i + 2) ks) j ls) e

-- fs are seen and their links put from byte i on: the entries and the work buffer are what they leave
pub record Linked (fs : List Pair) (i : ℕ) (work₀ : List ℕ) (entries : List Pair) (work : List ℕ) : Type 0 where
  pub seen : entries ≡ entries_from [] fs
  pub put : work ≡ put_links work₀ i (links_from [] fs)

pub linked-few : {fs : List Pair} {i : ℕ} {work₀ : List ℕ} {entries : List Pair} {work : List ℕ} → Linked fs i work₀ entries work
    → length entries ≤ length fs
linked-few {fs} L = omega (arith, ap length L.seen, entries-few [] fs)

-- and hs behind them
pub linked-more : {fs : List Pair} {i : ℕ} {work₀ : List ℕ} {entries : List Pair} {work : List ℕ} → Linked fs i work₀ entries work
    → (hs : List Pair) (j : ℕ) (entries' : List Pair) (work' : List ℕ) → j ≡ i + 2 * length fs → entries' ≡ entries_from entries hs
    → work' ≡ put_links work j (links_from entries hs) → Linked (fs ++ hs) i work₀ entries' work'
linked-more {fs} {i} {work₀} {entries} {work} L hs j entries' work' ej es ew =
    let gs = entries_from [] fs in
    let ls = links_from [] fs in
    record {
      seen = es ∙ ap (λ (g : List Pair). entries_from g hs) L.seen ∙ sym (entries-append [] fs hs);
      put =
          ew ∙ ap₂ (λ (w : List ℕ) (g : List Pair). put_links w j (links_from g hs)) L.put L.seen
          ∙ ap (λ (k : ℕ). put_links (put_links work₀ i ls) k (links_from gs hs)) (ej ∙ ap (λ (k : ℕ). i + 2 * k) (sym (links_from-length [] fs)))
          ∙ sym (put-append work₀ i ls (links_from gs hs)) ∙ ap (put_links work₀ i) (sym (links-append [] fs hs));
    }
