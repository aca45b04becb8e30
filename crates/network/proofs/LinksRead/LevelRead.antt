-- One level read: where the links ls of its entries stand in the work buffer, and the references of the entries below, the level's
-- references come to stand where the first links stood, and its nodes are stored in the cells.
-- Assumes nothing.
use mathlib.Core.Path.{◌≡◌, refl, sym, ap, ap₂, ◌∙◌, subst}
use mathlib.Core.Bool.{true, false}
use mathlib.Core.List.{List, [], ◌∷◌}
use Prim.Native.Nat.{ℕ, zero, suc, ◌+◌, ◌*◌, ◌≤◌, ◌<◌}
use native.Mathlib.Nat.{add-zero}
use native.Mathlib.Numerals.{add-one}
use native.Mathlib.Omega.{arith}
use lib.Dec.{eqb}
use lib.ListN.{length, length-set}
use lib.Seq.{sets}
use Rattle.lists.proofs.Bools.{split}
use Rattle.lists.proofs.Written.Outside.{Outside}
use Rattle.diagram.specs.Filling.Fill.{Link}
use Rattle.diagram.specs.Networks.Diagram.{inverts}
use Rattle.diagram.specs.Networks.Network.{reference}
use Rattle.diagram.specs.Networks.Trace.{same_link, differing, link_ref, entry_refs, entry_nodes}
use Rattle.diagram.proofs.Tracing.Rising.{AllValid}
use Rattle.matching.specs.Links.{link_number}
use Rattle.fill.proofs.Counting.LinkPairs.{Links, numbers-same}
use Rattle.lent.specs.Lent.{numbers_of}
use Rattle.network.specs.Levels.{stored_at, ref_at, Made, passed, noded, entry_made, level_made}
use Rattle.network.proofs.LinksRead.Stored.{same-stored, outside-put, stored-put}
use Rattle.network.proofs.LinksRead.AnyLinks.{level-outside}
use Rattle.network.proofs.LinksRead.LinkRefs.{Slots, links-kept, slots_kept, number-ref}

-- the entries of so many links
abbrev pub pairs_of : List Link → ℕ
pairs_of [] = 0
pairs_of (k ∷ []) = 0
pairs_of (k ∷ l ∷ ls) = suc (pairs_of ls)

pub pairs-half : (ls : List Link) (e : ℕ) → length ls ≡ 2 * e → pairs_of ls ≡ e
pairs-half [] e h = omega arith
pairs-half (k ∷ []) e h = absurd (omega arith)
pairs-half (k ∷ l ∷ ls) zero h = absurd (omega arith)
pairs-half (k ∷ l ∷ ls) (suc e) h = ap suc (pairs-half ls e (omega arith))

pub refs-length : (base : ℕ) (refs : List ℕ) (ls : List Link) → length (entry_refs true base refs ls) ≡ pairs_of ls
refs-length base refs [] = refl
refs-length base refs (k ∷ []) = refl
refs-length base refs (k ∷ l ∷ ls) =
    split (same_link k l) (λ e. rw e (ap suc (refs-length base refs ls))) (λ e. rw e (ap suc (refs-length (suc base) refs ls)))

pub nodes-length : (p : ℕ) (refs : List ℕ) (ls : List Link) → length (entry_nodes true p refs ls) ≡ differing ls
nodes-length p refs [] = refl
nodes-length p refs (k ∷ []) = refl
nodes-length p refs (k ∷ l ∷ ls) =
    split (same_link k l) (λ e. rw e (nodes-length p refs ls)) (λ e. rw e (ap suc (nodes-length p refs ls)))

-- the first entry, then the others
level-first : (p below i e : ℕ) (s : Made) → level_made p below i (suc e) s ≡ level_made p below (i + 4) e (entry_made p below i s)
unfolding level_made
level-first p below i zero s = ap (λ x. entry_made p below x s) (add-zero i)
level-first p below i (suc e) s =
    let k : i + 4 * suc e ≡ i + 4 + 4 * e = omega arith in
    ap₂ (entry_made p below) k (level-first p below i e s)

-- what reading a level's links makes of s
pub record LevelRead (p i : ℕ) (refs : List ℕ) (ls : List Link) (s t : Made) : Type 0 where
  pub slots : Slots t.work i (entry_refs true s.next refs ls)
  pub stored : t.cells ≡ sets s.cells (3 * s.next) (numbers_of (entry_nodes true p refs ls))

module _ (p below : ℕ) (refs : List ℕ) where
  -- of an entry whose links are k and l
  module _ (i : ℕ) (s : Made) (k l : Link) (ek : stored_at s.work i ≡ link_number k) (el : stored_at s.work (i + 2) ≡ link_number l) where
    test : eqb (stored_at s.work i) (stored_at s.work (i + 2)) ≡ same_link k l
    test = ap₂ eqb ek el ∙ numbers-same k l

    entry-same : same_link k l ≡ true → entry_made p below i s ≡ passed i (ref_at s.work below (link_number k)) s
    unfolding entry_made
    entry-same e = rw (test ∙ e, ek)

    entry_other : same_link k l ≡ false
        → entry_made p below i s ≡ noded p i (ref_at s.work below (link_number k)) (ref_at s.work below (link_number l)) s
    unfolding entry_made
    entry_other e = rw (test ∙ e, ek, el)

  -- the first entry and the others together: u is what the first makes of s, with its reference `first`
  slots-join : (i first : ℕ) (rs : List ℕ) (u t : Made) (b : ℕ) → stored_at u.work i ≡ first → Outside u.work t.work (i + 4) b
      → Slots t.work (i + 4) rs → Slots t.work i (first ∷ rs)
  slots-join i first rs u t b e o h = (same-stored u.work t.work i (o.under i (omega arith)) (o.under (i + 1) (omega arith)) ∙ e, h)

  -- where the links are read on from u
  links-on : (i : ℕ) (w w' : List ℕ) (ls : List Link) → Outside w w' i (i + 2) → Links w (i + 2 + 2) ls → Links w' (i + 4) ls
  links-on i w w' ls o h =
      let e : i + 2 + 2 ≡ i + 4 = omega arith in
      links-kept w w' (i + 4) ls (λ j a b. o.past j (omega arith)) (subst (λ x. Links w x ls) e h)

  slots-on : (i : ℕ) (w w' : List ℕ) → i + 4 ≤ below → Outside w w' i (i + 2) → Slots w below refs → Slots w' below refs
  slots-on i w w' h o = slots_kept w w' below refs (λ j a. o.past j (omega arith))

  module _ (i : ℕ) (s t : Made) (k l : Link) (ls : List Link) (long : i + 1 < length s.work) where
    abbrev r : ℕ
    r = link_ref refs k

    abbrev q : ℕ
    q = link_ref refs l

    abbrev o : ℕ
    o = reference true s.next (inverts true r)

    -- what the others leave as it was
    abbrev Left : Made → Type 0
    Left u = Outside u.work t.work (i + 4) (i + 4 + 4 * pairs_of ls)

    step_same : same_link k l ≡ true → Left (passed i r s) → LevelRead p (i + 4) refs ls (passed i r s) t → LevelRead p i refs (k ∷ l ∷ ls) s t
    step_same e left rest =
        record {
          slots =
              rw e (slots-join i r (entry_refs true s.next refs ls) (passed i r s) t (i + 4 + 4 * pairs_of ls)
              (stored-put s.work i r long) left rest.slots);
          stored = rw e rest.stored;
        }

    step_other : same_link k l ≡ false → Left (noded p i r q s) → LevelRead p (i + 4) refs ls (noded p i r q s) t
        → LevelRead p i refs (k ∷ l ∷ ls) s t
    step_other e left rest =
        record {
          slots =
              rw e (slots-join i o (entry_refs true (suc s.next) refs ls) (noded p i r q s) t (i + 4 + 4 * pairs_of ls)
              (stored-put s.work i o long) left
              (subst (λ x. Slots t.work (i + 4) (entry_refs true x refs ls)) (add-one s.next) rest.slots));
          stored =
              rw e (rest.stored ∙ ap (λ x. sets (noded p i r q s).cells x (numbers_of (entry_nodes true p refs ls))) (three s.next));
        }
      where
        three : (n : ℕ) → 3 * (n + 1) ≡ suc (suc (suc (3 * n)))
        three n = omega arith

  none : (i : ℕ) (ls : List Link) (s : Made) → ((base : ℕ) → entry_refs true base refs ls ≡ []) → entry_nodes true p refs ls ≡ []
      → LevelRead p i refs ls s (level_made p below i 0 s)
  unfolding level_made
  none i ls s f g = record { slots = rw (f s.next) tt; stored = rw g }

  -- where the entries below stand behind this level's, and have their references
  pub level-read : (ls : List Link) (i : ℕ) (s : Made) → Links s.work i ls → Slots s.work below refs → AllValid true (length refs) ls
      → i + 4 * pairs_of ls ≤ below → i + 4 * pairs_of ls ≤ length s.work → LevelRead p i refs ls s (level_made p below i (pairs_of ls) s)
  level-read [] i s h a v b c = none i [] s (λ base. refl) refl
  level-read (k ∷ []) i s h a v b c = none i (k ∷ []) s (λ base. refl) refl
  level-read (k ∷ l ∷ ls) i s h a v b c =
      let ek = number-ref s.work below refs a k v.0 in
      let el = number-ref s.work below refs a l v.1.0 in
      let on : (u : Made) → Outside s.work u.work i (i + 2) → length u.work ≡ length s.work
      → LevelRead p (i + 4) refs ls u (level_made p below (i + 4) (pairs_of ls) u) =
      λ u o n. level-read ls (i + 4) u (links-on i s.work u.work ls o h.1.1) (slots-on i s.work u.work (omega arith) o a)
      v.1.1
      (omega arith) (omega arith) in
      split (same_link k l)
      (λ e. let u = passed i (link_ref refs k) s in
      let eu : entry_made p below i s ≡ u = entry-same i s k l h.0 h.1.0 e ∙ ap (λ x. passed i x s) ek in
      let t = level_made p below (i + 4) (pairs_of ls) u in
      subst (LevelRead p i refs (k ∷ l ∷ ls) s)
      (sym (level-first p below i (pairs_of ls) s ∙ ap (level_made p below (i + 4) (pairs_of ls)) eu))
      (step_same i s t k l ls (omega arith) e (level-outside p below (i + 4) (pairs_of ls) u)
      (on u (outside-put s.work i (link_ref refs k)) (simp length-set))))
      (λ e. let u = noded p i (link_ref refs k) (link_ref refs l) s in
      let eu : entry_made p below i s ≡ u = entry_other i s k l h.0 h.1.0 e ∙ ap₂ (λ x y. noded p i x y s) ek el in
      let t = level_made p below (i + 4) (pairs_of ls) u in
      subst (LevelRead p i refs (k ∷ l ∷ ls) s)
      (sym (level-first p below i (pairs_of ls) s ∙ ap (level_made p below (i + 4) (pairs_of ls)) eu))
      (step_other i s t k l ls (omega arith) e (level-outside p below (i + 4) (pairs_of ls) u)
      (on u (outside-put s.work i (reference true s.next (inverts true (link_ref refs k)))) (simp length-set))))
