-- Candidates linked after others, and one for both of two.
-- Assumes nothing.
use Rattle.std.proofs.Common.{◌≡◌, sym, ap, ap₂, ◌∙◌, subst, subst₂, Bool, true, false, cond, List, [], ◌∷◌, ◌++◌, ℕ, ◌+◌, ◌*◌, ◌/◌, ◌%◌, ◌≤◌}
use Rattle.std.proofs.Common.{length, drop, length-append, length-drop, arith}
use native.Mathlib.Nat.{mul-le-mul_right}
use Rattle.lists.specs.Written.{splice}
use Rattle.matching.specs.Links.{region_size, link_number}
use Rattle.matching.specs.Parts.{LevelParts, agree_part, united_or, candidate_part, level_parts}
use Rattle.matching.specs.Level.{parts_of, written}
use Rattle.matching.specs.Inner.Linking.{HasRoom, Links}
use Rattle.matching.specs.declared.entries.Entries.{Entries}
use Rattle.matching.proofs.Buffers.Chunks.{length-chunks}
use Rattle.matching.proofs.Buffers.PartLengths.{Long, long-chunks, level-grown}
use Rattle.matching.proofs.Buffers.WrittenLevel.{link-again, level-step}
use Rattle.matching.proofs.Linking.LinkedHalf.{linked-fit}
use Rattle.matching.proofs.Linking.Twice.{level-twice}

-- candidates hs after candidates fs
module _ (w : ℕ) (old one new : Entries) (work m m' : List ℕ) (fs hs : List (List ℕ)) (long : Long (w + w) fs) (long' : Long (w + w) hs)
    (region : old.to + region_size ≤ length work) (room : (old.count + (length fs + length hs)) * (w + w) ≤ region_size)
    (in-work : old.links ≤ length work) (first : Links w fs old one work m) where
  pub linked-on : Links w hs one new m m' → Links w (fs ++ hs) old new work m'
  linked-on second =
      let s = w + w in
      let gs = parts_of w old.count old.to work in
      let among : Long s gs = long-chunks s old.count (drop old.to work) (omega (arith, length-drop old.to work)) in
      let c : (length gs + (length fs + length hs)) * s ≤ region_size =
      subst (λ (y : ℕ). (y + (length fs + length hs)) * s ≤ region_size) (sym (length-chunks s old.count (drop old.to work))) room in
      let t =
      level-step w old.to old.links work old.links_behind in-work gs fs hs among long long' c one.count new.count one.links m m'
      first.count first.work (omega (arith, first.links))
      (second.count ∙ ap (λ (y : ℕ). length (level_parts w (parts_of w one.count y m) hs).parts) first.to)
      (second.work ∙ ap (λ (y : ℕ). written (level_parts w (parts_of w one.count y m) hs) y one.links m) first.to) in
      record {
        to = second.to ∙ first.to;
        count = t.0;
        links = omega (arith, first.links, second.links, length-append fs hs);
        work = t.1;
      }

-- a candidate f, and what comes after it
module _ (w : ℕ) (old one : Entries) (work m f : List ℕ) (room : HasRoom 2 w old work) (long : length f ≡ w + w)
    (first : Links w (f ∷ []) old one work m) where
  pub second-room : length m ≡ length work → HasRoom 1 w one m
  second-room same =
      let s = w + w in
      let gs = parts_of w old.count old.to work in
      let among : Long s gs =
      long-chunks s old.count (drop old.to work) (omega (arith, room, length-drop old.to work)) in
      let r = level-grown w gs (f ∷ []) among (long, tt) in
      let c : one.count + 1 ≤ old.count + 2 = omega (arith, r.2, first.count, length-chunks s old.count (drop old.to work)) in
      record {
        region = omega (arith, first.to, room.region);
        parts = omega (arith, mul-le-mul_right s c, room.parts);
        links = omega (arith, first.links, room.links);
      }

  -- g after it
  pub both-linked : (new : Entries) (m' g : List ℕ) → length g ≡ w + w → Links w (g ∷ []) one new m m' → Links w (f ∷ g ∷ []) old new work m'
  both-linked new m' g long' second =
      linked-on w old one new work m m' (f ∷ []) (g ∷ []) (long, tt) (long', tt) (omega (arith, room.region)) room.parts
      (omega (arith, room.links)) first second

  -- f once more: its link is written again
  pub twice-linked : (number : ℕ) (new : Entries) (m' : List ℕ)
      → number ≡ link_number (candidate_part w f (parts_of w old.count old.to work)).link
      → m' ≡ splice m one.links (number % 256 ∷ number / 256 % 256 ∷ [])
      → new.to ≡ one.to → new.count ≡ one.count → new.links ≡ one.links + 2 → Links w (f ∷ f ∷ []) old new work m'
  unfolding level_parts
  twice-linked number new m' is q to count links =
      let gs = parts_of w old.count old.to work in
      let c = candidate_part w f gs in
      let e = level-twice w gs f [] long in
      let few : old.count + 1 ≤ old.count + 2 = omega arith in
      let fit = linked-fit w old.count old.to f work long (omega (arith, mul-le-mul_right (w + w) few, room.parts)) (omega (arith, room.region)) in
      record {
        to = to ∙ first.to;
        count = count ∙ first.count ∙ ap (λ (y : LevelParts). length y.parts) (sym e);
        links = omega (arith, links, first.links);
        work =
            link-again (w + w) old.to old.links work old.links_behind (omega (arith, room.links)) c.parts c.link m m' fit first.work
            (q ∙ ap₂ (λ (i n : ℕ). splice m i (n % 256 ∷ n / 256 % 256 ∷ [])) first.links is)
            ∙ ap (λ (y : LevelParts). written y old.to old.links work) (sym e);
      }

-- the same of candidates that are equal
pub linked-as : (w : ℕ) (old new : Entries) (work m f f' g g' : List ℕ) → f ≡ f' → g ≡ g' → Links w (f ∷ g ∷ []) old new work m
    → Links w (f' ∷ g' ∷ []) old new work m
linked-as w old new work m f f' g g' p q h = subst₂ (λ (x y : List ℕ). Links w (x ∷ y ∷ []) old new work m) p q h

-- what two halves come to, where low' is low after high was united with it: that one for both where the two agree
pub taken-are : (b : Bool) (w : ℕ) (high low low' : List ℕ) → agree_part false w high low ≡ b → low' ≡ united_or w high low low
    → cond b low' high ≡ united_or w high low high
taken-are true w high low low' t p = p ∙ rw t
taken-are false w high low low' t p = rw t
