-- Laws of the levels below some entries: one level of them, their links and their bytes, and the room they have.
-- Assumes nothing.
use mathlib.Core.Path.{◌≡◌, refl, ap, ◌∙◌}
use mathlib.Core.List.{List, [], ◌∷◌, ◌++◌}
use Prim.Native.Nat.{ℕ, zero, suc, ◌+◌, ◌*◌, ◌≤◌}
use native.Mathlib.Nat.{suc-ne-zero, mul-le-mul_right}
use native.Mathlib.Omega.{arith}
use lib.Dec.{T, leb, leb→le, eqb→eq}
use lib.ListN.{length, length-append}
use Rattle.lists.proofs.Bools.{and_l, and_r}
use Rattle.reorder.specs.Sizes.{width}
use Rattle.matching.specs.Parts.{offered_parts}
use Rattle.matching.specs.Links.{region_size, link_bytes}
use Rattle.fill.specs.Work.{all_links}
use Rattle.fill.specs.Inner.Descent.{level_below, links_below, counts_below, roomy}
use Rattle.matching.proofs.Buffers.PartLengths.{Long, level-grown, level-links, links-append, long-offered, count-offered}
use Rattle.matching.proofs.Buffers.WrittenLevel.{Fit}

pub links-suc : (d : ℕ) (parts : List (List ℕ))
    → links_below (suc d) parts ≡ (level_below d parts).links ∷ links_below d (level_below d parts).parts
unfolding links_below
links-suc d parts = refl

pub counts-suc : (d : ℕ) (parts : List (List ℕ)) → counts_below (suc d) parts ≡ length parts ∷ counts_below d (level_below d parts).parts
unfolding counts_below
counts-suc d parts = refl

pub joined-suc : (d : ℕ) (parts : List (List ℕ))
    → all_links (links_below (suc d) parts) ≡ (level_below d parts).links ++ all_links (links_below d (level_below d parts).parts)
joined-suc d parts = ap all_links (links-suc d parts)

pub record Room (d : ℕ) (parts : List (List ℕ)) : Type 0 where
  pub here : length parts * (width (suc d) + width (suc d)) ≤ region_size
  pub next : (length parts + length parts) * (width d + width d) ≤ region_size
  pub below : T (roomy d (level_below d parts).parts)

pub room-suc : (d : ℕ) (parts : List (List ℕ)) → T (roomy (suc d) parts) → Room d parts
unfolding roomy
room-suc d parts t =
    let a = leb (length parts * (width (suc d) + width (suc d))) region_size in
    let b = leb ((length parts + length parts) * (width d + width d)) region_size in
    let c = roomy d (level_below d parts).parts in
    let r = and_r a _ t in
    record {
      here = leb→le (length parts * (width (suc d) + width (suc d))) region_size (and_l a _ t);
      next = leb→le ((length parts + length parts) * (width d + width d)) region_size (and_l b c r);
      below = and_r b c r;
    }

pub none_left : (parts : List (List ℕ)) → T (roomy zero parts) → parts ≡ []
unfolding roomy
none_left [] t = refl
none_left (p ∷ parts) t = let e : suc (length parts) ≡ 0 = eqb→eq (suc (length parts)) 0 t in absurd (suc-ne-zero (length parts) e)

-- the first entries fit their region
pub room-first : (d : ℕ) (parts : List (List ℕ)) → T (roomy d parts) → length parts * (width d + width d) ≤ region_size
room-first zero parts t = let e : length parts ≡ 0 = ap length (none_left parts t) in omega arith
room-first (suc d) parts t = (room-suc d parts t).here

pub links-two : (d : ℕ) (parts : List (List ℕ)) → length (level_below d parts).links ≡ length parts + length parts
links-two d parts = level-links (width d) [] (offered_parts d parts) ∙ count-offered d parts

pub links-length : (d : ℕ) (parts : List (List ℕ))
    → length (all_links (links_below (suc d) parts))
    ≡ (length parts + length parts) + length (all_links (links_below d (level_below d parts).parts))
links-length d parts =
    let l = level_below d parts in
    ap length (joined-suc d parts) ∙ length-append l.links (all_links (links_below d l.parts))
    ∙ ap (λ (y : ℕ). y + length (all_links (links_below d l.parts))) (links-two d parts)

pub bytes-suc : (d : ℕ) (parts : List (List ℕ))
    → link_bytes (all_links (links_below (suc d) parts))
    ≡ link_bytes (level_below d parts).links ++ link_bytes (all_links (links_below d (level_below d parts).parts))
bytes-suc d parts = ap link_bytes (joined-suc d parts) ∙ links-append (level_below d parts).links
    (all_links (links_below d (level_below d parts).parts))

-- the next level's entries, of which there are at most two each
pub level-fits : (d : ℕ) (parts : List (List ℕ)) → Long (width (suc d) + width (suc d)) parts → Room d parts
    → Fit (width d + width d) (level_below d parts).parts
level-fits d parts h r =
    let t = level-grown (width d) [] (offered_parts d parts) tt (long-offered d parts h) in
    let c : length (level_below d parts).parts ≤ length parts + length parts = omega (arith, t.2, count-offered d parts) in
    (t.0, omega (arith, mul-le-mul_right (width d + width d) c, r.next))
