-- How long parts are, and how many: of regions, of candidates linked and of levels.
-- Assumes nothing.
use mathlib.Core.Path.{◌≡◌, refl, sym, ap, ap₂, ◌∙◌}
use mathlib.Core.Bool.{Bool, true, false}
use mathlib.Core.List.{List, [], ◌∷◌, ◌++◌, append_assoc}
use Prim.Native.Nat.{ℕ, zero, suc, ◌+◌, ◌*◌, ◌-◌, ◌/◌, ◌%◌, ◌≤◌, zero-le}
use native.Mathlib.Nat.{zero-mul, suc-mul, le_refl}
use native.Mathlib.Omega.{arith}
use lib.ListN.{length, take, drop, length-append, length-drop}
use lib.Seq.{length-take-le, take_at, drop_at, take-take}
use Rattle.lists.proofs.Bools.{split}
use Rattle.lists.proofs.Written.Splice.{drop-take}
use Rattle.diagram.specs.Filling.Fill.{Link}
use Rattle.reorder.specs.Sizes.{width}
use Rattle.matching.specs.Parts.{LevelParts, always_part, agree_part, along_parts, candidate_part, level_parts, chunks, flat, half_part}
use Rattle.matching.specs.Parts.{united_or, offered_part, offered_parts}
use Rattle.matching.specs.Links.{link_number, link_bytes}
use Rattle.matching.proofs.Parts.PartMerge.{length-merge}
use Rattle.matching.proofs.Parts.PartHalves.{length-half}

-- each part has s bytes
abbrev pub Long : ℕ → List (List ℕ) → Type 0
Long s [] = Unit {0}
Long s (g ∷ gs) = (length g ≡ s) × Long s gs

-- parts of a region

pub long-chunks : (s k : ℕ) (l : List ℕ) → k * s ≤ length l → Long s (chunks s k l)
long-chunks s zero l h = tt
long-chunks s (suc k) l h =
    (length-take-le s l (omega (arith, suc-mul k s)), long-chunks s k (drop s l) (omega (arith, suc-mul k s, length-drop s l)))

pub length-flat : (s : ℕ) (gs : List (List ℕ)) → Long s gs → length (flat gs) ≡ length gs * s
length-flat s [] h = sym (zero-mul s)
length-flat s (g ∷ gs) h = length-append g (flat gs) ∙ omega (arith, h.0, length-flat s gs h.1, suc-mul (length gs) s)

pub chunks-flat : (s : ℕ) (gs : List (List ℕ)) (r : List ℕ) → Long s gs → chunks s (length gs) (flat gs ++ r) ≡ gs
chunks-flat s [] r h = refl
chunks-flat s (g ∷ gs) r h =
    let e = append_assoc g (flat gs) r in
    ap₂ (λ (x : List ℕ) (y : List (List ℕ)). x ∷ y)
    (ap (take s) e ∙ take_at g (flat gs ++ r) s h.0)
    (ap (λ (y : List ℕ). chunks s (length gs) y) (ap (drop s) e ∙ drop_at g (flat gs ++ r) s h.0) ∙ chunks-flat s gs r h.1)

-- parts that lie in the first n bytes
pub chunks-take : (s k n : ℕ) (l : List ℕ) → k * s ≤ n → chunks s k (take n l) ≡ chunks s k l
chunks-take s zero n l h = refl
chunks-take s (suc k) n l h =
    let m : n ≡ s + (n - s) = omega (arith, suc-mul k s) in
    ap₂ (λ (x : List ℕ) (y : List (List ℕ)). x ∷ y)
    (take-take s n l (omega (arith, suc-mul k s)))
    (ap (chunks s k) (ap (λ (y : ℕ). drop s (take y l)) m ∙ drop-take s (n - s) l)
    ∙ chunks-take s k (n - s) (drop s l) (omega (arith, suc-mul k s)))

-- ps has gs's entries and at most n more, each of s bytes
abbrev pub Grown : ℕ → ℕ → List (List ℕ) → List (List ℕ) → Type 0
Grown s n gs ps = Long s ps × (length gs ≤ length ps) × (length ps ≤ length gs + n)

along-grown : (w e : ℕ) (f : List ℕ) (gs : List (List ℕ)) → length f ≡ w + w → Long (w + w) gs
    → Grown (w + w) 1 gs (along_parts w e f gs).parts
unfolding along_parts
along-grown w e f [] h l = ((h, tt), zero-le, le_refl 1)
along-grown w e f (g ∷ gs) h l =
    split (agree_part false w f g) (λ p. rw p ((length-merge false w f g, l.1), omega arith, omega arith))
    (λ p. split (agree_part true w f g) (λ q. rw (p, q) ((length-merge true w f g, l.1), omega arith, omega arith))
    (λ q. let r = along-grown w (suc e) f gs h l.1 in rw (p, q) ((l.0, r.0), omega arith, omega arith)))

pub candidate-grown : (w : ℕ) (f : List ℕ) (gs : List (List ℕ)) → length f ≡ w + w → Long (w + w) gs
    → Grown (w + w) 1 gs (candidate_part w f gs).parts
unfolding candidate_part
candidate-grown w f gs h l =
    split (always_part false w f) (λ p. rw p (l, omega arith, omega arith))
    (λ p. split (always_part true w f) (λ q. rw (p, q) (l, omega arith, omega arith)) (λ q. rw (p, q) (along-grown w 0 f gs h l)))

pub level-grown : (w : ℕ) (gs fs : List (List ℕ)) → Long (w + w) gs → Long (w + w) fs
    → Grown (w + w) (length fs) gs (level_parts w gs fs).parts
unfolding level_parts
level-grown w gs [] l m = (l, omega arith, omega arith)
level-grown w gs (f ∷ fs) l m =
    let c = candidate-grown w f gs m.0 l in
    let r = level-grown w (candidate_part w f gs).parts fs c.0 m.1 in
    (r.0, omega arith, omega arith)

-- a link for each candidate, of two bytes
pub level-links : (w : ℕ) (gs fs : List (List ℕ)) → length (level_parts w gs fs).links ≡ length fs
unfolding level_parts
level-links w gs [] = refl
level-links w gs (f ∷ fs) = ap suc (level-links w (candidate_part w f gs).parts fs)

pub length-links : (ks : List Link) → length (link_bytes ks) ≡ 2 * length ks
length-links [] = refl
length-links (k ∷ ks) = omega (arith, length-links ks)

pub links-append : (ks ls : List Link) → link_bytes (ks ++ ls) ≡ link_bytes ks ++ link_bytes ls
links-append [] ls = refl
links-append (k ∷ ks) ls = ap (λ (y : List ℕ). link_number k % 256 ∷ link_number k / 256 % 256 ∷ y) (links-append ks ls)

-- several candidates after others
pub level-append : (w : ℕ) (gs fs hs : List (List ℕ))
    → level_parts w gs (fs ++ hs)
    ≡ record {
      parts = (level_parts w (level_parts w gs fs).parts hs).parts;
      links = (level_parts w gs fs).links ++ (level_parts w (level_parts w gs fs).parts hs).links;
    }
unfolding level_parts
level-append w gs [] hs = refl
level-append w gs (f ∷ fs) hs =
    let c = candidate_part w f gs in
    let e = level-append w c.parts fs hs in
    ap (λ (y : LevelParts). record { parts = y.parts; links = c.link ∷ y.links }) e

-- what halves come to

length-united : (w : ℕ) (f g x : List ℕ) → length x ≡ w + w → length (united_or w f g x) ≡ w + w
length-united w f g x h = split (agree_part false w f g) (λ e. rw e (length-merge false w f g)) (λ e. rw e h)

pub offered-is : (b : Bool) (d : ℕ) (p high low x : List ℕ) → high ≡ half_part true d p → low ≡ half_part false d p → x ≡ half_part b d p
    → united_or (width d) high low x ≡ offered_part b d p
unfolding offered_part
offered-is b d p high low x h l e = rw (h, l, e)

length-offered : (b : Bool) (d : ℕ) (p : List ℕ) → length p ≡ width (suc d) + width (suc d) → length (offered_part b d p) ≡ width d + width d
length-offered b d p h =
    ap length (sym (offered-is b d p _ _ _ refl refl refl))
    ∙ length-united (width d) (half_part true d p) (half_part false d p) (half_part b d p) (length-half b d p h)

pub long-offered : (d : ℕ) (ps : List (List ℕ)) → Long (width (suc d) + width (suc d)) ps → Long (width d + width d) (offered_parts d ps)
long-offered d [] h = tt
long-offered d (p ∷ ps) h = (length-offered false d p h.0, (length-offered true d p h.0, long-offered d ps h.1))

pub count-offered : (d : ℕ) (ps : List (List ℕ)) → length (offered_parts d ps) ≡ length ps + length ps
count-offered d [] = refl
count-offered d (p ∷ ps) = omega (arith, count-offered d ps)

pub offered-append : (d : ℕ) (ps qs : List (List ℕ)) → offered_parts d (ps ++ qs) ≡ offered_parts d ps ++ offered_parts d qs
offered-append d [] qs = refl
offered-append d (p ∷ ps) qs = ap (λ (y : List (List ℕ)). offered_part false d p ∷ offered_part true d p ∷ y) (offered-append d ps qs)
