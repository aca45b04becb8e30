-- Section 3's level on parts of bytes: what `along`, `candidate` and `level` of the filling come to on the bytes of entries and
-- candidates, whatever the bytes are. A part is w bytes of values and w bytes of care.
-- Assumes nothing.
use Rattle.std.specs.Prelude.{Bool, true, false, cond, List, [], ◌∷◌, ◌++◌, map, ℕ, zero, suc, ◌+◌, ◌*◌, ◌/◌, ◌%◌, ◌^◌, ltb, get_or, take, drop}
use Rattle.std.specs.Int.Bits.{bit_or}
use Rattle.lists.specs.Lists.{all, up_to}
use Rattle.lists.specs.Bits.{digit}
use Rattle.diagram.specs.Filling.Fill.{Link, const, entry}
use Rattle.reorder.specs.Sizes.{width}
use Rattle.matching.specs.Bytes.{always_byte, agree_byte, merge_byte}

-- byte j of a part's values, and of its care
abbrev pub value_byte : List ℕ → ℕ → ℕ
value_byte part j = get_or part j 0

abbrev pub care_byte : ℕ → List ℕ → ℕ → ℕ
care_byte w part j = get_or part (w + j) 0

unfoldable pub always_part : Bool → ℕ → List ℕ → Bool
always_part v w f = all (λ j. always_byte v (value_byte f j) (care_byte w f j)) (up_to w)

unfoldable pub agree_part : Bool → ℕ → List ℕ → List ℕ → Bool
agree_part i w f g = all (λ j. agree_byte i (value_byte f j) (care_byte w f j) (value_byte g j) (care_byte w g j)) (up_to w)

unfoldable pub merge_part : Bool → ℕ → List ℕ → List ℕ → List ℕ
merge_part i w f g =
    map (λ j. merge_byte i (value_byte f j) (care_byte w f j) (value_byte g j)) (up_to w)
    ++ map (λ j. bit_or (care_byte w f j) (care_byte w g j)) (up_to w)

-- what f and g become where they agree, f as it is, wherever both are cared; else x
abbrev pub united_or : ℕ → List ℕ → List ℕ → List ℕ → List ℕ
united_or w f g x = cond (agree_part false w f g) (merge_part false w f g) x

-- the entries' parts after one candidate, and its link
pub record LinkedPart : Type 0 where
  pub parts : List (List ℕ)
  pub link : Link

abbrev pub after_part : List ℕ → LinkedPart → LinkedPart
after_part g p = record { parts = g ∷ p.parts; link = p.link }

unfoldable pub along_parts : ℕ → ℕ → List ℕ → List (List ℕ) → LinkedPart
along_parts w k f [] = record { parts = f ∷ []; link = entry k false }
along_parts w k f (g ∷ gs) =
    cond (agree_part false w f g) (record { parts = merge_part false w f g ∷ gs; link = entry k false })
    (cond (agree_part true w f g) (record { parts = merge_part true w f g ∷ gs; link = entry k true })
    (after_part g (along_parts w (suc k) f gs)))

unfoldable pub candidate_part : ℕ → List ℕ → List (List ℕ) → LinkedPart
candidate_part w f gs =
    cond (always_part false w f) (record { parts = gs; link = const false })
    (cond (always_part true w f) (record { parts = gs; link = const true }) (along_parts w 0 f gs))

-- k parts of s bytes each, from the front of a list
abbrev pub chunks : ℕ → ℕ → List ℕ → List (List ℕ)
chunks s zero l = []
chunks s (suc k) l = take s l ∷ chunks s k (drop s l)

-- parts one after the other
abbrev pub flat : List (List ℕ) → List ℕ
flat [] = []
flat (p ∷ ps) = p ++ flat ps

-- half b of a byte that holds both halves, of 2 ^ d rows each: those of the lowest bits, and those above them
abbrev pub half_byte : Bool → ℕ → ℕ → ℕ
half_byte b d x = x / 2 ^ (digit b * 2 ^ d) % 2 ^ (2 ^ d)

-- the half of a part in which the top variable is b, where the half has d variables: the bytes of that half, or below a byte its bits
abbrev pub half_bytes : Bool → ℕ → ℕ → List ℕ → List ℕ
half_bytes b d w plane = cond (ltb d 3) (half_byte b d (get_or plane 0 0) ∷ []) (take w (drop (digit b * w) plane))

unfoldable pub half_part : Bool → ℕ → List ℕ → List ℕ
half_part b d part =
    half_bytes b d (width d) (take (width (suc d)) part) ++ half_bytes b d (width d) (drop (width (suc d)) part)

-- document 02, 2.6, on bytes: the candidate that half b of a part comes to
unfoldable pub offered_part : Bool → ℕ → List ℕ → List ℕ
offered_part b d part = united_or (width d) (half_part true d part) (half_part false d part) (half_part b d part)

-- two candidates a part, its 0-half's first; where its halves agree both are the one that they become, and placing that twice is
-- placing it once (law `level-twice`)
abbrev pub offered_parts : ℕ → List (List ℕ) → List (List ℕ)
offered_parts d [] = []
offered_parts d (p ∷ ps) = offered_part false d p ∷ offered_part true d p ∷ offered_parts d ps

-- the entries' parts after several candidates, and their links
pub record LevelParts : Type 0 where
  pub parts : List (List ℕ)
  pub links : List Link

unfoldable pub level_parts : ℕ → List (List ℕ) → List (List ℕ) → LevelParts
level_parts w gs [] = record { parts = gs; links = [] }
level_parts w gs (f ∷ fs) =
    record {
      parts = (level_parts w (candidate_part w f gs).parts fs).parts;
      links = (candidate_part w f gs).link ∷ (level_parts w (candidate_part w f gs).parts fs).links;
    }
