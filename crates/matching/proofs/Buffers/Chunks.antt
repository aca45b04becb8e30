-- Laws of the parts of a region: s bytes each, one after the other from the front of a list l.
-- Assumes nothing.
use mathlib.Core.Path.{◌≡◌, refl, sym, ap, ap₂, ◌∙◌}
use mathlib.Core.List.{List, [], ◌∷◌, ◌++◌, append_assoc}
use Prim.Native.Nat.{ℕ, zero, suc, ◌+◌, ◌*◌, ◌-◌, ◌<◌}
use native.Mathlib.Nat.{zero-mul}
use native.Mathlib.Numerals.{add-one}
use native.Mathlib.Omega.{arith}
use lib.ListN.{length, take, drop, length-append, take-append-drop}
use lib.Seq.{take-add, drop-drop}
use Rattle.lists.specs.Written.{splice}
use Rattle.lists.proofs.Written.Splice.{put_back}
use Rattle.matching.specs.Parts.{chunks, flat}

pub flat_append : (ps qs : List (List ℕ)) → flat (ps ++ qs) ≡ flat ps ++ flat qs
flat_append [] qs = refl
flat_append (p ∷ ps) qs = ap (λ (y : List ℕ). p ++ y) (flat_append ps qs) ∙ sym (append_assoc p (flat ps) (flat qs))

module _ (s : ℕ) where
  pub length-chunks : (k : ℕ) (l : List ℕ) → length (chunks s k l) ≡ k
  length-chunks zero l = refl
  length-chunks (suc k) l = ap suc (length-chunks k (drop s l))

  pub flat-chunks : (k : ℕ) (l : List ℕ) → flat (chunks s k l) ≡ take (k * s) l
  flat-chunks zero l = ap (λ (n : ℕ). take n l) (sym (zero-mul s))
  flat-chunks (suc k) l =
      let n : s + k * s ≡ suc k * s = omega arith in
      ap (λ (y : List ℕ). take s l ++ y) (flat-chunks k (drop s l))
      ∙ sym (take-add s (k * s) l)
      ∙ ap (λ (y : ℕ). take y l) n

  -- one part more
  pub chunks-more : (k : ℕ) (l : List ℕ) → chunks s (k + 1) l ≡ chunks s k l ++ (take s (drop (k * s) l) ∷ [])
  chunks-more zero l = ap (λ (n : ℕ). take s (drop n l) ∷ []) (sym (zero-mul s))
  chunks-more (suc k) l =
      let m : s + k * s ≡ suc k * s = omega arith in
      ap (λ (n : ℕ). chunks s n l) (add-one (suc k))
      ∙ ap (λ (y : List (List ℕ)). take s l ∷ y) (ap (λ (n : ℕ). chunks s n (drop s l)) (sym (add-one k)) ∙ chunks-more k (drop s l))
      ∙ ap (λ (y : List ℕ). take s l ∷ (chunks s k (drop s l) ++ (take s y ∷ []))) (drop-drop (k * s) s l)
      ∙ ap (λ (n : ℕ). take s l ∷ (chunks s k (drop s l) ++ (take s (drop n l) ∷ []))) m

  -- the parts from part e on
  pub chunks-from : (k e : ℕ) (l : List ℕ) → e < k
      → chunks s (k - e) (drop (e * s) l) ≡ take s (drop (e * s) l) ∷ chunks s (k - (e + 1)) (drop ((e + 1) * s) l)
  chunks-from k e l h =
      let n : k - e ≡ suc (k - (e + 1)) = omega arith in
      let m : e * s + s ≡ (e + 1) * s = omega arith in
      ap (λ (y : ℕ). chunks s y (drop (e * s) l)) n
      ∙ ap (λ (y : List ℕ). take s (drop (e * s) l) ∷ chunks s (k - (e + 1)) y) (drop-drop s (e * s) l ∙ ap (λ (y : ℕ). drop y l) m)

  -- the region where part e, of e + 1 + n, is x
  abbrev pub with_part : ℕ → ℕ → List ℕ → List ℕ → List (List ℕ)
  with_part e n x l = chunks s e l ++ (x ∷ chunks s n (drop ((e + 1) * s) l))

  pub length-with : (e n : ℕ) (x l : List ℕ) → length (with_part e n x l) ≡ e + 1 + n
  length-with e n x l =
      length-append (chunks s e l) (x ∷ chunks s n (drop ((e + 1) * s) l))
      ∙ omega (arith, length-chunks e l, length-chunks n (drop ((e + 1) * s) l))

  pub flat-with : (e n : ℕ) (x l : List ℕ) → length x ≡ s → flat (with_part e n x l) ++ drop ((e + 1 + n) * s) l ≡ splice l (e * s) x
  flat-with e n x l h =
      let m = (e + 1) * s in
      let i : (e + 1 + n) * s ≡ (e + 1) * s + n * s = omega arith in
      let j : (e + 1) * s ≡ e * s + s = omega arith in
      let c : flat (with_part e n x l) ≡ take (e * s) l ++ (x ++ take (n * s) (drop m l)) =
      flat_append (chunks s e l) (x ∷ chunks s n (drop m l))
      ∙ ap₂ (λ (y z : List ℕ). y ++ (x ++ z)) (flat-chunks e l) (flat-chunks n (drop m l)) in
      let d : drop ((e + 1 + n) * s) l ≡ drop (n * s) (drop m l) =
      ap (λ (y : ℕ). drop y l) i ∙ sym (drop-drop (n * s) m l) in
      let r : drop m l ≡ drop s (drop (e * s) l) = ap (λ (y : ℕ). drop y l) j ∙ sym (drop-drop s (e * s) l) in
      ap₂ ◌++◌ c d
      ∙ append_assoc (take (e * s) l) (x ++ take (n * s) (drop m l)) (drop (n * s) (drop m l))
      ∙ ap (λ (y : List ℕ). take (e * s) l ++ y)
      (append_assoc x (take (n * s) (drop m l)) (drop (n * s) (drop m l))
      ∙ ap (λ (y : List ℕ). x ++ y) (take-append-drop (n * s) (drop m l) ∙ r))
      ∙ put_back l (e * s) s x h
