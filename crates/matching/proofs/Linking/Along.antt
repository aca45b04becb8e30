-- A candidate f linked among the k entries of a region l: the entries are tried one after the other.
-- Assumes nothing.
use mathlib.Core.Path.{◌≡◌, refl, sym, ap, ap₂, ◌∙◌, subst}
use mathlib.Core.Logic.{◌⊎◌, inl, inr, ⊎_elim}
use mathlib.Core.Bool.{Bool, true, false}
use mathlib.Core.List.{List, [], ◌∷◌, ◌++◌, append_assoc}
use Prim.Native.Nat.{ℕ, zero, suc, ◌+◌, ◌*◌, ◌-◌, ◌<◌}
use native.Mathlib.Nat.{zero-mul, sub-zero}
use native.Mathlib.Numerals.{add-one}
use native.Mathlib.Omega.{arith}
use lib.ListN.{length, take, drop, take-append-drop}
use Rattle.lists.specs.Bits.{digit}
use Rattle.lists.specs.Written.{splice}
use Rattle.lists.proofs.Bools.{split}
use Rattle.lists.proofs.Written.Splice.{put_back}
use Rattle.diagram.specs.Filling.Fill.{const, entry}
use Rattle.matching.specs.Parts.{LinkedPart, after_part, agree_part, merge_part, along_parts, candidate_part, chunks, flat}
use Rattle.matching.specs.Links.{link_number}
use Rattle.matching.specs.Inner.Found.{constant, found}
use Rattle.matching.specs.Inner.Linking.{LinksTo}
use Rattle.matching.specs.declared.candidate.Linked.{Linked}
use Rattle.std.proofs.Common.{Some, None}
use Rattle.std.specs.Int.{from_bool}
use Rattle.matching.proofs.Parts.PartMerge.{length-merge}
use Rattle.matching.proofs.Buffers.Chunks.{length-chunks, flat-chunks, chunks-more, chunks-from, with_part, length-with, flat-with}
use Rattle.matching.proofs.Linking.First.{First, Constant, plain-first, inverted-first, found_first, found-pass, found-last}
use Rattle.matching.proofs.Linking.First.{is_constant, no-constant}

-- one entry of several: f is merged into it, or it is passed
pub along-first : (i : Bool) (w e : ℕ) (f g : List ℕ) (gs : List (List ℕ)) → First i w f g
    → along_parts w e f (g ∷ gs) ≡ record { parts = merge_part i w f g ∷ gs; link = entry e i }
unfolding along_parts
along-first false w e f g gs h = let t = h.1 in rw t
along-first true w e f g gs h = let s = h.0 refl in let t = h.1 in rw (s, t)

pub along-pass : (w e : ℕ) (f g : List ℕ) (gs : List (List ℕ)) → agree_part false w f g ≡ false → agree_part true w f g ≡ false
    → along_parts w e f (g ∷ gs) ≡ after_part g (along_parts w (suc e) f gs)
unfolding along_parts
along-pass w e f g gs p q = rw (p, q)

along-last : (w e : ℕ) (f : List ℕ) → along_parts w e f [] ≡ record { parts = f ∷ []; link = entry e false }
unfolding along_parts
along-last w e f = refl

-- f is constant
candidate-constant : (v : Bool) (w : ℕ) (f : List ℕ) (gs : List (List ℕ)) → Constant v w f
    → candidate_part w f gs ≡ record { parts = gs; link = const v }
unfolding candidate_part
candidate-constant false w f gs h = let t = h.1 in rw t
candidate-constant true w f gs h = let s = h.0 refl in let t = h.1 in rw (s, t)

-- entries put before those that a candidate is linked among
abbrev ahead : List (List ℕ) → LinkedPart → LinkedPart
ahead gs p = record { parts = gs ++ p.parts; link = p.link }

-- entry e is x now
linked-at : (w : ℕ) (l : List ℕ) (p : LinkedPart) (e n : ℕ) (x : List ℕ) (i : Bool) → length x ≡ w + w
    → p ≡ record { parts = with_part (w + w) e n x l; link = entry e i }
    → LinksTo w p l (record { entries = e + 1 + n; link = link_number (entry e i) }) (splice l (e * (w + w)) x)
linked-at w l p e n x i h q =
    let s = w + w in
    subst
    (λ (y : LinkedPart). LinksTo w y l (record { entries = e + 1 + n; link = link_number (entry e i) }) (splice l (e * s) x)) (sym q)
    (record {
      entries = sym (length-with s e n x l);
      link = refl;
      region = sym (flat-with s e n x l h) ∙ ap (λ (y : ℕ). flat (with_part s e n x l) ++ drop (y * s) l) (sym (length-with s e n x l));
    })

-- the parts as they were
linked-const : (w : ℕ) (l : List ℕ) (p : LinkedPart) (k : ℕ) (v : Bool) → p ≡ record { parts = chunks (w + w) k l; link = const v }
    → LinksTo w p l (record { entries = k; link = digit v }) l
linked-const w l p k v q =
    let s = w + w in
    subst (λ (y : LinkedPart). LinksTo w y l (record { entries = k; link = digit v }) l) (sym q)
    (record {
      entries = sym (length-chunks s k l);
      link = refl;
      region = sym (ap₂ (λ (y : List ℕ) (n : ℕ). y ++ drop (n * s) l) (flat-chunks s k l) (length-chunks s k l) ∙ take-append-drop (k * s) l);
    })

-- the part of entry e
abbrev pub part_on : ℕ → List ℕ → ℕ → List ℕ
part_on w l e = take (w + w) (drop (e * (w + w)) l)

-- it was lent, as n bytes at a, and is back merged
pub merged-back : (i : Bool) (w e a n : ℕ) (f l x : List ℕ) → a ≡ e * (w + w) → n ≡ w + w → x ≡ merge_part i w f (take n (drop a l))
    → take a l ++ (x ++ drop n (drop a l)) ≡ splice l (e * (w + w)) (merge_part i w f (part_on w l e))
merged-back i w e a n f l x at same m =
    let q : x ≡ merge_part i w f (part_on w l e) = m ∙ ap₂ (λ (y z : ℕ). merge_part i w f (take y (drop z l))) same at in
    put_back l a n x (ap length q ∙ length-merge i w f (part_on w l e) ∙ sym same) ∙ ap₂ (splice l) at q

-- what linking comes to, in other words
pub reworded : (w : ℕ) (p : LinkedPart) (l : List ℕ) (r r' : Linked) (x x' : List ℕ) → r'.entries ≡ r.entries → r'.link ≡ r.link → x' ≡ x
    → LinksTo w p l r x → LinksTo w p l r' x'
reworded w p l r r' x x' a b e t = record { entries = a ∙ t.entries; link = b ∙ t.link; region = e ∙ t.region }

pub bool-digit : (b : Bool) → from_bool b ≡ digit b
bool-digit true = refl
bool-digit false = refl

module _ (w : ℕ) (f l : List ℕ) (k : ℕ) where
  -- the parts from entry e on
  abbrev parts_on : ℕ → List (List ℕ)
  parts_on e = chunks (w + w) (k - e) (drop (e * (w + w)) l)

  -- the entries before e are passed
  pub record Passed (e : ℕ) : Type 0 where
    pub linked : along_parts w 0 f (chunks (w + w) k l) ≡ ahead (chunks (w + w) e l) (along_parts w e f (parts_on e))
    pub found : found w 0 f (chunks (w + w) k l) ≡ found w e f (parts_on e)

  pub passed_none : Passed 0
  passed_none =
      let c : chunks (w + w) k l ≡ parts_on 0 =
      ap₂ (λ (n m : ℕ). chunks (w + w) n (drop m l)) (sym (sub-zero k)) (sym (zero-mul (w + w))) in
      record { linked = ap (along_parts w 0 f) c; found = ap (found w 0 f) c }

  pub passed-more : (e : ℕ) → e < k → Passed e → agree_part false w f (part_on w l e) ≡ false → agree_part true w f (part_on w l e) ≡ false
      → Passed (e + 1)
  passed-more e h p a b =
      let s = w + w in
      let g = part_on w l e in
      let r = parts_on (e + 1) in
      record {
        linked =
            p.linked
            ∙ ap (λ (y : List (List ℕ)). ahead (chunks s e l) (along_parts w e f y)) (chunks-from s k e l h)
            ∙ ap (ahead (chunks s e l)) (along-pass w e f g r a b)
            ∙ ap (λ (y : ℕ). ahead (chunks s e l) (after_part g (along_parts w y f r))) (sym (add-one e))
            ∙ ap (λ (y : List (List ℕ)). record { parts = y; link = (along_parts w (e + 1) f r).link })
            (sym (append_assoc (chunks s e l) (g ∷ []) (along_parts w (e + 1) f r).parts))
            ∙ ap (λ (y : List (List ℕ)). ahead y (along_parts w (e + 1) f r)) (sym (chunks-more s e l));
        found =
            p.found ∙ ap (found w e f) (chunks-from s k e l h) ∙ found-pass w e f g r a b
            ∙ ap (λ (y : ℕ). found w y f r) (sym (add-one e));
      }

  -- entry e takes f
  pub passed-found : (i : Bool) (e : ℕ) → e < k → Passed e → First i w f (part_on w l e) → found w 0 f (chunks (w + w) k l) ≡ Some (e, i)
  passed-found i e h p a =
      p.found ∙ ap (found w e f) (chunks-from (w + w) k e l h) ∙ found_first i w e f (part_on w l e) (parts_on (e + 1)) a

  -- no entry takes it
  pub passed-end : Passed k → found w 0 f (chunks (w + w) k l) ≡ None
  passed-end p =
      let z : k - k ≡ 0 = omega arith in
      p.found ∙ ap (λ (y : ℕ). found w k f (chunks (w + w) y (drop (k * (w + w)) l))) z ∙ found-last w k f

  -- what the search says: where it ends
  pub record Met (e : ℕ) (i : Bool) : Type 0 where
    pub below : e < k
    pub passed : Passed e
    pub first : First i w f (part_on w l e)

  ends : (n e : ℕ) → e + n ≡ k → Passed e → ((at : ℕ) × (i : Bool) × Met at i) ⊎ Passed k
  ends zero e h p = let q : e ≡ k = omega arith in inr (subst Passed q p)
  ends (suc n) e h p =
      let b : e < k = omega arith in
      split (agree_part false w f (part_on w l e))
      (λ t. inl (e, false, record { below = b; passed = p; first = plain-first w f (part_on w l e) t }))
      (λ t. split (agree_part true w f (part_on w l e))
      (λ u. inl (e, true, record { below = b; passed = p; first = inverted-first w f (part_on w l e) t u }))
      (λ u. ends n (e + 1) (omega arith) (passed-more e b p t u)))

  pub found-met : (e : ℕ) (i : Bool) → found w 0 f (chunks (w + w) k l) ≡ Some (e, i) → Met e i
  found-met e i q =
      ⊎_elim
      (λ (m : (at : ℕ) × (i : Bool) × Met at i).
      let r : Some (m.0, m.1) ≡ Some (e, i) = sym (passed-found m.1 m.0 m.2.below m.2.passed m.2.first) ∙ q in
      let pair : (m.0, m.1) ≡ (e, i) = cc in
      let r0 : m.0 ≡ e = ap (λ (p : ℕ × Bool). p.0) pair in
      let r1 : m.1 ≡ i = ap (λ (p : ℕ × Bool). p.1) pair in
      subst (λ (y : Bool). Met e y) r1 (subst (λ (y : ℕ). Met y m.1) r0 m.2))
      (λ (p : Passed k). let r : None ≡ Some (e, i) = sym (passed-end p) ∙ q in absurd (cc)) (ends k 0 (omega arith) passed_none)

  pub found-none : found w 0 f (chunks (w + w) k l) ≡ None → Passed k
  found-none q =
      ⊎_elim
      (λ (m : (at : ℕ) × (i : Bool) × Met at i).
      let r : Some (m.0, m.1) ≡ None = sym (passed-found m.1 m.0 m.2.below m.2.passed m.2.first) ∙ q in absurd (cc))
      (λ (p : Passed k). p) (ends k 0 (omega arith) passed_none)

  -- f is merged into entry e
  pub linked-merged : (e : ℕ) (i : Bool) → Met e i
      → LinksTo w (along_parts w 0 f (chunks (w + w) k l)) l (record { entries = k; link = link_number (entry e i) })
      (splice l (e * (w + w)) (merge_part i w f (part_on w l e)))
  linked-merged e i m =
      let s = w + w in
      let g = part_on w l e in
      let n = k - (e + 1) in
      let h = m.below in
      let c : e + 1 + n ≡ k = omega arith in
      let q : along_parts w 0 f (chunks s k l) ≡ record { parts = with_part s e n (merge_part i w f g) l; link = entry e i } =
      m.passed.linked
      ∙ ap (λ (y : List (List ℕ)). ahead (chunks s e l) (along_parts w e f y)) (chunks-from s k e l h)
      ∙ ap (ahead (chunks s e l)) (along-first i w e f g (parts_on (e + 1)) m.first) in
      subst
      (λ (y : ℕ). LinksTo w (along_parts w 0 f (chunks s k l)) l (record { entries = y; link = link_number (entry e i) })
      (splice l (e * s) (merge_part i w f g)))
      c (linked-at w l (along_parts w 0 f (chunks s k l)) e n (merge_part i w f g) i (length-merge i w f g) q)

  -- f goes behind them all
  pub linked-new : length f ≡ w + w → Passed k
      → LinksTo w (along_parts w 0 f (chunks (w + w) k l)) l (record { entries = k + 1; link = link_number (entry k false) })
      (splice l (k * (w + w)) f)
  linked-new h p =
      let s = w + w in
      let z : k - k ≡ 0 = omega arith in
      let c : k + 1 + 0 ≡ k + 1 = omega arith in
      let q : along_parts w 0 f (chunks s k l) ≡ record { parts = with_part s k 0 f l; link = entry k false } =
      p.linked
      ∙ ap (λ (y : ℕ). ahead (chunks s k l) (along_parts w k f (chunks s y (drop (k * s) l)))) z
      ∙ ap (ahead (chunks s k l)) (along-last w k f) in
      subst
      (λ (y : ℕ). LinksTo w (along_parts w 0 f (chunks s k l)) l (record { entries = y; link = link_number (entry k false) })
      (splice l (k * s) f))
      c (linked-at w l (along_parts w 0 f (chunks s k l)) k 0 f false h q)

  -- f is constant
  pub linked-always : (v : Bool) → constant w f ≡ Some v
      → LinksTo w (candidate_part w f (chunks (w + w) k l)) l (record { entries = k; link = digit v }) l
  linked-always v h =
      linked-const w l (candidate_part w f (chunks (w + w) k l)) k v
      (candidate-constant v w f (chunks (w + w) k l) (is_constant w f v h))

  -- it isn't
  pub linked-along : (r : Linked) (x : List ℕ) → constant w f ≡ None → LinksTo w (along_parts w 0 f (chunks (w + w) k l)) l r x
      → LinksTo w (candidate_part w f (chunks (w + w) k l)) l r x
  unfolding candidate_part
  linked-along r x h t = let p = no-constant w f h in let a = p.0 in let b = p.1 in rw (a, b) t
