-- Texts written one after the other are the text of both.
-- Assumes nothing.
use mathlib.Core.Path.{◌≡◌, refl, sym, ap, ◌∙◌, subst}
use mathlib.Core.List.{List, [], ◌∷◌, ◌++◌, append_assoc}
use Prim.Native.Nat.{ℕ, suc, ◌+◌, ◌-◌, ◌≤◌, min}
use native.Mathlib.Nat.{add-zero}
use native.Mathlib.Numerals.{add-one}
use native.Mathlib.Omega.{arith}
use lib.Dec.{ltb, ltb→lt, nltb→le}
use lib.ListN.{length, set, length-append, take, drop, take-append-drop, drop_of_length-le}
use lib.Seq.{sets, set_out, length-sets, length-take-le, drop-drop}
use Rattle.std.proofs.lemmas.List.Edits.{sets-eq}
use Rattle.lists.proofs.Bools.{split, to-T, to-not}
use Rattle.text.specs.Text.{in_turn}
use Rattle.text.specs.Written.{Written}

sets-append : {A : Type 0} (l : List A) (i : ℕ) (xs ys : List A) → sets (sets l i xs) (i + length xs) ys ≡ sets l i (xs ++ ys)
sets-append l i [] ys = ap (λ (k : ℕ). sets l k ys) (add-zero i)
sets-append l i (x ∷ xs) ys =
    let e : i + suc (length xs) ≡ suc i + length xs = omega arith in
    ap (λ (k : ℕ). sets (sets (set l i x) (suc i) xs) k ys) e ∙ sets-append (set l i x) (suc i) xs ys

sets-past : {A : Type 0} (l : List A) (i : ℕ) (xs : List A) → length l ≤ i → sets l i xs ≡ l
sets-past l i [] h = refl
sets-past l i (x ∷ xs) h = ap (λ (k : List _). sets k (suc i) xs) (set_out l i x h) ∙ sets-past l (suc i) xs (omega (arith, h))

-- nothing written
pub written-nothing : {l : List ℕ} {i : ℕ} → i ≤ length l → Written l l i i []
written-nothing h = record { content = refl; offset = omega (arith, h) }

-- as much of a text as there is room for, copied
pub written-copied : {l m : List ℕ} {i : ℕ} (text : List ℕ) (n : ℕ) → i ≤ length l → n ≡ min (length text) (length l - i)
    → m ≡ take i l ++ (take n text ++ drop n (drop i l)) → Written l m i (i + n) text
written-copied {l} {m} {i} text n h e q =
    let long : length (take n text) ≡ n = length-take-le n text (omega (arith, e)) in
    let front : sets l i (take n text) ≡ m =
    sets-eq (take n text) l i (omega (arith, e, h, long))
    ∙ append_assoc (take i l) (take n text) (drop (i + length (take n text)) l)
    ∙ ap (λ (k : ℕ). take i l ++ (take n text ++ drop (i + k) l)) long
    ∙ ap (λ (rest : List ℕ). take i l ++ (take n text ++ rest)) (sym (drop-drop n i l)) ∙ sym q in
    let behind : sets (sets l i (take n text)) (i + length (take n text)) (drop n text) ≡ sets l i (take n text) =
    split (ltb n (length text))
    (λ t. let past : length l ≤ i + length (take n text) = omega (arith, e, h, long, ltb→lt n (length text) (to-T t)) in
    sets-past (sets l i (take n text)) (i + length (take n text)) (drop n text) (omega (arith, past, length-sets l i (take n text))))
    (λ t. ap (sets (sets l i (take n text)) (i + length (take n text))) (drop_of_length-le text {i = n} (nltb→le n (length text) (to-not t)))) in
    record {
      content =
          sym front ∙ sym behind ∙ sets-append l i (take n text) (drop n text) ∙ ap (sets l i) (take-append-drop n text);
      offset = omega (arith, e, h);
    }

-- the second text lies behind the first, or both past the end
sets-clipped : (l xs ys : List ℕ) (i j : ℕ) → j ≡ min (i + length xs) (length l) → sets (sets l i xs) j ys ≡ sets l i (xs ++ ys)
sets-clipped l xs ys i j e =
    split (ltb (i + length xs) (length l))
    (λ h. ap (λ (q : ℕ). sets (sets l i xs) q ys) (omega (arith, e, ltb→lt (i + length xs) (length l) (rw h tt))) ∙ sets-append l i xs ys)
    (λ h. let b : length l ≤ i + length xs = nltb→le (i + length xs) (length l) (rw h tt) in
    sets-past (sets l i xs) j ys (omega (arith, e, b, length-sets l i xs))
    ∙ sym (sets-past (sets l i xs) (i + length xs) ys (omega (arith, b, length-sets l i xs))) ∙ sets-append l i xs ys)

pub written_then : {l m n : List ℕ} {i j k : ℕ} {xs ys : List ℕ} → Written l m i j xs → Written m n j k ys → Written l n i k (xs ++ ys)
written_then {l} {m} {n} {i} {j} {k} {xs} {ys} v w =
    let o : length m ≡ length l = ap length v.content ∙ length-sets l i xs in
    record {
      content = w.content ∙ ap (λ (r : List ℕ). sets r j ys) v.content ∙ sets-clipped l xs ys i j v.offset;
      offset = omega (arith, v.offset, w.offset, o, length-append xs ys);
    }

-- a text is known by its bytes
pub written_as : {l m : List ℕ} {i j : ℕ} {xs ys : List ℕ} → xs ≡ ys → Written l m i j xs → Written l m i j ys
written_as {l} {m} {i} {j} e w = subst (λ (t : List ℕ). Written l m i j t) e w

-- texts of a run, one more
pub written-more : {l m n : List ℕ} {i j k : ℕ} (f : ℕ → List ℕ) (p : ℕ) → Written l m i j (in_turn f p) → Written m n j k (f p)
    → Written l n i k (in_turn f (p + 1))
written-more f p u v = written_as (ap (in_turn f) (sym (add-one p))) (written_then u v)
