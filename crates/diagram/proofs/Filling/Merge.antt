-- Laws of agreeing and merging: a merge carries the cared rows of both its parts, conflicts stay conflicts, and merging again changes
-- nothing.
-- Assumes nothing.
use mathlib.Core.Path.{◌≡◌, refl, sym, ap₂, ◌∙◌}
use mathlib.Core.Bool.{Bool, true, false, not, cond, beq, ◌&&◌, ◌||◌, and_comm}
use Prim.Native.Nat.{ℕ}
use lib.Dec.{T}
use Rattle.lists.specs.Bits.{flip}
use Rattle.lists.proofs.Bools.{split, of_T, to-T, absurd-T, and_T, and_l, and_r, or_l, or_r, beq→eq, beq-refl}
use Rattle.diagram.specs.Tree.{Tree, leaf, node}
use Rattle.diagram.specs.Filling.Fill.{Row, always, agree, merge}

-- the test that `always` and `agree` put to a row, as a type: where c, two values are one
pub where_to : (c x y : Bool) → T (not c || beq x y) → T c → x ≡ y
where_to true x y t s = beq→eq x y t
where_to false x y t s = absurd s

pub where-of : (c x y : Bool) → (T c → x ≡ y) → T (not c || beq x y)
where-of true x y f = rw (f tt) (beq-refl y)
where-of false x y f = tt

-- f's cared rows stand in e: cared, and with f's value, inverted where i is true
abbrev pub Within : {d : ℕ} → Bool → Tree Row d → Tree Row d → Type 0
Within i (leaf r) (leaf s) = T r.care → T s.care × (s.value ≡ flip i r.value)
Within i (node l h) (node l' h') = Within i l l' × Within i h h'

pub within-refl : {d : ℕ} (f : Tree Row d) → Within false f f
within-refl (leaf r) = λ c. (c, refl)
within-refl (node l h) = (within-refl l, within-refl h)

pub within-trans : {d : ℕ} (i : Bool) (f g e : Tree Row d) → Within i f g → Within false g e → Within i f e
within-trans i (leaf r) (leaf s) (leaf u) m n = λ c. ((n (m c).0).0, (n (m c).0).1 ∙ (m c).1)
within-trans i (node l h) (node l' h') (node l'' h'') m n = (within-trans i l l' l'' m.0 n.0, within-trans i h h' h'' m.1 n.1)

cond-true : (c x y : Bool) → T c → cond c x y ≡ x
cond-true true x y t = refl
cond-true false x y t = absurd t

cond_both : (c x y : Bool) → (T c → x ≡ y) → cond c x y ≡ y
cond_both true x y f = f tt
cond_both false x y f = refl

-- the candidate's rows stand in the merge as compared, and the entry's as they were
pub merge-first : {d : ℕ} (i : Bool) (f g : Tree Row d) → Within i f (merge i f g)
merge-first i (leaf r) (leaf s) = λ c. (or_l r.care s.care c, cond-true r.care (flip i r.value) s.value c)
merge-first i (node l h) (node l' h') = (merge-first i l l', merge-first i h h')

pub merge-second : {d : ℕ} (i : Bool) (f g : Tree Row d) → T (agree i f g) → Within false g (merge i f g)
merge-second i (leaf r) (leaf s) t =
    λ c. (
      or_r r.care s.care c,
      cond_both r.care (flip i r.value) s.value
          (λ b. where_to (r.care && s.care) (flip i r.value) s.value t (and_T r.care s.care b c)),
    )
merge-second i (node l h) (node l' h') t =
    (merge-second i l l' (and_l (agree i l l') (agree i h h') t), merge-second i h h' (and_r (agree i l l') (agree i h h') t))

-- where f's rows stand in e, the two agree as compared and their merge is e; they agree plain and inverted only where f has no cared row

or-both : (a b : Bool) → (T a → T b) → (a || b) ≡ b
or-both true b f = sym (of_T (f tt))
or-both false b f = refl

opposed : (b : Bool) → b ≡ not b → ⊥
opposed true e = absurd-T tt e
opposed false e = absurd-T tt (sym e)

pub within-agree : {d : ℕ} (i : Bool) (f e : Tree Row d) → Within i f e → T (agree i f e)
within-agree i (leaf r) (leaf s) m =
    where-of (r.care && s.care) (flip i r.value) s.value (λ b. sym (m (and_l r.care s.care b)).1)
within-agree i (node l h) (node l' h') m =
    and_T (agree i l l') (agree i h h') (within-agree i l l' m.0) (within-agree i h h' m.1)

pub within-merge : {d : ℕ} (i : Bool) (f e : Tree Row d) → Within i f e → merge i f e ≡ e
within-merge i (leaf r) (leaf s) m =
    ap₂ (λ v c. leaf (record { value = v; care = c })) (cond_both r.care (flip i r.value) s.value (λ c. sym (m c).1))
    (or-both r.care s.care (λ c. (m c).0))
within-merge i (node l h) (node l' h') m = ap₂ node (within-merge i l l' m.0) (within-merge i h h' m.1)

pub within-opposed : {d : ℕ} (v : Bool) (f e : Tree Row d) → Within true f e → T (agree false f e) → T (always v f)
within-opposed v (leaf r) (leaf s) m t =
    where-of r.care r.value v (λ c. absurd (opposed r.value
    (where_to (r.care && s.care) r.value s.value t (and_T r.care s.care c (m c).0) ∙ (m c).1)))
within-opposed v (node l h) (node l' h') m t =
    and_T (always v l) (always v h) (within-opposed v l l' m.0 (and_l (agree false l l') (agree false h h') t))
    (within-opposed v h h' m.1 (and_r (agree false l l') (agree false h h') t))

-- what agrees with e, or is a constant, does so on the rows that e has from g

pub agree-within : {d : ℕ} (j : Bool) (x g e : Tree Row d) → Within false g e → T (agree j x e) → T (agree j x g)
agree-within j (leaf r) (leaf s) (leaf u) m t =
    where-of (r.care && s.care) (flip j r.value) s.value
    (λ b. let c = m (and_r r.care s.care b) in
    where_to (r.care && u.care) (flip j r.value) u.value t (and_T r.care u.care (and_l r.care s.care b) c.0) ∙ c.1)
agree-within j (node l h) (node l' h') (node l'' h'') m t =
    and_T (agree j l l') (agree j h h') (agree-within j l l' l'' m.0 (and_l (agree j l l'') (agree j h h'') t))
    (agree-within j h h' h'' m.1 (and_r (agree j l l'') (agree j h h'') t))

pub always-within : {d : ℕ} (v : Bool) (g e : Tree Row d) → Within false g e → T (always v e) → T (always v g)
always-within v (leaf s) (leaf u) m t =
    where-of s.care s.value v (λ c. sym (m c).1 ∙ where_to u.care u.value v t (m c).0)
always-within v (node l h) (node l' h') m t =
    and_T (always v l) (always v h) (always-within v l l' m.0 (and_l (always v l') (always v h') t))
    (always-within v h h' m.1 (and_r (always v l') (always v h') t))

beq_flip : (i a b : Bool) → beq (flip i a) b ≡ beq (flip i b) a
beq_flip true true true = refl
beq_flip true true false = refl
beq_flip true false true = refl
beq_flip true false false = refl
beq_flip false true true = refl
beq_flip false true false = refl
beq_flip false false true = refl
beq_flip false false false = refl

pub agree-sym : {d : ℕ} (i : Bool) (f g : Tree Row d) → agree i f g ≡ agree i g f
agree-sym i (leaf r) (leaf s) = ap₂ (λ c b. not c || b) (and_comm r.care s.care) (beq_flip i r.value s.value)
agree-sym i (node l h) (node l' h') = ap₂ ◌&&◌ (agree-sym i l l') (agree-sym i h h')

-- so a conflict with g is one with a merge in g's place

pub merge-differs : {d : ℕ} (i : Bool) (f g : Tree Row d) → T (agree i f g) →
    (j : Bool) (x : Tree Row d) → agree j x g ≡ false → agree j x (merge i f g) ≡ false
merge-differs i f g t j x n =
    split (agree j x (merge i f g)) (λ e. absurd-T (agree-within j x g (merge i f g) (merge-second i f g t) (to-T e)) n) (λ e. e)

pub merge-varies : {d : ℕ} (i : Bool) (f g : Tree Row d) → T (agree i f g) → (v : Bool) → always v g ≡ false
    → always v (merge i f g) ≡ false
merge-varies i f g t v n =
    split (always v (merge i f g)) (λ e. absurd-T (always-within v g (merge i f g) (merge-second i f g t) (to-T e)) n) (λ e. e)
