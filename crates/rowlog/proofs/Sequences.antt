-- Any sequence of logs (document 02, 2.4): two neighbours may stand in either sequence, so all of them in any; and one log of all the lists
-- leaves what they leave.
-- Assumes nothing.
use mathlib.Core.Path.{◌≡◌, refl, sym, ap, ◌∙◌, subst, subst₂}
use mathlib.Core.Bool.{◌&&◌, and-true}
use mathlib.Core.List.{List, [], ◌∷◌, ◌++◌, append-nil, flatten}
use mathlib.Core.List.Permᴰ
use Prim.Native.Nat.{ℕ}
use lib.Dec.{T}
use Rattle.lists.proofs.Bools.{and_T, and_l, and_r, both_ways}
use Rattle.rowlog.specs.Sequence.{Logged, accepted, logged, one_by_one, none_refused, AnySequence, OneLog}
use Rattle.rowlog.proofs.Logs.{part-accepted, turned-accepted, turned, then-accepted, together}

-- two neighbours in the other sequence
exchanged : (least : ℕ) (first second : List ℕ) (found : Logged) → T (accepted first found)
    → T (accepted second (logged least first found))
    → T (accepted second found)
    × (T (accepted first (logged least second found))
    × (logged least second (logged least first found) ≡ logged least first (logged least second found)))
exchanged least first second found t u =
    let both = subst T (then-accepted first second found least t) u in
    let other = subst T (turned-accepted first second found) both in
    let q = part-accepted second first found other in
    let v = subst T (sym (then-accepted second first found least q)) other in (
      q,
      (v, together first second found least t u ∙ turned first second found least both ∙ sym (together second first found least q v)),
    )

-- 'any sequence of them leaves the same'
pub any-sequence : AnySequence
any-sequence least logs others found Permᴰ.nil t = (tt, refl)
any-sequence least logs others found (Permᴰ.cons {a} {b} {l₁} {l₂} e d) t =
    let after = logged least a found in
    let rest = any-sequence least l₁ l₂ after d (and_r (accepted a found) (none_refused least l₁ after) t) in
    subst (λ (x : List ℕ). T (none_refused least (x ∷ l₂) found) × (one_by_one least (a ∷ l₁) found ≡ one_by_one least (x ∷ l₂) found)) e (
      and_T (accepted a found) (none_refused least l₂ after) (and_l (accepted a found) (none_refused least l₁ after) t) rest.0,
      rest.1,
    )
any-sequence least logs others found (Permᴰ.swap {a} {b} {a'} {b'} {l} e₁ e₂) t =
    let one = logged least a found in
    let u = and_r (accepted a found) (none_refused least (b ∷ l) one) t in
    let two = none_refused least l (logged least b one) in
    let x = exchanged least a b found (and_l (accepted a found) (none_refused least (b ∷ l) one) t) (and_l (accepted b one) two u) in
    let other = logged least b found in
    let w = subst (λ (k : Logged). T (none_refused least l k)) x.1.1 (and_r (accepted b one) two u) in
    subst₂ (λ (y z : List ℕ). T (none_refused least (y ∷ z ∷ l) found)
    × (one_by_one least (a ∷ b ∷ l) found ≡ one_by_one least (y ∷ z ∷ l) found)) e₂ e₁ (
      and_T (accepted b found) (none_refused least (a ∷ l) other) x.0
          (and_T (accepted a other) (none_refused least l (logged least a other)) x.1.0 w),
      ap (one_by_one least l) x.1.1,
    )
any-sequence least logs others found (Permᴰ.trans {l₂} d₁ d₂) t =
    let one = any-sequence least logs l₂ found d₁ t in
    let two = any-sequence least l₂ others found d₂ one.0 in
    (two.0, one.1 ∙ two.1)

-- and so does one log of all their rows
pub one-log : OneLog
unfolding flatten
one-log least rows [] found =
    let e = sym (append-nil rows) in
    (and-true (accepted rows found) ∙ ap (λ (xs : List ℕ). accepted xs found) e, λ t. ap (λ (xs : List ℕ). logged least xs found) e)
one-log least rows (next ∷ logs) found =
    let after = logged least rows found in
    let none = none_refused least (next ∷ logs) after in
    let rest = flatten (next ∷ logs) in
    let ih = one-log least next logs after in (
      both_ways (accepted rows found && none) (accepted (rows ++ rest) found)
          (λ t. subst T (ih.0 ∙ then-accepted rows rest found least (and_l (accepted rows found) none t))
          (and_r (accepted rows found) none t))
          (λ t. let q = part-accepted rows rest found t in
          and_T (accepted rows found) none q (subst T (sym (ih.0 ∙ then-accepted rows rest found least q)) t)),
      λ t. let u = and_r (accepted rows found) none t in
          ih.1 u ∙ together rows rest found least (and_l (accepted rows found) none t) (subst T ih.0 u),
    )
