-- A pass: every turn sifts an unsifted variable with the most nodes, by n trials, and a limit only says how many turns are taken.
-- Assumes nothing.
use mathlib.Core.Path.{◌≡◌, refl, sym, ap, ◌∙◌, subst}
use mathlib.Core.Bool.{false, not, cond}
use mathlib.Core.List.{List, ◌∷◌}
use Prim.Native.Nat.{ℕ, zero, suc, ◌+◌, ◌*◌, ◌/◌, ◌≤◌, ◌<◌, min}
use native.Mathlib.Nat.{le_refl, le_of_lt, le_trans, le_antisymm, min-le_right, mul-le-mul_right, div-mul-le_self, lt-div-mul-add}
use native.Mathlib.Omega.{arith}
use lib.Dec.{T, eqb, ltb, leb, ltb→lt, lt→ltb, nltb→le, leb→le, nleb→lt}
use lib.ListN.{length}
use Rattle.lists.specs.Lists.{all, has, keep, distinct, up_to}
use Rattle.lists.specs.Most.{most}
use Rattle.lists.proofs.Bools.{split, of-not, to-T, to-not, and_T}
use Rattle.lists.proofs.Lists.Membership.{eqb-equality, has-keep, keep-has, index-lt, pigeonhole}
use Rattle.lists.proofs.Numbers.Compared.{length-up_to, has-up_to, up_to-lt, none-missing}
use Rattle.lists.proofs.Numbers.Most.{rising-distinct, rising-keep, rising-up_to, most-has, most-most, most-first}
use Rattle.diagram.specs.Orders.Order.{is_order, moved}
use Rattle.diagram.specs.Table.{Table, cost}
use Rattle.diagram.specs.Orders.Sift.{sift, nodes_of, Pass, unsifted, next, turn, start, sifting, pass, allowed}
use Rattle.diagram.specs.Demands.{SiftedLeast, order_after, TurnsLeast}
use Rattle.diagram.proofs.Orders.Sift.{sift-order, sift-stays, sifted, sift-cong}

-- after k turns, whatever the limit
unfoldable pub after_turns : Table → ℕ → List ℕ → Pass
after_turns t zero order = start order
after_turns t (suc k) order = turn t (after_turns t k order)

pub after-suc : (t : Table) (k : ℕ) (order : List ℕ) → after_turns t (suc k) order ≡ turn t (after_turns t k order)
unfolding after_turns
after-suc t k order = refl

-- the turns' number is the number of variables sifted, and n orders are tried a turn

pub after-sifted : (t : Table) (k : ℕ) (order : List ℕ) → length (after_turns t k order).sifted ≡ k
unfolding after_turns turn
after-sifted t zero order = refl
after-sifted t (suc k) order = ap suc (after-sifted t k order)

pub after-tried : (t : Table) (k : ℕ) (order : List ℕ) → (after_turns t k order).tried ≡ k * t.n
unfolding after_turns turn
after-tried t zero order = omega arith
after-tried t (suc k) order = omega (arith, after-tried t k order)

-- the next variable

-- what a pass keeps: its order is valid, and what it has sifted are variables, none twice
pub record Going (t : Table) (s : Pass) : Type 0 where
  pub valid : T (is_order t.n s.order)
  pub apart : T (distinct eqb s.sifted)
  pub below : T (all (λ v. ltb v t.n) s.sifted)

-- were none left, all n variables would stand among fewer than n
pub some_left : (t : Table) (s : Pass) → length s.sifted < t.n → 0 < length (unsifted t s)
some_left t s h =
    split (ltb 0 (length (unsifted t s))) (λ e. ltb→lt 0 (length (unsifted t s)) (to-T e))
    (λ e. let z : length (unsifted t s) ≤ 0 = nltb→le 0 (length (unsifted t s)) (to-not e) in
    let f : t.n ≤ length s.sifted = all-sifted z in
    absurd (omega arith))
  where
    was : length (unsifted t s) ≤ 0 → (v : ℕ) → T (has eqb v (up_to t.n)) → T (has eqb v s.sifted)
    was z v k =
        split (has eqb v s.sifted) (λ e. to-T e)
        (λ e. let kept = has-keep eqb eqb-equality (λ w. not (has eqb w s.sifted)) v (up_to t.n) k (to-not e) in
        let i = index-lt eqb eqb-equality v (unsifted t s) kept in
        absurd (omega arith))

    all-sifted : length (unsifted t s) ≤ 0 → t.n ≤ length s.sifted
    all-sifted z =
        let p = pigeonhole eqb eqb-equality (up_to t.n) s.sifted (rising-distinct (up_to t.n) (rising-up_to t.n)) (was z) in
        omega (arith, length-up_to t.n)

module _ (t : Table) (s : Pass) (h : length s.sifted < t.n) where
  -- it is one of those that are left
  next-left : T (has eqb (next t s) (unsifted t s))
  unfolding next
  next-left = most-has (nodes_of t s.order) (unsifted t s) (some_left t s h)

  pub next-below : next t s < t.n
  next-below =
      up_to-lt (next t s) t.n (keep-has eqb eqb-equality (λ v. not (has eqb v s.sifted)) (next t s) (up_to t.n) next-left).0

  pub next-unsifted : has eqb (next t s) s.sifted ≡ false
  next-unsifted = of-not (keep-has eqb eqb-equality (λ v. not (has eqb v s.sifted)) (next t s) (up_to t.n) next-left).1

  pub turn-going : Going t s → Going t (turn t s)
  unfolding turn
  turn-going g =
      record {
        valid = sift-order t (next t s) s.order g.valid next-below;
        apart = and_T (not (has eqb (next t s) s.sifted)) (distinct eqb s.sifted) (to-not next-unsifted) g.apart;
        below = and_T (ltb (next t s) t.n) (all (λ v. ltb v t.n) s.sifted) (lt→ltb (next t s) t.n next-below) g.below;
      }

  -- the order is as it was where the level of the variable that comes next, as it then is, is among the fewest
  pub turn-stays : T (is_order t.n s.order) → ((p : ℕ) → p < t.n → cost t s.order ≤ cost t (moved (next t s) p s.order))
      → (turn t s).order ≡ s.order
  unfolding turn
  turn-stays o least = sift-stays t (next t s) s.order o next-below least

-- none left has more nodes under the order, and none lower as many
module _ (t : Table) (s : Pass) (w : ℕ) (b : w < t.n) (u : has eqb w s.sifted ≡ false) where
  left : T (has eqb w (unsifted t s))
  left = has-keep eqb eqb-equality (λ v. not (has eqb v s.sifted)) w (up_to t.n) (has-up_to w t.n b) (to-not u)

  pub next-most : nodes_of t s.order w ≤ nodes_of t s.order (next t s)
  unfolding next
  next-most = most-most (nodes_of t s.order) (unsifted t s) w left

  pub next-lowest : w < next t s → nodes_of t s.order w < nodes_of t s.order (next t s)
  unfolding next
  next-lowest l =
      most-first (nodes_of t s.order) (unsifted t s)
      (rising-keep (λ v. not (has eqb v s.sifted)) (up_to t.n) (rising-up_to t.n)) w left l

-- every turn

pub after-going : (t : Table) (order : List ℕ) → T (is_order t.n order) → (k : ℕ) → k ≤ t.n → Going t (after_turns t k order)
unfolding after_turns
after-going t order o zero h = record { valid = o; apart = tt; below = tt }
after-going t order o (suc k) h =
    turn-going t (after_turns t k order) (omega (arith, after-sifted t k order)) (after-going t order o k (le_of_lt h))

pub turn_below : (t : Table) (order : List ℕ) (k : ℕ) → k < t.n → next t (after_turns t k order) < t.n
turn_below t order k h = next-below t (after_turns t k order) (omega (arith, after-sifted t k order))

pub turn-least : (t : Table) (order : List ℕ) (k : ℕ) → k < t.n
    → SiftedLeast t (next t (after_turns t k order)) (after_turns t (suc k) order).order (cost t (after_turns t (suc k) order).order)
unfolding after_turns turn
turn-least t order k h = sifted t (next t (after_turns t k order)) (after_turns t k order).order (turn_below t order k h)

-- the turns that a limit allows

pub allowed-le : (n limit : ℕ) → allowed n limit ≤ n
unfolding allowed
allowed-le n limit = omega arith

pub allowed-within : (n limit : ℕ) → allowed n limit * n ≤ limit
unfolding allowed
allowed-within n limit = le_trans (mul-le-mul_right n (min-le_right n (limit / n))) (div-mul-le_self limit n)

pub allowed-most : (n limit : ℕ) → allowed n limit < n → limit < (allowed n limit + 1) * n
unfolding allowed
allowed-most n limit h =
    let e : min n (limit / n) ≡ limit / n = omega arith in
    rw e (omega (arith, lt-div-mul-add {a = limit} {b = n} (omega arith)))

-- a number of turns that a limit has room for is at most one that no further turn has room for
room : (n limit k j : ℕ) → k ≤ n → k * n ≤ limit → (j < n → limit < (j + 1) * n) → k ≤ j
room n limit k j h w m =
    split (leb k j) (λ e. leb→le k j (to-T e))
    (λ e. let l : j < k = nleb→lt k j (to-not e) in
    let x : limit < (j + 1) * n = m (omega arith) in
    let y : (j + 1) * n ≤ k * n = mul-le-mul_right n (omega arith) in
    absurd (omega arith))

pub allowed-only : (n limit k : ℕ) → k ≤ n → k * n ≤ limit → (k < n → limit < (k + 1) * n) → allowed n limit ≡ k
allowed-only n limit k h w m =
    le_antisymm (room n limit (allowed n limit) k (allowed-le n limit) (allowed-within n limit) m)
    (room n limit k (allowed n limit) h w (allowed-most n limit))

pub allowed-rises : (n smaller larger : ℕ) → smaller ≤ larger → allowed n smaller ≤ allowed n larger
allowed-rises n smaller larger h =
    room n larger (allowed n smaller) (allowed n larger) (allowed-le n smaller) (le_trans (allowed-within n smaller) h)
    (allowed-most n larger)

sifting-zero : (t : Table) (limit : ℕ) (s : Pass) → sifting t limit zero s ≡ s
unfolding sifting
sifting-zero t limit s = refl

sifting-suc : (t : Table) (limit d : ℕ) (s : Pass)
    → sifting t limit (suc d) s ≡ cond (leb (s.tried + t.n) limit) (sifting t limit d (turn t s)) s
unfolding sifting
sifting-suc t limit d s = refl

-- from k turns on, with d variables left
from : (t : Table) (limit : ℕ) (order : List ℕ) (d k : ℕ) → k + d ≡ t.n → k * t.n ≤ limit
    → sifting t limit d (after_turns t k order) ≡ after_turns t (allowed t.n limit) order
from t limit order zero k e w =
    let a : allowed t.n limit ≡ k = allowed-only t.n limit k (omega arith) w (λ h. absurd (omega arith)) in
    rw a (sifting-zero t limit (after_turns t k order))
from t limit order (suc d) k e w =
    let spent : (after_turns t k order).tried ≡ k * t.n = after-tried t k order in
    sifting-suc t limit d (after_turns t k order)
    ∙ split (leb ((after_turns t k order).tried + t.n) limit)
    (λ q. let r : (after_turns t k order).tried + t.n ≤ limit = leb→le _ limit (to-T q) in
    rw q (subst (λ (s : Pass). sifting t limit d s ≡ after_turns t (allowed t.n limit) order) (after-suc t k order)
    (from t limit order d (suc k) (omega arith) (omega arith))))
    (λ q. let r : limit < (after_turns t k order).tried + t.n = nleb→lt _ limit (to-not q) in
    let a : allowed t.n limit ≡ k = allowed-only t.n limit k (omega arith) w (λ h. omega arith) in
    rw (q, a))

-- a pass is the turns that its limit allows
pub turns : (t : Table) (limit : ℕ) (order : List ℕ) → pass t limit order ≡ after_turns t (allowed t.n limit) order
unfolding pass after_turns
turns t limit order = from t limit order t.n 0 (omega arith) (omega arith)

pub turns-times : (t : Table) (k : ℕ) (order : List ℕ) → k ≤ t.n → pass t (t.n * k) order ≡ after_turns t k order
turns-times t k order h =
    turns t (t.n * k) order
    ∙ ap (λ (j : ℕ). after_turns t j order) (allowed-only t.n (t.n * k) k h (omega arith) (λ l. omega arith))

-- so a limit leaves what the limit of its whole turns leaves
pub limits : (t : Table) (limit : ℕ) (order : List ℕ) → pass t limit order ≡ pass t (t.n * allowed t.n limit) order
limits t limit order = turns t limit order ∙ sym (turns-times t (allowed t.n limit) order (allowed-le t.n limit))

pub pass-going : (t : Table) (limit : ℕ) (order : List ℕ) → T (is_order t.n order) → Going t (pass t limit order)
pass-going t limit order o = rw (turns t limit order) (after-going t order o (allowed t.n limit) (allowed-le t.n limit))

pub pass-sifted : (t : Table) (limit : ℕ) (order : List ℕ) → length (pass t limit order).sifted ≡ allowed t.n limit
pass-sifted t limit order = rw (turns t limit order) (after-sifted t (allowed t.n limit) order)

pub pass-tried : (t : Table) (limit : ℕ) (order : List ℕ) → (pass t limit order).tried ≡ t.n * length (pass t limit order).sifted
pass-tried t limit order =
    rw (turns t limit order)
    (omega (
      arith,
      after-tried t (allowed t.n limit) order,
      ap (λ (k : ℕ). t.n * k) (after-sifted t (allowed t.n limit) order),
    ))

pub pass-within : (t : Table) (limit : ℕ) (order : List ℕ) → (pass t limit order).tried ≤ limit
pass-within t limit order =
    rw (turns t limit order) (omega (arith, after-tried t (allowed t.n limit) order, allowed-within t.n limit))

-- where the limit has room for every turn, every variable is sifted
pub pass-every : (t : Table) (limit : ℕ) (order : List ℕ) → T (is_order t.n order) → t.n * t.n ≤ limit
    → (v : ℕ) → v < t.n → T (has eqb v (pass t limit order).sifted)
pass-every t limit order o w =
    let g : Going t (pass t limit order) = pass-going t limit order o in
    none-missing t.n (pass t limit order).sifted g.apart g.below
    (pass-sifted t limit order ∙ allowed-only t.n limit t.n (le_refl t.n) w (λ l. absurd (omega arith)))

-- a pass goes by the number of variables, by the costs and by the nodes of each variable alone
module _ (t u : Table) (e : t.n ≡ u.n) (costs : (order : List ℕ) → cost t order ≡ cost u order)
    (nodes : (order : List ℕ) (v : ℕ) → nodes_of t order v ≡ nodes_of u order v) where
  next-cong : (s : Pass) → next t s ≡ next u s
  unfolding next
  next-cong s = λ i. most (λ v. nodes s.order v i) (keep (λ v. not (has eqb v s.sifted)) (up_to (e i)))

  turn-cong : (s : Pass) → turn t s ≡ turn u s
  unfolding turn
  turn-cong s =
      let left : sift t (next t s) s.order ≡ sift u (next u s) s.order =
      ap (λ (v : ℕ). sift t v s.order) (next-cong s) ∙ sift-cong t u e costs (next u s) s.order in
      λ i. record { order = left i; sifted = next-cong s i ∷ s.sifted; tried = s.tried + e i }

  after_cong : (k : ℕ) (order : List ℕ) → after_turns t k order ≡ after_turns u k order
  unfolding after_turns
  after_cong zero order = refl
  after_cong (suc k) order = turn-cong (after_turns t k order) ∙ ap (turn u) (after_cong k order)

  pub pass-cong : (limit : ℕ) (order : List ℕ) → pass t limit order ≡ pass u limit order
  pass-cong limit order =
      turns t limit order ∙ after_cong (allowed t.n limit) order
      ∙ ap (λ (n : ℕ). after_turns u (allowed n limit) order) e ∙ sym (turns u limit order)

-- demand 3 at every turn, in the paper's words: the limits n × k name the turns
pub turns-least : (t : Table) (order : List ℕ) → TurnsLeast t order
unfolding TurnsLeast
turns-least t order k h =
    let c : ℕ = cost t (order_after t order (suc k)) in
    subst (λ (s : Pass). SiftedLeast t (next t s) (order_after t order (suc k)) c) (sym (turns-times t k order (le_of_lt h)))
    (subst (λ (s : Pass). SiftedLeast t (next t (after_turns t k order)) s.order (cost t s.order))
    (sym (turns-times t (suc k) order h)) (turn-least t order k h))
