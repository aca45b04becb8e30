use mathlib.Core.Path.{◌≡◌, refl, ap, ◌∙◌}
use Prim.Native.Nat.{ℕ, suc, ◌+◌, ◌*◌, ◌-◌, ◌≤◌, zero-le}
use native.Mathlib.Nat.{le_antisymm}
use native.Mathlib.Omega.{arith}
use lib.ListN.{length, drop, length-drop}
use lib.Seq.{length-take-le}
use Rattle.reorder.specs.Sizes.{width}
use Rattle.reorder.proofs.Shifts.{width-met}
use Rattle.matching.proofs.Parts.PartHalves.{width-pos}
use Rattle.matching.proofs.Linking.First.{twice-le}
use Rattle.matching.proofs.Buffers.ExchangedPlanes.{plane-fits, exchanged_to, exchanged-none, exchanged-more, exchanged-all}
use Rattle.matching.proofs.Buffers.ExchangedPlanes.{length-exchanged-to}
use Rattle.matching.proofs.exchange.exchange_parts.Goals as goal
use Rattle.matching.proofs.exchange.exchange_parts.Goals.{In-loop-i, Start}

-- there are no more planes than bytes
few : (s : Start) → 2 * s.args.count ≤ length s.args.work.now
few s =
    let a = s.args in
    let w = width (suc (suc a.d)) in
    twice-le a.count w (length a.work.now) (width-pos (suc (suc a.d))) (omega (arith, s.requires.in_work))

pub overflow_mul-planes : goal.overflow_mul-planes
overflow_mul-planes c =
    omega (arith, few (goal.at.overflow_mul-planes c).Start)

pub loop-i-init : goal.loop-i-init
loop-i-init c =
    let a = c.args in
    (zero-le, exchanged-none a.d a.from a.work.now, refl)

abbrev offset : In-loop-i → ℕ
offset c = c.args.from + c.loop-i.i * c.width_of-w.result

wide : (c : In-loop-i) → c.width_of-w.result ≡ width (suc (suc c.args.d))
wide c =
    let e : c.args.d + 2 ≡ suc (suc c.args.d) = omega arith in
    c.width_of-w.ensures ∙ width-met (c.args.d + 2) c.requires.variables ∙ ap width e

at-plane : (c : In-loop-i) → offset c ≡ c.args.from + c.loop-i.i * width (suc (suc c.args.d))
at-plane c = ap (λ (w : ℕ). c.args.from + c.loop-i.i * w) (wide c)

fits : (c : In-loop-i)
    → c.args.from + (c.loop-i.i + 1) * width (suc (suc c.args.d)) ≤ length c.args.work.now
fits c =
    plane-fits c.loop-i.i c.args.count (width (suc (suc c.args.d))) c.args.from (length c.args.work.now)
    c.loop-i-test.true c.requires.in_work

-- the plane lies in the work buffer
within : (c : In-loop-i) → offset c + c.width_of-w.result ≤ length c.loop-i.work
within c = omega (arith, at-plane c, wide c, fits c, c.loop-i.invariant.2)

pub overflow_mul-a : goal.overflow_mul-a
overflow_mul-a c =
    omega (arith, within (goal.at.overflow_mul-a c).In-loop-i)

pub overflow_add-a : goal.overflow_add-a
overflow_add-a c =
    omega (arith, within (goal.at.overflow_add-a c).In-loop-i)

pub overflow_add-b : goal.overflow_add-b
overflow_add-b c =
    omega (arith, within (goal.at.overflow_add-b c).In-loop-i)

pub slice_bounds-exchange_plane-end : goal.slice_bounds-exchange_plane-end
slice_bounds-exchange_plane-end c =
    within (goal.at.slice_bounds-exchange_plane-end c).In-loop-i

-- how many bytes are lent
abbrev lent : In-loop-i → ℕ
lent c = offset c + c.width_of-w.result - offset c

lent_is : (c : In-loop-i) → lent c ≡ width (suc (suc c.args.d))
lent_is c = omega (arith, wide c)

pub exchange_plane-requires : goal.exchange_plane-requires
exchange_plane-requires c =
    let m = c.loop-i.work in record {
      variables = c.requires.variables;
      plane_len = length-take-le (lent (goal.at.exchange_plane-requires c).In-loop-i)
          (drop (offset (goal.at.exchange_plane-requires c).In-loop-i) m)
          (omega (
            arith,
            lent_is (goal.at.exchange_plane-requires c).In-loop-i,
            wide (goal.at.exchange_plane-requires c).In-loop-i,
            within (goal.at.exchange_plane-requires c).In-loop-i,
            length-drop (offset (goal.at.exchange_plane-requires c).In-loop-i) m,
          ))
          ∙ lent_is (goal.at.exchange_plane-requires c).In-loop-i;
    }

pub loop-i-preserved : goal.loop-i-preserved
loop-i-preserved c =
    let l = c.loop-i in
    let a = c.args in
    let r = c.exchange_plane in
    let e = exchanged-more a.d a.from a.work.now l.i (offset (goal.at.loop-i-preserved c).In-loop-i)
    (lent (goal.at.loop-i-preserved c).In-loop-i) l.work r.new.plane
    (fits (goal.at.loop-i-preserved c).In-loop-i) (at-plane (goal.at.loop-i-preserved c).In-loop-i)
    (lent_is (goal.at.loop-i-preserved c).In-loop-i) l.invariant.1 r.ensures in
    (omega arith, e, ap length e ∙ length-exchanged-to a.d a.from a.work.now (l.i + 1) (fits (goal.at.loop-i-preserved c).In-loop-i))

pub returns : goal.returns
returns c =
    let l = c.loop-i in
    let a = c.args in
    l.invariant.1 ∙ ap (exchanged_to a.d a.from a.work.now) (le_antisymm l.invariant.0 c.loop-i-test.false)
    ∙ exchanged-all a.d a.from a.work.now a.count
