-- Half of the values, then half of the care. Assumes nothing.
use Rattle.std.proofs.Common.{◌≡◌, Bool, sym, ap, ap₂, ◌∙◌, ℕ, List, suc, ◌++◌, ◌+◌, ◌-◌, ◌*◌, ◌≤◌, take, drop, length-take, length-drop, arith}
use Rattle.lists.specs.Bits.{digit}
use Rattle.lists.proofs.Bits.Digits.{digit-part-le}
use Rattle.reorder.specs.Sizes.{width}
use Rattle.reorder.proofs.Pack.{width-suc}
use Rattle.reorder.proofs.Shifts.{width-met}
use Rattle.matching.specs.Parts.{half_bytes, half_part}
use Rattle.matching.proofs.Linking.Along.{bool-digit}
use Rattle.matching.proofs.Wordwise.HalfWords.{half-cut}
use Rattle.matching.proofs.wide_halves.take_half.Goals as goal
use Rattle.matching.proofs.wide_halves.take_half.Goals.{After-from}

-- the bytes of a half's values, of the part's, and where the half starts in a plane
sizes : (c : After-from)
    → (c.width_of-w.result ≡ width c.args.d) × (width (suc c.args.d) ≡ width c.args.d + width c.args.d)
    × (c.from.result * c.width_of-w.result ≡ digit c.args.b * width c.args.d)
    × (c.from.result * c.width_of-w.result + c.width_of-w.result ≤ width c.args.d + width c.args.d)
sizes c =
    let d = c.args.d in
    let e : c.width_of-w.result ≡ width d = c.width_of-w.ensures ∙ width-met d (omega (arith, c.requires.variables)) in
    let s : c.from.result * c.width_of-w.result ≡ digit c.args.b * width d = ap₂ (λ (x y : ℕ). x * y) (c.from.ensures ∙ bool-digit c.args.b) e in
    (e, width-suc d c.requires.whole_bytes, s, omega (arith, e, s, digit-part-le c.args.b (width d)))

pub overflow_add-end : goal.overflow_add-end
overflow_add-end c =
    let p = sizes (goal.at.overflow_add-end c).After-from in omega (arith, p.1, p.3, c.requires.part_len)

pub split_at_mut-values-requires : goal.split_at_mut-values-requires
split_at_mut-values-requires c =
    let p = sizes (goal.at.split_at_mut-values-requires c).After-from in omega (arith, p.0, c.requires.half_len)

pub slice_bounds-copy_from_slice-end-2 : goal.slice_bounds-copy_from_slice-end-2
slice_bounds-copy_from_slice-end-2 c =
    let p = sizes (goal.at.slice_bounds-copy_from_slice-end-2 c).After-from in
    omega (arith, p, c.split_at.ensures.back_len, c.requires.part_len)

pub copy_from_slice-requires-2 : goal.copy_from_slice-requires-2
copy_from_slice-requires-2 c =
    let p = sizes (goal.at.copy_from_slice-requires-2 c).After-from in
    let r = c.from.result * c.width_of-w.result in
    let l = c.split_at.result.1.now in
    omega (
      arith,
      p,
      c.requires.part_len,
      c.requires.half_len,
      c.split_at.ensures.back_len,
      c.split_at_mut-values.ensures.back_len,
      length-drop r l,
      length-take (r + c.width_of-w.result - r) (drop r l),
    )

-- a plane's half, cut out of it
cut : (b : Bool) (d n r : ℕ) (x y : List ℕ) → 3 ≤ d → n ≡ width d → r ≡ digit b * width d → x ≡ y
    → take n (drop r x) ≡ half_bytes b d (width d) y
cut b d n r x y h p q e =
    ap₂ (λ (i : ℕ) (l : List ℕ). take i l) p (ap₂ (λ (i : ℕ) (l : List ℕ). drop i l) q e) ∙ sym (half-cut b d (width d) y h)

pub returns : goal.returns
unfolding half_part
returns c =
    let a = c.args in
    let p = sizes (goal.at.returns c).After-from in
    let r = c.from.result * c.width_of-w.result in
    let n : r + c.width_of-w.result - r ≡ width a.d = omega (arith, p.0) in
    let v : c.width_of-w.result + c.width_of-w.result ≡ width (suc a.d) = omega (arith, p.0, p.1) in
    let h = c.requires.whole_bytes in
    ap₂ (λ (x y : List ℕ). x ++ y)
    (c.copy_from_slice.ensures.after
    ∙ cut a.b a.d _ r _ _ h n p.2 (c.split_at.ensures.front ∙ ap (λ (i : ℕ). take i a.part.now) v))
    (c.copy_from_slice-2.ensures.after
    ∙ cut a.b a.d _ r _ _ h n p.2 (c.split_at.ensures.back ∙ ap (λ (i : ℕ). drop i a.part.now) v))
