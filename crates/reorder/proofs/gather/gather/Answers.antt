-- Byte i of both planes is gathered from the rows of the map that it stands for. Assumes nothing.
use Rattle.std.proofs.Common.{◌≡◌, refl, sym, ap, ap₂, ◌∙◌, ℕ, ◌+◌, ◌-◌, ◌*◌, ◌≤◌, ◌<◌, List, ◌++◌, map, length, take, drop, arith}
use Rattle.std.proofs.Common.{append_assoc, append-nil, drop-drop, length-drop, length-take, drop_of_length-le}
use lib.Seq.{length-take-le}
use Rattle.lists.specs.Lists.{up_to}
use Rattle.lists.specs.Written.{over}
use Rattle.lists.proofs.Written.Over.{over-next}
use Rattle.reorder.specs.Gather.{gathered_byte}
use Rattle.reorder.proofs.Gathered.{gathered-rows}
use Rattle.reorder.proofs.Shifts.{most-rows, rows-room, byte-within, width-met}
use Rattle.reorder.proofs.gather.gather.Goals as goal
use Rattle.reorder.proofs.gather.gather.Goals.{In-loop-i}

pub split_at_mut-values-requires : goal.split_at_mut-values-requires
split_at_mut-values-requires c =
    omega (arith, c.width_of-w.ensures ∙ width-met c.args.n c.requires.variables, c.requires.room)

-- the rows of byte i are among those of the map, and both planes have that byte
within : (c : In-loop-i)
    → (8 * c.loop-i.i + c.rows_in-k.result ≤ length c.args.map.now) × (8 * c.loop-i.i ≤ 1024)
    × (c.loop-i.i < length c.split_at_mut-values.result.1.now)
within c =
    let n = c.args.n in
    let w = c.width_of-w.ensures ∙ width-met n c.requires.variables in
    omega (
      arith,
      w,
      byte-within n c.loop-i.i (omega (arith, c.loop-i-test.true, w)),
      c.rows_in-k.ensures,
      c.requires.rows_mapped,
      c.requires.room,
      rows-room n c.requires.variables,
      most-rows,
      length-drop c.width_of-w.result c.args.part.now,
      ap length c.split_at_mut-values.ensures.back,
    )

pub overflow_mul-start : goal.overflow_mul-start
overflow_mul-start c = omega (arith, within (goal.at.overflow_mul-start c).In-loop-i)

pub overflow_add-start : goal.overflow_add-start
overflow_add-start c = omega (arith, within (goal.at.overflow_add-start c).In-loop-i)

pub offset_bounds-map-start : goal.offset_bounds-map-start
offset_bounds-map-start c = omega (arith, within (goal.at.offset_bounds-map-start c).In-loop-i)

pub slice_bounds-gathered-end : goal.slice_bounds-gathered-end
slice_bounds-gathered-end c = omega (arith, within (goal.at.slice_bounds-gathered-end c).In-loop-i)

pub bounds-care-i : goal.bounds-care-i
bounds-care-i c = omega (arith, within (goal.at.bounds-care-i c).In-loop-i)

pub loop-i-preserved : goal.loop-i-preserved
loop-i-preserved c =
    let a = c.args in
    let k = c.rows_in-k.result in
    let i = c.loop-i.i in
    let g = c.gathered-bytes in
    let w = within (goal.at.loop-i-preserved c).In-loop-i in
    let n = 8 * i + k - 8 * i in
    let rows = take n (drop (8 * i) a.map.now) in
    let same : n ≡ k = omega arith in
    let long : length rows ≡ k = length-take-le n (drop (8 * i) a.map.now) (omega (arith, w, length-drop (8 * i) a.map.now)) ∙ same in (
      over-next (gathered_byte a.planes.now.values.now a.base a.map.now k) _ _ i _ (omega arith) c.loop-i.invariant.0
          (g.ensures.values ∙ gathered-rows a.planes.now.values.now a.base a.map.now k i n rows refl same long),
      over-next (gathered_byte a.planes.now.care.now a.base a.map.now k) _ _ i _ (omega (arith, w)) c.loop-i.invariant.1
          (g.ensures.care ∙ gathered-rows a.planes.now.care.now a.base a.map.now k i n rows refl same long),
    )

-- both planes, of w bytes each at the front of l, are written over altogether
whole : (f g : ℕ → ℕ) (w : ℕ) (l : List ℕ) → over f w (take w l) ++ over g w (drop w l) ≡ map f (up_to w) ++ map g (up_to w) ++ drop (w + w) l
whole f g w l =
    ap₂ (λ (x y : List ℕ). (map f (up_to w) ++ x) ++ (map g (up_to w) ++ y))
    (drop_of_length-le (take w l) (omega (arith, length-take w l))) (drop-drop w w l)
    ∙ ap (λ (x : List ℕ). x ++ (map g (up_to w) ++ drop (w + w) l)) (append-nil (map f (up_to w)))
    ∙ sym (append_assoc (map f (up_to w)) (map g (up_to w)) (drop (w + w) l))

pub returns : goal.returns
returns c =
    let a = c.args in
    let cut = c.split_at_mut-values.ensures in
    let w = c.width_of-w.result in
    let f : ℕ → ℕ → ℕ = gathered_byte a.planes.now.values.now a.base a.map.now in
    let g : ℕ → ℕ → ℕ = gathered_byte a.planes.now.care.now a.base a.map.now in
    let k = c.rows_in-k.result in
    let e : c.loop-i.i ≡ w = omega arith in
    ap₂ (λ (x y : List ℕ). x ++ y)
    (c.loop-i.invariant.0 ∙ ap₂ (λ (n : ℕ) (r : List ℕ). over (f k) n r) e cut.front)
    (c.loop-i.invariant.1 ∙ ap₂ (λ (n : ℕ) (r : List ℕ). over (g k) n r) e cut.back)
    ∙ whole (f k) (g k) w a.part.now
    ∙ ap₂ (λ n m. map (f n) (up_to m) ++ map (g n) (up_to m) ++ drop (m + m) a.part.now) c.rows_in-k.ensures
    (c.width_of-w.ensures ∙ width-met a.n c.requires.variables)
