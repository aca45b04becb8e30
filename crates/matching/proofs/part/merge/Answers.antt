-- Byte j of the entry is as it was when its turn comes. Assumes nothing.
use Rattle.std.proofs.Common.{◌≡◌, ap, ap₂, ◌∙◌, ℕ, ◌+◌, ◌≤◌, ◌<◌, List, ◌++◌, map, length, get_or, take, drop, bit_or, arith}
use Rattle.std.proofs.Common.{drop_of_length-le, append-nil}
use lib.Bits.{or_comm}
use lib.Seq.{get_or-take, get_or-drop}
use Rattle.lists.specs.Lists.{up_to}
use Rattle.lists.specs.Written.{over}
use Rattle.lists.proofs.Written.Over.{over-next, get_or-over-past}
use Rattle.matching.specs.Bytes.{merge_byte}
use Rattle.matching.specs.Parts.{merge_part}
use Rattle.matching.proofs.part.merge.Goals as goal

-- byte j of the values and of the care, while the first j are written over
value_now : (f : ℕ → ℕ) (w j : ℕ) (l x y : List ℕ) → j < w → x ≡ over f j y → y ≡ take w l → get_or x j 0 ≡ get_or l j 0
value_now f w j l x y h e q =
    ap (λ (m : List ℕ). get_or m j 0) e ∙ get_or-over-past f j y j 0 (omega arith) ∙ ap (λ (m : List ℕ). get_or m j 0) q
    ∙ get_or-take w l j 0 h

care_now : (f : ℕ → ℕ) (w j : ℕ) (l x y : List ℕ) → x ≡ over f j y → y ≡ drop w l → get_or x j 0 ≡ get_or l (w + j) 0
care_now f w j l x y e q =
    ap (λ (m : List ℕ). get_or m j 0) e ∙ get_or-over-past f j y j 0 (omega arith) ∙ ap (λ (m : List ℕ). get_or m j 0) q
    ∙ get_or-drop w l j 0

pub loop-j-preserved : goal.loop-j-preserved
loop-j-preserved c =
    let a = c.args in
    let l = c.loop-j in
    let j = l.j in
    let w = a.w in
    let f = a.f.now in
    let g = a.g.now in
    let cut = c.split_at.ensures in
    let cut' = c.split_at_mut-values.ensures in
    let value : ℕ → ℕ = λ j. merge_byte a.i (get_or f j 0) (get_or f (w + j) 0) (get_or g j 0) in
    let care : ℕ → ℕ = λ j. bit_or (get_or f (w + j) 0) (get_or g (w + j) 0) in
    let below : j < w = c.loop-j-test.true in
    let fv : get_or c.split_at.result.0.now j 0 ≡ get_or f j 0 = ap (λ (m : List ℕ). get_or m j 0) cut.front ∙ get_or-take w f j 0 below in
    let fc : get_or c.split_at.result.1.now j 0 ≡ get_or f (w + j) 0 = ap (λ (m : List ℕ). get_or m j 0) cut.back ∙ get_or-drop w f j 0 in
    let gv = value_now value w j g l.values c.split_at_mut-values.result.0.now below l.invariant.0 cut'.front in
    let gc = care_now care w j g l.care c.split_at_mut-values.result.1.now l.invariant.1 cut'.back in (
      over-next value c.split_at_mut-values.result.0.now l.values j _ (omega (arith, cut'.front_len)) l.invariant.0
          (c.merge_byte.ensures
          ∙ ap₂ (λ (x y : ℕ). merge_byte a.i x y (get_or l.values j 0)) fv fc
          ∙ ap (merge_byte a.i (get_or f j 0) (get_or f (w + j) 0)) gv),
      over-next care c.split_at_mut-values.result.1.now l.care j _ (omega (arith, cut'.back_len, c.requires.g_len)) l.invariant.1
          (ap₂ bit_or gc fc ∙ or_comm (get_or g (w + j) 0) (get_or f (w + j) 0)),
    )

-- a plane of w bytes written over altogether
whole : (f : ℕ → ℕ) (j w : ℕ) (x : List ℕ) → j ≡ w → length x ≤ w → over f j x ≡ map f (up_to w)
whole f j w x e h =
    ap (λ (n : ℕ). over f n x) e ∙ ap (λ (m : List ℕ). map f (up_to w) ++ m) (drop_of_length-le x h) ∙ append-nil (map f (up_to w))

pub returns : goal.returns
unfolding merge_part
returns c =
    let w = c.args.w in
    let cut = c.split_at_mut-values.ensures in
    let e : c.loop-j.j ≡ w = omega arith in
    ap₂ (λ (x y : List ℕ). x ++ y)
    (c.loop-j.invariant.0 ∙ whole _ c.loop-j.j w c.split_at_mut-values.result.0.now e (omega (arith, cut.front_len)))
    (c.loop-j.invariant.1 ∙ whole _ c.loop-j.j w c.split_at_mut-values.result.1.now e (omega (arith, cut.back_len, c.requires.g_len)))
