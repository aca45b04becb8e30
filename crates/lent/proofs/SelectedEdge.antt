-- Document 02, 2.5: for either bit and any two edges, (1 − bit) × the low edge + bit × the high edge is the branch's edge. Each product and
-- the sum are then one of the two edges or 0, so they fit whatever the edges fit.
-- Assumes nothing.
use mathlib.Core.Path.{◌≡◌, refl, ap, ap₂, ◌∙◌}
use mathlib.Core.Bool.{Bool, true, false, cond}
use Prim.Native.Nat.{ℕ, zero, suc, ◌+◌, ◌*◌, ◌-◌, ◌≤◌, ◌<◌}
use native.Mathlib.Omega.{arith}
use lib.Dec.{eqb}
use Rattle.lists.specs.Bits.{digit}
use Rattle.lists.proofs.Bits.Digits.{eqb-digit}
use Rattle.diagram.specs.Networks.Diagram.{Node, edge}

pub selects : (bit low high : ℕ) → bit ≤ 1 → (1 - bit) * low + bit * high ≡ cond (eqb bit 1) high low
selects zero low high h = omega arith
selects (suc zero) low high h = omega arith
selects (suc (suc k)) low high h = absurd (omega arith)

-- what the steps ask, where both edges are below a limit

pub product-fits : (bit x limit : ℕ) → bit ≤ 1 → x < limit → bit * x < limit
product-fits zero x limit h l = omega arith
product-fits (suc zero) x limit h l = omega arith
product-fits (suc (suc k)) x limit h l = absurd (omega arith)

pub sum_fits : (bit x y limit : ℕ) → bit ≤ 1 → x < limit → y < limit → (1 - bit) * x + bit * y < limit
sum_fits zero x y limit h l m = omega arith
sum_fits (suc zero) x y limit h l m = omega arith
sum_fits (suc (suc k)) x y limit h l m = absurd (omega arith)

-- what is selected by a node's edges is the node's edge
edge-cond : (b : Bool) (c : Node) → cond b c.high c.low ≡ edge b c
edge-cond true c = refl
edge-cond false c = refl

pub edge-selected : (b : Bool) (c : Node) (bit low high : ℕ) → bit ≡ digit b → low ≡ c.low → high ≡ c.high
    → cond (eqb bit 1) high low ≡ edge b c
edge-selected b c bit low high e l h =
    ap (λ (x : Bool). cond x high low) (ap (λ (k : ℕ). eqb k 1) e ∙ eqb-digit b) ∙ ap₂ (cond b) h l ∙ edge-cond b c
