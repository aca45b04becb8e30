-- A plane is one byte, two bytes, or four blocks of bytes. Assumes nothing.
use Rattle.std.proofs.Common.{◌≡◌, ◌∙◌, ℕ, suc, ◌+◌, ◌*◌, ◌≤◌, length, arith}
use Rattle.diagram.specs.Networks.Bound.{most_variables}
use Rattle.reorder.specs.Sizes.{width, width_up_to}
use Rattle.reorder.proofs.Pack.{width-suc}
use Rattle.reorder.proofs.Shifts.{width-met}
use Rattle.matching.proofs.Parts.ExchangedBytes.{byte-exchanged, blocks-exchanged}
use Rattle.matching.proofs.exchange.exchange_plane.Goals as goal

pub returns-in-0 : goal.returns-in-0
returns-in-0 c =
    byte-exchanged c.args.d c.args.plane.now c.exchange_byte.result (omega arith) c.requires.plane_len c.exchange_byte.ensures

-- a quarter has whole bytes
wide : (d r n : ℕ) → 3 ≤ d → d + 2 ≤ most_variables → r ≡ width_up_to d → n ≡ width (suc (suc d)) → (r ≡ width d) × (n ≡ 4 * r)
wide d r n h few e p =
    let q : r ≡ width d = e ∙ width-met d (omega arith) in
    (q, omega (arith, p, q, width-suc d h, width-suc (suc d) (omega arith)))

pub exchange_blocks-requires : goal.exchange_blocks-requires
exchange_blocks-requires c =
    (wide c.args.d c.width_of.result (length c.args.plane.now) (omega arith) c.requires.variables c.width_of.ensures c.requires.plane_len).1

pub returns-in_default : goal.returns-in_default
returns-in_default c =
    let d = c.args.d in
    let r = c.width_of.result in
    let h : 3 ≤ d = omega arith in
    let p = wide d r (length c.args.plane.now) h c.requires.variables c.width_of.ensures c.requires.plane_len in
    c.exchange_blocks.ensures ∙ blocks-exchanged d r c.args.plane.now h p.0 p.1
