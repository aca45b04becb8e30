-- Laws of references to functions: of constants, of inverses, of what a link stands for; and that a reference inverts
-- exactly where the function's all-zero row is 1.
-- Assumes nothing.
use mathlib.Core.Path.{◌≡◌, refl, sym, ap, ap₂, ◌∙◌}
use mathlib.Core.Bool.{Bool, true, false, not, ◌&&◌}
use mathlib.Core.List.{List, map}
use Prim.Native.Nat.{ℕ, zero, suc, ◌+◌}
use native.Mathlib.Omega.{arith}
use lib.ListN.{length, get_or}
use Rattle.lists.specs.Lists.{index}
use Rattle.lists.specs.Bits.{digit}
use Rattle.lists.proofs.Bools.{split}
use Rattle.lists.proofs.Lists.Membership.{get_d_map}
use Rattle.diagram.specs.Tree.{Tree, leaf, half, halves, full, first, same, inverted}
use Rattle.diagram.specs.Filling.Fill.{Link, const, entry, follow}
use Rattle.diagram.specs.Networks.Network.{depends, normal, classes, reference, refer}
use Rattle.diagram.specs.Networks.Diagram.{opposite}
use Rattle.diagram.specs.Networks.Trace.{link_ref}
use Rattle.diagram.proofs.Tree.{same_self, inverted-false, half-inverted, first-inverted, depends-inverted, normal-inverted}
use Rattle.diagram.proofs.Networks.Reference.{inverts-reference}
use Rattle.diagram.proofs.Networks.Known.{refer-depends, refer-skips, refer-leaf}
use Rattle.diagram.proofs.Tracing.Rising.{Valid}

-- references to a node

opposite-node : (k : ℕ) (b : Bool) → opposite true (reference true k b) ≡ reference true k (not b)
opposite-node k true = let e = inverts-reference true k true in rw e (omega arith)
opposite-node k false = let e = inverts-reference true k false in rw e (omega arith)

-- a reference that can't invert is the same for both
pub reference-inverts : (inv : Bool) (k : ℕ) (b : Bool) → reference inv k (inv && b) ≡ reference inv k b
reference-inverts true k b = refl
reference-inverts false k b = refl

opposite-digit : (b : Bool) → opposite true (digit b) ≡ digit (not b)
opposite-digit true = refl
opposite-digit false = refl

-- references to a function

pub refer-full : (inv : Bool) (d base : ℕ) (ts : List (Tree Bool d)) (v : Bool) → refer inv d base ts (full v d) ≡ digit v
refer-full inv zero base ts v = refer-leaf inv base ts (leaf v)
refer-full inv (suc d) base ts v =
    refer-skips inv base ts (full v (suc d)) (ap not (same_self (full v d))) ∙ refer-full inv d (base + length (classes inv ts))
    (halves ts) v

refer-inverse : (d base : ℕ) (ts : List (Tree Bool d)) (t : Tree Bool d)
    → refer true d base ts (inverted true t) ≡ opposite true (refer true d base ts t)
refer-inverse zero base ts t =
    refer-leaf true base ts (inverted true t) ∙ ap digit (first-inverted true t) ∙ sym (opposite-digit (first t))
    ∙ ap (opposite true) (sym (refer-leaf true base ts t))
refer-inverse (suc d) base ts t =
    split (depends t)
    (λ e. let k = base + index same (normal true t) (classes true ts) in
    refer-depends true base ts (inverted true t) (depends-inverted true t ∙ e)
    ∙ ap₂ (λ u b. reference true (base + index same u (classes true ts)) b) (normal-inverted true true t) (first-inverted true t)
    ∙ sym (opposite-node k (first t)) ∙ ap (opposite true) (sym (refer-depends true base ts t e)))
    (λ e. let more = base + length (classes true ts) in
    refer-skips true base ts (inverted true t) (depends-inverted true t ∙ e)
    ∙ ap (refer true d more (halves ts)) (half-inverted false true t)
    ∙ refer-inverse d more (halves ts) (half false t) ∙ ap (opposite true) (sym (refer-skips true base ts t e)))

pub refer-inverted : (inv i : Bool) (d base : ℕ) (ts : List (Tree Bool d)) (t : Tree Bool d)
    → refer inv d base ts (inverted (inv && i) t) ≡ opposite (inv && i) (refer inv d base ts t)
refer-inverted true true d base ts t = refer-inverse d base ts t
refer-inverted true false d base ts t = ap (refer true d base ts) (inverted-false t)
refer-inverted false i d base ts t = ap (refer false d base ts) (inverted-false t)

-- references of what links stand for

pub refer-follow : {d : ℕ} (inv : Bool) (base : ℕ) (ts E : List (Tree Bool d)) (l : Link) → Valid inv (length E) l
    → refer inv d base ts (follow E l) ≡ link_ref (map (refer inv d base ts) E) l
refer-follow {d} inv base ts E (const v) p = refer-full inv d base ts v
refer-follow {d} inv base ts E (entry j i) p =
    let t = get_or E j (full false d) in
    ap (λ b. refer inv d base ts (inverted b t)) p.1 ∙ refer-inverted inv i d base ts t
    ∙ ap₂ opposite (sym p.1) (sym (get_d_map (refer inv d base ts) E j (full false d) 0 p.0))
