-- By cases on whether the part is narrow. Assumes nothing.
use Rattle.std.proofs.Common.{◌≡◌, sym, ap, ◌∙◌, subst, List, [], ◌∷◌, ℕ, ◌+◌, ◌*◌, ◌%◌, ◌≤◌, length, arith}
use mathlib.Core.Logic.{⊎_elim}
use Rattle.reorder.specs.Sizes.{width}
use Rattle.reorder.proofs.Shifts.{width-met}
use Rattle.matching.specs.Links.{region_size}
use Rattle.matching.specs.Parts.{level_parts}
use Rattle.matching.specs.Level.{parts_of, written}
use Rattle.matching.specs.Inner.Words.{part_of}
use Rattle.matching.proofs.Parts.PartHalves.{width-pos, width-words}
use Rattle.matching.proofs.link.link_part.Goals as goal
use Rattle.matching.proofs.link.link_part.Goals.{After-width_of-w, After-of_part}

-- the bytes of the candidate's values
wide : (c : After-width_of-w) → c.width_of-w.result ≡ width c.args.d
wide c = c.width_of-w.ensures ∙ width-met c.args.d c.requires.variables

pub of_part-requires-clause-some_bytes : goal.of_part-requires-clause-some_bytes
of_part-requires-clause-some_bytes c =
    omega (arith, wide (goal.at.of_part-requires-clause-some_bytes c).After-width_of-w, width-pos c.args.d)

pub of_part-requires-clause-part_len : goal.of_part-requires-clause-part_len
of_part-requires-clause-part_len c =
    omega (arith, wide (goal.at.of_part-requires-clause-part_len c).After-width_of-w, c.requires.f_len)

pub link-requires-clause-entry_room : goal.link-requires-clause-entry_room
link-requires-clause-entry_room c =
    subst (λ (n : ℕ). (c.args.k + 1) * (n + n) ≤ region_size)
    (sym (c.of_part.ensures.w ∙ wide (goal.at.link-requires-clause-entry_room c).After-width_of-w)) c.requires.entry_room

pub invariant_of-link : goal.invariant_of-link
invariant_of-link c =
    let e = wide (goal.at.invariant_of-link c).After-width_of-w in
    let d = c.args.d in
    record {
      some_bytes = omega (arith, e, width-pos d);
      whole_words =
          ⊎_elim (λ (h : width d ≤ 8). absurd (omega arith)) (λ (h : width d % 8 ≡ 0). ap (λ (n : ℕ). n % 8) e ∙ h) (width-words d);
      part_len = omega (arith, e, c.requires.f_len);
    }

-- the candidate is the part
same : (c : After-of_part) (P : ℕ → List ℕ → Type 0)
    → P c.of_part.result.w (part_of c.of_part.result.w c.of_part.result.values c.of_part.result.care) → P (width c.args.d) c.args.f.now
same c P h =
    let r = c.of_part.result in
    let e : r.w ≡ c.width_of-w.result = c.of_part.ensures.w in
    let q : part_of r.w r.values r.care ≡ c.args.f.now = ap (λ (n : ℕ). part_of n r.values r.care) e ∙ c.of_part.ensures.part in
    subst (λ (n : ℕ). P n c.args.f.now) (e ∙ c.width_of-w.ensures ∙ width-met c.args.d c.requires.variables)
    (subst (λ (l : List ℕ). P r.w l) q h)

pub returns-then-w-le-WORD-clause-entries : goal.returns-then-w-le-WORD-clause-entries
returns-then-w-le-WORD-clause-entries c =
    let a = c.args in
    same (goal.at.returns-then-w-le-WORD-clause-entries c).After-of_part
    (λ n l. c.link.result.entries ≡ length (level_parts n (parts_of n a.k a.to a.work.now) (l ∷ [])).parts) c.link.ensures.entries

pub returns-then-w-le-WORD-clause-work : goal.returns-then-w-le-WORD-clause-work
returns-then-w-le-WORD-clause-work c =
    let a = c.args in
    same (goal.at.returns-then-w-le-WORD-clause-work c).After-of_part
    (λ n l. c.link.new.work ≡ written (level_parts n (parts_of n a.k a.to a.work.now) (l ∷ [])) a.to a.l a.work.now) c.link.ensures.work
