-- Planes of d + 2 variables, one after the other in a work buffer from byte `from` on, with their two top variables exchanged one plane
-- at a time.
-- Assumes nothing.
use mathlib.Core.Path.{◌≡◌, refl, sym, ap, ap₂, ◌∙◌}
use mathlib.Core.List.{List, [], ◌∷◌, ◌++◌, map, append_assoc, append-nil, map-append}
use Prim.Native.Nat.{ℕ, zero, suc, ◌+◌, ◌*◌, ◌≤◌, ◌<◌}
use native.Mathlib.Nat.{mul-le-mul_right}
use native.Mathlib.Omega.{arith}
use lib.ListN.{length, take, drop, length-drop, length-map}
use lib.Seq.{take-take, drop-drop, length-take-le}
use Rattle.lists.specs.Written.{splice}
use Rattle.lists.proofs.Written.Splice.{drop-take, length-splice, splice-none, put_back}
use Rattle.lists.proofs.Written.Windows.{drop-behind, splice-append}
use Rattle.reorder.specs.Sizes.{width}
use Rattle.matching.specs.Parts.{chunks, flat}
use Rattle.matching.specs.Level.{parts_at}
use Rattle.matching.specs.Exchange.{exchanged_plane, exchanged_part}
use Rattle.matching.proofs.Parts.PartExchange.{length_exchanged}
use Rattle.matching.proofs.Buffers.Chunks.{flat_append, length-chunks, chunks-more}
use Rattle.matching.proofs.Buffers.PartLengths.{Long, long-chunks, length-flat}

-- two planes make a part
part-planes : (d : ℕ) (l : List ℕ)
    → let w = width (suc (suc d)) in
    exchanged_part d (take (w + w) l) ≡ exchanged_plane d (take w l) ++ exchanged_plane d (take w (drop w l))
unfolding exchanged_part
part-planes d l =
    let w = width (suc (suc d)) in
    ap₂ (λ (x y : List ℕ). exchanged_plane d x ++ exchanged_plane d y) (take-take w (w + w) l (omega arith)) (drop-take w w l)

planes-parts : (d k : ℕ) (l : List ℕ)
    → let w = width (suc (suc d)) in
    flat (map (exchanged_plane d) (chunks w (2 * k) l)) ≡ flat (map (exchanged_part d) (chunks (w + w) k l))
planes-parts d zero l = refl
planes-parts d (suc k) l =
    let w = width (suc (suc d)) in
    let two : 2 * suc k ≡ suc (suc (2 * k)) = omega arith in
    let a = exchanged_plane d (take w l) in
    let b = exchanged_plane d (take w (drop w l)) in
    ap (λ (n : ℕ). flat (map (exchanged_plane d) (chunks w n l))) two
    ∙ ap (λ (y : List ℕ). a ++ (b ++ y))
    (ap (λ (y : List ℕ). flat (map (exchanged_plane d) (chunks w (2 * k) y))) (drop-drop w w l) ∙ planes-parts d k (drop (w + w) l))
    ∙ sym (append_assoc a b (flat (map (exchanged_part d) (chunks (w + w) k (drop (w + w) l)))))
    ∙ ap (λ (y : List ℕ). y ++ flat (map (exchanged_part d) (chunks (w + w) k (drop (w + w) l)))) (sym (part-planes d l))

long-exchanged : (d : ℕ) (ps : List (List ℕ)) → Long (width (suc (suc d))) ps → Long (width (suc (suc d))) (map (exchanged_plane d) ps)
long-exchanged d [] h = tt
long-exchanged d (p ∷ ps) h = (length_exchanged d p h.0, long-exchanged d ps h.1)

-- plane i is one of those of k parts
pub plane-fits : (i k w from n : ℕ) → i < 2 * k → from + k * (w + w) ≤ n → from + (i + 1) * w ≤ n
plane-fits i k w from n h m =
    let j : i + 1 ≤ 2 * k = omega arith in
    omega (arith, mul-le-mul_right w j)

module _ (d from : ℕ) (work : List ℕ) where
  abbrev planes : ℕ → List (List ℕ)
  planes i = map (exchanged_plane d) (chunks (width (suc (suc d))) i (drop from work))

  -- with the first i planes exchanged
  abbrev pub exchanged_to : ℕ → List ℕ
  exchanged_to i = splice work from (flat (planes i))

  pub exchanged-none : work ≡ exchanged_to 0
  exchanged-none = sym (splice-none work from)

  pub exchanged-all : (k : ℕ) → exchanged_to (2 * k) ≡ splice work from (flat (map (exchanged_part d) (parts_at (suc (suc d)) k from work)))
  exchanged-all k = ap (splice work from) (planes-parts d k (drop from work))

  length-planes : (i : ℕ) → from + i * width (suc (suc d)) ≤ length work → length (flat (planes i)) ≡ i * width (suc (suc d))
  length-planes i h =
      let w = width (suc (suc d)) in
      let rest = drop from work in
      length-flat w (planes i) (long-exchanged d (chunks w i rest) (long-chunks w i rest (omega (arith, length-drop from work))))
      ∙ ap (λ (k : ℕ). k * w) (length-map (chunks w i rest) (exchanged_plane d) ∙ length-chunks w i rest)

  pub length-exchanged-to : (i : ℕ) → from + i * width (suc (suc d)) ≤ length work → length (exchanged_to i) ≡ length work
  length-exchanged-to i h = length-splice work from (flat (planes i)) (omega (arith, length-planes i h))

  -- plane i, lent as n bytes at a, is put back as x
  module _ (i a n : ℕ) (m x : List ℕ) (fits : from + (i + 1) * width (suc (suc d)) ≤ length work) (at : a ≡ from + i * width (suc (suc d)))
      (wide : n ≡ width (suc (suc d))) (is : m ≡ exchanged_to i) (made : x ≡ exchanged_plane d (take n (drop a m))) where
    abbrev w : ℕ
    w = width (suc (suc d))

    abbrev rest : List ℕ
    rest = drop from work

    plane-is : take n (drop a m) ≡ take w (drop (i * w) rest)
    plane-is =
        ap₂ (λ (j k : ℕ). take j (drop k m)) wide at
        ∙ ap (take w)
        (ap (drop (from + i * w)) is
        ∙ drop-behind work from (flat (planes i)) (omega arith) (from + i * w) (omega (arith, length-planes i (omega arith)))
        ∙ sym (drop-drop (i * w) from work))

    made-is : x ≡ exchanged_plane d (take w (drop (i * w) rest))
    made-is = made ∙ ap (exchanged_plane d) plane-is

    length-made : length x ≡ n
    length-made =
        ap length made-is
        ∙ length_exchanged d (take w (drop (i * w) rest))
        (length-take-le w (drop (i * w) rest) (omega (arith, length-drop (i * w) rest, length-drop from work)))
        ∙ sym wide

    pub exchanged-more : take a m ++ (x ++ drop n (drop a m)) ≡ exchanged_to (i + 1)
    exchanged-more =
        let y = flat (planes i) in
        let z = exchanged_plane d (take w (drop (i * w) rest)) in
        let e : a ≡ from + length y = omega (arith, length-planes i (omega arith)) in
        put_back m a n x length-made
        ∙ ap₂ (λ (k : ℕ) (l : List ℕ). splice l k x) e is
        ∙ splice-append work from y (omega arith) x
        ∙ ap (splice work from)
        (ap (λ (l : List ℕ). y ++ l) (made-is ∙ sym (append-nil z))
        ∙ sym (flat_append (planes i) (z ∷ []))
        ∙ ap flat (sym (map-append (exchanged_plane d) (chunks w i rest) (take w (drop (i * w) rest) ∷ [])))
        ∙ ap (λ (l : List (List ℕ)). flat (map (exchanged_plane d) l)) (sym (chunks-more w i rest)))
