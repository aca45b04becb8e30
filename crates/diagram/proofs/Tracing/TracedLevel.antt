-- One level of the network read off links. E are the functions of the entries below, ls the links of the halves of the level's entries;
-- so the level's entries are the pairs of what the links stand for, and one depends exactly where its two links differ.
-- Where the classes of the segments ts are those of the entries that depend, the links give the references, the nodes and the count.
-- Assumes nothing.
use mathlib.Core.Path.{◌≡◌, refl, sym, ap, ap₂, ◌∙◌, subst}
use mathlib.Core.Bool.{Bool, true, false, not, ◌&&◌}
use mathlib.Core.List.{List, [], ◌∷◌, ◌++◌, map, append_assoc}
use Prim.Native.Nat.{ℕ, suc, ◌+◌, ◌<◌}
use native.Mathlib.Omega.{arith}
use lib.Dec.{T}
use lib.ListN.{length, length-append}
use lib.Seq.{get_or-append_seam}
use Rattle.lists.specs.Lists.{all, index, distinct}
use Rattle.lists.proofs.Bools.{split}
use Rattle.lists.proofs.Lists.Membership.{Equality, index-get_or}
use Rattle.diagram.specs.Tree.{Tree, node, half, halves, pairs, first, same}
use Rattle.diagram.specs.Filling.Fill.{Link, follow}
use Rattle.diagram.specs.Networks.Diagram.{Node, inverts, opposite}
use Rattle.diagram.specs.Networks.Network.{depends, normal, classes, reference, refer, node_of}
use Rattle.diagram.specs.Networks.Trace.{same_link, differing, link_ref, entry_refs, entry_nodes}
use Rattle.diagram.proofs.Tree.{same-equality, half-inverted, varies}
use Rattle.diagram.proofs.Tracing.SeenClasses.{listed}
use Rattle.diagram.proofs.Tracing.Rising.{Valid, AllValid}
use Rattle.diagram.proofs.Tracing.Followed.{follow-same}
use Rattle.diagram.proofs.Networks.Refers.{reference-inverts, refer-inverted, refer-follow}
use Rattle.diagram.proofs.Networks.Known.{refer-depends, refer-skips, refer-inverts}

listed-node : {d : ℕ} (inv : Bool) (t : Tree Bool (suc d)) (ts : List (Tree Bool (suc d))) → depends t ≡ true
    → listed inv (t ∷ ts) ≡ normal inv t ∷ listed inv ts
listed-node inv t ts e = rw e

listed-rest : {d : ℕ} (inv : Bool) (t : Tree Bool (suc d)) (ts : List (Tree Bool (suc d))) → depends t ≡ false
    → listed inv (t ∷ ts) ≡ listed inv ts
listed-rest inv t ts e = rw e

abbrev cell : ℕ → ℕ → ℕ → Node
cell p l h = record { level = p; low = l; high = h }

index-seam : {A : Type 0} (eq : A → A → Bool) (q : Equality eq) (xs : List A) (y : A) (ys : List A) → T (distinct eq (xs ++ y ∷ ys))
    → index eq y (xs ++ y ∷ ys) ≡ length xs
index-seam {A} eq q xs y ys t =
    ap (λ z. index eq z (xs ++ y ∷ ys)) (sym (get_or-append_seam xs y ys y))
    ∙ index-get_or eq q (xs ++ y ∷ ys) (length xs) y t (subst (λ n. length xs < n) (sym (length-append xs (y ∷ ys))) (omega arith))

one_more : {A : Type 0} (base : ℕ) (xs : List A) (y : A) → base + length (xs ++ y ∷ []) ≡ suc (base + length xs)
one_more base xs y = omega (arith, length-append xs (y ∷ []))

module _ {d : ℕ} (inv : Bool) (E : List (Tree Bool d)) (apart : T (distinct same (map (normal inv) E))) (varied : T (all varies E)) where
  depends-links : (k l : Link) → Valid inv (length E) k → Valid inv (length E) l
      → depends (node (follow E k) (follow E l)) ≡ not (same_link k l)
  depends-links k l p q = ap not (follow-same inv E apart varied k l p q)

  pub count-links : (ls : List Link) → AllValid inv (length E) ls → length (listed inv (pairs (map (follow E) ls))) ≡ differing ls
  count-links [] v = refl
  count-links (k ∷ []) v = refl
  count-links (k ∷ l ∷ ls) v =
      let e = depends-links k l v.0 v.1.0 in
      rw e (split (same_link k l) (λ q. rw q (count-links ls v.1.1)) (λ q. rw q (ap suc (count-links ls v.1.1))))

  -- ts are the level's segments, `more` the nodes at the levels above the next
  module _ (ts : List (Tree Bool (suc d))) (more : ℕ) where
    -- the references of the entries below
    abbrev pub refs_of : List ℕ
    refs_of = map (refer inv d more (halves ts)) E

    inverts-link : (k : Link) → Valid inv (length E) k → inverts inv (link_ref refs_of k) ≡ (inv && first (follow E k))
    inverts-link k p = ap (inverts inv) (sym (refer-follow inv more (halves ts) E k p)) ∙ refer-inverts inv d more (halves ts) (follow E k)

    -- an edge of the node of t's class
    edge-link : (b : Bool) (t : Tree Bool (suc d)) (k l : Link) → Valid inv (length E) k → Valid inv (length E) l
        → first t ≡ first (follow E k) → half b t ≡ follow E l
        → refer inv d more (halves ts) (half b (normal inv t)) ≡ opposite (inverts inv (link_ref refs_of k)) (link_ref refs_of l)
    edge-link b t k l p q f h =
        ap (refer inv d more (halves ts)) (half-inverted b (inv && first t) t) ∙ refer-inverted inv (first t) d more (halves ts) (half b t)
        ∙ ap₂ opposite (ap (λ c. inv && c) f ∙ sym (inverts-link k p))
        (ap (refer inv d more (halves ts)) h ∙ refer-follow inv more (halves ts) E l q)

    pub nodes-links : (p : ℕ) (ls : List Link) → AllValid inv (length E) ls
        → map (node_of inv p more (halves ts)) (listed inv (pairs (map (follow E) ls))) ≡ entry_nodes inv p refs_of ls
    nodes-links p [] v = refl
    nodes-links p (k ∷ []) v = refl
    nodes-links p (k ∷ l ∷ ls) v =
        let t = node (follow E k) (follow E l) in
        let rest = pairs (map (follow E) ls) in
        let e = depends-links k l v.0 v.1.0 in
        let N = node_of inv p more (halves ts) in
        split (same_link k l)
        (λ q. rw q (ap (map N) (listed-rest inv t rest (e ∙ ap not q)) ∙ nodes-links p ls v.1.1))
        (λ q. rw q
        (ap (map N) (listed-node inv t rest (e ∙ ap not q))
        ∙ ap₂ (λ (c : Node) (l : List Node). c ∷ l)
        (ap₂ (cell p) (edge-link false t k k v.0 v.0 refl refl) (edge-link true t k l v.0 v.1.0 refl refl))
        (nodes-links p ls v.1.1)))

    -- cs are the classes of the entries before; the next that depends stands at their number in the list of classes
    pub refs-links : (base : ℕ) (cs : List (Tree Bool (suc d))) (ls : List Link) → AllValid inv (length E) ls
        → base + length (classes inv ts) ≡ more
        → T (distinct same (classes inv ts)) → classes inv ts ≡ cs ++ listed inv (pairs (map (follow E) ls))
        → map (refer inv (suc d) base ts) (pairs (map (follow E) ls)) ≡ entry_refs inv (base + length cs) refs_of ls
    refs-links base cs [] v m t c = refl
    refs-links base cs (k ∷ []) v m t c = refl
    refs-links base cs (k ∷ l ∷ ls) v m t c =
        let u = node (follow E k) (follow E l) in
        let n = normal inv u in
        let rest = pairs (map (follow E) ls) in
        let e = depends-links k l v.0 v.1.0 in
        split (same_link k l)
        (λ q. rw q
        (ap₂ (λ (r : ℕ) (l : List ℕ). r ∷ l)
        (refer-skips inv base ts u (e ∙ ap not q) ∙ ap (λ b. refer inv d b (halves ts) (follow E k)) m
        ∙ refer-follow inv more (halves ts) E k v.0)
        (refs-links base cs ls v.1.1 m t (c ∙ ap (λ (x : List (Tree Bool (suc d))). cs ++ x) (listed-rest inv u rest (e ∙ ap not q))))))
        (λ q. let f = c ∙ ap (λ (x : List (Tree Bool (suc d))). cs ++ x) (listed-node inv u rest (e ∙ ap not q)) in
        rw q
        (ap₂ (λ (r : ℕ) (l : List ℕ). r ∷ l)
        (refer-depends inv base ts u (e ∙ ap not q)
        ∙ ap (λ j. reference inv (base + j) (first u))
        (ap (index same n) f ∙ index-seam same same-equality cs n (listed inv rest) (subst (λ x. T (distinct same x)) f t))
        ∙ sym (reference-inverts inv (base + length cs) (first u)) ∙ ap (reference inv (base + length cs)) (sym (inverts-link k v.0)))
        (refs-links base (cs ++ n ∷ []) ls v.1.1 m t (f ∙ sym (append_assoc cs (n ∷ []) (listed inv rest)))
        ∙ ap (λ j. entry_refs inv j refs_of ls) (one_more base cs n))))
