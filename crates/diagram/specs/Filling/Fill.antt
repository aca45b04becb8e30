-- Section 3 of document 01, as document 02's 2.6 changes it: filling. Level by level a list of entries, each matched by later candidates
-- and merged with them; then every output read back through the links.
-- `inv` says whether a match may invert; section 3's filling has it true.
-- Assumes nothing.
use Rattle.std.specs.Prelude.{Bool, true, false, not, cond, ◌&&◌, ◌||◌, List, [], ◌∷◌, ◌++◌, map, ℕ, zero, suc, get_or, take, drop}
use Rattle.std.specs.Bool.{beq}
use Rattle.lists.specs.Bits.{flip}
use Rattle.diagram.specs.Tree.{Tree, leaf, node, half, pairs, full, inverted}

-- a row of a drawn table: its value, and whether it is cared (document 01's free row: a don't-care)
pub record Row : Type 0 where
  pub value : Bool
  pub care : Bool

-- 'f is v wherever c is 1'
abbrev pub always : {d : ℕ} → Bool → Tree Row d → Bool
always v (leaf r) = not r.care || beq r.value v
always v (node l h) = always v l && always v h

-- 'f = g wherever c and d are both 1', f inverted where i is true
abbrev pub agree : {d : ℕ} → Bool → Tree Row d → Tree Row d → Bool
agree i (leaf r) (leaf s) = not (r.care && s.care) || beq (flip i r.value) s.value
agree i (node l h) (node l' h') = agree i l l' && agree i h h'

-- '(f as compared where c, else g; c or d)'
abbrev pub merge : {d : ℕ} → Bool → Tree Row d → Tree Row d → Tree Row d
merge i (leaf r) (leaf s) = leaf (record { value = cond r.care (flip i r.value) s.value; care = r.care || s.care })
merge i (node l h) (node l' h') = node (merge i l l') (merge i h h')

-- what a candidate ends in: a constant, or an entry's number and whether the entry is inverted
pub data Link : Type 0 where
  const : Bool → Link
  entry : ℕ → Bool → Link

-- the entries after one candidate, and its link
pub record Linked (d : ℕ) : Type 0 where
  pub entries : List (Tree Row d)
  pub link : Link

-- the entries after several candidates, and their links
pub record Level (d : ℕ) : Type 0 where
  pub entries : List (Tree Row d)
  pub links : List Link

abbrev pub after : {d : ℕ} → Tree Row d → Linked d → Linked d
after g p = record { entries = g ∷ p.entries; link = p.link }

-- steps 3 and 4, along the entries from number k on: the first that agrees, plain before inverted; else a new entry
abbrev pub along : {d : ℕ} → Bool → ℕ → Tree Row d → List (Tree Row d) → Linked d
along inv k f [] = record { entries = f ∷ []; link = entry k false }
along inv k f (g ∷ gs) =
    cond (agree false f g) (record { entries = merge false f g ∷ gs; link = entry k false })
    (cond (inv && agree true f g) (record { entries = merge true f g ∷ gs; link = entry k true })
    (after g (along inv (suc k) f gs)))

-- steps 1 to 4: the constants, then the entries
abbrev pub candidate : {d : ℕ} → Bool → Tree Row d → List (Tree Row d) → Linked d
candidate inv f gs =
    cond (always false f) (record { entries = gs; link = const false })
    (cond (always true f) (record { entries = gs; link = const true }) (along inv 0 f gs))

abbrev pub then : {d : ℕ} → Link → Level d → Level d
then k l = record { entries = l.entries; links = k ∷ l.links }

-- candidates in sequence, from the entries gs on
abbrev pub level : {d : ℕ} → Bool → List (Tree Row d) → List (Tree Row d) → Level d
level inv gs [] = record { entries = gs; links = [] }
level inv gs (f ∷ fs) = then (candidate inv f gs).link (level inv (candidate inv f gs).entries fs)

-- document 02, 2.6: whether an entry's halves 'agree wherever both are cared'
abbrev pub unites : {d : ℕ} → Tree Row (suc d) → Bool
unites e = agree false (half true e) (half false e)

-- the 'single candidate' that they become: '1-half where cared, else 0-half; either cared'
abbrev pub united : {d : ℕ} → Tree Row (suc d) → Tree Row d
united e = merge false (half true e) (half false e)

-- the candidates that an entry gives: the one that its halves become, else 'its 0-half then its 1-half'
abbrev pub offered : {d : ℕ} → Tree Row (suc d) → List (Tree Row d)
offered e = cond (unites e) (united e ∷ []) (half false e ∷ half true e ∷ [])

-- the candidates of the level below entries
abbrev pub candidates : {d : ℕ} → List (Tree Row (suc d)) → List (Tree Row d)
candidates [] = []
candidates (e ∷ es) = offered e ++ candidates es

-- two an entry, where xs has one for each candidate: of a single one 'both links follow it'
abbrev pub two_each : {A : Type 0} {d : ℕ} → List (Tree Row (suc d)) → List A → List A
two_each [] xs = []
two_each (e ∷ es) xs =
    cond (unites e) (take 1 xs ++ (take 1 xs ++ two_each es (drop 1 xs))) (take 2 xs ++ two_each es (drop 2 xs))

-- what a link stands for, where `es` are the entries' filled functions
abbrev pub follow : {d : ℕ} → List (Tree Bool d) → Link → Tree Bool d
follow {d} es (const v) = full v d
follow {d} es (entry k i) = inverted i (get_or es k (full false d))

-- a single row ends in a constant
abbrev pub settled : Tree Row 0 → Tree Bool 0
settled (leaf r) = leaf (r.care && r.value)

-- the filled functions of the candidates fs of one level
unfoldable pub fill : Bool → (d : ℕ) → List (Tree Row d) → List (Tree Bool d)
fill inv zero fs = map settled fs
fill inv (suc d) fs =
    map (follow (pairs (two_each (level inv [] fs).entries (fill inv d (candidates (level inv [] fs).entries)))))
    (level inv [] fs).links

-- the links of each level below entries, two an entry
unfoldable pub links_under : Bool → (d : ℕ) → List (Tree Row d) → List (List Link)
links_under inv zero es = []
links_under inv (suc d) es =
    two_each es (level inv [] (candidates es)).links ∷ links_under inv d (level inv [] (candidates es)).entries

-- the links of the candidates, level by level: the outputs', then two an entry of each level in turn
unfoldable pub trace : Bool → (d : ℕ) → List (Tree Row d) → List (List Link)
trace inv d fs = (level inv [] fs).links ∷ links_under inv d (level inv [] fs).entries
