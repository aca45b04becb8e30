-- The network read off the links in the work buffer, one entry after the other, from the lowest level up. An entry has two links of two
-- bytes; once it is read, its reference stands in the first one's bytes.
-- Assumes nothing.
use Rattle.std.specs.Prelude.{true, cond, List, [], ◌∷◌, ℕ, zero, suc, ◌+◌, ◌*◌, ◌-◌, ◌/◌, ◌%◌, eqb, ltb, get_or, set}
use Rattle.std.proofs.lemmas.List.Edits.{sets}
use Rattle.lists.specs.Sums.{sum_below}
use Rattle.diagram.specs.Networks.Diagram.{inverts, opposite}
use Rattle.diagram.specs.Networks.Network.{reference}
use Rattle.fill.specs.Work.{links_at}
use Rattle.fill.specs.Counts.{link_at}

-- what a number of two bytes is below
abbrev pub stored_limit : ℕ
stored_limit = 65536

-- the number of two bytes at byte i, low byte first as a link's, and another one put there
abbrev pub stored_at : List ℕ → ℕ → ℕ
stored_at = link_at

abbrev pub put_stored : List ℕ → ℕ → ℕ → List ℕ
put_stored work i x = set (set work i (x % 256)) (i + 1) (x / 256)

-- the reference that link number k stands for, where the references of the entries below stand every four bytes from byte `below` on
unfoldable pub ref_at : List ℕ → ℕ → ℕ → ℕ
ref_at work below k = cond (ltb k 2) k (opposite (inverts true k) (stored_at work (below + 4 * (k / 2 - 1))))

-- the work buffer, the cells and the index of the next node
pub record Made : Type 0 where
  pub work : List ℕ
  pub cells : List ℕ
  pub next : ℕ

abbrev pub made : List ℕ → List ℕ → ℕ → Made
made work cells next = record { work = work; cells = cells; next = next }

-- of an entry with one reference for both links
abbrev pub passed : ℕ → ℕ → Made → Made
passed i r s = made (put_stored s.work i r) s.cells s.next

-- of an entry with two, r and q: its node, inverted where r inverts
abbrev pub noded : ℕ → ℕ → ℕ → ℕ → Made → Made
noded p i r q s =
    made (put_stored s.work i (reference true s.next (inverts true r)))
    (sets s.cells (3 * s.next) (p ∷ opposite (inverts true r) r ∷ opposite (inverts true r) q ∷ [])) (s.next + 1)

-- the entry of level p whose links begin at byte i
unfoldable pub entry_made : ℕ → ℕ → ℕ → Made → Made
entry_made p below i s =
    cond (eqb (link_at s.work i) (link_at s.work (i + 2))) (passed i (ref_at s.work below (link_at s.work i)) s)
    (noded p i (ref_at s.work below (link_at s.work i)) (ref_at s.work below (link_at s.work (i + 2))) s)

-- e entries of level p, the first one's links at byte i
unfoldable pub level_made : ℕ → ℕ → ℕ → ℕ → Made → Made
level_made p below i zero s = s
level_made p below i (suc e) s = entry_made p below (i + 4 * e) (level_made p below i e s)

-- where level p's links begin, behind those of m outputs
abbrev pub level_at : ℕ → List ℕ → ℕ → ℕ
level_at m entries p = links_at + 2 * m + 4 * sum_below (λ q. get_or entries q 0) p

-- the root of output j, of m: the reference that its link stands for; zero past them
unfoldable pub root_at : List ℕ → ℕ → ℕ → ℕ → ℕ
root_at work m below j = cond (ltb j m) (ref_at work below (link_at work (links_at + 2 * j))) 0

-- level p, whose nodes come behind those of the levels above
abbrev pub level_from : ℕ → List ℕ → List ℕ → ℕ → Made → Made
level_from m entries counts p s =
    level_made p (level_at m entries (suc p)) (level_at m entries p) (get_or entries p 0)
    (made s.work s.cells (sum_below (λ q. get_or counts q 0) p))

-- the k levels from level p on, the lowest first
unfoldable pub levels_made : ℕ → List ℕ → List ℕ → ℕ → ℕ → Made → Made
levels_made m entries counts p zero s = s
levels_made m entries counts p (suc k) s = level_from m entries counts p (levels_made m entries counts (suc p) k s)
