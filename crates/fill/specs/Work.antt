-- The work buffer after a filling: the links of the levels, two bytes each, lowest first, behind two regions that are zero again.
-- Assumes nothing.
use Rattle.std.specs.Prelude.{cond, List, [], ◌∷◌, ◌++◌, ℕ, ◌*◌, ◌-◌, leb, length, drop, replicate}
use Rattle.diagram.specs.Filling.Fill.{Link}
use Rattle.matching.specs.Links.{region_size, link_bytes}

-- the bytes of the work buffer that a call uses, and where the links begin: behind two regions for the levels' entries
unfoldable pub work_size : ℕ
work_size = 32768

unfoldable pub links_at : ℕ
links_at = 2 * region_size

abbrev pub all_links : List (List Link) → List Link
all_links [] = []
all_links (ks ∷ kss) = ks ++ all_links kss

-- a work buffer that holds the links of a filling and nothing else; what lies past its size is as it was
unfoldable pub trace_work : List (List Link) → List ℕ → List ℕ
trace_work kss work =
    replicate links_at 0
    ++ (link_bytes (all_links kss) ++ (replicate (work_size - links_at - length (link_bytes (all_links kss))) 0 ++ drop work_size work))

-- the bytes that trials use: two regions that are kept, two on the way down, and one for the links of a level
unfoldable pub trials_size : ℕ
trials_size = 5 * region_size

-- a work buffer in which these are zero; what lies behind them is as it was
unfoldable pub trials_zero : List ℕ → List ℕ
trials_zero work = replicate trials_size 0 ++ drop trials_size work

-- a work buffer that is zero; what lies past its size is as it was
unfoldable pub zero_work : List ℕ → List ℕ
zero_work work = replicate work_size 0 ++ drop work_size work

-- the same, where it has its size; a shorter one is as it was
unfoldable pub cleared_work : List ℕ → List ℕ
cleared_work work = cond (leb work_size (length work)) (zero_work work) work
