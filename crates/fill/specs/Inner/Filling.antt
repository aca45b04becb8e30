-- What a filling of a held table comes to, in a work buffer of its size.
-- Assumes nothing.
use Rattle.std.specs.Prelude.{true, List, [], map, ℕ}
use Rattle.diagram.specs.Filling.Fill.{level, trace}
use Rattle.table.specs.declared.State.{State}
use Rattle.reorder.specs.Pack.{encode}
use Rattle.matching.specs.Links.{link_bytes}
use Rattle.fill.specs.Work.{trace_work}
use Rattle.fill.specs.Calls.{drawn_outputs}
use Rattle.fill.specs.Inner.Descent.{holding}

-- after level 0: its entries and the outputs' links
unfoldable pub first_work : State → List ℕ → List ℕ → List ℕ → List ℕ
first_work s values care work =
    holding 0 (map encode (level true [] (drawn_outputs s values care)).entries)
    (link_bytes (level true [] (drawn_outputs s values care)).links) work

-- after all levels
unfoldable pub filled_work : State → List ℕ → List ℕ → List ℕ → List ℕ
filled_work s values care work = trace_work (trace true s.n (drawn_outputs s values care)) work
