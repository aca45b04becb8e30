-- `network_file::good::file_good` meets its contract: the roots, then the cells.
-- Assumes nothing.
use mathlib.Core.Path.{◌≡◌, sym, ap₂, ◌∙◌}
use mathlib.Core.Bool.{true}
use Prim.Native.Nat.{ℕ}
use Rattle.diagram.specs.Networks.Diagram.{well_formed}
use Rattle.lent.specs.Lent.{diagram_by}
use Rattle.lent.proofs.Tested.{formed-not, formed-rest}
use Rattle.network_file.specs.File.{file_root, cell_number, file_diagram}
use Rattle.network_file.proofs.good.file_good.Goals as goal
use Rattle.network_file.proofs.good.file_good.Goals.{Start}

-- the count and the outputs in hand are the file's
own-formed : (c : Start)
    → let a = c.args in
    let f = a.file.now in
    well_formed true a.n a.m (diagram_by a.count a.m (cell_number f) (file_root f)) ≡ well_formed true a.n a.m (file_diagram f)
unfolding file_diagram
own-formed c =
    let a = c.args in
    let f = a.file.now in
    ap₂ (λ (x y : ℕ). well_formed true a.n a.m (diagram_by x y (cell_number f) (file_root f))) c.requires.count_value.0
    c.requires.count_value.1

pub returns-else-roots_good : goal.returns-else-roots_good
returns-else-roots_good c =
    let a = c.args in
    let f = a.file.now in
    let g = c.roots_good in
    c.if-roots_good.false
    ∙ sym
    (sym (own-formed (goal.at.returns-else-roots_good c).Start)
    ∙ formed-not a.count (cell_number f) (file_root f) a.m a.n
    (sym g.ensures ∙ c.if-roots_good.false))

pub returns-then-roots_good : goal.returns-then-roots_good
returns-then-roots_good c =
    let a = c.args in
    let f = a.file.now in
    let g = c.roots_good in
    c.nodes_good.ensures
    ∙ sym
    (formed-rest a.count (cell_number f) (file_root f) a.m a.n
    (sym g.ensures ∙ c.if-roots_good.true))
    ∙ own-formed (goal.at.returns-then-roots_good c).Start
