-- Section 4 of document 01, 'At most 2,159 cells are ever needed': the general bound, summed over the levels.
-- Assumes nothing.
use Rattle.std.specs.Prelude.{Bool, true, false, ℕ, zero, suc, ◌+◌, ◌*◌, ◌-◌, ◌^◌, min}

-- how many classes of functions of d variables there are
abbrev pub classes_over : Bool → ℕ → ℕ
classes_over true d = 2 ^ (2 ^ d - 1)
classes_over false d = 2 ^ (2 ^ d)

-- the most nodes from a level on, where d levels are left and its segments are k: at a level as many as there are segments,
-- or classes that depend on its variable
unfoldable pub bound : Bool → ℕ → ℕ → ℕ
bound inv zero k = 0
bound inv (suc d) k = min k (classes_over inv (suc d) - classes_over inv d) + bound inv d (2 * k)

-- the largest n, the largest m, and the most nodes they need
abbrev pub most_variables : ℕ
most_variables = 10

abbrev pub most_outputs : ℕ
most_outputs = 16

abbrev pub most_nodes : ℕ
most_nodes = 2159
