-- A list with a part of it written over.
-- Assumes nothing.
use Rattle.std.specs.Prelude.{List, ◌++◌, map, ℕ, ◌+◌, drop, length, take}
use Rattle.lists.specs.Lists.{up_to}

-- f 0 to f (k - 1), then l from its element k on
abbrev pub over : {A : Type 0} → (ℕ → A) → ℕ → List A → List A
over f k l = map f (up_to k) ++ drop k l

-- l with x from byte k on, in the stead of as many elements
unfoldable pub splice : List ℕ → ℕ → List ℕ → List ℕ
splice l k x = take k l ++ (x ++ drop (k + length x) l)
