-- What is looked for of a candidate f, of w bytes of values: the constant that it is, and the first of several entries that it agrees with.
-- Assumes nothing.
use Rattle.std.specs.Prelude.{Bool, true, false, cond, List, [], ◌∷◌, ℕ, suc, Option, Some, None}
use Rattle.matching.specs.Parts.{always_part, agree_part}

-- the constant that f is wherever it is cared for, false before true
unfoldable pub constant : ℕ → List ℕ → Option Bool
constant w f = cond (always_part false w f) (Some false) (cond (always_part true w f) (Some true) None)

-- whether f agrees with g inverted, where it agrees, plain before inverted
unfoldable pub agreement : ℕ → List ℕ → List ℕ → Option Bool
agreement w f g = cond (agree_part false w f g) (Some false) (cond (agree_part true w f g) (Some true) None)

-- the first of the parts gs, counted from e on, that f agrees with, and whether inverted
unfoldable pub found : ℕ → ℕ → List ℕ → List (List ℕ) → Option (ℕ × Bool)
found w e f [] = None
found w e f (g ∷ gs) =
    cond (agree_part false w f g) (Some (e, false)) (cond (agree_part true w f g) (Some (e, true)) (found w (suc e) f gs))
