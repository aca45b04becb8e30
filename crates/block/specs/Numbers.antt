-- Lent bytes and numbers (document 01, section 2): 'roots of 16 bits, and cells of three 16-bit numbers'.
-- Assumes nothing.
use Rattle.std.specs.Prelude.{Bool, cond, List, ℕ, ◌/◌, ◌%◌, eqb, ltb}
use Rattle.lists.specs.Lists.{all}

-- every number of a list is a byte, as in every lent slice of bytes
abbrev pub are_bytes : List ℕ → Bool
are_bytes = all (λ b. ltb b 256)

-- what each of the numbers is below
abbrev pub number_limit : ℕ
number_limit = 65536

-- byte b of such a number, 0 or 1, as a file has it: 'low byte first'
abbrev pub number_byte : ℕ → ℕ → ℕ
number_byte x b = cond (eqb b 0) (x % 256) (x / 256)
