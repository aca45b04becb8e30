-- The bytes that a network file is written with, one field after the other.
-- Assumes nothing.
use mathlib.Core.Path.{◌≡◌, refl}
use mathlib.Core.List.{List}
use Prim.Native.Nat.{ℕ, ◌+◌, ◌*◌, ◌-◌, ◌/◌, ◌%◌, ◌≤◌, ◌<◌}
use native.Mathlib.Omega.{arith}
use borrow.Author.Tests.{lt-ltb, le-ltb, ne_eqb}
use lib.ListN.{get_or}
use Rattle.diagram.specs.Networks.Bound.{most_variables}
use Rattle.block.specs.Block.{content_at}
use Rattle.block.specs.Numbers.{number_byte}
use Rattle.table.specs.declared.State.{State}
use Rattle.network_file.specs.File.{count_at, roots_at, block_numbers, carried_numbers}
use Rattle.network_file.specs.Write.{heading_byte, cells_byte}

-- the heading
module _ (s : State) (roots : List ℕ) where
  pub inputs-field : heading_byte s roots 4 ≡ s.n
  unfolding heading_byte
  inputs-field = refl

  pub outputs-field : heading_byte s roots 5 ≡ s.m
  unfolding heading_byte
  outputs-field = refl

  module _ (i : ℕ) where
    pub order-field : 6 ≤ i → i < 6 + s.n → s.n ≤ most_variables → heading_byte s roots i ≡ get_or s.order (i - 6) 0
    unfolding heading_byte
    order-field h l g =
        rw (ne_eqb i 4 (λ e. omega arith), ne_eqb i 5 (λ e. omega arith), lt-ltb i count_at (omega arith), lt-ltb i (6 + s.n) l)

    pub unused-field : 6 + s.n ≤ i → i < count_at → heading_byte s roots i ≡ 0
    unfolding heading_byte
    unused-field h l =
        rw (ne_eqb i 4 (λ e. omega arith), ne_eqb i 5 (λ e. omega arith), lt-ltb i count_at l, le-ltb i (6 + s.n) h)

    pub count-field : count_at ≤ i → i < roots_at → heading_byte s roots i ≡ number_byte s.count (i - count_at)
    unfolding heading_byte
    count-field h l =
        rw (ne_eqb i 4 (λ e. omega arith), ne_eqb i 5 (λ e. omega arith), le-ltb i count_at h, lt-ltb i roots_at l)

    pub root-field : roots_at ≤ i → i < roots_at + 2 * s.m
        → heading_byte s roots i ≡ number_byte (get_or roots ((i - roots_at) / 2) 0) ((i - roots_at) % 2)
    unfolding heading_byte
    root-field h l =
        rw (
          ne_eqb i 4 (λ e. omega arith),
          ne_eqb i 5 (λ e. omega arith),
          le-ltb i count_at (omega arith),
          le-ltb i roots_at h,
          lt-ltb i (roots_at + 2 * s.m) l,
        )

    pub rest-field : roots_at + 2 * s.m ≤ i → heading_byte s roots i ≡ 0
    unfolding heading_byte
    rest-field h =
        rw (
          ne_eqb i 4 (λ e. omega arith),
          ne_eqb i 5 (λ e. omega arith),
          le-ltb i count_at (omega arith),
          le-ltb i roots_at (omega arith),
          le-ltb i (roots_at + 2 * s.m) h,
        )

-- a block that carries cells
module _ (count : ℕ) (cells : List ℕ) (k i : ℕ) where
  pub carried-field : i < content_at + 2 * carried_numbers count k
      → cells_byte count cells k i ≡ number_byte (get_or cells (block_numbers * (k - 1) + (i - content_at) / 2) 0) ((i - content_at) % 2)
  unfolding cells_byte
  carried-field l = rw (lt-ltb i (content_at + 2 * carried_numbers count k) l)

  pub past-field : content_at + 2 * carried_numbers count k ≤ i → cells_byte count cells k i ≡ 0
  unfolding cells_byte
  past-field l = rw (le-ltb i (content_at + 2 * carried_numbers count k) l)
