-- The roots, one after the other.
-- Assumes nothing.
use mathlib.Core.Path.{◌≡◌}
use mathlib.Core.List.{List}
use Prim.Native.Nat.{ℕ, ◌+◌, ◌*◌, ◌≤◌, ◌<◌}
use borrow.Author.Tests.{lt-ltb, le-ltb}
use Rattle.fill.specs.Work.{links_at}
use Rattle.network.specs.Levels.{stored_at, ref_at, root_at}

pub root-past : (work : List ℕ) (m below j : ℕ) → m ≤ j → root_at work m below j ≡ 0
unfolding root_at
root-past work m below j h = rw (le-ltb j m h)

pub root-link : (work : List ℕ) (m below j : ℕ) → j < m → root_at work m below j ≡ ref_at work below (stored_at work (links_at + 2 * j))
unfolding root_at
root-link work m below j h = rw (lt-ltb j m h)
