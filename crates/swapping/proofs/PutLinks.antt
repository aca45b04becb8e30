-- Links put one after the other: they stand there, and other bytes are as they were.
-- Assumes nothing.
use mathlib.Core.Path.{◌≡◌, refl, ◌∙◌}
use mathlib.Core.List.{List, [], ◌∷◌}
use Prim.Native.Nat.{ℕ, ◌+◌, ◌*◌, ◌/◌, ◌%◌, ◌≤◌}
use native.Mathlib.Omega.{arith}
use lib.ListN.{length, set, length-set}
use Rattle.lists.proofs.Written.Outside.{Outside, outside-none, outside-join}
use Rattle.diagram.specs.Filling.Fill.{Link}
use Rattle.matching.specs.Links.{link_number}
use Rattle.fill.proofs.Counting.LinkPairs.{Links}
use Rattle.network.specs.Levels.{put_stored}
use Rattle.swapping.specs.Inner.Exchange.{put_links}
use Rattle.network.proofs.LinksRead.Stored.{outside-put, stored-put, same-stored}

put-length : (work : List ℕ) (i x : ℕ) → length (put_stored work i x) ≡ length work
put-length work i x = length-set (set work i (x % 256)) (i + 1) (x / 256) ∙ length-set work i (x % 256)

pub put-long : (work : List ℕ) (i : ℕ) (ks : List Link) → length (put_links work i ks) ≡ length work
put-long work i [] = refl
put-long work i (k ∷ ks) = put-long (put_stored work i (link_number k)) (i + 2) ks ∙ put-length work i (link_number k)

pub put-outside : (work : List ℕ) (i : ℕ) (ks : List Link) → Outside work (put_links work i ks) i (i + 2 * length ks)
put-outside work i [] = outside-none work i (i + 0)
put-outside work i (k ∷ ks) =
    outside-join (omega arith) (omega arith) (omega arith) (omega arith) (outside-put work i (link_number k))
    (put-outside (put_stored work i (link_number k)) (i + 2) ks)

pub put-there : (work : List ℕ) (i : ℕ) (ks : List Link) → i + 2 * length ks ≤ length work → Links (put_links work i ks) i ks
put-there work i [] h = tt
put-there work i (k ∷ ks) h =
    let w = put_stored work i (link_number k) in
    let o = put-outside w (i + 2) ks in (
      same-stored w (put_links w (i + 2) ks) i (o.under i (omega arith)) (o.under (i + 1) (omega arith))
          ∙ stored-put work i (link_number k) (omega arith),
      put-there w (i + 2) ks (omega (arith, put-length work i (link_number k))),
    )
