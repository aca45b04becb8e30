-- What candidates of w bytes of values ask of a work buffer, and what linking them leaves.
-- Assumes nothing.
use Rattle.std.specs.Prelude.{◌≡◌, List, ◌++◌, ℕ, ◌+◌, ◌*◌, ◌≤◌, length, drop}
use Rattle.matching.specs.Parts.{LinkedPart, level_parts, flat}
use Rattle.matching.specs.Links.{region_size, word_size, link_number}
use Rattle.matching.specs.Level.{parts_of, written}
use Rattle.matching.specs.declared.candidate.Linked.{Linked}
use Rattle.matching.specs.declared.entries.Entries.{Entries}

-- one candidate: what it comes to, as numbers and as the bytes of a region, which is as it was behind the entries' parts
pub record LinksTo (w : ℕ) (p : LinkedPart) (old : List ℕ) (r : Linked) (new : List ℕ) : Type 0 where
  pub entries : r.entries ≡ length p.parts
  pub link : r.link ≡ link_number p.link
  pub region : new ≡ flat p.parts ++ drop (length p.parts * (w + w)) old

-- the work buffer has room for n more entries, and for their links
pub record HasRoom (n w : ℕ) (e : Entries) (buffer : List ℕ) : Type 0 where
  pub region : e.to + region_size + word_size ≤ length buffer
  pub parts : (e.count + n) * (w + w) ≤ region_size
  pub links : e.links + 2 * n ≤ length buffer

-- the candidates fs linked one after the other
pub record Links (w : ℕ) (fs : List (List ℕ)) (old new : Entries) (before after : List ℕ) : Type 0 where
  pub to : new.to ≡ old.to
  pub count : new.count ≡ length (level_parts w (parts_of w old.count old.to before) fs).parts
  pub links : new.links ≡ old.links + 2 * length fs
  pub work : after ≡ written (level_parts w (parts_of w old.count old.to before) fs) old.to old.links before
