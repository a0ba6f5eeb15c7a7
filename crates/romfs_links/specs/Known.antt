-- What is known of an image at a place of the code.
use Rattle.std.specs.Prelude.{ℕ, ◌-◌, ◌≤◌, ◌≡◌, Option, Some, None, cond, leb, List}
use Rattle.romfs_spec.specs.Check.{accepted, walk}
use Rattle.romfs_facts.specs.Tested.{Reached}
use Rattle.romfs_facts.specs.Walked.{Volume}
use Rattle.romfs_headers.specs.Whole.{Whole}

-- rules 21 to 28 have been tested
pub record Walked (s : List ℕ) (full : ℕ) : Type 0 where
  pub whole : Whole s full
  pub volume : Volume s
  pub walked : walk s ≡ accepted

-- a tour comes to a header at p, in a list with its bound and with left lists below it
pub record At (s : List ℕ) (full p bound left : ℕ) : Type 0 where
  pub walked : Walked s full
  pub deep : left ≤ 7
  pub reached : Reached s p bound (8 - left)

-- an offset that is at or before the wanted one
abbrev pub up_to : ℕ → Option ℕ → Option ℕ
up_to want None = None
up_to want (Some to) = cond (leb to want) (Some to) None
