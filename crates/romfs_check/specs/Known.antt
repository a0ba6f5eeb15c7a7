-- What is known of an image at a place of the code.
use Rattle.std.specs.Prelude.{ℕ, ◌-◌, ◌≤◌, ◌<◌, List}
use Rattle.romfs_facts.specs.Tested.{Reached}
use Rattle.romfs_headers.specs.Whole.{Whole}

-- the walk comes to a header at p, in a list with its bound and with left lists below it
pub record Here (s : List ℕ) (full p bound left : ℕ) : Type 0 where
  pub whole : Whole s full
  pub before : p < bound
  pub within : bound ≤ full
  pub deep : left ≤ 7
  pub reached : Reached s p bound (8 - left)
