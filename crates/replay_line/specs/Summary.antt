-- The numbers in the line of a summary.
use Rattle.std.specs.Prelude.{ℕ, List, [], ◌∷◌, Ok, Err}
use Rattle.tfs_spec.specs.Replays.{line_numbers}
use Rattle.tfs.specs.Told.{replay_told}
use Rattle.replay_line.specs.declared.Summary.{Summary}
use Rattle.replay_line.specs.declared.Summary.TheVariants.{Replayed, Stopped, Trouble}

abbrev pub numbers : Summary → List ℕ
numbers (Replayed n) = line_numbers (replay_told (Ok n))
numbers (Stopped e) = line_numbers (replay_told (Err e))
numbers Trouble = 4 ∷ []
