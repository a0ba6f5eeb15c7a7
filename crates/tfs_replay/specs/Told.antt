-- What replay comes to, in the rules' terms.
use Rattle.std.specs.Prelude.{ℕ, Result, Ok, Err}
use Rattle.tfs_spec.specs.Replays as rules
use Rattle.tfs_replay.specs.declared.Stop.{Stop}
use Rattle.tfs_replay.specs.declared.Stop.TheVariants.{Malformed, Differs}

abbrev pub replayed_told : Result ℕ Stop → rules.Replayed
replayed_told (Ok n) = rules.replayed n
replayed_told (Err (Malformed k)) = rules.malformed_at k
replayed_told (Err (Differs k)) = rules.differs_at k
