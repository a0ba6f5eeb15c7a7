use Rattle.std.specs.Prelude.{refl}
use Rattle.tfs_spec.specs.Replays.{line_bytes}
use Rattle.replay_line.proofs.text.line_of_one.Goals as goal

pub returns : goal.returns
unfolding line_bytes
returns c = rw (c.put_number.ensures.bytes, c.new-line.ensures) refl
