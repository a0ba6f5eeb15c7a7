use Rattle.std.proofs.Common.{append_assoc}
use Rattle.tfs_spec.specs.Replays.{line_bytes}
use Rattle.replay_line.proofs.text.line_of_three.Goals as goal

pub returns : goal.returns
unfolding line_bytes
returns c = rw (c.put_number-3.ensures.bytes, c.put_number-2.ensures.bytes, c.put_number.ensures.bytes, c.new-line.ensures) (simp append_assoc)
