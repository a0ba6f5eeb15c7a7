use Rattle.std.proofs.Common.{◌≡◌, ◌≤◌, ◌-◌, length}
use Rattle.tfs_spec.specs.Check.{consistent, check}
use Rattle.tfs_spec.specs.Traces.{read_trace}
use Rattle.tfs_spec.specs.Replays.{replay_on}
use Rattle.tfs_replay.proofs.Records.{replay_from}
use Rattle.tfs_replay.proofs.replay_records.Given as goal

abbrev pub invariant-loop-cursor : goal.invariant-loop-cursor
invariant-loop-cursor l = (l.cursor.at ≤ length l.trace)
    × (l.done ≤ l.cursor.at)
    × (l.cursor.trace.now ≡ l.trace)
    × (check 512 l.image ≡ consistent)
    × (replay_on 512 l.initial.image 0 (read_trace l.trace) ≡ replay_from l.trace l.image l.done l.cursor.at)

abbrev pub decreases-loop-cursor : goal.decreases-loop-cursor
decreases-loop-cursor l = length l.trace - l.cursor.at
