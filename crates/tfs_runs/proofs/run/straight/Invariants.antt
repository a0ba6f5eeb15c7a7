use mathlib.Core.Path.{◌≡◌}
use Prim.Native.Nat.{◌+◌, ◌-◌, ◌*◌, ◌/◌, ◌%◌, ◌<◌}
use Rattle.tfs_spec.specs.Layout.{inode_number}
use Rattle.tfs_runs.specs.Place.{Counts}
use Rattle.tfs_runs.proofs.run.straight.Given as goal

abbrev pub invariant-loop-len : goal.invariant-loop-len
invariant-loop-len l = (0 < l.n) × (l.p % 512 + l.len ≡ l.n * 512) × Counts (inode_number l.ino.bytes.now) (l.p / 512) l.n

abbrev pub decreases-loop-len : goal.decreases-loop-len
decreases-loop-len l = l.most - l.len
