use mathlib.Core.List.{◌++◌}
use mathlib.Core.Path.{◌≡◌}
use Prim.Native.Nat.{◌≤◌, ◌+◌, ◌-◌}
use lib.ListN.{length, get_or, drop}
use Rattle.lists.specs.Lists.{table}
use Rattle.tfs_runs.specs.Place.{at, Numbered}
use Rattle.tfs_runs.proofs.read.read_runs.Given as goal

abbrev pub invariant-loop-done : goal.invariant-loop-done
invariant-loop-done l = (l.done ≤ l.count) × (l.buf ≡ table (λ p. get_or l.image (at l.ino.bytes.now p) 0) l.offset l.done ++ drop l.done l.initial.buf) × (length l.buf ≡ length l.initial.buf) × Numbered l.ino.bytes.now (l.offset + l.done) (l.offset + l.count) l.b

abbrev pub decreases-loop-done : goal.decreases-loop-done
decreases-loop-done l = l.count - l.done
