use mathlib.Core.Path.{◌≡◌}
use Prim.Native.Nat.{◌≤◌, ◌+◌, ◌-◌}
use lib.ListN.{length, take}
use Rattle.lists.specs.Lists.{store_bytes}
use Rattle.tfs_runs.specs.Place.{at, Numbered}
use Rattle.tfs_runs.proofs.write.write_runs.Given as goal

abbrev pub invariant-loop-done : goal.invariant-loop-done
invariant-loop-done l = (l.done ≤ l.count) × (l.image ≡ store_bytes (at l.ino.bytes.now) l.initial.image l.offset (take l.done l.buf)) × (length l.image ≡ length l.initial.image) × Numbered l.ino.bytes.now (l.offset + l.done) (l.offset + l.count) l.b

abbrev pub decreases-loop-done : goal.decreases-loop-done
decreases-loop-done l = l.count - l.done
