use mathlib.Core.Path.{◌≡◌}
use Prim.Native.Nat.{ℕ, ◌≤◌, ◌+◌, ◌-◌}
use mathlib.Core.List.{List}
use lib.ListN.{length, get_or}
use Rattle.lists.specs.Lists.{same_list, table}
use Rattle.tfs_runs.specs.Place.{at, Numbered}
use Rattle.tfs_runs.specs.Same.{SameFrom}
use Rattle.tfs_runs.proofs.same.same_runs.Given as goal

abbrev byte : List ℕ → List ℕ → ℕ → ℕ
byte image ino p = get_or image (at ino p) 0

abbrev pub invariant-loop-done : goal.invariant-loop-done
invariant-loop-done l = (l.done ≤ length l.bytes) × (same_list l.bytes (table (byte l.image l.ino.bytes.now) l.offset (length l.bytes)) ≡ SameFrom (byte l.image l.ino.bytes.now) l.offset l.bytes l.done) × Numbered l.ino.bytes.now (l.offset + l.done) (l.offset + length l.bytes) l.b

abbrev pub decreases-loop-done : goal.decreases-loop-done
decreases-loop-done l = length l.bytes - l.done
