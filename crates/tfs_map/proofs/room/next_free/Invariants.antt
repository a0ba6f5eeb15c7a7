use mathlib.Core.Path.{◌≡◌}
use Prim.Native.Nat.{◌-◌, ◌≤◌}
use Rattle.tfs_map.specs.Free.{next_free}
use Rattle.tfs_map.proofs.room.next_free.Given as goal

abbrev pub invariant-loop-b : goal.invariant-loop-b
invariant-loop-b l = (l.b ≤ l.n) × (next_free l.map l.b (l.n - l.b) ≡ next_free l.map l.from (l.n - l.from))

abbrev pub decreases-loop-b : goal.decreases-loop-b
decreases-loop-b l = l.n - l.b
