use mathlib.Core.Path.{◌≡◌}
use mathlib.Core.List.{◌++◌}
use Prim.Native.Nat.{◌-◌, ◌≤◌}
use lib.ListN.{length, take, drop}
use Rattle.tfs_spec.specs.Requests.{free_from}
use Rattle.tfs_map.proofs.room.pick_into.Given as goal

abbrev pub invariant-loop-i : goal.invariant-loop-i
invariant-loop-i l = (l.from ≤ l.n) × (free_from l.map l.from (l.n - l.from) ≡ drop l.i (free_from l.map 0 l.n)) × (l.out ≡ take l.i (free_from l.map 0 l.n) ++ drop l.i l.initial.out) × (length l.out ≡ length l.initial.out)
