use mathlib.Core.Path.{◌≡◌}
use Prim.Native.Nat.{◌+◌, ◌*◌}
use lib.ListN.{length, take}
use Rattle.lists.specs.Lists.{table}
use Rattle.timing_spec.specs.Timing.{pair_at}
use Rattle.timing.proofs.bytes.values_of.Given as goal

abbrev pub invariant-loop-i : goal.invariant-loop-i
invariant-loop-i l = (length l.values ≡ 28) × (take l.i l.values ≡ table (λ j. pair_at l.bytes (8 + 2 * j)) 0 l.i)
