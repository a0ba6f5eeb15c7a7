use mathlib.Core.Path.{◌≡◌}
use mathlib.Core.List.{◌++◌}
use Prim.Native.Nat.{◌+◌, ◌*◌}
use lib.ListN.{length, take}
use Rattle.lists.specs.Lists.{bytes4}
use Rattle.timing_spec.specs.Timing.{pairs}
use Rattle.timing.proofs.bytes.bytes_of.Given as goal

abbrev pub invariant-loop-i : goal.invariant-loop-i
invariant-loop-i l = (length l.bytes ≡ 64) × (take (8 + 2 * l.i) l.bytes ≡ (bytes4 l.board ++ bytes4 l.maker) ++ pairs (take l.i l.values))
