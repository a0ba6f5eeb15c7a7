use mathlib.Core.Path.{◌≡◌}
use Prim.Native.Nat.{◌*◌, ◌≤◌}
use Rattle.tfs_facts.specs.MapOnes.{ones_to}
use Rattle.tfs_ones.proofs.ones_below.Given as goal

abbrev pub invariant-loop-k : goal.invariant-loop-k
invariant-loop-k l = (l.ones ≡ ones_to l.map l.n l.k) × (l.ones ≤ 32 * l.k)
