-- The bytes from the index on are left.
use Rattle.std.proofs.Common.{◌≡◌, drop}
use Rattle.packed.specs.Hash.{hash_on}
use Rattle.packed.proofs.hash_on.Given as goal

abbrev pub invariant-loop-b : goal.invariant-loop-b
invariant-loop-b l = hash_on l.h (drop l.b-index l.s) ≡ hash_on l.hash l.s
