use Rattle.std.proofs.Common.{◌≡◌}
use Rattle.list_laws.specs.Least.{Below}
use Rattle.tfs_mend.specs.Missing.{byte_lacks}
use Rattle.tfs_mend.proofs.bits.none_lacks.Given as goal

abbrev pub invariant-loop-i : goal.invariant-loop-i
invariant-loop-i l = l.lacks ≡ 0 → Below (byte_lacks l.map l.owned) l.i
