use Rattle.std.proofs.Common.{◌≡◌, length}
use Rattle.tfs_mend.specs.Extra.{clear_extra}
use Rattle.tfs_mend.proofs.bits.clear_extra.Given as goal

abbrev pub invariant-loop-k : goal.invariant-loop-k
invariant-loop-k l = record { cleared : l.map ≡ clear_extra l.fn.map l.owned l.k; whole : length l.map ≡ 512 }
