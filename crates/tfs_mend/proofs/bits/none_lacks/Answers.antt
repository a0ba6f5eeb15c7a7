use Rattle.std.proofs.Common.{arith}
use borrow.Author.Count.{below_more}
use Rattle.tfs_mend.specs.Missing.{byte-whole}
use Rattle.tfs_mend.proofs.bits.none_lacks.Goals as goal

pub loop-i-preserved : goal.loop-i-preserved
loop-i-preserved c =
    λ z. below_more _ _ (grind (arith, c.loop-i.invariant)) (grind (arith, byte-whole c.args.map.now c.args.owned.now c.loop-i.i))
