use Rattle.std.proofs.Common.{arith, length-set}
use Rattle.spans.specs.Copy.{copy_more}
use Rattle.tfs_runs.proofs.copy.copy_block.Goals as goal

pub loop-i-preserved : goal.loop-i-preserved
loop-i-preserved c = (
  rw c.loop-i.invariant.0 (copy_more c.args.src.now c.args.dst.now c.loop-i.i (omega (arith, c.requires.1)) (omega (arith, c.requires.0))),
  simp length-set c.loop-i.invariant.1,
)
