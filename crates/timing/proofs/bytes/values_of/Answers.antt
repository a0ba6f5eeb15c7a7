use native.Mathlib.Omega.{arith}
use lib.ListN.{length-set}
use Rattle.timing.specs.Bytes.{read_more, read_all}
use Rattle.timing.proofs.bytes.values_of.Goals as goal

pub loop-i-preserved : goal.loop-i-preserved
loop-i-preserved c =
    (simp length-set c.loop-i.invariant.0, read_more c.args.bytes.now c.loop-i.values c.loop-i.i c.value_at.result (omega (arith, c.loop-i.invariant.0)) c.value_at.ensures c.loop-i.invariant.1)

pub returns : goal.returns
returns c =
    read_all c.args.bytes.now c.loop-i.values c.loop-i.i (omega arith) c.loop-i.invariant.0 c.loop-i.invariant.1
