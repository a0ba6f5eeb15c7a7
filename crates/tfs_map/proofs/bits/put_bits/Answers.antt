use Rattle.std.specs.Prelude.{cond}
use Rattle.std.proofs.Common.{rules}
use Rattle.tfs_map.specs.Bits.{bits-take}
use Rattle.tfs_map.proofs.bits.put_bits.Goals as goal

pub loop-b-preserved : goal.loop-b-preserved
loop-b-preserved c =
    rw (c.put_bit.ensures, c.loop-b.invariant, bits-take c.args.map.now (cond c.args.one 1 0) c.args.blocks.now c.loop-b.b-index (search rules))
