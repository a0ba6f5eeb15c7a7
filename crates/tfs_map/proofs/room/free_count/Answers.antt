use native.Mathlib.Omega.{arith}
use Rattle.tfs_map.specs.Free.{free-ones}
use Rattle.tfs_map.proofs.room.free_count.Goals as goal

pub returns : goal.returns
returns c =
    (omega (arith, free-ones c.args.map.now c.args.n, c.ones_below.ensures.1), omega arith)
