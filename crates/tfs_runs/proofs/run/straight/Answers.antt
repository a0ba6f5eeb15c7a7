use native.Mathlib.Omega.{arith}
use Rattle.std.proofs.Common.{rules}
use Rattle.tfs_runs.specs.Place.{straight-in}
use Rattle.tfs_runs.proofs.run.straight.Goals as goal

pub returns-then-block_number-b : goal.returns-then-block_number-b
returns-then-block_number-b c =
    (omega arith, search rules, straight-in c.args.ino.bytes.now c.args.p c.loop-len.n c.loop-len.len (omega arith) c.loop-len.invariant.2)

pub returns : goal.returns
returns c =
    (search rules, search rules, straight-in c.args.ino.bytes.now c.args.p c.loop-len.n c.args.most (omega arith) c.loop-len.invariant.2)
