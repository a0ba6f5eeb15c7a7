use native.Mathlib.Omega.{arith}
use Rattle.std.proofs.Common.{rules}
use Rattle.tfs_runs.specs.Place.{at}
use Rattle.tfs_runs.proofs.run.run_of.Goals as goal

pub returns : goal.returns
unfolding at
returns c = (rw c.requires.3, search rules, omega arith, c.straight-len.ensures.2, c.number_at.ensures)
