use Rattle.tfs_runs.specs.Blank.{Neighbours}
use Rattle.tfs_runs.proofs.blank.neighbours.Given as goal

abbrev pub invariant-loop-n : goal.invariant-loop-n
invariant-loop-n l = Neighbours l.blocks l.i l.n
