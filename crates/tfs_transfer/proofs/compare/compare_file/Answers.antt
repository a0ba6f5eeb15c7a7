use Rattle.tfs_transfer.specs.Compare.{compare_same}
use Rattle.tfs_transfer.proofs.compare.compare_file.Goals as goal

pub returns-then-bytes-reach-clause-same : goal.returns-then-bytes-reach-clause-same
returns-then-bytes-reach-clause-same c =
    compare_same c.in_ok-reach.ensures.reach _ c.in_block.ensures _ _ c.if-bytes-reach.true c.same_runs.ensures
