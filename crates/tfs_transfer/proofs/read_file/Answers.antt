use Rattle.std.proofs.Common.{refl}
use Rattle.tfs_transfer.specs.Transfer.{read_all}
use Rattle.tfs_transfer.proofs.read_file.Goals as goal

pub returns-clause-buffer : goal.returns-clause-buffer
returns-clause-buffer c =
    read_all c.in_ok-reach.ensures.reach _ c.in_block.ensures _ _ refl c.read_runs.ensures
