use Rattle.tfs_change.specs.Remove.{remove_done}
use Rattle.tfs_change.proofs.remove_step.Goals as goal

pub returns-clause-image : goal.returns-clause-image
returns-clause-image c = remove_done _ _ _ c.in_ok-s.ensures.told _ _ c.blocks_of-blocks.ensures.claims c.erase_file.ensures
