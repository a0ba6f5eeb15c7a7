use Rattle.std.proofs.Common.{refl, ◌∙◌}
use Rattle.tfs_transfer.specs.Transfer.{write_all}
use Rattle.tfs_transfer.proofs.write_file.Goals as goal

pub returns-clause-image : goal.returns-clause-image
returns-clause-image c =
    write_all c.in_ok-reach.ensures.reach _ (c.copy_block.ensures ∙ c.block_of.ensures.0) _ _ refl c.write_runs.ensures
