use Rattle.std.proofs.Common.{arith}
use Rattle.tfs_steps.specs.Ready.{file-ready}
use Rattle.tfs_change.specs.Remove.{front_claims, front_under}
use Rattle.tfs_change.proofs.blocks_of.Goals as goal

pub file_blocks-count-requires : goal.file_blocks-count-requires
file_blocks-count-requires c = file-ready _ c.requires.passed _ c.requires.file _ c.inode_at-inode.ensures

pub returns-clause-claims : goal.returns-clause-claims
returns-clause-claims c = front_claims _ c.requires.passed _ c.requires.file _ c.inode_at-inode.ensures _ c.file_blocks-count.ensures.0 _ _ c.file_blocks-count.ensures.1

pub returns-clause-under : goal.returns-clause-under
returns-clause-under c = front_under _ c.requires.passed _ c.requires.file _ c.inode_at-inode.ensures _ c.file_blocks-count.ensures.0 _ _ c.file_blocks-count.ensures.1

pub shared_ref_as_front-result : goal.shared_ref_as_front-result
shared_ref_as_front-result c = omega (arith, c.file_blocks-count.ensures.0, (file-ready _ c.requires.passed _ c.requires.file _ c.inode_at-inode.ensures).2)
