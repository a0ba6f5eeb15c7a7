use Rattle.std.proofs.Common.{sym}
use Rattle.tfs_steps.specs.Ready.{file-ready, sized}
use Rattle.tfs_transfer.specs.Transfer.{beyond, moves, allowed, reaches}
use Rattle.tfs_transfer.proofs.reach_of.Goals as goal

pub file_size-size-requires : goal.file_size-size-requires
file_size-size-requires c = (file-ready _ c.requires.passed _ c.requires.file _ c.inode_at-inode.ensures).0

pub returns-then-size-offset-clause-answer : goal.returns-then-size-offset-clause-answer
returns-then-size-offset-clause-answer c =
    beyond _ _ _ _ _ (sized _ c.requires.passed _ c.requires.file _ _ c.inode_at-inode.ensures c.file_size-size.ensures) c.if-size-offset.true

pub returns-clause-answer : goal.returns-clause-answer
returns-clause-answer c =
    let size_is = sized _ c.requires.passed _ c.requires.file _ _ c.inode_at-inode.ensures c.file_size-size.ensures in
    sym (allowed (moves _ _ _ _ _ size_is _ c.if-size-offset.false c.min-count.ensures))

pub returns-clause-reach : goal.returns-clause-reach
returns-clause-reach c =
    let size_is = sized _ c.requires.passed _ c.requires.file _ _ c.inode_at-inode.ensures c.file_size-size.ensures in
    reaches _ c.requires.passed _ c.requires.file _ _ _ (moves _ _ _ _ _ size_is _ c.if-size-offset.false c.min-count.ensures) c.inode_at-inode.ensures
