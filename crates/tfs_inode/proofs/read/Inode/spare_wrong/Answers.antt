use Rattle.tfs_inode.specs.Wrong.{spare-is}
use Rattle.tfs_inode.proofs.read.Inode.spare_wrong.Goals as goal

pub returns : goal.returns
returns c =
    spare-is c.args.self.bytes.now c.args.count c.args.self.whole c.requires.0 c.requires.1 c.all_zero.result c.all_zero.ensures
