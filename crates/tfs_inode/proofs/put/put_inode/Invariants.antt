use Rattle.std.proofs.Common.{◌≡◌, length}
use Rattle.tfs_inode.specs.Put.{begun}
use Rattle.tfs_inode.proofs.put.put_inode.Given as goal

abbrev pub invariant-loop-i : goal.invariant-loop-i
invariant-loop-i l = (length l.ino ≡ 512) × (l.ino ≡ begun l.size l.blocks l.i)
