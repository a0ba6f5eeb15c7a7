use Rattle.std.proofs.Common.{◌≡◌, ◌+◌, ◌++◌, length, drop}
use Rattle.tfs_inode.specs.Claims.{claimed}
use Rattle.tfs_inode.proofs.read.Inode.blocks.Given as goal

abbrev pub invariant-loop-k : goal.invariant-loop-k
invariant-loop-k l = (l.out ≡ claimed l.own l.self.bytes.now l.k ++ drop (1 + l.k) l.initial.out) × (length l.out ≡ 128)
