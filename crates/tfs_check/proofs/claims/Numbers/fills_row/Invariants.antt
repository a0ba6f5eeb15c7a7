use Rattle.std.proofs.Common.{◌≡◌, ℕ, ◌+◌, ◌<◌}
use Rattle.tfs_spec.specs.Layout.{inode_number}
use Rattle.tfs_check.proofs.claims.Numbers.fills_row.Given as goal

abbrev pub invariant-loop-j : goal.invariant-loop-j
invariant-loop-j l = (i : ℕ) → i < l.j → inode_number l.self.ino.bytes.now (l.k + i) ≡ l.b + i
