use Rattle.std.proofs.Common.{◌≡◌, ◌-◌, ◌≤◌, ◌<◌}
use Rattle.list_laws.specs.Least.{Below}
use Rattle.tfs_spec.specs.Layout.{set_bits}
use Rattle.tfs_inode.specs.Wrong.{number_wrong}
use Rattle.tfs_check.specs.Doubled.{numbers_to, doubled}
use Rattle.tfs_check.specs.Taken.{held}
use Rattle.tfs_check.proofs.claims.Numbers.claim.Given as goal

abbrev pub invariant-loop-k : goal.invariant-loop-k
invariant-loop-k l =
    record {
      listed : l.k ≤ l.self.count;
      right : Below (number_wrong 512 l.self.n l.self.ino.bytes.now) l.k;
      small : l.taken.row < 512;
      marked : held l.owned l.taken.row l.taken.byte ≡ set_bits l.fn.owned 1 (numbers_to l.self.ino.bytes.now l.k);
      twice : l.least ≡ doubled l.fn.owned (numbers_to l.self.ino.bytes.now l.k) l.low;
    }

abbrev pub decreases-loop-k : goal.decreases-loop-k
decreases-loop-k l = l.self.count - l.k
