use Rattle.std.proofs.Common.{◌≡◌}
use Rattle.list_laws.specs.Least.{Below}
use Rattle.tfs_spec.specs.Layout.{set_bits, view}
use Rattle.tfs_spec.specs.Check.{bad_inode, claims_to}
use Rattle.tfs_check.specs.Doubled.{doubled}
use Rattle.tfs_check.proofs.files.Volume.claim_files.Given as goal

abbrev pub invariant-loop-s : goal.invariant-loop-s
invariant-loop-s l =
    record {
      right : Below (bad_inode 512 (view 512 l.self.image.now)) l.s;
      marked : l.owned ≡ set_bits l.fn.owned 1 (claims_to 512 (view 512 l.self.image.now) l.s);
      twice : l.low ≡ doubled l.fn.owned (claims_to 512 (view 512 l.self.image.now) l.s) l.self.n;
    }
