use Rattle.list_laws.specs.Least.{Below}
use Rattle.tfs_spec.specs.Layout.{slot, slot_free}
use Rattle.tfs_dir.proofs.find.Directory.find_free.Given as goal

abbrev pub invariant-loop-free : goal.invariant-loop-free
invariant-loop-free l = Below (λ t. slot_free (slot l.self.bytes.now t)) l.free
