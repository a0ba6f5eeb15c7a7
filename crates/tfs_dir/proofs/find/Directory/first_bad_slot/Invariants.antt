use Rattle.list_laws.specs.Least.{Below}
use Rattle.tfs_dir.specs.Find.{slot_bad}
use Rattle.tfs_dir.proofs.find.Directory.first_bad_slot.Given as goal

abbrev pub invariant-loop-s : goal.invariant-loop-s
invariant-loop-s l = Below (slot_bad l.n l.self.bytes.now) l.s
