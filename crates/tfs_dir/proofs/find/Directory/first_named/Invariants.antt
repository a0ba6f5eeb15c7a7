use Rattle.list_laws.specs.Least.{Below}
use Rattle.tfs_dir.specs.Find.{slot_holds}
use Rattle.tfs_dir.proofs.find.Directory.first_named.Given as goal

abbrev pub invariant-loop-s : goal.invariant-loop-s
invariant-loop-s l = Below (slot_holds l.self.bytes.now l.name) l.s
