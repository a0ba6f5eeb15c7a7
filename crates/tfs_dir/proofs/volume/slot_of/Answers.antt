use Rattle.tfs_spec.specs.Layout.{view}
use Rattle.tfs_dir.specs.Find.{slot-of}
use Rattle.tfs_dir.proofs.volume.slot_of.Goals as goal

pub returns-clause-first : goal.returns-clause-first
returns-clause-first c =
    rw (slot-of (view 512 c.args.image.now) c.args.name.now, ← c.of.ensures) c.find_name.ensures.first
