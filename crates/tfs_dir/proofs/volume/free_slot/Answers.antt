use Rattle.tfs_spec.specs.Layout.{view}
use Rattle.tfs_dir.specs.Find.{free-slot}
use Rattle.tfs_dir.proofs.volume.free_slot.Goals as goal

pub returns-clause-first : goal.returns-clause-first
returns-clause-first c =
    rw (free-slot (view 512 c.args.image.now), ← c.of.ensures) c.find_free.ensures.first
