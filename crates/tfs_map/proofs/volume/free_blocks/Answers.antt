use native.Mathlib.Omega.{arith}
use Rattle.tfs_spec.specs.Layout.{view}
use Rattle.tfs_facts.specs.Views.{view-n}
use Rattle.tfs_map.specs.Free.{free-blocks}
use Rattle.tfs_map.proofs.volume.free_blocks.Goals as goal

pub returns : goal.returns
returns c = (
  rw (free-blocks (view 512 c.args.image.now), view-n 512 c.args.image.now, ← c.blocks-n.ensures.0, ← c.map_of.ensures.0) c.free_count.ensures.0,
  omega arith,
)
