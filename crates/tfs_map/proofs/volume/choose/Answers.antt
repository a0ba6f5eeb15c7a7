use native.Mathlib.Omega.{arith}
use Rattle.std.proofs.Common.{rules}
use Rattle.tfs_spec.specs.Layout.{view}
use Rattle.tfs_facts.specs.Views.{view-n}
use Rattle.tfs_map.specs.Free.{free-blocks, free-length}
use Rattle.tfs_map.proofs.volume.choose.Goals as goal

pub pick-requires : goal.pick-requires
pick-requires c =
    let free = free-blocks (view 512 c.args.image.now) in (
      search rules,
      search rules,
      search rules,
      rw (c.map_of.ensures.0, c.blocks-n.ensures.0, ← view-n 512 c.args.image.now, free-length (view 512 c.args.image.now).map (view 512 c.args.image.now).n) (omega (arith, c.requires.2, free)),
    )

pub returns : goal.returns
returns c =
    rw (view-n 512 c.args.image.now, ← c.blocks-n.ensures.0, ← c.map_of.ensures.0) c.pick.ensures
