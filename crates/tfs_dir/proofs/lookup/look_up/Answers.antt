use Rattle.std.proofs.Common.{subst, sym, arith}
use Rattle.tfs_spec.specs.Layout.{view}
use Rattle.tfs_spec.specs.Consistent.{File}
use Rattle.tfs_facts.specs.Names.{slot-hit}
use Rattle.tfs_dir.proofs.lookup.look_up.Goals as goal

pub returns-clause-file : goal.returns-clause-file
returns-clause-file c =
    subst (File 512 (view 512 c.args.image.now)) (sym c.in-Some.ensures.first)
    (slot-hit 512 (view 512 c.args.image.now) c.args.name.now (omega (arith, c.in-Some.ensures.first, c.in-Some.ensures.below))).0
