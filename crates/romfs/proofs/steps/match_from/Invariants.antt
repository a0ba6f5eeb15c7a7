use Rattle.std.proofs.Common.{◌-◌}
use Rattle.romfs_facts.specs.Tested.{IsReached}
use Rattle.romfs.proofs.Laws as laws
use Rattle.romfs.proofs.steps.match_from.Given as goal

abbrev pub invariant-loop-header : goal.invariant-loop-header
invariant-loop-header l =
    let s = l.tree.image.bytes.now in
    IsReached s l.p × laws.Match s l.name l.tree.image.full l.first l.p

abbrev pub decreases-loop-header : goal.decreases-loop-header
decreases-loop-header l = l.tree.image.full - l.p
