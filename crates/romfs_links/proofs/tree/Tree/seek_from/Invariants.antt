use Rattle.std.proofs.Common.{◌-◌}
use Rattle.romfs_facts.specs.Tested.{IsReached}
use Rattle.romfs_links.proofs.Laws as laws
use Rattle.romfs_links.proofs.tree.Tree.seek_from.Given as goal

abbrev pub invariant-loop-p : goal.invariant-loop-p
invariant-loop-p l = IsReached l.self.image.bytes.now l.p × laws.Path l.self.image.bytes.now l.self.image.full l.want l.from l.p

abbrev pub decreases-loop-p : goal.decreases-loop-p
decreases-loop-p l = l.self.image.full - l.p
