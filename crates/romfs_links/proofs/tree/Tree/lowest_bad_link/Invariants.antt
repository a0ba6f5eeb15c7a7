use Rattle.std.proofs.Common.{◌-◌, ◌≤◌, ◌≡◌, ◌≢◌, true}
use Rattle.romfs_spec.specs.Check.{bad_link}
use Rattle.romfs_facts.specs.Tested.{IsReached}
use Rattle.romfs_links.specs.Window.{Window}
use Rattle.romfs_links.specs.Tour.{Tested}
use Rattle.romfs_links.proofs.tree.Tree.lowest_bad_link.Given as goal

abbrev pub invariant-loop-found : goal.invariant-loop-found
invariant-loop-found l =
    let s = l.self.image.bytes.now in
    let full = l.self.image.full in
    Window s l.marks.lo l.marks.bits × (l.low ≤ full) × (l.low ≢ full → IsReached s l.low × (bad_link s l.low ≡ true)) × Tested s l.marks.lo l.low

abbrev pub decreases-loop-found : goal.decreases-loop-found
decreases-loop-found l = l.self.image.full - l.marks.lo
