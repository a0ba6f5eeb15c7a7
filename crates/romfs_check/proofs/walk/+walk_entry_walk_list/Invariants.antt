use Rattle.std.proofs.Common.{◌≡◌, ◌+◌, ◌-◌}
use Rattle.romfs_spec.specs.Check.{fault}
use Rattle.romfs_links.specs.Window.{Window}
use Rattle.romfs_check.specs.Known.{Here}
use Rattle.romfs_check.proofs.Laws as laws
use Rattle.romfs_check.proofs.walk.+walk_entry_walk_list.Given as goal

-- each list is one level below its entry, and an entry is on the level of its list
abbrev pub decreases-walk_entry : goal.decreases-walk_entry
decreases-walk_entry l = l.left + l.left

abbrev pub decreases-walk_list : goal.decreases-walk_list
decreases-walk_list l = l.left + l.left + 1

abbrev pub invariant-walk_list-loop-image : goal.invariant-walk_list-loop-image
invariant-walk_list-loop-image l =
    let s = l.image.bytes.now in
    Here s l.image.full l.p l.list.bound l.left × laws.Rest s (fault s) l.left l.list.bound l.list.first l.p × (l.marks.lo ≡ 0) × Window s 0 l.marks.bits

abbrev pub decreases-walk_list-loop-image : goal.decreases-walk_list-loop-image
decreases-walk_list-loop-image l = l.list.bound - l.p
