use Rattle.std.proofs.Common.{◌≡◌, ◌+◌, ◌-◌}
use Rattle.romfs_links.specs.Known.{At}
use Rattle.romfs_links.specs.Window.{Window}
use Rattle.romfs_links.specs.Tour.{State, Kept}
use Rattle.romfs_links.proofs.Laws as laws
use Rattle.romfs_links.proofs.tree.Tree.+tour_entry_tour_list.Given as goal

-- each list is one level below its entry, and an entry is on the level of its list
abbrev pub decreases-tour_entry : goal.decreases-tour_entry
decreases-tour_entry l = l.left + l.left

abbrev pub decreases-tour_list : goal.decreases-tour_list
decreases-tour_list l = l.left + l.left + 1

abbrev pub invariant-tour_list-loop-next : goal.invariant-tour_list-loop-next
invariant-tour_list-loop-next l =
    let s = l.self.image.bytes.now in
    let full = l.self.image.full in
    let lo = l.marks.lo in
    At s full l.p l.list.bound l.left
    × (lo ≡ l.fn.marks.lo)
    × Window s lo l.marks.bits
    × State s full lo l.here.low l.here.far
    × Kept l.fn.found.low l.fn.found.far l.here.low l.here.far
    × laws.Rest s full lo l.fill l.here.low l.here.far l.list.first l.p l.list.bound l.left

abbrev pub decreases-tour_list-loop-next : goal.decreases-tour_list-loop-next
decreases-tour_list-loop-next l = l.list.bound - l.p
