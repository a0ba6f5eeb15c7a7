use Rattle.tfs_trace.proofs.number.+groups.Given as goal

-- each call reads a group less
abbrev pub decreases-groups : goal.decreases-groups
decreases-groups l = l.left
