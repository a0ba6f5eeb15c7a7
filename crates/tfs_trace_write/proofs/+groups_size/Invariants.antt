use Rattle.tfs_trace_write.proofs.+groups_size.Given as goal

-- each call counts a group less
abbrev pub decreases-groups_size : goal.decreases-groups_size
decreases-groups_size l = l.left
