use Rattle.tfs_trace_write.proofs.+put_groups.Given as goal

-- each call puts a group less
abbrev pub decreases-put_groups : goal.decreases-put_groups
decreases-put_groups l = l.left
