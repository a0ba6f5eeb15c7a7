use native.Mathlib.Nat.{add-sub_cancel_left}
use Rattle.std.proofs.Common.{rules}
use Rattle.lists.specs.Lists.{part}
use Rattle.tfs_spec.specs.Layout.{block}
use Rattle.tfs_layout.proofs.block_of.Goals as goal

pub returns : goal.returns
unfolding block part
returns c = (simp add-sub_cancel_left, search rules)
