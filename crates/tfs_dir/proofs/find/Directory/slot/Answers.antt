use native.Mathlib.Nat.{add-sub_cancel_left}
use Rattle.lists.specs.Lists.{part}
use Rattle.tfs_spec.specs.Layout.{slot}
use Rattle.std.proofs.Common.{rules}
use Rattle.tfs_dir.proofs.find.Directory.slot.Goals as goal

pub returns : goal.returns
unfolding slot part
returns c = simp add-sub_cancel_left (search rules)
