use native.Mathlib.Nat.{add-sub_cancel_left}
use Rattle.lists.specs.Lists.{with_part}
use Rattle.tfs_spec.specs.Layout.{set_slot}
use Rattle.tfs_dir.proofs.write.put_slot.Goals as goal

pub returns : goal.returns
unfolding set_slot with_part
returns c = rw c.fill_slot.ensures (simp add-sub_cancel_left)
