use native.Mathlib.Nat.{add-sub_cancel_left}
use Rattle.lists.specs.Lists.{with_part}
use Rattle.tfs_spec.specs.Layout.{set_block}
use Rattle.tfs_steps.proofs.place.store_inode.Goals as goal

pub returns : goal.returns
unfolding set_block with_part
returns c = rw c.put_inode.ensures (simp add-sub_cancel_left)
