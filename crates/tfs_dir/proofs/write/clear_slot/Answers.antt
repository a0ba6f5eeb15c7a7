use mathlib.Core.Path.{ap, ◌∙◌}
use native.Mathlib.Nat.{add-sub_cancel_left}
use Rattle.lists.specs.Lists.{zeros, part, with_part}
use Rattle.tfs_spec.specs.Layout.{slot, set_slot}
use Rattle.tfs_dir.specs.Slots.{length-slot}
use Rattle.tfs_dir.proofs.write.clear_slot.Goals as goal

pub returns : goal.returns
unfolding set_slot with_part slot part
returns c =
    let cut = simp add-sub_cancel_left at c.zero.ensures in
    let cleared = cut ∙ ap zeros (length-slot c.args.dir.now c.args.s c.requires.0 c.requires.1) in
    rw cleared (simp add-sub_cancel_left)
