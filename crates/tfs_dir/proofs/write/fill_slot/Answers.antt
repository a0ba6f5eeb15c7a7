use mathlib.Core.Path.{◌≡◌, ap, ◌∙◌}
use native.Mathlib.Nat.{add-sub_cancel_left}
use native.Mathlib.Omega.{arith}
use lib.ListN.{length}
use Rattle.lists.specs.Lists.{zeros, part, with_part}
use Rattle.list_laws.specs.Part.{length_part}
use Rattle.tfs_dir.specs.Entry.{entry-written}
use Rattle.tfs_dir.proofs.write.fill_slot.Goals as goal

pub returns : goal.returns
unfolding with_part part
returns c =
    let field : length (part 4 16 c.put32.new.p) ≡ 16 = length_part 4 16 c.put32.new.p (omega (arith, c.put32.auto.p)) in
    let blank = c.zero.ensures ∙ ap zeros field in
    rw (add-sub_cancel_left, c.copy_from_slice.ensures.after, blank, c.put32.ensures)
    (entry-written c.args.inode c.args.name.now c.args.slot.now (omega arith) c.requires.0)
