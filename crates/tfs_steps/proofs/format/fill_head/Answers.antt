use Rattle.std.proofs.Common.{arith, rules, ◌++◌, drop}
use native.Mathlib.Nat.{add-sub_cancel_left}
use Rattle.lists.specs.Lists.{with_part}
use Rattle.tfs_steps.specs.Format.{head-written}
use Rattle.tfs_steps.proofs.format.fill_head.Goals as goal

pub returns : goal.returns
unfolding with_part
returns c =
    rw add-sub_cancel_left
    (head-written 508 c.fill.new.self (c.copy_from_slice.new.self ++ drop 4 c.fill.new.self) c.copy_from_slice-2.new.self c.args.label.now
    (omega arith) (search rules) (search rules) (search rules))
