use Rattle.std.proofs.Common.{◌≡◌, arith, sym, ◌∙◌}
use Rattle.lists.specs.Lists.{least}
use Rattle.tfs_spec.specs.Layout.{view}
use Rattle.tfs_spec.specs.Check.{bad_slot}
use Rattle.tfs_check.specs.Order.{slots_at}
use Rattle.tfs_check.proofs.check_claims.Goals as goal

pub invariant_of-claim_blocks : goal.invariant_of-claim_blocks
invariant_of-claim_blocks c =
    let none : 25 ≡ least (bad_slot (view 512 c.args.image.now)) 25 = rw c.of.ensures at c.in_default.ensures.first ∙ slots_at _ _ c.blocks-n.ensures.0 in
    record { formed = record { long = omega arith; slots = sym none }; counted = c.blocks-n.ensures.0 }
