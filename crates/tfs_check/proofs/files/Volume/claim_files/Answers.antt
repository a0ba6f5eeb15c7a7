use Rattle.std.proofs.Common.{arith, ◌∙◌}
use borrow.Author.Count.{below_none, below_more}
use Rattle.lists.specs.Lists.{least}
use Rattle.list_laws.specs.Least.{found, none_found}
use Rattle.tfs_spec.specs.Layout.{view}
use Rattle.tfs_spec.specs.Check.{bad_inode}
use Rattle.tfs_check.specs.Claimed.{marked-none, doubled-start, marked_more, doubled-more}
use Rattle.tfs_check.specs.Order.{found-at, found-none}
use Rattle.tfs_check.proofs.files.Volume.claim_files.Goals as goal

pub loop-s-init : goal.loop-s-init
loop-s-init c =
    let v = view 512 c.args.self.now.image.now in
    record { right = below_none _; marked = marked-none v _; twice = doubled-start v _ _ }

pub returns-in_default-clause-verdict : goal.returns-in_default-clause-verdict
returns-in_default-clause-verdict c =
    found-at 5 25 _ _ _ (found _ _ _ (omega arith) c.loop-s.invariant.right (rw c.in_default.is at c.claim_slot.ensures)) (omega arith)

pub loop-s-preserved : goal.loop-s-preserved
loop-s-preserved c =
    let v = view 512 c.args.self.now.image.now in
    let (right, marked, twice) = rw c.in-Some.is at c.claim_slot.ensures in
    record {
      right = below_more _ _ c.loop-s.invariant.right right;
      marked = marked ∙ rw c.loop-s.invariant.marked (marked_more v _ c.loop-s.s);
      twice = twice ∙ rw (c.loop-s.invariant.marked, c.loop-s.invariant.twice) (doubled-more v _ c.loop-s.s _);
    }

pub returns-clause-verdict : goal.returns-clause-verdict
returns-clause-verdict c =
    let bad = bad_inode 512 (view 512 c.args.self.now.image.now) in
    found-none 5 25 (least bad 25) _ (omega (arith, none_found bad 25 c.loop-s.s (omega arith) (omega arith) c.loop-s.invariant.right))
