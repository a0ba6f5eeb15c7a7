use Rattle.std.proofs.Common.{sym}
use Rattle.std.proofs.lemmas.Result.{err_from_is_err_and}
use Rattle.romfs_spec.specs.Check.{check}
use Rattle.romfs_facts.specs.Walked.{volume-of}
use Rattle.romfs_check.proofs.Laws as laws
use Rattle.romfs_check.proofs.check.Goals as goal

pub returns-in_err-image-clause-verdict : goal.returns-in_err-image-clause-verdict
unfolding check
returns-in_err-image-clause-verdict c =
    let e = err_from_is_err_and c.from_residual.result c.from_residual.ensures.1 in
    rw (e.1, e.2) (laws.broken-on _ _ _ _ c.in_err-image.ensures.verdict)

pub check_headers-requires : goal.check_headers-requires
check_headers-requires c = let y = c.in_ok-image.ensures in rw y.image (volume-of _ (sym y.verdict))

pub returns-in_err-tree-clause-verdict : goal.returns-in_err-tree-clause-verdict
unfolding check
returns-in_err-tree-clause-verdict c =
    let y = c.in_ok-image.ensures in
    let x = c.in_err-tree.ensures in
    let e = err_from_is_err_and c.from_residual-in_err-tree.result c.from_residual-in_err-tree.ensures.1 in
    rw (e.1, e.2) (laws.accepted-on _ _ _ y.verdict (rw y.image at x.verdict))

pub invariant_of-result : goal.invariant_of-result
unfolding check
invariant_of-result c =
    let y = c.in_ok-image.ensures in
    let x = c.in_ok-tree.ensures in
    record { accepted = rw (x.image, y.image) (sym (laws.accepted-on _ _ _ y.verdict (rw y.image at x.verdict))) }
