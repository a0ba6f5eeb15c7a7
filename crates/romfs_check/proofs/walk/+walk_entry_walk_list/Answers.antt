use Rattle.std.proofs.Common.{◌∙◌, arith, rules}
use Rattle.std.proofs.lemmas.Result.{err_from_is_err_and}
use Rattle.romfs_headers.proofs.Found.{some-is, none-is, list-some, list-none}
use Rattle.romfs_check.proofs.Laws as laws
use Rattle.romfs_check.proofs.walk.+walk_entry_walk_list.Goals as goal

pub walk_entry-returns-in_err-list-clause-verdict : goal.walk_entry-returns-in_err-list-clause-verdict
walk_entry-returns-in_err-list-clause-verdict t c =
    let e = err_from_is_err_and c.from_residual.result c.from_residual.ensures.1 in
    rw (e.1, e.2) (laws.step-broken _ _ _ _ _ c.requires.0 _ _ c.in_err-list.ensures.fault)

pub walk_entry-overflow_sub-left : goal.walk_entry-overflow_sub-left
walk_entry-overflow_sub-left t c =
    let y = c.in_ok-list.ensures in
    let l = list-some _ _ _ (rw c.in-Some.is at y.list) in
    laws.some_left _ _ _ _ _ c.requires.0 y.fault _ _ l.0 l.1 l.2

pub walk_entry-walk_list-requires : goal.walk_entry-walk_list-requires
walk_entry-walk_list-requires t c =
    let y = c.in_ok-list.ensures in
    let l = list-some _ _ _ (rw c.in-Some.is at y.list) in
    let k = laws.some_left _ _ _ _ _ c.requires.0 y.fault _ _ l.0 l.1 l.2 in
    (search rules, (laws.step-below _ _ _ _ _ c.requires.0 y.fault _ _ l.0 l.1 l.2, y.lo, y.window))

pub walk_entry-returns-in-Some-clause-verdict : goal.walk_entry-returns-in-Some-clause-verdict
walk_entry-returns-in-Some-clause-verdict t c =
    let y = c.in_ok-list.ensures in
    let l = list-some _ _ _ (rw c.in-Some.is at y.list) in
    c.walk_list.ensures.verdict ∙ laws.step-list _ _ _ _ _ c.requires.0 y.fault _ _ l.0 l.1 l.2

pub walk_entry-returns-in-None-clause-verdict : goal.walk_entry-returns-in-None-clause-verdict
walk_entry-returns-in-None-clause-verdict t c =
    let y = c.in_ok-list.ensures in
    laws.step-leaf _ _ _ _ _ c.requires.0 y.fault (list-none _ _ _ (rw c.in-None.is at y.list))

pub walk_list-returns-in_err-walk_entry-clause-verdict : goal.walk_list-returns-in_err-walk_entry-clause-verdict
walk_list-returns-in_err-walk_entry-clause-verdict t c =
    let i = c.loop-image.invariant in
    let e = err_from_is_err_and c.from_residual.result c.from_residual.ensures.1 in
    rw (e.1, e.2) (laws.rest-fault _ _ _ _ _ _ i.1 i.0.before _ _ c.in_err-walk_entry.ensures.verdict)

pub walk_list-header-requires : goal.walk_list-header-requires
walk_list-header-requires t c =
    let h = c.loop-image.invariant.0 in
    omega (arith, laws.visited-room _ _ _ _ _ h c.in_ok-walk_entry.ensures.verdict, h.within)

pub walk_list-returns-in_default-clause-verdict : goal.walk_list-returns-in_default-clause-verdict
walk_list-returns-in_default-clause-verdict t c =
    let i = c.loop-image.invariant in
    let e = none-is _ _ (rw (c.header.ensures.image, c.header.ensures.at) at c.in_default.ensures.next) in
    laws.rest-last _ _ _ _ _ _ i.1 i.0.before c.in_ok-walk_entry.ensures.verdict e

pub walk_list-loop-image-smaller : goal.walk_list-loop-image-smaller
walk_list-loop-image-smaller t c =
    let e = some-is _ _ (rw (c.header.ensures.image, c.header.ensures.at) at c.in-Some.ensures.next) in
    let n = laws.visited-next _ _ _ _ _ c.loop-image.invariant.0 c.in_ok-walk_entry.ensures.verdict _ e.0 e.1 in
    omega (arith, n.0, n.1.before)

pub walk_list-loop-image-preserved : goal.walk_list-loop-image-preserved
walk_list-loop-image-preserved t c =
    let i = c.loop-image.invariant in
    let y = c.in_ok-walk_entry.ensures in
    let e = some-is _ _ (rw (c.header.ensures.image, c.header.ensures.at) at c.in-Some.ensures.next) in
    let n = laws.visited-next _ _ _ _ _ i.0 y.verdict _ e.0 e.1 in
    (n.1, laws.rest-next _ _ _ _ _ _ i.1 i.0.before y.verdict _ e.0 e.1 n.0, y.lo, y.window)
