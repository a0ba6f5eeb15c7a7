use Rattle.std.proofs.Common.{sym, ◌∙◌, arith, ne_eqb}
use Rattle.romfs_headers.proofs.Found.{some-is, none-is}
use Rattle.romfs_links.specs.Facts.{reach_room}
use Rattle.romfs.proofs.Laws as laws
use Rattle.romfs.proofs.steps.match_from.Goals as goal

pub returns-then-name_is-clause-first : goal.returns-then-name_is-clause-first
returns-then-name_is-clause-first c =
    let i = c.loop-header.invariant in
    let long = rw (c.named-header.ensures, c.header.ensures.image, c.header.ensures.at) at c.named-header.result.long in
    let t = laws.name-test _ _ _ _ _ c.name_is.ensures long in
    let here = laws.match-here _ _ c.args.tree.walked _ i.0 _ _ i.1 (sym t ∙ c.if-name_is.true) in
    rw (← here, ne_eqb _ _ (laws.reached-some i.0.reached))

pub returns-in_err-p-clause-first : goal.returns-in_err-p-clause-first
returns-in_err-p-clause-first c =
    let i = c.loop-header.invariant in
    let long = rw (c.named-header.ensures, c.header.ensures.image, c.header.ensures.at) at c.named-header.result.long in
    let t = laws.name-test _ _ _ _ _ c.name_is.ensures long in
    let e = none-is _ _ (rw (c.named-header.ensures, c.header.ensures.image, c.header.ensures.at) at c.in_err-p.ensures.next) in
    rw (← laws.match_none _ _ c.args.tree.walked _ i.0 _ _ i.1 (sym t ∙ c.if-name_is.false) e) c.from_residual.ensures

pub loop-header-smaller : goal.loop-header-smaller
loop-header-smaller c =
    let i = c.loop-header.invariant in
    let e = some-is _ _ (rw (c.named-header.ensures, c.header.ensures.image, c.header.ensures.at) at c.in_ok-p.ensures.next) in
    omega (arith, reach_room _ _ c.args.tree.walked _ i.0, laws.on-further _ _ c.args.tree.walked _ i.0 _ e.0 e.1)

pub loop-header-preserved : goal.loop-header-preserved
loop-header-preserved c =
    let i = c.loop-header.invariant in
    let long = rw (c.named-header.ensures, c.header.ensures.image, c.header.ensures.at) at c.named-header.result.long in
    let t = laws.name-test _ _ _ _ _ c.name_is.ensures long in
    let e = some-is _ _ (rw (c.named-header.ensures, c.header.ensures.image, c.header.ensures.at) at c.in_ok-p.ensures.next) in (
      laws.on-reached _ _ c.args.tree.walked _ i.0 _ e.0 e.1,
      laws.match-on _ _ c.args.tree.walked _ i.0 _ _ i.1 (sym t ∙ c.if-name_is.false) _ e.0 e.1,
    )
