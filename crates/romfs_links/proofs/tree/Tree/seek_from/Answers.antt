use Rattle.std.proofs.Common.{sym, arith, rules}
use Rattle.romfs_headers.proofs.Found.{some-is, none-is}
use Rattle.romfs_links.specs.Facts.{reach_room}
use Rattle.romfs_links.proofs.Laws as laws
use Rattle.romfs_links.proofs.tree.Tree.seek_from.Goals as goal

pub returns-in_default : goal.returns-in_default
returns-in_default c =
    let e = none-is _ _ (rw (c.header.ensures.image, c.header.ensures.at) at c.in_default.ensures) in
    laws.path-none _ _ c.args.self.walked _ _ _ c.loop-p.invariant.0 c.loop-p.invariant.1 0 (sym e) (search rules) (λ z. c.loop-p-test.true (sym z))

pub loop-p-smaller : goal.loop-p-smaller
loop-p-smaller c =
    let e = some-is _ _ (rw (c.header.ensures.image, c.header.ensures.at) at c.in-Some.ensures) in
    let further = laws.reach-further _ _ c.args.self.walked _ _ _ c.loop-p.invariant.0 e.0 e.1 in
    omega (arith, reach_room _ _ c.args.self.walked _ c.loop-p.invariant.0)

pub loop-p-preserved : goal.loop-p-preserved
loop-p-preserved c =
    let e = some-is _ _ (rw (c.header.ensures.image, c.header.ensures.at) at c.in-Some.ensures) in (
      laws.reach-on _ _ c.args.self.walked _ _ _ c.loop-p.invariant.0 e.0 e.1,
      laws.path-on _ _ c.args.self.walked _ _ _ c.loop-p.invariant.0 e.0 e.1 _ c.loop-p.invariant.1 (λ z. c.loop-p-test.true (sym z)),
    )

pub returns : goal.returns
returns c = laws.path-here _ _ c.args.self.walked _ _ _ c.loop-p.invariant.0 c.loop-p.invariant.1 (sym c.loop-p-test.false)
