use Rattle.std.proofs.Common.{eq-eqb, ne_eqb}
use Rattle.romfs_links.proofs.Laws as laws
use Rattle.romfs_links.proofs.tree.Tree.lowest_bad_link.Goals as goal

pub returns-then-low-full-clause-lowest : goal.returns-then-low-full-clause-lowest
returns-then-low-full-clause-lowest c =
    let y = c.tour_all-found.ensures in
    let e = laws.lowest-is _ _ _ _ _ _ c.args.self.walked c.loop-found.invariant.3 y.state y.kept.0 y.fine c.if-found-full.true in
    rw (← e, eq-eqb _ _ c.if-low-full.true)

pub returns-else-low-full-clause-lowest : goal.returns-else-low-full-clause-lowest
returns-else-low-full-clause-lowest c =
    let y = c.tour_all-found.ensures in
    let e = laws.lowest-is _ _ _ _ _ _ c.args.self.walked c.loop-found.invariant.3 y.state y.kept.0 y.fine c.if-found-full.true in
    rw (← e, ne_eqb _ _ c.if-low-full.false)
