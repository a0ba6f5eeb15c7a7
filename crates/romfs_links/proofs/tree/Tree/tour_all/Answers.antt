use Rattle.std.proofs.Common.{sym, rules}
use Rattle.romfs_headers.proofs.Found.{some-is, none-is}
use Rattle.romfs_links.proofs.Laws as laws
use Rattle.romfs_links.proofs.tree.Tree.tour_all.Goals as goal

pub tour_list-requires : goal.tour_list-requires
tour_list-requires c =
    let e = some-is _ _ c.in-Some.ensures in
    (laws.at-root _ _ c.args.self.walked _ e.0 e.1, c.requires.0, c.requires.1)

pub returns-in-Some-clause-fine : goal.returns-in-Some-clause-fine
returns-in-Some-clause-fine c =
    let e = some-is _ _ c.in-Some.ensures in
    laws.fine-root _ _ c.args.self.walked _ e.0 _ _ _ _ c.tour_list.ensures.fine

pub returns-in-None-clause-fine : goal.returns-in-None-clause-fine
returns-in-None-clause-fine c =
    let e = none-is _ _ c.in-None.ensures in
    laws.fine-none _ _ c.args.self.walked _ (sym e) _ _ _ _ (search rules)
