use Rattle.std.proofs.Common.{sym, ◌∙◌, rules}
use Rattle.romfs_headers.proofs.Found.{some-is, none-is}
use Rattle.romfs_links.proofs.Laws as laws
use Rattle.romfs_links.proofs.tree.Tree.is_reached.Goals as goal

pub seek_from-requires : goal.seek_from-requires
seek_from-requires c =
    let e = some-is _ _ c.in-Some.ensures in
    laws.reach-start _ _ _ e.0 c.args.self.image.whole.is e.1

pub returns-in-Some : goal.returns-in-Some
returns-in-Some c =
    let e = some-is _ _ c.in-Some.ensures in
    c.seek_from.ensures ∙ laws.path-root _ _ _ _ e.0 c.args.self.image.whole.is e.1

pub returns-in-None : goal.returns-in-None
returns-in-None c = let e = none-is _ _ c.in-None.ensures in laws.path_empty _ _ _ _ (sym e) c.args.self.image.whole.is (search rules)
