use Rattle.std.proofs.Common.{sym, subst}
use Rattle.romfs_links.specs.Window.{Window, window-at}
use Rattle.romfs_links.proofs.tree.Tree.visit.Goals as goal

pub returns-then-fill-clause-window : goal.returns-then-fill-clause-window
returns-then-fill-clause-window c =
    subst (Window c.args.self.image.bytes.now c.args.marks.now.lo) (sym c.mark.ensures.bits) (window-at _ _ _ c.requires.1 _ c.requires.0)
