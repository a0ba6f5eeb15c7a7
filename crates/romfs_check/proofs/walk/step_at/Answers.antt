use Rattle.std.proofs.Common.{◌-◌, sym, subst}
use Rattle.romfs_links.specs.Window.{Window, window-at}
use Rattle.romfs_check.proofs.walk.step_at.Goals as goal

-- the header is marked
pub returns-clause-window : goal.returns-clause-window
returns-clause-window c =
    let e = rw c.requires.1 at c.mark.ensures.bits in
    subst (Window c.args.image.bytes.now 0) (sym e)
    (window-at _ _ _ c.requires.2 _ (record { bound = c.args.bound; depth = 8 - c.args.left; reached = c.requires.0.reached }))
