use Rattle.std.proofs.Common.{refl, arith, rules}
use Rattle.romfs_links.specs.Window.{window-none}
use Rattle.romfs_links.proofs.tree.Tree.mark_window.Goals as goal

pub tour_all-requires : goal.tour_all-requires
tour_all-requires c = (
  window-none _ _ _ _ c.requires (search rules) c.zero.ensures,
  record { low-to = omega arith; bad = λ z. absurd (z refl); far-to = omega arith; behind = λ z. absurd (z refl) },
)
