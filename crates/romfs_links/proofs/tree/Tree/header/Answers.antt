use Rattle.romfs_links.specs.Facts.{reach_room}
use Rattle.romfs_links.proofs.tree.Tree.header.Goals as goal

pub header-requires : goal.header-requires
header-requires c = reach_room _ _ c.args.self.walked _ c.requires
