use Rattle.std.proofs.Common.{refl, arith}
use Rattle.romfs_links.specs.Window.{window-none}
use Rattle.romfs_check.proofs.check_headers.Goals as goal

pub walk_all-requires : goal.walk_all-requires
walk_all-requires c = (c.requires, refl, window-none _ 0 _ 8192 (omega arith) refl refl)
