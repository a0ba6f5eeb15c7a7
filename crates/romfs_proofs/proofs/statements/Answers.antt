use Rattle.romfs_proofs.specs.Proved as proved
use Rattle.romfs_proofs.proofs.statements.Goals as goal

pub returns : goal.returns
returns c = proved.statements
