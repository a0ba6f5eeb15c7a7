use Rattle.tfs_proofs.specs.Proved as proved
use Rattle.tfs_proofs.proofs.statements.Goals as goal

pub returns : goal.returns
returns c = proved.statements
