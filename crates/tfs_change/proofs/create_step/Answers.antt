use Rattle.tfs_change.specs.Create.{create_done}
use Rattle.tfs_change.proofs.create_step.Goals as goal

pub returns-clause-image : goal.returns-clause-image
returns-clause-image c = create_done _ _ _ _ c.in_ok-plan.ensures.plan c.in_ok-plan.ensures.answer _ c.place_file.ensures
