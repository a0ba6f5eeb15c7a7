-- Those of one number after another.
use Rattle.reading.proofs.Ends.{end_of_more}
use Rattle.packed.proofs.cases.expected.Goals as goal

pub returns-in_err-place-clause-left : goal.returns-in_err-place-clause-left
returns-in_err-place-clause-left g c = search (end_of_more)

pub returns-in_err-count-clause-left : goal.returns-in_err-count-clause-left
returns-in_err-count-clause-left g c = search (end_of_more)

pub returns-in_err-values-clause-left : goal.returns-in_err-values-clause-left
returns-in_err-values-clause-left g c = search (end_of_more)

pub returns-clause-left : goal.returns-clause-left
returns-clause-left g c = search (end_of_more)
