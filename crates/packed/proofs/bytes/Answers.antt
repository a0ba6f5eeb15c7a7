-- Those of the count, and then those that are put.
use Rattle.reading.proofs.Ends.{end_of_more}
use Rattle.packed.proofs.bytes.Goals as goal

pub returns-in_err-filled-clause-left : goal.returns-in_err-filled-clause-left
returns-in_err-filled-clause-left g c = search (end_of_more)

pub returns-clause-left : goal.returns-clause-left
returns-clause-left g c = search (end_of_more)
