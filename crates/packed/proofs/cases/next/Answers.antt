-- Those of one part of the case after another.
use Rattle.reading.proofs.Ends.{end_of_more}
use Rattle.packed.proofs.cases.next.Goals as goal

pub returns-in_err-number-clause-left : goal.returns-in_err-number-clause-left
returns-in_err-number-clause-left g c = search (end_of_more)

pub returns-in_err-name-clause-left : goal.returns-in_err-name-clause-left
returns-in_err-name-clause-left g c = search (end_of_more)

pub returns-in_err-buf-clause-left : goal.returns-in_err-buf-clause-left
returns-in_err-buf-clause-left g c = search (end_of_more)

pub returns-in_err-image-clause-left : goal.returns-in_err-image-clause-left
returns-in_err-image-clause-left g c = search (end_of_more)

pub returns-clause-left : goal.returns-clause-left
returns-clause-left g c = search (end_of_more)
