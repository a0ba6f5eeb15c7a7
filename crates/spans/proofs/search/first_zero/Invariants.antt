use Rattle.list_laws.specs.Least.{Below}
use Rattle.lists.specs.Lists.{zero_at}
use Rattle.spans.proofs.search.first_zero.Given as goal

abbrev pub invariant-loop-i : goal.invariant-loop-i
invariant-loop-i l = Below (zero_at l.p) l.i
