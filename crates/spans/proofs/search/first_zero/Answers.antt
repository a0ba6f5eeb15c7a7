use borrow.Author.Tests.{eq-eqb}
use Rattle.list_laws.specs.Least.{found}
use Rattle.lists.specs.Lists.{zero_at, first_zero}
use Rattle.std.proofs.Common.{rules}
use Rattle.spans.proofs.search.first_zero.Goals as goal

pub returns-then-p-i-eq0 : goal.returns-then-p-i-eq0
unfolding zero_at first_zero
returns-then-p-i-eq0 c = found _ _ _ (search rules) c.loop-i.invariant (eq-eqb _ _ c.if-p-i-eq0.true)
