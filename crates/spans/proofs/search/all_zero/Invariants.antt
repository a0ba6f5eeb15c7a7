use Rattle.std.proofs.Common.{◌≡◌, take}
use Rattle.std.specs.Prelude.{eqb}
use Rattle.std.specs.List.{list_all}
use Rattle.spans.proofs.search.all_zero.Given as goal

abbrev pub invariant-loop-b : goal.invariant-loop-b
invariant-loop-b l = l.zero ≡ list_all (λ x. eqb x 0) (take l.b-index l.p)
