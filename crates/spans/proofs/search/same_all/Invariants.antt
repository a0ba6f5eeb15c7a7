use Rattle.std.proofs.Common.{◌≡◌, drop}
use Rattle.std.specs.Prelude.{◌&&◌}
use Rattle.lists.specs.Lists.{same_list}
use Rattle.spans.proofs.search.same_all.Given as goal

abbrev pub invariant-loop-i : goal.invariant-loop-i
invariant-loop-i l = (l.same && same_list (drop l.i l.a) (drop l.i l.b)) ≡ same_list l.a l.b
