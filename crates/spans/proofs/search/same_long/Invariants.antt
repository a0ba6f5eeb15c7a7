use Rattle.std.proofs.Common.{◌≡◌, ◌*◌, drop}
use Rattle.lists.specs.Lists.{same_list}
use Rattle.spans.proofs.search.same_long.Given as goal

abbrev pub invariant-loop-k : goal.invariant-loop-k
invariant-loop-k l = same_list (drop (512 * l.k) l.a) (drop (512 * l.k) l.b) ≡ same_list l.a l.b
