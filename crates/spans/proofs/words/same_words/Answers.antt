use mathlib.Core.Path.{sym, ◌∙◌}
use Prim.Native.Nat.{◌-◌, ◌*◌}
use native.Mathlib.Omega.{arith}
use Rattle.list_laws.specs.Least.{none_found}
use Rattle.spans.specs.Alike.{words_same}
use Rattle.spans.proofs.words.same_words.Goals as goal

pub returns-then-same_long : goal.returns-then-same_long
returns-then-same_long c =
    none_found _ _ _ (omega arith) (omega arith)
    (words_same c.args.p.now c.args.q.now c.args.n (4 * c.args.n - 0) (omega arith) (sym c.same_long.ensures ∙ c.if-same_long.true))
