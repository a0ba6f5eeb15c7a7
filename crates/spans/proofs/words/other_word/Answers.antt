use mathlib.Core.Path.{sym, ap, ◌∙◌}
use mathlib.Core.Bool.{not}
use Rattle.list_laws.specs.Least.{found}
use Rattle.spans.specs.Alike.{word_differs}
use Rattle.std.proofs.Common.{rules}
use Rattle.spans.proofs.words.other_word.Goals as goal

pub returns-then-not-word_same : goal.returns-then-not-word_same
unfolding word_differs
returns-then-not-word_same c = found _ _ _ (search rules) c.loop-k.invariant (ap not (sym c.word_same.ensures ∙ c.if-not-word_same.true))
