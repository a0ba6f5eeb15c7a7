use Rattle.list_laws.specs.Least.{Below}
use Rattle.spans.specs.Alike.{word_differs}
use Rattle.spans.proofs.words.other_word.Given as goal

abbrev pub invariant-loop-k : goal.invariant-loop-k
invariant-loop-k l = Below (word_differs l.p l.q) l.k
