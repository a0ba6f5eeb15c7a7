-- The first k values are read.
use Rattle.std.proofs.Common.{◌≡◌, length}
use Rattle.packed.specs.Cases.{ReadsValues}
use Rattle.reading.specs.Input.{EndOf}
use Rattle.packed.proofs.cases.values.Given as goal

abbrev pub invariant-loop-k : goal.invariant-loop-k
invariant-loop-k g l = record {
  long : length l.values ≡ 6;
  lost : ReadsValues (g.R.Read.remaining l.initial.input) (g.R.Read.remaining l.input) l.count l.k l.values;
  left : EndOf (g.R.Read.remaining l.initial.input) (g.R.Read.remaining l.input);
}
