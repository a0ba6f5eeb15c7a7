-- The first k cases have run.
use Rattle.std.proofs.Common.{◌≤◌}
use Rattle.packed.specs.Runs.{Runs}
use Rattle.packed.proofs.cases.differing.Given as goal

abbrev pub invariant-loop-k : goal.invariant-loop-k
invariant-loop-k g l = record {
  callable : goal.F-IsAlwaysCallable g l.comes_out;
  within : l.differ ≤ l.k;
  runs : Runs (goal.F-step g) l.initial.comes_out l.k l.comes_out l.differ;
}
