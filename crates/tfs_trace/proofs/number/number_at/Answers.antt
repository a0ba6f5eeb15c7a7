use Rattle.std.proofs.Common.{inr, arith, length-drop}
use Rattle.tfs_spec.specs.Traces.{read_number}
use Rattle.tfs_trace.proofs.Numbers as laws
use Rattle.tfs_trace.proofs.number.number_at.Goals as goal

pub returns-then-trace-at-clause-value : goal.returns-then-trace-at-clause-value
unfolding read_number
returns-then-trace-at-clause-value c = laws.groups_none 5 _ _ (inr (simp length-drop (omega (arith, c.if-trace-at.true))))

pub returns-then-group-lt128-clause-value : goal.returns-then-group-lt128-clause-value
unfolding read_number
returns-then-group-lt128-clause-value c = laws.first_last c.args.trace.now c.args.at c.if-trace-at.false c.if-group-lt128.true

pub returns-clause-value : goal.returns-clause-value
unfolding read_number
returns-clause-value c = rw (laws.rest_of c.args.trace.now c.args.at) at c.groups.ensures

pub returns-clause-onward : goal.returns-clause-onward
unfolding read_number
returns-clause-onward c = laws.told_forward _ _ _ (rw (laws.rest_of c.args.trace.now c.args.at) at c.groups.ensures)
