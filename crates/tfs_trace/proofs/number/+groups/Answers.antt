use Rattle.std.proofs.Common.{rules, inl, inr, arith}
use Rattle.tfs_spec.specs.Traces.{malformed}
use Rattle.tfs_trace.proofs.Numbers as laws
use Rattle.tfs_trace.proofs.number.+groups.Goals as goal
use Rattle.tfs_trace.proofs.number.+groups.Goals.{then-left-eq0-via-then-left-eq0, then-left-eq0-via-else-left-eq0+then-is_empty}

pub returns-then-left-eq0 : goal.returns-then-left-eq0
returns-then-left-eq0 t c = elim c.then-left-eq0.branch [
  | then-left-eq0-via-then-left-eq0 w ↦ laws.groups_none _ _ _ (inl w.if-left-eq0.true)
  | then-left-eq0-via-else-left-eq0+then-is_empty w ↦ laws.groups_none _ _ _ (inr (search rules))
]

pub returns-then-group-lt128 : goal.returns-then-group-lt128
returns-then-group-lt128 t c = laws.groups_last _ _ _ c.if-left-eq0.false (search rules) c.if-group-lt128.true

pub returns-in_err-high : goal.returns-in_err-high
returns-in_err-high t c = rw c.from_residual.ensures (laws.groups_more _ _ _ malformed c.if-left-eq0.false (search rules) c.if-group-lt128.false c.in_err-high.ensures)

pub returns-then-not-shortest : goal.returns-then-not-shortest
returns-then-not-shortest t c = laws.groups_wrong _ _ _ _ _ c.if-left-eq0.false (search rules) c.if-group-lt128.false c.in_ok-high.ensures (λ low small. omega (arith, c.then-not-shortest.either))

pub returns : goal.returns
returns t c = laws.groups_joined _ _ _ _ _ c.if-left-eq0.false (search rules) c.if-group-lt128.false c.in_ok-high.ensures (omega arith) (omega arith) (omega (arith, c.type_inv.rest 0))
