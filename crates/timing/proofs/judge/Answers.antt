use Rattle.std.proofs.Common.{arith, ap, ◌∙◌}
use Rattle.timing_spec.specs.Timing.{booted}
use Rattle.timing.specs.Answers.{zero-board, another-board, another-maker, both-same}
use Rattle.timing.proofs.judge.Goals as goal

pub returns-then-stored-eq0 : goal.returns-then-stored-eq0
returns-then-stored-eq0 c = zero-board c.args.bytes.now c.args.board c.args.maker c.requires (omega arith)

pub returns-then-stored-board : goal.returns-then-stored-board
returns-then-stored-board c =
    another-board c.args.bytes.now c.args.board c.args.maker c.requires (λ e. omega arith) (λ e. omega arith)

pub returns-then-number_at-maker : goal.returns-then-number_at-maker
returns-then-number_at-maker c =
    another-maker c.args.bytes.now c.args.board c.args.maker c.requires (λ e. omega arith) (omega arith) (λ e. omega arith)

pub returns : goal.returns
returns c =
    ap booted c.values_of.ensures ∙ both-same c.args.bytes.now c.args.board c.args.maker c.requires (λ e. omega arith) (omega arith) (omega arith)
