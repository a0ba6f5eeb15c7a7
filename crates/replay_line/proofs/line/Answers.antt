use Rattle.std.proofs.Common.{sym, ap, ◌∙◌}
use Rattle.tfs_spec.specs.Replays.{line_numbers}
use Rattle.replay_line.proofs.Files.{program_by}
use Rattle.replay_line.proofs.line.Goals as goal

pub returns-then-not-replayable-clause-summary : goal.returns-then-not-replayable-clause-summary
returns-then-not-replayable-clause-summary c =
    program_by c.args.image.now c.args.trace.now c.args.image_read c.args.trace_read _ (sym c.replayable.ensures ∙ c.if-not-replayable.true)

pub returns-in-Ok-clause-summary : goal.returns-in-Ok-clause-summary
returns-in-Ok-clause-summary c =
    ap line_numbers c.in-Ok.ensures.result ∙ program_by c.args.image.now c.args.trace.now c.args.image_read c.args.trace_read _ (sym c.replayable.ensures ∙ c.if-not-replayable.false)

pub returns-in-Err-clause-summary : goal.returns-in-Err-clause-summary
returns-in-Err-clause-summary c =
    ap line_numbers c.in-Err.ensures.result ∙ program_by c.args.image.now c.args.trace.now c.args.image_read c.args.trace_read _ (sym c.replayable.ensures ∙ c.if-not-replayable.false)
