use mathlib.Core.Path.{◌∙◌}
use lib.ListN.{take}
use Rattle.std.proofs.lemmas.Result.{err_from_is_err_and}
use Rattle.timing.specs.Told.{error_told}
use Rattle.timing.specs.Answers.{boot-seen, boot-refused}
use Rattle.timing.proofs.boot.Goals as goal

pub returns-in_err-look : goal.returns-in_err-look
returns-in_err-look c =
    let made = err_from_is_err_and c.from_residual.result c.from_residual.ensures.1 in
    rw (made.1, made.2) (boot-refused c.args.image.now (error_told c.in_err-look.field-0.0) c.in_err-look.ensures.answer (λ t. t) c.args.board c.args.maker)

pub returns : goal.returns
returns c =
    c.judge.ensures ∙ boot-seen c.args.image.now (take 64 c.look.new.buf) c.in_ok-look.ensures.seen.0 c.in_ok-look.ensures.seen.1 c.args.board c.args.maker
