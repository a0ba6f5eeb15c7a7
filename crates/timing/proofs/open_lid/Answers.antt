use mathlib.Core.Path.{◌∙◌}
use Rattle.std.proofs.lemmas.Result.{err_from_is_err_and}
use Rattle.timing.specs.Answers.{open-put, open-says, open_stays}
use Rattle.timing.proofs.open_lid.Goals as goal

pub returns-in_err-look-clause-answer : goal.returns-in_err-look-clause-answer
returns-in_err-look-clause-answer c =
    let made = err_from_is_err_and c.from_residual.result c.from_residual.ensures.1 in
    rw (made.1, made.2) (c.in_err-look.ensures.answer ∙ open-says c.args.image.now)

pub returns-in_err-look-clause-image : goal.returns-in_err-look-clause-image
returns-in_err-look-clause-image c = open_stays c.args.image.now _ c.in_err-look.ensures.answer (λ t. t)

pub returns-clause-answer : goal.returns-clause-answer
returns-clause-answer c = c.in_ok-look.ensures.answer ∙ open-says c.args.image.now

pub returns-clause-image : goal.returns-clause-image
returns-clause-image c = c.put.ensures ∙ open-put c.args.image.now c.in_ok-look.ensures.answer
