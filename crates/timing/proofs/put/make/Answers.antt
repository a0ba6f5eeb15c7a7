use mathlib.Core.Path.{ap, subst, ◌∙◌}
use mathlib.Core.List.{List}
use Prim.Native.Nat.{ℕ}
use lib.Dec.{T}
use Rattle.std.proofs.lemmas.Result.{err_from_is_err_and}
use Rattle.tfs_spec.specs.Requests.{Answer, granted, write}
use Rattle.timing_spec.specs.Timing.{TIMING}
use Rattle.timing.specs.Answers.{create-granted, create-put, create-refused, create-stays}
use Rattle.timing.proofs.put.make.Goals as goal

pub returns-in_err-create-clause-answer : goal.returns-in_err-create-clause-answer
returns-in_err-create-clause-answer c =
    let made = err_from_is_err_and c.from_residual.result c.from_residual.ensures.1 in
    rw (made.1, made.2) (create-refused c.args.image.now _ c.in_err-create.ensures.answer (λ t. t))

pub returns-in_err-create-clause-image : goal.returns-in_err-create-clause-image
returns-in_err-create-clause-image c = c.create.ensures.image ∙ create-stays c.args.image.now c.args.bytes.now _ c.in_err-create.ensures.answer (λ t. t)

pub returns-clause-answer : goal.returns-clause-answer
returns-clause-answer c = create-granted c.args.image.now (subst (λ (a : Answer). T (granted a)) c.in_ok-create.ensures.answer tt)

pub returns-clause-image : goal.returns-clause-image
returns-clause-image c =
    c.put.ensures ∙ ap (λ (x : List ℕ). (write 512 x TIMING 0 c.args.bytes.now).image) c.create.ensures.image ∙ create-put c.args.image.now c.args.bytes.now (subst (λ (a : Answer). T (granted a)) c.in_ok-create.ensures.answer tt)
