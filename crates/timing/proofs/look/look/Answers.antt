use mathlib.Core.Path.{sym, ap, ◌∙◌}
use Rattle.std.proofs.lemmas.Result.{err_from_is_err_and}
use mathlib.Core.List.{List}
use mathlib.Core.Option.{some}
use Prim.Native.Nat.{ℕ}
use lib.ListN.{take}
use Rattle.timing.specs.Told.{told_of, of_tfs, error_told}
use Rattle.timing.specs.Looks.{look-refused, look-missized, look-found}
use Rattle.std.proofs.Common.{rules}
use Rattle.timing.proofs.look.look.Goals as goal

pub returns-in_err-moved-clause-answer : goal.returns-in_err-moved-clause-answer
returns-in_err-moved-clause-answer c =
    let made = err_from_is_err_and c.from_residual.result c.from_residual.ensures.1 in
    rw (made.1, made.2) (look-refused c.args.image.now c.args.buf.now (search rules) (error_told (of_tfs c.in_err-moved.field-0.0)) (told_of c.in_err-moved.field-0.0 ∙ c.in_err-moved.ensures.answer) (λ t. t))

pub returns-then-not-whole-clause-answer : goal.returns-then-not-whole-clause-answer
returns-then-not-whole-clause-answer c =
    look-missized c.args.image.now c.args.buf.now (search rules) c.in_ok-moved.moved.count c.in_ok-moved.moved.blocks c.in_ok-moved.ensures.answer c.if-not-whole.true

pub returns-clause-answer : goal.returns-clause-answer
returns-clause-answer c =
    (look-found c.args.image.now c.args.buf.now (search rules) c.in_ok-moved.moved.count c.in_ok-moved.moved.blocks c.in_ok-moved.ensures.answer c.if-not-whole.false).0

pub returns-clause-seen : goal.returns-clause-seen
returns-clause-seen c =
    let said = look-found c.args.image.now c.args.buf.now (search rules) c.in_ok-moved.moved.count c.in_ok-moved.moved.blocks c.in_ok-moved.ensures.answer c.if-not-whole.false in
    (said.1, said.2 ∙ ap (λ (l : List ℕ). some (take 64 l)) (sym c.read.ensures.buffer))
