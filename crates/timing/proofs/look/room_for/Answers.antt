use mathlib.Core.Path.{◌≡◌, sym, ap, ◌∙◌}
use lib.ListN.{take}
use Rattle.std.proofs.Common.{rules}
use Rattle.std.proofs.lemmas.Result.{err_from_is_err_and}
use Rattle.tfs_refusal.specs.Refusal.{rule, place}
use Rattle.tfs_refusal.specs.declared.Refusal.TheVariants.{NoSuchName}
use Rattle.timing.specs.declared.error.Error.TheVariants.{Refused}
use Rattle.timing.specs.Told.{error_told}
use Rattle.timing.specs.Rooms.{error-other, no-board-passed, no-board-fault, room-absent, room-refused, room-stands}
use Rattle.timing.proofs.look.room_for.Goals as goal

pub returns-in_err-check-clause-refused : goal.returns-in_err-check-clause-refused
returns-in_err-check-clause-refused c =
    let made = err_from_is_err_and c.from_residual.result c.from_residual.ensures.1 in
    rw (made.1, made.2) (no-board-fault c.args.image.now (rule c.in_err-check.field-0.0) (place c.in_err-check.field-0.0) c.args.board c.in_err-check.ensures)

pub returns-then-none-clause-refused : goal.returns-then-none-clause-refused
returns-then-none-clause-refused c = rw c.if-none.true (no-board-passed c.args.image.now (sym c.in_ok-check.ensures))

pub returns-in-Ok-clause-place : goal.returns-in-Ok-clause-place
returns-in-Ok-clause-place c =
    let seen = c.in-Ok.ensures.seen in
    let bytes = take 64 c.look.new.buf in
    (seen.0, c.if-none.false, (bytes, seen.1, room-stands c.args.image.now bytes seen.0 c.in-Ok.ensures.answer seen.1))

pub returns-then-absent-clause-place : goal.returns-then-absent-clause-place
returns-then-absent-clause-place c =
    let same : c.in-Err.error ≡ Refused NoSuchName = search rules in
    let said = room-absent c.args.image.now (sym (ap error_told same) ∙ c.in-Err.ensures.answer) in
    (said.0, c.if-none.false, said.1)

pub returns-else-absent-clause-refused : goal.returns-else-absent-clause-refused
returns-else-absent-clause-refused c =
    let other : c.in-Err.error ≡ Refused NoSuchName → ⊥ = search rules in
    room-refused c.args.image.now c.args.board c.if-none.false (error_told c.in-Err.error) c.in-Err.ensures.answer (error-other c.in-Err.error other)
