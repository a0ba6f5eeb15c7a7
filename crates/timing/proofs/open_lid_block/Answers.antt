use mathlib.Core.Path.{ap, ◌∙◌}
use lib.ListN.{take}
use Rattle.std.proofs.lemmas.Result.{err_from_is_err_and}
use Rattle.tfs_spec.specs.Requests.{Outcome}
use Rattle.timing.specs.Told.{error_told, told_of}
use Rattle.timing.specs.Answers.{lid-refused, lid-block}
use Rattle.timing.proofs.open_lid_block.Goals as goal

pub returns-in_err-look-clause-answer : goal.returns-in_err-look-clause-answer
returns-in_err-look-clause-answer c =
    let got = err_from_is_err_and c.from_residual.result c.from_residual.ensures.1 in
    rw (got.1, got.2) (ap (λ (o : Outcome). o.answer) (lid-refused c.args.image.now c.args.k c.args.buf.now (error_told c.in_err-look.field-0.0) c.in_err-look.ensures.answer (λ t. t)))

pub returns-in_err-look-clause-buffer : goal.returns-in_err-look-clause-buffer
returns-in_err-look-clause-buffer c =
    ap (λ (o : Outcome). o.buffer) (lid-refused c.args.image.now c.args.k c.args.buf.now (error_told c.in_err-look.field-0.0) c.in_err-look.ensures.answer (λ t. t))

pub returns-in_err-write_store-clause-answer : goal.returns-in_err-write_store-clause-answer
returns-in_err-write_store-clause-answer c =
    let got = err_from_is_err_and c.from_residual-in_err-write_store.result c.from_residual-in_err-write_store.ensures.1 in
    let seen = c.in_ok-look.ensures.seen in
    let same = lid-block c.args.image.now c.args.k c.args.buf.now (take 64 c.look.new.buf) seen.0 seen.1 c.in_ok-look.ensures.answer in
    rw (got.1, got.2) (told_of c.in_err-write_store.field-0.0 ∙ c.in_err-write_store.ensures.answer ∙ ap (λ (o : Outcome). o.answer) same)

pub returns-in_err-write_store-clause-buffer : goal.returns-in_err-write_store-clause-buffer
returns-in_err-write_store-clause-buffer c =
    let seen = c.in_ok-look.ensures.seen in
    let same = lid-block c.args.image.now c.args.k c.args.buf.now (take 64 c.look.new.buf) seen.0 seen.1 c.in_ok-look.ensures.answer in
    c.write_store.ensures.buffer ∙ ap (λ (o : Outcome). o.buffer) same

pub returns-clause-answer : goal.returns-clause-answer
returns-clause-answer c =
    let seen = c.in_ok-look.ensures.seen in
    let same = lid-block c.args.image.now c.args.k c.args.buf.now (take 64 c.look.new.buf) seen.0 seen.1 c.in_ok-look.ensures.answer in
    c.in_ok-write_store.ensures.answer ∙ ap (λ (o : Outcome). o.answer) same

pub returns-clause-buffer : goal.returns-clause-buffer
returns-clause-buffer c =
    let seen = c.in_ok-look.ensures.seen in
    let same = lid-block c.args.image.now c.args.k c.args.buf.now (take 64 c.look.new.buf) seen.0 seen.1 c.in_ok-look.ensures.answer in
    c.write_store.ensures.buffer ∙ ap (λ (o : Outcome). o.buffer) same
