use mathlib.Core.Path.{ap, ◌∙◌}
use mathlib.Core.List.{List, ◌++◌}
use Prim.Native.Nat.{ℕ}
use native.Mathlib.Omega.{arith}
use lib.ListN.{drop}
use Rattle.std.proofs.lemmas.Result.{err_from_is_err_and}
use Rattle.tfs_spec.specs.Requests.{Outcome}
use Rattle.tfs_proofs.specs.Proved.{statements}
use Rattle.timing_proofs.specs.Blocks.{new-last, new-refused}
use Rattle.timing.specs.Rooms.{sound}
use Rattle.timing.proofs.blocks.last_block.Goals as goal

pub lay-requires : goal.lay-requires
lay-requires c =
    let said = new-last statements 512 statements.number-laws.base c.args.image.now (sound c.args.image.now c.requires.passed) c.args.buf.now c.requires.absent c.args.bytes.now c.requires.whole c.in_ok-block.block c.in_ok-block.ensures.answer in
    omega (arith, c.requires.whole, c.create_store.auto.buf, said.0)

pub returns-clause-answer : goal.returns-clause-answer
returns-clause-answer c =
    (new-last statements 512 statements.number-laws.base c.args.image.now (sound c.args.image.now c.requires.passed) c.args.buf.now c.requires.absent c.args.bytes.now c.requires.whole c.in_ok-block.block c.in_ok-block.ensures.answer).1

pub returns-clause-buffer : goal.returns-clause-buffer
returns-clause-buffer c =
    let said = new-last statements 512 statements.number-laws.base c.args.image.now (sound c.args.image.now c.requires.passed) c.args.buf.now c.requires.absent c.args.bytes.now c.requires.whole c.in_ok-block.block c.in_ok-block.ensures.answer in
    c.lay.ensures ∙ ap (λ (n : ℕ). c.args.bytes.now ++ drop n c.create_store.new.buf) c.requires.whole ∙ ap (λ (l : List ℕ). c.args.bytes.now ++ drop 64 l) c.create_store.ensures.buffer ∙ said.2

pub returns-in_err-block-clause-answer : goal.returns-in_err-block-clause-answer
returns-in_err-block-clause-answer c =
    let got = err_from_is_err_and c.from_residual.result c.from_residual.ensures.1 in
    let same = new-refused statements 512 statements.number-laws.base c.args.image.now (sound c.args.image.now c.requires.passed) c.args.buf.now c.requires.absent c.args.bytes.now c.requires.whole _ c.in_err-block.ensures.answer (λ t. t) in
    rw (got.1, got.2) (c.in_err-block.ensures.answer ∙ ap (λ (o : Outcome). o.answer) same)

pub returns-in_err-block-clause-buffer : goal.returns-in_err-block-clause-buffer
returns-in_err-block-clause-buffer c =
    let same = new-refused statements 512 statements.number-laws.base c.args.image.now (sound c.args.image.now c.requires.passed) c.args.buf.now c.requires.absent c.args.bytes.now c.requires.whole _ c.in_err-block.ensures.answer (λ t. t) in
    c.create_store.ensures.buffer ∙ ap (λ (o : Outcome). o.buffer) same
