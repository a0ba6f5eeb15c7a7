use mathlib.Core.Path.{ap, ◌∙◌}
use Rattle.tfs_spec.specs.Requests.{Outcome}
use Rattle.tfs_proofs.specs.Proved.{statements}
use Rattle.timing_proofs.specs.Blocks.{new-other}
use Rattle.timing.specs.Rooms.{sound}
use Rattle.timing.proofs.blocks.new_block.Goals as goal

pub returns-clause-answer : goal.returns-clause-answer
returns-clause-answer c =
    let same = new-other statements 512 statements.number-laws.base c.args.image.now (sound c.args.image.now c.requires.passed) c.args.buf.now c.requires.absent c.args.bytes.now c.requires.whole c.args.k c.if-k-eq-LAST.false in
    c.create_store.ensures.answer ∙ ap (λ (o : Outcome). o.answer) same

pub returns-clause-buffer : goal.returns-clause-buffer
returns-clause-buffer c =
    let same = new-other statements 512 statements.number-laws.base c.args.image.now (sound c.args.image.now c.requires.passed) c.args.buf.now c.requires.absent c.args.bytes.now c.requires.whole c.args.k c.if-k-eq-LAST.false in
    c.create_store.ensures.buffer ∙ ap (λ (o : Outcome). o.buffer) same
