use Rattle.romfs.proofs.Laws as laws
use Rattle.romfs.proofs.requests.content.Goals as goal

pub returns-in-Ok-clause-content : goal.returns-in-Ok-clause-content
returns-in-Ok-clause-content c = laws.part-is c.args.image.now c.args.at _ _ c.in-Ok.ensures.start c.in-Ok.ensures.answer

pub returns-in-Err-clause-content : goal.returns-in-Err-clause-content
returns-in-Err-clause-content c = laws.refused-part c.args.image.now c.args.at _ _ c.in-Err.ensures.answer
