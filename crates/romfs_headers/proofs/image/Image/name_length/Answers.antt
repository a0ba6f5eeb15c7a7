use Rattle.std.proofs.Common.{below_more, ◌∙◌, arith}
use Rattle.romfs_headers.proofs.Laws as laws
use Rattle.romfs_headers.proofs.image.Image.name_length.Goals as goal

pub returns-then-self-at-eq0-clause-length : goal.returns-then-self-at-eq0-clause-length
returns-then-self-at-eq0-clause-length c =
    laws.name-found _ _ _ _ c.args.self.whole.is c.loop-i.invariant (omega (arith, c.loop-i-test.true)) (laws.zero-yes _ _ c.if-self-at-eq0.true)

pub loop-i-preserved : goal.loop-i-preserved
loop-i-preserved c = below_more _ _ c.loop-i.invariant (laws.zero-no _ _ c.if-self-at-eq0.false)

pub returns-clause-length : goal.returns-clause-length
returns-clause-length c =
    omega arith ∙ laws.name-none _ _ _ c.loop-i.i c.args.self.whole.is c.loop-i.invariant (omega arith) (omega (arith, c.loop-i-test.false))
