use Rattle.std.proofs.Common.{eq-eqb, ne_eqb, ◌∙◌}
use Rattle.romfs_headers.proofs.Laws as laws
use Rattle.romfs_headers.proofs.header.Header.is_dots.Goals as goal

pub returns-then-one : goal.returns-then-one
returns-then-one c = eq-eqb _ _ c.if-one.true ∙ laws.dots-one _ _ _ c.args.self.image.whole c.args.self.inside c.if-bytes-p-eq46.true c.if-one.true

pub returns-then-bytes-p-eq46-2 : goal.returns-then-bytes-p-eq46-2
returns-then-bytes-p-eq46-2 c = laws.dots-third _ _ _ c.args.self.image.whole c.args.self.inside c.if-bytes-p-eq46.true c.if-bytes-p-eq46-2.true

pub returns-else-bytes-p-eq46-2 : goal.returns-else-bytes-p-eq46-2
returns-else-bytes-p-eq46-2 c = ne_eqb _ _ c.if-bytes-p-eq46-2.false ∙ laws.dots-second _ _ _ c.args.self.image.whole c.args.self.inside c.if-bytes-p-eq46.true c.if-one.false c.if-bytes-p-eq46-2.false

pub returns-else-bytes-p-eq46 : goal.returns-else-bytes-p-eq46
returns-else-bytes-p-eq46 c = ne_eqb _ _ c.if-bytes-p-eq46.false ∙ laws.dots-first _ _ _ c.args.self.image.whole c.args.self.inside c.if-bytes-p-eq46.false
