use Rattle.std.proofs.Common.{◌∙◌}
use Rattle.romfs_facts.specs.Given.{first-info, dir-is}
use Rattle.romfs.proofs.Laws as laws
use Rattle.romfs.proofs.steps.first_of.Goals as goal

pub header-requires : goal.header-requires
header-requires c = dir-is _ _ c.requires c.if-dir-eq0.false

pub returns-then-dir-eq0 : goal.returns-then-dir-eq0
returns-then-dir-eq0 c = c.first_root.ensures ∙ laws.root_first _ _ _ c.if-dir-eq0.true c.args.tree.image.whole.is

pub returns-else-dir-eq0 : goal.returns-else-dir-eq0
returns-else-dir-eq0 c =
    let e = rw (c.header.ensures.image, c.header.ensures.at) at c.info.ensures.info in
    rw (first-info _ _ c.if-dir-eq0.false) (rw e at c.offset.ensures)
