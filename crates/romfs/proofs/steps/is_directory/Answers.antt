use Rattle.std.proofs.Common.{refl, sym, ◌∙◌, eq-eqb}
use Rattle.romfs_facts.specs.Seek.{is-reached}
use Rattle.romfs.proofs.Laws as laws
use Rattle.romfs.proofs.steps.is_directory.Goals as goal

pub returns-then-dir-eq0 : goal.returns-then-dir-eq0
returns-then-dir-eq0 c = eq-eqb _ _ c.if-dir-eq0.true ∙ laws.dir-root _ _ c.if-dir-eq0.true

pub header-requires : goal.header-requires
header-requires c = is-reached _ _ (sym c.is_reached.ensures ∙ c.if-is_reached.true)

pub returns-then-is_reached : goal.returns-then-is_reached
returns-then-is_reached c =
    rw (c.header.ensures.image, c.header.ensures.at) at c.has_type_directory.ensures
    ∙ laws.dir-type _ _ c.if-dir-eq0.false (sym c.is_reached.ensures ∙ c.if-is_reached.true) _ refl

pub returns-else-is_reached : goal.returns-else-is_reached
returns-else-is_reached c = c.if-is_reached.false ∙ laws.dir-none _ _ c.if-dir-eq0.false (sym c.is_reached.ensures ∙ c.if-is_reached.false)
