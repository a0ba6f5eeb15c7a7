use Rattle.std.proofs.Common.{refl, sym, ◌∙◌, arith}
use Rattle.romfs_facts.specs.Seek.{is-reached}
use Rattle.romfs.proofs.Laws as laws
use Rattle.romfs.proofs.steps.content_step.Goals as goal

pub header-header-requires : goal.header-header-requires
header-header-requires c = is-reached _ _ (sym c.is_reached.ensures ∙ c.if-not-is_reached.false)

pub overflow_cast-result : goal.overflow_cast-result
overflow_cast-result c =
    let h = c.header-header.ensures in
    let kind = rw (h.image, h.at) at c.file_type.ensures in
    let start = rw (c.named.ensures, h.image, h.at) at c.content_at.ensures.offset in
    let sized = laws.content-step-as _ _ (sym c.is_reached.ensures ∙ c.if-not-is_reached.false) _ kind (sym c.has_data.ensures ∙ c.if-not-has_data.false) _ refl in
    let k = laws.content-end _ _ c.args.checked.accepted _ sized in
    record { fits = omega (arith, start, k.0, c.args.checked.tree.image.whole.is, c.args.checked.tree.image.whole.small) }

pub returns-clause-within : goal.returns-clause-within
returns-clause-within c =
    let h = c.header-header.ensures in
    let kind = rw (h.image, h.at) at c.file_type.ensures in
    let start = rw (c.named.ensures, h.image, h.at) at c.content_at.ensures.offset in
    let sized = laws.content-step-as _ _ (sym c.is_reached.ensures ∙ c.if-not-is_reached.false) _ kind (sym c.has_data.ensures ∙ c.if-not-has_data.false) _ (rw (h.image, h.at) at c.size.ensures.size) in
    let k = laws.content-end _ _ c.args.checked.accepted _ sized in
    omega (arith, start, k.0, k.1)
