use Rattle.std.proofs.Common.{sym, ap, ◌∙◌}
use Rattle.std.specs.Prelude.{Bool, Option, cond, unwrap_or, ℕ}
use Rattle.romfs_facts.specs.Seek.{is-reached}
use Rattle.romfs.proofs.Laws as laws
use Rattle.romfs.proofs.steps.entry_step.Goals as goal

pub header-header-requires : goal.header-header-requires
header-header-requires c = is-reached _ _ (sym c.is_reached.ensures ∙ c.if-not-is_reached.false)

pub returns-clause-answer : goal.returns-clause-answer
returns-clause-answer c =
    let h = c.header-header.ensures in
    let executable = rw (h.image, h.at) at c.is_executable.ensures in
    let next = rw (h.image, h.at) at c.next.ensures.next in
    laws.entry-step-as _ _ (sym c.is_reached.ensures ∙ c.if-not-is_reached.false) _
    (laws.entry-fields _ _ _ _ _ _ _ _
    (rw (h.image, h.at) at c.file_type.ensures)
    (ap (λ (b : Bool). cond b 1 0) executable ∙ laws.executable-bit _ _)
    (rw (h.image, h.at) at c.info.ensures.info)
    (rw (h.image, h.at) at c.size.ensures.size)
    (c.unwrap_or.ensures ∙ ap (λ (o : Option ℕ). unwrap_or o 0) next ∙ laws.or-none _)
    (rw (h.image, h.at) at c.name_length_of.ensures.length))
