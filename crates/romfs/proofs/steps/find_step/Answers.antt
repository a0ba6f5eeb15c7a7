use Rattle.std.proofs.Common.{sym, ◌∙◌}
use Rattle.romfs_facts.specs.Given.{first-reached}
use Rattle.romfs_headers.proofs.Found.{some-is}
use Rattle.romfs.proofs.steps.find_step.Goals as goal

pub match_from-requires : goal.match_from-requires
match_from-requires c =
    let e = some-is _ _ c.in-Some.ensures in
    rw e.0 (first-reached _ _ c.args.checked.accepted (sym c.is_directory.ensures ∙ c.if-not-is_directory.false) (λ z. e.1 (e.0 ∙ z)))
