use Rattle.std.proofs.Common.{sym, ◌∙◌}
use borrow.Author.Tests.{eqb-true, eqb-false}
use Rattle.romfs_facts.specs.Seek.{is-reached}
use Rattle.romfs_links.proofs.Laws as laws
use Rattle.romfs_links.proofs.tree.Tree.has_bad_link.Goals as goal

pub returns-then-not-is_reached_in : goal.returns-then-not-is_reached_in
returns-then-not-is_reached_in c =
    let to = rw (c.header-header.ensures.image, c.header-header.ensures.at) at c.info-to.ensures.info in
    laws.link-unreached _ _ _ to c.requires.2 (sym c.is_reached_in.ensures ∙ c.if-not-is_reached_in.true)

pub returns-then-not-has_type : goal.returns-then-not-has_type
returns-then-not-has_type c =
    let to = rw (c.header-header.ensures.image, c.header-header.ensures.at) at c.info-to.ensures.info in
    let hard = rw (c.header-header.ensures.image, c.header-header.ensures.at) at c.has_type.ensures in
    laws.link-soft _ _ _ to (eqb-false _ _ (sym hard ∙ c.if-not-has_type.true)) (sym c.is_reached_in.ensures ∙ c.if-not-is_reached_in.false)

pub header-requires : goal.header-requires
header-requires c = is-reached _ _ (sym c.is_reached_in.ensures ∙ c.if-not-is_reached_in.false)

pub returns : goal.returns
returns c =
    let to = rw (c.header-header.ensures.image, c.header-header.ensures.at) at c.info-to.ensures.info in
    let hard = rw (c.header-header.ensures.image, c.header-header.ensures.at) at c.has_type.ensures in
    let target = rw (c.header.ensures.image, c.header.ensures.at) at c.has_type-2.ensures in
    target ∙ laws.link-hard _ _ _ to (eqb-true _ _ (sym hard ∙ c.if-not-has_type.false)) (sym c.is_reached_in.ensures ∙ c.if-not-is_reached_in.false)
