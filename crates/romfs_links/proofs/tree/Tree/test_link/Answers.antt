use Rattle.std.proofs.Common.{sym, ◌∙◌, arith}
use Rattle.romfs_facts.specs.Facts.{true-false}
use Rattle.romfs_links.proofs.Laws as laws
use Rattle.romfs_links.proofs.tree.Tree.test_link.Goals as goal
use Rattle.romfs_links.proofs.tree.Tree.test_link.Goals.{then-found-p-via-then-found-p, then-found-p-via-else-found-p+then-not-links_on}

-- a header from low on, or no link
pub returns-then-found-p-clause-fine : goal.returns-then-found-p-clause-fine
returns-then-found-p-clause-fine c f b l k =
    elim c.then-found-p.branch [
      | then-found-p-via-then-found-p w ↦ absurd (omega (arith, w.if-found-p.true, l))
      | then-found-p-via-else-found-p+then-not-links_on w ↦
          let no-link = rw (c.header-header.ensures.image, c.header-header.ensures.at) at w.links_on.ensures in
          absurd (true-false b (laws.link-none _ _ (sym no-link ∙ w.if-not-links_on.true)))
    ]
