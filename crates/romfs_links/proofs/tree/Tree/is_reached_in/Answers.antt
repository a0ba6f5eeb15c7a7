use Rattle.std.proofs.Common.{sym, ◌∙◌}
use Rattle.romfs_facts.specs.Seek.{reached-is}
use Rattle.romfs_links.proofs.tree.Tree.is_reached_in.Goals as goal

-- what is marked is reached
pub returns-then-is_marked : goal.returns-then-is_marked
returns-then-is_marked c =
    c.if-is_marked.true ∙ sym (reached-is _ _ c.args.self.walked.volume c.args.self.walked.walked (c.requires.marked _ (sym c.is_marked.ensures ∙ c.if-is_marked.true)))
