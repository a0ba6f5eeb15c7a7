use Rattle.std.proofs.Common.{◌∙◌}
use Rattle.romfs_links.proofs.Laws as laws
use Rattle.romfs_links.proofs.seek.step_towards.Goals as goal

pub returns-in-Some : goal.returns-in-Some
returns-in-Some c = laws.path_next _ _ _ (rw c.next.ensures.next at c.in-Some.ensures)

pub returns-in-None : goal.returns-in-None
returns-in-None c = rw (c.first.ensures) at c.up_to-in-None.ensures ∙ laws.path_first _ _ _ (rw c.next.ensures.next at c.in-None.ensures)
