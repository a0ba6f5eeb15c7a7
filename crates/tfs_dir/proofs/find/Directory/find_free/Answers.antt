use Rattle.std.proofs.Common.{arith, rules}
use Rattle.list_laws.specs.Least.{found, none_found}
use Rattle.tfs_dir.specs.Find.{find_free}
use Rattle.tfs_dir.proofs.find.Directory.find_free.Goals as goal

pub returns-then-is_free-clause-first : goal.returns-then-is_free-clause-first
unfolding find_free
returns-then-is_free-clause-first c = found _ _ _ (search rules) c.loop-free.invariant (cc)

pub returns-clause-first : goal.returns-clause-first
unfolding find_free
returns-clause-first c = none_found _ _ _ (omega arith) c.loop-free-test.false c.loop-free.invariant
