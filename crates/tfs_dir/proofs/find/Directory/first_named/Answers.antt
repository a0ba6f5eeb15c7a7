use Rattle.std.proofs.Common.{arith, rules}
use Rattle.list_laws.specs.Least.{found, none_found}
use Rattle.tfs_dir.proofs.find.Directory.first_named.Goals as goal

pub returns-then-slot_holds-clause-first : goal.returns-then-slot_holds-clause-first
returns-then-slot_holds-clause-first c = found _ _ _ (search rules) c.loop-s.invariant (cc)

pub returns-clause-first : goal.returns-clause-first
returns-clause-first c = none_found _ _ _ (omega arith) c.loop-s-test.false c.loop-s.invariant
