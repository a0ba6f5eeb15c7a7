use Rattle.list_laws.specs.Least.{Below}
use Rattle.tfs_map.specs.Compare.{bit_differs}
use Rattle.tfs_map.proofs.compare.first_difference.Given as goal

abbrev pub invariant-loop-k : goal.invariant-loop-k
invariant-loop-k l = Below (bit_differs l.a l.b) l.k
