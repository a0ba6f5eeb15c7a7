use Rattle.std.proofs.Common.{◌+◌}
use Rattle.list_laws.specs.Least.{Below}
use Rattle.lists.specs.Lists.{zero_at}
use Rattle.romfs_headers.proofs.image.Image.name_length.Given as goal

abbrev pub invariant-loop-i : goal.invariant-loop-i
invariant-loop-i l = Below (λ j. zero_at l.self.bytes.now (l.at + j)) l.i
