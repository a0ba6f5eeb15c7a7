use Rattle.std.proofs.Common.{◌≡◌}
use Rattle.romfs_spec.specs.Layout.{sum_of_words}
use Rattle.romfs_headers.proofs.words.sum_words.Given as goal

abbrev pub invariant-loop-k : goal.invariant-loop-k
invariant-loop-k l = l.sum ≡ sum_of_words l.image l.at l.k
