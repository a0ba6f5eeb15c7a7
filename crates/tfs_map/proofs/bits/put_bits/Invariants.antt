use mathlib.Core.Path.{◌≡◌}
use Rattle.std.specs.Prelude.{cond}
use lib.ListN.{take}
use Rattle.tfs_spec.specs.Layout.{set_bits}
use Rattle.tfs_map.proofs.bits.put_bits.Given as goal

abbrev pub invariant-loop-b : goal.invariant-loop-b
invariant-loop-b l = l.map ≡ set_bits l.initial.map (cond l.one 1 0) (take l.b-index l.blocks)
