use mathlib.Core.Path.{refl, ◌∙◌}
use Prim.Native.Nat.{◌+◌, ◌-◌, ◌*◌, ◌≤◌}
use native.Mathlib.Omega.{arith}
use lib.ListN.{length, get_or}
use Rattle.tfs_runs.specs.Blank.{zero_turn}
use Rattle.tfs_runs.proofs.blank.zero_blocks.Goals as goal

pub loop-i-preserved : goal.loop-i-preserved
loop-i-preserved c =
    let fits : ((get_or c.args.blocks.now c.loop-i.i 0) + c.neighbours-n.result) * 512 ≤ length c.loop-i.image = let last = c.neighbours-n.result - 1 in
    omega (arith, c.neighbours-n.ensures.0, c.neighbours-n.ensures.1, c.neighbours-n.ensures.2 last (omega (arith, c.neighbours-n.ensures.0)), c.requires (c.loop-i.i + last) (omega (arith, c.neighbours-n.ensures.0, c.neighbours-n.ensures.1)), c.loop-i.invariant.2) in
    let stored =
    zero_turn 512 c.args.image.now c.args.blocks.now c.loop-i.image c.zero_span.new.image c.loop-i.i c.neighbours-n.result (get_or c.args.blocks.now c.loop-i.i 0)
    c.neighbours-n.ensures.1 c.neighbours-n.ensures.2 fits c.loop-i.invariant.1 refl c.zero_span.ensures in
    (c.neighbours-n.ensures.1, stored, c.zero_span.auto.image ∙ c.loop-i.invariant.2)
