use Prim.Native.Nat.{◌<◌}
use native.Mathlib.Omega.{arith}
use lib.ListN.{length, length-set}
use Rattle.spans.specs.Copy.{copy_more}
use Rattle.tfs_spec.specs.Requests.{free_from}
use Rattle.tfs_map.specs.Free.{turn}
use Rattle.tfs_map.proofs.room.pick_into.Goals as goal

pub loop-i-preserved : goal.loop-i-preserved
loop-i-preserved c =
    let more : c.loop-i.i < length (free_from c.args.map.now 0 c.args.n) = omega arith in
    let t = turn c.args.map.now c.args.n c.loop-i.i c.loop-i.from c.next_free-b.result c.loop-i.invariant.0 c.loop-i.invariant.1 more c.next_free-b.ensures.0 in
    (t.below, t.rest, rw (c.loop-i.invariant.2, t.taken) (copy_more (free_from c.args.map.now 0 c.args.n) c.args.out.now c.loop-i.i more (omega arith)), simp length-set c.loop-i.invariant.3)
