use mathlib.Core.Path.{◌≡◌, ◌∙◌}
use Prim.Native.Nat.{◌-◌}
use native.Mathlib.Omega.{arith}
use lib.ListN.{length, take, drop, length-take, length-drop}
use Rattle.tfs_runs.specs.Place.{at, numbered_more}
use Rattle.tfs_runs.specs.Write.{write-turn}
use Rattle.tfs_runs.proofs.write.write_runs.Goals as goal

pub loop-done-preserved : goal.loop-done-preserved
loop-done-preserved c =
    let left = c.args.count - c.loop-done.done in
    let rest : length (take left (drop c.loop-done.done c.args.buf.now)) ≡ left = simp (length-take, length-drop) (omega arith) in
    let stored =
    write-turn (at c.args.ino.bytes.now) c.args.image.now c.args.buf.now c.loop-done.image c.write_run-run.new.image c.args.offset c.loop-done.done c.write_run-run.result.len left
    (omega arith) (omega (arith, rest)) c.loop-done.invariant.1 c.write_run-run.ensures.2 in
    let next =
    numbered_more c.args.ino.bytes.now c.args.offset c.loop-done.done c.write_run-run.result.len c.args.count (length (take left (drop c.loop-done.done c.args.buf.now))) c.write_run-run.result.next
    (omega (arith, rest)) c.write_run-run.ensures.3 in
    (omega (arith, rest), stored, c.write_run-run.auto.image ∙ c.loop-done.invariant.2, next)
