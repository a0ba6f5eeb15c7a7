use Prim.Native.Nat.{◌+◌, ◌≤◌}
use native.Mathlib.Nat.{add-sub_cancel_left}
use native.Mathlib.Omega.{arith}
use lib.ListN.{length}
use Rattle.tfs_runs.specs.Place.{run_inside}
use Rattle.tfs_runs.specs.Write.{write-run}
use Rattle.tfs_runs.proofs.write.write_run.Goals as goal

pub overflow_add-e : goal.overflow_add-e
overflow_add-e c =
    let inside : c.run_of-run.result.at + c.run_of-run.result.len ≤ length c.args.image.now = run_inside c.args.ino.bytes.now (c.args.p + length c.args.src.now) (length c.args.image.now) c.args.p c.run_of-run.result.at c.run_of-run.result.len c.requires.1 c.run_of-run.ensures.0 c.run_of-run.ensures.1 (omega arith) c.run_of-run.ensures.3 in
    omega (arith, inside)

pub slice_bounds-copy_run-end : goal.slice_bounds-copy_run-end
slice_bounds-copy_run-end c =
    let inside : c.run_of-run.result.at + c.run_of-run.result.len ≤ length c.args.image.now = run_inside c.args.ino.bytes.now (c.args.p + length c.args.src.now) (length c.args.image.now) c.args.p c.run_of-run.result.at c.run_of-run.result.len c.requires.1 c.run_of-run.ensures.0 c.run_of-run.ensures.1 (omega arith) c.run_of-run.ensures.3 in
    omega (arith, inside)

pub returns : goal.returns
returns c =
    let inside : c.run_of-run.result.at + c.run_of-run.result.len ≤ length c.args.image.now = run_inside c.args.ino.bytes.now (c.args.p + length c.args.src.now) (length c.args.image.now) c.args.p c.run_of-run.result.at c.run_of-run.result.len c.requires.1 c.run_of-run.ensures.0 c.run_of-run.ensures.1 (omega arith) c.run_of-run.ensures.3 in (
      c.run_of-run.ensures.1,
      c.run_of-run.ensures.2,
      write-run c.args.image.now c.args.ino.bytes.now c.args.src.now c.copy_run.new.dst c.args.p c.run_of-run.result.at c.run_of-run.result.len _
          c.run_of-run.ensures.0 c.run_of-run.ensures.3 inside c.run_of-run.ensures.2 (add-sub_cancel_left c.run_of-run.result.at c.run_of-run.result.len) c.copy_run.ensures,
      c.run_of-run.ensures.4,
    )
