use Prim.Native.Nat.{◌+◌, ◌≤◌}
use native.Mathlib.Nat.{add-sub_cancel_left}
use native.Mathlib.Omega.{arith}
use lib.ListN.{length}
use Rattle.tfs_runs.specs.Place.{run_inside}
use Rattle.tfs_runs.specs.Read.{read-run}
use Rattle.tfs_runs.proofs.read.read_run.Goals as goal

pub overflow_add-e : goal.overflow_add-e
overflow_add-e c =
    let inside : c.run_of-run.result.at + c.run_of-run.result.len ≤ length c.args.image.now = run_inside c.args.ino.bytes.now (c.args.p + c.args.left) (length c.args.image.now) c.args.p c.run_of-run.result.at c.run_of-run.result.len c.requires.1 c.run_of-run.ensures.0 c.run_of-run.ensures.1 (omega arith) c.run_of-run.ensures.3 in
    omega (arith, inside)

pub slice_bounds-copy_run-end-2 : goal.slice_bounds-copy_run-end-2
slice_bounds-copy_run-end-2 c =
    let inside : c.run_of-run.result.at + c.run_of-run.result.len ≤ length c.args.image.now = run_inside c.args.ino.bytes.now (c.args.p + c.args.left) (length c.args.image.now) c.args.p c.run_of-run.result.at c.run_of-run.result.len c.requires.1 c.run_of-run.ensures.0 c.run_of-run.ensures.1 (omega arith) c.run_of-run.ensures.3 in
    omega (arith, inside)

pub returns : goal.returns
returns c =
    let inside : c.run_of-run.result.at + c.run_of-run.result.len ≤ length c.args.image.now = run_inside c.args.ino.bytes.now (c.args.p + c.args.left) (length c.args.image.now) c.args.p c.run_of-run.result.at c.run_of-run.result.len c.requires.1 c.run_of-run.ensures.0 c.run_of-run.ensures.1 (omega arith) c.run_of-run.ensures.3 in (
      c.run_of-run.ensures.1,
      c.run_of-run.ensures.2,
      read-run c.args.image.now c.args.ino.bytes.now c.args.buf.now c.copy_run.new.dst c.args.p c.run_of-run.result.at c.run_of-run.result.len _
          c.run_of-run.ensures.0 c.run_of-run.ensures.3 inside (add-sub_cancel_left c.run_of-run.result.at c.run_of-run.result.len) c.copy_run.ensures,
      c.run_of-run.ensures.4,
    )
