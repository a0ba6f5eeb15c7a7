use mathlib.Core.Bool.{◌&&◌}
use mathlib.Core.Path.{◌≡◌, sym, ◌∙◌}
use Prim.Native.Nat.{ℕ, ◌≤◌, ◌+◌, ◌-◌}
use mathlib.Core.List.{List}
use native.Mathlib.Nat.{add-sub_cancel_left}
use native.Mathlib.Omega.{arith}
use lib.ListN.{length, get_or}
use Rattle.lists.specs.Lists.{same_list, table}
use Rattle.tfs_runs.specs.Place.{at, numbered_more, run_inside}
use Rattle.tfs_runs.specs.Same.{SameFrom, same_turn}
use Rattle.tfs_runs.proofs.same.same_runs.Goals as goal

abbrev byte : List ℕ → List ℕ → ℕ → ℕ
byte image ino p = get_or image (at ino p) 0

pub overflow_add-e : goal.overflow_add-e
overflow_add-e c =
    let inside : c.run_of-run.result.at + c.run_of-run.result.len ≤ length c.args.image.now = let p = c.args.offset + c.loop-done.done in
    run_inside c.args.ino.bytes.now (c.args.offset + length c.args.bytes.now) (length c.args.image.now) p c.run_of-run.result.at c.run_of-run.result.len c.requires.1 c.run_of-run.ensures.0 c.run_of-run.ensures.1 (omega arith) c.run_of-run.ensures.3 in
    omega (arith, inside)

pub slice_bounds-same_long-end-in-loop-done : goal.slice_bounds-same_long-end-in-loop-done
slice_bounds-same_long-end-in-loop-done c =
    let inside : c.run_of-run.result.at + c.run_of-run.result.len ≤ length c.args.image.now = let p = c.args.offset + c.loop-done.done in
    run_inside c.args.ino.bytes.now (c.args.offset + length c.args.bytes.now) (length c.args.image.now) p c.run_of-run.result.at c.run_of-run.result.len c.requires.1 c.run_of-run.ensures.0 c.run_of-run.ensures.1 (omega arith) c.run_of-run.ensures.3 in
    omega (arith, inside)

pub returns-then-not-same_long : goal.returns-then-not-same_long
returns-then-not-same_long c =
    let bytes_of : ℕ → ℕ = byte c.args.image.now c.args.ino.bytes.now in
    let inside : c.run_of-run.result.at + c.run_of-run.result.len ≤ length c.args.image.now = let p = c.args.offset + c.loop-done.done in
    run_inside c.args.ino.bytes.now (c.args.offset + length c.args.bytes.now) (length c.args.image.now) p c.run_of-run.result.at c.run_of-run.result.len c.requires.1 c.run_of-run.ensures.0 c.run_of-run.ensures.1 (omega arith) c.run_of-run.ensures.3 in
    let turn : same_list c.args.bytes.now (table bytes_of c.args.offset (length c.args.bytes.now)) ≡ (c.same_long.result && SameFrom bytes_of c.args.offset c.args.bytes.now (c.loop-done.done + c.run_of-run.result.len)) = c.loop-done.invariant.1
    ∙ same_turn c.args.image.now c.args.ino.bytes.now c.args.bytes.now c.args.offset c.loop-done.done c.run_of-run.result.at c.run_of-run.result.len _ _ c.same_long.result
    c.run_of-run.ensures.0 c.run_of-run.ensures.3 inside (omega arith) (add-sub_cancel_left c.loop-done.done c.run_of-run.result.len) (add-sub_cancel_left c.run_of-run.result.at c.run_of-run.result.len) c.same_long.ensures in
    sym (rw c.if-not-same_long.true at turn)

pub loop-done-preserved : goal.loop-done-preserved
loop-done-preserved c =
    let bytes_of : ℕ → ℕ = byte c.args.image.now c.args.ino.bytes.now in
    let inside : c.run_of-run.result.at + c.run_of-run.result.len ≤ length c.args.image.now = let p = c.args.offset + c.loop-done.done in
    run_inside c.args.ino.bytes.now (c.args.offset + length c.args.bytes.now) (length c.args.image.now) p c.run_of-run.result.at c.run_of-run.result.len c.requires.1 c.run_of-run.ensures.0 c.run_of-run.ensures.1 (omega arith) c.run_of-run.ensures.3 in
    let turn : same_list c.args.bytes.now (table bytes_of c.args.offset (length c.args.bytes.now)) ≡ (c.same_long.result && SameFrom bytes_of c.args.offset c.args.bytes.now (c.loop-done.done + c.run_of-run.result.len)) = c.loop-done.invariant.1
    ∙ same_turn c.args.image.now c.args.ino.bytes.now c.args.bytes.now c.args.offset c.loop-done.done c.run_of-run.result.at c.run_of-run.result.len _ _ c.same_long.result
    c.run_of-run.ensures.0 c.run_of-run.ensures.3 inside (omega arith) (add-sub_cancel_left c.loop-done.done c.run_of-run.result.len) (add-sub_cancel_left c.run_of-run.result.at c.run_of-run.result.len) c.same_long.ensures in
    let len = length c.args.bytes.now in
    let next = numbered_more c.args.ino.bytes.now c.args.offset c.loop-done.done c.run_of-run.result.len len (len - c.loop-done.done) c.run_of-run.result.next (omega arith) c.run_of-run.ensures.4 in
    (omega arith, rw c.if-not-same_long.false at turn, next)
