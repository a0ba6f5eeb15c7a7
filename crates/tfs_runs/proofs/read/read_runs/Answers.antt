use mathlib.Core.Path.{ap, ◌∙◌}
use Prim.Native.Nat.{◌-◌}
use native.Mathlib.Omega.{arith}
use lib.ListN.{length, get_or, length-append, length-drop}
use Rattle.list_laws.specs.Table.{length-table}
use Rattle.tfs_runs.specs.Place.{at, numbered_more}
use Rattle.tfs_runs.specs.Read.{read_more}
use Rattle.std.proofs.Common.{rules}
use Rattle.tfs_runs.proofs.read.read_runs.Goals as goal

pub loop-done-preserved : goal.loop-done-preserved
loop-done-preserved c =
    let rest = length c.loop-done.buf - c.loop-done.done in
    let left = c.args.count - c.loop-done.done in
    let more =
    read_more (λ p. get_or c.args.image.now (at c.args.ino.bytes.now p) 0) c.args.offset c.loop-done.done c.read_run-run.result.len rest c.args.buf.now c.loop-done.buf c.read_run-run.new.buf
    (omega arith) (omega arith) c.loop-done.invariant.1 c.read_run-run.ensures.2 in
    let next = numbered_more c.args.ino.bytes.now c.args.offset c.loop-done.done c.read_run-run.result.len c.args.count left c.read_run-run.result.next (omega arith) c.read_run-run.ensures.3 in
    (search rules, more, ap length more ∙ simp (length-append, length-table, length-drop) (omega arith), next)
