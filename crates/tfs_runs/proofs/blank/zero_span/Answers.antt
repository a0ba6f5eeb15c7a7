use Prim.Native.Nat.{◌*◌}
use native.Mathlib.Nat.{add-sub_cancel_left}
use native.Mathlib.Omega.{arith}
use Rattle.tfs_runs.specs.Blank.{zero-put}
use Rattle.tfs_runs.proofs.blank.zero_span.Goals as goal

pub returns : goal.returns
returns c =
    zero-put c.args.image.now c.zero.new.p (c.args.b * 512) (c.args.n * 512) _
    (add-sub_cancel_left (c.args.b * 512) (c.args.n * 512)) (omega (arith, c.requires)) c.zero.ensures
