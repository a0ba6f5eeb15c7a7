use Rattle.std.proofs.Math.Nat.{add-sub_cancel_left}
use Rattle.std.proofs.Common.{arith, length}
use Rattle.tfs_spec.specs.Traces.{number}
use Rattle.tfs_trace_write.specs.Puts.{put, put_behind}
use Rattle.tfs_trace_write.proofs.put_string.Goals as goal

pub returns-clause-put : goal.returns-clause-put
unfolding put
returns-clause-put c =
    put_behind c.args.at c.put_groups-from.result (number (length c.args.bytes.now)) c.args.bytes.now c.args.out.now c.put_groups-from.new.out _
    (omega arith) c.put_groups-from.ensures.put c.put_groups-from.ensures.end (rw (c.copy.ensures, add-sub_cancel_left))
