use Rattle.std.proofs.Common.{arith}
use Rattle.tfs_trace_write.specs.Halves as halves
use Rattle.tfs_trace_write.proofs.put_half.Goals as goal

pub returns : goal.returns
returns c =
    halves.put-half c.args.half c.args.name.now c.args.bytes.now c.args.at c.put_groups-a.result c.put_field-b.result c.put_field-c.result
    c.args.out.now c.put_groups-a.new.out c.put_field-b.new.out c.put_field-c.new.out c.put_field.new.out
    (omega arith) c.put_groups-a.ensures.end c.put_groups-a.ensures.put c.put_field-b.ensures.end c.put_field-b.ensures.put
    c.put_field-c.ensures.end c.put_field-c.ensures.put c.put_field.ensures.put
