use Rattle.tfs_trace_c.specs.Laws.{none_is, written_is}
use Rattle.tfs_trace_c.proofs.tfs_trace_write.Goals as goal

pub returns-in-Some : goal.returns-in-Some
returns-in-Some c = written_is c.args.entry c.args.name.now c.args.bytes.now c.args.out.now c.write_record.result c.in-Some.draft c.in-Some.ensures c.write_record.ensures.answer c.write_record.ensures.buffer c.of_written.ensures

pub returns-in-None : goal.returns-in-None
returns-in-None c = none_is c.args.entry c.args.name.now c.args.bytes.now c.args.out.now c.in-None.ensures
