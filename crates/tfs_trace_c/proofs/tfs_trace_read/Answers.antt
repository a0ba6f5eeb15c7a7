use Rattle.tfs_trace_c.specs.Laws.{read_is}
use Rattle.tfs_trace_c.proofs.tfs_trace_read.Goals as goal

pub returns : goal.returns
returns c = read_is _ _ c.record.result c.of_record.ensures c.record.ensures.value c.record.ensures.inside c.record.ensures.lies
