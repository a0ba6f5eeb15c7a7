use Rattle.std.proofs.Common.{sym}
use Rattle.tfs_facts.specs.Fetched.{fetch-write}
use Rattle.tfs_fetch.proofs.write.fetch_write.Goals as goal

pub returns : goal.returns
returns c = rw (fetch-write 512 _ c.requires.passed _ c.args.k c.args.buf.now c.args.offset c.args.bytes.now _ (sym c.in_ok-s.ensures.told)) c.file_store.ensures
