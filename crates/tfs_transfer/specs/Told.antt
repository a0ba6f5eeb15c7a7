-- What read and write answer where they are granted, in the rules' terms.
use Rattle.tfs_spec.specs.Requests.{Answer, transferred}
use Rattle.tfs_transfer.specs.declared.Transferred.{Transferred}

abbrev pub transferred_told : Transferred → Answer
transferred_told t = transferred t.count t.blocks
