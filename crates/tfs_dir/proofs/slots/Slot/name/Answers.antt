use Rattle.tfs_dir.specs.Slots.{name-cut}
use Rattle.tfs_dir.proofs.slots.Slot.name.Goals as goal

pub returns : goal.returns
returns c = name-cut c.args.self.bytes.now c.args.self.whole c.name_length-k.result c.name_length-k.ensures.0
