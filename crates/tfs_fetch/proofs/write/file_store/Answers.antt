use Rattle.std.proofs.Common.{refl, sym, ◌∙◌, length, length-take-le}
use Rattle.tfs_fetch.specs.Stored.{none_so, one_so}
use Rattle.tfs_fetch.specs.Write.{Asked, write_granted, write_many, write_when, write_index, write_ready, write_one}
use Rattle.tfs_fetch.proofs.write.file_store.Goals as goal

pub returns-then-unfetched : goal.returns-then-unfetched
returns-then-unfetched c =
    let g = none_so _ _ _ _ _ _ refl _ (write_many _ c.requires.passed _ c.requires.file _ _ _ c.in_ok-reach.ensures.reach _ c.blocks_met-met.ensures)
    (write_granted _ c.requires.passed _ c.requires.file _ _ _ c.in_ok-reach.ensures.reach) (sym c.unfetched.ensures ∙ c.if-unfetched.true) in
    record { answer = g.0; buffer = g.1 }

pub number-b-requires : goal.number-b-requires
number-b-requires c =
    let asked : Asked c.args.image.now c.args.s c.args.offset c.args.bytes.now c.in_ok-reach.reach c.args.k c.blocks_met-met.result (length c.args.buf.now) =
    record { passed = c.requires.passed; file = c.requires.file; reaches = c.in_ok-reach.ensures.reach; met = c.blocks_met-met.ensures; test = sym c.unfetched.ensures ∙ c.if-unfetched.false }
    in
    write_index asked

pub write_block-requires : goal.write_block-requires
write_block-requires c =
    let asked : Asked c.args.image.now c.args.s c.args.offset c.args.bytes.now c.in_ok-reach.reach c.args.k c.blocks_met-met.result (length c.args.buf.now) =
    record { passed = c.requires.passed; file = c.requires.file; reaches = c.in_ok-reach.ensures.reach; met = c.blocks_met-met.ensures; test = sym c.unfetched.ensures ∙ c.if-unfetched.false }
    in
    let (inside, starts, ends, few) = write_ready asked _ _ c.in_block.ensures c.number-b.ensures in
    (inside, length-take-le 512 c.args.buf.now (write_when asked).1, starts, ends, few)

pub returns : goal.returns
returns c =
    let asked : Asked c.args.image.now c.args.s c.args.offset c.args.bytes.now c.in_ok-reach.reach c.args.k c.blocks_met-met.result (length c.args.buf.now) =
    record { passed = c.requires.passed; file = c.requires.file; reaches = c.in_ok-reach.ensures.reach; met = c.blocks_met-met.ensures; test = sym c.unfetched.ensures ∙ c.if-unfetched.false }
    in
    let g = one_so _ _ _ _ _ _ refl _ (write_many _ c.requires.passed _ c.requires.file _ _ _ asked.reaches _ asked.met)
    (write_granted _ c.requires.passed _ c.requires.file _ _ _ asked.reaches) asked.test _ _
    (write_one asked _ _ c.in_block.ensures c.number-b.ensures _ c.write_block.ensures) in
    record { answer = g.0; buffer = g.1 }
