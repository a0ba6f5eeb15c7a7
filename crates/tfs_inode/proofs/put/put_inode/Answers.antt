use Rattle.std.proofs.Common.{◌≡◌, length, ◌∙◌, arith, rules}
use Rattle.tfs_inode.specs.Put.{begun-none, begun_more, begun_all}
use Rattle.tfs_inode.proofs.put.put_inode.Goals as goal

pub loop-i-init : goal.loop-i-init
loop-i-init c =
    (search rules, rw (c.put32.ensures, c.zero.ensures, c.requires.0) (begun-none c.args.size c.args.blocks.now))

pub loop-i-preserved : goal.loop-i-preserved
loop-i-preserved c =
    (search rules, rw (c.put32-in-loop-i.ensures, c.loop-i.invariant.1) (begun_more c.args.size c.args.blocks.now c.loop-i.i (search rules) (search rules)))

pub returns : goal.returns
returns c =
    let all : c.loop-i.i ≡ length c.args.blocks.now = omega arith in
    c.loop-i.invariant.1 ∙ begun_all c.args.size c.args.blocks.now c.loop-i.i all (omega arith)
