use Rattle.std.proofs.Common.{◌≡◌, ◌+◌, ◌<◌, length, set, ap, ◌∙◌, arith, length-set, rules}
use Rattle.tfs_spec.specs.Layout.{need, inode_size}
use Rattle.tfs_inode.specs.Claims.{claimed-none, claimed-more, claimed-all}
use Rattle.tfs_inode.proofs.read.Inode.blocks.Goals as goal

pub loop-k-init : goal.loop-k-init
loop-k-init c = (
  claimed-none c.args.own c.args.self.bytes.now c.args.out.now (search rules),
  search rules,
)

pub loop-k-preserved : goal.loop-k-preserved
loop-k-preserved c =
    let first = set c.args.out.now 0 c.args.own in
    let asked = c.blocks_needed-count.ensures ∙ ap (need 512) c.size.ensures in
    let room : 1 + c.loop-k.k < length first = simp length-set (omega (arith, asked)) in (
      rw (c.loop-k.invariant.0, c.number.ensures) (claimed-more c.args.own c.args.self.bytes.now first c.loop-k.k room),
      search rules,
    )

pub returns : goal.returns
returns c =
    let asked = c.blocks_needed-count.ensures ∙ ap (need 512) c.size.ensures in
    let all : c.loop-k.k ≡ need 512 (inode_size c.args.self.bytes.now) = omega (arith, asked) in
    (ap (λ (n : _). 1 + n) asked, c.loop-k.invariant.0 ∙ claimed-all c.args.own c.args.self.bytes.now c.args.out.now c.loop-k.k all)
