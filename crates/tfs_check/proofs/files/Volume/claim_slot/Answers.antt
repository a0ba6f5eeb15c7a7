use Rattle.std.proofs.Common.{arith, sym, ◌∙◌}
use Rattle.tfs_check.specs.Files.{free-at, used-at, inode-under, wrong-at, claims-at}
use Rattle.tfs_check.specs.Found.{free-claimed}
use Rattle.tfs_check.proofs.files.Volume.claim_slot.Goals as goal

pub returns-then-free : goal.returns-then-free
returns-then-free c =
    let v = c.args.self.now in
    free-claimed _ _ _ _ (free-at _ _ v.formed c.requires (sym c.inode_at-inode.ensures ∙ c.if-free.true))

pub claim_file-requires : goal.claim_file-requires
claim_file-requires c =
    let v = c.args.self.now in
    let taken = used-at _ c.args.s v.formed c.requires (λ e. c.if-free.false (c.inode_at-inode.ensures ∙ e)) in
    omega (arith, v.counted, inode-under _ _ c.requires v.formed.slots taken)

pub returns : goal.returns
returns c =
    let v = c.args.self.now in
    let taken = used-at _ c.args.s v.formed c.requires (λ e. c.if-free.false (c.inode_at-inode.ensures ∙ e)) in
    rw (wrong-at _ _ c.requires v.formed.slots taken, claims-at _ _ c.requires v.formed.slots taken, ← v.counted, ← c.inode_at-inode.ensures)
    c.claim_file.ensures
