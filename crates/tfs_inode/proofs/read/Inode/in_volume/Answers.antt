use Rattle.std.proofs.Common.{ℕ, sym, ap, ◌∙◌, arith}
use borrow.Author.Tests.{ne_eqb}
use Rattle.tfs_spec.specs.Layout.{in_range}
use Rattle.tfs_inode.specs.Half.{low-is, high-out}
use Rattle.tfs_inode.proofs.read.Inode.in_volume.Goals as goal

pub returns-then-clear : goal.returns-then-clear
returns-then-clear c =
    c.in_range.ensures
    ∙ ap (λ (b : ℕ). in_range c.args.n b) (c.half.ensures ∙ low-is c.args.self.bytes.now c.args.k (omega arith))

pub returns-else-clear : goal.returns-else-clear
returns-else-clear c =
    ne_eqb _ _ c.if-clear.false
    ∙ sym (high-out c.args.self.bytes.now c.args.k c.args.n c.requires.2 (λ z. c.if-clear.false (c.half-clear.ensures ∙ z)))
