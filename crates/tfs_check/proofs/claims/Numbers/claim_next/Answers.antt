use Rattle.std.proofs.Common.{refl}
use Rattle.tfs_check.specs.Row.{one-turned, row-turned}
use Rattle.tfs_check.proofs.claims.Numbers.claim_next.Goals as goal

pub returns-then-free : goal.returns-then-free
returns-then-free c =
    row-turned _ _ _ _ _ _ _ (rw c.if-fills_row.true at c.fills_row.ensures) c.requires.file c.if-free.true

pub returns : goal.returns
returns c =
    rw c.lower.ensures
    (one-turned _ _ _ _ _ _ _ _ _ c.requires.listed c.requires.file c.requires.inside c.requires.number refl c.with_one-byte.ensures)
