-- The bytes that the input lacks count as zeros.
use Rattle.std.proofs.Common.{◌∙◌}
use Rattle.packed.proofs.Lacking.{word_padded}
use Rattle.packed.proofs.number.Goals as goal

pub returns-clause-lost : goal.returns-clause-lost
returns-clause-lost g c =
    let (bs, lost, same) = c.in_ok-padded.ensures.lost in
    (bs, lost, c.from_be_bytes.ensures ∙ word_padded bs _ _ same)
