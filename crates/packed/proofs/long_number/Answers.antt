-- The bytes of the upper half, and then those of the lower one.
use Rattle.std.proofs.Common.{◌∙◌, take, drop, refl}
use Rattle.lists.specs.Lists.{word}
use Rattle.packed.proofs.Lacking.{long_padded, lost_twice}
use Rattle.packed.proofs.long_number.Goals as goal

pub returns-clause-lost : goal.returns-clause-lost
returns-clause-lost g c =
    let (bs, lost, same) = c.in_ok-padded.ensures.lost in
    let (mid, high, low) = lost_twice _ _ bs lost in
    (mid, word (take 4 bs) 0, word (drop 4 bs) 0, (take 4 bs, high, refl), (drop 4 bs, low, refl), c.from_be_bytes.ensures ∙ long_padded bs _ _ same)
