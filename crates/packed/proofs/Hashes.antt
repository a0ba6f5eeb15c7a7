-- The steps of the hash.
use Rattle.packed.specs.Hash.{hash-more, hash-end}

pub ruleset hash_steps = (hash-more, hash-end)
