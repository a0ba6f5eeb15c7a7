-- What an input has left once something was read from it.
use Rattle.std.specs.Prelude.{ℕ, List, Option}
use Rattle.std.specs.Io.KnownBytes.{Consumes}

-- what is left is the end of what there was, whether a read failed or not
unfoldable pub EndOf : Option (List ℕ) → Option (List ℕ) → Type 0
EndOf old new = (bs : List ℕ) × Consumes old new bs
