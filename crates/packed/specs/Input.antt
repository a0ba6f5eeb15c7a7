-- What a reader loses where a number or bytes are read from it, and what is read.
use Rattle.std.specs.Prelude.{◌≡◌, ℕ, ◌+◌, ◌-◌, ◌*◌, ◌≤◌, ◌<◌, min, List, ◌++◌, length, get_or, Option}
use Rattle.std.specs.Io.KnownBytes.{Consumes, IsAtEnd}
use Rattle.lists.specs.Lists.{word, zeros}

-- these bytes: n, or fewer where the input has no more
abbrev pub Loses : Option (List ℕ) → Option (List ℕ) → ℕ → List ℕ → Type 0
Loses old new n bs = Consumes old new bs × (length bs ≤ n) × (length bs < n → IsAtEnd new)

-- so many bytes, with zeros for those that are lacking
abbrev pub ReadsPadded : Option (List ℕ) → Option (List ℕ) → ℕ → List ℕ → Type 0
ReadsPadded old new n word = (bs : List ℕ) × Loses old new n bs × (word ≡ bs ++ zeros (n - length bs))

-- a byte, which is 0 where there is none
abbrev pub ReadsByte : Option (List ℕ) → Option (List ℕ) → ℕ → Type 0
ReadsByte old new b = (bs : List ℕ) × Loses old new 1 bs × (b ≡ get_or bs 0 0)

-- a number; bytes that are lacking count as 0
abbrev pub ReadsNumber : Option (List ℕ) → Option (List ℕ) → ℕ → Type 0
ReadsNumber old new n = (bs : List ℕ) × Loses old new 4 bs × (n ≡ word bs 0)

-- a long number: its upper half and then its lower half
abbrev pub ReadsLong : Option (List ℕ) → Option (List ℕ) → ℕ → Type 0
ReadsLong old new n = (mid : Option (List ℕ)) × (high : ℕ) × (low : ℕ) × ReadsNumber old mid high × ReadsNumber mid new low × (n ≡ high * 4294967296 + low)

-- bytes behind their count, as many as there is room for
abbrev pub ReadsBytes : Option (List ℕ) → Option (List ℕ) → ℕ → List ℕ → Type 0
ReadsBytes old new room bs = (mid : Option (List ℕ)) × (n : ℕ) × ReadsNumber old mid n × Loses mid new (min n room) bs
