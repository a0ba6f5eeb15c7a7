-- What a result of the C interface tells: an answer of the rules, as numbers.
use Rattle.std.specs.Prelude.{ℕ, List, length}
use Rattle.tfs_spec.specs.Requests.{Answer, done, value, transferred, unused, file, refused}
use Rattle.lists.specs.Lists.{zeros, pad_to}
use Rattle.tfs_c.specs.declared.TfsResult.{TfsResult}
use Rattle.tfs_c.specs.declared.TfsSlot.{TfsSlot}

-- the refusal's number, 0 for granted; its place; the inode number, the count, the free bytes or a block's number; the blocks that a transfer meets
abbrev pub of_numbers : ℕ → ℕ → ℕ → ℕ → TfsResult
of_numbers num p x m = record { refusal = num; place = p; value = x; blocks = m }

unfoldable pub result_of : Answer → TfsResult
result_of done = of_numbers 0 0 0 0
result_of (value x) = of_numbers 0 0 x 0
result_of (transferred c m) = of_numbers 0 0 c m
result_of unused = of_numbers 0 0 0 0
result_of (file nm i z) = of_numbers 0 0 0 0
result_of (refused num p) = of_numbers num p 0 0

-- ---- list: no file, and a file with its name's length, inode number and size
abbrev pub empty_slot : ℕ → ℕ → List ℕ → TfsSlot
empty_slot num p name = record { refusal = num; place = p; used = 0; inode = 0; size = 0; name_length = 0; name = name }

abbrev pub file_slot : ℕ → ℕ → ℕ → List ℕ → TfsSlot
file_slot len i z name = record { refusal = 0; place = 0; used = 1; inode = i; size = z; name_length = len; name = name }

-- the slot of an answer, with a name beside it
unfoldable pub slot_with : Answer → List ℕ → TfsSlot
slot_with done name = empty_slot 0 0 name
slot_with (value x) name = empty_slot 0 0 name
slot_with (transferred c m) name = empty_slot 0 0 name
slot_with unused name = empty_slot 0 0 name
slot_with (file nm i z) name = file_slot (length nm) i z name
slot_with (refused num p) name = empty_slot num p name

-- the name beside an answer: a file's, padded with zeros; else zeros
abbrev pub listed_name : Answer → List ℕ
listed_name done = zeros 16
listed_name (value x) = zeros 16
listed_name (transferred c m) = zeros 16
listed_name unused = zeros 16
listed_name (file nm i z) = pad_to 16 nm
listed_name (refused num p) = zeros 16

-- the name is padded with zeros, and all zeros where there is no file
abbrev pub slot_of : Answer → TfsSlot
slot_of a = slot_with a (listed_name a)
