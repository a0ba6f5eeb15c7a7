-- What a result of the C interface tells: an answer of the rules, as numbers.
use Rattle.std.specs.Prelude.{ℕ}
use Rattle.romfs_spec.specs.Requests.{Answer, granted, refused, Entry}
use Rattle.romfs_c.specs.declared.RomfsResult.{RomfsResult}
use Rattle.romfs_c.specs.declared.RomfsHeader.{RomfsHeader}
use Rattle.romfs_c.specs.declared.RomfsPart.{RomfsPart}

-- 0 for granted, or the number of the refusal
abbrev pub refusal_of : {A : Type 0} → Answer A → ℕ
refusal_of (granted x) = 0
refusal_of (refused n p) = n

-- the place of the refusal, or 0
abbrev pub place_of : {A : Type 0} → Answer A → ℕ
place_of (granted x) = 0
place_of (refused n p) = p

-- the number granted, or 0
abbrev pub value_of : Answer ℕ → ℕ
value_of (granted x) = x
value_of (refused n p) = 0

-- the result of an answer
abbrev pub result_of : Answer ℕ → RomfsResult
result_of a = record { refusal = refusal_of a; place = place_of a; value = value_of a }

-- ---- entry: a field of the entry granted, or 0
abbrev pub field_of : (Entry → ℕ) → Answer Entry → ℕ
field_of field (granted e) = field e
field_of field (refused n p) = 0

abbrev pub header_of : Answer Entry → RomfsHeader
header_of a = record {
  refusal = refusal_of a;
  place = place_of a;
  file_type = field_of (λ e. e.type_of_file) a;
  executable = field_of (λ e. e.executable) a;
  info = field_of (λ e. e.info) a;
  size = field_of (λ e. e.size) a;
  next = field_of (λ e. e.next) a;
  name_length = field_of (λ e. e.name_length) a;
}

-- ---- content: where it begins and how long it is, or 0 and 0
abbrev pub content_of : ℕ → Answer ℕ → RomfsPart
content_of start a = record { refusal = refusal_of a; place = place_of a; offset = start; length = value_of a }
