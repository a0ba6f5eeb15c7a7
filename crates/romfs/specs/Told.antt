-- What the answers of the requests tell, number, place and values.
use Rattle.std.specs.Prelude.{ℕ, ◌+◌, ◌≤◌, ◌≡◌, List, Result, Ok, Err, cond}
use Rattle.std.specs.Borrow.{Bor}
use Rattle.romfs_spec.specs.Requests.{Answer, granted, refused, Entry}
use Rattle.romfs_refusal.specs.declared.Refusal.TheVariants as refusal
use Rattle.romfs_headers.specs.FileType.{type_number}
use Rattle.romfs.specs.declared.error.Error.{Error}
use Rattle.romfs.specs.declared.error.Error.TheVariants.{Inconsistent, Refused}
use Rattle.romfs.specs.declared.parts.Header.{Header}
use Rattle.romfs.specs.declared.parts.Part.{Part}
use Rattle.romfs.specs.Error.{error_number, error_place}

-- an answer, by what it grants
abbrev pub answer_told : {T A : Type 0} → (T → A) → Result T Error → Answer A
answer_told grant (Ok x) = granted (grant x)
answer_told grant (Err e) = refused (error_number e) (error_place e)

-- ---- what is granted: a number,
abbrev pub as_it_is : ℕ → ℕ
as_it_is n = n

-- a header, with 1 for an executable one,
abbrev pub entry_of : Header → Entry
entry_of h = record { type_of_file = type_number h.file_type; executable = cond h.executable 1 0; info = h.info; size = h.size; next = h.next; name_length = h.name_length }

-- or a content of some length
abbrev pub length_of : Part → ℕ
length_of p = p.length

-- what is wrong with a request for an entry or a content can only be the offset
abbrev pub IsUnfit : {T : Type 0} → Result T Error → Type 0
IsUnfit (Ok x) = Unit {0}
IsUnfit (Err (Inconsistent f)) = Unit {0}
IsUnfit (Err (Refused r)) = r ≡ refusal.NoSuchHeader

-- ---- content: where it begins, or 0
abbrev pub part_start : {E : Type 0} → Result Part E → ℕ
part_start (Ok p) = p.offset
part_start (Err e) = 0

-- it lies in the image, which has so many bytes
abbrev pub PartFits : {E : Type 0} → ℕ → Result Part E → Type 0
PartFits long (Ok p) = p.offset + p.length ≤ long
PartFits long (Err e) = Unit {0}

-- a part of the image, not a copy: in the image's memory, so many bytes after its first
abbrev pub LiesAt : Bor (List ℕ) → Bor (List ℕ) → ℕ → Type 0
LiesAt part image from = (part.ref_ptr.0 ≡ image.ref_ptr.0) × (part.ref_ptr.1 ≡ from + image.ref_ptr.1)
