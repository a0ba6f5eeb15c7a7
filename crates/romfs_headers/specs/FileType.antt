-- The numbers of the types of files.
use Rattle.std.specs.Prelude.{ℕ}
use Rattle.romfs_headers.specs.declared.file_type.FileType.{FileType}
use Rattle.romfs_headers.specs.declared.file_type.FileType.TheVariants.{HardLink, Directory, Regular, SymbolicLink, BlockDevice, CharacterDevice, Socket, Fifo}

abbrev pub type_number : FileType → ℕ
type_number HardLink = 0
type_number Directory = 1
type_number Regular = 2
type_number SymbolicLink = 3
type_number BlockDevice = 4
type_number CharacterDevice = 5
type_number Socket = 6
type_number Fifo = 7
