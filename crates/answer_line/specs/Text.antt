-- The text of a refusal.
use Rattle.std.specs.Prelude.{ℕ, List, [], ◌++◌, codes}
use Rattle.std.specs.Fmt.{decimal}
use Rattle.tfs_refusal.specs.declared.Fault.{Fault}
use Rattle.tfs_refusal.specs.declared.Fault.TheVariants.{ImageTooShort, BadMagic, BadLabel, BadSlot, BadInode, BlockTwice, MapWrong}
use Rattle.tfs.specs.declared.error.Error.{Error}
use Rattle.tfs.specs.declared.error.Error.TheVariants.{Inconsistent, Refused}
use Rattle.tfs.specs.Told.{error_number}

-- the slot or the block of a fault, if it has one
abbrev pub place_text : Fault → List ℕ
place_text ImageTooShort = []
place_text BadMagic = []
place_text BadLabel = []
place_text (BadSlot s) = codes ", slot " ++ decimal s
place_text (BadInode s) = codes ", slot " ++ decimal s
place_text (BlockTwice b) = codes ", block " ++ decimal b
place_text (MapWrong b) = codes ", block " ++ decimal b

-- the number of a refusal, and behind it that place
abbrev pub refusal_text : Error → List ℕ
refusal_text (Inconsistent f) = codes "refused " ++ decimal (error_number (Inconsistent f)) ++ place_text f
refusal_text (Refused r) = codes "refused " ++ decimal (error_number (Refused r))
