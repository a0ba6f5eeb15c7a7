-- The numbers of faults and refusals.
use Rattle.std.specs.Prelude.{ℕ}
use Rattle.tfs_refusal.specs.declared.Fault.{Fault}
use Rattle.tfs_refusal.specs.declared.Fault.TheVariants.{ImageTooShort, BadMagic, BadLabel, BadSlot, BadInode, BlockTwice, MapWrong}
use Rattle.tfs_refusal.specs.declared.Refusal.{Refusal}
use Rattle.tfs_refusal.specs.declared.Refusal.TheVariants.{NameNotAllowed, SizeTooLarge, NameExists, NoFreeSlot, NoRoom, NoSuchName, NoSuchSlot, OffsetPastEnd, NoSuchStore}

-- a fault: the number of the rule, and the slot or block, 0 for the header
abbrev pub rule : Fault → ℕ
rule ImageTooShort = 1
rule BadMagic = 2
rule BadLabel = 3
rule (BadSlot s) = 4
rule (BadInode s) = 5
rule (BlockTwice b) = 6
rule (MapWrong b) = 7

abbrev pub place : Fault → ℕ
place ImageTooShort = 0
place BadMagic = 0
place BadLabel = 0
place (BadSlot s) = s
place (BadInode s) = s
place (BlockTwice b) = b
place (MapWrong b) = b

-- a refusal of the request: its number
abbrev pub number : Refusal → ℕ
number NameNotAllowed = 8
number SizeTooLarge = 9
number NameExists = 10
number NoFreeSlot = 11
number NoRoom = 12
number NoSuchName = 13
number NoSuchSlot = 14
number OffsetPastEnd = 15
number NoSuchStore = 32
