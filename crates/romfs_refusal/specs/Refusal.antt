-- The numbers of faults and refusals.
use Rattle.std.specs.Prelude.{ℕ}
use Rattle.romfs_refusal.specs.declared.Fault.{Fault}
use Rattle.romfs_refusal.specs.declared.Fault.TheVariants.{ImageTooShort, BadMagic, BadFullSize, BadVolumeSum, BadVolumeName, BadHeader, BadNesting, TooDeep, BadLink}
use Rattle.romfs_refusal.specs.declared.Refusal.{Refusal}
use Rattle.romfs_refusal.specs.declared.Refusal.TheVariants.{NoSuchName, NoSuchHeader}

-- a fault: the number of the rule, and the header's offset, 0 for the volume header
abbrev pub rule : Fault → ℕ
rule ImageTooShort = 21
rule BadMagic = 22
rule BadFullSize = 23
rule BadVolumeSum = 24
rule BadVolumeName = 25
rule (BadHeader p) = 26
rule (BadNesting p) = 27
rule (TooDeep p) = 28
rule (BadLink p) = 29

abbrev pub place : Fault → ℕ
place ImageTooShort = 0
place BadMagic = 0
place BadFullSize = 0
place BadVolumeSum = 0
place BadVolumeName = 0
place (BadHeader p) = p
place (BadNesting p) = p
place (TooDeep p) = p
place (BadLink p) = p

-- a refusal of the request: its number
abbrev pub number : Refusal → ℕ
number NoSuchName = 30
number NoSuchHeader = 31
