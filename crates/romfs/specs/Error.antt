-- The number and the place of a refusal.
use Rattle.std.specs.Prelude.{ℕ}
use Rattle.romfs_refusal.specs.Refusal.{rule, place, number}
use Rattle.romfs.specs.declared.error.Error.{Error}
use Rattle.romfs.specs.declared.error.Error.TheVariants.{Inconsistent, Refused}

-- 21 to 25 are those of the volume, at 0; 26 to 29 name a header; 30 and 31 refuse the request
abbrev pub error_number : Error → ℕ
error_number (Inconsistent f) = rule f
error_number (Refused r) = number r

abbrev pub error_place : Error → ℕ
error_place (Inconsistent f) = place f
error_place (Refused r) = 0
