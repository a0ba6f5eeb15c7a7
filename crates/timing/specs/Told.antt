-- What the answers say, in the rules' terms, and what the steps on the way to them have found.
use Rattle.std.specs.Prelude.{◌≡◌, refl, ◌≢◌, ℕ, List, length, take, Result, Ok, Err}
use Rattle.std.proofs.Math.Option.{none, some}
use Rattle.tfs_spec.specs.Check.{consistent, check}
use Rattle.tfs_spec.specs.Requests as tfs
use Rattle.tfs_refusal.specs.Refusal.{rule, place, number}
use Rattle.tfs.specs.declared.error.Error as tfs_error
use Rattle.tfs.specs.declared.error.Error.TheVariants as of
use Rattle.tfs.specs.Told as tfs_told
use Rattle.timing_spec.specs.Timing as rules
use Rattle.timing.specs.declared.error.Error.{Error}
use Rattle.timing.specs.declared.error.Error.TheVariants.{Inconsistent, Refused, NoBoard, WrongSize, OtherBoard, OtherMaker}
use Rattle.timing.specs.declared.look.Place.{Place}
use Rattle.timing.specs.declared.look.Place.TheVariants.{Stands, Absent}

-- the numbers and the values that are given
abbrev pub timing : ℕ → ℕ → List ℕ → rules.Timing
timing board maker values = record { board = board; maker = maker; values = values }

-- ---- an error: its number, and the slot or block, 0 of a refusal
abbrev pub error_number : Error → ℕ
error_number (Inconsistent f) = rule f
error_number (Refused r) = number r
error_number NoBoard = 34
error_number WrongSize = 35
error_number OtherBoard = 36
error_number OtherMaker = 37

abbrev pub error_place : Error → ℕ
error_place (Inconsistent f) = place f
error_place (Refused r) = 0
error_place NoBoard = 0
error_place WrongSize = 0
error_place OtherBoard = 0
error_place OtherMaker = 0

abbrev pub error_told : Error → tfs.Answer
error_told e = tfs.refused (error_number e) (error_place e)

-- one of TFS
abbrev pub of_tfs : tfs_error.Error → Error
of_tfs (of.Inconsistent f) = Inconsistent f
of_tfs (of.Refused r) = Refused r

-- which says the same
pub told_of : (e : tfs_error.Error) → error_told (of_tfs e) ≡ tfs.refused (tfs_told.error_number e) (tfs_told.error_place e)
told_of (of.Inconsistent f) = refl
told_of (of.Refused r) = refl

-- ---- the answers, by what each says where it is granted
abbrev pub answer_told : {T : Type 0} → (T → tfs.Answer) → Result T Error → tfs.Answer
answer_told grant (Ok x) = grant x
answer_told grant (Err e) = error_told e

abbrev pub booted_told : Result (List ℕ) Error → rules.Booted
booted_told (Ok values) = rules.booted values
booted_told (Err e) = rules.not_booted (error_number e) (error_place e)

-- ---- on the way
-- a look that finds the file with 64 bytes has them at the start of the buffer
abbrev pub Seen : List ℕ → List ℕ → Type 0
Seen img buf = (check 512 img ≡ consistent) × (rules.standing 512 img ≡ some (take 64 buf))

-- where a store goes
abbrev pub Goes : List ℕ → ℕ → Place → Type 0
Goes img board Stands = (check 512 img ≡ consistent) × (board ≢ 0) × ((old : List ℕ) × (rules.standing 512 img ≡ some old) × (length old ≡ 64))
Goes img board Absent = (check 512 img ≡ consistent) × (board ≢ 0) × (rules.standing 512 img ≡ none)

-- or why it is refused
abbrev pub RefusedBy : {T : Type 0} → tfs.Answer → Result T Error → Type 0
RefusedBy a (Ok x) = Unit {0}
RefusedBy a (Err e) = error_told e ≡ a
