-- What an error of a request says, and what each answer does, in the rules' terms.
use Rattle.std.specs.Prelude.{◌≡◌, refl, ℕ, Result, Ok, Err, Option, None, Some}
use Rattle.tfs_spec.specs.Requests as rules
use Rattle.tfs_spec.specs.Replays as replays
use Rattle.tfs_refusal.specs.declared.Fault.{Fault}
use Rattle.tfs_refusal.specs.Refusal.{rule, place, number}
use Rattle.tfs_replay.specs.declared.Stop.{Stop}
use Rattle.tfs_replay.specs.declared.Stop.TheVariants as at
use Rattle.tfs_replay.specs.Told.{replayed_told}
use Rattle.tfs.specs.declared.error.Error.{Error}
use Rattle.tfs.specs.declared.error.Error.TheVariants.{Inconsistent, Refused}
use Rattle.tfs.specs.declared.error.ReplayError.{ReplayError}
use Rattle.tfs.specs.declared.error.ReplayError.TheVariants as replay
use Rattle.tfs.specs.declared.entry.Entry.{Entry}

-- ---- an error: its number, and the slot or block, 0 of a refusal
abbrev pub error_number : Error → ℕ
error_number (Inconsistent f) = rule f
error_number (Refused r) = number r

abbrev pub error_place : Error → ℕ
error_place (Inconsistent f) = place f
error_place (Refused r) = 0

-- ---- the answers, by what each says where it is granted
abbrev pub answer_told : {T : Type 0} → (T → rules.Answer) → Result T Error → rules.Answer
answer_told grant (Ok x) = grant x
answer_told grant (Err e) = rules.refused (error_number e) (error_place e)

-- of a request that only the check refuses
abbrev pub fault_told : {T : Type 0} → (T → rules.Answer) → Result T Fault → rules.Answer
fault_told grant (Ok x) = grant x
fault_told grant (Err f) = rules.refused (rule f) (place f)

-- a slot: free, or a file
abbrev pub entry_told : Option Entry → rules.Answer
entry_told None = rules.unused
entry_told (Some e) = rules.file e.name e.inode e.size

abbrev pub replay_told : Result ℕ ReplayError → replays.Replayed
replay_told (Ok n) = replays.replayed n
replay_told (Err (replay.Inconsistent f)) = replays.denied (rule f) (place f)
replay_told (Err (replay.Malformed k)) = replays.malformed_at k
replay_told (Err (replay.Differs k)) = replays.differs_at k

-- a replay that stops at a record
abbrev pub stopped : Stop → ReplayError
stopped (at.Malformed k) = replay.Malformed k
stopped (at.Differs k) = replay.Differs k

pub told_stopped : (s : Stop) → replay_told (Err (stopped s)) ≡ replayed_told (Err s)
told_stopped (at.Malformed k) = refl
told_stopped (at.Differs k) = refl
