-- What the program has of its two files, and what it makes of them.
use Rattle.std.specs.Prelude.{Bool, cond, ◌&&◌, ℕ, List, length, leb}
use Rattle.std.proofs.Math.Option.{Option, none, some}
use Rattle.tfs_spec.specs.Replays.{replay}

-- a file's bytes, or none where it was not read whole
abbrev pub file_of : Bool → List ℕ → Option (List ℕ)
file_of is_read bs = cond is_read (some bs) none

-- both were read, and neither is too long
abbrev pub replayable : List ℕ → Bool → List ℕ → Bool → Bool
replayable img image_read t trace_read = image_read && (trace_read && (leb (length img) 65536 && leb (length t) 65536))

-- the bytes of the image in memory afterwards; the file stays
abbrev pub image_after : List ℕ → Bool → List ℕ → Bool → List ℕ
image_after img image_read t trace_read = cond (replayable img image_read t trace_read) (replay 512 img t).image img
