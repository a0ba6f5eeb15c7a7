-- The two files of the program.
use Rattle.std.specs.Prelude.{◌≡◌, Bool, true, false, cond, ℕ, List, [], ◌∷◌}
use Rattle.std.proofs.Common.{sym, ap}
use Rattle.tfs_spec.specs.Replays.{replay, line_numbers, program_numbers}
use Rattle.replay_line.specs.File.{file_of, replayable}

pub program_by : (img t : List ℕ) (a b : Bool) (ok : Bool) → replayable img a t b ≡ ok → cond ok (line_numbers (replay 512 img t).result) (4 ∷ []) ≡ program_numbers (file_of a img) (file_of b t)
unfolding program_numbers
program_by img t true true ok e = ap (λ (x : Bool). cond x (line_numbers (replay 512 img t).result) (4 ∷ [])) (sym e)
program_by img t true false ok e = ap (λ (x : Bool). cond x (line_numbers (replay 512 img t).result) (4 ∷ [])) (sym e)
program_by img t false true ok e = ap (λ (x : Bool). cond x (line_numbers (replay 512 img t).result) (4 ∷ [])) (sym e)
program_by img t false false ok e = ap (λ (x : Bool). cond x (line_numbers (replay 512 img t).result) (4 ∷ [])) (sym e)
