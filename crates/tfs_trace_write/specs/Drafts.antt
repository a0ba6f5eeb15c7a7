-- The record that a draft stands for, with its name, bytes, refusal and value; and what writing answers.
use Rattle.std.specs.Prelude.{cond, ℕ, Result, Ok, Err, List, eqb}
use Rattle.tfs_spec.specs.Requests.{Answer, value, refused}
use Rattle.tfs_spec.specs.Traces.{Call, creating, removing, reading, writing, counting, Expected, nothing, bytes, amount, refusal, Record, record_of}
use Rattle.tfs_trace_write.specs.declared.Draft.{Draft}
use Rattle.tfs_trace_write.specs.declared.Draft.TheVariants as draft
use Rattle.tfs_trace_write.specs.declared.TooLarge.{TooLarge}

abbrev pub draft_call : Draft → List ℕ → List ℕ → Call
draft_call (draft.Create z) nm bs = creating nm z
draft_call draft.Remove nm bs = removing nm
draft_call (draft.Read o len) nm bs = reading nm o len
draft_call (draft.Write o) nm bs = writing nm o bs
draft_call draft.Free nm bs = counting

-- the result of a granted request
abbrev pub draft_result : Draft → List ℕ → ℕ → Expected
draft_result (draft.Create z) bs v = nothing
draft_result draft.Remove bs v = nothing
draft_result (draft.Read o len) bs v = bytes bs
draft_result (draft.Write o) bs v = amount v
draft_result draft.Free bs v = amount v

-- 0 for granted
abbrev pub draft_expected : Draft → List ℕ → ℕ → ℕ → Expected
draft_expected d bs num v = cond (eqb num 0) (draft_result d bs v) (refusal num)

abbrev pub draft_told : Draft → List ℕ → List ℕ → ℕ → ℕ → Record
draft_told d nm bs num v = record_of (draft_call d nm bs) (draft_expected d bs num v)

abbrev pub written_told : Result ℕ TooLarge → Answer
written_told (Ok n) = value n
written_told (Err e) = refused 33 0
