-- What a result says, in the rules' terms.
use Rattle.std.specs.Prelude.{Result, Ok, Err}
use Rattle.tfs_spec.specs.Check.{Verdict, consistent, broken}
use Rattle.tfs_spec.specs.Requests.{Answer, refused}
use Rattle.tfs_refusal.specs.declared.Fault.{Fault}
use Rattle.tfs_refusal.specs.declared.Refusal.{Refusal}
use Rattle.tfs_refusal.specs.Refusal.{rule, place, number}

-- of the check
abbrev pub verdict_told : {T : Type 0} → Result T Fault → Verdict
verdict_told (Ok x) = consistent
verdict_told (Err f) = broken (rule f) (place f)

-- of a request on a consistent volume, by what it says where it is granted
abbrev pub step_told : {T : Type 0} → (T → Answer) → Result T Refusal → Answer
step_told grant (Ok x) = grant x
step_told grant (Err r) = refused (number r) 0
