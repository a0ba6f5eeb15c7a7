-- What a result says, in the rules' terms.
use Rattle.std.specs.Prelude.{Result, Ok, Err}
use Rattle.romfs_spec.specs.Check.{Verdict, accepted, broken}
use Rattle.romfs_spec.specs.Requests.{Answer, granted, refused}
use Rattle.romfs_refusal.specs.declared.Fault.{Fault}
use Rattle.romfs_refusal.specs.declared.Refusal.{Refusal}
use Rattle.romfs_refusal.specs.Refusal.{rule, place, number}

-- of the check
abbrev pub verdict_told : {T : Type 0} → Result T Fault → Verdict
verdict_told (Ok x) = accepted
verdict_told (Err f) = broken (rule f) (place f)

-- of a request on an image that the check accepts, by what it grants
abbrev pub step_told : {T A : Type 0} → (T → A) → Result T Refusal → Answer A
step_told grant (Ok x) = granted (grant x)
step_told grant (Err r) = refused (number r) 0
