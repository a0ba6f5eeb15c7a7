-- What the lookup of a name gives, in the rules' terms.
use Rattle.std.specs.Prelude.{ℕ, Result, Ok, Err}
use Rattle.tfs_spec.specs.Requests as rules
use Rattle.tfs_refusal.specs.declared.Refusal.{Refusal}
use Rattle.tfs_refusal.specs.Refusal.{number}

abbrev pub lookup_told : Result ℕ Refusal → rules.Lookup
lookup_told (Ok s) = rules.in_slot s
lookup_told (Err r) = rules.denied (number r)
