-- What a result of the C interface tells: an answer of the rules, as numbers.
use Rattle.std.specs.Prelude.{ℕ}
use Rattle.tfs_spec.specs.Requests.{Answer, done, value, transferred, unused, file, refused}
use Rattle.timing_spec.specs.Timing as rules
use Rattle.timing_c.specs.declared.TimingResult.{TimingResult}
use Rattle.timing_c.specs.declared.TimingBooted.{TimingBooted}

-- the refusal's number, 0 for granted; its place; the number of a block
abbrev pub of_numbers : ℕ → ℕ → ℕ → TimingResult
of_numbers num p x = record { refusal = num; place = p; value = x }

unfoldable pub result_of : Answer → TimingResult
result_of done = of_numbers 0 0 0
result_of (value x) = of_numbers 0 0 x
result_of (transferred c m) = of_numbers 0 0 0
result_of unused = of_numbers 0 0 0
result_of (file nm i z) = of_numbers 0 0 0
result_of (refused num p) = of_numbers num p 0

-- the same of a boot, and the values
abbrev pub booted_of : rules.Booted → TimingBooted
booted_of b = record { refusal = (result_of b.answer).refusal; place = (result_of b.answer).place; values = b.values }
