-- Decimal digits, as the rules have them and as std prints them.
use Rattle.std.specs.Prelude.{◌≡◌, ℕ, ◌<◌, ◌^◌}
use Rattle.std.specs.Fmt as std
use Rattle.std.proofs.Common.{arith, rules, sym}
use Rattle.std.proofs.lemmas.Fmt.{AppendsLastDigit, decimal_from_appends, length-decimal-le}
use Rattle.tfs_spec.specs.Replays.{decimal}

appends : AppendsLastDigit decimal
unfolding decimal
appends = search rules

pub printed : (n : ℕ) → n < 2 ^ 64 → std.decimal n ≡ decimal 20 n
printed n h = sym (decimal_from_appends decimal appends 20 n h (length-decimal-le 20 n (omega arith) (omega arith) h))
