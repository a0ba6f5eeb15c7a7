use native.Mathlib.Omega.{arith}
use Rattle.list_laws.specs.Bits.{bit-shift}
use Rattle.spans.proofs.bits.bit_of.Goals as goal

pub returns : goal.returns
returns c = (bit-shift c.args.x c.args.k, omega arith)
