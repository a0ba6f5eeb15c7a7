use mathlib.Core.Path.{◌≡◌, sym, ap, ◌∙◌}
use Prim.Native.Nat.{ℕ, ◌+◌, ◌-◌, ◌/◌, ◌%◌, ◌^◌, ◌≤◌}
use native.Mathlib.Nat.{mod-lt}
use native.Mathlib.Omega.{arith}
use lib.Count.{ones, ones-le}
use lib.Bits.{and_mask, bit_and}
use lib.Pow.{high, ones_split, ones_lt, pow_pos}
use Rattle.tfs_ones.proofs.low_ones.Goals as goal

mask : (m : ℕ) → m ≤ 32 → 4294967295 / 2 ^ (32 - m) ≡ 2 ^ m - 1
mask m h =
    let e : m + (32 - m) ≡ 32 = omega arith in
    ap (λ (x : ℕ). x / 2 ^ (32 - m)) (sym (ap (λ (i : ℕ). 2 ^ i - 1) e) ∙ ones_split m (32 - m)) ∙ high (2 ^ m - 1) (32 - m) (ones_lt (32 - m))

pub returns : goal.returns
returns c =
    let cut : bit_and c.args.w (4294967295 / 2 ^ (32 - c.args.m)) ≡ c.args.w % 2 ^ c.args.m = ap (bit_and c.args.w) (mask c.args.m (omega arith)) ∙ and_mask c.args.w c.args.m in
    (ap ones cut, rw cut (ones-le c.args.m _ (mod-lt _ (pow_pos c.args.m))))
