-- One bit set and cleared by a mask.
use Rattle.std.specs.Prelude.{◌≡◌, ℕ, zero, suc, ◌/◌, ◌%◌, ◌^◌, ◌-◌, ◌*◌, ◌<◌}
use Rattle.std.proofs.Common.{◌∙◌, mod-eq_of_lt, le_of_suc-le-suc, arith, pow_pos}
use Rattle.std.proofs.Math.Nat.{pow-succ'}
use Rattle.std.specs.Int.Bits.{bit_or, bit_and, or_step, or_zero_r, and_step}
use Rattle.std.proofs.lemmas.Nat.{and_mask}
use Rattle.std.proofs.Math.Pow.{pow-lt}
use Rattle.lists.specs.Lists.{with_bit}

-- the mask sets bit k
pub or-with : (n k : ℕ) → bit_or n (2 ^ k) ≡ with_bit n k 1
unfolding with_bit
or-with n zero = or_step n 1 ∙ omega (arith, or_zero_r (n / 2))
or-with n (suc k) =
    let half : 2 ^ suc k / 2 ≡ 2 ^ k = omega (arith, pow-succ' 2 k) in
    or_step n (2 ^ suc k) ∙ rw (half, or-with (n / 2) k) (omega (arith, pow-succ' 2 k))

-- the mask clears bit k of a number of m bits
pub and-with : (n k m : ℕ) → k < m → n < 2 ^ m → bit_and n (2 ^ m - 1 - 2 ^ k) ≡ with_bit n k 0
unfolding with_bit
and-with n k zero l b = absurd (omega arith)
and-with n zero (suc m) l b =
    let half : (2 ^ suc m - 1 - 1) / 2 ≡ 2 ^ m - 1 = omega (arith, pow-succ' 2 m, pow_pos m) in
    let rest : n / 2 % 2 ^ m ≡ n / 2 = mod-eq_of_lt (omega (arith, pow-succ' 2 m)) in
    and_step n (2 ^ suc m - 1 - 1) ∙ rw (half, and_mask, rest) (omega (arith, pow-succ' 2 m, pow_pos m))
and-with n (suc k) (suc m) l b =
    let less : 2 ^ k < 2 ^ m = pow-lt (le_of_suc-le-suc l) in
    let half : (2 ^ suc m - 1 - 2 ^ suc k) / 2 ≡ 2 ^ m - 1 - 2 ^ k = omega (arith, pow-succ' 2 m, pow-succ' 2 k) in
    and_step n (2 ^ suc m - 1 - 2 ^ suc k)
    ∙ rw (half, and-with (n / 2) k m (omega arith) (omega (arith, pow-succ' 2 m))) (omega (arith, pow-succ' 2 m, pow-succ' 2 k))

-- the same of a byte and the mask that code has
pub or_one : (n k : ℕ) → k < 8 → bit_or n (1 * 2 ^ k % 256) ≡ with_bit n k 1
or_one n k h = let small : 1 * 2 ^ k % 256 ≡ 2 ^ k = omega (arith, pow-lt {j = 8} h) in rw small (or-with n k)

pub and_zero : (n k : ℕ) → k < 8 → n < 256 → bit_and n (255 - 1 * 2 ^ k % 256) ≡ with_bit n k 0
and_zero n k h b = let small : 1 * 2 ^ k % 256 ≡ 2 ^ k = omega (arith, pow-lt {j = 8} h) in rw small (and-with n k 8 h b)
