-- The numbers of the layout: N, the blocks that a size needs, and four bytes.
use Rattle.std.specs.Prelude.{◌≡◌, List, []}
use Prim.Native.Nat.{ℕ, zero, suc, ◌+◌, ◌-◌, ◌*◌, ◌/◌, ◌≤◌, ◌<◌}
use native.Mathlib.Omega.{arith}
use Rattle.std.proofs.Math.Decide.{dec_lt}
use Rattle.std.proofs.Math.Nat.{mul-le-mul_right, div-mul-le_self, suc-mul}
use Rattle.std.proofs.Common.{le-div_iff_mul-le, div-lt_iff_lt-mul}
use Rattle.std.proofs.Math.ListN.{length, get_or-eq_default}
use Rattle.lists.specs.Lists.{bytes4}
use Rattle.tfs_spec.specs.Layout.{BlockSize, max_size, need, blocks}
use Rattle.tfs_spec.specs.Consistent.{number_at, Bytes}
use Rattle.tfs_proofs.specs.Content.{need-enough}

module _ (B : ℕ) (sz : BlockSize B) where
  pos : 0 < B
  pos = omega (arith, sz.large)

  pub large : (img : List ℕ) → 8 * B * B ≤ length img → blocks B img ≡ 8 * B
  unfolding blocks
  large img h = let k : 8 * B ≤ length img / B = (le-div_iff_mul-le pos).1 h in omega arith

  pub small : (img : List ℕ) → length img ≤ 8 * B * B → blocks B img ≡ length img / B
  unfolding blocks
  small img h =
      elim (dec_lt (8 * B) (length img / B)) [
        | yes k ↦ absurd (omega (arith, mul-le-mul_right {m = suc (8 * B)} {n = length img / B} B k, suc-mul (8 * B) B, div-mul-le_self (length img) B, sz.large))
        | no k ↦ omega arith
      ]

  pub enough : (z : ℕ) → z ≤ need B z * B
  enough z = need-enough B z pos

  pub tight : (z : ℕ) → need B z * B < z + B
  unfolding need
  tight z = omega (arith, div-mul-le_self (z + (B - 1)) B, sz.large)

  pub one : (z : ℕ) → 1 ≤ z → z ≤ B → (need B z ≡ 1) × (z ≤ max_size B)
  unfolding need
  one z h k = (
    (let low : 1 ≤ (z + (B - 1)) / B = (le-div_iff_mul-le pos).1 (omega arith) in
        let high : (z + (B - 1)) / B < 2 = (div-lt_iff_lt-mul {k = B} {x = z + (B - 1)} {y = 2} pos).1 (omega arith) in
        omega arith),
    let many : 1 ≤ B / 4 - 1 = omega (arith, sz.large) in
        omega (arith, mul-le-mul_right {m = 1} {n = B / 4 - 1} B many),
  )

bytes_of : (n : ℕ) → n < 4294967296 → Bytes (bytes4 n)
bytes_of n h zero = omega arith
bytes_of n h (suc zero) = omega arith
bytes_of n h (suc (suc zero)) = omega arith
bytes_of n h (suc (suc (suc zero))) = omega arith
bytes_of n h (suc (suc (suc (suc i)))) = omega (arith, get_or-eq_default {A = ℕ} [] 0 {n = i} (omega arith))

pub four_bytes : (n : ℕ) → n < 4294967296 → Bytes (bytes4 n) × (number_at (bytes4 n) 0 ≡ n)
four_bytes n h = (bytes_of n h, omega arith)
