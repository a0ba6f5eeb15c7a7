-- Numbers of an inode claimed in the byte of their row: one, or the eight that fill it.
use Rattle.std.specs.Prelude.{◌≡◌, Bool, true, false, List, length, eqb}
use Rattle.std.proofs.Math.Path.{refl, sym, ap}
use Rattle.std.proofs.Common.{◌∙◌, add-zero}
use Prim.Native.Nat.{ℕ, zero, suc, ◌+◌, ◌-◌, ◌/◌, ◌%◌, ◌≤◌, ◌<◌}
use native.Mathlib.Omega.{arith}
use Rattle.lists.specs.Lists.{with_bit}
use Rattle.tfs_spec.specs.Layout.{set_bits, inode_number}
use Rattle.tfs_check.specs.Doubled.{lower_of, doubled, numbers_to}
use Rattle.tfs_check.specs.Taken.{held, claim-marked, claim-twice}

-- numbers k to k + 7 are the eight blocks of a row, from b on, in a volume of n blocks
pub record Filled (ino : List ℕ) (count n k b : ℕ) : Type 0 where
  pub first : b % 8 ≡ 0
  pub listed : k + 8 ≤ count
  pub below : b + 8 ≤ n
  pub each : (j : ℕ) → j < 8 → inode_number ino (k + j) ≡ b + j

-- what a found row says; one that is not found costs time, as its numbers are claimed one by one
abbrev pub Fills : List ℕ → ℕ → ℕ → ℕ → ℕ → Bool → Type 0
Fills ino count n k b true = Filled ino count n k b
Fills ino count n k b false = Unit {0}

-- in a map whose byte of the row of b is `was`, with least as the lowest block claimed twice, the numbers from k to k' are claimed
-- where that byte is x, and least' is the lowest then; they are blocks of files
pub record Turned (ino : List ℕ) (count n k b was least k' x least' : ℕ) : Type 0 where
  pub on : k < k'
  pub listed : k' ≤ count
  pub right : (i : ℕ) → k ≤ i → i < k' → (3 ≤ inode_number ino i) × (inode_number ino i < n)
  pub marked : (map owned : List ℕ) (row : ℕ) → row ≡ b / 8 → length owned ≡ 512 → row < 512 → held owned row was ≡ set_bits map 1 (numbers_to ino k) → held owned row x ≡ set_bits map 1 (numbers_to ino k')
  pub lowest : (map owned : List ℕ) (row low : ℕ) → row ≡ b / 8 → length owned ≡ 512 → row < 512 → held owned row was ≡ set_bits map 1 (numbers_to ino k) → least ≡ doubled map (numbers_to ino k) low → least' ≡ doubled map (numbers_to ino k') low

-- ---- one number
pub one-turned : (ino : List ℕ) (count n k b was p x least : ℕ) → k < count → 3 ≤ b → b < n → b ≡ inode_number ino k → p ≡ b % 8 → x ≡ with_bit was p 1 → Turned ino count n k b was least (k + 1) x (lower_of (eqb was x) b least)
one-turned ino count n k b was p x least h low high is place e =
    record {
      on = omega arith;
      listed = omega arith;
      right = λ i l u. let z : i ≡ k = omega arith in rw (z, ← is) (low, high);
      marked = λ map owned row at long small same. claim-marked map ino owned (held owned row was) row was b k p at long small refl same is place x e;
      lowest = λ map owned row low at long small same l. claim-twice map ino owned (held owned row was) row was b k p at long small refl same is place x least low e l;
    }

-- ---- a whole row
-- a byte with its lowest j bits set
filled : ℕ → ℕ
filled zero = 0
filled (suc j) = with_bit (filled j) j 1

filled-all : filled 8 ≡ 255
unfolding filled with_bit
filled-all = refl

filled-grows : (j : ℕ) → j < 8 → eqb (filled j) (filled (suc j)) ≡ false
unfolding filled with_bit
filled-grows zero h = refl
filled-grows (suc zero) h = refl
filled-grows (suc (suc zero)) h = refl
filled-grows (suc (suc (suc zero))) h = refl
filled-grows (suc (suc (suc (suc zero)))) h = refl
filled-grows (suc (suc (suc (suc (suc zero))))) h = refl
filled-grows (suc (suc (suc (suc (suc (suc zero)))))) h = refl
filled-grows (suc (suc (suc (suc (suc (suc (suc zero))))))) h = refl
filled-grows (suc (suc (suc (suc (suc (suc (suc (suc j)))))))) h = absurd (omega arith)

module _ (ino : List ℕ) (count n k b : ℕ) (f : Filled ino count n k b) (map owned : List ℕ) (row : ℕ) (at : row ≡ b / 8) (long : length owned ≡ 512) (small : row < 512)
    (same : held owned row 0 ≡ set_bits map 1 (numbers_to ino k)) where
  row-marked : (j : ℕ) → j ≤ 8 → held owned row (filled j) ≡ set_bits map 1 (numbers_to ino (k + j))
  unfolding filled
  row-marked zero h = same ∙ ap (λ (i : ℕ). set_bits map 1 (numbers_to ino i)) (sym (add-zero k))
  row-marked (suc j) h =
      let next : k + j + 1 ≡ k + suc j = omega arith in
      let place : j ≡ (b + j) % 8 = omega (arith, f.first) in
      let here : row ≡ (b + j) / 8 = omega (arith, f.first, at) in
      claim-marked map ino owned (held owned row (filled j)) row (filled j) (b + j) (k + j) j here long small refl (row-marked j (omega arith)) (sym (f.each j (omega arith))) place (filled (suc j)) refl
      ∙ ap (λ (i : ℕ). set_bits map 1 (numbers_to ino i)) next

  row-lowest : (least low j : ℕ) → j ≤ 8 → least ≡ doubled map (numbers_to ino k) low → least ≡ doubled map (numbers_to ino (k + j)) low
  unfolding filled
  row-lowest least low zero h l = l ∙ ap (λ (i : ℕ). doubled map (numbers_to ino i) low) (sym (add-zero k))
  row-lowest least low (suc j) h l =
      let next : k + j + 1 ≡ k + suc j = omega arith in
      let place : j ≡ (b + j) % 8 = omega (arith, f.first) in
      let here : row ≡ (b + j) / 8 = omega (arith, f.first, at) in
      let more = claim-twice map ino owned (held owned row (filled j)) row (filled j) (b + j) (k + j) j here long small refl (row-marked j (omega arith)) (sym (f.each j (omega arith))) place (filled (suc j)) least low refl (row-lowest least low j (omega arith) l) in
      sym (ap (λ (t : Bool). lower_of t (b + j) least) (filled-grows j (omega arith))) ∙ more ∙ ap (λ (i : ℕ). doubled map (numbers_to ino i) low) next

pub row-turned : (ino : List ℕ) (count n k b was least : ℕ) → Filled ino count n k b → 3 ≤ b → was ≡ 0 → Turned ino count n k b was least (k + 8) 255 least
row-turned ino count n k b was least f low none =
    record {
      on = omega arith;
      listed = f.listed;
      right = λ i l u. rw (number i l u) (omega arith, omega (arith, f.below));
      marked = λ map owned row at long small same. rw (← filled-all) (row-marked ino count n k b f map owned row at long small (rw none at same) 8 (omega arith));
      lowest = λ map owned row low at long small same l. row-lowest ino count n k b f map owned row at long small (rw none at same) least low 8 (omega arith) l;
    }
  where
    number : (i : ℕ) → k ≤ i → i < k + 8 → inode_number ino i ≡ b + (i - k)
    number i l u =
        let e : k + (i - k) ≡ i = omega arith in
        ap (inode_number ino) (sym e) ∙ f.each (i - k) (omega arith)
