-- The arithmetic of blocks: the facts in which the block size B is multiplied or divided by.
use Rattle.std.specs.Prelude.{◌≡◌, refl, ◌⊎◌, ◌≢◌, ℕ, suc, ◌+◌, ◌*◌, ◌/◌, ◌%◌, ◌≤◌, ◌<◌, List, length}
use Rattle.std.proofs.Common.{sym, ap, ◌∙◌, inl, inr, arith, div-add-mod', mod-lt, mul-le-mul_right, le-div_iff_mul-le, suc-mul, lit≤}
use Rattle.std.proofs.Math.Decide.{dec_lt}
use Rattle.std.proofs.Math.Nat.{div-mul-le_self}
use Rattle.std.proofs.Math.Arith.{digits_div, digits_mod}
use Rattle.tfs_spec.specs.Layout.{BlockSize, need, blocks}

module _ (B : ℕ) (pos : 0 < B) where
  -- a place says its block and its offset
  pub split-block : (x y r t : ℕ) → r < B → t < B → x * B + r ≡ y * B + t → x ≡ y
  split-block x y r t hr ht e = sym (digits_div x hr) ∙ ap (λ (n : ℕ). n / B) e ∙ digits_div y ht

  pub split-offset : (x y r t : ℕ) → r < B → t < B → x * B + r ≡ y * B + t → r ≡ t
  split-offset x y r t hr ht e = sym (digits_mod x hr) ∙ ap (λ (n : ℕ). n % B) e ∙ digits_mod y ht

  pub rejoin : (p q : ℕ) → p / B ≡ q / B → p % B ≡ q % B → p ≡ q
  rejoin p q d m = sym (div-add-mod' p B) ∙ cc (div-add-mod' q B)

  -- a position of a file lies in one of its blocks
  pub in-need : (p size : ℕ) → p < size → p / B < need B size
  unfolding need
  in-need p size l = (le-div_iff_mul-le pos).1 (omega (arith, div-mul-le_self p B))

  pub in_block : (p : ℕ) → p % B < B
  in_block p = mod-lt p pos

-- blocks do not overlap
pub after_block : (B x y : ℕ) → x < y → x * B + B ≤ y * B
after_block B x y h = omega (arith, suc-mul x B, mul-le-mul_right {m = suc x} {n = y} B h)

pub apart-blocks : (B x y : ℕ) → x ≢ y → (y * B + B ≤ x * B) ⊎ (x * B + B ≤ y * B)
apart-blocks B x y d = elim (dec_lt x y) [ yes l ↦ inr (after_block B x y l) | no l ↦ inl (after_block B y x (omega arith)) ]

-- a block of the volume lies inside the image
pub in_image : (B b : ℕ) (img : List ℕ) → b < blocks B img → b * B + B ≤ length img
unfolding blocks
in_image B b img h =
    let k : b < length img / B = omega arith in
    omega (arith, after_block B b (length img / B) k, div-mul-le_self (length img) B)

pub size-512 : BlockSize 512
size-512 = record { large = lit≤ tt; whole = refl }
