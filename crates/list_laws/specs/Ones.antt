-- The ones of a number's low bits.
use Rattle.std.specs.Prelude.{◌≡◌, refl, cond, ℕ, zero, suc, ◌+◌, ◌/◌, ◌%◌, ◌^◌, ◌<◌, eqb}
use Rattle.std.proofs.Common.{sym, ap, ap₂, ◌∙◌, add_comm, mod-lt, one-add, arith, pow_pos}
use Rattle.std.proofs.Math.Nat.{mod-one}
use Rattle.std.specs.Int.Count.{ones}
use Rattle.std.proofs.lemmas.Nat.{ones_cat, mod-pow-add}
use Rattle.lists.specs.Lists.{bit_of, sum, count}
use Rattle.list_laws.specs.Bits.{bit-shift, bit-small}

one_bit : (b : ℕ) → b < 2 → ones b ≡ b
unfolding ones
one_bit zero h = refl
one_bit (suc zero) h = refl
one_bit (suc (suc b)) h = absurd (omega arith)

is_one : (b : ℕ) → b < 2 → cond {A = ℕ} (eqb b 1) 1 0 ≡ b
is_one zero h = refl
is_one (suc zero) h = refl
is_one (suc (suc b)) h = absurd (omega arith)

-- one more low bit
ones-more : (w m : ℕ) → ones (w % 2 ^ suc m) ≡ ones (w % 2 ^ m) + bit_of w m
ones-more w m =
    ap (λ (k : ℕ). ones (w % 2 ^ k)) (sym (one-add m))
    ∙ ap ones (mod-pow-add w 1 m)
    ∙ ones_cat m (w / 2 ^ m % 2) (w % 2 ^ m) (mod-lt w (pow_pos m))
    ∙ rw (bit-shift w m, one_bit (bit_of w m) (bit-small w m), add_comm)

-- the ones below bit m
pub ones_cut : (w m : ℕ) → ones (w % 2 ^ m) ≡ count (λ k. eqb (bit_of w k) 1) m
unfolding ones sum
ones_cut w zero = rw mod-one
ones_cut w (suc m) = ones-more w m ∙ ap₂ ◌+◌ (ones_cut w m) (sym (is_one (bit_of w m) (bit-small w m)))
