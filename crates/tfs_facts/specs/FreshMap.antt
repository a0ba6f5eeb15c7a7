-- The map of a fresh volume, in which blocks 0 to 2 are marked.
use Rattle.std.specs.Prelude.{◌≡◌, refl, false, ℕ, zero, suc, ◌%◌, ◌≤◌, ◌<◌, List, [], ◌∷◌, length, T, ltb, eqb}
use Rattle.std.proofs.Common.{sym, ap, ◌∙◌, subst, inl, inr, ⊎_elim, arith, ltb→lt, lt-ltb, le-ltb}
use Rattle.std.proofs.Math.Decide.{dec_lt}
use Rattle.std.proofs.lemmas.List.{length-replicate}
use Rattle.list_laws.specs.Test.{zeros-byte, of-true}
use Rattle.lists.specs.Lists.{zeros, bit_of, In}
use Rattle.list_laws.specs.Bits.{bit-zero}
use Rattle.tfs_spec.specs.Layout.{map_byte, map_bit, set_bits}
use Rattle.tfs_facts.specs.MapBits.{Mapped, bits-kept, bits-set}

-- no block is marked in a map of zeros
zeros-clear : (n b : ℕ) → map_bit (zeros n) b ≡ false
unfolding map_bit
zeros-clear n b = ap (λ (x : ℕ). eqb (bit_of x (b % 8)) 1) (zeros-byte n (map_byte b)) ∙ ap (λ (x : ℕ). eqb x 1) (bit-zero (b % 8))

-- ---- the map marks blocks 0 to 2
abbrev pub format_map : ℕ → List ℕ
format_map B = set_bits (zeros B) 1 (0 ∷ 1 ∷ 2 ∷ [])

map-three : (B : ℕ) → 512 ≤ B → Mapped (length (zeros B)) (0 ∷ 1 ∷ 2 ∷ [])
map-three B h = rw (length-replicate {A = ℕ}) (omega arith)

three-in : (b : ℕ) → b < 3 → In b (0 ∷ 1 ∷ 2 ∷ [])
three-in zero h = inl refl
three-in (suc zero) h = inr (inl refl)
three-in (suc (suc zero)) h = inr (inr (inl refl))
three-in (suc (suc (suc b))) h = absurd (omega arith)

in_three : (b : ℕ) → In b (0 ∷ 1 ∷ 2 ∷ []) → b < 3
in_three b i = ⊎_elim (λ e. omega arith) (⊎_elim (λ e. omega arith) (⊎_elim (λ e. omega arith) (λ e. absurd e))) i

-- bit b says whether b is below 3
pub fresh-bit : (B b : ℕ) → 512 ≤ B → map_bit (format_map B) b ≡ ltb b 3
fresh-bit B b h =
    elim (dec_lt b 3) [
      | yes l ↦ (bits-set 1 (omega arith) (0 ∷ 1 ∷ 2 ∷ []) (zeros B) (map-three B h) b (three-in b l) ∙ sym (lt-ltb b 3 l))
      | no l ↦
          bits-kept 1 (omega arith) (0 ∷ 1 ∷ 2 ∷ []) (zeros B) (map-three B h) b (λ i. l (in_three b i))
          ∙ zeros-clear B b
          ∙ sym (le-ltb b 3 (omega arith))
    ]

pub marked-low : (B b : ℕ) → 512 ≤ B → b < 3 → T (map_bit (format_map B) b)
marked-low B b h l = of-true (map_bit (format_map B) b) (fresh-bit B b h ∙ lt-ltb b 3 l)

pub low-marked : (B b : ℕ) → 512 ≤ B → T (map_bit (format_map B) b) → b < 3
low-marked B b h t = ltb→lt b 3 (subst T (fresh-bit B b h) t)
