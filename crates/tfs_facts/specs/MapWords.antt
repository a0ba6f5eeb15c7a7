-- The map by 32-bit words: block b is bit (b mod 32), from the least significant, of the big-endian word (b div 32).
use Rattle.std.specs.Prelude.{◌≡◌, ℕ, ◌+◌, ◌-◌, ◌*◌, ◌/◌, ◌%◌, ◌≤◌, ◌<◌, List, get_or, eqb}
use Rattle.std.proofs.Common.{ap, ap₂, ◌∙◌, arith}
use Rattle.std.proofs.Math.Decide.{dec_lt}
use Rattle.lists.specs.Lists.{bit_of, word}
use Rattle.list_laws.specs.Bits.{bit-low, bit_high}
use Rattle.tfs_spec.specs.Layout.{map_bit}

-- a bit of the last byte, and one of the bytes before it
bit-last : (x d k : ℕ) → k < 8 → bit_of (x * 256 + d) k ≡ bit_of d k
bit-last x d k h = bit-low x d 8 k h

bit-before : (x d k : ℕ) → d < 256 → 8 ≤ k → bit_of (x * 256 + d) k ≡ bit_of x (k - 8)
bit-before x d k h l = let e : 8 + (k - 8) ≡ k = omega arith in rw e at (bit_high x d 8 (k - 8) h)

-- bit k of a word is bit (k mod 8) of its byte 3 − k div 8
pub bit-of-word : (l : List ℕ) (p k : ℕ) → ((i : ℕ) → get_or l i 0 < 256) → k < 32 → bit_of (word l p) k ≡ bit_of (get_or l (p + (3 - k / 8)) 0) (k % 8)
unfolding word
bit-of-word l p k small h =
    let a : ℕ = get_or l p 0 in
    let b : ℕ = get_or l (p + 1) 0 in
    let c : ℕ = get_or l (p + 2) 0 in
    let d : ℕ = get_or l (p + 3) 0 in
    elim (dec_lt k 8) [
      | yes m ↦ (bit-last ((a * 256 + b) * 256 + c) d k m ∙ at 3 k (omega arith) (omega arith))
      | no m ↦
          bit-before ((a * 256 + b) * 256 + c) d k (small (p + 3)) (omega arith)
          ∙ elim (dec_lt k 16) [
            | yes n ↦ (bit-last (a * 256 + b) c (k - 8) (omega arith) ∙ at 2 (k - 8) (omega arith) (omega arith))
            | no n ↦
                bit-before (a * 256 + b) c (k - 8) (small (p + 2)) (omega arith)
                ∙ elim (dec_lt k 24) [
                  | yes o ↦ (bit-last a b (k - 8 - 8) (omega arith) ∙ at 1 (k - 8 - 8) (omega arith) (omega arith))
                  | no o ↦
                      bit-before a b (k - 8 - 8) (small (p + 1)) (omega arith)
                      ∙ ap₂ (λ (i j : ℕ). bit_of (get_or l i 0) j) (omega arith) (omega arith)
                ]
          ]
    ]
  where
    at : (i j : ℕ) → i ≡ 3 - k / 8 → j ≡ k % 8 → bit_of (get_or l (p + i) 0) j ≡ bit_of (get_or l (p + (3 - k / 8)) 0) (k % 8)
    at i j e f = ap₂ (λ (x y : ℕ). bit_of (get_or l (p + x) 0) y) e f

-- the map bit of block b
pub map-bit-word : (map : List ℕ) (b : ℕ) → ((i : ℕ) → get_or map i 0 < 256) → map_bit map b ≡ eqb (bit_of (word map (4 * (b / 32))) (b % 32)) 1
unfolding map_bit
map-bit-word map b small =
    let e : b % 8 ≡ b % 32 % 8 = omega arith in
    rw (bit-of-word map (4 * (b / 32)) (b % 32) small (omega arith)) (ap (λ (j : ℕ). eqb (bit_of (get_or map (4 * (b / 32) + (3 - b % 32 / 8)) 0) j) 1) e)
