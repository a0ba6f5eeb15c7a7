-- A byte of a map taken out of it: the map is the one with the byte in its place.
use Rattle.std.specs.Prelude.{◌≡◌, refl, ℕ, zero, suc, ◌+◌, ◌*◌, ◌-◌, ◌/◌, ◌%◌, ◌<◌, List, [], ◌∷◌, length, set}
use Rattle.std.proofs.Common.{sym, ◌∙◌, arith, eq-eqb, ne_eqb}
use Rattle.std.proofs.Math.Path.{ap}
use Rattle.std.proofs.Math.Decide.{ℕ_discrete}
use Rattle.std.proofs.Math.ListN.{get_or}
use Rattle.std.proofs.Math.Seq.{get_or-set_same}
use Rattle.std.proofs.lemmas.List.{set-get_or}
use Rattle.std.proofs.Math.Dec.{eqb}
use Rattle.lists.specs.Lists.{bit_of, with_bit}
use Rattle.list_laws.specs.Bits.{bit-same, bit-stays}
use Rattle.tfs_spec.specs.Layout.{map_byte, map_bit, set_bit, set_bits, inode_number}
use Rattle.tfs_check.specs.Doubled.{lower_of, doubled, numbers_to, marked_next, twice-next}

-- the byte that holds the bits of blocks 8 * row to 8 * row + 7
unfoldable pub row_byte : ℕ → ℕ
row_byte row = 4 * (row / 4) + (3 - row % 4)

-- the map with the byte of a row in its place
unfoldable pub held : List ℕ → ℕ → ℕ → List ℕ
held map row byte = set map (row_byte row) byte

pub row_of : (b : ℕ) → map_byte b ≡ row_byte (b / 8)
unfolding row_byte
row_of b = omega arith

pub row_small : (row : ℕ) → row < 512 → row_byte row < 512
unfolding row_byte
row_small row h = omega arith

set-again : (l : List ℕ) (i a b : ℕ) → set (set l i a) i b ≡ set l i b
set-again [] i a b = refl
set-again (x ∷ l) zero a b = refl
set-again (x ∷ l) (suc i) a b = ap (λ (r : List ℕ). x ∷ r) (set-again l i a b)

-- the bit of a block of the row
module _ (map : List ℕ) (row byte b : ℕ) (e : row ≡ b / 8) (long : length map ≡ 512) (small : row < 512) where
  here : get_or (held map row byte) (map_byte b) 0 ≡ byte
  unfolding held
  here =
      ap (λ (i : ℕ). get_or (set map (row_byte row) byte) i 0) (row_of b ∙ ap row_byte (sym e))
      ∙ get_or-set_same {A = ℕ} map (row_byte row) byte 0 (omega (arith, row_small row small))

  pub held-bit : map_bit (held map row byte) b ≡ eqb (bit_of byte (b % 8)) 1
  unfolding map_bit
  held-bit = ap (λ (x : ℕ). eqb (bit_of x (b % 8)) 1) here

  held-again : (x i : ℕ) → i ≡ row_byte row → held map row x ≡ set (held map row byte) i x
  unfolding held
  held-again x i f = rw f (sym (set-again map (row_byte row) byte x))

  pub held-set : held map row (with_bit byte (b % 8) 1) ≡ set_bit (held map row byte) b 1
  unfolding set_bit
  held-set = rw here (held-again (with_bit byte (b % 8) 1) (map_byte b) (row_of b ∙ ap row_byte (sym e)))

-- a byte put back
pub held-put : (map : List ℕ) (row byte i : ℕ) → i ≡ row_byte row → set map i byte ≡ held map row byte
unfolding held
held-put map row byte i e = rw e

-- a byte read from its place
pub held-own : (map : List ℕ) (row i : ℕ) → i ≡ row_byte row → held map row (get_or map i 0) ≡ map
unfolding held
held-own map row i e = rw e (set-get_or map (row_byte row) 0)

-- a byte that stays where bit k is set had it
one-stays : (x k : ℕ) → eqb x (with_bit x k 1) ≡ eqb (bit_of x k) 1
one-stays x k =
    elim (ℕ_discrete (bit_of x k) 1) [
      | yes e ↦ eq-eqb x (with_bit x k 1) (sym (rw e at (bit-stays x k))) ∙ sym (eq-eqb (bit_of x k) 1 e)
      | no z ↦ ne_eqb x (with_bit x k 1) (λ e. z (ap (λ (y : ℕ). bit_of y k) e ∙ bit-same x k 1 (omega arith))) ∙ sym (ne_eqb (bit_of x k) 1 z)
    ]

-- ---- the next number of an inode, whose row is taken
module _ (map ino owned old : List ℕ) (row byte b k p : ℕ) (at : row ≡ b / 8) (long : length owned ≡ 512) (small : row < 512)
    (same : held owned row byte ≡ old) (so_far : old ≡ set_bits map 1 (numbers_to ino k)) (is : b ≡ inode_number ino k) (place : p ≡ b % 8) where
  marked : held owned row byte ≡ set_bits map 1 (numbers_to ino k)
  marked = same ∙ so_far

  pub claim-marked : (x : ℕ) → x ≡ with_bit byte p 1 → held owned row x ≡ set_bits map 1 (numbers_to ino (k + 1))
  claim-marked x e =
      ap (held owned row) (e ∙ ap (λ (i : ℕ). with_bit byte i 1) place)
      ∙ held-set owned row byte b at long small
      ∙ ap (λ (m : List ℕ). set_bit m b 1) marked
      ∙ ap (λ (i : ℕ). set_bit (set_bits map 1 (numbers_to ino k)) i 1) is
      ∙ marked_next map ino k

  pub claim-twice : (x least low : ℕ) → x ≡ with_bit byte p 1 → least ≡ doubled map (numbers_to ino k) low → lower_of (eqb byte x) b least ≡ doubled map (numbers_to ino (k + 1)) low
  claim-twice x least low e l =
      let t : eqb byte x ≡ map_bit (set_bits map 1 (numbers_to ino k)) b =
      ap (eqb byte) (e ∙ ap (λ (i : ℕ). with_bit byte i 1) place) ∙ one-stays byte (b % 8) ∙ sym (held-bit owned row byte b at long small) ∙ ap (λ (m : List ℕ). map_bit m b) marked in
      rw (t, is, l) (twice-next map ino k low)
