-- The next free block by words: a word of ones has none.
use Rattle.std.proofs.Math.Path.{◌≡◌, refl}
use Rattle.std.proofs.Common.{ap, ◌∙◌, leb→le, eqb→eq}
use Rattle.std.specs.Prelude.{Bool, cond, ◌&&◌, ℕ, zero, suc, ◌+◌, ◌-◌, ◌*◌, ◌/◌, ◌%◌, ◌≤◌, ◌<◌, List, get_or, T, leb, eqb}
use Rattle.std.proofs.Math.Bool.{true, false}
use native.Mathlib.Omega.{arith}
use Rattle.lists.specs.Lists.{bit_of}
use Rattle.list_laws.specs.Test.{to-true, of-true, and_l, and_r}
use Rattle.spans.specs.Alike.{word_is, word-filled}
use Rattle.tfs_spec.specs.Layout.{map_byte, map_bit}
use Rattle.tfs_map.specs.Free.{next_free, next_past}

-- ---- the bits of a word of ones
ones_bit : (k : ℕ) → k < 8 → bit_of 255 k ≡ 1
unfolding bit_of
ones_bit zero h = refl
ones_bit (suc zero) h = refl
ones_bit (suc (suc zero)) h = refl
ones_bit (suc (suc (suc zero))) h = refl
ones_bit (suc (suc (suc (suc zero)))) h = refl
ones_bit (suc (suc (suc (suc (suc zero))))) h = refl
ones_bit (suc (suc (suc (suc (suc (suc zero)))))) h = refl
ones_bit (suc (suc (suc (suc (suc (suc (suc zero))))))) h = refl
ones_bit (suc (suc (suc (suc (suc (suc (suc (suc k)))))))) h = absurd (omega arith)

word_byte : (map : List ℕ) (b : ℕ) → word_is map (b / 32) 255 ≡ true → get_or map (map_byte b) 0 ≡ 255
word_byte map b e = word-filled map (b / 32) 255 (3 - b % 32 / 8) e (omega arith)

-- each of the n blocks from `from` on is reserved
abbrev Held : List ℕ → ℕ → ℕ → Type 0
Held map from n = (b : ℕ) → from ≤ b → b < from + n → map_bit map b ≡ true

word_ones : (map : List ℕ) (k : ℕ) → word_is map k 255 ≡ true → Held map (32 * k) 32
unfolding map_bit
word_ones map k e b h l =
    let w : b / 32 ≡ k = omega arith in
    ap (λ (x : ℕ). eqb (bit_of x (b % 8)) 1) (word_byte map b (ap (λ (i : ℕ). word_is map i 255) w ∙ e)) ∙ ap (λ (x : ℕ). eqb x 1) (ones_bit (b % 8) (omega arith))

-- ---- the next free block
-- whether b begins a word below n of reserved blocks only
unfoldable pub word_held : List ℕ → ℕ → ℕ → Bool
word_held map b n = eqb (b % 32) 0 && (leb (b + 32) n && word_is map (b / 32) 255)

-- how far a search may go from b on
unfoldable pub held_from : List ℕ → ℕ → ℕ → ℕ
held_from map b n = let one : ℕ = cond (map_bit map b) 1 0 in cond (word_held map b n) 32 one

-- a word that is held lies below n
pub word_fits : (map : List ℕ) (b n : ℕ) → word_held map b n ≡ true → b + 32 ≤ n
unfolding word_held
word_fits map b n e =
    let t : T (leb (b + 32) n && word_is map (b / 32) 255) = and_r (eqb (b % 32) 0) (leb (b + 32) n && word_is map (b / 32) 255) (of-true (word_held map b n) e) in
    leb→le (b + 32) n (and_l (leb (b + 32) n) (word_is map (b / 32) 255) t)

word-run : (map : List ℕ) (b n : ℕ) → word_held map b n ≡ true → Held map b 32
unfolding word_held
word-run map b n e =
    let whole : T (word_held map b n) = of-true (word_held map b n) e in
    let t : T (leb (b + 32) n && word_is map (b / 32) 255) = and_r (eqb (b % 32) 0) (leb (b + 32) n && word_is map (b / 32) 255) whole in
    let z : b % 32 ≡ 0 = eqb→eq (b % 32) 0 (and_l (eqb (b % 32) 0) (leb (b + 32) n && word_is map (b / 32) 255) whole) in
    let at : 32 * (b / 32) ≡ b = omega arith in
    rw at at (word_ones map (b / 32) (to-true (word_is map (b / 32) 255) (and_r (leb (b + 32) n) (word_is map (b / 32) 255) t)))

next-run : (map : List ℕ) (b k n : ℕ) → b + k ≤ n → Held map b k → next_free map (b + k) (n - (b + k)) ≡ next_free map b (n - b)
next-run map b zero n h f = let z : b + 0 ≡ b = omega arith in rw z
next-run map b (suc k) n h f =
    let s : b + suc k ≡ b + k + 1 = omega arith in
    rw s (next_past map (b + k) n (omega arith) (f (b + k) (omega arith) (omega arith)) ∙ next-run map b k n (omega arith) (λ i h l. f i h (omega arith)))

module _ (map : List ℕ) (b n : ℕ) (below : b < n) where
  pub next-held : next_free map (b + held_from map b n) (n - (b + held_from map b n)) ≡ next_free map b (n - b)
  unfolding held_from
  next-held = by (word_held map b n) refl (map_bit map b) refl
    where
      by : (w : Bool) → word_held map b n ≡ w → (t : Bool) → map_bit map b ≡ t → next_free map (b + held_from map b n) (n - (b + held_from map b n)) ≡ next_free map b (n - b)
      by true e t f = rw e (next-run map b 32 n (word_fits map b n e) (word-run map b n e))
      by false e true f = rw (e, f) (next_past map b n below f)
      by false e false f = let z : b + 0 ≡ b = omega arith in rw (e, f, z)

  pub held_none : held_from map b n ≡ 0 → map_bit map b ≡ false
  unfolding held_from
  held_none h = by (word_held map b n) refl (map_bit map b) refl
    where
      by : (w : Bool) → word_held map b n ≡ w → (t : Bool) → map_bit map b ≡ t → t ≡ false
      by true e t f = absurd (let z : ◌≡◌ {A = ℕ} 32 0 = rw e at h in omega arith)
      by false e true f = absurd (let z : ◌≡◌ {A = ℕ} 1 0 = rw (e, f) at h in omega arith)
      by false e false f = refl
