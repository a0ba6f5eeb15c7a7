-- The ones of a map, counted bit by bit and by words.
use Rattle.std.specs.Prelude.{◌≡◌, refl, ◌↔◌, Bool, true, false, not, cond, List, eqb}
use Rattle.std.proofs.Common.{sym, ap, ◌∙◌, mod-eq_of_lt, lt_of_lt_of_le, pow_mono}
use Prim.Native.Nat.{ℕ, zero, suc, ◌+◌, ◌-◌, ◌*◌, ◌/◌, ◌%◌, ◌^◌, ◌≤◌, ◌<◌}
use Rattle.std.proofs.Math.Numerals.{add-one}
use native.Mathlib.Omega.{arith}
use Rattle.std.proofs.Math.Decide.{dec_le}
use Rattle.std.specs.Int.Count.{ones}
use Rattle.lists.specs.Lists.{bit_of, word, sum, count}
use Rattle.list_laws.specs.Ones.{ones_cut}
use Rattle.tfs_spec.specs.Layout.{map_bit, View, free_blocks, ones_below, words_below, ones_by_words}
use Rattle.tfs_spec.specs.Consistent.{Bytes}
use Rattle.tfs_facts.specs.MapWords.{map-bit-word}

-- ---- bit by bit
ones_none : (map : List ℕ) → ones_below map 0 ≡ 0
unfolding ones_below sum
ones_none map = refl

-- each bit is one or zero
pub ones-zeros : (map : List ℕ) (n : ℕ) → count (λ b. not (map_bit map b)) n + ones_below map n ≡ n
unfolding ones_below sum
ones-zeros map zero = omega arith
ones-zeros map (suc n) = by (map_bit map n) (ones-zeros map n)
  where
    by : (t : Bool) → count (λ b. not (map_bit map b)) n + ones_below map n ≡ n → count (λ b. not (map_bit map b)) n + cond (not t) 1 0 + (ones_below map n + cond t 1 0) ≡ suc n
    by true e = omega arith
    by false e = omega arith

pub others : (v : View) → free_blocks v + ones_below v.map v.n ≡ v.n
unfolding free_blocks
others v = ones-zeros v.map v.n

-- ---- by words
pub starts : (w n : ℕ) → (w < words_below n) ↔ (32 * w < n)
starts w n = ((λ h. omega arith), λ h. omega arith)

-- the first j words of the sum
abbrev pub ones_to : List ℕ → ℕ → ℕ → ℕ
ones_to map n j = sum (λ w. ones (word map (4 * w) % 2 ^ (n - 32 * w))) j

pub to_none : (map : List ℕ) (n : ℕ) → ones_to map n 0 ≡ 0
unfolding sum
to_none map n = refl

-- the words that start below n: those that end at n or before, and one that n cuts if it cuts one
pub by-words-whole : (map : List ℕ) (n : ℕ) → n % 32 ≡ 0 → ones_by_words map n ≡ ones_to map n (n / 32)
unfolding ones_by_words
by-words-whole map n z = let e : words_below n ≡ n / 32 = omega arith in ap (ones_to map n) e

pub by-words-cut : (map : List ℕ) (n : ℕ) → 1 ≤ n % 32 → ones_by_words map n ≡ ones_to map n (n / 32) + ones (word map (4 * (n / 32)) % 2 ^ (n % 32))
unfolding ones_by_words sum
by-words-cut map n h =
    let e : words_below n ≡ suc (n / 32) = omega arith in
    let left : n - 32 * (n / 32) ≡ n % 32 = omega arith in
    ap (ones_to map n) e ∙ ap (λ (m : ℕ). ones_to map n (n / 32) + ones (word map (4 * (n / 32)) % 2 ^ m)) left

module _ (map : List ℕ) (small : Bytes map) where
  word_lt : (w : ℕ) → word map (4 * w) < 2 ^ 32
  unfolding word
  word_lt w = omega (arith, small (4 * w), small (4 * w + 1), small (4 * w + 2), small (4 * w + 3))

  -- a word that ends at n or before is not cut
  pub whole : (w n : ℕ) → 32 * w + 32 ≤ n → word map (4 * w) % 2 ^ (n - 32 * w) ≡ word map (4 * w)
  whole w n h = mod-eq_of_lt (lt_of_lt_of_le (word_lt w) (pow_mono {i = 32} {j = n - 32 * w} (omega arith)))

  pub to-next : (n j : ℕ) → 32 * j + 32 ≤ n → ones_to map n (j + 1) ≡ ones_to map n j + ones (word map (4 * j))
  unfolding sum
  to-next n j h = rw add-one (ap (λ (x : ℕ). ones_to map n j + ones x) (whole j n h))

  -- the bits of word k are the map's from 32·k on
  word-bit : (k m : ℕ) → m < 32 → map_bit map (32 * k + m) ≡ eqb (bit_of (word map (4 * k)) m) 1
  word-bit k m h =
      let at : (32 * k + m) / 32 ≡ k = omega arith in
      let bit : (32 * k + m) % 32 ≡ m = omega arith in
      rw (at, bit) at (map-bit-word map (32 * k + m) small)

  bits-word : (k m : ℕ) → m ≤ 32 → ones_below map (32 * k + m) ≡ ones_below map (32 * k) + count (λ i. eqb (bit_of (word map (4 * k)) i) 1) m
  unfolding ones_below sum
  bits-word k zero h = let z : 32 * k + 0 ≡ 32 * k = omega arith in rw z (omega arith)
  bits-word k (suc m) h =
      let s : 32 * k + suc m ≡ suc (32 * k + m) = omega arith in
      rw (s, word-bit k m (omega arith)) (omega (arith, bits-word k m (omega arith)))

  -- word k, cut at its bit m
  ones-word : (k m : ℕ) → m ≤ 32 → ones_below map (32 * k + m) ≡ ones_below map (32 * k) + ones (word map (4 * k) % 2 ^ m)
  ones-word k m h = bits-word k m h ∙ ap (λ (x : ℕ). ones_below map (32 * k) + x) (sym (ones_cut (word map (4 * k)) m))

  -- the words that end at n or before
  before : (n j : ℕ) → 32 * j ≤ n → ones_to map n j ≡ ones_below map (32 * j)
  before n zero h = to_none map n ∙ sym (ones_none map)
  before n (suc j) h =
      let at : 32 * suc j ≡ 32 * j + 32 = omega arith in
      let all : ones (word map (4 * j) % 2 ^ 32) ≡ ones (word map (4 * j)) = ap ones (mod-eq_of_lt (word_lt j)) in
      rw (at, ← add-one j) (to-next n j (omega arith) ∙ omega (arith, before n j (omega arith), ones-word j 32 (omega arith), all))

  pub by-words : (n : ℕ) → ones_by_words map n ≡ ones_below map n
  by-words n =
      let k : ℕ = n / 32 in
      let end : 32 * k + n % 32 ≡ n = omega arith in
      elim (dec_le 1 (n % 32)) [
        | yes h ↦
            (by-words-cut map n h
            ∙ omega (arith, before n k (omega arith), ones-word k (n % 32) (omega arith), ap (ones_below map) end))
        | no h ↦
            let z : 32 * k ≡ n = omega arith in
            by-words-whole map n (omega arith) ∙ before n k (omega arith) ∙ ap (ones_below map) z
      ]
