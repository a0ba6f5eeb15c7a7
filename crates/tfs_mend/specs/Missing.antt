-- Two maps: the bits that the first lacks, by words and one by one.
use Rattle.std.specs.Prelude.{◌≡◌, refl, Bool, true, false, ◌&&◌, List, get_or, take, T, eqb}
use Rattle.std.proofs.Common.{sym, ap₂, ◌∙◌, subst, arith, get_or-take, eq-eqb}
use Rattle.std.proofs.Math.Path.{ap}
use Rattle.std.proofs.Math.Bool.{not}
use Prim.Native.Nat.{ℕ, zero, suc, ◌*◌, ◌/◌, ◌%◌, ◌<◌, min}
use Rattle.std.proofs.Math.Decide.{ℕ_discrete}
use Rattle.std.specs.Int.Bits.{bit_and, and_step}
use Rattle.std.proofs.Math.Dec.{eqb→eq}
use Rattle.lists.specs.Lists.{bit_of, word, least}
use Rattle.list_laws.specs.Bits.{bit-small}
use Rattle.list_laws.specs.Test.{no_false}
use Rattle.list_laws.specs.Least.{Below, least-below}
use Rattle.tfs_spec.specs.Layout.{map_byte, map_bit}
use Rattle.tfs_facts.specs.MapWords.{map-bit-word}

-- whether word k of map lacks a bit that word k of owned has
unfoldable pub word_lacks : List ℕ → List ℕ → ℕ → Bool
word_lacks map owned k = not (eqb (bit_and (word owned (4 * k)) (word map (4 * k))) (word owned (4 * k)))

-- whether byte i does
unfoldable pub byte_lacks : List ℕ → List ℕ → ℕ → Bool
byte_lacks map owned i = not (eqb (bit_and (get_or owned i 0) (get_or map i 0)) (get_or owned i 0))

unfoldable pub is_missing : List ℕ → List ℕ → ℕ → Bool
is_missing map owned k = not (map_bit map k) && map_bit owned k

-- ---- a word that lacks no bit
bit-and : (a b k : ℕ) → bit_of (bit_and a b) k ≡ min (bit_of a k) (bit_of b k)
unfolding bit_of
bit-and a b zero = ap (λ (x : ℕ). x % 2) (and_step a b) ∙ omega arith
bit-and a b (suc k) =
    let half : bit_and a b / 2 ≡ bit_and (a / 2) (b / 2) = ap (λ (x : ℕ). x / 2) (and_step a b) ∙ omega arith in
    ap (λ (x : ℕ). bit_of x k) half ∙ bit-and (a / 2) (b / 2) k

of-false : (x : Bool) → not x ≡ false → T x
of-false true e = tt
of-false false e = absurd (subst T e tt)

and_none : (a : Bool) → (a && false) ≡ false
and_none true = refl
and_none false = refl

held-bit : (x y : ℕ) → x < 2 → y < 2 → y ≡ min y x → (not (eqb x 1) && eqb y 1) ≡ false
held-bit x y h k e =
    elim (ℕ_discrete x 1) [
      | yes p ↦ ap (λ (z : ℕ). not (eqb z 1) && eqb y 1) p
      | no p ↦ (let q : y ≡ 0 = omega arith in ap (λ (z : ℕ). not (eqb x 1) && eqb z 1) q ∙ and_none (not (eqb x 1)))
    ]

module _ (map owned : List ℕ) (fits : (i : ℕ) → get_or map i 0 < 256) (own : (i : ℕ) → get_or owned i 0 < 256) where
  held : (b : ℕ) → word_lacks map owned (b / 32) ≡ false → is_missing map owned b ≡ false
  unfolding word_lacks is_missing
  held b e =
      let same : bit_and (word owned (4 * (b / 32))) (word map (4 * (b / 32))) ≡ word owned (4 * (b / 32)) = eqb→eq (bit_and (word owned (4 * (b / 32))) (word map (4 * (b / 32)))) (word owned (4 * (b / 32))) (of-false (eqb (bit_and (word owned (4 * (b / 32))) (word map (4 * (b / 32)))) (word owned (4 * (b / 32)))) e) in
      let bits : bit_of (word owned (4 * (b / 32))) (b % 32) ≡ min (bit_of (word owned (4 * (b / 32))) (b % 32)) (bit_of (word map (4 * (b / 32))) (b % 32)) = ap (λ (x : ℕ). bit_of x (b % 32)) (sym same) ∙ bit-and (word owned (4 * (b / 32))) (word map (4 * (b / 32))) (b % 32) in
      rw (map-bit-word map b fits, map-bit-word owned b own)
      (held-bit (bit_of (word map (4 * (b / 32))) (b % 32)) (bit_of (word owned (4 * (b / 32))) (b % 32)) (bit-small (word map (4 * (b / 32))) (b % 32)) (bit-small (word owned (4 * (b / 32))) (b % 32)) bits)

  -- the words before the first that lacks one
  pub words-held : (n r : ℕ) → r ≡ least (word_lacks map owned) n → Below (is_missing map owned) (32 * r)
  words-held n r e k h =
      held k (no_false (word_lacks map owned (k / 32)) (least-below (word_lacks map owned) n (k / 32) (omega arith)))

pub byte-whole : (map owned : List ℕ) (i : ℕ) → bit_and (get_or owned i 0) (get_or map i 0) ≡ get_or owned i 0 → byte_lacks map owned i ≡ false
unfolding byte_lacks
byte-whole map owned i e = ap not (eq-eqb (bit_and (get_or owned i 0) (get_or map i 0)) (get_or owned i 0) e)

-- the bytes of so many words that lack none
byte-held : (map owned : List ℕ) (k : ℕ) → byte_lacks map owned (map_byte k) ≡ false → is_missing map owned k ≡ false
unfolding byte_lacks is_missing map_bit
byte-held map owned k e =
    let m : ℕ = get_or map (map_byte k) 0 in
    let o : ℕ = get_or owned (map_byte k) 0 in
    let same : bit_and o m ≡ o = eqb→eq (bit_and o m) o (of-false (eqb (bit_and o m) o) e) in
    held-bit (bit_of m (k % 8)) (bit_of o (k % 8)) (bit-small m (k % 8)) (bit-small o (k % 8)) (ap (λ (x : ℕ). bit_of x (k % 8)) (sym same) ∙ bit-and o m (k % 8))

pub bytes-held : (map owned : List ℕ) (n m : ℕ) → m ≡ 4 * n → Below (byte_lacks (take m map) (take m owned)) m → Below (is_missing map owned) (32 * n)
unfolding byte_lacks
bytes-held map owned n m e none k h =
    let inside : map_byte k < m = omega arith in
    byte-held map owned k
    (ap₂ (λ (x y : ℕ). not (eqb (bit_and x y) x)) (sym (get_or-take m owned (map_byte k) 0 inside)) (sym (get_or-take m map (map_byte k) 0 inside)) ∙ none (map_byte k) inside)
