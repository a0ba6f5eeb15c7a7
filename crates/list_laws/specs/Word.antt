-- Big-endian 32-bit words in lists of bytes.
use Rattle.std.specs.Prelude.{◌≡◌, refl, ℕ, zero, suc, ◌+◌, ◌*◌, ◌<◌, List, [], ◌∷◌, ◌++◌, length, get_or}
use Rattle.std.proofs.Common.{ap, ◌∙◌, arith, get_or-append-add}
use Rattle.lists.specs.Lists.{word, word_of, bytes4, words, zeros}
use Rattle.list_laws.specs.Test.{zeros-byte}

pub length-words : (ns : List ℕ) → length (words ns) ≡ 4 * length ns
length-words [] = refl
length-words (n ∷ ns) = omega (arith, length-words ns)

-- words are equal where their bytes are
pub word-cong : (a b : List ℕ) (p q : ℕ) → ((j : ℕ) → j < 4 → get_or a (p + j) 0 ≡ get_or b (q + j) 0) → word a p ≡ word b q
unfolding word
word-cong a b p q h =
    let e0 : get_or a p 0 ≡ get_or b q 0 = ap (λ (i : ℕ). get_or a i 0) (omega arith) ∙ h 0 (omega arith) ∙ ap (λ (i : ℕ). get_or b i 0) (omega arith) in
    λ i. word_of (e0 i) (h 1 (omega arith) i) (h 2 (omega arith) i) (h 3 (omega arith) i)

-- what was written is read back
pub word-bytes4 : (n : ℕ) (rest : List ℕ) → word (bytes4 n ++ rest) 0 ≡ n
unfolding word
word-bytes4 n rest = omega arith

pub word-skip : (xs ys : List ℕ) (p : ℕ) → word (xs ++ ys) (length xs + p) ≡ word ys p
word-skip xs ys p =
    word-cong (xs ++ ys) ys (length xs + p) p
    (λ j l. ap (λ (i : ℕ). get_or (xs ++ ys) i 0) (omega arith) ∙ get_or-append-add xs ys (p + j) 0)

pub words-at : (ns rest : List ℕ) (m : ℕ) → m < length ns → word (words ns ++ rest) (4 * m) ≡ get_or ns m 0
words-at [] rest m h = absurd (omega arith)
words-at (n ∷ ns) rest zero h = word-bytes4 n (words ns ++ rest)
words-at (n ∷ ns) rest (suc m) h =
    let e : 4 * suc m ≡ length (bytes4 n) + 4 * m = omega arith in
    ap (λ (p : ℕ). word (bytes4 n ++ (words ns ++ rest)) p) e ∙ word-skip (bytes4 n) (words ns ++ rest) (4 * m) ∙ words-at ns rest m (omega arith)

-- a word of zeros
pub zero_word : (n p : ℕ) → word (zeros n) p ≡ 0
unfolding word
zero_word n p = omega (arith, zeros-byte n p, zeros-byte n (p + 1), zeros-byte n (p + 2), zeros-byte n (p + 3))
