-- An inode written word by word into zeros.
use Rattle.std.specs.Prelude.{◌≡◌, ℕ, suc, ◌+◌, ◌-◌, ◌*◌, ◌<◌, ◌≤◌, List, [], ◌∷◌, ◌++◌, length, take, replicate, slice_index, refl}
use Rattle.std.proofs.Common.{sym, ap, ◌∙◌, add-one, arith, append_assoc, length-take, take-suc, take_at, drop_at, take_all}
use Rattle.lists.specs.Lists.{bytes4, words, zeros, pad_to, with_part}
use Rattle.list_laws.specs.Word.{length-words}
use Rattle.tfs_spec.specs.Layout.{inode_block}

words_append : (xs ys : List ℕ) → words (xs ++ ys) ≡ words xs ++ words ys
words_append [] ys = refl
words_append (x ∷ xs) ys = ap (λ (l : List ℕ). bytes4 x ++ l) (words_append xs ys)

-- a word over the first four of the zeros after p
word_after : (p : List ℕ) (at v m : ℕ) → length p ≡ at → with_part at 4 (bytes4 v) (p ++ replicate (4 + m) 0) ≡ (p ++ bytes4 v) ++ replicate m 0
unfolding with_part
word_after p at v m e =
    let s : 4 + m ≡ suc (suc (suc (suc m))) = omega arith in
    rw (take_at p (replicate (4 + m) 0) at e, drop_at p (replicate (4 + m) 0) at e, append_assoc, s)

padded : (l : List ℕ) (m : ℕ) → length l ≤ m → l ++ zeros (m - length l) ≡ pad_to m l
padded l m h = ap (λ (w : List ℕ). w ++ zeros (m - length l)) (sym (take_all m l h))

-- the size and the first i numbers, then zeros
unfoldable pub begun : ℕ → List ℕ → ℕ → List ℕ
begun size bs i = words (size ∷ take i bs) ++ replicate (508 - 4 * i) 0

pub begun-none : (size : ℕ) (bs : List ℕ) → with_part 0 4 (bytes4 size) (replicate 512 0) ≡ begun size bs 0
unfolding begun
begun-none size bs = word_after [] 0 size 508 refl

pub begun_more : (size : ℕ) (bs : List ℕ) (i : ℕ) → i < length bs → i < 127 → with_part (4 + 4 * i) 4 (bytes4 (slice_index bs i)) (begun size bs i) ≡ begun size bs (i + 1)
unfolding begun
begun_more size bs i h k =
    let front : List ℕ = words (size ∷ take i bs) in
    let rest : ℕ = 508 - 4 * (i + 1) in
    let m : 508 - 4 * i ≡ 4 + rest = omega arith in
    let l : length front ≡ 4 + 4 * i = omega (arith, length-words (size ∷ take i bs), length-take i bs) in
    let e : take (i + 1) bs ≡ take i bs ++ (slice_index bs i ∷ []) = rw (add-one i) (take-suc bs i 0 h) in
    ap (λ (n : ℕ). with_part (4 + 4 * i) 4 (bytes4 (slice_index bs i)) (front ++ replicate n 0)) m
    ∙ word_after front (4 + 4 * i) (slice_index bs i) rest l
    ∙ ap (λ (w : List ℕ). w ++ replicate rest 0) (sym (words_append (size ∷ take i bs) (slice_index bs i ∷ [])))
    ∙ ap (λ (w : List ℕ). words (size ∷ w) ++ replicate rest 0) (sym e)

pub begun_all : (size : ℕ) (bs : List ℕ) (i : ℕ) → i ≡ length bs → i ≤ 127 → begun size bs i ≡ inode_block 512 size bs
unfolding begun inode_block
begun_all size bs i e h =
    let z : 508 - 4 * i ≡ 512 - length (words (size ∷ bs)) = omega (arith, length-words (size ∷ bs)) in
    ap (λ (w : List ℕ). words (size ∷ w) ++ replicate (508 - 4 * i) 0) (take_all i bs (omega arith))
    ∙ ap (λ (n : ℕ). words (size ∷ bs) ++ replicate n 0) z
    ∙ padded (words (size ∷ bs)) 512 (omega (arith, length-words (size ∷ bs)))
