-- The layout of a romfs image s: what its bytes say, read at an offset p.
use Rattle.std.specs.Prelude.{ℕ, zero, suc, ◌+◌, ◌*◌, ◌-◌, ◌/◌, ◌%◌, ◌^◌, Bool, not, cond, ◌&&◌, ◌||◌, List, [], ◌∷◌, ltb, eqb}
use Rattle.lists.specs.Lists.{same_list, least, zero_at, word, part}

-- Full size F is at byte 8.
unfoldable pub full_size : List ℕ → ℕ
full_size s = word s 8

-- n, padded to 16
abbrev pub pad16 : ℕ → ℕ
pad16 n = (n + 15) / 16 * 16

-- Names are zero-ended: the number of bytes before the zero of the name at p, which is looked for within F; up to F where there is none.
unfoldable pub name_length : List ℕ → ℕ → ℕ
name_length s p = least (λ i. zero_at s (p + i)) (full_size s - p)

-- whether the name at p has an end within F
unfoldable pub name_ends : List ℕ → ℕ → Bool
name_ends s p = ltb (p + name_length s p) (full_size s)

-- .. and padded to 16, the zero counted: where the padded name at p ends
unfoldable pub after_name : List ℕ → ℕ → ℕ
after_name s p = p + pad16 (name_length s p + 1)

-- The root's first header follows the volume name, which is at 16.
unfoldable pub first_root : List ℕ → ℕ
first_root s = after_name s 16

-- ---- a header at p: in its first word bits 0 to 2 are the type, value 8 is executable, the other bits are the next header's offset
unfoldable pub type_of_file : List ℕ → ℕ → ℕ
type_of_file s p = word s p % 8

unfoldable pub executable : List ℕ → ℕ → ℕ
executable s p = word s p / 8 % 2

unfoldable pub next : List ℕ → ℕ → ℕ
next s p = word s p / 16 * 16

-- spec.info, for a directory its first header
unfoldable pub info : List ℕ → ℕ → ℕ
info s p = word s (p + 4)

unfoldable pub size : List ℕ → ℕ → ℕ
size s p = word s (p + 8)

unfoldable pub name : List ℕ → ℕ → List ℕ
name s p = part (p + 16) (name_length s (p + 16)) s

-- where its padded name ends and its data begins
unfoldable pub content_at : List ℕ → ℕ → ℕ
content_at s p = after_name s (p + 16)

-- where its padded data ends
unfoldable pub end_of : List ℕ → ℕ → ℕ
end_of s p = content_at s p + pad16 (size s p)

-- The entry's own bound is its next, or the list's bound if next is 0.
unfoldable pub own : List ℕ → ℕ → ℕ → ℕ
own s bound p = cond (eqb (next s p) 0) bound (next s p)

-- whether its name is "." or ".."
unfoldable pub is_dots : List ℕ → ℕ → Bool
is_dots s p = same_list (name s p) (46 ∷ []) || same_list (name s p) (46 ∷ 46 ∷ [])

-- Directories named "." or ".." are not descended.
unfoldable pub descends : List ℕ → ℕ → Bool
descends s p = eqb (type_of_file s p) 1 && not (is_dots s p)

-- whether it has a list to descend to: a first header of 0 is an empty one
unfoldable pub has_list : List ℕ → ℕ → Bool
has_list s p = descends s p && not (eqb (info s p) 0)

-- types 2 and 3, regular file and symbolic link, have data
unfoldable pub has_data : ℕ → Bool
has_data k = eqb k 2 || eqb k 3

-- Checksums are sums of big-endian 32-bit words, modulo 2^32: the n words from p on.
unfoldable pub sum_of_words : List ℕ → ℕ → ℕ → ℕ
sum_of_words s p zero = 0
sum_of_words s p (suc n) = (sum_of_words s p n + word s (p + 4 * n)) % 2 ^ 32
