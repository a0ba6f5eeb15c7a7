-- Functions on lists of bytes, in which the definitions and statements of both filesystems are written. Their laws are in list_laws.
use Rattle.std.specs.Prelude.{◌≡◌, ◌⊎◌, Bool, true, false, cond, ◌&&◌, ℕ, zero, suc, ◌+◌, ◌*◌, ◌-◌, ◌/◌, ◌%◌, List, [], ◌∷◌, ◌++◌, length, get_or, set, take, drop, replicate, ltb, eqb}

-- ---- tests
-- whether two lists are equal
abbrev pub same_list : List ℕ → List ℕ → Bool
same_list [] [] = true
same_list [] (y ∷ ys) = false
same_list (x ∷ xs) [] = false
same_list (x ∷ xs) (y ∷ ys) = eqb x y && same_list xs ys

-- x stands in the list
abbrev pub In : ℕ → List ℕ → Type 0
In x [] = ⊥
In x (y ∷ ys) = (x ≡ y) ⊎ In x ys

-- ---- searches, sums, tables
-- the least index below n at which f holds, or n
unfoldable pub least : (ℕ → Bool) → ℕ → ℕ
least f zero = zero
least f (suc n) = let r : ℕ = least f n in cond (ltb r n) r (cond (f n) n (suc n))

-- f 0 + .. + f (n - 1)
unfoldable pub sum : (ℕ → ℕ) → ℕ → ℕ
sum f zero = zero
sum f (suc n) = sum f n + f n

-- at how many numbers below n f holds
abbrev pub count : (ℕ → Bool) → ℕ → ℕ
count f n = sum (λ i. cond (f i) 1 0) n

module _ {ℓ} {A : Type ℓ} where
  -- the list of f k, f (k + 1), .., of d elements
  abbrev pub table : (ℕ → A) → ℕ → ℕ → List A
  table f k zero = []
  table f k (suc d) = let t : List A = table f (suc k) d in let x : A = f k in x ∷ t

-- lists one after another
abbrev pub joined : List (List ℕ) → List ℕ
joined [] = []
joined (b ∷ bs) = b ++ joined bs

-- ---- zeros and names that end with a zero byte
abbrev pub zeros : ℕ → List ℕ
zeros n = replicate n 0

-- whether byte i is zero
unfoldable pub zero_at : List ℕ → ℕ → Bool
zero_at l i = eqb (get_or l i 0) 0

-- the index of the first zero byte, or the length where there is none
unfoldable pub first_zero : List ℕ → ℕ
first_zero l = least (zero_at l) (length l)

-- the bytes up to the first zero, or all
unfoldable pub up_to_zero : List ℕ → List ℕ
up_to_zero l = take (first_zero l) l

-- l cut to n bytes, or padded with zeros to n
abbrev pub pad_to : ℕ → List ℕ → List ℕ
pad_to n l = take n l ++ zeros (n - length l)

-- ---- big-endian 32-bit words
-- the word of four bytes
abbrev pub word_of : ℕ → ℕ → ℕ → ℕ → ℕ
word_of a b c d = ((a * 256 + b) * 256 + c) * 256 + d

-- the word at index p
unfoldable pub word : List ℕ → ℕ → ℕ
word l p = word_of (get_or l p 0) (get_or l (p + 1) 0) (get_or l (p + 2) 0) (get_or l (p + 3) 0)

-- the four bytes of a number below 2^32
abbrev pub bytes4 : ℕ → List ℕ
bytes4 n = n / 256 / 256 / 256 ∷ n / 256 / 256 % 256 ∷ n / 256 % 256 ∷ n % 256 ∷ []

-- numbers one after another
abbrev pub words : List ℕ → List ℕ
words [] = []
words (n ∷ ns) = bytes4 n ++ words ns

-- ---- bits
-- bit k of n, by halves
unfoldable pub bit_of : ℕ → ℕ → ℕ
bit_of n zero = n % 2
bit_of n (suc k) = bit_of (n / 2) k

-- n with v as bit k
unfoldable pub with_bit : ℕ → ℕ → ℕ → ℕ
with_bit n zero v = n / 2 * 2 + v
with_bit n (suc k) v = with_bit (n / 2) k v * 2 + n % 2

-- ---- parts
-- the n bytes from index s on
unfoldable pub part : ℕ → ℕ → List ℕ → List ℕ
part s n image = take n (drop s image)

-- the list with p in the place of its n bytes from index s on
unfoldable pub with_part : ℕ → ℕ → List ℕ → List ℕ → List ℕ
with_part s n p image = take s image ++ (p ++ drop n (drop s image))

-- byte i of bs stored at address a (o + i), one by one
abbrev pub store_bytes : (ℕ → ℕ) → List ℕ → ℕ → List ℕ → List ℕ
store_bytes a img o [] = img
store_bytes a img o (b ∷ bs) = store_bytes a (set img (a o) b) (suc o) bs
