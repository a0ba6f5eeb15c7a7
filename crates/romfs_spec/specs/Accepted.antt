-- Accepted images in plain facts on their bytes: no test of the check, no search and no walk.
use Rattle.std.specs.Prelude.{ℕ, suc, ◌+◌, ◌*◌, ◌-◌, ◌/◌, ◌%◌, ◌^◌, ◌≤◌, ◌<◌, min, ◌≡◌, ◌≢◌, ◌⊎◌, List, [], ◌∷◌, length, get_or, take}
use Rattle.lists.specs.Lists.{sum}
use Rattle.romfs_spec.specs.Layout.{pad16}

-- ---- numbers, sums and names
-- the big-endian number in the four bytes from p on
unfoldable pub number_at : List ℕ → ℕ → ℕ
number_at s p = get_or s p 0 * 16777216 + get_or s (p + 1) 0 * 65536 + get_or s (p + 2) 0 * 256 + get_or s (p + 3) 0

-- Full size F is at byte 8.
abbrev pub full : List ℕ → ℕ
full s = number_at s 8

-- the plain sum of the n words from p on is 0 modulo 2^32
abbrev pub SumZero : List ℕ → ℕ → ℕ → Type 0
SumZero s p n = sum (λ i. number_at s (p + 4 * i)) n % 2 ^ 32 ≡ 0

-- some byte from p to F - 1 is zero (23 keeps F inside the slice)
pub record SomeZero (s : List ℕ) (p : ℕ) : Type 0 where
  pub at : ℕ
  pub from : p ≤ at
  pub to : at < full s
  pub empty : get_or s at 0 ≡ 0

-- from p on there are n bytes that are not zero, and then one within F that is
pub record ZeroAfter (s : List ℕ) (p n : ℕ) : Type 0 where
  pub before : (i : ℕ) → i < n → get_or s (p + i) 0 ≢ 0
  pub empty : get_or s (p + n) 0 ≡ 0
  pub to : p + n < full s

-- ---- the volume: rules 21 to 25 not broken
abbrev pub LongEnough : List ℕ → Type 0
LongEnough s = 32 ≤ length s

-- "-rom1fs-"
abbrev pub RightMagic : List ℕ → Type 0
RightMagic s = take 8 s ≡ 0x2D ∷ 0x72 ∷ 0x6F ∷ 0x6D ∷ 0x31 ∷ 0x66 ∷ 0x73 ∷ 0x2D ∷ []

pub record RightFullSize (s : List ℕ) : Type 0 where
  pub from : 32 ≤ full s
  pub to : full s ≤ length s
  pub whole : full s % 16 ≡ 0

-- over the first min(512, F) bytes
abbrev pub RightVolumeSum : List ℕ → Type 0
RightVolumeSum s = SumZero s 0 (min 512 (full s) / 4)

pub record SoundVolume (s : List ℕ) : Type 0 where
  pub long : LongEnough s
  pub magic : RightMagic s
  pub full_size : RightFullSize s
  pub sums : RightVolumeSum s
  pub named : SomeZero s 16

-- ---- a header at p, by its bytes
-- the low three bits of its fourth byte
unfoldable pub type_at : List ℕ → ℕ → ℕ
type_at s p = get_or s (p + 3) 0 % 8

-- .. and the bit of value 8
unfoldable pub executable_at : List ℕ → ℕ → ℕ
executable_at s p = get_or s (p + 3) 0 / 8 % 2

-- its first word without the low four bits
unfoldable pub next_at : List ℕ → ℕ → ℕ
next_at s p = number_at s p - number_at s p % 16

abbrev pub info_at : List ℕ → ℕ → ℕ
info_at s p = number_at s (p + 4)

abbrev pub size_at : List ℕ → ℕ → ℕ
size_at s p = number_at s (p + 8)

-- where its data begins and ends, if its name has n bytes
abbrev pub data_at : ℕ → ℕ → ℕ
data_at p n = p + 16 + pad16 (n + 1)

abbrev pub end_at : List ℕ → ℕ → ℕ → ℕ
end_at s p n = data_at p n + pad16 (size_at s p)

-- the name of the header at p is l
pub record Named (s : List ℕ) (p : ℕ) (l : List ℕ) : Type 0 where
  pub same : (i : ℕ) → i < length l → get_or s (p + 16 + i) 0 ≡ get_or l i 0
  pub ends : ZeroAfter s (p + 16) (length l)

-- its name is "." or ".."
abbrev pub Dots : List ℕ → ℕ → Type 0
Dots s p = Named s p (46 ∷ []) ⊎ Named s p (46 ∷ 46 ∷ [])

-- It is a directory, not named "." or "..", with a first header.
abbrev pub HasList : List ℕ → ℕ → Type 0
HasList s p = (type_at s p ≡ 1) × (Dots s p → ⊥) × (info_at s p ≢ 0)

-- its own bound, in a list with a bound
pub data OwnBound (s : List ℕ) (p bound : ℕ) : ℕ → Type 0 where
  last : next_at s p ≡ 0 → OwnBound s p bound bound
  next : next_at s p ≢ 0 → OwnBound s p bound (next_at s p)

-- ---- rules 26 to 28 not broken: a header at p whose name has n bytes, in a list with its bound and its depth
pub record SoundHeader (s : List ℕ) (p n bound : ℕ) : Type 0 where
  pub named : ZeroAfter s (p + 16) n
  pub some : n ≢ 0
  pub ends : end_at s p n ≤ bound
  -- over 16 bytes and the padded name
  pub sums : SumZero s p ((16 + pad16 (n + 1)) / 4)
  pub info : (type_at s p ≡ 2) ⊎ ((type_at s p ≡ 3) ⊎ ((type_at s p ≡ 6) ⊎ (type_at s p ≡ 7))) → info_at s p ≡ 0
  pub size : type_at s p ≢ 2 → type_at s p ≢ 3 → size_at s p ≡ 0

pub record Nested (s : List ℕ) (p n bound : ℕ) : Type 0 where
  pub next : next_at s p ≢ 0 → (end_at s p n ≤ next_at s p) × (next_at s p < bound)
  pub first : {own : ℕ} → HasList s p → OwnBound s p bound own → (info_at s p % 16 ≡ 0) × (end_at s p n ≤ info_at s p) × (info_at s p < own)

-- The root is depth 1, the deepest list 8.
abbrev pub Shallow : List ℕ → ℕ → ℕ → Type 0
Shallow s p depth = HasList s p → depth < 8

pub record Sound (s : List ℕ) (p bound depth : ℕ) : Type 0 where
  pub name_length : ℕ
  pub head : SoundHeader s p name_length bound
  pub nested : Nested s p name_length bound
  pub shallow : Shallow s p depth

-- ---- the reached headers
-- The root's first header follows the volume name.
pub record RootFirst (s : List ℕ) (p : ℕ) : Type 0 where
  pub name_length : ℕ
  pub named : ZeroAfter s 16 name_length
  pub is : p ≡ 16 + pad16 (name_length + 1)

-- a header at p is reached, in a list with its bound and its depth
pub data Reached (s : List ℕ) : ℕ → ℕ → ℕ → Type 0 where
  -- the root's first header (none if that is F); its list has the bound F
  root : {p : ℕ} → RootFirst s p → p ≢ full s → Reached s p (full s) 1
  -- the next header of the list
  along : {p bound depth : ℕ} → Reached s p bound depth → next_at s p ≢ 0 → Reached s (next_at s p) bound depth
  -- A directory entry visits its own list; the entry's own bound is also the bound of its list.
  inside : {p bound depth own : ℕ} → Reached s p bound depth → HasList s p → OwnBound s p bound own → Reached s (info_at s p) own (suc depth)

-- some list has a header at p
pub record IsReached (s : List ℕ) (p : ℕ) : Type 0 where
  pub bound : ℕ
  pub depth : ℕ
  pub reached : Reached s p bound depth

-- ---- rule 29 not broken: a hard link's spec.info is a reached header of another type than 0, that of a directory named "." or ".." is a reached header
pub record Linked (s : List ℕ) (p : ℕ) : Type 0 where
  pub hard : type_at s p ≡ 0 → IsReached s (info_at s p) × (type_at s (info_at s p) ≢ 0)
  pub dots : type_at s p ≡ 1 → Dots s p → IsReached s (info_at s p)

pub record Accepted (s : List ℕ) : Type 0 where
  pub volume : SoundVolume s
  pub sound : {p bound depth : ℕ} → Reached s p bound depth → Sound s p bound depth
  pub linked : {p : ℕ} → IsReached s p → Linked s p
