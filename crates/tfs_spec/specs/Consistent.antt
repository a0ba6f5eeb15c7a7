-- In plain facts: where each byte and each number of the layout stands in the image; what a consistent volume is; what it is for a rule to be broken at a place.
use Rattle.std.specs.Prelude.{◌≡◌, ◌≢◌, ◌↔◌, ◌⊎◌, not, ℕ, ◌+◌, ◌-◌, ◌*◌, ◌/◌, ◌%◌, ◌^◌, ◌≤◌, ◌<◌, List, length, get_or, T, eqb}
use Rattle.std.specs.Int.Count.{ones}
use Rattle.lists.specs.Lists.{count, word, bytes4, bit_of, part}
use Rattle.tfs_spec.specs.Layout.{BlockSize, max_blocks, slots, numbers, max_size, need, blocks, block, volume_name, map_bit, same_name, view, free, used, inode, name, size, number, place, contents, View, free_blocks, ones_below, words_below, ones_by_words}

-- "All numbers are big-endian": the number in bytes p to p + 3
abbrev pub number_at : List ℕ → ℕ → ℕ
number_at img p = get_or img p 0 * 16777216 + get_or img (p + 1) 0 * 65536 + get_or img (p + 2) 0 * 256 + get_or img (p + 3) 0

-- an image of bytes
abbrev pub Bytes : List ℕ → Type 0
Bytes img = (i : ℕ) → get_or img i 0 < 256

-- where slot s stands
abbrev pub slot_at : ℕ → ℕ → ℕ
slot_at B s = 2 * B + 20 * s

-- "in 3..N−1"
abbrev pub InVolume : ℕ → List ℕ → ℕ → Type 0
InVolume B img b = (3 ≤ b) × (b < blocks B img)

-- the first zero of the 16 bytes from p on is k bytes behind p
pub record EndsAt (img : List ℕ) (p k : ℕ) : Type 0 where
  pub short : k ≤ 15
  pub bytes : (i : ℕ) → i < k → get_or img (p + i) 0 ≢ 0
  pub end : get_or img (p + k) 0 ≡ 0

-- of an image of three blocks or more
pub record LayoutLaws (B : ℕ) (img : List ℕ) : Type 0 where
  -- N
  pub volume : (view B img).n ≡ blocks B img
  -- "Each block is handed on as a part of the image": block b is the B bytes from b·B on
  pub block-long : (b : ℕ) → b < blocks B img → length (block B img b) ≡ B
  pub block-byte : (b i : ℕ) → i < B → get_or (block B img b) i 0 ≡ get_or img (b * B + i) 0
  pub head-block : (view B img).head ≡ block B img 0
  pub map-block : (view B img).map ≡ block B img 1
  pub directory-block : (view B img).dir ≡ block B img 2
  -- "Block 0: magic in bytes 0..3; volume name in bytes 4..19"
  pub magic-number : word (view B img).head 0 ≡ number_at img 0
  pub label-length : length (volume_name (view B img).head) ≡ 16
  pub label-byte : (i : ℕ) → i < 16 → get_or (volume_name (view B img).head) i 0 ≡ get_or img (4 + i) 0
  -- "Block 1: .. block b is bit (b mod 32), counted from the least significant, of 32-bit word (b div 32)"
  pub map-bit : Bytes img → (b : ℕ) → b < max_blocks B → T (map_bit (view B img).map b) ↔ (number_at img (B + 4 * (b / 32)) / 2 ^ (b % 32) % 2 ≡ 1)
  -- "Block 2: 25 slots of 20 bytes: inode number (4), name (16, zero-ended)"
  pub slot-inode : (s : ℕ) → s < slots B → inode (view B img) s ≡ number_at img (slot_at B s)
  -- "a free slot has inode 0 and first name byte 0"
  pub slot-free : (s : ℕ) → s < slots B → T (free (view B img) s) ↔ ((number_at img (slot_at B s) ≡ 0) × (get_or img (slot_at B s + 4) 0 ≡ 0))
  -- "A used slot, its inode as before [in 3..N−1], has a zero in its 16 name bytes and a first byte not zero"
  pub slot-used : (s : ℕ) → s < slots B → T (used (view B img) s) ↔ (InVolume B img (number_at img (slot_at B s)) × ((i : ℕ) × (i < 16) × (get_or img (slot_at B s + 4 + i) 0 ≡ 0)) × (get_or img (slot_at B s + 4) 0 ≢ 0))
  -- a slot's name is the bytes before the first zero; a free slot's is empty
  pub slot-name : (s k : ℕ) → s < slots B → EndsAt img (slot_at B s + 4) k → name (view B img) s ≡ part (slot_at B s + 4) k img
  -- "Inode: size (4), then 127 block numbers"
  pub inode-size : (s : ℕ) → s < slots B → InVolume B img (inode (view B img) s) → size (view B img) s ≡ number_at img (inode (view B img) s * B)
  pub inode-number : (s k : ℕ) → s < slots B → InVolume B img (inode (view B img) s) → k < numbers B → number (view B img) s k ≡ number_at img (inode (view B img) s * B + 4 + 4 * k)
  -- "Content runs through the listed blocks in order"
  pub content-place : (s p : ℕ) → s < slots B → InVolume B img (inode (view B img) s) → p / B < numbers B → place B (view B img) s p ≡ number_at img (inode (view B img) s * B + 4 + 4 * (p / B)) * B + p % B

-- whether two names are the same is whether they are equal
pub record NameLaws : Type 0 where
  pub same : (a b : List ℕ) → T (same_name a b) ↔ (a ≡ b)
  -- a name is the same as itself, and under names that are the same the same stands
  pub itself : (a : List ℕ) → T (same_name a a)
  pub alike : (a b : List ℕ) → T (same_name a b) → (B : ℕ) (img : List ℕ) → contents B img a ≡ contents B img b

-- ---- numbers
pub record NumberLaws : Type 0 where
  -- "N = the smaller of 4096 and image length divided by 512, rounded down"
  pub large : (B : ℕ) → BlockSize B → (img : List ℕ) → 8 * B * B ≤ length img → blocks B img ≡ 8 * B
  pub small : (B : ℕ) → BlockSize B → (img : List ℕ) → length img ≤ 8 * B * B → blocks B img ≡ length img / B
  -- ⌈size/512⌉: enough blocks, and no block more
  pub enough : (B : ℕ) → BlockSize B → (z : ℕ) → z ≤ need B z * B
  pub tight : (B : ℕ) → BlockSize B → (z : ℕ) → need B z * B < z + B
  -- a file of one byte up to a block's has one, and is not too large
  pub one : (B : ℕ) → BlockSize B → (z : ℕ) → 1 ≤ z → z ≤ B → (need B z ≡ 1) × (z ≤ max_size B)
  pub base : BlockSize 512
  -- "4096", "25 slots", "127 block numbers", "Largest file 65,024 bytes"
  pub volume : max_blocks 512 ≡ 4096
  pub directory : slots 512 ≡ 25
  pub inode : numbers 512 ≡ 127
  pub file : max_size 512 ≡ 65024
  -- the four bytes of a number below 2^32 are bytes, and tell it
  pub bytes : (n : ℕ) → n < 4294967296 → Bytes (bytes4 n) × (number_at (bytes4 n) 0 ≡ n)

-- ---- free room counted by words
pub record CountLaws : Type 0 where
  -- "each 32-bit word of the map that starts below N": word w with 32·w < N
  pub starts : (w n : ℕ) → (w < words_below n) ↔ (32 * w < n)
  -- the ones of a number cut at bit m are its bits below m that are 1
  pub cut : (x m : ℕ) → ones (x % 2 ^ m) ≡ count (λ k. eqb (bit_of x k) 1) m
  -- "the last of these cut at N": a word that ends at N or before is whole
  pub whole : (map : List ℕ) (w n : ℕ) → Bytes map → 32 * w + 32 ≤ n → word map (4 * w) % 2 ^ (n - 32 * w) ≡ word map (4 * w)
  -- "the sum equal to the set bits below N for any map, consistent or not"
  pub by-words : (map : List ℕ) (n : ℕ) → Bytes map → ones_by_words map n ≡ ones_below map n
  -- the other bits below N are free blocks
  pub others : (v : View) → free_blocks v + ones_below v.map v.n ≡ v.n

-- ---- a consistent volume; that the check grants exactly these is said in Answers.antt
-- slot s is not free: on a consistent volume it holds a file
pub record File (B : ℕ) (v : View) (s : ℕ) : Type 0 where
  pub slot : s < slots B
  pub taken : T (not (free v s))

-- who can own a block: the file in a slot, as its inode or as the k-th block of its content
pub data Owner : Type 0 where
  inode_of : ℕ → Owner
  content_of : ℕ → ℕ → Owner

abbrev pub Owns : ℕ → View → Owner → ℕ → Type 0
Owns B v (inode_of s) b = File B v s × (inode v s ≡ b)
Owns B v (content_of s k) b = File B v s × (k < need B (size v s)) × (number v s k ≡ b)

abbrev pub Owned : ℕ → View → ℕ → Type 0
Owned B v b = (o : Owner) × Owns B v o b

-- "in 3..N−1"
pub record Inside (v : View) (b : ℕ) : Type 0 where
  pub low : 3 ≤ b
  pub high : b < v.n

pub record Sound (B : ℕ) (v : View) : Type 0 where
  -- each slot is free or used
  pub formed : (s : ℕ) → s < slots B → T (free v s) ⊎ T (used v s)
  -- no two files have one name
  pub apart : (s t : ℕ) → File B v s → File B v t → T (same_name (name v s) (name v t)) → s ≡ t
  -- sizes and block numbers are in range, the rest is zero
  pub small : (s : ℕ) → File B v s → size v s ≤ max_size B
  pub inside : (s k : ℕ) → File B v s → k < need B (size v s) → Inside v (number v s k)
  pub rest : (s k : ℕ) → File B v s → need B (size v s) ≤ k → k < numbers B → number v s k ≡ 0
  -- "every block has at most one owner"
  pub once : (b : ℕ) (o p : Owner) → Owns B v o b → Owns B v p b → o ≡ p
  -- "the map marks exactly the owned blocks and 0 to 2", for b below N
  pub mapped : (b : ℕ) → b < v.n → T (map_bit v.map b) ↔ ((b < 3) ⊎ Owned B v b)

pub record Consistent (B : ℕ) (img : List ℕ) : Type 0 where
  pub long : 3 * B ≤ length img
  -- "magic 3745 in bytes 0..3"
  pub magical : number_at img 0 ≡ 3745
  -- a zero among the 16 volume name bytes, 4..19
  pub labelled : (i : ℕ) × (i < 16) × (get_or img (4 + i) 0 ≡ 0)
  pub sound : Sound B (view B img)

-- ---- each rule broken at a place; of rules 5 to 7 "used" is "not free", for a slot that is neither breaks rule 4 before
-- the k-th number of an inode is wrong: one of the first ⌈size/512⌉ is outside 3..N−1, or a later one is not 0
abbrev pub WrongNumber : ℕ → View → ℕ → ℕ → Type 0
WrongNumber B v s k = ((k < need B (size v s)) × (Inside v (number v s k) → ⊥)) ⊎ ((need B (size v s) ≤ k) × (number v s k ≢ 0))

pub data Broken (B : ℕ) (img : List ℕ) : ℕ → ℕ → Type 0 where
  short : length img < 3 * B → Broken B img 1 0
  unmagical : number_at img 0 ≢ 3745 → Broken B img 2 0
  unlabelled : ((i : ℕ) → i < 16 → get_or img (4 + i) 0 ≢ 0) → Broken B img 3 0
  malformed : (s : ℕ) → File B (view B img) s → (T (used (view B img) s) → ⊥) → Broken B img 4 s
  repeated : (s t : ℕ) → File B (view B img) s → File B (view B img) t → t < s → T (same_name (name (view B img) t) (name (view B img) s)) → Broken B img 4 s
  oversized : (s : ℕ) → File B (view B img) s → max_size B < size (view B img) s → Broken B img 5 s
  misnumbered : (s k : ℕ) → File B (view B img) s → k < numbers B → WrongNumber B (view B img) s k → Broken B img 5 s
  twice : (b : ℕ) (o p : Owner) → b < (view B img).n → o ≢ p → Owns B (view B img) o b → Owns B (view B img) p b → Broken B img 6 b
  unmarked : (b : ℕ) → b < (view B img).n → (T (map_bit (view B img).map b) → ⊥) → ((b < 3) ⊎ Owned B (view B img) b) → Broken B img 7 b
  stray : (b : ℕ) → b < (view B img).n → T (map_bit (view B img).map b) → ((b < 3) ⊎ Owned B (view B img) b → ⊥) → Broken B img 7 b

-- rule num is the first broken one, and p its lowest place
pub record FirstBroken (B : ℕ) (img : List ℕ) (num p : ℕ) : Type 0 where
  pub here : Broken B img num p
  pub earlier : (num' q : ℕ) → num' < num → Broken B img num' q → ⊥
  pub lower : (q : ℕ) → q < p → Broken B img num q → ⊥

-- ---- "set bits that nobody claims", and the faults that are none of these
pub record Stray (B : ℕ) (v : View) (b : ℕ) : Type 0 where
  pub inside : Inside v b
  pub set : T (map_bit v.map b)
  pub unowned : Owned B v b → ⊥

-- rule num is broken at p, and not by such a bit
pub record Other (B : ℕ) (img : List ℕ) (num p : ℕ) : Type 0 where
  pub broken : Broken B img num p
  pub other : num ≡ 7 → Stray B (view B img) p → ⊥

-- all faults are such bits
abbrev pub OnlyStrays : ℕ → List ℕ → Type 0
OnlyStrays B img = (num p : ℕ) → Other B img num p → ⊥

-- rule num is the first with another fault, and p the lowest place of one
pub record FirstOther (B : ℕ) (img : List ℕ) (num p : ℕ) : Type 0 where
  pub here : Other B img num p
  pub earlier : (num' q : ℕ) → num' < num → Other B img num' q → ⊥
  pub lower : (q : ℕ) → q < p → Other B img num q → ⊥
