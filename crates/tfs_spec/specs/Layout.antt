-- The TFS layout, over the block size B: 512 in the code.
use Rattle.std.specs.Prelude.{◌≡◌, Bool, ◌&&◌, not, cond, ℕ, ◌+◌, ◌-◌, ◌*◌, ◌/◌, ◌%◌, ◌^◌, ◌≤◌, min, List, [], ◌∷◌, ◌++◌, length, get_or, set, leb, ltb, eqb}
use Rattle.std.proofs.Math.Option.{Option, none, some}
use Rattle.std.specs.Int.Count.{ones}
use Rattle.lists.specs.Lists.{same_list, zero_at, first_zero, up_to_zero, pad_to, word, bytes4, words, bit_of, with_bit, part, with_part, least, sum, count, table}

-- block sizes of the statements: 512 or larger, and whole 32-bit words
pub record BlockSize (B : ℕ) : Type 0 where
  pub large : 512 ≤ B
  pub whole : B % 4 ≡ 0

-- "4096": a volume has at most as many blocks as the map has bits
abbrev pub max_blocks : ℕ → ℕ
max_blocks B = 8 * B

-- "25 slots of 20 bytes"
abbrev pub slots : ℕ → ℕ
slots B = B / 20

-- "127 block numbers"
abbrev pub numbers : ℕ → ℕ
numbers B = B / 4 - 1

-- "Largest file 65,024 bytes"
abbrev pub max_size : ℕ → ℕ
max_size B = numbers B * B

-- ⌈size/512⌉
unfoldable pub need : ℕ → ℕ → ℕ
need B size = (size + (B - 1)) / B

-- "N = the smaller of 4096 and image length divided by 512, rounded down"
unfoldable pub blocks : ℕ → List ℕ → ℕ
blocks B img = min (max_blocks B) (length img / B)

-- "Each block is handed on as a part of the image"
unfoldable pub block : ℕ → List ℕ → ℕ → List ℕ
block B img b = part (b * B) B img

unfoldable pub set_block : ℕ → List ℕ → ℕ → List ℕ → List ℕ
set_block B img b bs = with_part (b * B) B bs img

-- ---- block 0
-- "magic 3745 in bytes 0..3; volume name in bytes 4..19"
abbrev pub magic : ℕ
magic = 3745

abbrev pub volume_name : List ℕ → List ℕ
volume_name head = part 4 16 head

-- ---- block 1, the map
-- "block b is bit (b mod 32), counted from the least significant, of 32-bit word (b div 32)":
-- big-endian, so bit (b mod 8) of this byte (LayoutLaws.map-bit in Consistent.antt says it in words)
abbrev pub map_byte : ℕ → ℕ
map_byte b = 4 * (b / 32) + (3 - b % 32 / 8)

-- "1 is reserved"
unfoldable pub map_bit : List ℕ → ℕ → Bool
map_bit map b = eqb (bit_of (get_or map (map_byte b) 0) (b % 8)) 1

unfoldable pub set_bit : List ℕ → ℕ → ℕ → List ℕ
set_bit map b v = set map (map_byte b) (with_bit (get_or map (map_byte b) 0) (b % 8) v)

-- the map with the bits of the blocks bs set to v
abbrev pub set_bits : List ℕ → ℕ → List ℕ → List ℕ
set_bits map v [] = map
set_bits map v (b ∷ bs) = set_bits (set_bit map b v) v bs

-- ---- block 2, the directory
-- "slots of 20 bytes: inode number (4), name (16, zero-ended)"
unfoldable pub slot : List ℕ → ℕ → List ℕ
slot dir s = part (s * 20) 20 dir

unfoldable pub set_slot : List ℕ → ℕ → List ℕ → List ℕ
set_slot dir s e = with_part (s * 20) 20 e dir

-- of the 20 bytes e of a slot
unfoldable pub slot_inode : List ℕ → ℕ
slot_inode e = word e 0

abbrev pub name_field : List ℕ → List ℕ
name_field e = part 4 16 e

-- "Names are compared and listed up to the zero"; all 16 bytes where there is none
unfoldable pub slot_name : List ℕ → List ℕ
slot_name e = up_to_zero (name_field e)

-- "a free slot has inode 0 and first name byte 0"
unfoldable pub slot_free : List ℕ → Bool
slot_free e = eqb (slot_inode e) 0 && zero_at (name_field e) 0

-- "in 3..N−1"
abbrev pub in_range : ℕ → ℕ → Bool
in_range n b = leb 3 b && ltb b n

-- "a zero in its 16 name bytes and a first byte not zero"
unfoldable pub name_formed : List ℕ → Bool
name_formed f = ltb (first_zero f) 16 && not (zero_at f 0)

-- "A used slot, its inode as before, has a zero in its 16 name bytes and a first byte not zero"
unfoldable pub slot_used : ℕ → List ℕ → Bool
slot_used n e = in_range n (slot_inode e) && name_formed (name_field e)

-- whether two names are the same
unfoldable pub same_name : List ℕ → List ℕ → Bool
same_name a b = same_list a b

-- "name padded with zeros"
unfoldable pub entry : ℕ → List ℕ → List ℕ
entry inode name = bytes4 inode ++ pad_to 16 name

-- ---- an inode
-- "size (4), then 127 block numbers"
unfoldable pub inode_size : List ℕ → ℕ
inode_size ino = word ino 0

unfoldable pub inode_number : List ℕ → ℕ → ℕ
inode_number ino k = word ino (4 + 4 * k)

-- "Unused inode numbers are 0"
unfoldable pub inode_block : ℕ → ℕ → List ℕ → List ℕ
inode_block B size bs = pad_to B (words (size ∷ bs))

-- ---- what requests ask of a name
-- not (over 15 bytes, or holding a zero byte): "format allows empty"
unfoldable pub label_allowed : List ℕ → Bool
label_allowed name = ltb (length name) 16 && eqb (first_zero name) (length name)

-- and not empty
unfoldable pub name_allowed : List ℕ → Bool
name_allowed name = leb 1 (length name) && label_allowed name

-- ---- a view: what a volume says outside its content
-- The check beyond rule 1 (the image's length), every answer after the check and the place of every byte are functions of it.
pub record View : Type 0 where
  -- N
  pub n : ℕ
  -- blocks 0, 1 and 2
  pub head : List ℕ
  pub map : List ℕ
  pub dir : List ℕ
  -- of each slot the block of its inode; [] where the slot's inode number is not in 3..N−1
  pub inodes : List (List ℕ)

unfoldable pub inode_at : ℕ → ℕ → List ℕ → ℕ → List ℕ
inode_at B n img s =
    let i : ℕ = slot_inode (slot (block B img 2) s) in
    let ino : List ℕ = block B img i in
    cond (in_range n i) ino []

-- the view of an image as a volume of n blocks
unfoldable pub view_n : ℕ → ℕ → List ℕ → View
view_n B n img =
    record { n = n; head = block B img 0; map = block B img 1; dir = block B img 2; inodes = table (inode_at B n img) 0 (slots B) }

unfoldable pub view : ℕ → List ℕ → View
view B img = view_n B (blocks B img) img

-- ---- of slot s
unfoldable pub free : View → ℕ → Bool
free v s = slot_free (slot v.dir s)

unfoldable pub used : View → ℕ → Bool
used v s = slot_used v.n (slot v.dir s)

unfoldable pub inode : View → ℕ → ℕ
inode v s = slot_inode (slot v.dir s)

unfoldable pub name : View → ℕ → List ℕ
name v s = slot_name (slot v.dir s)

unfoldable pub size : View → ℕ → ℕ
size v s = inode_size (get_or v.inodes s [])

unfoldable pub number : View → ℕ → ℕ → ℕ
number v s k = inode_number (get_or v.inodes s []) k

-- the slot of a name, and the lowest free slot; the number of slots where there is none
unfoldable pub slot_of : ℕ → View → List ℕ → ℕ
slot_of B v nm = least (λ s. not (free v s) && same_name (name v s) nm) (slots B)

unfoldable pub free_slot : ℕ → View → ℕ
free_slot B v = least (free v) (slots B)

-- ---- content
-- "Content runs through the listed blocks in order": where position p of the file in slot s lies
unfoldable pub place : ℕ → View → ℕ → ℕ → ℕ
place B v s p = number v s (p / B) * B + p % B

-- "A file's content is the first size bytes of its listed blocks in order"
unfoldable pub content : ℕ → View → List ℕ → ℕ → List ℕ
content B v img s = table (λ p. get_or img (place B v s p) 0) 0 (size v s)

-- the plain view of a volume: the content that stands under each name
abbrev pub Contents : Type 0
Contents = List ℕ → Option (List ℕ)

unfoldable pub contents : ℕ → List ℕ → Contents
contents B img nm =
    let s : ℕ = slot_of B (view B img) nm in
    cond (ltb s (slots B)) (some (content B (view B img) img s)) none

-- ---- room
-- "zero bits below N"
unfoldable pub free_blocks : View → ℕ
free_blocks v = count (λ b. not (map_bit v.map b)) v.n

-- "the set bits below N"
unfoldable pub ones_below : List ℕ → ℕ → ℕ
ones_below map n = count (map_bit map) n

-- how many words of the map start below n
abbrev pub words_below : ℕ → ℕ
words_below n = (n + 31) / 32

-- "the ones of each 32-bit word of the map that starts below N, the last of these cut at N": every word is cut at N, and only the last can lose bits by it
unfoldable pub ones_by_words : List ℕ → ℕ → ℕ
ones_by_words map n = sum (λ w. ones (word map (4 * w) % 2 ^ (n - 32 * w))) (words_below n)
