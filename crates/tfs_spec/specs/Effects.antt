-- What granted requests do and what they leave, in plain facts: of demand 2 "with the effect they give and no other".
use Rattle.std.specs.Prelude.{◌≡◌, ◌⊎◌, true, false, not, cond, ◌&&◌, ℕ, suc, ◌+◌, ◌-◌, ◌*◌, ◌/◌, ◌≤◌, ◌<◌, min, List, ◌∷◌, ◌++◌, [], length, get_or, take, drop, T, leb, ltb}
use Rattle.std.proofs.Math.Option
use Rattle.std.proofs.Math.Option.{Option, none, some}
use Rattle.lists.specs.Lists.{In, sum, table, joined, zeros, pad_to, bytes4, words, part}
use Rattle.tfs_spec.specs.Layout.{slots, need, blocks, block, map_bit, slot, same_name, inode_size, inode_number, View, view, free, inode, name, size, number, content, Contents, contents, free_blocks}
use Rattle.tfs_spec.specs.Consistent.{Bytes, slot_at, File, Consistent}
use Rattle.tfs_spec.specs.Requests.{Answer, done, value, transferred, refused, granted, Outcome, refuse, format, create, remove, blocks_met, read, write, Change, creates, removes, writes, perform, fetch, mend, Operation, operate, after_all}
use Rattle.tfs_spec.specs.Answers.{NameRule, Stands, Fresh, Vacant, Meets}

-- ---- the content of files, and what stands under a name
pub record ContentLaws (B : ℕ) (img : List ℕ) : Type 0 where
  pub long : (s : ℕ) → length (content B (view B img) img s) ≡ size (view B img) s
  -- "A file's content is the first size bytes of its listed blocks in order"
  pub file : (s : ℕ) → File B (view B img) s → content B (view B img) img s ≡ take (size (view B img) s) (joined (table (λ k. block B img (number (view B img) s k)) 0 (need B (size (view B img) s))))
  -- under a name stands the content of the file with that name, or none
  pub named : (nm : List ℕ) (s : ℕ) → Stands B (view B img) nm s → contents B img nm ≡ some (content B (view B img) img s)
  pub absent : (nm : List ℕ) → Fresh B (view B img) nm → contents B img nm ≡ none

-- ---- create, remove and write as changes of what stands under one name
-- what stands under k becomes g of it
abbrev pub change : List ℕ → (Option (List ℕ) → Option (List ℕ)) → Contents → Contents
change k g c j = cond (same_name j k) (g (c j)) (c j)

-- bytes laid over a content from o on, as far as it reaches
abbrev pub over : ℕ → List ℕ → List ℕ → List ℕ
over o bs old = table (λ p. cond (leb o p && ltb p (o + length bs)) (get_or bs (p - o) 0) (get_or old p 0)) 0 (length old)

-- what becomes of what stands under the request's name
abbrev pub effect_of : Change → Option (List ℕ) → Option (List ℕ)
effect_of (creates nm z) old = some (zeros z)
effect_of (removes nm) old = none
effect_of (writes nm o bs) old = Option.map (over o bs) old

-- the name that a request is on
abbrev pub name_on : Change → List ℕ
name_on (creates nm z) = nm
name_on (removes nm) = nm
name_on (writes nm o bs) = nm

pub record ChangeLaws (B : ℕ) (img : List ℕ) : Type 0 where
  -- "The volume stays consistent", whatever is asked
  pub stays : (c : Change) → Consistent B (perform B img c).image
  -- one name changes; "other files keep their bytes"
  pub changes : (c : Change) → T (granted (perform B img c).answer) → (j : List ℕ) → contents B (perform B img c).image j ≡ change (name_on c) (effect_of c) (contents B img) j

-- ---- what create, remove and format set in the image, and that all else stays
-- bytes outside blocks 1 and 2
abbrev pub Outside : ℕ → ℕ → Type 0
Outside B q = (q < B) ⊎ (3 * B ≤ q)

-- block b is the inode of the file in slot s, or one of its content blocks
abbrev pub BlockOf : ℕ → View → ℕ → ℕ → Type 0
BlockOf B v s b = (inode v s ≡ b) ⊎ ((k : ℕ) × (k < need B (size v s)) × (number v s k ≡ b))

-- remove of the file in slot s
pub record RemoveTouch (B : ℕ) (img new : List ℕ) (s : ℕ) : Type 0 where
  -- "clears the bits of inode and content"
  pub cleared : (b : ℕ) → BlockOf B (view B img) s b → map_bit (block B new 1) b ≡ false
  -- "zeros the 20 bytes of the slot"
  pub zeroed : (i : ℕ) → i < 20 → get_or (block B new 2) (s * 20 + i) 0 ≡ 0
  -- "touches nothing else": the other bits of block 1, the other bytes of block 2, and all of the other blocks
  pub bits : (b : ℕ) → (BlockOf B (view B img) s b → ⊥) → map_bit (block B new 1) b ≡ map_bit (block B img 1) b
  pub entries : (i : ℕ) → (i < s * 20) ⊎ (s * 20 + 20 ≤ i) → get_or (block B new 2) i 0 ≡ get_or (block B img 2) i 0
  pub bytes : (q : ℕ) → Outside B q → get_or new q 0 ≡ get_or img q 0
  pub long : length new ≡ length img

-- cs are the m lowest blocks of the volume that the map does not mark, in rising order
pub record LowestBlocks (v : View) (m : ℕ) (cs : List ℕ) : Type 0 where
  pub long : length cs ≡ m
  pub below : (j : ℕ) → j < m → get_or cs j 0 < v.n
  pub clear : (j : ℕ) → j < m → map_bit v.map (get_or cs j 0) ≡ false
  pub rising : (i j : ℕ) → i < j → j < m → get_or cs i 0 < get_or cs j 0
  -- any other that is not marked is higher than each of them
  pub lowest : (b : ℕ) → b < v.n → map_bit v.map b ≡ false → (In b cs → ⊥) → (j : ℕ) → j < m → get_or cs j 0 < b

-- create of a file of z bytes under nm with the answer h: it stands in slot s, and cs are its inode and content blocks
pub record CreateTouch (B : ℕ) (img new nm : List ℕ) (z h s : ℕ) (cs : List ℕ) : Type 0 where
  -- "lowest free slot"
  pub vacant : Vacant B (view B img) s
  pub lower : (t : ℕ) → t < s → T (not (free (view B img) t))
  -- "lowest free block becomes the inode, the next lowest in rising order hold content"
  pub blocks : LowestBlocks (view B img) (1 + need B z) cs
  pub number : get_or cs 0 0 ≡ h
  pub marked : (b : ℕ) → In b cs → map_bit (block B new 1) b ≡ true
  -- the 20 bytes of the slot: inode number, "name padded with zeros"
  pub entry : slot (block B new 2) s ≡ bytes4 h ++ pad_to 16 nm
  -- the inode's bytes: size, block numbers, zeros; as they are read, "Unused inode numbers are 0"
  pub inode : block B new h ≡ pad_to B (words (z ∷ drop 1 cs))
  pub size : inode_size (block B new h) ≡ z
  pub listed : (k : ℕ) → k < need B z → inode_number (block B new h) k ≡ get_or cs (suc k) 0
  pub unlisted : (k : ℕ) → need B z ≤ k → inode_number (block B new h) k ≡ 0
  -- "all content blocks wholly zero"
  pub zeroed : (k : ℕ) → k < need B z → block B new (get_or cs (suc k) 0) ≡ zeros B
  -- all else stays: the other bits of block 1, the other bytes of block 2, and all of the other blocks
  pub bits : (b : ℕ) → (In b cs → ⊥) → map_bit (block B new 1) b ≡ map_bit (block B img 1) b
  pub entries : (i : ℕ) → (i < s * 20) ⊎ (s * 20 + 20 ≤ i) → get_or (block B new 2) i 0 ≡ get_or (block B img 2) i 0
  pub bytes : (q : ℕ) → Outside B q → (In (q / B) cs → ⊥) → get_or new q 0 ≡ get_or img q 0
  pub long : length new ≡ length img

-- of write see Laws.antt
pub record TouchLaws (B : ℕ) (img : List ℕ) : Type 0 where
  pub created : (nm : List ℕ) (z h : ℕ) → (create B img nm z).answer ≡ value h → (s : ℕ) × (cs : List ℕ) × CreateTouch B img (create B img nm z).image nm z h s cs
  pub removed : (nm : List ℕ) (s : ℕ) → Stands B (view B img) nm s → RemoveTouch B img (remove B img nm).image s

-- format of an image of three blocks or more with an allowed name
pub record FormatLaws (B : ℕ) (img label : List ℕ) : Type 0 where
  pub answer : (format B img label).answer ≡ done
  pub consistent : Consistent B (format B img label).image
  -- no name stands
  pub empty : (nm : List ℕ) → contents B (format B img label).image nm ≡ none
  -- "Zeros all of blocks 0 to 2 ..; sets magic, name and map bits 0, 1, 2. Later blocks are untouched"
  pub head : block B (format B img label).image 0 ≡ 0 ∷ 0 ∷ 14 ∷ 161 ∷ (label ++ zeros (B - 4 - length label))
  pub map : block B (format B img label).image 1 ≡ 0 ∷ 0 ∷ 0 ∷ 7 ∷ zeros (B - 4)
  pub directory : block B (format B img label).image 2 ≡ zeros B
  pub past : (q : ℕ) → 3 * B ≤ q → get_or (format B img label).image q 0 ≡ get_or img q 0
  pub long : length (format B img label).image ≡ length img

-- ---- read and write by what stands under the name, and by nothing else
-- what a transfer of len bytes from o on answers
abbrev pub transfer_on : ℕ → Option (List ℕ) → ℕ → ℕ → Answer
transfer_on B none o len = refused 13 0
transfer_on B (some bytes) o len =
    let c : ℕ = min len (length bytes - o) in
    cond (ltb (length bytes) o) (refused 15 0) (transferred c (blocks_met B o c))

-- what read leaves in the buffer: the bytes from o on, as many as it takes; "Read leaves the rest of the buffer"
abbrev pub read_on : Option (List ℕ) → ℕ → List ℕ → List ℕ
read_on none o buf = buf
read_on (some bytes) o buf = let got : List ℕ = take (length buf) (drop o bytes) in got ++ drop (length got) buf

-- what read comes to, where c stands under its name
abbrev pub read_by : ℕ → Option (List ℕ) → List ℕ → ℕ → List ℕ → Outcome
read_by B c img o buf = record { answer = transfer_on B c o (length buf); image = img; buffer = read_on c o buf }

pub record TransferLaws (B : ℕ) (img : List ℕ) : Type 0 where
  pub misnamed : (nm : List ℕ) → (NameRule nm → ⊥) → (o : ℕ) (buf : List ℕ) → (read B img nm o buf ≡ refuse img buf 8 0) × (write B img nm o buf ≡ refuse img [] 8 0)
  pub reads : (nm : List ℕ) → NameRule nm → (o : ℕ) (buf : List ℕ) → read B img nm o buf ≡ read_by B (contents B img nm) img o buf
  -- the number beside the count is that of the blocks met
  pub meets : (s o c : ℕ) → File B (view B img) s → o + c ≤ size (view B img) s → Meets B (view B img) s o c (blocks_met B o c)
  -- what a write leaves under names is in ChangeLaws, and that no other byte changes in Laws.antt
  pub writes : (nm : List ℕ) → NameRule nm → (o : ℕ) (bs : List ℕ) → (write B img nm o bs).answer ≡ transfer_on B (contents B img nm) o (length bs)

-- ---- what create, remove, write and mend keep, and what no request looks at
-- "The rest [of block 0] is ignored"; "Bits from N on are ignored and kept"; "Bytes 500..511 are ignored and kept"
pub record Kept (B : ℕ) (img new : List ℕ) : Type 0 where
  pub head : block B new 0 ≡ block B img 0
  pub bits : (b : ℕ) → blocks B img ≤ b → map_bit (block B new 1) b ≡ map_bit (block B img 1) b
  pub ends : (i : ℕ) → 20 * slots B ≤ i → get_or (block B new 2) i 0 ≡ get_or (block B img 2) i 0

-- "old bytes": the bytes of a slot behind the first zero of its name bytes
pub data Leftover (B : ℕ) (img : List ℕ) : ℕ → Type 0 where
  behind : (s i j : ℕ) → s < slots B → i < j → j < 16 → get_or img (slot_at B s + 4 + i) 0 ≡ 0 → Leftover B img (slot_at B s + 4 + j)

-- the 20 bytes of slot t are the same in two images
abbrev pub SameBytes : ℕ → List ℕ → List ℕ → ℕ → Type 0
SameBytes B a b t = slot (block B a 2) t ≡ slot (block B b 2) t

-- "each slot's inode number and name": those of slot t are the same in two images
abbrev pub SameSlot : ℕ → List ℕ → List ℕ → ℕ → Type 0
SameSlot B a b t = (inode (view B a) t ≡ inode (view B b) t) × (name (view B a) t ≡ name (view B b) t)

-- two images of one length that differ at most in what is ignored
pub record SameRead (B : ℕ) (a b : List ℕ) : Type 0 where
  pub long : length a ≡ length b
  -- magic and volume name
  pub head : part 0 20 (block B a 0) ≡ part 0 20 (block B b 0)
  pub bits : (i : ℕ) → i < blocks B a → map_bit (block B a 1) i ≡ map_bit (block B b 1) i
  pub slots_same : (t : ℕ) → t < slots B → SameSlot B a b t
  -- the blocks from 3 to N − 1
  pub rest : (i : ℕ) → 3 ≤ i → i < blocks B a → block B a i ≡ block B b i

-- new is img with other bytes only before the end of the volume
pub record Beyond (B : ℕ) (img new : List ℕ) : Type 0 where
  pub long : length new ≡ length img
  pub bytes : (q : ℕ) → blocks B img * B ≤ q → get_or new q 0 ≡ get_or img q 0

-- two images, also of different lengths, with one volume
pub record SameVolume (B : ℕ) (a b : List ℕ) : Type 0 where
  pub n : blocks B a ≡ blocks B b
  pub bytes : (i : ℕ) → i < blocks B a * B → get_or a i 0 ≡ get_or b i 0

-- of every image, consistent or not
pub record KeptLaws (B : ℕ) (a : List ℕ) : Type 0 where
  pub kept : (c : Change) → Kept B a (perform B a c).image
  pub mend-kept : Kept B a (mend B a).image
  -- however many requests come, what is ignored has no say in any answer, nor in what read gives; and the images they leave differ in no more. (A store gives a whole block, with what is ignored in it)
  pub ignored : (b : List ℕ) → SameRead B a b → (xs : List Operation) (x : Operation) → (operate B (after_all B a xs) x).answer ≡ (operate B (after_all B b xs) x).answer
  pub ignored-reads : (b : List ℕ) → SameRead B a b → (xs : List Operation) (nm : List ℕ) (o : ℕ) (buf : List ℕ) → (read B (after_all B a xs) nm o buf).buffer ≡ (read B (after_all B b xs) nm o buf).buffer
  pub ignored-after : (b : List ℕ) → SameRead B a b → (xs : List Operation) → SameRead B (after_all B a xs) (after_all B b xs)
  -- and slots with the same bytes go on having the same bytes
  pub bytes_after : (b : List ℕ) → SameRead B a b → (t : ℕ) → t < slots B → SameBytes B a b t → (xs : List Operation) → SameBytes B (after_all B a xs) (after_all B b xs) t
  -- leftovers are ignored: images that differ in nothing else are such; that leftovers are kept is SlotLaws in Histories.antt
  pub leftovers : (b : List ℕ) → length a ≡ length b → ((q : ℕ) → (Leftover B a q → ⊥) → get_or a q 0 ≡ get_or b q 0) → SameRead B a b
  -- "Bytes from 512·N on are never read or changed"
  pub tail-kept : (x : Operation) → Beyond B a (operate B a x).image
  pub tail-unread : (b : List ℕ) → SameVolume B a b → (x : Operation) → ((operate B a x).answer ≡ (operate B b x).answer) × ((operate B a x).buffer ≡ (operate B b x).buffer) × SameVolume B (operate B a x).image (operate B b x).image

-- ---- bytes stay bytes, where sizes fit into four of them
-- what of a change must be bytes: the name of a create, what a write writes
abbrev pub ByteRequest : Change → Type 0
ByteRequest (creates nm z) = Bytes nm
ByteRequest (removes nm) = Unit {0}
ByteRequest (writes nm o bs) = Bytes bs

pub record ByteLaws (B : ℕ) (img : List ℕ) : Type 0 where
  pub formatted : (label : List ℕ) → Bytes label → Bytes (format B img label).image
  pub created : (nm : List ℕ) (z : ℕ) → Bytes nm → Bytes (create B img nm z).image
  pub removed : (nm : List ℕ) → Bytes (remove B img nm).image
  pub written : (nm : List ℕ) (o : ℕ) (bs : List ℕ) → Bytes bs → Bytes (write B img nm o bs).image
  pub read-into : (nm : List ℕ) (o : ℕ) (buf : List ℕ) → Bytes buf → Bytes (read B img nm o buf).buffer
  pub mended : Bytes (mend B img).image
  pub fetch-into : (c : Change) (k : ℕ) (buf : List ℕ) → ByteRequest c → Bytes buf → Bytes (fetch B img c k buf).buffer

-- ---- room
-- inodes and content blocks, "counted from the directory and inodes"
abbrev pub inode_count : ℕ → View → ℕ
inode_count B v = sum (λ s. cond (free v s) 0 1) (slots B)

abbrev pub content_count : ℕ → View → ℕ
content_count B v = sum (λ s. cond (free v s) 0 (need B (size v s))) (slots B)

pub record RoomLaws (B : ℕ) (img : List ℕ) : Type 0 where
  -- "Blocks 0 to 2, inodes, content blocks and free blocks add up to N"
  pub total : 3 + inode_count B (view B img) + content_count B (view B img) + free_blocks (view B img) ≡ blocks B img
  -- "Room freed by remove counts for 12 at once"; create takes 1 + ⌈size/512⌉ blocks; write takes none
  pub freed : (nm : List ℕ) (s : ℕ) → Stands B (view B img) nm s → free_blocks (view B (remove B img nm).image) ≡ free_blocks (view B img) + (1 + need B (size (view B img) s))
  pub taken : (nm : List ℕ) (z : ℕ) → T (granted (create B img nm z).answer) → free_blocks (view B (create B img nm z).image) + (1 + need B z) ≡ free_blocks (view B img)
  pub written : (nm : List ℕ) (o : ℕ) (bs : List ℕ) → free_blocks (view B (perform B img (writes nm o bs)).image) ≡ free_blocks (view B img)
