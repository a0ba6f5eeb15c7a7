-- The check and the answers of requests, in plain facts: demand 1, and of demand 2 "granted exactly when the rules grant it"; the number of blocks that a transfer meets.
use Rattle.std.specs.Prelude.{◌≡◌, ◌≢◌, ◌↔◌, ◌⊎◌, Bool, true, false, not, ℕ, ◌+◌, ◌-◌, ◌*◌, ◌/◌, ◌≤◌, ◌<◌, min, List, length, get_or, T, ltb, eqb}
use Rattle.lists.specs.Lists.{least, count}
use Rattle.tfs_spec.specs.Layout.{slots, max_size, need, map_bit, label_allowed, name_allowed, View, view, free, inode, name, size, number, place, free_blocks}
use Rattle.tfs_spec.specs.Check.{consistent, broken, check}
use Rattle.tfs_spec.specs.Consistent.{File, Consistent, FirstBroken, OnlyStrays, FirstOther}
use Rattle.tfs_spec.specs.Requests.{Answer, done, value, transferred, unused, file, refused, granted, met_of, refuse, format, blocks_met, check_answer, Change, creates, removes, writes, mend, Request, changes, fetches, checks, reads, lists, counts, lent, reply}

-- ---- the check
pub record CheckLaws (B : ℕ) (img : List ℕ) : Type 0 where
  -- it grants exactly the consistent volumes
  pub passes : (check B img ≡ consistent) ↔ Consistent B img
  pub grants : (check_answer B img ≡ done) ↔ Consistent B img
  -- and otherwise gives the first broken rule at its lowest place
  pub breaks : (num p : ℕ) → (check B img ≡ broken num p) ↔ FirstBroken B img num p
  pub refuses : (num p : ℕ) → (check_answer B img ≡ refused num p) ↔ FirstBroken B img num p
  -- "Every request but format refuses a volume that breaks the consistency rules, with the first fault and its place"; mend "beside format .. is the one request that doesn't refuse every inconsistent volume"
  pub faulty : (Consistent B img → ⊥) → (num : ℕ) × (p : ℕ) × FirstBroken B img num p
  pub refused-by-all : (num p : ℕ) → FirstBroken B img num p → (r : Request) → reply B img r ≡ refuse img (lent r) num p

-- ---- refusals, of every image, consistent or not
pub record RefusalLaws (B : ℕ) (img : List ℕ) : Type 0 where
  -- "it ends with a result or one refusal from the numbered table"; "Refusals 8 to 15 have place 0", and 32; which numbers each request gives is in its table below
  pub numbered : (r : Request) (num p : ℕ) → (reply B img r).answer ≡ refused num p → (1 ≤ num) × ((num ≤ 15) ⊎ (num ≡ 32)) × (8 ≤ num → p ≡ 0)
  -- "14 remains for list only"
  pub list-only : (r : Request) (p : ℕ) → (reply B img r).answer ≡ refused 14 p → (s : ℕ) × (r ≡ lists s)
  -- 32 is that of stores only
  pub fetch-only : (r : Request) (p : ℕ) → (reply B img r).answer ≡ refused 32 p → (c : Change) × (k : ℕ) × (buf : List ℕ) × (r ≡ fetches c k buf)
  -- "A refused request changes no byte of the image or of any buffer"
  pub keeps : (r : Request) → T (not (granted (reply B img r).answer)) → ((reply B img r).image ≡ img) × ((reply B img r).buffer ≡ lent r)
  pub format-keeps : (label : List ℕ) → T (not (granted (format B img label).answer)) → (format B img label).image ≡ img
  pub mend-keeps : T (not (granted (mend B img).answer)) → (mend B img).image ≡ img
  -- "An answer is either granted with its result or refused with a reason"
  pub granted-or-refused : (a : Answer) → T (granted a) ↔ ((num p : ℕ) → a ≢ refused num p)

-- ---- which answer each request gives: one table a request, with a line for each of its answers
-- at most 15 bytes, none of them zero: what format takes as the volume's name
abbrev pub LabelRule : List ℕ → Type 0
LabelRule l = (length l ≤ 15) × ((i : ℕ) → i < length l → get_or l i 0 ≢ 0)

-- 1 to 15 bytes, none of them zero
abbrev pub NameRule : List ℕ → Type 0
NameRule nm = (1 ≤ length nm) × LabelRule nm

-- slot s is not free and has the name nm
pub record Stands (B : ℕ) (v : View) (nm : List ℕ) (s : ℕ) : Type 0 where
  pub file : File B v s
  pub named : name v s ≡ nm

-- the name nm stands nowhere
abbrev pub Fresh : ℕ → View → List ℕ → Type 0
Fresh B v nm = (s : ℕ) → Stands B v nm s → ⊥

-- slot s is free
pub record Vacant (B : ℕ) (v : View) (s : ℕ) : Type 0 where
  pub slot : s < slots B
  pub free : T (free v s)

-- h is the lowest block of the volume that the map does not mark
pub record LowestBlock (v : View) (h : ℕ) : Type 0 where
  pub below : h < v.n
  pub clear : map_bit v.map h ≡ false
  pub marked : (i : ℕ) → i < h → map_bit v.map i ≡ true

-- remove, read and write: the lookup, then the request's own table for the file in slot s
pub data FindRule (B : ℕ) (v : View) (nm : List ℕ) (own : ℕ → Answer → Type 0) : Answer → Type 0 where
  -- 8: "name empty, over 15 bytes, or holding a zero byte"
  misnamed : (NameRule nm → ⊥) → FindRule B v nm own (refused 8 0)
  -- 13: "name doesn't stand"
  absent : NameRule nm → Fresh B v nm → FindRule B v nm own (refused 13 0)
  found : (s : ℕ) (a : Answer) → NameRule nm → Stands B v nm s → own s a → FindRule B v nm own a

pub data CreateRule (B : ℕ) (v : View) (nm : List ℕ) (z : ℕ) : Answer → Type 0 where
  -- 8: as for remove, read and write
  unnamed : (NameRule nm → ⊥) → CreateRule B v nm z (refused 8 0)
  -- 9: "size over 65,024"
  oversized : NameRule nm → max_size B < z → CreateRule B v nm z (refused 9 0)
  -- 10: "name stands already"
  standing : (s : ℕ) → NameRule nm → z ≤ max_size B → Stands B v nm s → CreateRule B v nm z (refused 10 0)
  -- 11: "no free slot"
  full : NameRule nm → z ≤ max_size B → Fresh B v nm → ((s : ℕ) → Vacant B v s → ⊥) → CreateRule B v nm z (refused 11 0)
  -- 12: "fewer than 1 + ⌈size/512⌉ zero bits below N"
  cramped : (s : ℕ) → NameRule nm → z ≤ max_size B → Fresh B v nm → Vacant B v s → free_blocks v < 1 + need B z → CreateRule B v nm z (refused 12 0)
  -- granted: "lowest free block becomes the inode"; "Result: the inode number"
  created : (s h : ℕ) → NameRule nm → z ≤ max_size B → Fresh B v nm → Vacant B v s → 1 + need B z ≤ free_blocks v → LowestBlock v h → CreateRule B v nm z (value h)

-- where position p lies at a p: whether block b, of B bytes, holds one of the c positions from o on
unfoldable pub holds_part : ℕ → (ℕ → ℕ) → ℕ → ℕ → ℕ → Bool
holds_part B a o c b = ltb (least (λ i. eqb (a (o + i) / B) b) c) c

-- m is "how many distinct content blocks" the c positions from o on of the file in slot s meet
pub record Meets (B : ℕ) (v : View) (s o c m : ℕ) : Type 0 where
  -- so many blocks of the volume hold one of these positions
  pub distinct : count (holds_part B (place B v s) o c) v.n ≡ m
  -- and as many of those that the file lists: none of them is listed twice
  pub listed : count (λ k. holds_part B (place B v s) o c (number v s k)) (need B (size v s)) ≡ m

-- read and write, of the file in slot s
pub data TransferRule (B : ℕ) (v : View) (o len s : ℕ) : Answer → Type 0 where
  -- 15: "offset greater than size"
  beyond : size v s < o → TransferRule B v o len s (refused 15 0)
  -- granted: "count = smaller of buffer length and size − offset"; "how many distinct content blocks their range meets, beside the byte count"
  moved : (c m : ℕ) → o ≤ size v s → c ≡ min len (size v s - o) → Meets B v s o c m → TransferRule B v o len s (transferred c m)

pub data ListRule (B : ℕ) (v : View) (s : ℕ) : Answer → Type 0 where
  -- 14: "slot over 24"
  outside : slots B ≤ s → ListRule B v s (refused 14 0)
  -- "a free slot, or name, inode number and size"
  vacant : Vacant B v s → ListRule B v s unused
  holds : File B v s → ListRule B v s (file (name v s) (inode v s) (size v s))

pub data FormatRule (B : ℕ) (img label : List ℕ) : Answer → Type 0 where
  -- 1: "image under 1,536 bytes"
  short : length img < 3 * B → FormatRule B img label (refused 1 0)
  -- 8: "format allows empty"
  unlabelled : 3 * B ≤ length img → (LabelRule label → ⊥) → FormatRule B img label (refused 8 0)
  -- granted
  formatted : 3 * B ≤ length img → LabelRule label → FormatRule B img label done

-- create, remove and write
abbrev pub ChangeRule : ℕ → View → Change → Answer → Type 0
ChangeRule B v (creates nm z) a = CreateRule B v nm z a
ChangeRule B v (removes nm) a = FindRule B v nm (λ s b. done ≡ b) a
ChangeRule B v (writes nm o bs) a = FindRule B v nm (TransferRule B v o (length bs)) a

-- f holds at i, and at k numbers below it
pub record Nth (f : ℕ → Bool) (k i : ℕ) : Type 0 where
  pub holds : T (f i)
  pub before : count f i ≡ k

-- b is the block of the k-th store, counted from 1, of a granted create, remove or write
pub data KthBlock (B : ℕ) (v : View) : Change → ℕ → ℕ → Type 0 where
  -- "Create stores content blocks in file order, inode, map, directory": the lowest block that the map does not mark is the inode, the next ones hold content
  content-block : (nm : List ℕ) (z k b : ℕ) → 1 ≤ k → k ≤ need B z → b < v.n → Nth (λ i. not (map_bit v.map i)) k b → KthBlock B v (creates nm z) k b
  inode-block : (nm : List ℕ) (z b : ℕ) → b < v.n → Nth (λ i. not (map_bit v.map i)) 0 b → KthBlock B v (creates nm z) (need B z + 1) b
  map-block : (nm : List ℕ) (z : ℕ) → KthBlock B v (creates nm z) (need B z + 2) 1
  directory-block : (nm : List ℕ) (z : ℕ) → KthBlock B v (creates nm z) (need B z + 3) 2
  -- "remove directory, map"
  directory-first : (nm : List ℕ) → KthBlock B v (removes nm) 1 2
  map-second : (nm : List ℕ) → KthBlock B v (removes nm) 2 1
  -- "write each met content block in file order": of the c positions that it writes, the file's i-th block holds one, and k − 1 blocks before it do
  met-block : (nm : List ℕ) (o : ℕ) (bs : List ℕ) (s c i k : ℕ) → Stands B v nm s → c ≡ min (length bs) (size v s - o) → 1 ≤ k → i < need B (size v s) → Nth (λ j. holds_part B (place B v s) o c (number v s j)) (k - 1) i → KthBlock B v (writes nm o bs) k (number v s i)

-- how many stores a granted create, remove or write has: its blocks and 3; 2; the blocks met, which its answer tells
abbrev pub store_count : ℕ → Change → Answer → ℕ
store_count B (creates nm z) a = need B z + 3
store_count B (removes nm) a = 2
store_count B (writes nm o bs) a = met_of a

-- the k-th store of a change
pub data FetchRule (B : ℕ) (v : View) (c : Change) (k : ℕ) (buf : List ℕ) : Answer → Type 0 where
  -- "After the request's own refusals"
  own : (num p : ℕ) → ChangeRule B v c (refused num p) → FetchRule B v c k buf (refused num p)
  -- 32: "a k of 0 or past the last, or a buffer under one block"
  unfetched : (a : Answer) → ChangeRule B v c a → T (granted a) → (k ≡ 0) ⊎ ((store_count B c a < k) ⊎ (length buf < B)) → FetchRule B v c k buf (refused 32 0)
  -- granted: "its block number"
  fetched : (a : Answer) (b : ℕ) → ChangeRule B v c a → T (granted a) → 1 ≤ k → k ≤ store_count B c a → B ≤ length buf → KthBlock B v c k b → FetchRule B v c k buf (value b)

pub data MendRule (B : ℕ) (img : List ℕ) : Answer → Type 0 where
  -- granted: all faults are set bits that nobody claims
  mendable : OnlyStrays B img → MendRule B img done
  -- "refuses the first other fault as the check does"
  unmendable : (num p : ℕ) → FirstOther B img num p → MendRule B img (refused num p)

-- the table of a request; check and free bytes have one answer each
abbrev pub Rule : ℕ → View → Request → Answer → Type 0
Rule B v (changes c) a = ChangeRule B v c a
Rule B v (fetches c k buf) a = FetchRule B v c k buf a
Rule B v checks a = done ≡ a
Rule B v (reads nm o buf) a = FindRule B v nm (TransferRule B v o (length buf)) a
Rule B v (lists s) a = ListRule B v s a
Rule B v counts a = value (B * free_blocks v) ≡ a

pub record GrantLaws (B : ℕ) (img : List ℕ) : Type 0 where
  -- "On a consistent volume every request is granted exactly when the written .. rules grant it": an answer is given exactly in its case of the table
  pub answers : Consistent B img → (r : Request) (a : Answer) → ((reply B img r).answer ≡ a) ↔ Rule B (view B img) r a
  -- format's and mend's, of any image
  pub formatting : (label : List ℕ) (a : Answer) → ((format B img label).answer ≡ a) ↔ FormatRule B img label a
  pub mending : (a : Answer) → ((mend B img).answer ≡ a) ↔ MendRule B img a
  -- which names requests take, and which format takes as the volume's
  pub name-allowed : (nm : List ℕ) → T (name_allowed nm) ↔ NameRule nm
  pub label-allowed : (l : List ℕ) → T (label_allowed l) ↔ LabelRule l

-- ---- the number of blocks met
pub record BlocksMetLaws : Type 0 where
  -- to hold one of the positions, in plain facts
  pub holds : (B : ℕ) (a : ℕ → ℕ) (o c b : ℕ) → T (holds_part B a o c b) ↔ ((p : ℕ) × (o ≤ p) × (p < o + c) × (a p / B ≡ b))
  -- of n blocks one after another, so many hold one; that of a file's blocks so many do is TransferLaws.meets in Effects.antt
  pub counts : (B : ℕ) → 1 ≤ B → (o c n : ℕ) → o + c ≤ n * B → count (holds_part B (λ p. p) o c) n ≡ blocks_met B o c
  -- "0 for a count of 0", at an offset inside a block too, and for no other count
  pub none : (B o c : ℕ) → (blocks_met B o c ≡ 0) ↔ (c ≡ 0)
  -- "for n bytes, n at least 1, never more than (n + 510) div 512, plus 1", and for each block size; from the last byte of any block on it is just that
  pub most-512 : (o n : ℕ) → 1 ≤ n → blocks_met 512 o n ≤ (n + 510) / 512 + 1
  pub most : (B : ℕ) → 1 ≤ B → (o n : ℕ) → 1 ≤ n → blocks_met B o n ≤ (n + B - 2) / B + 1
  pub reached : (B : ℕ) → 1 ≤ B → (k n : ℕ) → 1 ≤ n → blocks_met B (k * B + (B - 1)) n ≡ (n + B - 2) / B + 1
