-- The requests: for every input the answer, the image after and the buffer after.
use Rattle.std.specs.Prelude.{Bool, true, false, not, cond, ◌||◌, ℕ, zero, suc, ◌+◌, ◌-◌, ◌*◌, ◌/◌, min, List, [], ◌∷◌, ◌++◌, length, get_or, take, drop, ltb, eqb}
use Rattle.lists.specs.Lists.{zeros, pad_to, table, bytes4, store_bytes}
use Rattle.tfs_spec.specs.Layout.{slots, max_size, need, block, set_block, magic, map_bit, set_bit, set_bits, set_slot, entry, inode_block, label_allowed, name_allowed, View, view, free, inode, name, size, number, slot_of, free_slot, place, free_blocks}
use Rattle.tfs_spec.specs.Check.{Verdict, consistent, broken, too_short, stray, check, file_claims}

-- "An answer is either granted with its result or refused with a reason"
pub data Answer : Type 0 where
  -- granted, with no result
  done : Answer
  -- granted, of create and free bytes: an inode number, free bytes; of a store the number of its block; of writing a record its length
  value : ℕ → Answer
  -- granted, of read and write: the count, and how many content blocks their range meets
  transferred : ℕ → ℕ → Answer
  -- granted, of list: a free slot; or name, inode number and size
  unused : Answer
  file : List ℕ → ℕ → ℕ → Answer
  -- the refusal's number and place
  refused : ℕ → ℕ → Answer

abbrev pub granted : Answer → Bool
granted done = true
granted (value x) = true
granted (transferred c m) = true
granted unused = true
granted (file nm i z) = true
granted (refused num p) = false

-- the number of a refusal, 0 for granted
abbrev pub refusal_of : Answer → ℕ
refusal_of done = 0
refusal_of (value x) = 0
refusal_of (transferred c m) = 0
refusal_of unused = 0
refusal_of (file nm i z) = 0
refusal_of (refused num p) = num

-- the count or value of an answer: a refusal counts 0
abbrev pub count_of : Answer → ℕ
count_of done = 0
count_of (value x) = x
count_of (transferred c m) = c
count_of unused = 0
count_of (file nm i z) = 0
count_of (refused num p) = 0

-- the blocks met of an answer
abbrev pub met_of : Answer → ℕ
met_of done = 0
met_of (value x) = 0
met_of (transferred c m) = m
met_of unused = 0
met_of (file nm i z) = 0
met_of (refused num p) = 0

-- what a request answers, and the image and the buffer that it leaves; [] where no buffer is lent for writing
pub record Outcome : Type 0 where
  pub answer : Answer
  pub image : List ℕ
  pub buffer : List ℕ

-- "A refusal leaves the image and lent buffers unchanged"
abbrev pub refuse : List ℕ → List ℕ → ℕ → ℕ → Outcome
refuse img buf num p = record { answer = refused num p; image = img; buffer = buf }

-- "Every request but format runs the check first and gives its refusal": that refusal, or what the request's step gives; of mend the check of the mended image
abbrev pub checked : {A : Type 0} → Verdict → (ℕ → ℕ → A) → A → A
checked consistent refusal step = step
checked (broken num p) refusal step = refusal num p

-- ---- whole-block stores, in order
pub record Store : Type 0 where
  pub at : ℕ
  pub bytes : List ℕ

abbrev pub store : ℕ → List ℕ → Store
store b bs = record { at = b; bytes = bs }

abbrev pub store_all : ℕ → List ℕ → List Store → List ℕ
store_all B img [] = img
store_all B img (x ∷ xs) = store_all B (set_block B img x.at x.bytes) xs

-- ---- format: "refuses 1, then 8"
-- "Zeros all of blocks 0 to 2; sets magic, name and map bits 0, 1, 2"
unfoldable pub format_stores : ℕ → List ℕ → List Store
format_stores B label =
    store 0 (bytes4 magic ++ pad_to (B - 4) label)
    ∷ store 1 (set_bits (zeros B) 1 (0 ∷ 1 ∷ 2 ∷ []))
    ∷ store 2 (zeros B)
    ∷ []

unfoldable pub format : ℕ → List ℕ → List ℕ → Outcome
format B img label =
    let after : Outcome = record { answer = done; image = store_all B img (format_stores B label); buffer = [] } in
    cond (too_short B img) (refuse img [] 1 0)
    (cond (not (label_allowed label)) (refuse img [] 8 0) after)

-- ---- check
unfoldable pub check_answer : ℕ → List ℕ → Answer
check_answer B img = checked (check B img) refused done

-- ---- the lookup of a name, for remove, read and write: 8, 13
pub data Lookup : Type 0 where
  -- the slot of the file that has the name
  in_slot : ℕ → Lookup
  -- the refusal's number
  denied : ℕ → Lookup

unfoldable pub lookup : ℕ → View → List ℕ → Lookup
lookup B v nm =
    let s : ℕ = slot_of B v nm in
    cond (not (name_allowed nm)) (denied 8)
    (cond (not (ltb s (slots B))) (denied 13) (in_slot s))

-- "takes the answer of the lookup apart": its refusal as it is, or what the request's step gives on the file in that slot
abbrev pub looked : {A : Type 0} → Lookup → (ℕ → ℕ → A) → (ℕ → A) → A
looked (in_slot s) refusal step = step s
looked (denied num) refusal step = refusal num 0

-- ---- create: 8, 9, 10, 11, 12
-- the free blocks from k on among the next d, rising
unfoldable pub free_from : List ℕ → ℕ → ℕ → List ℕ
free_from map k zero = []
free_from map k (suc d) = let t : List ℕ = free_from map (suc k) d in cond (map_bit map k) t (k ∷ t)

-- "lowest free block becomes the inode, the next lowest in rising order hold content"
unfoldable pub chosen : ℕ → View → ℕ → List ℕ
chosen B v sz = take (1 + need B sz) (free_from v.map 0 v.n)

-- "all content blocks wholly zero"
abbrev pub zero_stores : ℕ → List ℕ → List Store
zero_stores B [] = []
zero_stores B (b ∷ bs) = store b (zeros B) ∷ zero_stores B bs

-- content blocks in file order, inode, map, directory
unfoldable pub place_stores : ℕ → View → ℕ → List ℕ → ℕ → List ℕ → List Store
place_stores B v s nm sz [] = []
place_stores B v s nm sz (i ∷ bs) =
    zero_stores B bs
    ++ (store i (inode_block B sz bs)
    ∷ store 1 (set_bits v.map 1 (i ∷ bs))
    ∷ store 2 (set_slot v.dir s (entry i nm))
    ∷ [])

-- "lowest free slot"
unfoldable pub create_stores : ℕ → View → List ℕ → ℕ → List Store
create_stores B v nm sz = place_stores B v (free_slot B v) nm sz (chosen B v sz)

unfoldable pub create_view : ℕ → View → List ℕ → ℕ → Answer
create_view B v nm sz =
    let number : ℕ = get_or (chosen B v sz) 0 0 in
    cond (not (name_allowed nm)) (refused 8 0)
    (cond (ltb (max_size B) sz) (refused 9 0)
    (cond (ltb (slot_of B v nm) (slots B)) (refused 10 0)
    (cond (not (ltb (free_slot B v) (slots B))) (refused 11 0)
    (cond (ltb (free_blocks v) (1 + need B sz)) (refused 12 0) (value number)))))

-- the image after: that of the stores where the answer is a grant
abbrev pub stored : ℕ → List ℕ → Answer → List Store → Outcome
stored B img a xs = record { answer = a; image = cond (granted a) (store_all B img xs) img; buffer = [] }

abbrev pub create_step : ℕ → List ℕ → List ℕ → ℕ → Outcome
create_step B img nm sz = stored B img (create_view B (view B img) nm sz) (create_stores B (view B img) nm sz)

unfoldable pub create : ℕ → List ℕ → List ℕ → ℕ → Outcome
create B img nm sz = checked (check B img) (refuse img []) (create_step B img nm sz)

-- ---- remove: 8, 13
-- "clears the bits of inode and content, zeros the 20 bytes of the slot": directory, map
unfoldable pub remove_stores : ℕ → View → List ℕ → List Store
remove_stores B v nm =
    let s : ℕ = slot_of B v nm in
    store 2 (set_slot v.dir s (zeros 20))
    ∷ store 1 (set_bits v.map 0 (file_claims B v s))
    ∷ []

unfoldable pub remove_view : ℕ → View → List ℕ → Answer
remove_view B v nm = looked (lookup B v nm) refused (λ s. done)

abbrev pub remove_step : ℕ → List ℕ → List ℕ → Outcome
remove_step B img nm = stored B img (remove_view B (view B img) nm) (remove_stores B (view B img) nm)

unfoldable pub remove : ℕ → List ℕ → List ℕ → Outcome
remove B img nm = checked (check B img) (refuse img []) (remove_step B img nm)

-- ---- read and write, by name: 8, 13, 15
-- "count = smaller of buffer length and size − offset"
unfoldable pub counted : View → ℕ → ℕ → ℕ → ℕ
counted v s o len = min len (size v s - o)

-- "how many distinct content blocks their range meets": from the block of the first of c positions, which is o, to that of the last; "0 for a count of 0"
unfoldable pub blocks_met : ℕ → ℕ → ℕ → ℕ
blocks_met B o c = cond (eqb c 0) 0 ((o + c - 1) / B - o / B + 1)

-- of the file in slot s: "offset greater than size"
unfoldable pub transfer_answer : ℕ → View → ℕ → ℕ → ℕ → Answer
transfer_answer B v s o len =
    let c : ℕ = counted v s o len in
    cond (ltb (size v s) o) (refused 15 0) (transferred c (blocks_met B o c))

-- "Read leaves the rest of the buffer"
unfoldable pub read_buffer : ℕ → View → List ℕ → ℕ → ℕ → List ℕ → List ℕ
read_buffer B v img s o buf =
    let c : ℕ = counted v s o (length buf) in
    table (λ p. get_or img (place B v s p) 0) o c ++ drop c buf

abbrev pub read_file : ℕ → List ℕ → ℕ → ℕ → List ℕ → Outcome
read_file B img s o buf =
    let v : View = view B img in
    let a : Answer = transfer_answer B v s o (length buf) in
    record { answer = a; image = img; buffer = cond (granted a) (read_buffer B v img s o buf) buf }

-- "Merge open with read": "takes the answer of the lookup apart before anything is read"
abbrev pub read_step : ℕ → List ℕ → List ℕ → ℕ → List ℕ → Outcome
read_step B img nm o buf = looked (lookup B (view B img) nm) (refuse img buf) (λ s. read_file B img s o buf)

unfoldable pub read : ℕ → List ℕ → List ℕ → ℕ → List ℕ → Outcome
read B img nm o buf = checked (check B img) (refuse img buf) (read_step B img nm o buf)

-- "Write changes only those content bytes"
unfoldable pub write_image : ℕ → View → List ℕ → ℕ → ℕ → List ℕ → List ℕ
write_image B v img s o buf = store_bytes (place B v s) img o (take (counted v s o (length buf)) buf)

abbrev pub write_file : ℕ → List ℕ → ℕ → ℕ → List ℕ → Outcome
write_file B img s o buf =
    let v : View = view B img in
    let a : Answer = transfer_answer B v s o (length buf) in
    record { answer = a; image = cond (granted a) (write_image B v img s o buf) img; buffer = [] }

-- "and open with write"
abbrev pub write_step : ℕ → List ℕ → List ℕ → ℕ → List ℕ → Outcome
write_step B img nm o buf = looked (lookup B (view B img) nm) (refuse img []) (λ s. write_file B img s o buf)

unfoldable pub write : ℕ → List ℕ → List ℕ → ℕ → List ℕ → Outcome
write B img nm o buf = checked (check B img) (refuse img []) (write_step B img nm o buf)

-- ---- list: "slot over 24" is 14; "a free slot, or name, inode number and size"
unfoldable pub list_view : ℕ → View → ℕ → Answer
list_view B v s =
    cond (not (ltb s (slots B))) (refused 14 0)
    (cond (free v s) unused (file (name v s) (inode v s) (size v s)))

abbrev pub list_step : ℕ → List ℕ → ℕ → Answer
list_step B img s = list_view B (view B img) s

unfoldable pub list_answer : ℕ → List ℕ → ℕ → Answer
list_answer B img s = checked (check B img) refused (list_step B img s)

-- ---- free bytes: "512 times the zero bits below N"
abbrev pub free_step : ℕ → List ℕ → Answer
free_step B img = value (B * free_blocks (view B img))

unfoldable pub free_answer : ℕ → List ℕ → Answer
free_answer B img = checked (check B img) refused (free_step B img)

-- ---- requests as values
-- those that change a volume, but for format and mend
pub data Change : Type 0 where
  -- name and size
  creates : List ℕ → ℕ → Change
  -- name
  removes : List ℕ → Change
  -- name, offset and bytes
  writes : List ℕ → ℕ → List ℕ → Change

unfoldable pub perform : ℕ → List ℕ → Change → Outcome
perform B img (creates nm z) = create B img nm z
perform B img (removes nm) = remove B img nm
perform B img (writes nm o bs) = write B img nm o bs

-- ---- power taken in the middle: "each create, remove and write as a numbered series of whole-block stores"
-- "write each met content block in file order": each as it is after the write
unfoldable pub write_stores : ℕ → View → List ℕ → ℕ → ℕ → List ℕ → List Store
write_stores B v img s o buf =
    let met : ℕ = blocks_met B o (counted v s o (length buf)) in
    table (λ k. store (number v s k) (block B (write_image B v img s o buf) (number v s k))) (o / B) met

-- those of a granted change
abbrev pub stores_of : ℕ → List ℕ → Change → List Store
stores_of B img (creates nm z) = create_stores B (view B img) nm z
stores_of B img (removes nm) = remove_stores B (view B img) nm
stores_of B img (writes nm o bs) = write_stores B (view B img) img (slot_of B (view B img) nm) o bs

-- the k-th, counted from 1
abbrev pub kth : ℕ → List Store → Store
kth k xs = get_or xs (k - 1) (store 0 [])

-- "a k of 0 or past the last, or a buffer under one block, is refused 32"; "its block number, and its bytes into the start of a lent buffer. The image stays"
unfoldable pub fetch_store : ℕ → List ℕ → List Store → ℕ → List ℕ → Outcome
fetch_store B img xs k buf =
    let given : Outcome = record { answer = value (kth k xs).at; image = img; buffer = (kth k xs).bytes ++ drop B buf } in
    cond (eqb k 0 || (ltb (length xs) k || ltb (length buf) B)) (refuse img buf 32 0) given

-- "After the request's own refusals"
unfoldable pub fetch : ℕ → List ℕ → Change → ℕ → List ℕ → Outcome
fetch B img c k buf =
    let a : Answer = (perform B img c).answer in
    let refusal : Outcome = record { answer = a; image = img; buffer = buf } in
    cond (granted a) (fetch_store B img (stores_of B img c) k buf) refusal

-- the image after a cut behind the first j stores; a refused request has none
unfoldable pub cut : ℕ → List ℕ → Change → ℕ → List ℕ
cut B img c j = cond (granted (perform B img c).answer) (store_all B img (take j (stores_of B img c))) img

-- ---- mend: "clears exactly such bits"
-- the map with the stray bits below k clear
unfoldable pub clear_strays : ℕ → View → ℕ → List ℕ
clear_strays B v zero = v.map
clear_strays B v (suc b) = let m : List ℕ = clear_strays B v b in cond (stray B v b) (set_bit m b 0) m

unfoldable pub mended : ℕ → List ℕ → List ℕ
mended B img = cond (too_short B img) img (set_block B img 1 (clear_strays B (view B img) (view B img).n))

-- "and refuses the first other fault as the check does": what the check finds once these bits are clear
unfoldable pub mend : ℕ → List ℕ → Outcome
mend B img = checked (check B (mended B img)) (refuse img []) (record { answer = done; image = mended B img; buffer = [] })

-- ---- every request as a value
-- every request but format and mend
pub data Request : Type 0 where
  changes : Change → Request
  -- of a change the k-th store, into a buffer
  fetches : Change → ℕ → List ℕ → Request
  checks : Request
  -- name, offset and buffer
  reads : List ℕ → ℕ → List ℕ → Request
  lists : ℕ → Request
  counts : Request

-- the buffer that is lent for writing
abbrev pub lent : Request → List ℕ
lent (changes c) = []
lent (fetches c k buf) = buf
lent checks = []
lent (reads nm o buf) = buf
lent (lists s) = []
lent counts = []

-- check, list and free bytes take the image for reading only, so that it stays is in the type of their code
abbrev pub tell : List ℕ → Answer → Outcome
tell img a = record { answer = a; image = img; buffer = [] }

abbrev pub reply : ℕ → List ℕ → Request → Outcome
reply B img (changes c) = perform B img c
reply B img (fetches c k buf) = fetch B img c k buf
reply B img checks = tell img (check_answer B img)
reply B img (reads nm o buf) = read B img nm o buf
reply B img (lists s) = tell img (list_answer B img s)
reply B img counts = tell img (free_answer B img)

-- any request, format and mend too
pub data Operation : Type 0 where
  -- label
  formats : List ℕ → Operation
  mends : Operation
  requests : Request → Operation

abbrev pub operate : ℕ → List ℕ → Operation → Outcome
operate B img (formats label) = format B img label
operate B img mends = mend B img
operate B img (requests r) = reply B img r

-- "each request gets the image the last one left"
unfoldable pub after_all : ℕ → List ℕ → List Operation → List ℕ
after_all B img [] = img
after_all B img (x ∷ xs) = after_all B (operate B img x).image xs
