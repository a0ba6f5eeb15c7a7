-- The starred cases: what the definitions give on them, in one table, and that it is the table written out.
use Rattle.std.specs.Prelude.{◌≡◌, false, cond, ℕ, ◌*◌, ◌≤◌, ◌<◌, List, [], ◌∷◌, length, ltb}
use Rattle.std.proofs.Math.Path.{refl}
use Rattle.std.proofs.Common.{ap, ◌∙◌, lit<, lit≤}
use native.Mathlib.Omega.{arith}
use Rattle.std.proofs.Math.Dec.{ltb→lt}
use Rattle.list_laws.specs.Test.{to-false}
use Rattle.lists.specs.Lists.{least, sum, zeros, zero_at, first_zero, up_to_zero, word, words, bit_of, with_bit, part, with_part}
use Rattle.tfs_spec.specs.Layout.{need, blocks, block, set_block, map_bit, set_bit, slot, set_slot, slot_inode, slot_name, slot_free, name_formed, slot_used, same_name, entry, inode_size, inode_number, inode_block, label_allowed, name_allowed, inode_at, view_n, view, free, used, inode, name, size, number, slot_of, free_slot, free_blocks, View}
use Rattle.tfs_spec.specs.Check.{consistent, too_short, bad_magic, bad_label, repeats, bad_slot, bad_number, bad_inode, file_claims, claims_to, claims, check_view, check}
use Rattle.tfs_facts.specs.Stores.{Fits, length-store_all}
use Rattle.romfs_spec.specs.Layout.{full_size, name_length, name_ends, after_name, first_root, type_of_file, executable, next, info, content_at, end_of, own, is_dots, descends, has_list, has_data, sum_of_words}
use Rattle.romfs_spec.specs.Layout as romfs
use Rattle.romfs_spec.specs.Check.{bad_full_size, bad_volume_sum, bad_volume_name, over_bound, bad_name, bad_sum, bad_info, bad_size, bad_header, bad_next, bad_first, bad_nesting, too_deep, fault, visit_list, visit_entry, visit_all, walk, leads, towards, seek, is_reached, bad_link, links, volume, check as rom_check}
use Rattle.romfs_spec.specs.Check as rom
use Rattle.romfs_spec.specs.Requests.{granted, first_of, match_from, match_in, is_directory, find_step, find, Entry, entry_at, entry_step, content_step, content_length}
use Rattle.romfs_spec.specs.Requests as requests
use Rattle.tfs_spec.specs.Requests.{Answer, done, value, transferred, unused, file, refused, Outcome, Store, store_all, format_stores, format, free_from, chosen, place_stores, create_stores, create_view, stored, create, refuse, Lookup, in_slot, denied, lookup, looked, counted, blocks_met, transfer_answer, read_file, read, write_file, write, free_answer}

-- the names, as bytes
abbrev PUMP : List ℕ
PUMP = 0x50 ∷ 0x55 ∷ 0x4D ∷ 0x50 ∷ []

abbrev TIMING : List ℕ
TIMING = 0x54 ∷ 0x49 ∷ 0x4D ∷ 0x49 ∷ 0x4E ∷ 0x47 ∷ []

-- an answer as a row of the table
abbrev pub code : Answer → List ℕ
code done = 0 ∷ []
code (value x) = 1 ∷ x ∷ []
code (transferred c m) = 5 ∷ c ∷ m ∷ []
code unused = 2 ∷ []
code (file nm i z) = 3 ∷ i ∷ z ∷ nm
code (refused num p) = 4 ∷ num ∷ p ∷ []

-- romfs, 64 bytes: volume "V", empty regular file "a"
abbrev ROM : List ℕ
ROM = words (0x2D726F6D ∷ 0x3166732D ∷ 0x40 ∷ 0x4B271D26 ∷ 0x56000000 ∷ 0 ∷ 0 ∷ 0 ∷ 0x02 ∷ 0 ∷ 0 ∷ 0x9EFFFFFE ∷ 0x61000000 ∷ 0 ∷ 0 ∷ 0 ∷ [])

-- a verdict on a romfs image as a row
abbrev pub rom_code : rom.Verdict → List ℕ
rom_code rom.accepted = 0 ∷ []
rom_code (rom.broken num p) = 4 ∷ num ∷ p ∷ []

-- an offset or a length that a romfs request answers, as a row
abbrev pub number_code : requests.Answer ℕ → List ℕ
number_code (granted n) = 1 ∷ n ∷ []
number_code (requests.refused num p) = 4 ∷ num ∷ p ∷ []

-- an entry that it answers, as a row: type, executable, spec.info, size, next and name length
abbrev pub entry_code : requests.Answer Entry → List ℕ
entry_code (granted e) = 3 ∷ e.type_of_file ∷ e.executable ∷ e.info ∷ e.size ∷ e.next ∷ e.name_length ∷ []
entry_code (requests.refused num p) = 4 ∷ num ∷ p ∷ []

-- what the definitions give: an image of 128 blocks, one of 131 and one of 130, a buffer to read into and one to write from
unfoldable pub computed : (img a b into from : List ℕ) → List (List ℕ)
computed img a b into from =
    let f : Outcome = format 512 img PUMP in
    let c : Outcome = create 512 f.image TIMING 1000 in
    -- format 65,536 bytes as "PUMP": blocks 0 and 1, free bytes
    code f.answer
    ∷ block 512 f.image 0
    ∷ block 512 f.image 1
    ∷ code (free_answer 512 f.image)
    -- then create "TIMING", 1,000: inode number, map, slot 0, inode, free bytes
    ∷ code c.answer
    ∷ block 512 c.image 1
    ∷ slot (block 512 c.image 2) 0
    ∷ block 512 c.image 3
    ∷ code (free_answer 512 c.image)
    -- read 200 of "TIMING" at 900, 1,000 and 1,001; write 30 at 990
    ∷ code (read 512 c.image TIMING 900 into).answer
    ∷ code (read 512 c.image TIMING 1000 into).answer
    ∷ code (read 512 c.image TIMING 1001 into).answer
    ∷ code (write 512 c.image TIMING 990 from).answer
    -- blocks 31 and 32 in a map, written and read
    ∷ set_bit (zeros 512) 31 1
    ∷ set_bit (zeros 512) 32 1
    ∷ (cond (map_bit (0x80 ∷ zeros 511) 31) 1 0 ∷ [])
    ∷ (cond (map_bit (0x00 ∷ 0x00 ∷ 0x00 ∷ 0x00 ∷ 0x00 ∷ 0x00 ∷ 0x00 ∷ 0x01 ∷ zeros 504) 32) 1 0 ∷ [])
    -- create 65,024 in an empty volume, N = 131 and N = 130
    ∷ code (create 512 (format 512 a PUMP).image TIMING 65024).answer
    ∷ code (create 512 (format 512 b PUMP).image TIMING 65024).answer
    -- the romfs image: accepted; volume "V"; "a" found in the root list; its entry, an empty regular file; the length of its content
    ∷ rom_code (rom_check ROM)
    ∷ part 16 (name_length ROM 16) ROM
    ∷ number_code (find ROM 0 (0x61 ∷ []))
    ∷ entry_code (requests.entry ROM 32)
    ∷ number_code (content_length ROM 32)
    ∷ []

-- the same rows written out
unfoldable pub expected : List (List ℕ)
expected =
    code done
    ∷ (0x00 ∷ 0x00 ∷ 0x0E ∷ 0xA1 ∷ 0x50 ∷ 0x55 ∷ 0x4D ∷ 0x50 ∷ zeros 504)
    ∷ (0x00 ∷ 0x00 ∷ 0x00 ∷ 0x07 ∷ zeros 508)
    ∷ code (value 64000)
    ∷ code (value 3)
    ∷ (0x00 ∷ 0x00 ∷ 0x00 ∷ 0x3F ∷ zeros 508)
    ∷ (0x00 ∷ 0x00 ∷ 0x00 ∷ 0x03 ∷ 0x54 ∷ 0x49 ∷ 0x4D ∷ 0x49 ∷ 0x4E ∷ 0x47 ∷ zeros 10)
    ∷ (0x00 ∷ 0x00 ∷ 0x03 ∷ 0xE8 ∷ 0x00 ∷ 0x00 ∷ 0x00 ∷ 0x04 ∷ 0x00 ∷ 0x00 ∷ 0x00 ∷ 0x05 ∷ zeros 500)
    ∷ code (value 62464)
    ∷ code (transferred 100 1)
    ∷ code (transferred 0 0)
    ∷ code (refused 15 0)
    ∷ code (transferred 10 1)
    ∷ (0x80 ∷ zeros 511)
    ∷ (0x00 ∷ 0x00 ∷ 0x00 ∷ 0x00 ∷ 0x00 ∷ 0x00 ∷ 0x00 ∷ 0x01 ∷ zeros 504)
    ∷ (1 ∷ [])
    ∷ (1 ∷ [])
    ∷ code (value 3)
    ∷ code (refused 12 0)
    ∷ rom_code rom.accepted
    ∷ (0x56 ∷ [])
    ∷ number_code (granted 32)
    ∷ entry_code (granted (record { type_of_file = 2; executable = 0; info = 0; size = 0; next = 0; name_length = 1 }))
    ∷ number_code (granted 0)
    ∷ []

-- ---- the images after format and create
formatted : List ℕ → List ℕ
formatted img = store_all 512 img (format_stores 512 PUMP)

made : List ℕ → List ℕ
made img = store_all 512 (formatted img) (create_stores 512 (view_n 512 128 (formatted img)) TIMING 1000)

-- the definitions that are computed on them: `unfolding computing` opens them all
computing : Unit {0}
unfolding least sum zero_at first_zero up_to_zero word bit_of with_bit part with_part need block set_block map_bit set_bit slot set_slot slot_inode slot_name slot_free name_formed slot_used same_name entry inode_size inode_number inode_block label_allowed name_allowed inode_at view_n free used inode name size number slot_of free_slot free_blocks bad_magic bad_label repeats bad_slot bad_number bad_inode file_claims claims_to claims check_view format_stores free_from chosen place_stores create_stores create_view lookup counted blocks_met transfer_answer formatted made
computing = tt

-- .. and those that are computed on the romfs image
computing-rom : Unit {0}
unfolding least word part full_size zero_at name_length name_ends after_name first_root type_of_file executable next info romfs.size romfs.name content_at end_of own is_dots descends has_list has_data sum_of_words rom.too_short rom.bad_magic bad_full_size bad_volume_sum bad_volume_name over_bound bad_name bad_sum bad_info bad_size bad_header bad_next bad_first bad_nesting too_deep fault visit_list visit_entry visit_all walk leads towards seek is_reached bad_link links volume rom_check first_of match_from match_in is_directory find_step find entry_at entry_step requests.entry content_step content_length
computing-rom = tt

-- ---- an image of n blocks, and such a volume
record Image (n : ℕ) (img : List ℕ) : Type 0 where
  low : 3 ≤ n
  high : n ≤ 4096
  whole : length img ≡ n * 512

record Volume (n : ℕ) (img : List ℕ) : Type 0 where
  image : Image n img
  sound : check_view 512 (view_n 512 n img) ≡ consistent

module _ {n : ℕ} {img : List ℕ} (g : Image n img) where
  blocks-are : blocks 512 img ≡ n
  unfolding blocks
  blocks-are = omega arith

  long : too_short 512 img ≡ false
  unfolding too_short
  long = to-false (ltb (length img) 1536) (λ t. omega (arith, ltb→lt (length img) 1536 t))

  format-is : format 512 img PUMP ≡ record { answer = done; image = formatted img; buffer = [] }
  unfolding format computing
  format-is = rw long

-- what read and write answer, by the view
abbrev transfer_of : View → List ℕ → ℕ → ℕ → Answer
transfer_of v nm o len = looked (lookup 512 v nm) refused (λ s. transfer_answer 512 v s o len)

-- the requests on a volume
module _ {n : ℕ} {img : List ℕ} (v : Volume n img) where
  passes : check 512 img ≡ consistent
  unfolding check view
  passes = rw (long v.image, blocks-are v.image) v.sound

  create-is : (nm : List ℕ) (sz : ℕ) → create 512 img nm sz ≡ stored 512 img (create_view 512 (view_n 512 n img) nm sz) (create_stores 512 (view_n 512 n img) nm sz)
  unfolding create view
  create-is nm sz = rw (passes, blocks-are v.image)

  view-is : view 512 img ≡ view_n 512 n img
  unfolding view
  view-is = rw (blocks-are v.image)

  read_is : (nm : List ℕ) (o k : ℕ) (buf : List ℕ) → length buf ≡ k → (read 512 img nm o buf).answer ≡ transfer_of (view_n 512 n img) nm o k
  unfolding read
  read_is nm o k buf e = rw passes (go (lookup 512 (view 512 img) nm) ∙ λ i. transfer_of (view-is i) nm o (e i))
    where
      go : (x : Lookup) → (looked x (refuse img buf) (λ s. read_file 512 img s o buf)).answer ≡ looked x refused (λ s. transfer_answer 512 (view 512 img) s o (length buf))
      go (in_slot s) = refl
      go (denied num) = refl

  write-is : (nm : List ℕ) (o k : ℕ) (buf : List ℕ) → length buf ≡ k → (write 512 img nm o buf).answer ≡ transfer_of (view_n 512 n img) nm o k
  unfolding write
  write-is nm o k buf e = rw passes (go (lookup 512 (view 512 img) nm) ∙ λ i. transfer_of (view-is i) nm o (e i))
    where
      go : (x : Lookup) → (looked x (refuse img []) (λ s. write_file 512 img s o buf)).answer ≡ looked x refused (λ s. transfer_answer 512 (view 512 img) s o (length buf))
      go (in_slot s) = refl
      go (denied num) = refl

  free-is : free_answer 512 img ≡ value (512 * free_blocks (view_n 512 n img))
  unfolding free_answer view
  free-is = rw (passes, blocks-are v.image)

-- ---- stores of whole blocks below n
abbrev Blocks : ℕ → List Store → Type 0
Blocks n [] = Unit {0}
Blocks n (x ∷ xs) = (x.at < n) × (length x.bytes ≡ 512) × Blocks n xs

blocks-fit : (n : ℕ) (xs : List Store) → Blocks n xs → Fits 512 (n * 512) xs
blocks-fit n [] w = tt
blocks-fit n (x ∷ xs) w = (w.1, (omega (arith, w.0), blocks-fit n xs w.2))

image-stored : {n : ℕ} (img : List ℕ) (xs : List Store) → Image n img → Blocks n xs → Image n (store_all 512 img xs)
image-stored {n} img xs g w =
    record { low = g.low; high = g.high; whole = length-store_all 512 xs img (rw g.whole (blocks-fit n xs w)) ∙ g.whole }

-- ---- the volume just formatted
module _ {n : ℕ} {img : List ℕ} (g : Image n img) where
  image-formatted : Image n (formatted img)
  unfolding computing
  image-formatted = image-stored img (format_stores 512 PUMP) g (omega arith, refl {a = 512}, (omega arith, refl {a = 512}, (omega arith, refl {a = 512}, tt)))

  -- where it passes the check: free bytes and create
  module _ (ok : check_view 512 (view_n 512 n (formatted img)) ≡ consistent) where
    empty : Volume n (formatted img)
    empty = record { image = image-formatted; sound = ok }

    free-empty : free_answer 512 (format 512 img PUMP).image ≡ value (512 * free_blocks (view_n 512 n (formatted img)))
    free-empty = ap (λ (f : Outcome). free_answer 512 f.image) (format-is g) ∙ free-is empty

    created : (sz : ℕ) → create 512 (format 512 img PUMP).image TIMING sz ≡ stored 512 (formatted img) (create_view 512 (view_n 512 n (formatted img)) TIMING sz) (create_stores 512 (view_n 512 n (formatted img)) TIMING sz)
    created sz = ap (λ (f : Outcome). create 512 f.image TIMING sz) (format-is g) ∙ create-is empty TIMING sz

-- ---- the volume with the file
module _ {img : List ℕ} (g : Image 128 img) where
  is_made : create 512 (format 512 img PUMP).image TIMING 1000 ≡ record { answer = value 3; image = made img; buffer = [] }
  unfolding computing
  is_made = created g refl 1000

  filled : Volume 128 (made img)
  unfolding computing
  filled = record {
    image = image-stored (formatted img) (create_stores 512 (view_n 512 128 (formatted img)) TIMING 1000) (image-formatted g)
        (lit< tt, refl {a = 512}, (lit< tt, refl {a = 512}, (lit< tt, refl {a = 512}, (lit< tt, refl {a = 512}, (lit< tt, refl {a = 512}, tt)))));
    sound = refl;
  }

  free-made : free_answer 512 (create 512 (format 512 img PUMP).image TIMING 1000).image ≡ value (512 * free_blocks (view_n 512 128 (made img)))
  free-made = ap (λ (c : Outcome). free_answer 512 c.image) is_made ∙ free-is filled

  read_made : (o k : ℕ) (buf : List ℕ) → length buf ≡ k → (read 512 (create 512 (format 512 img PUMP).image TIMING 1000).image TIMING o buf).answer ≡ transfer_of (view_n 512 128 (made img)) TIMING o k
  read_made o k buf e = ap (λ (c : Outcome). (read 512 c.image TIMING o buf).answer) is_made ∙ read_is filled TIMING o k buf e

  write-made : (o k : ℕ) (buf : List ℕ) → length buf ≡ k → (write 512 (create 512 (format 512 img PUMP).image TIMING 1000).image TIMING o buf).answer ≡ transfer_of (view_n 512 128 (made img)) TIMING o k
  write-made o k buf e = ap (λ (c : Outcome). (write 512 c.image TIMING o buf).answer) is_made ∙ write-is filled TIMING o k buf e

-- every row of the table at once, for any images and buffers of these lengths
pub starred : (img a b into from : List ℕ) → length img ≡ 65536 → length a ≡ 67072 → length b ≡ 66560 → length into ≡ 200 → length from ≡ 30 → computed img a b into from ≡ expected
unfolding computed expected computing computing-rom
starred img a b into from len len-a len-b len-into len-from =
    let g : Image 128 img = record { low = lit≤ tt; high = lit≤ tt; whole = len } in
    let g-a : Image 131 a = record { low = lit≤ tt; high = lit≤ tt; whole = len-a } in
    let g-b : Image 130 b = record { low = lit≤ tt; high = lit≤ tt; whole = len-b } in
    λ i.
    code (format-is g i).answer
    ∷ block 512 (format-is g i).image 0
    ∷ block 512 (format-is g i).image 1
    ∷ code (free-empty g refl i)
    ∷ code (is_made g i).answer
    ∷ block 512 (is_made g i).image 1
    ∷ slot (block 512 (is_made g i).image 2) 0
    ∷ block 512 (is_made g i).image 3
    ∷ code (free-made g i)
    ∷ code (read_made g 900 200 into len-into i)
    ∷ code (read_made g 1000 200 into len-into i)
    ∷ code (read_made g 1001 200 into len-into i)
    ∷ code (write-made g 990 30 from len-from i)
    ∷ set_bit (zeros 512) 31 1
    ∷ set_bit (zeros 512) 32 1
    ∷ (cond (map_bit (0x80 ∷ zeros 511) 31) 1 0 ∷ [])
    ∷ (cond (map_bit (0x00 ∷ 0x00 ∷ 0x00 ∷ 0x00 ∷ 0x00 ∷ 0x00 ∷ 0x00 ∷ 0x01 ∷ zeros 504) 32) 1 0 ∷ [])
    ∷ code (created g-a refl 65024 i).answer
    ∷ code (created g-b refl 65024 i).answer
    ∷ rom_code (rom_check ROM)
    ∷ part 16 (name_length ROM 16) ROM
    ∷ number_code (find ROM 0 (0x61 ∷ []))
    ∷ entry_code (requests.entry ROM 32)
    ∷ number_code (content_length ROM 32)
    ∷ []
