-- What the pump's requests mean, in plain facts, and what holds after any list of requests and after a power cut.
use Rattle.std.specs.Prelude.{◌≡◌, ◌≢◌, ◌↔◌, ◌⊎◌, ℕ, zero, suc, ◌+◌, ◌-◌, ◌*◌, ◌<◌, ◌≤◌, List, [], ◌∷◌, ◌++◌, length, get_or, take, drop, T}
use Rattle.std.proofs.Math.Option.{Option, none, some, map}
use Rattle.lists.specs.Lists.{zeros}
use Rattle.tfs_spec.specs.Layout.{BlockSize, need, blocks, set_block, same_name, View, view, contents, free_blocks}
use Rattle.tfs_spec.specs.Consistent.{Bytes, number_at, Consistent, FirstBroken}
use Rattle.tfs_spec.specs.Requests.{Answer, done, value, refused, granted, count_of, Outcome, refuse, Store, creates, writes, stores_of, kth, mend}
use Rattle.tfs_spec.specs.Requests as tfs
use Rattle.tfs_spec.specs.Answers.{Vacant}
use Rattle.tfs_spec.specs.Effects.{change}
use Rattle.timing_spec.specs.Timing.{TIMING, Timing, Fits, timing_bytes, timing_of, standing, all_stores, store_changes, store, store_block, store_cut, open_changes, open_lid, open_lid_block, open_lid_cut, Booted, not_booted, booted, boot}
use Rattle.timing_spec.specs.Histories.{Event, after_events, Each, NotFilled, NotChanged}

-- ---- the file's bytes
pub record FormLaws : Type 0 where
  -- "is 64 bytes: board number (4), memory maker number (4), 28 two-byte values, all big-endian"
  pub long : (t : Timing) → Fits t → length (timing_bytes t) ≡ 64
  pub bytes : (t : Timing) → Fits t → Bytes (timing_bytes t)
  pub board : (t : Timing) → Fits t → number_at (timing_bytes t) 0 ≡ t.board
  pub maker : (t : Timing) → Fits t → number_at (timing_bytes t) 4 ≡ t.maker
  pub value : (t : Timing) → Fits t → (i : ℕ) → i < 28 → get_or (timing_bytes t) (8 + 2 * i) 0 * 256 + get_or (timing_bytes t) (9 + 2 * i) 0 ≡ get_or t.values i 0
  -- and what is read from them is what was put there
  pub back : (t : Timing) → Fits t → timing_of (timing_bytes t) ≡ t

-- ---- on a volume that is not consistent, each gives the first fault and its place, and boot zeros
pub record FaultLaws (B : ℕ) (img : List ℕ) (num p : ℕ) : Type 0 where
  pub store : (t : Timing) → store B img t ≡ refuse img [] num p
  pub open-lid : open_lid B img ≡ refuse img [] num p
  pub boot : (board maker : ℕ) → boot B img board maker ≡ not_booted num p
  pub store-block : (t : Timing) (k : ℕ) (buf : List ℕ) → store_block B img t k buf ≡ refuse img buf num p
  pub open-lid-block : (k : ℕ) (buf : List ℕ) → open_lid_block B img k buf ≡ refuse img buf num p

-- ---- which answer each gives on a consistent volume: one table each, of what stands under TIMING
pub data StoreRule (B : ℕ) (v : View) (old : Option (List ℕ)) (board : ℕ) : Answer → Type 0 where
  -- "refuses board number 0 (34), another size (35), 11, 12, in that order"
  no-board : board ≡ 0 → StoreRule B v old board (refused 34 0)
  other-size : (bytes : List ℕ) → board ≢ 0 → old ≡ some bytes → length bytes ≢ 64 → StoreRule B v old board (refused 35 0)
  no_slot : board ≢ 0 → old ≡ none → ((s : ℕ) → Vacant B v s → ⊥) → StoreRule B v old board (refused 11 0)
  no_room : (s : ℕ) → board ≢ 0 → old ≡ none → Vacant B v s → free_blocks v < 1 + need B 64 → StoreRule B v old board (refused 12 0)
  replaced : (bytes : List ℕ) → board ≢ 0 → old ≡ some bytes → length bytes ≡ 64 → StoreRule B v old board done
  -- "creates the file if absent"
  created : (s : ℕ) → board ≢ 0 → old ≡ none → Vacant B v s → 1 + need B 64 ≤ free_blocks v → StoreRule B v old board done

pub data OpenRule (old : Option (List ℕ)) : Answer → Type 0 where
  -- "refused 13 or 35"
  absent : old ≡ none → OpenRule old (refused 13 0)
  other-size : (bytes : List ℕ) → old ≡ some bytes → length bytes ≢ 64 → OpenRule old (refused 35 0)
  opened : (bytes : List ℕ) → old ≡ some bytes → length bytes ≡ 64 → OpenRule old done

pub data BootRule (old : Option (List ℕ)) (board maker : ℕ) : Booted → Type 0 where
  -- "the first that fails is refused (13, 35, 34, 36 board, 37 maker)"
  absent : old ≡ none → BootRule old board maker (not_booted 13 0)
  other-size : (bytes : List ℕ) → old ≡ some bytes → length bytes ≢ 64 → BootRule old board maker (not_booted 35 0)
  no-board : (bytes : List ℕ) → old ≡ some bytes → length bytes ≡ 64 → number_at bytes 0 ≡ 0 → BootRule old board maker (not_booted 34 0)
  other-board : (bytes : List ℕ) → old ≡ some bytes → length bytes ≡ 64 → number_at bytes 0 ≢ 0 → number_at bytes 0 ≢ board → BootRule old board maker (not_booted 36 0)
  other-maker : (bytes : List ℕ) → old ≡ some bytes → length bytes ≡ 64 → number_at bytes 0 ≢ 0 → number_at bytes 0 ≡ board → number_at bytes 4 ≢ maker → BootRule old board maker (not_booted 37 0)
  -- "gives the values exactly if the file stands, has 64 bytes, its board number is not 0, and both numbers equal the ones given"
  both : (bytes values : List ℕ) → old ≡ some bytes → length bytes ≡ 64 → number_at bytes 0 ≢ 0 → number_at bytes 0 ≡ board → number_at bytes 4 ≡ maker → length values ≡ 28 → ((i : ℕ) → i < 28 → get_or values i 0 ≡ get_or bytes (8 + 2 * i) 0 * 256 + get_or bytes (9 + 2 * i) 0) → BootRule old board maker (booted values)

pub record RuleLaws (B : ℕ) (img : List ℕ) : Type 0 where
  pub storing : (t : Timing) (a : Answer) → ((store B img t).answer ≡ a) ↔ StoreRule B (view B img) (standing B img) t.board a
  pub opening : (a : Answer) → ((open_lid B img).answer ≡ a) ↔ OpenRule (standing B img) a
  pub booting : (board maker : ℕ) (x : Booted) → (boot B img board maker ≡ x) ↔ BootRule (standing B img) board maker x

-- ---- what they do
pub record EffectLaws (B : ℕ) (img : List ℕ) : Type 0 where
  -- a refusal changes nothing
  pub store_keeps : (t : Timing) → (T (granted (store B img t).answer) → ⊥) → (store B img t).image ≡ img
  pub open-keeps : (T (granted (open_lid B img).answer) → ⊥) → (open_lid B img).image ≡ img
  -- wherever boot is refused "the values .. are zeros", 28 of them
  pub boot-zeros : (board maker : ℕ) → (T (granted (boot B img board maker).answer) → ⊥) → (length (boot B img board maker).values ≡ 28) × ((i : ℕ) → get_or (boot B img board maker).values i 0 ≡ 0)
  -- granted, "the file holds exactly these bytes", and every other name has what it had
  pub stored : (t : Timing) → Fits t → T (granted (store B img t).answer) → (j : List ℕ) → contents B (store B img t).image j ≡ change TIMING (λ old. some (timing_bytes t)) (contents B img) j
  -- "Opening the lid writes 0 as board number", the other 60 bytes and every other name have what they had
  pub opened : T (granted (open_lid B img).answer) → (j : List ℕ) → contents B (open_lid B img).image j ≡ change TIMING (map (λ old. zeros 4 ++ drop 4 old)) (contents B img) j

-- ---- lists of requests
-- no values are given
abbrev pub NoValues : Booted → Type 0
NoValues x = (num : ℕ) × (p : ℕ) × (x ≡ not_booted num p)

-- a file that has no values for anybody: it is absent, of another size, or has board number 0
abbrev pub Unset : Option (List ℕ) → Type 0
Unset none = Unit {0}
Unset (some bytes) = (length bytes ≢ 64) ⊎ (number_at bytes 0 ≡ 0)

-- of every image, consistent or not; power cuts with the mends after them are in the lists too
pub record ListLaws (B : ℕ) (img : List ℕ) : Type 0 where
  pub consistent : Consistent B img → (xs : List Event) → Consistent B (after_events B img xs)
  -- from such a file no boot gets values until a store is granted or the file is written by its name
  pub unset : Unset (standing B img) → (xs : List Event) → Each B (NotFilled B) img xs → (board maker : ℕ) → NoValues (boot B (after_events B img xs) board maker)
  -- "After a granted opening no boot gets values until the next granted store, whatever requests on other names come between"
  pub opened : T (granted (open_lid B img).answer) → (xs : List Event) → Each B (NotFilled B) (open_lid B img).image xs → (board maker : ℕ) → NoValues (boot B (after_events B (open_lid B img).image xs) board maker)
  -- what stands under TIMING is left by all requests on other names
  pub same : (xs : List Event) → Each B (NotChanged B) img xs → standing B (after_events B img xs) ≡ standing B img
  -- "After a granted store a boot with its numbers gets its values, if only requests on other names and no format came between"
  pub stored : (t : Timing) → Fits t → T (granted (store B img t).answer) → (xs : List Event) → Each B (NotChanged B) (store B img t).image xs → boot B (after_events B (store B img t).image xs) t.board t.maker ≡ booted t.values
  -- and one with another board or maker none
  pub others : (t : Timing) → Fits t → T (granted (store B img t).answer) → (xs : List Event) → Each B (NotChanged B) (store B img t).image xs → (board maker : ℕ) → (board ≢ t.board) ⊎ (maker ≢ t.maker) → NoValues (boot B (after_events B (store B img t).image xs) board maker)

-- ---- power taken in a store or an opening of a consistent volume
-- a chip that held img, after the caller has stored to it what he fetched for k from 1 to j: the block of the answer's number, and the start of the buffer
abbrev pub driven : ℕ → List ℕ → (ℕ → Outcome) → ℕ → List ℕ
driven B img fetch zero = img
driven B img fetch (suc j) = let o : Outcome = fetch (suc j) in set_block B (driven B img fetch j) (count_of o.answer) (take B o.buffer)

-- the stores xs of a request with this answer and this image after it; what is fetched of them, and the image after a cut behind the first j
pub record Series (B : ℕ) (img : List ℕ) (own : Answer) (after : List ℕ) (xs : List Store) (fetch : ℕ → List ℕ → Outcome) (cut : ℕ → List ℕ) : Type 0 where
  -- "After the request's own refusals"; a refused request has no stores
  pub refused : (T (granted own) → ⊥) → (k : ℕ) (buf : List ℕ) → fetch k buf ≡ record { answer = own; image = img; buffer = buf }
  pub uncut : (T (granted own) → ⊥) → (j : ℕ) → cut j ≡ img
  -- "a k of 0 or past the last, or a buffer under one block, is refused 32"
  pub unfetched : T (granted own) → (k : ℕ) (buf : List ℕ) → (k ≡ 0) ⊎ ((length xs < k) ⊎ (length buf < B)) → fetch k buf ≡ refuse img buf 32 0
  -- "its block number, and its bytes into the start of a lent buffer. The image stays"
  pub fetched : T (granted own) → (k : ℕ) (buf : List ℕ) → 1 ≤ k → k ≤ length xs → B ≤ length buf → fetch k buf ≡ record { answer = value (kth k xs).at; image = img; buffer = (kth k xs).bytes ++ drop B buf }
  -- whole blocks of the volume
  pub inside : T (granted own) → (k : ℕ) → 1 ≤ k → k ≤ length xs → (kth k xs).at < blocks B img
  pub full : T (granted own) → (k : ℕ) → 1 ≤ k → k ≤ length xs → length (kth k xs).bytes ≡ B
  -- a cut is what a chip holds that was driven so far with what is fetched, whatever stood in the buffers; behind the last store it is the request
  pub chip : T (granted own) → (buf : ℕ → List ℕ) → ((k : ℕ) → B ≤ length (buf k)) → (j : ℕ) → j ≤ length xs → driven B img (λ k. fetch k (buf k)) j ≡ cut j
  pub whole : T (granted own) → (j : ℕ) → length xs ≤ j → cut j ≡ after

-- of new, left by a cut: mend is granted, and then every other file is as in img
pub record Mended (B : ℕ) (img new : List ℕ) : Type 0 where
  pub mends : (mend B new).answer ≡ done
  pub consistent : Consistent B (mend B new).image
  pub others : (nm : List ℕ) → (T (same_name nm TIMING) → ⊥) → contents B (mend B new).image nm ≡ contents B img nm

-- what a cut store leaves under TIMING: what stood there, the new bytes, or, where it is being created, zeros
pub data Left (B : ℕ) (img : List ℕ) (t : Timing) : Option (List ℕ) → Type 0 where
  old : Left B img t (standing B img)
  new : Left B img t (some (timing_bytes t))
  blank : standing B img ≡ none → Left B img t (some (zeros 64))

pub record PowerLaws (B : ℕ) (img : List ℕ) : Type 0 where
  -- what is fetched of a store's series, and its cuts
  pub store-series : (t : Timing) → Fits t → Series B img (store B img t).answer (store B img t).image (all_stores B img (store_changes (standing B img) t)) (store_block B img t) (store_cut B img t)
  -- to a file that stands it is that of the write, one store; where the file is created the four of the create, and then its first block again, with the bytes and zeros behind them
  pub store-over : (t : Timing) → Fits t → standing B img ≢ none → all_stores B img (store_changes (standing B img) t) ≡ stores_of B img (writes TIMING 0 (timing_bytes t))
  pub store-new : (t : Timing) → Fits t → T (granted (store B img t).answer) → standing B img ≡ none → all_stores B img (store_changes (standing B img) t) ≡ stores_of B img (creates TIMING 64) ++ (tfs.store (kth 1 (stores_of B img (creates TIMING 64))).at (timing_bytes t ++ zeros (B - 64)) ∷ [])
  pub store-one : (t : Timing) → Fits t → T (granted (store B img t).answer) → standing B img ≢ none → length (all_stores B img (store_changes (standing B img) t)) ≡ 1
  pub store-five : (t : Timing) → Fits t → T (granted (store B img t).answer) → standing B img ≡ none → length (all_stores B img (store_changes (standing B img) t)) ≡ 5
  -- the same of an opening: that of its write
  pub open-series : Series B img (open_lid B img).answer (open_lid B img).image (all_stores B img open_changes) (open_lid_block B img) (open_lid_cut B img)
  pub open-over : all_stores B img open_changes ≡ stores_of B img (writes TIMING 0 (zeros 4))
  pub open-one : T (granted (open_lid B img).answer) → length (all_stores B img open_changes) ≡ 1
  -- cut anywhere, then mended: every other file is as before
  pub store-mended : (t : Timing) → Fits t → (j : ℕ) → Mended B img (store_cut B img t j)
  pub open-mended : (j : ℕ) → Mended B img (open_lid_cut B img j)
  pub store-leaves : (t : Timing) → Fits t → (j : ℕ) → Left B img t (standing B (mend B (store_cut B img t j)).image)
  -- and a boot gets what it got before, or what it gets after the store, or a refusal: "never a mixture"
  pub store-boots : (t : Timing) → Fits t → (j board maker : ℕ) → (boot B (mend B (store_cut B img t j)).image board maker ≡ boot B img board maker) ⊎ ((boot B (mend B (store_cut B img t j)).image board maker ≡ boot B (store B img t).image board maker) ⊎ NoValues (boot B (mend B (store_cut B img t j)).image board maker))
  -- after a cut opening the old values or none
  pub open-boots : (j board maker : ℕ) → (boot B (mend B (open_lid_cut B img j)).image board maker ≡ boot B img board maker) ⊎ NoValues (boot B (mend B (open_lid_cut B img j)).image board maker)
  -- an opening, or a store, that was cut is granted again
  pub open-again : T (granted (open_lid B img).answer) → (j : ℕ) → T (granted (open_lid B (mend B (open_lid_cut B img j)).image).answer)
  pub store-again : (t : Timing) → Fits t → T (granted (store B img t).answer) → (j : ℕ) → T (granted (store B (mend B (store_cut B img t j)).image t).answer)

-- ---- all statements, each with its premises; timing_proofs/specs/Proved.antt proves each
pub record Statements : Type 0 where
  pub form-laws : FormLaws
  -- of every image
  pub fault-laws : (B : ℕ) → BlockSize B → (img : List ℕ) (num p : ℕ) → FirstBroken B img num p → FaultLaws B img num p
  pub effect-laws : (B : ℕ) → BlockSize B → (img : List ℕ) → EffectLaws B img
  pub list-laws : (B : ℕ) → BlockSize B → (img : List ℕ) → ListLaws B img
  -- of consistent volumes
  pub rule-laws : (B : ℕ) → BlockSize B → (img : List ℕ) → Consistent B img → RuleLaws B img
  pub power-laws : (B : ℕ) → BlockSize B → (img : List ℕ) → Consistent B img → PowerLaws B img
