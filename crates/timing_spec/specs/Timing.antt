-- The pump's timing file: its bytes, and the requests store, open lid and boot, made of the requests of TFS and of what stands under the file's name.
use Rattle.std.specs.Prelude.{◌≡◌, not, cond, ℕ, ◌+◌, ◌*◌, ◌/◌, ◌%◌, ◌<◌, List, [], ◌∷◌, ◌++◌, length, get_or, take, eqb}
use Rattle.std.proofs.Math.Option.{Option, none, some}
use Rattle.lists.specs.Lists.{table, zeros, word, bytes4}
use Rattle.tfs_spec.specs.Layout.{contents}
use Rattle.tfs_spec.specs.Check.{check}
use Rattle.tfs_spec.specs.Requests.{Answer, done, refused, granted, Outcome, checked, Store, store_all, create, Change, creates, writes, perform, stores_of, fetch_store}

-- ---- the file
-- "File TIMING"
abbrev pub TIMING : List ℕ
TIMING = 84 ∷ 73 ∷ 77 ∷ 73 ∷ 78 ∷ 71 ∷ []

-- "board number (4), memory maker number (4), 28 two-byte values"
pub record Timing : Type 0 where
  pub board : ℕ
  pub maker : ℕ
  pub values : List ℕ

-- numbers of 32 bits, 28 values of 16 bits
pub record Fits (t : Timing) : Type 0 where
  pub board : t.board < 4294967296
  pub maker : t.maker < 4294967296
  pub many : length t.values ≡ 28
  pub values : (i : ℕ) → get_or t.values i 0 < 65536

-- the two bytes of a number below 2^16
abbrev pub bytes2 : ℕ → List ℕ
bytes2 n = n / 256 % 256 ∷ n % 256 ∷ []

-- numbers one after another
abbrev pub pairs : List ℕ → List ℕ
pairs [] = []
pairs (n ∷ ns) = bytes2 n ++ pairs ns

-- "64 bytes: .. all big-endian"
unfoldable pub timing_bytes : Timing → List ℕ
timing_bytes t = bytes4 t.board ++ (bytes4 t.maker ++ pairs t.values)

-- the two-byte number at index p
abbrev pub pair_at : List ℕ → ℕ → ℕ
pair_at l p = get_or l p 0 * 256 + get_or l (p + 1) 0

-- what stands in the bytes of the file
unfoldable pub timing_of : List ℕ → Timing
timing_of bytes = record { board = word bytes 0; maker = word bytes 4; values = table (λ i. pair_at bytes (8 + 2 * i)) 0 28 }

-- what stands under its name
abbrev pub standing : ℕ → List ℕ → Option (List ℕ)
standing B img = contents B img TIMING

-- "another size (35)"
abbrev pub sized : List ℕ → Answer
sized bytes = cond (eqb (length bytes) 64) done (refused 35 0)

-- ---- changes of the volume, one after another
abbrev pub after_changes : ℕ → List ℕ → List Change → List ℕ
after_changes B img [] = img
after_changes B img (c ∷ cs) = after_changes B (perform B img c).image cs

-- the image after: that of the changes where the answer is a grant
abbrev pub made : ℕ → List ℕ → Answer → List Change → Outcome
made B img a cs = record { answer = a; image = cond (granted a) (after_changes B img cs) img; buffer = [] }

-- their whole-block stores, one after another
abbrev pub all_stores : ℕ → List ℕ → List Change → List Store
all_stores B img [] = []
all_stores B img (c ∷ cs) = stores_of B img c ++ all_stores B (perform B img c).image cs

-- the k-th of these, after the request's own refusals, as TFS gives it
abbrev pub fetched : ℕ → List ℕ → Answer → List Change → ℕ → List ℕ → Outcome
fetched B img a cs k buf =
    let refusal : Outcome = record { answer = a; image = img; buffer = buf } in
    cond (granted a) (fetch_store B img (all_stores B img cs) k buf) refusal

-- the image after a cut behind the first j of them
abbrev pub cut_behind : ℕ → List ℕ → Answer → List Change → ℕ → List ℕ
cut_behind B img a cs j = cond (granted a) (store_all B img (take j (all_stores B img cs))) img

-- ---- store: "refuses board number 0 (34), another size (35), 11, 12, in that order"
-- of a file that stands its size, of one that is to be created what create refuses
abbrev pub store_room : ℕ → List ℕ → Option (List ℕ) → Answer
store_room B img none = let a : Answer = (create B img TIMING 64).answer in cond (granted a) done a
store_room B img (some bytes) = sized bytes

unfoldable pub store_answer : ℕ → List ℕ → ℕ → Answer
store_answer B img board =
    let room : Answer = store_room B img (standing B img) in
    checked (check B img) refused (cond (eqb board 0) (refused 34 0) room)

-- "creates the file if absent"; then it holds these bytes
abbrev pub store_changes : Option (List ℕ) → Timing → List Change
store_changes none t = creates TIMING 64 ∷ writes TIMING 0 (timing_bytes t) ∷ []
store_changes (some bytes) t = writes TIMING 0 (timing_bytes t) ∷ []

unfoldable pub store : ℕ → List ℕ → Timing → Outcome
store B img t = made B img (store_answer B img t.board) (store_changes (standing B img) t)

unfoldable pub store_block : ℕ → List ℕ → Timing → ℕ → List ℕ → Outcome
store_block B img t k buf = fetched B img (store_answer B img t.board) (store_changes (standing B img) t) k buf

unfoldable pub store_cut : ℕ → List ℕ → Timing → ℕ → List ℕ
store_cut B img t j = cut_behind B img (store_answer B img t.board) (store_changes (standing B img) t) j

-- ---- opening the lid: "refused 13 or 35"
abbrev pub open_room : Option (List ℕ) → Answer
open_room none = refused 13 0
open_room (some bytes) = sized bytes

unfoldable pub open_answer : ℕ → List ℕ → Answer
open_answer B img = checked (check B img) refused (open_room (standing B img))

-- "writes 0 as board number"
abbrev pub open_changes : List Change
open_changes = writes TIMING 0 (zeros 4) ∷ []

unfoldable pub open_lid : ℕ → List ℕ → Outcome
open_lid B img = made B img (open_answer B img) open_changes

unfoldable pub open_lid_block : ℕ → List ℕ → ℕ → List ℕ → Outcome
open_lid_block B img k buf = fetched B img (open_answer B img) open_changes k buf

unfoldable pub open_lid_cut : ℕ → List ℕ → ℕ → List ℕ
open_lid_cut B img j = cut_behind B img (open_answer B img) open_changes j

-- ---- boot: what it answers, and the values
pub record Booted : Type 0 where
  pub answer : Answer
  pub values : List ℕ

-- "and the values, returned and not lent, are zeros"
abbrev pub not_booted : ℕ → ℕ → Booted
not_booted num p = record { answer = refused num p; values = zeros 28 }

abbrev pub booted : List ℕ → Booted
booted values = record { answer = done; values = values }

-- "the first that fails is refused (13, 35, 34, 36 board, 37 maker)"
unfoldable pub boot_on : Option (List ℕ) → ℕ → ℕ → Booted
boot_on none board maker = not_booted 13 0
boot_on (some bytes) board maker =
    let t : Timing = timing_of bytes in
    cond (not (eqb (length bytes) 64)) (not_booted 35 0)
    (cond (eqb t.board 0) (not_booted 34 0)
    (cond (not (eqb t.board board)) (not_booted 36 0)
    (cond (not (eqb t.maker maker)) (not_booted 37 0) (booted t.values))))

-- it takes the image for reading only
unfoldable pub boot : ℕ → List ℕ → ℕ → ℕ → Booted
boot B img board maker = checked (check B img) not_booted (boot_on (standing B img) board maker)
