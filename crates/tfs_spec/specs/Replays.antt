-- Replay of a trace on a volume: its requests one after another, each with the answer that it gives against the one expected.
use Rattle.std.specs.Prelude.{◌≡◌, ◌≢◌, ◌↔◌, Bool, false, cond, ◌&&◌, ℕ, zero, suc, ◌+◌, ◌*◌, ◌-◌, ◌/◌, ◌%◌, ◌^◌, ◌≤◌, ◌<◌, List, [], ◌∷◌, ◌++◌, map, length, get_or, take, T, eqb, ltb, leb}
use Rattle.std.proofs.Math.Option.{Option, none, some}
use Rattle.lists.specs.Lists.{same_list, zeros}
use Rattle.tfs_spec.specs.Layout.{same_name, contents}
use Rattle.tfs_spec.specs.Check.{check}
use Rattle.tfs_spec.specs.Consistent.{Bytes, Consistent, FirstBroken}
use Rattle.tfs_spec.specs.Requests.{granted, refusal_of, count_of, Outcome, checked, creates, removes, writes, Request, changes, reads, counts, reply, requests, after_all}
use Rattle.tfs_spec.specs.Traces.{Call, creating, removing, reading, writing, counting, Expected, nothing, bytes, amount, refusal, Record, record_of, record_bytes, trace_bytes, all_below, call_numbers, Trace, finished, spoiled, holds, read_trace, Fitting, Recordable, AllRecordable, holds_all, NoRecord}

-- the request of a record; a read's buffer may hold anything, here zeros
abbrev pub request_of : Call → Request
request_of (creating nm z) = changes (creates nm z)
request_of (removing nm) = changes (removes nm)
request_of (reading nm o len) = reads nm o (zeros len)
request_of (writing nm o bs) = changes (writes nm o bs)
request_of counting = counts

abbrev pub run : ℕ → List ℕ → Call → Outcome
run B img c = reply B img (request_of c)

-- the bytes that a read has put into its buffer
abbrev pub read_bytes : Outcome → List ℕ
read_bytes o = take (count_of o.answer) o.buffer

-- an answer differs if the refusal number does or, both granted, the result; place and inode number do not enter
unfoldable pub agrees : Outcome → Expected → Bool
agrees o nothing = granted o.answer
agrees o (bytes bs) = granted o.answer && same_list bs (read_bytes o)
agrees o (amount n) = granted o.answer && eqb (count_of o.answer) n
agrees o (refusal n) = eqb (refusal_of o.answer) n

-- what replay comes to
pub data Replayed : Type 0 where
  -- how many records were replayed, all of the trace
  replayed : ℕ → Replayed
  -- "stops at the first malformed record or differing answer, says which, and gives its number from 1"
  malformed_at : ℕ → Replayed
  differs_at : ℕ → Replayed
  -- the check's refusal and its place
  denied : ℕ → ℕ → Replayed

pub record Replay : Type 0 where
  pub result : Replayed
  pub image : List ℕ

abbrev pub replay_of : Replayed → List ℕ → Replay
replay_of x img = record { result = x; image = img }

-- k records have been replayed
-- "a differing request's effect stays in the image, a malformed record has none"
unfoldable pub replay_on : ℕ → List ℕ → ℕ → Trace → Replay
replay_on B img k finished = replay_of (replayed k) img
replay_on B img k spoiled = replay_of (malformed_at (suc k)) img
replay_on B img k (holds r rest) =
    let o : Outcome = run B img r.call in
    cond (agrees o r.expected) (replay_on B o.image (suc k) rest) (replay_of (differs_at (suc k)) o.image)

-- "replay itself refuses only what the check does"
unfoldable pub replay : ℕ → List ℕ → List ℕ → Replay
replay B img t = checked (check B img) (λ num p. replay_of (denied num p) img) (replay_on B img 0 (read_trace t))

-- ---- the program
-- "0 and the records replayed, 1 and a malformed record's number, 2 and a differing one's, 3, a refusal and its place"
abbrev pub line_numbers : Replayed → List ℕ
line_numbers (replayed n) = 0 ∷ n ∷ []
line_numbers (malformed_at k) = 1 ∷ k ∷ []
line_numbers (differs_at k) = 2 ∷ k ∷ []
line_numbers (denied num p) = 3 ∷ num ∷ p ∷ []

-- the decimal digits of a number, at most f of them; a 64-bit number has at most 20
unfoldable pub decimal : ℕ → ℕ → List ℕ
decimal zero n = []
decimal (suc f) n = cond (ltb n 10) ((n + 48) ∷ []) (decimal f (n / 10) ++ ((n % 10 + 48) ∷ []))

-- "one line of decimal numbers with single spaces"
unfoldable pub line_bytes : List ℕ → List ℕ
line_bytes [] = 10 ∷ []
line_bytes (n ∷ []) = decimal 20 n ++ (10 ∷ [])
line_bytes (n ∷ m ∷ ms) = decimal 20 n ++ (32 ∷ line_bytes (m ∷ ms))

-- of the image file and the trace file, each with its bytes or, where it could not be read, with none: "of at most 64 KiB each"; "or 4 for any other trouble"
unfoldable pub program_numbers : Option (List ℕ) → Option (List ℕ) → List ℕ
program_numbers none t = 4 ∷ []
program_numbers (some img) none = 4 ∷ []
program_numbers (some img) (some t) = cond (leb (length img) 65536 && leb (length t) 65536) (line_numbers (replay 512 img t).result) (4 ∷ [])

-- what digits are worth, behind those that are worth v
abbrev pub decimal_worth : ℕ → List ℕ → ℕ
decimal_worth v [] = v
decimal_worth v (d ∷ ds) = decimal_worth (v * 10 + (d - 48)) ds

-- ds are the digits of n, with no 0 in front
pub record DecimalForm (n : ℕ) (ds : List ℕ) : Type 0 where
  pub some : 1 ≤ length ds
  pub digits : (i : ℕ) → i < length ds → (48 ≤ get_or ds i 0) × (get_or ds i 0 ≤ 57)
  pub front : 1 < length ds → get_or ds 0 0 ≢ 48
  pub value : decimal_worth 0 ds ≡ n

-- ---- what replay means, in plain facts
-- the answer that a request gave, as a record holds it
abbrev pub result_of : Call → Outcome → Expected
result_of (creating nm z) o = nothing
result_of (removing nm) o = nothing
result_of (reading nm a len) o = bytes (read_bytes o)
result_of (writing nm a bs) o = amount (count_of o.answer)
result_of counting o = amount (count_of o.answer)

abbrev pub answered : Call → Outcome → Expected
answered c o = cond (granted o.answer) (result_of c o) (refusal (refusal_of o.answer))

-- requests recorded, each with the answer that the rules give it on the image that the last one left
unfoldable pub recorded : ℕ → List ℕ → List Call → List Record
recorded B img [] = []
recorded B img (c ∷ cs) = record_of c (answered c (run B img c)) ∷ recorded B (run B img c).image cs

-- the image that they leave
abbrev pub after_calls : ℕ → List ℕ → List Call → List ℕ
after_calls B img cs = after_all B img (map (λ c. requests (request_of c)) cs)

abbrev pub calls_of : List Record → List Call
calls_of rs = map (λ r. r.call) rs

-- whether a request names nm
abbrev pub named : List ℕ → Call → Bool
named nm (creating k z) = same_name nm k
named nm (removing k) = same_name nm k
named nm (reading k o len) = same_name nm k
named nm (writing k o bs) = same_name nm k
named nm counting = false

-- the records of a trace, up to where it ends or is spoiled
abbrev pub records_of : Trace → List Record
records_of finished = []
records_of spoiled = []
records_of (holds r rest) = r ∷ records_of rest

-- how many of them a replay has run: those before a malformed one; up to a differing one, itself among them
abbrev pub ran_count : Replayed → ℕ
ran_count (replayed n) = n
ran_count (malformed_at k) = k - 1
ran_count (differs_at k) = k
ran_count (denied num p) = 0

-- the requests that a replay runs
unfoldable pub ran : ℕ → List ℕ → List ℕ → List Call
ran B img t = take (ran_count (replay B img t).result) (calls_of (records_of (read_trace t)))

-- no record of a trace names nm
abbrev pub Unnamed : List ℕ → List Record → Type 0
Unnamed nm [] = Unit {0}
Unnamed nm (r ∷ rs) = (T (named nm r.call) → ⊥) × Unnamed nm rs

abbrev pub SmallCalls : List Call → Type 0
SmallCalls [] = Unit {0}
SmallCalls (c ∷ cs) = T (all_below (call_numbers c)) × SmallCalls cs

-- each record expects the answer that the rules give
abbrev pub AllAgree : ℕ → List ℕ → List Record → Type 0
AllAgree B img rs = recorded B img (calls_of rs) ≡ rs

-- what replay of the bytes t comes to
pub data ReplayRule (B : ℕ) (img t : List ℕ) : Replay → Type 0 where
  refused-by-check : (num p : ℕ) → FirstBroken B img num p → ReplayRule B img t (replay_of (denied num p) img)
  -- all of t is records, each answered as expected
  whole : Consistent B img → (rs : List Record) → AllRecordable rs → t ≡ trace_bytes rs → AllAgree B img rs → ReplayRule B img t (replay_of (replayed (length rs)) (after_calls B img (calls_of rs)))
  -- the first that is no record stands behind such records
  stops-malformed : Consistent B img → (rs : List Record) (rest : List ℕ) → AllRecordable rs → t ≡ trace_bytes rs ++ rest → NoRecord rest → AllAgree B img rs → ReplayRule B img t (replay_of (malformed_at (suc (length rs))) (after_calls B img (calls_of rs)))
  -- the first that expects another answer stands behind such records; whatever follows it is not read
  stops-differing : Consistent B img → (rs : List Record) (r : Record) (rest : List ℕ) → AllRecordable rs → Recordable r → t ≡ trace_bytes rs ++ (record_bytes r ++ rest) → AllAgree B img rs → answered r.call (run B (after_calls B img (calls_of rs)) r.call) ≢ r.expected → ReplayRule B img t (replay_of (differs_at (suc (length rs))) (after_calls B img (calls_of (rs ++ (r ∷ [])))))

-- the numbers of a replay that goes on behind n records
abbrev pub count_on : ℕ → Replayed → Replayed
count_on n (replayed k) = replayed (n + k)
count_on n (malformed_at k) = malformed_at (n + k)
count_on n (differs_at k) = differs_at (n + k)
count_on n (denied num p) = denied num p

-- replay of one trace, then of the other
abbrev pub go_on : ℕ → Replayed → List ℕ → List ℕ → Replay
go_on B (replayed n) img b = replay_of (count_on n (replay B img b).result) (replay B img b).image
go_on B (malformed_at k) img b = replay_of (malformed_at k) img
go_on B (differs_at k) img b = replay_of (differs_at k) img
go_on B (denied num p) img b = replay_of (denied num p) img

-- of every image
pub record ReplayLaws (B : ℕ) (img : List ℕ) : Type 0 where
  -- exactly when each result is given, and the image with it: that of the requests run, so that the laws of lists of requests hold of it
  pub means : (t : List ℕ) → Bytes t → (x : Replay) → (replay B img t ≡ x) ↔ ReplayRule B img t x
  -- an answer agrees exactly if the record of it is the record
  pub agree : (c : Call) (e : Expected) → Fitting c e → T (agrees (run B img c) e) ↔ (answered c (run B img c) ≡ e)
  pub stays : Consistent B img → (t : List ℕ) → Consistent B (replay B img t).image
  -- requests recorded with the answers that the rules give from this volume are replayed all, and leave the image that they left; free bytes are below 2^32 at such a block size
  pub again : Consistent B img → 8 * B * B ≤ 4294967296 → (cs : List Call) → SmallCalls cs → replay B img (trace_bytes (recorded B img cs)) ≡ replay_of (replayed (length cs)) (after_calls B img cs)
  pub recordable : Consistent B img → 8 * B * B ≤ 4294967296 → (cs : List Call) → SmallCalls cs → AllRecordable (recorded B img cs)
  -- what stands in a read's buffer before makes no difference
  pub any-buffer : (nm : List ℕ) (o : ℕ) (buf : List ℕ) (e : Expected) → agrees (reply B img (reads nm o buf)) e ≡ agrees (run B img (reading nm o (length buf))) e
  -- replay leaves the image of the requests that it runs, and so what stands under every name that none of its records names
  pub runs : (t : List ℕ) → (replay B img t).image ≡ after_calls B img (ran B img t)
  pub others : (t nm : List ℕ) → Unnamed nm (records_of (read_trace t)) → contents B (replay B img t).image nm ≡ contents B img nm
  -- two traces joined
  pub joined : (a b : List ℕ) → Bytes a → Bytes b → (rs : List Record) → read_trace a ≡ holds_all rs finished → replay B img (a ++ b) ≡ go_on B (replay B img a).result (replay B img a).image b

-- of the numbers in the program's line
pub record LineLaws : Type 0 where
  -- "3 4 17", and a newline
  pub example : line_bytes (3 ∷ 4 ∷ 17 ∷ []) ≡ 51 ∷ 32 ∷ 52 ∷ 32 ∷ 49 ∷ 55 ∷ 10 ∷ []
  pub decimal-form : (n : ℕ) → n < 10 ^ 20 → DecimalForm n (decimal 20 n)
