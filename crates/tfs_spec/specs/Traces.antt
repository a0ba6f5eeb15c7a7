-- Traces: requests with the answers expected of them, as bytes; reading and writing them.
use Rattle.std.specs.Prelude.{◌≡◌, ◌≢◌, ◌↔◌, ◌⊎◌, Bool, true, cond, ◌&&◌, ℕ, zero, suc, ◌+◌, ◌-◌, ◌*◌, ◌/◌, ◌%◌, ◌≤◌, ◌<◌, List, [], ◌∷◌, ◌++◌, length, get_or, take, drop, T, ltb, leb, eqb}
use Rattle.lists.specs.Lists.{part}
use Rattle.tfs_spec.specs.Requests.{Answer, value, refused, granted, count_of}
use Rattle.tfs_spec.specs.Consistent.{Bytes}

-- ---- records
-- "request kind (1 create, 2 remove, 3 read, 4 write, 5 free bytes), arguments"
pub data Call : Type 0 where
  -- name and size
  creating : List ℕ → ℕ → Call
  -- name
  removing : List ℕ → Call
  -- name, offset and buffer length
  reading : List ℕ → ℕ → ℕ → Call
  -- name, offset and bytes
  writing : List ℕ → ℕ → List ℕ → Call
  counting : Call

-- "the expected refusal number (0 for granted, else any) and, if granted, the result"
pub data Expected : Type 0 where
  -- granted: with no result; with the bytes read; with a count or free bytes
  nothing : Expected
  bytes : List ℕ → Expected
  amount : ℕ → Expected
  -- refused, by its number
  refusal : ℕ → Expected

pub record Record : Type 0 where
  pub call : Call
  pub expected : Expected

abbrev pub record_of : Call → Expected → Record
record_of c e = record { call = c; expected = e }

-- ---- writing
-- "in groups of seven bits, low group first, high bit set when another follows": at most f groups
unfoldable pub groups : ℕ → ℕ → List ℕ
groups zero n = []
groups (suc f) n = cond (ltb n 128) (n ∷ []) ((n % 128 + 128) ∷ groups f (n / 128))

abbrev pub number : ℕ → List ℕ
number n = groups 5 n

-- "Byte strings are preceded by their length"
abbrev pub string : List ℕ → List ℕ
string bs = number (length bs) ++ bs

abbrev pub call_bytes : Call → List ℕ
call_bytes (creating nm z) = number 1 ++ (string nm ++ number z)
call_bytes (removing nm) = number 2 ++ string nm
call_bytes (reading nm o len) = number 3 ++ (string nm ++ (number o ++ number len))
call_bytes (writing nm o bs) = number 4 ++ (string nm ++ (number o ++ string bs))
call_bytes counting = number 5

abbrev pub expected_bytes : Expected → List ℕ
expected_bytes nothing = number 0
expected_bytes (bytes bs) = number 0 ++ string bs
expected_bytes (amount n) = number 0 ++ number n
expected_bytes (refusal n) = number n

abbrev pub record_bytes : Record → List ℕ
record_bytes r = call_bytes r.call ++ expected_bytes r.expected

-- records one after another
abbrev pub trace_bytes : List Record → List ℕ
trace_bytes [] = []
trace_bytes (r ∷ rs) = record_bytes r ++ trace_bytes rs

-- "Numbers, below 2^32"
abbrev pub all_below : List ℕ → Bool
all_below [] = true
all_below (n ∷ ns) = ltb n 4294967296 && all_below ns

-- the numbers of a record beside its kind, lengths included
abbrev pub call_numbers : Call → List ℕ
call_numbers (creating nm z) = length nm ∷ z ∷ []
call_numbers (removing nm) = length nm ∷ []
call_numbers (reading nm o len) = length nm ∷ o ∷ len ∷ []
call_numbers (writing nm o bs) = length nm ∷ o ∷ length bs ∷ []
call_numbers counting = []

abbrev pub expected_numbers : Expected → List ℕ
expected_numbers nothing = []
expected_numbers (bytes bs) = length bs ∷ []
expected_numbers (amount n) = n ∷ []
expected_numbers (refusal n) = n ∷ []

unfoldable pub all_numbers_fit : Record → Bool
all_numbers_fit r = all_below (call_numbers r.call) && all_below (expected_numbers r.expected)

-- what writing answers, and the buffer that it leaves
pub record Written : Type 0 where
  pub answer : Answer
  pub buffer : List ℕ

abbrev pub not_written : List ℕ → Written
not_written out = record { answer = refused 33 0; buffer = out }

-- "a buffer too short for the record, or a number too large, is refused 33"; else its bytes stand at the start of the buffer, and their length is the answer
unfoldable pub write_record : List ℕ → Record → Written
write_record out r =
    let bs : List ℕ = record_bytes r in
    cond (all_numbers_fit r && leb (length bs) (length out)) (record { answer = value (length bs); buffer = bs ++ drop (length bs) out }) (not_written out)

-- records written one after another, each into what the last one left of the buffer; up to one that is refused
unfoldable pub write_all : List ℕ → List Record → List ℕ
write_all out [] = out
write_all out (r ∷ rs) =
    let w : Written = write_record out r in
    let n : ℕ = count_of w.answer in
    cond (granted w.answer) (take n w.buffer ++ write_all (drop n w.buffer) rs) out

-- ---- reading
-- "Each record read hands on the position where the next one starts": what was read, and that position
pub data Parsed (A : Type 0) : Type 0 where
  parsed : A → ℕ → Parsed A
  malformed : Parsed A

-- one thing read, then another behind it
abbrev pub followed : {A B : Type 0} → Parsed A → (A → ℕ → Parsed B) → Parsed B
followed (parsed x next) f = f x next
followed malformed f = malformed

-- a low group, and what the groups behind it are worth: not 0, "shortest form only"; and "below 2^32" with it
abbrev pub join_groups : ℕ → ℕ → ℕ → Parsed ℕ
join_groups low high next =
    cond (eqb high 0) malformed
    (cond (ltb (high * 128 + low) 4294967296) (parsed (high * 128 + low) next) malformed)

-- the number of at most f groups at the head of l, which stands at a position
unfoldable pub read_groups : ℕ → ℕ → List ℕ → Parsed ℕ
read_groups zero at l = malformed
read_groups (suc f) at [] = malformed
read_groups (suc f) at (g ∷ l) = cond (ltb g 128) (parsed g (at + 1)) (followed (read_groups f (at + 1) l) (join_groups (g - 128)))

unfoldable pub read_number : List ℕ → ℕ → Parsed ℕ
read_number t at = read_groups 5 at (drop at t)

unfoldable pub read_string : List ℕ → ℕ → Parsed (List ℕ)
read_string t at = followed (read_number t at) (λ n from. cond (leb (from + n) (length t)) (parsed (part from n t) (from + n)) malformed)

-- the arguments of each kind
unfoldable pub read_create : List ℕ → ℕ → Parsed Call
read_create t at =
    followed (read_string t at) (λ nm a. followed (read_number t a) (λ z b. parsed (creating nm z) b))

unfoldable pub read_remove : List ℕ → ℕ → Parsed Call
read_remove t at = followed (read_string t at) (λ nm a. parsed (removing nm) a)

unfoldable pub read_read : List ℕ → ℕ → Parsed Call
read_read t at =
    followed (read_string t at) (λ nm a. followed (read_number t a) (λ o b. followed (read_number t b) (λ len c. parsed (reading nm o len) c)))

unfoldable pub read_write : List ℕ → ℕ → Parsed Call
read_write t at =
    followed (read_string t at) (λ nm a. followed (read_number t a) (λ o b. followed (read_string t b) (λ bs c. parsed (writing nm o bs) c)))

abbrev pub read_arguments : List ℕ → ℕ → ℕ → Parsed Call
read_arguments t kind at =
    cond (eqb kind 1) (read_create t at)
    (cond (eqb kind 2) (read_remove t at)
    (cond (eqb kind 3) (read_read t at)
    (cond (eqb kind 4) (read_write t at)
    (cond (eqb kind 5) (parsed counting at) malformed))))

unfoldable pub read_call : List ℕ → ℕ → Parsed Call
read_call t at = followed (read_number t at) (read_arguments t)

-- "Create has name and size, remove name, neither a result; read .. as result the bytes; write .. the count; free bytes its number"
abbrev pub read_result : Call → List ℕ → ℕ → Parsed Expected
read_result (creating nm z) t at = parsed nothing at
read_result (removing nm) t at = parsed nothing at
read_result (reading nm o len) t at = followed (read_string t at) (λ bs next. parsed (bytes bs) next)
read_result (writing nm o bs) t at = followed (read_number t at) (λ n next. parsed (amount n) next)
read_result counting t at = followed (read_number t at) (λ n next. parsed (amount n) next)

unfoldable pub read_expected : Call → List ℕ → ℕ → Parsed Expected
read_expected c t at = followed (read_number t at) (λ n next. cond (eqb n 0) (read_result c t next) (parsed (refusal n) next))

unfoldable pub read_record : List ℕ → ℕ → Parsed Record
read_record t at = followed (read_call t at) (λ c a. followed (read_expected c t a) (λ e b. parsed (record_of c e) b))

-- a whole trace: records up to its end, or up to a malformed one
pub data Trace : Type 0 where
  finished : Trace
  spoiled : Trace
  holds : Record → Trace → Trace

abbrev pub held_by : Parsed Record → (ℕ → Trace) → Trace
held_by (parsed r next) rest = holds r (rest next)
held_by malformed rest = spoiled

-- the records from a position on, at most f; as each takes a byte or more, no end but that of the trace is met
unfoldable pub read_from : ℕ → List ℕ → ℕ → Trace
read_from zero t at = finished
read_from (suc f) t at = cond (ltb at (length t)) (held_by (read_record t at) (read_from f t)) finished

unfoldable pub read_trace : List ℕ → Trace
read_trace t = read_from (length t) t 0

-- ---- what reading and writing mean, in plain facts
-- what groups are worth: seven bits each, the low group first
abbrev pub worth : List ℕ → ℕ
worth [] = 0
worth (g ∷ gs) = g % 128 + 128 * worth gs

-- bs are the groups of n in the shortest form
pub record NumberForm (n : ℕ) (bs : List ℕ) : Type 0 where
  pub some : 1 ≤ length bs
  -- "high bit set when another follows"
  pub follows : (i : ℕ) → i + 1 < length bs → (128 ≤ get_or bs i 0) × (get_or bs i 0 < 256)
  pub last : get_or bs (length bs - 1) 0 < 128
  -- "shortest form only": no last group 0 but the single byte 00
  pub shortest : 1 < length bs → get_or bs (length bs - 1) 0 ≢ 0
  pub value : worth bs ≡ n

-- from position at up to next the trace is bs
pub record StandsAt (t : List ℕ) (at : ℕ) (bs : List ℕ) (next : ℕ) : Type 0 where
  pub here : drop at t ≡ bs ++ drop next t
  pub ends : next ≡ at + length bs

-- what may be expected of a request: a result of its kind, or a refusal that is not 0
pub data Fitting : Call → Expected → Type 0 where
  of-create : (nm : List ℕ) (z : ℕ) → Fitting (creating nm z) nothing
  of-remove : (nm : List ℕ) → Fitting (removing nm) nothing
  of-read : (nm : List ℕ) (o len : ℕ) (bs : List ℕ) → Fitting (reading nm o len) (bytes bs)
  of-write : (nm : List ℕ) (o : ℕ) (bs : List ℕ) (n : ℕ) → Fitting (writing nm o bs) (amount n)
  of-count : (n : ℕ) → Fitting counting (amount n)
  of-refusal : (c : Call) (n : ℕ) → n ≢ 0 → Fitting c (refusal n)

-- a record that a trace can hold
pub record Recordable (r : Record) : Type 0 where
  pub fitting : Fitting r.call r.expected
  pub small : T (all_numbers_fit r)

abbrev pub AllRecordable : List Record → Type 0
AllRecordable [] = Unit {0}
AllRecordable (r ∷ rs) = Recordable r × AllRecordable rs

-- records, then the rest of a trace
abbrev pub holds_all : List Record → Trace → Trace
holds_all [] rest = rest
holds_all (r ∷ rs) rest = holds r (holds_all rs rest)

-- bytes with no record at their head, and not the end
pub record NoRecord (l : List ℕ) : Type 0 where
  pub some : 1 ≤ length l
  pub none : (r : Record) (rest : List ℕ) → Recordable r → l ≢ record_bytes r ++ rest

-- w has bs at the start of the buffer out, and all else as before
pub record WrittenAtStart (out bs : List ℕ) (w : Written) : Type 0 where
  pub answer : w.answer ≡ value (length bs)
  pub start : (i : ℕ) → i < length bs → get_or w.buffer i 0 ≡ get_or bs i 0
  pub rest : (i : ℕ) → length bs ≤ i → get_or w.buffer i 0 ≡ get_or out i 0
  pub long : length w.buffer ≡ length out

-- an example, a record to a line: create "A" of 300 bytes; write 1, 2 to it at 0; read 200 bytes from 299 on, which gives a 0; free bytes 62,464; remove "B", refused 13
abbrev pub example_bytes : List ℕ
example_bytes =
    1 ∷ 1 ∷ 65 ∷ 172 ∷ 2 ∷ 0
    ∷ 4 ∷ 1 ∷ 65 ∷ 0 ∷ 2 ∷ 1 ∷ 2 ∷ 0 ∷ 2
    ∷ 3 ∷ 1 ∷ 65 ∷ 171 ∷ 2 ∷ 200 ∷ 1 ∷ 0 ∷ 1 ∷ 0
    ∷ 5 ∷ 0 ∷ 128 ∷ 232 ∷ 3
    ∷ 2 ∷ 1 ∷ 66 ∷ 13
    ∷ []

abbrev pub example_records : List Record
example_records =
    record_of (creating (65 ∷ []) 300) nothing
    ∷ record_of (writing (65 ∷ []) 0 (1 ∷ 2 ∷ [])) (amount 2)
    ∷ record_of (reading (65 ∷ []) 299 200) (bytes (0 ∷ []))
    ∷ record_of counting (amount 62464)
    ∷ record_of (removing (66 ∷ [])) (refusal 13)
    ∷ []

pub record TraceLaws : Type 0 where
  pub example : (trace_bytes example_records ≡ example_bytes) × (read_trace example_bytes ≡ holds_all example_records finished)
  -- a number's bytes, and no others, have its form; so they are five at the most, and the fifth at most 0F
  pub number-form : (n : ℕ) → n < 4294967296 → (bs : List ℕ) → (bs ≡ number n) ↔ NumberForm n bs
  pub number_short : (n : ℕ) → n < 4294967296 → (length (number n) ≤ 5) × (get_or (number n) 4 0 ≤ 15)
  -- of a trace of bytes a number, a string, a record is read at a position exactly if it stands there, and the next starts behind it: malformed is exactly what is none
  pub read-number : (t : List ℕ) → Bytes t → (at n next : ℕ) → (read_number t at ≡ parsed n next) ↔ ((n < 4294967296) × StandsAt t at (number n) next)
  pub read-string : (t : List ℕ) → Bytes t → (at : ℕ) (bs : List ℕ) (next : ℕ) → (read_string t at ≡ parsed bs next) ↔ ((length bs < 4294967296) × StandsAt t at (string bs) next)
  pub read-record : (t : List ℕ) → Bytes t → (at : ℕ) (r : Record) (next : ℕ) → (read_record t at ≡ parsed r next) ↔ (Recordable r × StandsAt t at (record_bytes r) next)
  -- "Reading a trace and writing one invert each other": whole traces
  pub written_read : (rs : List Record) → AllRecordable rs → read_trace (trace_bytes rs) ≡ holds_all rs finished
  pub read-written : (t : List ℕ) → Bytes t → (rs : List Record) → read_trace t ≡ holds_all rs finished → (trace_bytes rs ≡ t) × AllRecordable rs
  -- what is no trace: records, then bytes with no record at their head
  pub read-spoiled : (t : List ℕ) → Bytes t → (rs : List Record) → (read_trace t ≡ holds_all rs spoiled) ↔ (AllRecordable rs × (rest : List ℕ) × (t ≡ trace_bytes rs ++ rest) × NoRecord rest)
  -- each record of a written trace is read where the ones before it end, and hands on where it ends itself
  pub positions : (before : List Record) (r : Record) (rest : List ℕ) → Recordable r → read_record (trace_bytes before ++ (record_bytes r ++ rest)) (length (trace_bytes before)) ≡ parsed r (length (trace_bytes before) + length (record_bytes r))
  -- writing: the bytes at the start of the buffer, the rest kept, their length the answer; refused 33, nothing is written, exactly if the buffer is too short or a number too large
  pub written : (out : List ℕ) (r : Record) → T (all_numbers_fit r) → length (record_bytes r) ≤ length out → WrittenAtStart out (record_bytes r) (write_record out r)
  pub refused-33 : (out : List ℕ) (r : Record) → (write_record out r ≡ record { answer = refused 33 0; buffer = out }) ↔ ((length out < length (record_bytes r)) ⊎ (T (all_numbers_fit r) → ⊥))
  -- records written one after another, each into the rest of the buffer, are the trace
  pub written_all : (rs : List Record) → AllRecordable rs → (out : List ℕ) → length (trace_bytes rs) ≤ length out → write_all out rs ≡ trace_bytes rs ++ drop (length (trace_bytes rs)) out
  pub numbers_fit : (r : Record) → T (all_numbers_fit r) ↔ (((i : ℕ) → get_or (call_numbers r.call) i 0 < 4294967296) × ((i : ℕ) → get_or (expected_numbers r.expected) i 0 < 4294967296))
