-- What reading gives, in the rules' terms, and where the spans lie.
use Rattle.std.specs.Prelude.{◌≡◌, ℕ, ◌+◌, ◌≤◌, List, length, Option, Some, None}
use Rattle.lists.specs.Lists.{part}
use Rattle.tfs_spec.specs.Traces as rules
use Rattle.tfs_trace.specs.declared.Cursor.{Cursor}
use Rattle.tfs_trace.specs.declared.Span.{Span}
use Rattle.tfs_trace.specs.declared.Call.{Call}
use Rattle.tfs_trace.specs.declared.Call.TheVariants as call
use Rattle.tfs_trace.specs.declared.Expected.{Expected}
use Rattle.tfs_trace.specs.declared.Expected.TheVariants as expected
use Rattle.tfs_trace.specs.declared.Record.{Record}

-- the bytes of a span of the trace t
abbrev pub span_of : List ℕ → Span → List ℕ
span_of t s = part s.at s.len t

abbrev pub call_of : List ℕ → Call → rules.Call
call_of t (call.Create nm z) = rules.creating (span_of t nm) z
call_of t (call.Remove nm) = rules.removing (span_of t nm)
call_of t (call.Read nm o len) = rules.reading (span_of t nm) o len
call_of t (call.Write nm o bs) = rules.writing (span_of t nm) o (span_of t bs)
call_of t call.Free = rules.counting

abbrev pub expected_of : List ℕ → Expected → rules.Expected
expected_of t expected.Nothing = rules.nothing
expected_of t (expected.Bytes bs) = rules.bytes (span_of t bs)
expected_of t (expected.Amount n) = rules.amount n
expected_of t (expected.Refusal n) = rules.refusal n

abbrev pub record_of : List ℕ → Record → rules.Record
record_of t r = rules.record_of (call_of t r.call) (expected_of t r.expected)

-- what was read, with the cursor behind it
abbrev pub told : {A B : Type 0} → (A → B) → Option (A × Cursor) → rules.Parsed B
told f (Some read) = rules.parsed (f read.0) read.1.at
told f None = rules.malformed

abbrev pub as_is : ℕ → ℕ
as_is n = n

-- a number with the position behind it
abbrev pub number_told : Option (ℕ × ℕ) → rules.Parsed ℕ
number_told (Some read) = rules.parsed read.0 read.1
number_told None = rules.malformed

-- ---- where they lie
abbrev pub Inside : List ℕ → Span → Type 0
Inside t s = s.at + s.len ≤ length t

abbrev pub CallInside : List ℕ → Call → Type 0
CallInside t (call.Create nm z) = Inside t nm
CallInside t (call.Remove nm) = Inside t nm
CallInside t (call.Read nm o len) = Inside t nm
CallInside t (call.Write nm o bs) = Inside t nm × Inside t bs
CallInside t call.Free = Unit {0}

abbrev pub ExpectedInside : List ℕ → Expected → Type 0
ExpectedInside t expected.Nothing = Unit {0}
ExpectedInside t (expected.Bytes bs) = Inside t bs
ExpectedInside t (expected.Amount n) = Unit {0}
ExpectedInside t (expected.Refusal n) = Unit {0}

-- the length of a span stands at a position, and its bytes behind that
abbrev pub LengthAt : List ℕ → ℕ → Span → Type 0
LengthAt t at s = rules.read_number t at ≡ rules.parsed s.len s.at

abbrev pub EndsAt : Span → ℕ → Type 0
EndsAt s end = s.at + s.len ≡ end

-- the spans of a call whose arguments stand at a position and end at another
abbrev pub CallLies : List ℕ → ℕ → Call → ℕ → Type 0
CallLies t from (call.Create nm z) end = LengthAt t from nm
CallLies t from (call.Remove nm) end = LengthAt t from nm
CallLies t from (call.Read nm o len) end = LengthAt t from nm
CallLies t from (call.Write nm o bs) end = LengthAt t from nm × EndsAt bs end
CallLies t from call.Free end = Unit {0}

-- those of an expected answer that ends at a position
abbrev pub ExpectedLies : Expected → ℕ → Type 0
ExpectedLies expected.Nothing end = Unit {0}
ExpectedLies (expected.Bytes bs) end = EndsAt bs end
ExpectedLies (expected.Amount n) end = Unit {0}
ExpectedLies (expected.Refusal n) end = Unit {0}

-- those of a record: its kind takes one byte, and the call ends where the expected answer starts
pub record RecordLies (t : List ℕ) (at : ℕ) (r : Record) (end : ℕ) : Type 0 where
  pub middle : ℕ
  pub called : rules.read_call t at ≡ rules.parsed (call_of t r.call) middle
  pub call_lies : CallLies t (at + 1) r.call middle
  pub expected-lies : ExpectedLies r.expected end

-- a string at a position, up to another
abbrev pub StringLies : List ℕ → ℕ → Span → ℕ → Type 0
StringLies t at s end = Inside t s × LengthAt t at s × EndsAt s end

-- a call whose arguments stand at a position
abbrev pub CallFits : List ℕ → ℕ → Call → ℕ → Type 0
CallFits t from x end = CallInside t x × CallLies t from x end

-- of an expected answer also that it is one of its request
abbrev pub ExpectedFits : List ℕ → Call → Expected → ℕ → Type 0
ExpectedFits t x e end = ExpectedInside t e × rules.Fitting (call_of t x) (expected_of t e) × ExpectedLies e end

abbrev pub InsideRecord : List ℕ → Record → Type 0
InsideRecord t r = CallInside t r.call × ExpectedInside t r.expected × rules.Fitting (call_of t r.call) (expected_of t r.expected)
