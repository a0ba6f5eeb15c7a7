-- What the structs of the C interface tell: a record of the rules, as numbers and positions.
use Rattle.std.specs.Prelude.{◌≡◌, Bool, cond, ◌&&◌, ◌||◌, ℕ, ◌+◌, ◌≤◌, Option, Some, None, List, length, T, eqb, leb}
use Rattle.lists.specs.Lists.{part}
use Rattle.tfs_spec.specs.Requests.{Answer, refusal_of, count_of}
use Rattle.tfs_spec.specs.Traces as rules
use Rattle.tfs_spec.specs.Replays.{Replayed}
use Rattle.tfs_spec.specs.Replays as replays
use Rattle.tfs_trace.specs.declared.Span.{Span}
use Rattle.tfs_trace.specs.declared.Call.{Call}
use Rattle.tfs_trace.specs.declared.Call.TheVariants as call
use Rattle.tfs_trace.specs.declared.Expected.{Expected}
use Rattle.tfs_trace.specs.declared.Expected.TheVariants as expected
use Rattle.tfs_trace.specs.declared.Record.{Record}
use Rattle.tfs_trace.specs.declared.Cursor.{Cursor}
use Rattle.tfs_trace_write.specs.declared.Draft.{Draft}
use Rattle.tfs_trace_write.specs.declared.Draft.TheVariants as draft
use Rattle.tfs_trace_c.specs.declared.TfsEntry.{TfsEntry}
use Rattle.tfs_trace_c.specs.declared.TfsRecord.{TfsRecord}
use Rattle.tfs_trace_c.specs.declared.TfsWritten.{TfsWritten}
use Rattle.tfs_trace_c.specs.declared.TfsReplayed.{TfsReplayed}
use Rattle.tfs_trace_c.specs.declared.Given.{Given}

-- ---- the record that an entry stands for, with a name and bytes
abbrev pub known : ℕ → Bool
known kind = leb 1 kind && leb kind 5

abbrev pub entry_call : TfsEntry → List ℕ → List ℕ → rules.Call
entry_call e nm bs =
    cond (eqb e.kind 1) (rules.creating nm e.size)
    (cond (eqb e.kind 2) (rules.removing nm)
    (cond (eqb e.kind 3) (rules.reading nm e.offset e.length)
    (cond (eqb e.kind 4) (rules.writing nm e.offset bs) rules.counting)))

-- the result of a granted request
abbrev pub entry_result : TfsEntry → List ℕ → rules.Expected
entry_result e bs = cond (eqb e.kind 1 || eqb e.kind 2) rules.nothing (cond (eqb e.kind 3) (rules.bytes bs) (rules.amount e.value))

abbrev pub entry_record : TfsEntry → List ℕ → List ℕ → rules.Record
entry_record e nm bs = rules.record_of (entry_call e nm bs) (cond (eqb e.refusal 0) (entry_result e bs) (rules.refusal e.refusal))

-- ---- reading: what the struct stands for in the trace t
abbrev pub record_in : List ℕ → TfsRecord → rules.Parsed rules.Record
record_in t r =
    cond (known r.entry.kind)
    (rules.parsed (entry_record r.entry (part r.name_at r.name_length t) (part r.bytes_at r.bytes_length t)) r.next)
    rules.malformed

-- ---- the struct of what the cursor gives
abbrev pub given : ℕ → ℕ → Span → Given
given num v bs = record { refusal = num; value = v; bytes = bs }

abbrev pub none : Span
none = record { at = 0; len = 0 }

abbrev pub given_of : Expected → Given
given_of expected.Nothing = given 0 0 none
given_of (expected.Bytes bs) = given 0 0 bs
given_of (expected.Amount n) = given 0 n none
given_of (expected.Refusal n) = given n 0 none

abbrev pub entry : ℕ → ℕ → ℕ → ℕ → Given → TfsEntry
entry k z o len g = record { kind = k; size = z; offset = o; length = len; refusal = g.refusal; value = g.value }

abbrev pub filled : TfsEntry → Span → Span → ℕ → TfsRecord
filled e nm bs next = record { entry = e; name_at = nm.at; name_length = nm.len; bytes_at = bs.at; bytes_length = bs.len; next = next }

abbrev pub asked : Call → Given → ℕ → TfsRecord
asked (call.Create nm z) g next = filled (entry 1 z 0 0 g) nm g.bytes next
asked (call.Remove nm) g next = filled (entry 2 0 0 0 g) nm g.bytes next
asked (call.Read nm o len) g next = filled (entry 3 0 o len g) nm g.bytes next
asked (call.Write nm o bs) g next = filled (entry 4 0 o 0 g) nm bs next
asked call.Free g next = filled (entry 5 0 0 0 g) none g.bytes next

abbrev pub struct_of : Option (Record × Cursor) → TfsRecord
struct_of (Some read) = asked read.0.call (given_of read.0.expected) read.1.at
struct_of None = filled (entry 0 0 0 0 (given 0 0 none)) none none 0

-- ---- the fields that a record has; the others are 0
abbrev pub only : Bool → ℕ → ℕ
only has n = cond has n 0

abbrev pub has_name : ℕ → Bool
has_name kind = leb 1 kind && leb kind 4

abbrev pub has_value : ℕ → ℕ → Bool
has_value kind num = eqb num 0 && (eqb kind 4 || eqb kind 5)

abbrev pub has_bytes : ℕ → ℕ → Bool
has_bytes kind num = eqb kind 4 || (eqb kind 3 && eqb num 0)

abbrev pub own_numbers : TfsEntry → TfsEntry
own_numbers e =
    let k : ℕ = e.kind in
    record {
      kind = only (known k) k;
      size = only (eqb k 1) e.size;
      offset = only (eqb k 3 || eqb k 4) e.offset;
      length = only (eqb k 3) e.length;
      refusal = only (known k) e.refusal;
      value = only (has_value k e.refusal) e.value;
    }

abbrev pub own_fields : TfsRecord → TfsRecord
own_fields r =
    let k : ℕ = r.entry.kind in
    let b : Bool = has_bytes k r.entry.refusal in
    record {
      entry = own_numbers r.entry;
      name_at = only (has_name k) r.name_at;
      name_length = only (has_name k) r.name_length;
      bytes_at = only b r.bytes_at;
      bytes_length = only b r.bytes_length;
      next = only (known k) r.next;
    }

-- no field but its own, and name and bytes inside the trace
pub record Shaped (t : List ℕ) (r : TfsRecord) : Type 0 where
  pub own : r ≡ own_fields r
  pub name : r.name_at + r.name_length ≤ length t
  pub bytes : r.bytes_at + r.bytes_length ≤ length t

-- of the record at a position of the trace t: its name and its bytes are where they stand
pub record Placed (t : List ℕ) (at : ℕ) (r : TfsRecord) : Type 0 where
  -- the name behind its length, which is behind the kind
  pub named : T (has_name r.entry.kind) → rules.read_number t (at + 1) ≡ rules.parsed r.name_length r.name_at
  -- what a write writes is the last of its arguments, what a read gave the last of the record
  pub written : r.entry.kind ≡ 4 → (c : rules.Call) × (rules.read_call t at ≡ rules.parsed c (r.bytes_at + r.bytes_length))
  pub given : r.entry.kind ≡ 3 → r.entry.refusal ≡ 0 → r.bytes_at + r.bytes_length ≡ r.next

-- ---- writing
abbrev pub draft_of : TfsEntry → Option Draft
draft_of e =
    cond (eqb e.kind 1) (Some (draft.Create e.size))
    (cond (eqb e.kind 2) (Some draft.Remove)
    (cond (eqb e.kind 3) (Some (draft.Read e.offset e.length))
    (cond (eqb e.kind 4) (Some (draft.Write e.offset))
    (cond (eqb e.kind 5) (Some draft.Free) None))))

abbrev pub write_entry : List ℕ → TfsEntry → List ℕ → List ℕ → rules.Written
write_entry out e nm bs = cond (known e.kind) (rules.write_record out (entry_record e nm bs)) (rules.not_written out)

abbrev pub written : ℕ → ℕ → TfsWritten
written num n = record { refusal = num; length = n }

unfoldable pub written_of : Answer → TfsWritten
written_of a = written (refusal_of a) (count_of a)

-- ---- replay
abbrev pub replayed : ℕ → ℕ → ℕ → ℕ → TfsReplayed
replayed o k num p = record { outcome = o; number = k; refusal = num; place = p }

-- 0 and the records replayed, 1 and a malformed record's number, 2 and a differing one's, 3, a refusal and its place
unfoldable pub replayed_of : Replayed → TfsReplayed
replayed_of (replays.replayed n) = replayed 0 n 0 0
replayed_of (replays.malformed_at k) = replayed 1 k 0 0
replayed_of (replays.differs_at k) = replayed 2 k 0 0
replayed_of (replays.denied num p) = replayed 3 0 num p
