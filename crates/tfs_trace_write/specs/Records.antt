-- Writing a record, by its halves.
use Rattle.std.specs.Prelude.{◌≡◌, refl, Bool, ◌&&◌, ℕ, ◌+◌, ◌≤◌, ◌<◌, List, [], ◌++◌, length, eqb}
use Rattle.std.proofs.Common.{sym, ap, ◌∙◌, arith, append-nil, length-append}
use Rattle.std.proofs.Math.Path.{ap₂}
use Rattle.std.proofs.Math.Bool.{true, false, and-true, and-false}
use borrow.Author.Tests.{eqb-true, le-leb, lt-leb}
use Rattle.std.proofs.Math.Dec.{leb}
use Rattle.tfs_spec.specs.Requests.{Answer, value, refused}
use Rattle.tfs_spec.specs.Traces.{Record, Written, number, call_bytes, expected_bytes, record_bytes, all_below, call_numbers, expected_numbers, all_numbers_fit, write_record}
use Rattle.tfs_trace_write.specs.Drafts.{draft_call, draft_result, draft_expected, draft_told}
use Rattle.tfs_trace_write.specs.Puts.{put, put_start, put_behind}
use Rattle.tfs_trace_write.specs.Halves.{call_half, granted_field, expected_half, half_fits, half_size, field_bytes, half_bytes, length-half}
use Rattle.tfs_trace_write.specs.declared.Draft.{Draft}
use Rattle.tfs_trace_write.specs.declared.Draft.TheVariants as draft
use Rattle.tfs_trace_write.specs.declared.Field.TheVariants.{Nothing}
use Rattle.tfs_trace_write.specs.declared.Half.{Half}

-- ---- the bytes and the numbers of a draft are those of its halves
call-bytes : (d : Draft) (nm bs : List ℕ) → call_bytes (draft_call d nm bs) ≡ half_bytes (call_half d) nm bs
call-bytes (draft.Create size) nm bs = simp append-nil
call-bytes draft.Remove nm bs = simp append-nil
call-bytes (draft.Read offset len) nm bs = refl
call-bytes (draft.Write offset) nm bs = refl
call-bytes draft.Free nm bs = simp append-nil

call_fits : (d : Draft) (nm bs : List ℕ) → all_below (call_numbers (draft_call d nm bs)) ≡ half_fits (call_half d) (length nm) (length bs)
call_fits (draft.Create size) nm bs = refl
call_fits draft.Remove nm bs = refl
call_fits (draft.Read offset len) nm bs = simp and-true
call_fits (draft.Write offset) nm bs = simp and-true
call_fits draft.Free nm bs = refl

granted_bytes : (d : Draft) (nm bs : List ℕ) (v : ℕ) → expected_bytes (draft_result d bs v) ≡ number 0 ++ (field_bytes (granted_field d v) nm bs ++ [])
granted_bytes (draft.Create size) nm bs v = simp append-nil
granted_bytes draft.Remove nm bs v = simp append-nil
granted_bytes (draft.Read offset len) nm bs v = simp append-nil
granted_bytes (draft.Write offset) nm bs v = simp append-nil
granted_bytes draft.Free nm bs v = simp append-nil

granted-fits : (d : Draft) (nm bs : List ℕ) (v : ℕ) → all_below (expected_numbers (draft_result d bs v)) ≡ half_fits (record { head = 0; first = granted_field d v; second = Nothing; third = Nothing }) (length nm) (length bs)
granted-fits (draft.Create size) nm bs v = refl
granted-fits draft.Remove nm bs v = refl
granted-fits (draft.Read offset len) nm bs v = refl
granted-fits (draft.Write offset) nm bs v = refl
granted-fits draft.Free nm bs v = refl

module _ (d : Draft) (nm bs : List ℕ) (num v : ℕ) where
  expected-bytes-by : (t : Bool) → eqb num 0 ≡ t → expected_bytes (draft_expected d bs num v) ≡ half_bytes (expected_half d num v) nm bs
  expected-bytes-by true e = rw e (granted_bytes d nm bs v ∙ rw (eqb-true num 0 e))
  expected-bytes-by false e = rw e (sym (append-nil (number num)))

  expected-fits-by : (t : Bool) → eqb num 0 ≡ t → all_below (expected_numbers (draft_expected d bs num v)) ≡ half_fits (expected_half d num v) (length nm) (length bs)
  expected-fits-by true e = rw e (granted-fits d nm bs v ∙ rw (eqb-true num 0 e))
  expected-fits-by false e = rw e

  record-bytes : record_bytes (draft_told d nm bs num v) ≡ half_bytes (call_half d) nm bs ++ half_bytes (expected_half d num v) nm bs
  record-bytes = ap₂ (λ (x y : List ℕ). x ++ y) (call-bytes d nm bs) (expected-bytes-by (eqb num 0) refl)

  record-fits : all_numbers_fit (draft_told d nm bs num v) ≡ half_fits (call_half d) (length nm) (length bs) && half_fits (expected_half d num v) (length nm) (length bs)
  unfolding all_numbers_fit
  record-fits = ap₂ (λ (x y : Bool). x && y) (call_fits d nm bs) (expected-fits-by (eqb num 0) refl)

-- ---- what writing gives, by its tests: x and y are the halves
module _ (out nm bs : List ℕ) (d : Draft) (num v : ℕ) (x y : Half) (call : x ≡ call_half d) (answer : y ≡ expected_half d num v) where
  fits : all_numbers_fit (draft_told d nm bs num v) ≡ half_fits x (length nm) (length bs) && half_fits y (length nm) (length bs)
  fits = rw (call, answer) (record-fits d nm bs num v)

  whole : record_bytes (draft_told d nm bs num v) ≡ half_bytes x nm bs ++ half_bytes y nm bs
  whole = rw (call, answer) (record-bytes d nm bs num v)

  long : length (record_bytes (draft_told d nm bs num v)) ≡ half_size x (length nm) (length bs) + half_size y (length nm) (length bs)
  long = ap length whole ∙ length-append (half_bytes x nm bs) (half_bytes y nm bs) ∙ ap₂ ◌+◌ (length-half x nm bs) (length-half y nm bs)

  pub write-large : half_fits x (length nm) (length bs) && half_fits y (length nm) (length bs) ≡ false
      → write_record out (draft_told d nm bs num v) ≡ record { answer = refused 33 0; buffer = out }
  unfolding write_record
  write-large h = rw (fits, h)

  -- the first half is n bytes long, the whole record end bytes
  module _ (n end : ℕ) (one : n ≡ half_size x (length nm) (length bs)) (both : end ≡ n + half_size y (length nm) (length bs)) where
    pub write-short : length out < end → write_record out (draft_told d nm bs num v) ≡ record { answer = refused 33 0; buffer = out }
    unfolding write_record
    write-short h =
        let small : leb (length (record_bytes (draft_told d nm bs num v))) (length out) ≡ false = rw long (lt-leb (half_size x (length nm) (length bs) + half_size y (length nm) (length bs)) (length out) (omega arith)) in
        rw (small, and-false)

    -- s and t are the buffers that the two puts left
    pub write_done : (s t : List ℕ) → s ≡ put 0 (half_bytes x nm bs) out → t ≡ put n (half_bytes y nm bs) s
        → half_fits x (length nm) (length bs) && half_fits y (length nm) (length bs) ≡ true → end ≤ length out
        → write_record out (draft_told d nm bs num v) ≡ record { answer = value end; buffer = t }
    unfolding write_record
    write_done s t first second f h =
        let room : leb (length (record_bytes (draft_told d nm bs num v))) (length out) ≡ true = rw long (le-leb (half_size x (length nm) (length bs) + half_size y (length nm) (length bs)) (length out) (omega arith)) in
        let yes : all_numbers_fit (draft_told d nm bs num v) && leb (length (record_bytes (draft_told d nm bs num v))) (length out) ≡ true = rw (fits, f, room) in
        let all = put_behind 0 n (half_bytes x nm bs) (half_bytes y nm bs) out s t (omega arith) first (omega (arith, length-half x nm bs)) second in
        let size : end ≡ length (record_bytes (draft_told d nm bs num v)) = omega (arith, long) in
        rw (yes, all ∙ put_start _ _, size, whole)

-- an answer and a buffer that stand for what writing gives
pub record Writes (out : List ℕ) (r : Record) (a : Answer) (b : List ℕ) : Type 0 where
  pub answer : a ≡ (write_record out r).answer
  pub buffer : b ≡ (write_record out r).buffer

pub writes : {out : List ℕ} {r : Record} (a : Answer) (b : List ℕ) → write_record out r ≡ record { answer = a; buffer = b } → Writes out r a b
writes a b e = record { answer = ap (λ (w : Written). w.answer) (sym e); buffer = ap (λ (w : Written). w.buffer) (sym e) }
