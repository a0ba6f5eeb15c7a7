-- What the struct of a record read stands for, and that it has no field but its own.
use Rattle.std.specs.Prelude.{◌≡◌, refl, ◌≢◌, Bool, true, false, ℕ, ◌+◌, ◌<◌, Option, Some, None, IfSome, Result, List, T, eqb, zero, suc}
use Rattle.std.proofs.Common.{sym, ap, subst, ◌∙◌, arith, ne_eqb}
use Rattle.std.proofs.Math.Bool.{and-false}
use Rattle.std.proofs.lemmas.Bool.{lt-leb, eqb-false, eqb-true}
use Rattle.tfs_spec.specs.Traces.{Fitting, of-create, of-remove, of-read, of-write, of-count, of-refusal, write_record}
use Rattle.tfs_spec.specs.Traces as rules
use Rattle.tfs_trace.specs.declared.Span.{Span}
use Rattle.tfs_trace.specs.declared.Call.{Call}
use Rattle.tfs_trace.specs.declared.Call.TheVariants as call
use Rattle.tfs_trace.specs.declared.Expected.{Expected}
use Rattle.tfs_trace.specs.declared.Expected.TheVariants as expected
use Rattle.tfs_trace.specs.declared.Record.{Record}
use Rattle.tfs_trace.specs.declared.Cursor.{Cursor}
use Rattle.tfs_trace.specs.Told.{call_of, expected_of, record_of, told, CallInside, ExpectedInside, CallLies, ExpectedLies, InsideRecord, RecordLies}
use Rattle.tfs_trace_write.specs.declared.Draft.{Draft}
use Rattle.tfs_trace_write.specs.declared.TooLarge.{TooLarge}
use Rattle.tfs_trace_write.specs.Drafts.{draft_told, written_told}
use Rattle.tfs_trace_c.specs.declared.TfsEntry.{TfsEntry}
use Rattle.tfs_trace_c.specs.declared.TfsRecord.{TfsRecord}
use Rattle.tfs_trace_c.specs.declared.TfsWritten.{TfsWritten}
use Rattle.tfs_trace_c.specs.declared.Given.{Given}
use Rattle.tfs_trace_c.specs.Record.{known, entry_record, given_of, asked, struct_of, record_in, has_name, Shaped, Placed, draft_of, write_entry, written, written_of}

-- ---- which answers a request may expect, by cases
abbrev AnyOf : Bool → Bool → Bool → rules.Expected → Type 0
AnyOf plain bs amounts rules.nothing = plain ≡ true
AnyOf plain bs amounts (rules.bytes x) = bs ≡ true
AnyOf plain bs amounts (rules.amount n) = amounts ≡ true
AnyOf plain bs amounts (rules.refusal n) = n ≢ 0

abbrev Fits : rules.Call → rules.Expected → Type 0
Fits (rules.creating nm z) e = AnyOf true false false e
Fits (rules.removing nm) e = AnyOf true false false e
Fits (rules.reading nm o len) e = AnyOf false true false e
Fits (rules.writing nm o bs) e = AnyOf false false true e
Fits rules.counting e = AnyOf false false true e

fits-refusal : (c : rules.Call) (n : ℕ) → n ≢ 0 → Fits c (rules.refusal n)
fits-refusal (rules.creating nm z) n h = h
fits-refusal (rules.removing nm) n h = h
fits-refusal (rules.reading nm o len) n h = h
fits-refusal (rules.writing nm o bs) n h = h
fits-refusal rules.counting n h = h

fits : (c : rules.Call) (e : rules.Expected) → Fitting c e → Fits c e
fits _ _ (of-create nm z) = refl
fits _ _ (of-remove nm) = refl
fits _ _ (of-read nm o len bs) = refl
fits _ _ (of-write nm o bs n) = refl
fits _ _ (of-count n) = refl
fits _ _ (of-refusal c n h) = fits-refusal c n h

other : {A : Type 0} → false ≡ true → A
other e = let z : ◌≡◌ {A = ℕ} 0 1 = cc in absurd (omega arith)

-- ---- by the request and the answer expected
module _ (t : List ℕ) (next : ℕ) where
  abbrev Stands : Call → Expected → Type 0
  Stands x e = record_in t (asked x (given_of e) next) ≡ rules.parsed (rules.record_of (call_of t x) (expected_of t e)) next

  stands_by : (x : Call) (e : Expected) → Fits (call_of t x) (expected_of t e) → Stands x e
  stands_by (call.Create nm z) expected.Nothing f = refl
  stands_by (call.Create nm z) (expected.Bytes bs) f = other f
  stands_by (call.Create nm z) (expected.Amount n) f = other f
  stands_by (call.Create nm z) (expected.Refusal n) f = rw (ne_eqb n 0 f)
  stands_by (call.Remove nm) expected.Nothing f = refl
  stands_by (call.Remove nm) (expected.Bytes bs) f = other f
  stands_by (call.Remove nm) (expected.Amount n) f = other f
  stands_by (call.Remove nm) (expected.Refusal n) f = rw (ne_eqb n 0 f)
  stands_by (call.Read nm o len) expected.Nothing f = other f
  stands_by (call.Read nm o len) (expected.Bytes bs) f = refl
  stands_by (call.Read nm o len) (expected.Amount n) f = other f
  stands_by (call.Read nm o len) (expected.Refusal n) f = rw (ne_eqb n 0 f)
  stands_by (call.Write nm o x) expected.Nothing f = other f
  stands_by (call.Write nm o x) (expected.Bytes bs) f = other f
  stands_by (call.Write nm o x) (expected.Amount n) f = refl
  stands_by (call.Write nm o x) (expected.Refusal n) f = rw (ne_eqb n 0 f)
  stands_by call.Free expected.Nothing f = other f
  stands_by call.Free (expected.Bytes bs) f = other f
  stands_by call.Free (expected.Amount n) f = refl
  stands_by call.Free (expected.Refusal n) f = rw (ne_eqb n 0 f)

  shaped-by : (x : Call) (e : Expected) → Fits (call_of t x) (expected_of t e) → CallInside t x → ExpectedInside t e → Shaped t (asked x (given_of e) next)
  shaped-by (call.Create nm z) expected.Nothing f i j = record { own = refl; name = i; bytes = omega arith }
  shaped-by (call.Create nm z) (expected.Bytes bs) f i j = other f
  shaped-by (call.Create nm z) (expected.Amount n) f i j = other f
  shaped-by (call.Create nm z) (expected.Refusal n) f i j = record { own = rw (ne_eqb n 0 f); name = i; bytes = omega arith }
  shaped-by (call.Remove nm) expected.Nothing f i j = record { own = refl; name = i; bytes = omega arith }
  shaped-by (call.Remove nm) (expected.Bytes bs) f i j = other f
  shaped-by (call.Remove nm) (expected.Amount n) f i j = other f
  shaped-by (call.Remove nm) (expected.Refusal n) f i j = record { own = rw (ne_eqb n 0 f); name = i; bytes = omega arith }
  shaped-by (call.Read nm o len) expected.Nothing f i j = other f
  shaped-by (call.Read nm o len) (expected.Bytes bs) f i j = record { own = refl; name = i; bytes = j }
  shaped-by (call.Read nm o len) (expected.Amount n) f i j = other f
  shaped-by (call.Read nm o len) (expected.Refusal n) f i j = record { own = rw (ne_eqb n 0 f); name = i; bytes = omega arith }
  shaped-by (call.Write nm o x) expected.Nothing f i j = other f
  shaped-by (call.Write nm o x) (expected.Bytes bs) f i j = other f
  shaped-by (call.Write nm o x) (expected.Amount n) f i j = record { own = refl; name = i.0; bytes = i.1 }
  shaped-by (call.Write nm o x) (expected.Refusal n) f i j = record { own = rw (ne_eqb n 0 f); name = i.0; bytes = i.1 }
  shaped-by call.Free expected.Nothing f i j = other f
  shaped-by call.Free (expected.Bytes bs) f i j = other f
  shaped-by call.Free (expected.Amount n) f i j = record { own = refl; name = omega arith; bytes = omega arith }
  shaped-by call.Free (expected.Refusal n) f i j = record { own = rw (ne_eqb n 0 f); name = omega arith; bytes = omega arith }

  -- where name and bytes stand; `middle` is the end of the call
  module _ (at : ℕ) where
    abbrev Named : TfsRecord → Type 0
    Named r = T (has_name r.entry.kind) → rules.read_number t (at + 1) ≡ rules.parsed r.name_length r.name_at

    named_by : (middle : ℕ) (x : Call) (g : Given) → CallLies t (at + 1) x middle → Named (asked x g next)
    named_by m (call.Create nm z) g l h = l
    named_by m (call.Remove nm) g l h = l
    named_by m (call.Read nm o len) g l h = l
    named_by m (call.Write nm o bs) g l h = l.0
    named_by m call.Free g l h = absurd h

    abbrev WrittenThere : TfsRecord → Type 0
    WrittenThere r = r.entry.kind ≡ 4 → (c : rules.Call) × (rules.read_call t at ≡ rules.parsed c (r.bytes_at + r.bytes_length))

    written-by : (middle : ℕ) (x : Call) (g : Given) → rules.read_call t at ≡ rules.parsed (call_of t x) middle → CallLies t (at + 1) x middle → WrittenThere (asked x g next)
    written-by m (call.Create nm z) g c l h = absurd (omega arith)
    written-by m (call.Remove nm) g c l h = absurd (omega arith)
    written-by m (call.Read nm o len) g c l h = absurd (omega arith)
    written-by m (call.Write nm o bs) g c l h = (call_of t (call.Write nm o bs), c ∙ ap (rules.parsed (call_of t (call.Write nm o bs))) (sym l.1))
    written-by m call.Free g c l h = absurd (omega arith)

    abbrev GivenLast : TfsRecord → Type 0
    GivenLast r = r.entry.kind ≡ 3 → r.entry.refusal ≡ 0 → r.bytes_at + r.bytes_length ≡ r.next

    read-by : (nm : Span) (o len : ℕ) (e : Expected) → Fits (call_of t (call.Read nm o len)) (expected_of t e) → ExpectedLies e next → GivenLast (asked (call.Read nm o len) (given_of e) next)
    read-by nm o len expected.Nothing f l h z = other f
    read-by nm o len (expected.Bytes bs) f l h z = l
    read-by nm o len (expected.Amount n) f l h z = other f
    read-by nm o len (expected.Refusal n) f l h z = absurd (f z)

    given_by : (x : Call) (e : Expected) → Fits (call_of t x) (expected_of t e) → ExpectedLies e next → GivenLast (asked x (given_of e) next)
    given_by (call.Create nm z) e f l h = absurd (omega arith)
    given_by (call.Remove nm) e f l h = absurd (omega arith)
    given_by (call.Read nm o len) e f l h = read-by nm o len e f l h
    given_by (call.Write nm o bs) e f l h = absurd (omega arith)
    given_by call.Free e f l h = absurd (omega arith)

module _ (t : List ℕ) (at : ℕ) where
  stands : (a : Option (Record × Cursor)) → IfSome a (λ read. InsideRecord t read.0) → record_in t (struct_of a) ≡ told (record_of t) a
  stands (Some read) h = stands_by t read.1.at read.0.call read.0.expected (fits _ _ h.2)
  stands None h = refl

  shaped : (a : Option (Record × Cursor)) → IfSome a (λ read. InsideRecord t read.0) → Shaped t (struct_of a)
  shaped (Some read) h = shaped-by t read.1.at read.0.call read.0.expected (fits _ _ h.2) h.0 h.1
  shaped None h = record { own = refl; name = omega arith; bytes = omega arith }

  placed : (a : Option (Record × Cursor)) → IfSome a (λ read. InsideRecord t read.0) → IfSome a (λ read. RecordLies t at read.0 read.1.at) → Placed t at (struct_of a)
  placed (Some read) h l =
      record {
        named = named_by t read.1.at at l.middle read.0.call (given_of read.0.expected) l.call_lies;
        written = written-by t read.1.at at l.middle read.0.call (given_of read.0.expected) l.called l.call_lies;
        given = given_by t read.1.at at read.0.call read.0.expected (fits _ _ h.2) l.expected-lies;
      }
  placed None h l = record { named = λ k. absurd k; written = λ k. absurd (omega arith); given = λ k z. absurd (omega arith) }

  pub read_is : (a : Option (Record × Cursor)) {r : TfsRecord} {x : rules.Parsed rules.Record} → r ≡ struct_of a → told (record_of t) a ≡ x → IfSome a (λ read. InsideRecord t read.0) → IfSome a (λ read. RecordLies t at read.0 read.1.at) → (record_in t r ≡ x) × Shaped t r × Placed t at r
  read_is a e say h l = (ap (record_in t) e ∙ stands a h ∙ say, subst (Shaped t) (sym e) (shaped a h), subst (Placed t at) (sym e) (placed a h l))

-- ---- writing
none_known : (k : ℕ) → k ≢ 1 → k ≢ 2 → k ≢ 3 → k ≢ 4 → k ≢ 5 → known k ≡ false
none_known zero a b c d f = refl
none_known (suc k) a b c d f = let high : 5 < suc k = omega arith in rw (lt-leb (suc k) 5 high, and-false)

module _ (e : TfsEntry) (nm bs : List ℕ) where
  -- the draft of an entry stands for its record
  abbrev Stood : Option Draft → Type 0
  Stood (Some x) = (known e.kind ≡ true) × (draft_told x nm bs e.refusal e.value ≡ entry_record e nm bs)
  Stood None = known e.kind ≡ false

  drafted : (a b c d f : Bool) → eqb e.kind 1 ≡ a → eqb e.kind 2 ≡ b → eqb e.kind 3 ≡ c → eqb e.kind 4 ≡ d → eqb e.kind 5 ≡ f → Stood (draft_of e)
  drafted true b c d f h i j k l = let n : e.kind ≡ 1 = eqb-true _ _ h in rw h (rw n, rw h)
  drafted false true c d f h i j k l = let n : e.kind ≡ 2 = eqb-true _ _ i in rw (h, i) (rw n, rw (h, i))
  drafted false false true d f h i j k l = let n : e.kind ≡ 3 = eqb-true _ _ j in rw (h, i, j) (rw n, rw (h, i, j))
  drafted false false false true f h i j k l = let n : e.kind ≡ 4 = eqb-true _ _ k in rw (h, i, j, k) (rw n, rw (h, i, j, k))
  drafted false false false false true h i j k l = let n : e.kind ≡ 5 = eqb-true _ _ l in rw (h, i, j, k, l) (rw n, rw (h, i, j, k))
  drafted false false false false false h i j k l = rw (h, i, j, k, l) (none_known e.kind (eqb-false _ _ h) (eqb-false _ _ i) (eqb-false _ _ j) (eqb-false _ _ k) (eqb-false _ _ l))

  stood : (o : Option Draft) → o ≡ draft_of e → Stood o
  stood o q = subst Stood (sym q) (drafted (eqb e.kind 1) (eqb e.kind 2) (eqb e.kind 3) (eqb e.kind 4) (eqb e.kind 5) refl refl refl refl refl)

  module _ (out : List ℕ) where
    abbrev Answers : TfsWritten → List ℕ → Type 0
    Answers r left = (r ≡ written_of (write_entry out e nm bs).answer) × (left ≡ (write_entry out e nm bs).buffer)

    pub none_is : None ≡ draft_of e → Answers (written 33 0) out
    unfolding written_of
    none_is q = let no : known e.kind ≡ false = stood None q in (rw no, rw no)

    pub written_is : (w : Result ℕ TooLarge) (d : Draft) {r : TfsWritten} {left : List ℕ} → Some d ≡ draft_of e → written_told w ≡ (write_record out (draft_told d nm bs e.refusal e.value)).answer → left ≡ (write_record out (draft_told d nm bs e.refusal e.value)).buffer → r ≡ written_of (written_told w) → Answers r left
    written_is w d made told put q =
        let known_kind = stood (Some d) made in
        let all = ap (write_record out) known_kind.1 in
        (rw known_kind.0 (q ∙ ap written_of told ∙ ap (λ (x : rules.Written). written_of x.answer) all), rw known_kind.0 (put ∙ ap (λ (x : rules.Written). x.buffer) all))
