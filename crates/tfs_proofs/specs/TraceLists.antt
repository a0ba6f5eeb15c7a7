-- Whole traces: what is written is read, what is read was written so, and what is no trace; and writing refused.
use Rattle.std.specs.Prelude.{◌≡◌, refl, ◌≢◌, ◌↔◌, ◌⊎◌, Bool, true, false, cond, ◌&&◌, ℕ, zero, suc, ◌+◌, ◌-◌, ◌≤◌, ◌<◌, List, [], ◌∷◌, ◌++◌, length, get_or, take, drop, T, ltb, leb}
use Rattle.std.proofs.Common.{sym, ap, ap₂, ◌∙◌, subst, inl, inr, append_assoc, append-nil, arith, length-drop, length-append, drop_of_length-le, take_at, drop-drop, get_or-drop, get_or-append-add, ltb→lt, leb→le, lt→ltb, le→leb, nltb→le}
use Rattle.std.proofs.Math.ListN.{get_or-append}
use Rattle.std.proofs.Math.Seq.{drop-append_seam}
use Rattle.std.proofs.Math.Dec.{nleb→lt, not_T}
use Rattle.lists.specs.Lists.{part}
use Rattle.list_laws.specs.Test.{by-test, cond_yes, and-of, and_l, and_r}
use Rattle.tfs_spec.specs.Consistent.{Bytes}
use Rattle.tfs_spec.specs.Requests.{value, refused, granted, count_of}
use Rattle.tfs_spec.specs.Traces.{groups, read_call, read_expected, read_number, read_string, read_groups, read_create, read_remove, read_read, read_write, example_bytes, example_records, Record, record_bytes, trace_bytes, all_below, call_numbers, expected_numbers, all_numbers_fit, Written, WrittenAtStart, not_written, write_record, write_all, Parsed, parsed, malformed, read_record, Trace, finished, spoiled, holds, held_by, read_from, read_trace, StandsAt, Recordable, AllRecordable, holds_all, NoRecord}
use Rattle.tfs_facts.specs.Forward.{never, record-forward, from_end, from_step}
use Rattle.tfs_proofs.specs.TraceNumbers.{stands}
use Rattle.tfs_proofs.specs.TraceRecords.{split-here, join-here, record-reads, record-so}

-- the rest of a trace from a position on
abbrev pub rest_from : List ℕ → ℕ → Trace
rest_from t at = read_from (length t - at) t at

pub read-is-rest : (t : List ℕ) → read_trace t ≡ rest_from t 0
unfolding read_trace
read-is-rest t = ap (λ (n : ℕ). read_from n t 0) (omega arith)

-- a record read at a position leads on
pub step-parsed : (t : List ℕ) (at : ℕ) (r : Record) (next : ℕ) → read_record t at ≡ parsed r next → rest_from t at ≡ holds r (rest_from t next)
step-parsed t at r next e =
    let m = record-forward t at r next e in
    from_step t at (omega arith) ∙ ap (λ (x : Parsed Record). held_by x (λ k. read_from (length t - k) t k)) e

-- ---- records that stand in a trace are read
pub rest-holds : (rs : List Record) → AllRecordable rs → (t : List ℕ) (at next : ℕ) → StandsAt t at (trace_bytes rs) next → rest_from t at ≡ holds_all rs (rest_from t next)
rest-holds [] ok t at next s = ap (rest_from t) (sym (s.ends ∙ omega arith))
rest-holds (r ∷ rs) ok t at next s =
    let w = split-here t at next (record_bytes r) (trace_bytes rs) s in
    let a : ℕ = at + length (record_bytes r) in
    step-parsed t at r a (record-reads r ok.0 t at a w.0) ∙ ap (holds r) (rest-holds rs ok.1 t a next w.1)

-- they stand at the start of what begins with them
pub begins : (bs rest : List ℕ) → StandsAt (bs ++ rest) 0 bs (length bs)
begins bs rest = stands (bs ++ rest) 0 (length bs) bs rest refl (omega arith)

pub trace-then : (rs : List Record) → AllRecordable rs → (rest : List ℕ) → read_trace (trace_bytes rs ++ rest) ≡ holds_all rs (rest_from (trace_bytes rs ++ rest) (length (trace_bytes rs)))
trace-then rs ok rest = read-is-rest (trace_bytes rs ++ rest) ∙ rest-holds rs ok (trace_bytes rs ++ rest) 0 (length (trace_bytes rs)) (begins (trace_bytes rs) rest)

pub written_read : (rs : List Record) → AllRecordable rs → read_trace (trace_bytes rs) ≡ holds_all rs finished
written_read rs ok =
    let t : List ℕ = trace_bytes rs in
    let s : StandsAt t 0 t (length t) = stands t 0 (length t) t [] (sym (append-nil t)) (omega arith) in
    read-is-rest t ∙ rest-holds rs ok t 0 (length t) s ∙ ap (holds_all rs) (from_end t (length t - length t) (length t) (omega arith))

pub positions : (before : List Record) (r : Record) (rest : List ℕ) → Recordable r → read_record (trace_bytes before ++ (record_bytes r ++ rest)) (length (trace_bytes before)) ≡ parsed r (length (trace_bytes before) + length (record_bytes r))
positions before r rest ok =
    let b : List ℕ = trace_bytes before in
    record-reads r ok (b ++ (record_bytes r ++ rest)) (length b) (length b + length (record_bytes r)) (stands (b ++ (record_bytes r ++ rest)) (length b) (length b + length (record_bytes r)) (record_bytes r) rest (drop-append_seam b (record_bytes r ++ rest)) refl)

-- ---- records that are read stand in the trace
-- the records rs, from position at on, and then x
record ThenRest (t : List ℕ) (at : ℕ) (rs : List Record) (x : Trace) : Type 0 where
  next : ℕ
  ok : AllRecordable rs
  there : StandsAt t at (trace_bytes rs) next
  then-x : rest_from t next ≡ x

not-held : {r : Record} {x : Trace} → finished ≡ holds r x → ⊥
not-held e = let z : ◌≡◌ {A = ℕ} 0 1 = cc in omega arith

not-spoiled : {r : Record} {x : Trace} → spoiled ≡ holds r x → ⊥
not-spoiled e = let z : ◌≡◌ {A = ℕ} 0 1 = cc in omega arith

same-record : {r q : Record} {x y : Trace} → holds r x ≡ holds q y → r ≡ q
same-record e = cc

same_rest : {r q : Record} {x y : Trace} → holds r x ≡ holds q y → x ≡ y
same_rest e = cc

-- the first record of what is read
first_read : (t : List ℕ) (at : ℕ) (r : Record) (x : Trace) → rest_from t at ≡ holds r x → (next : ℕ) × (read_record t at ≡ parsed r next) × (rest_from t next ≡ x)
first_read t at r x e = by-test (ltb at (length t))
    (λ u. go (read_record t at) refl (sym (from_step t at (ltb→lt at (length t) u)) ∙ e))
    (λ u. absurd (not-held (sym (from_end t (length t - at) at (nltb→le at (length t) u)) ∙ e)))
  where
    go : (p : Parsed Record) → read_record t at ≡ p → held_by p (λ k. read_from (length t - k) t k) ≡ holds r x → (next : ℕ) × (read_record t at ≡ parsed r next) × (rest_from t next ≡ x)
    go (parsed q next) f e = (next, f ∙ ap (λ (y : Record). parsed y next) (same-record e), same_rest e)
    go malformed f e = absurd (not-spoiled e)

rest-so : (t : List ℕ) → Bytes t → (rs : List Record) (at : ℕ) (x : Trace) → rest_from t at ≡ holds_all rs x → ThenRest t at rs x
rest-so t small [] at x e = record { next = at; ok = tt; there = stands t at at [] (drop at t) refl (omega arith); then-x = e }
rest-so t small (r ∷ rs) at x e =
    let f = first_read t at r (holds_all rs x) e in
    let w = record-so t small at r f.0 f.1 in
    let ih = rest-so t small rs f.0 x f.2 in
    record { next = ih.next; ok = (w.0, ih.ok); there = join-here t at f.0 ih.next (record_bytes r) (trace_bytes rs) w.1 ih.there; then-x = ih.then-x }

-- nothing more is read only at the end
rest-ends : (t : List ℕ) (at : ℕ) → rest_from t at ≡ finished → length t ≤ at
rest-ends t at e = by-test (ltb at (length t))
    (λ u. absurd (go (read_record t at) (sym (from_step t at (ltb→lt at (length t) u)) ∙ e)))
    (λ u. nltb→le at (length t) u)
  where
    go : (p : Parsed Record) → held_by p (λ k. read_from (length t - k) t k) ≡ finished → ⊥
    go (parsed q next) e = not-held (sym e)
    go malformed e = let z : ◌≡◌ {A = ℕ} 0 1 = cc in omega arith

written_at : (t : List ℕ) → Bytes t → (at : ℕ) (rs : List Record) → rest_from t at ≡ holds_all rs finished → (trace_bytes rs ≡ drop at t) × AllRecordable rs
written_at t small at rs e =
    let w = rest-so t small rs at finished e in
    let h : length t ≤ w.next = rest-ends t w.next w.then-x in
    (sym (w.there.here ∙ ap (λ (x : List ℕ). trace_bytes rs ++ x) (drop_of_length-le t h) ∙ append-nil (trace_bytes rs)), w.ok)

pub read-written : (t : List ℕ) → Bytes t → (rs : List Record) → read_trace t ≡ holds_all rs finished → (trace_bytes rs ≡ t) × AllRecordable rs
read-written t small rs e = written_at t small 0 rs (sym (read-is-rest t) ∙ e)

-- ---- what is no trace
rest-spoiled : (t : List ℕ) (at : ℕ) → rest_from t at ≡ spoiled → (at < length t) × (read_record t at ≡ malformed)
rest-spoiled t at e = by-test (ltb at (length t))
    (λ u. (ltb→lt at (length t) u, go (read_record t at) (sym (from_step t at (ltb→lt at (length t) u)) ∙ e)))
    (λ u. absurd (apart (sym (from_end t (length t - at) at (nltb→le at (length t) u)) ∙ e)))
  where
    apart : finished ≡ spoiled → ⊥
    apart e = let z : ◌≡◌ {A = ℕ} 0 1 = cc in omega arith

    go : (p : Parsed Record) → held_by p (λ k. read_from (length t - k) t k) ≡ spoiled → p ≡ malformed
    go (parsed q next) e = absurd (not-spoiled (sym e))
    go malformed e = refl

-- records, then bytes with no record at their head
abbrev pub Spoiled : List ℕ → List Record → Type 0
Spoiled t rs = AllRecordable rs × (rest : List ℕ) × (t ≡ trace_bytes rs ++ rest) × NoRecord rest

spoiled-at : (t : List ℕ) → Bytes t → (at : ℕ) (rs : List Record) → rest_from t at ≡ holds_all rs spoiled → Spoiled (drop at t) rs
spoiled-at t small at rs e =
    let w = rest-so t small rs at spoiled e in
    let h = rest-spoiled t w.next w.then-x in
    (w.ok, drop w.next t, w.there.here, record { some = omega (arith, length-drop w.next t, h.0); none = λ r rest ok q. clash t w.next r rest ok q h.1 })
  where
    clash : (t : List ℕ) (at : ℕ) (r : Record) (rest : List ℕ) → Recordable r → drop at t ≡ record_bytes r ++ rest → read_record t at ≡ malformed → ⊥
    clash t at r rest ok q m =
        let p = record-reads r ok t at (at + length (record_bytes r)) (stands t at (at + length (record_bytes r)) (record_bytes r) rest q refl) in
        let f : malformed ≡ parsed r (at + length (record_bytes r)) = sym m ∙ p in
        never f

-- no record is read where none stands
none_read : (rs : List Record) (rest : List ℕ) → Bytes (trace_bytes rs ++ rest) → NoRecord rest → (p : Parsed Record) → read_record (trace_bytes rs ++ rest) (length (trace_bytes rs)) ≡ p → p ≡ malformed
none_read rs rest small bad malformed e = refl
none_read rs rest small bad (parsed r next) e =
    let w = record-so (trace_bytes rs ++ rest) small (length (trace_bytes rs)) r next e in
    absurd (bad.none r (drop next (trace_bytes rs ++ rest)) w.0 (sym (drop-append_seam (trace_bytes rs) rest) ∙ w.1.here))

of-spoiled : (t : List ℕ) → Bytes t → (rs : List Record) → Spoiled t rs → read_trace t ≡ holds_all rs spoiled
of-spoiled t small rs w =
    let rest : List ℕ = w.1 in
    let n : ℕ = length (trace_bytes rs) in
    let some = w.3.some in
    let m = none_read rs rest (subst Bytes w.2 small) w.3 (read_record (trace_bytes rs ++ rest) n) refl in
    ap read_trace w.2 ∙ trace-then rs w.0 rest
    ∙ ap (holds_all rs) (from_step (trace_bytes rs ++ rest) n (omega (arith, length-append (trace_bytes rs) rest)) ∙ ap (λ (x : Parsed Record). held_by x (λ k. read_from (length (trace_bytes rs ++ rest) - k) (trace_bytes rs ++ rest) k)) m)

pub read-spoiled : (t : List ℕ) → Bytes t → (rs : List Record) → (read_trace t ≡ holds_all rs spoiled) ↔ Spoiled t rs
read-spoiled t small rs = (λ e. spoiled-at t small 0 rs (sym (read-is-rest t) ∙ e), of-spoiled t small rs)

-- ---- every trace is records, then its end or a malformed one
pub record Ended (x : Trace) : Type 0 where
  pub records : List Record
  pub last : Trace
  pub either : (last ≡ finished) ⊎ (last ≡ spoiled)
  pub is : x ≡ holds_all records last

pub ended : (x : Trace) → Ended x
ended finished = record { records = []; last = finished; either = inl refl; is = refl }
ended spoiled = record { records = []; last = spoiled; either = inr refl; is = refl }
ended (holds r x) = let w = ended x in record { records = r ∷ w.records; last = w.last; either = w.either; is = ap (holds r) w.is }

-- the rest of a trace is a trace
pub rest-drop : (t : List ℕ) → Bytes t → (at : ℕ) → rest_from t at ≡ read_trace (drop at t)
rest-drop t small at = let w = ended (rest_from t at) in go w.records w.last w.is w.either
  where
    bytes : Bytes (drop at t)
    bytes i = subst (λ (x : ℕ). x < 256) (sym (get_or-drop at t i 0)) (small (at + i))

    go : (rs : List Record) (x : Trace) → rest_from t at ≡ holds_all rs x → (x ≡ finished) ⊎ (x ≡ spoiled) → rest_from t at ≡ read_trace (drop at t)
    go rs x e (inl q) =
        let f : rest_from t at ≡ holds_all rs finished = e ∙ ap (holds_all rs) q in
        let w = written_at t small at rs f in
        f ∙ sym (written_read rs w.1) ∙ ap read_trace w.0
    go rs x e (inr q) =
        let f : rest_from t at ≡ holds_all rs spoiled = e ∙ ap (holds_all rs) q in
        f ∙ sym ((read-spoiled (drop at t) bytes rs).1 (spoiled-at t small at rs f))

-- ---- writing
write-tests : (fits room : Bool) (a b : Written) → a ≢ b → (cond {A = Written} (fits && room) a b ≡ b) ↔ ((T room → ⊥) ⊎ (T fits → ⊥))
write-tests true true a b other = (λ e. absurd (other e), λ w. absurd (neither w))
  where
    neither : (T true → ⊥) ⊎ (T true → ⊥) → ⊥
    neither (inl f) = f tt
    neither (inr f) = f tt
write-tests true false a b other = (λ e. inl (λ x. x), λ w. refl)
write-tests false room a b other = (λ e. inr (λ x. x), λ w. refl)

-- what is written, where it is
bytes_written : List ℕ → Record → Written
bytes_written out r = record { answer = value (length (record_bytes r)); buffer = record_bytes r ++ drop (length (record_bytes r)) out }

other-answer : (out : List ℕ) (r : Record) → bytes_written out r ≢ not_written out
unfolding bytes_written
other-answer out r e = let a : value (length (record_bytes r)) ≡ refused 33 0 = ap (λ (w : Written). w.answer) e in let z : ◌≡◌ {A = ℕ} 0 1 = cc in omega arith

pub refused-33 : (out : List ℕ) (r : Record) → (write_record out r ≡ record { answer = refused 33 0; buffer = out }) ↔ ((length out < length (record_bytes r)) ⊎ (T (all_numbers_fit r) → ⊥))
unfolding write_record bytes_written
refused-33 out r =
    let w = write-tests (all_numbers_fit r) (leb (length (record_bytes r)) (length out)) (bytes_written out r) (not_written out) (other-answer out r) in
    (λ e. short (w.0 e), λ h. w.1 (long h))
  where
    l : ℕ
    l = length (record_bytes r)

    short : (T (leb l (length out)) → ⊥) ⊎ (T (all_numbers_fit r) → ⊥) → (length out < length (record_bytes r)) ⊎ (T (all_numbers_fit r) → ⊥)
    short (inl f) = inl (nleb→lt l (length out) (not_T (leb l (length out)) f))
    short (inr f) = inr f

    long : (length out < length (record_bytes r)) ⊎ (T (all_numbers_fit r) → ⊥) → (T (leb l (length out)) → ⊥) ⊎ (T (all_numbers_fit r) → ⊥)
    long (inl h) = inl (λ t. let k = leb→le l (length out) t in omega arith)
    long (inr f) = inr f

written_is : (out : List ℕ) (r : Record) → T (all_numbers_fit r) → length (record_bytes r) ≤ length out → write_record out r ≡ bytes_written out r
unfolding write_record bytes_written
written_is out r fits room =
    let bs : List ℕ = record_bytes r in
    cond_yes (all_numbers_fit r && leb (length bs) (length out)) (bytes_written out r) (not_written out) (and-of (all_numbers_fit r) (leb (length bs) (length out)) fits (le→leb (length bs) (length out) room))

-- the rest of the buffer behind a record
pub written_all : (rs : List Record) → AllRecordable rs → (out : List ℕ) → length (trace_bytes rs) ≤ length out → write_all out rs ≡ trace_bytes rs ++ drop (length (trace_bytes rs)) out
unfolding write_all bytes_written
written_all [] ok out room = refl
written_all (r ∷ rs) ok out room =
    let bs : List ℕ = record_bytes r in
    let n : ℕ = length bs in
    let l : length (bs ++ trace_bytes rs) ≡ n + length (trace_bytes rs) = length-append bs (trace_bytes rs) in
    let w = written_is out r ok.0.small (omega arith) in
    let ih : write_all (drop n out) rs ≡ trace_bytes rs ++ drop (length (trace_bytes rs)) (drop n out) = written_all rs ok.1 (drop n out) (omega (arith, length-drop n out)) in
    ap (λ (x : Written). cond (granted x.answer) (take (count_of x.answer) x.buffer ++ write_all (drop (count_of x.answer) x.buffer) rs) out) w
    ∙ ap₂ (λ (a b : List ℕ). a ++ b) (take_at bs (drop n out) n refl) (ap (λ (x : List ℕ). write_all x rs) (drop-append_seam bs (drop n out)) ∙ ih)
    ∙ sym (append_assoc bs (trace_bytes rs) (drop (length (trace_bytes rs)) (drop n out)))
    ∙ ap (λ (x : List ℕ). (bs ++ trace_bytes rs) ++ x) (drop-drop (length (trace_bytes rs)) n out ∙ ap (λ (k : ℕ). drop k out) (sym l))

pub written : (out : List ℕ) (r : Record) → T (all_numbers_fit r) → length (record_bytes r) ≤ length out → WrittenAtStart out (record_bytes r) (write_record out r)
unfolding write_record bytes_written
written out r fits room =
    let bs : List ℕ = record_bytes r in
    let e : write_record out r ≡ bytes_written out r = written_is out r fits room in
    subst (WrittenAtStart out bs) (sym e) (record {
      answer = refl;
      start = λ i h. get_or-append bs (drop (length bs) out) 0 i h;
      rest = λ i h. ap (λ (k : ℕ). get_or (bs ++ drop (length bs) out) k 0) (past i h) ∙ get_or-append-add bs (drop (length bs) out) (i - length bs) 0 ∙ get_or-drop (length bs) out (i - length bs) 0 ∙ ap (λ (k : ℕ). get_or out k 0) (sym (past i h));
      long = omega (arith, length-append bs (drop (length bs) out), length-drop (length bs) out);
    })
  where
    past : (i : ℕ) → length (record_bytes r) ≤ i → i ≡ length (record_bytes r) + (i - length (record_bytes r))
    past i h = omega arith

below_all : (ns : List ℕ) → T (all_below ns) ↔ ((i : ℕ) → get_or ns i 0 < 4294967296)
below_all ns = (to ns, of ns)
  where
    to : (ns : List ℕ) → T (all_below ns) → (i : ℕ) → get_or ns i 0 < 4294967296
    to [] h i = omega arith
    to (n ∷ ns) h zero = ltb→lt n 4294967296 (and_l (ltb n 4294967296) (all_below ns) h)
    to (n ∷ ns) h (suc i) = to ns (and_r (ltb n 4294967296) (all_below ns) h) i

    of : (ns : List ℕ) → ((i : ℕ) → get_or ns i 0 < 4294967296) → T (all_below ns)
    of [] h = tt
    of (n ∷ ns) h = and-of (ltb n 4294967296) (all_below ns) (lt→ltb n 4294967296 (h 0)) (of ns (λ i. h (suc i)))

pub numbers_fit : (r : Record) → T (all_numbers_fit r) ↔ (((i : ℕ) → get_or (call_numbers r.call) i 0 < 4294967296) × ((i : ℕ) → get_or (expected_numbers r.expected) i 0 < 4294967296))
unfolding all_numbers_fit
numbers_fit r =
    let c : List ℕ = call_numbers r.call in
    let e : List ℕ = expected_numbers r.expected in (
      λ h. ((below_all c).0 (and_l (all_below c) (all_below e) h), (below_all e).0 (and_r (all_below c) (all_below e) h)),
      λ w. and-of (all_below c) (all_below e) ((below_all c).1 w.0) ((below_all e).1 w.1),
    )

pub example : (trace_bytes example_records ≡ example_bytes) × (read_trace example_bytes ≡ holds_all example_records finished)
unfolding groups read_trace read_from read_record read_call read_expected read_number read_string read_groups read_create read_remove read_read read_write part
example = (refl, refl)
