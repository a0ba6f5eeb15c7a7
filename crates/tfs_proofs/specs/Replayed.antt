-- Replay: what each result means, requests recorded and replayed, traces joined.
use Rattle.std.specs.Prelude.{◌≡◌, ◌≢◌, ◌↔◌, ◌⊎◌, Bool, true, false, not, cond, ◌&&◌, get_or, take, drop, ltb, eqb}
use Rattle.std.proofs.Math.Path.{refl, sym, ap, ap₂, subst}
use Rattle.std.proofs.Common.{◌∙◌, arith, mul_comm, take_at, eqb→eq}
use Rattle.std.proofs.Math.Logic.{inl, inr, ⊎_elim}
use Prim.Native.Nat.{ℕ, zero, suc, ◌+◌, ◌-◌, ◌*◌, ◌≤◌, ◌<◌, min}
use mathlib.Core.List.{List, [], ◌∷◌, ◌++◌, append_assoc, append-nil}
use Rattle.std.proofs.Math.Nat.{mul-le-mul_right, suc-mul}
use Rattle.std.proofs.Math.ListN.{length, length-take, length-replicate}
use Rattle.std.proofs.Math.Seq.{drop-append_seam}
use Rattle.std.proofs.Math.Dec.{T, not_T}
use Rattle.lists.specs.Lists.{same_list, table, zeros}
use Rattle.list_laws.specs.Table.{length-table}
use Rattle.list_laws.specs.Test.{by-test, cond_yes, cond_no, and-of, eqb_of, same-eq, same_refl}
use Rattle.tfs_spec.specs.Layout.{BlockSize, blocks, View, view, size, place, free_blocks}
use Rattle.tfs_spec.specs.Check.{Verdict, consistent, broken, check}
use Rattle.tfs_spec.specs.Consistent.{Bytes, Consistent}
use Rattle.tfs_spec.specs.Requests.{Answer, done, value, transferred, unused, file, refused, granted, refusal_of, count_of, Outcome, checked, Lookup, in_slot, denied as not_found, lookup, looked, counted, transfer_answer, read_buffer, read_file, refuse, read, perform, write, free_answer, requests, after_all}
use Rattle.tfs_spec.specs.Traces.{all_numbers_fit, all_below, call_numbers, expected_numbers, Call, creating, removing, reading, writing, counting, Expected, nothing, bytes, amount, refusal, Record, record_of, record_bytes, trace_bytes, Trace, finished, spoiled, holds, read_trace, Fitting, of-create, of-remove, of-read, of-write, of-count, of-refusal, Recordable, AllRecordable, holds_all}
use Rattle.tfs_spec.specs.Replays.{request_of, run, read_bytes, agrees, Replayed, replayed, malformed_at, differs_at, denied, Replay, replay_of, replay_on, replay, result_of, answered, recorded, after_calls, calls_of, SmallCalls, AllAgree, ReplayRule, refused-by-check, whole, stops-malformed, stops-differing, count_on, go_on}
use Rattle.tfs_facts.specs.CheckMeans.{check-means, check-breaks}
use Rattle.tfs_facts.specs.Total.{adds-up}
use Rattle.tfs_facts.specs.Views.{view-n}
use Rattle.tfs_proofs.specs.Transfers.{transfer_view, read_answer, write-answer}
use Rattle.tfs_proofs.specs.Replies.{numbered}
use Rattle.tfs_proofs.specs.TraceRecords.{small_of, of-small}
use Rattle.tfs_proofs.specs.TraceLists.{rest_from, step-parsed, trace-then, written_read, read-written, Spoiled, read-spoiled, positions, ended, rest-drop}
use Rattle.tfs_proofs.specs.Histories.{history-law}

-- ---- an answer agrees exactly if the record of it is the record
granted-zero : (a : Answer) → T (granted a) → refusal_of a ≡ 0
granted-zero done t = refl
granted-zero (value x) t = refl
granted-zero (transferred c m) t = refl
granted-zero unused t = refl
granted-zero (file nm i z) t = refl
granted-zero (refused num p) t = absurd t

result-no-refusal : (c : Call) (o : Outcome) (n : ℕ) → result_of c o ≢ refusal n
result-no-refusal (creating nm z) o n e = let q : ◌≡◌ {A = ℕ} 0 1 = cc in omega arith
result-no-refusal (removing nm) o n e = let q : ◌≡◌ {A = ℕ} 0 1 = cc in omega arith
result-no-refusal (reading nm a len) o n e = let q : ◌≡◌ {A = ℕ} 0 1 = cc in omega arith
result-no-refusal (writing nm a bs) o n e = let q : ◌≡◌ {A = ℕ} 0 1 = cc in omega arith
result-no-refusal counting o n e = let q : ◌≡◌ {A = ℕ} 0 1 = cc in omega arith

same-refusal : {m n : ℕ} → refusal m ≡ refusal n → m ≡ n
same-refusal e = cc

same-amount : {m n : ℕ} → amount m ≡ amount n → m ≡ n
same-amount e = cc

same_bytes : {a b : List ℕ} → bytes a ≡ bytes b → a ≡ b
same_bytes e = cc

by-grant : (g : Bool) (n : ℕ) → T g ↔ (cond g nothing (refusal n) ≡ nothing)
by-grant true n = (λ t. refl, λ q. tt)
by-grant false n = (λ t. absurd t, λ q. let z : ◌≡◌ {A = ℕ} 0 1 = cc in absurd (omega arith))

-- granted with the result x, which a test compares with e
by_both : (num : ℕ) (e x : Expected) → refusal num ≢ e → (g same : Bool) → (T same ↔ (x ≡ e)) → T (g && same) ↔ (cond g x (refusal num) ≡ e)
by_both num e x other true same w = w
by_both num e x other false same w = (λ t. absurd t, λ q. absurd (other q))

no_bytes : (num : ℕ) (bs : List ℕ) → refusal num ≢ bytes bs
no_bytes num bs e = let z : ◌≡◌ {A = ℕ} 0 1 = cc in omega arith

no-amount : (num n : ℕ) → refusal num ≢ amount n
no-amount num n e = let z : ◌≡◌ {A = ℕ} 0 1 = cc in omega arith

amount-test : (k n : ℕ) → T (eqb k n) ↔ (amount k ≡ amount n)
amount-test k n = (λ t. ap amount (eqb→eq k n t), λ q. let z : k ≡ n = same-amount q in eqb_of z)

pub agree : (c : Call) (e : Expected) → Fitting c e → (o : Outcome) → T (agrees o e) ↔ (answered c o ≡ e)
unfolding agrees
agree _ _ (of-create nm z) o = by-grant (granted o.answer) (refusal_of o.answer)
agree _ _ (of-remove nm) o = by-grant (granted o.answer) (refusal_of o.answer)
agree _ _ (of-read nm a len bs) o = by_both (refusal_of o.answer) (bytes bs) (bytes (read_bytes o)) (no_bytes _ bs) (granted o.answer) (same_list bs (read_bytes o)) (λ t. ap bytes (sym (same-eq bs (read_bytes o) t)), λ q. subst (λ (x : List ℕ). T (same_list bs x)) (sym (same_bytes q)) (same_refl bs))
agree _ _ (of-write nm a bs n) o = by_both (refusal_of o.answer) (amount n) (amount (count_of o.answer)) (no-amount _ n) (granted o.answer) (eqb (count_of o.answer) n) (amount-test (count_of o.answer) n)
agree _ _ (of-count n) o = by_both (refusal_of o.answer) (amount n) (amount (count_of o.answer)) (no-amount _ n) (granted o.answer) (eqb (count_of o.answer) n) (amount-test (count_of o.answer) n)
agree _ _ (of-refusal c n z) o = by-test (granted o.answer)
    (λ g. (λ t. absurd (z (sym (eqb→eq _ n t) ∙ granted-zero o.answer g)), λ q. absurd (result-no-refusal c o n (sym (cond_yes (granted o.answer) (result_of c o) (refusal (refusal_of o.answer)) g) ∙ q))))
    (λ g. (λ t. cond_no (granted o.answer) (result_of c o) (refusal (refusal_of o.answer)) g ∙ ap refusal (eqb→eq _ n t), λ q. let k : refusal_of o.answer ≡ n = same-refusal (sym (cond_no (granted o.answer) (result_of c o) (refusal (refusal_of o.answer)) g) ∙ q) in eqb_of k))

-- ---- records that agree are replayed
same_head : {r q : Record} {rs qs : List Record} → r ∷ rs ≡ q ∷ qs → r ≡ q
same_head e = cc

same-tail : {r q : Record} {rs qs : List Record} → r ∷ rs ≡ q ∷ qs → rs ≡ qs
same-tail e = cc

module _ (B : ℕ) where
  -- one record
  held-agrees : (img : List ℕ) (k : ℕ) (r : Record) (x : Trace) → T (agrees (run B img r.call) r.expected) → replay_on B img k (holds r x) ≡ replay_on B (run B img r.call).image (suc k) x
  unfolding replay_on
  held-agrees img k r x t = cond_yes (agrees (run B img r.call) r.expected) (replay_on B (run B img r.call).image (suc k) x) (replay_of (differs_at (suc k)) (run B img r.call).image) t

  held-differs : (img : List ℕ) (k : ℕ) (r : Record) (x : Trace) → T (not (agrees (run B img r.call) r.expected)) → replay_on B img k (holds r x) ≡ replay_of (differs_at (suc k)) (run B img r.call).image
  unfolding replay_on
  held-differs img k r x t = cond_no (agrees (run B img r.call) r.expected) (replay_on B (run B img r.call).image (suc k) x) (replay_of (differs_at (suc k)) (run B img r.call).image) t

  agree-one : (img : List ℕ) (r : Record) (rs : List Record) → Recordable r → AllAgree B img (r ∷ rs) → T (agrees (run B img r.call) r.expected) × AllAgree B (run B img r.call).image rs
  unfolding recorded
  agree-one img r rs ok e = ((agree r.call r.expected ok.fitting (run B img r.call)).1 (ap (λ (x : Record). x.expected) (same_head e)), same-tail e)

  replayed-all : (rs : List Record) → AllRecordable rs → (img : List ℕ) (k : ℕ) (x : Trace) → AllAgree B img rs → replay_on B img k (holds_all rs x) ≡ replay_on B (after_calls B img (calls_of rs)) (k + length rs) x
  unfolding after_all
  replayed-all [] ok img k x e = ap (λ (n : ℕ). replay_on B img n x) (omega arith)
  replayed-all (r ∷ rs) ok img k x e =
      let w = agree-one img r rs ok.0 e in
      held-agrees img k r (holds_all rs x) w.0 ∙ replayed-all rs ok.1 (run B img r.call).image (suc k) x w.1 ∙ ap (λ (n : ℕ). replay_on B (after_calls B (run B img r.call).image (calls_of rs)) n x) (omega arith)

-- ---- parts of a list of records
holds-append : (ps bs : List Record) (x : Trace) → holds_all (ps ++ bs) x ≡ holds_all ps (holds_all bs x)
holds-append [] bs x = refl
holds-append (r ∷ ps) bs x = ap (holds r) (holds-append ps bs x)

bytes-append : (ps bs : List Record) (rest : List ℕ) → trace_bytes (ps ++ bs) ++ rest ≡ trace_bytes ps ++ (trace_bytes bs ++ rest)
bytes-append [] bs rest = refl
bytes-append (r ∷ ps) bs rest = append_assoc (record_bytes r) (trace_bytes (ps ++ bs)) rest ∙ ap (λ (l : List ℕ). record_bytes r ++ l) (bytes-append ps bs rest) ∙ sym (append_assoc (record_bytes r) (trace_bytes ps) (trace_bytes bs ++ rest))

ok-append : (ps : List Record) (r : Record) (bs : List Record) → AllRecordable (ps ++ (r ∷ bs)) → AllRecordable ps × Recordable r
ok-append [] r bs ok = (tt, ok.0)
ok-append (a ∷ ps) r bs ok = let w = ok-append ps r bs ok.1 in ((ok.0, w.0), w.1)

module _ (B : ℕ) where
  after_one : (ps : List Record) (img : List ℕ) (r : Record) → after_calls B img (calls_of (ps ++ (r ∷ []))) ≡ (run B (after_calls B img (calls_of ps)) r.call).image
  unfolding after_all
  after_one [] img r = refl
  after_one (a ∷ ps) img r = after_one ps (run B img a.call).image r

  -- the first record whose answer is another
  record FirstDiffers (img : List ℕ) (rs : List Record) : Type 0 where
    before : List Record
    at : Record
    later : List Record
    is : rs ≡ before ++ (at ∷ later)
    agreed : AllAgree B img before
    differs : T (not (agrees (run B (after_calls B img (calls_of before)) at.call) at.expected))

  cons-agree : (img : List ℕ) (r : Record) (rs : List Record) → Recordable r → T (agrees (run B img r.call) r.expected) → AllAgree B (run B img r.call).image rs → AllAgree B img (r ∷ rs)
  unfolding recorded
  cons-agree img r rs ok t e = ap₂ (λ (x : Expected) (l : List Record). record_of r.call x ∷ l) ((agree r.call r.expected ok.fitting (run B img r.call)).0 t) e

  first-differs : (rs : List Record) → AllRecordable rs → (img : List ℕ) → AllAgree B img rs ⊎ FirstDiffers img rs
  unfolding recorded after_all
  first-differs [] ok img = inl refl
  first-differs (r ∷ rs) ok img = by-test (agrees (run B img r.call) r.expected)
      (λ t. go t (first-differs rs ok.1 (run B img r.call).image))
      (λ t. inr (record { before = []; at = r; later = rs; is = refl; agreed = refl; differs = t }))
    where
      go : T (agrees (run B img r.call) r.expected) → AllAgree B (run B img r.call).image rs ⊎ FirstDiffers (run B img r.call).image rs → AllAgree B img (r ∷ rs) ⊎ FirstDiffers img (r ∷ rs)
      go t (inl e) = inl (cons-agree img r rs ok.0 t e)
      go t (inr d) = inr (record { before = r ∷ d.before; at = d.at; later = d.later; is = ap (λ (l : List Record). r ∷ l) d.is; agreed = cons-agree img r d.before ok.0 t d.agreed; differs = d.differs })

  module _ (img t : List ℕ) (sound : Consistent B img) where
    rule-differs : (rs : List Record) (rest : List ℕ) (x : Trace) → AllRecordable rs → t ≡ trace_bytes rs ++ rest → FirstDiffers img rs → ReplayRule B img t (replay_on B img 0 (holds_all rs x))
    rule-differs rs rest x ok e d =
        let ps : List Record = d.before in
        let r : Record = d.at in
        let bs : List Record = d.later in
        let both = ok-append ps r bs (subst AllRecordable d.is ok) in
        let te : t ≡ trace_bytes ps ++ (record_bytes r ++ (trace_bytes bs ++ rest)) =
        e ∙ ap (λ (l : List Record). trace_bytes l ++ rest) d.is ∙ bytes-append ps (r ∷ bs) rest ∙ ap (λ (l : List ℕ). trace_bytes ps ++ l) (append_assoc (record_bytes r) (trace_bytes bs) rest) in
        let img2 : List ℕ = after_calls B img (calls_of ps) in
        let run-it : replay_on B img 0 (holds_all rs x) ≡ replay_of (differs_at (suc (0 + length ps))) (run B img2 r.call).image =
        ap (λ (l : List Record). replay_on B img 0 (holds_all l x)) d.is ∙ ap (replay_on B img 0) (holds-append ps (r ∷ bs) x)
        ∙ replayed-all B ps both.0 img 0 (holds r (holds_all bs x)) d.agreed ∙ held-differs B img2 (0 + length ps) r (holds_all bs x) d.differs in
        let other : answered r.call (run B img2 r.call) ≢ r.expected = λ q. not-both (agrees (run B img2 r.call) r.expected) ((agree r.call r.expected both.1.fitting (run B img2 r.call)).1 q) d.differs in
        subst (ReplayRule B img t) (sym (run-it ∙ ap₂ (λ (n : ℕ) (i : List ℕ). replay_of (differs_at (suc n)) i) (omega arith) (sym (after_one ps img r))))
        (stops-differing sound ps r (trace_bytes bs ++ rest) both.0 both.1 te d.agreed other)
      where
        not-both : (b : Bool) → T b → T (not b) → ⊥
        not-both true s u = u
        not-both false s u = s

    rule-finished : (rs : List Record) → AllRecordable rs → t ≡ trace_bytes rs → ReplayRule B img t (replay_on B img 0 (holds_all rs finished))
    unfolding replay_on
    rule-finished rs ok e = go (first-differs rs ok img)
      where
        go : AllAgree B img rs ⊎ FirstDiffers img rs → ReplayRule B img t (replay_on B img 0 (holds_all rs finished))
        go (inl a) = subst (ReplayRule B img t) (sym (replayed-all B rs ok img 0 finished a ∙ ap (λ (n : ℕ). replay_of (replayed n) (after_calls B img (calls_of rs))) (omega arith))) (whole sound rs ok e a)
        go (inr d) = rule-differs rs [] finished ok (e ∙ sym (append-nil (trace_bytes rs))) d

    rule-spoiled : (rs : List Record) → Spoiled t rs → ReplayRule B img t (replay_on B img 0 (holds_all rs spoiled))
    unfolding replay_on
    rule-spoiled rs w = go (first-differs rs w.0 img)
      where
        go : AllAgree B img rs ⊎ FirstDiffers img rs → ReplayRule B img t (replay_on B img 0 (holds_all rs spoiled))
        go (inl a) = subst (ReplayRule B img t) (sym (replayed-all B rs w.0 img 0 spoiled a ∙ ap (λ (n : ℕ). replay_of (malformed_at (suc n)) (after_calls B img (calls_of rs))) (omega arith))) (stops-malformed sound rs w.1 w.0 w.2 w.3 a)
        go (inr d) = rule-differs rs w.1 spoiled w.0 w.2 d

    rule-read : Bytes t → ReplayRule B img t (replay_on B img 0 (read_trace t))
    rule-read small = let w = ended (read_trace t) in go w.records w.last w.is w.either
      where
        go : (rs : List Record) (x : Trace) → read_trace t ≡ holds_all rs x → (x ≡ finished) ⊎ (x ≡ spoiled) → ReplayRule B img t (replay_on B img 0 (read_trace t))
        go rs x e (inl q) =
            let f : read_trace t ≡ holds_all rs finished = e ∙ ap (holds_all rs) q in
            let w = read-written t small rs f in
            subst (λ (y : Trace). ReplayRule B img t (replay_on B img 0 y)) (sym f) (rule-finished rs w.1 (sym w.0))
        go rs x e (inr q) =
            let f : read_trace t ≡ holds_all rs spoiled = e ∙ ap (holds_all rs) q in
            subst (λ (y : Trace). ReplayRule B img t (replay_on B img 0 y)) (sym f) (rule-spoiled rs ((read-spoiled t small rs).0 f))

-- ---- what replay means
module _ (B : ℕ) (sz : BlockSize B) (img : List ℕ) where
  passed : Consistent B img → check B img ≡ consistent
  passed ok = (check-means B sz img).1 ok

  -- on a consistent volume
  pub replay-runs : Consistent B img → (t : List ℕ) → replay B img t ≡ replay_on B img 0 (read_trace t)
  unfolding replay
  replay-runs ok t = ap (λ (v : Verdict). checked v (λ num p. replay_of (denied num p) img) (replay_on B img 0 (read_trace t))) (passed ok)

  replay-broken : (num p : ℕ) → check B img ≡ broken num p → (t : List ℕ) → replay B img t ≡ replay_of (denied num p) img
  unfolding replay
  replay-broken num p e t = ap (λ (v : Verdict). checked v (λ n q. replay_of (denied n q) img) (replay_on B img 0 (read_trace t))) e

  replay-rule : (t : List ℕ) → Bytes t → ReplayRule B img t (replay B img t)
  replay-rule t small = go (check B img) refl
    where
      go : (v : Verdict) → check B img ≡ v → ReplayRule B img t (replay B img t)
      go consistent e = let ok = (check-means B sz img).0 e in subst (ReplayRule B img t) (sym (replay-runs ok t)) (rule-read B img t ok small)
      go (broken num p) e = subst (ReplayRule B img t) (sym (replay-broken num p e t)) (refused-by-check num p ((check-breaks B sz img num p).0 e))

  rule-replay : (t : List ℕ) → Bytes t → (x : Replay) → ReplayRule B img t x → replay B img t ≡ x
  unfolding replay_on
  rule-replay t small _ (refused-by-check num p first) = replay-broken num p ((check-breaks B sz img num p).1 first) t
  rule-replay t small _ (whole ok rs fit e a) =
      replay-runs ok t ∙ ap (λ (l : List ℕ). replay_on B img 0 (read_trace l)) e ∙ ap (replay_on B img 0) (written_read rs fit) ∙ replayed-all B rs fit img 0 finished a
      ∙ ap (λ (n : ℕ). replay_of (replayed n) (after_calls B img (calls_of rs))) (omega arith)
  rule-replay t small _ (stops-malformed ok rs rest fit e bad a) =
      replay-runs ok t ∙ ap (replay_on B img 0) ((read-spoiled t small rs).1 (fit, rest, e, bad)) ∙ replayed-all B rs fit img 0 spoiled a
      ∙ ap (λ (n : ℕ). replay_of (malformed_at (suc n)) (after_calls B img (calls_of rs))) (omega arith)
  rule-replay t small _ (stops-differing ok rs r rest fit one e a other) =
      let u : List ℕ = trace_bytes rs ++ (record_bytes r ++ rest) in
      let n : ℕ = length (trace_bytes rs) in
      let next : ℕ = n + length (record_bytes r) in
      let img2 : List ℕ = after_calls B img (calls_of rs) in
      let reads : read_trace t ≡ holds_all rs (holds r (rest_from u next)) = ap read_trace e ∙ trace-then rs fit (record_bytes r ++ rest) ∙ ap (holds_all rs) (step-parsed u n r next (positions rs r rest one)) in
      let no_agree : T (not (agrees (run B img2 r.call) r.expected)) = not_T (agrees (run B img2 r.call) r.expected) (λ s. other ((agree r.call r.expected one.fitting (run B img2 r.call)).0 s)) in
      replay-runs ok t ∙ ap (replay_on B img 0) reads ∙ replayed-all B rs fit img 0 (holds r (rest_from u next)) a ∙ held-differs B img2 (0 + length rs) r (rest_from u next) no_agree
      ∙ ap₂ (λ (k : ℕ) (i : List ℕ). replay_of (differs_at (suc k)) i) (omega arith) (sym (after_one B rs img r))

  pub means : (t : List ℕ) → Bytes t → (x : Replay) → (replay B img t ≡ x) ↔ ReplayRule B img t x
  means t small x = (λ e. subst (ReplayRule B img t) e (replay-rule t small), rule-replay t small x)

-- ---- the volume stays consistent
run-stays : (B : ℕ) → BlockSize B → (img : List ℕ) → Consistent B img → (c : Call) → Consistent B (run B img c).image
unfolding after_all
run-stays B sz img ok c = (history-law B sz img).consistent ok (requests (request_of c) ∷ [])

on-stays : (B : ℕ) → BlockSize B → (x : Trace) (img : List ℕ) (k : ℕ) → Consistent B img → Consistent B (replay_on B img k x).image
unfolding replay_on
on-stays B sz finished img k ok = ok
on-stays B sz spoiled img k ok = ok
on-stays B sz (holds r x) img k ok = go (agrees (run B img r.call) r.expected) (on-stays B sz x (run B img r.call).image (suc k) (run-stays B sz img ok r.call))
  where
    go : (b : Bool) → Consistent B (replay_on B (run B img r.call).image (suc k) x).image → Consistent B (cond {A = Replay} b (replay_on B (run B img r.call).image (suc k) x) (replay_of (differs_at (suc k)) (run B img r.call).image)).image
    go true h = h
    go false h = run-stays B sz img ok r.call

pub replay-stays : (B : ℕ) → BlockSize B → (img : List ℕ) → Consistent B img → (t : List ℕ) → Consistent B (replay B img t).image
replay-stays B sz img ok t = subst (λ (x : Replay). Consistent B x.image) (sym (replay-runs B sz img ok t)) (on-stays B sz (read_trace t) img 0 ok)

-- ---- what is recorded can stand in a trace
refused-of : (a : Answer) → T (not (granted a)) → (num : ℕ) × (p : ℕ) × (a ≡ refused num p)
refused-of done t = absurd t
refused-of (value x) t = absurd t
refused-of (transferred c m) t = absurd t
refused-of unused t = absurd t
refused-of (file nm i z) t = absurd t
refused-of (refused num p) t = (num, p, refl)

transfer-count : (B : ℕ) (v : View) (nm : List ℕ) (o len : ℕ) → count_of (transfer_view B v nm o len) ≤ len
unfolding transfer_view transfer_answer counted
transfer-count B v nm o len = go (lookup B v nm)
  where
    past : (b : Bool) (z m : ℕ) → count_of (cond b (refused 15 0) (transferred (min len z) m)) ≤ len
    past true z m = omega arith
    past false z m = omega arith

    go : (x : Lookup) → count_of (looked x refused (λ s. transfer_answer B v s o len)) ≤ len
    go (in_slot s) = past (ltb (size v s) o) (size v s - o) _
    go (not_found num) = omega arith

module _ (B : ℕ) (sz : BlockSize B) (small : 8 * B * B ≤ 4294967296) (img : List ℕ) (ok : Consistent B img) where
  free-small : count_of (free_answer B img) < 4294967296
  unfolding free_answer blocks
  free-small =
      let v : View = view B img in
      let n : v.n ≡ blocks B img = view-n B img in
      let h : suc (free_blocks v) ≤ 8 * B = omega (arith, adds-up B sz img ok, n) in
      let k : suc (free_blocks v) * B ≤ 8 * B * B = mul-le-mul_right {m = suc (free_blocks v)} {n = 8 * B} B h in
      let e : suc (free_blocks v) * B ≡ B * free_blocks v + B = suc-mul (free_blocks v) B ∙ ap (λ (x : ℕ). x + B) (mul_comm (free_blocks v) B) in
      rw ((check-means B sz img).1 ok) (omega (arith, sz.large))

  result_fits : (c : Call) → T (all_below (call_numbers c)) → T (all_below (expected_numbers (result_of c (run B img c)))) × Fitting c (result_of c (run B img c))
  unfolding perform
  result_fits (creating nm z) h = (tt, of-create nm z)
  result_fits (removing nm) h = (tt, of-remove nm)
  result_fits (reading nm o len) h =
      let a = small_of (length nm) (o ∷ len ∷ []) h in
      let b = small_of o (len ∷ []) a.1 in
      let l = small_of len [] b.1 in
      let r : Outcome = run B img (reading nm o len) in
      let c : count_of r.answer ≤ length (zeros len) = subst (λ (x : Answer). count_of x ≤ length (zeros len)) (sym (read_answer B img nm o (zeros len) ((check-means B sz img).1 ok))) (transfer-count B (view B img) nm o (length (zeros len))) in
      (of-small (length (read_bytes r)) [] (omega (arith, length-take (count_of r.answer) r.buffer, c, length-replicate {A = ℕ} len 0, l.0)) tt, of-read nm o len (read_bytes r))
  result_fits (writing nm o bs) h =
      let a = small_of (length nm) (o ∷ length bs ∷ []) h in
      let b = small_of o (length bs ∷ []) a.1 in
      let l = small_of (length bs) [] b.1 in
      let c : count_of (write B img nm o bs).answer ≤ length bs = subst (λ (x : Answer). count_of x ≤ length bs) (sym (write-answer B img nm o bs ((check-means B sz img).1 ok))) (transfer-count B (view B img) nm o (length bs)) in
      (of-small (count_of (write B img nm o bs).answer) [] (omega (arith, c, l.0)) tt, of-write nm o bs (count_of (write B img nm o bs).answer))
  result_fits counting h = (of-small (count_of (free_answer B img)) [] free-small tt, of-count (count_of (free_answer B img)))

  answer-fits : (c : Call) → T (all_below (call_numbers c)) → Recordable (record_of c (answered c (run B img c)))
  unfolding all_numbers_fit
  answer-fits c h = by-test (granted (run B img c).answer)
      (λ g. subst (λ (e : Expected). Recordable (record_of c e)) (sym (cond_yes (granted (run B img c).answer) (result_of c (run B img c)) (refusal (refusal_of (run B img c).answer)) g))
      (let w = result_fits c h in record { fitting = w.1; small = and-of (all_below (call_numbers c)) (all_below (expected_numbers (result_of c (run B img c)))) h w.0 }))
      (λ g. subst (λ (e : Expected). Recordable (record_of c e)) (sym (cond_no (granted (run B img c).answer) (result_of c (run B img c)) (refusal (refusal_of (run B img c).answer)) g))
      (let w = refused-of (run B img c).answer g in
      let n = numbered B sz img (request_of c) w.0 w.1 w.2 in
      let e : refusal_of (run B img c).answer ≡ w.0 = ap refusal_of w.2 in
      let below : w.0 < 4294967296 = ⊎_elim (λ l. omega arith) (λ l. omega arith) n.1 in
      record { fitting = of-refusal c (refusal_of (run B img c).answer) (λ z. absurd (omega arith)); small = and-of (all_below (call_numbers c)) (all_below (refusal_of (run B img c).answer ∷ [])) h (of-small (refusal_of (run B img c).answer) [] (omega arith) tt) }))

pub recorded-fits : (B : ℕ) → BlockSize B → 8 * B * B ≤ 4294967296 → (cs : List Call) → SmallCalls cs → (img : List ℕ) → Consistent B img → AllRecordable (recorded B img cs)
unfolding recorded
recorded-fits B sz small [] h img ok = tt
recorded-fits B sz small (c ∷ cs) h img ok = (answer-fits B sz small img ok c h.0, recorded-fits B sz small cs h.1 (run B img c).image (run-stays B sz img ok c))

recorded-calls : (B : ℕ) (cs : List Call) (img : List ℕ) → calls_of (recorded B img cs) ≡ cs
unfolding recorded
recorded-calls B [] img = refl
recorded-calls B (c ∷ cs) img = ap (λ (l : List Call). c ∷ l) (recorded-calls B cs (run B img c).image)

recorded-long : (B : ℕ) (cs : List Call) (img : List ℕ) → length (recorded B img cs) ≡ length cs
unfolding recorded
recorded-long B [] img = refl
recorded-long B (c ∷ cs) img = ap suc (recorded-long B cs (run B img c).image)

pub again : (B : ℕ) → BlockSize B → (img : List ℕ) → Consistent B img → 8 * B * B ≤ 4294967296 → (cs : List Call) → SmallCalls cs → replay B img (trace_bytes (recorded B img cs)) ≡ replay_of (replayed (length cs)) (after_calls B img cs)
unfolding replay_on
again B sz img ok small cs h =
    let rs : List Record = recorded B img cs in
    let fit = recorded-fits B sz small cs h img ok in
    replay-runs B sz img ok (trace_bytes rs) ∙ ap (replay_on B img 0) (written_read rs fit)
    ∙ replayed-all B rs fit img 0 finished (ap (recorded B img) (recorded-calls B cs img))
    ∙ ap₂ (λ (n : ℕ) (l : List Call). replay_of (replayed n) (after_calls B img l)) (omega (arith, recorded-long B cs img)) (recorded-calls B cs img)

-- ---- what stands in a read's buffer before makes no difference
-- the bytes that the file in slot s gives to a buffer of so many
abbrev got_from : ℕ → List ℕ → ℕ → ℕ → ℕ → List ℕ
got_from B img s o len = cond (ltb (size (view B img) s) o) [] (table (λ p. get_or img (place B (view B img) s p) 0) o (counted (view B img) s o len))

file-got : (B : ℕ) (img : List ℕ) (s o : ℕ) (buf : List ℕ) → read_bytes (read_file B img s o buf) ≡ got_from B img s o (length buf)
unfolding transfer_answer read_buffer
file-got B img s o buf = go (ltb (size (view B img) s) o) (counted (view B img) s o (length buf)) _
  where
    go : (b : Bool) (c m : ℕ) → take (count_of (cond b (refused 15 0) (transferred c m))) (cond (granted (cond b (refused 15 0) (transferred c m))) (table (λ p. get_or img (place B (view B img) s p) 0) o c ++ drop c buf) buf) ≡ cond b [] (table (λ p. get_or img (place B (view B img) s p) 0) o c)
    go true c m = refl
    go false c m = take_at (table (λ p. get_or img (place B (view B img) s p) 0) o c) (drop c buf) c (length-table (λ p. get_or img (place B (view B img) s p) 0) o c)

module _ (B : ℕ) (img nm : List ℕ) (o : ℕ) (a b : List ℕ) (long : length a ≡ length b) where
  same_answer : (read B img nm o a).answer ≡ (read B img nm o b).answer
  unfolding read
  same_answer = go (check B img) (lookup B (view B img) nm)
    where
      go : (v : Verdict) (x : Lookup) → (checked v (refuse img a) (looked x (refuse img a) (λ s. read_file B img s o a))).answer ≡ (checked v (refuse img b) (looked x (refuse img b) (λ s. read_file B img s o b))).answer
      go (broken num p) x = refl
      go consistent (in_slot s) = ap (transfer_answer B (view B img) s o) long
      go consistent (not_found num) = refl

  same-got : read_bytes (read B img nm o a) ≡ read_bytes (read B img nm o b)
  unfolding read
  same-got = go (check B img) (lookup B (view B img) nm)
    where
      go : (v : Verdict) (x : Lookup) → read_bytes (checked v (refuse img a) (looked x (refuse img a) (λ s. read_file B img s o a))) ≡ read_bytes (checked v (refuse img b) (looked x (refuse img b) (λ s. read_file B img s o b)))
      go (broken num p) x = refl
      go consistent (in_slot s) = file-got B img s o a ∙ ap (got_from B img s o) long ∙ sym (file-got B img s o b)
      go consistent (not_found num) = refl

same-agrees : (o p : Outcome) → o.answer ≡ p.answer → read_bytes o ≡ read_bytes p → (e : Expected) → agrees o e ≡ agrees p e
unfolding agrees
same-agrees o p q w nothing = ap granted q
same-agrees o p q w (bytes bs) = ap₂ (λ (x : Answer) (l : List ℕ). granted x && same_list bs l) q w
same-agrees o p q w (amount n) = ap (λ (x : Answer). granted x && eqb (count_of x) n) q
same-agrees o p q w (refusal n) = ap (λ (x : Answer). eqb (refusal_of x) n) q

pub any-buffer : (B : ℕ) (img nm : List ℕ) (o : ℕ) (buf : List ℕ) (e : Expected) → agrees (read B img nm o buf) e ≡ agrees (run B img (reading nm o (length buf))) e
any-buffer B img nm o buf e =
    let l : length buf ≡ length (zeros (length buf)) = sym (length-replicate (length buf) 0) in
    same-agrees (read B img nm o buf) (read B img nm o (zeros (length buf))) (same_answer B img nm o buf (zeros (length buf)) l) (same-got B img nm o buf (zeros (length buf)) l) e

-- ---- traces joined
-- a replay that goes on with x where it came to the end
abbrev carry_on : ℕ → Replayed → List ℕ → Trace → Replay
carry_on B (replayed n) img x = replay_on B img n x
carry_on B (malformed_at k) img x = replay_of (malformed_at k) img
carry_on B (differs_at k) img x = replay_of (differs_at k) img
carry_on B (denied num p) img x = replay_of (denied num p) img

on-append : (B : ℕ) (rs : List Record) (x : Trace) (img : List ℕ) (k : ℕ) → replay_on B img k (holds_all rs x) ≡ carry_on B (replay_on B img k (holds_all rs finished)).result (replay_on B img k (holds_all rs finished)).image x
unfolding replay_on
on-append B [] x img k = refl
on-append B (r ∷ rs) x img k = go (agrees (run B img r.call) r.expected) (on-append B rs x (run B img r.call).image (suc k))
  where
    go : (b : Bool) → replay_on B (run B img r.call).image (suc k) (holds_all rs x) ≡ carry_on B (replay_on B (run B img r.call).image (suc k) (holds_all rs finished)).result (replay_on B (run B img r.call).image (suc k) (holds_all rs finished)).image x
        → cond {A = Replay} b (replay_on B (run B img r.call).image (suc k) (holds_all rs x)) (replay_of (differs_at (suc k)) (run B img r.call).image) ≡ carry_on B (cond {A = Replay} b (replay_on B (run B img r.call).image (suc k) (holds_all rs finished)) (replay_of (differs_at (suc k)) (run B img r.call).image)).result (cond {A = Replay} b (replay_on B (run B img r.call).image (suc k) (holds_all rs finished)) (replay_of (differs_at (suc k)) (run B img r.call).image)).image x
    go true e = e
    go false e = refl

on-shift : (B : ℕ) (x : Trace) (img : List ℕ) (n k : ℕ) → replay_on B img (n + k) x ≡ replay_of (count_on n (replay_on B img k x).result) (replay_on B img k x).image
unfolding replay_on
on-shift B finished img n k = refl
on-shift B spoiled img n k = ap (λ (m : ℕ). replay_of (malformed_at m) img) (omega arith)
on-shift B (holds r x) img n k = go (agrees (run B img r.call) r.expected) (ap (λ (m : ℕ). replay_on B (run B img r.call).image m x) (omega arith) ∙ on-shift B x (run B img r.call).image n (suc k))
  where
    go : (b : Bool) → replay_on B (run B img r.call).image (suc (n + k)) x ≡ replay_of (count_on n (replay_on B (run B img r.call).image (suc k) x).result) (replay_on B (run B img r.call).image (suc k) x).image
        → cond {A = Replay} b (replay_on B (run B img r.call).image (suc (n + k)) x) (replay_of (differs_at (suc (n + k))) (run B img r.call).image) ≡ replay_of (count_on n (cond {A = Replay} b (replay_on B (run B img r.call).image (suc k) x) (replay_of (differs_at (suc k)) (run B img r.call).image)).result) (cond {A = Replay} b (replay_on B (run B img r.call).image (suc k) x) (replay_of (differs_at (suc k)) (run B img r.call).image)).image
    go true e = e
    go false e = ap (λ (m : ℕ). replay_of (differs_at m) (run B img r.call).image) (omega arith)

bytes-join : (a b : List ℕ) → Bytes a → Bytes b → Bytes (a ++ b)
bytes-join [] b h k i = k i
bytes-join (x ∷ a) b h k zero = h 0
bytes-join (x ∷ a) b h k (suc i) = bytes-join a b (λ j. h (suc j)) k i

module _ (B : ℕ) (sz : BlockSize B) (img a b : List ℕ) where
  -- on a consistent volume a replay that goes on is one from the start, counted on
  carry-go : (y : Replayed) (new : List ℕ) → Consistent B new → carry_on B y new (read_trace b) ≡ go_on B y new b
  carry-go (replayed n) new ok =
      ap (λ (m : ℕ). replay_on B new m (read_trace b)) (omega arith) ∙ on-shift B (read_trace b) new n 0
      ∙ ap (λ (r : Replay). replay_of (count_on n r.result) r.image) (sym (replay-runs B sz new ok b))
  carry-go (malformed_at k) new ok = refl
  carry-go (differs_at k) new ok = refl
  carry-go (denied num p) new ok = refl

  joined-read : Bytes (a ++ b) → (rs : List Record) → AllRecordable rs → trace_bytes rs ≡ a → read_trace (a ++ b) ≡ holds_all rs (read_trace b)
  joined-read small rs fit e =
      let t : List ℕ = trace_bytes rs ++ b in
      let q : t ≡ a ++ b = ap (λ (l : List ℕ). l ++ b) e in
      ap read_trace (sym q) ∙ trace-then rs fit b ∙ ap (holds_all rs) (rest-drop t (subst Bytes (sym q) small) (length (trace_bytes rs)) ∙ ap read_trace (drop-append_seam (trace_bytes rs) b))

  pub joined : Bytes a → Bytes b → (rs : List Record) → read_trace a ≡ holds_all rs finished → replay B img (a ++ b) ≡ go_on B (replay B img a).result (replay B img a).image b
  joined small_a small_b rs e = go (check B img) refl
    where
      go : (v : Verdict) → check B img ≡ v → replay B img (a ++ b) ≡ go_on B (replay B img a).result (replay B img a).image b
      go consistent c =
          let ok = (check-means B sz img).0 c in
          let w = read-written a small_a rs e in
          let ra : Replay = replay_on B img 0 (holds_all rs finished) in
          let runs : replay B img a ≡ ra = replay-runs B sz img ok a ∙ ap (replay_on B img 0) e in
          replay-runs B sz img ok (a ++ b) ∙ ap (replay_on B img 0) (joined-read (bytes-join a b small_a small_b) rs w.1 w.0) ∙ on-append B rs (read_trace b) img 0
          ∙ carry-go ra.result ra.image (on-stays B sz (holds_all rs finished) img 0 ok)
          ∙ ap (λ (r : Replay). go_on B r.result r.image b) (sym runs)
      go (broken num p) c =
          replay-broken B sz img num p c (a ++ b) ∙ ap (λ (r : Replay). go_on B r.result r.image b) (sym (replay-broken B sz img num p c a))
