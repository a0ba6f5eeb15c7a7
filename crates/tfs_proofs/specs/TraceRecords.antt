-- Byte strings and records: read exactly where they stand.
use Rattle.std.specs.Prelude.{◌≡◌, ◌↔◌, Bool, ℕ, ◌+◌, ◌-◌, ◌≤◌, ◌<◌, take, drop, T, ltb, leb}
use Rattle.std.proofs.Math.Path.{refl}
use Rattle.std.proofs.Common.{sym, ap, ap₂, ◌∙◌, subst, arith, ne_eqb, length-drop, length-append, take-append-drop, drop-drop, take_at, length-take-le, ltb→lt, leb→le, le→leb, lt→ltb, eqb→eq}
use Rattle.std.proofs.Math.Bool.{true, false, cond}
use mathlib.Core.List.{List, [], ◌∷◌, ◌++◌, append_assoc}
use Rattle.std.proofs.lemmas.Bool.{eqb-false}
use Rattle.std.proofs.Math.ListN.{length}
use Rattle.std.proofs.Math.Seq.{drop-append_seam}
use Rattle.std.proofs.Math.Dec.{eqb}
use Rattle.lists.specs.Lists.{part}
use Rattle.list_laws.specs.Test.{cond_yes, and-of, and_l, and_r, of-true}
use Rattle.tfs_spec.specs.Consistent.{Bytes}
use Rattle.tfs_spec.specs.Traces.{Call, creating, removing, reading, writing, counting, Expected, nothing, bytes, amount, refusal, Record, record_of, number, string, call_bytes, expected_bytes, record_bytes, all_below, call_numbers, expected_numbers, all_numbers_fit, Parsed, parsed, malformed, followed, read_number, read_string, read_create, read_remove, read_read, read_write, read_arguments, read_call, read_result, read_expected, read_record, StandsAt, Fitting, of-create, of-remove, of-read, of-write, of-count, of-refusal, Recordable}
use Rattle.tfs_facts.specs.Forward.{never, same_next, same-what, followed-by, cond-parsed, number-forward}
use Rattle.tfs_proofs.specs.TraceNumbers.{number-reads, stands, number-so}

-- ---- one thing behind another
pub split-here : (t : List ℕ) (at end : ℕ) (bs cs : List ℕ) → StandsAt t at (bs ++ cs) end → StandsAt t at bs (at + length bs) × StandsAt t (at + length bs) cs end
split-here t at end bs cs s =
    let e : drop at t ≡ bs ++ (cs ++ drop end t) = s.here ∙ append_assoc bs cs (drop end t) in
    let behind : drop (at + length bs) t ≡ cs ++ drop end t = sym (drop-drop (length bs) at t) ∙ ap (drop (length bs)) e ∙ drop-append_seam bs (cs ++ drop end t) in
    (stands t at (at + length bs) bs (cs ++ drop end t) e refl, record { here = behind; ends = s.ends ∙ omega (arith, length-append bs cs) })

pub join-here : (t : List ℕ) (at next end : ℕ) (bs cs : List ℕ) → StandsAt t at bs next → StandsAt t next cs end → StandsAt t at (bs ++ cs) end
join-here t at next end bs cs s u = record {
  here = s.here ∙ ap (λ (x : List ℕ). bs ++ x) u.here ∙ sym (append_assoc bs cs (drop end t));
  ends = u.ends ∙ ap (λ (k : ℕ). k + length cs) s.ends ∙ omega (arith, length-append bs cs);
}

-- a reader gives x where bs stand
abbrev Reads : {A : Type 0} → (List ℕ → ℕ → Parsed A) → A → List ℕ → Type 0
Reads p x bs = (t : List ℕ) (at next : ℕ) → StandsAt t at bs next → p t at ≡ parsed x next

reads_then : {A B : Type 0} (p : List ℕ → ℕ → Parsed A) (q : A → List ℕ → ℕ → Parsed B) (x : A) (y : B) (bs cs : List ℕ) → Reads p x bs → Reads (q x) y cs → Reads (λ t at. followed (p t at) (λ a k. q a t k)) y (bs ++ cs)
reads_then {A = A} p q x y bs cs f g t at next s =
    let w = split-here t at next bs cs s in
    ap (λ (z : Parsed A). followed z (λ a k. q a t k)) (f t at (at + length bs) w.0) ∙ g t (at + length bs) next w.1

reads-last : {A B : Type 0} (p : List ℕ → ℕ → Parsed A) (h : A → B) (x : A) (bs : List ℕ) → Reads p x bs → Reads (λ t at. followed (p t at) (λ a k. parsed (h a) k)) (h x) bs
reads-last {A = A} p h x bs f t at next s = ap (λ (z : Parsed A). followed z (λ a k. parsed (h a) k)) (f t at next s)

-- ---- byte strings
string-reads : (bs : List ℕ) → length bs < 4294967296 → Reads read_string bs (string bs)
unfolding read_string part
string-reads bs h t at next s =
    let w = split-here t at next (number (length bs)) bs s in
    let a : ℕ = at + length (number (length bs)) in
    let e : read_number t at ≡ parsed (length bs) a = number-reads (length bs) h t at a w.0 in
    let m = number-forward t at (length bs) a e in
    let l : length t - a ≡ length bs + length (drop next t) = sym (length-drop a t) ∙ ap length w.1.here ∙ length-append bs (drop next t) in
    let i : a + length bs ≤ length t = omega arith in
    let got : take (length bs) (drop a t) ≡ bs = ap (take (length bs)) w.1.here ∙ take_at bs (drop next t) (length bs) refl in
    ap (λ (z : Parsed ℕ). followed z (λ n from. cond (leb (from + n) (length t)) (parsed (take n (drop from t)) (from + n)) malformed)) e
    ∙ cond_yes (leb (a + length bs) (length t)) _ malformed (le→leb (a + length bs) (length t) i)
    ∙ ap₂ parsed got (sym w.1.ends)

string-so : (t : List ℕ) → Bytes t → (at : ℕ) (bs : List ℕ) (next : ℕ) → read_string t at ≡ parsed bs next → (length bs < 4294967296) × StandsAt t at (string bs) next
unfolding read_string part
string-so t small at bs next e =
    let w = followed-by (read_number t at) _ bs next e in
    let n : ℕ = w.0 in
    let a : ℕ = w.1 in
    let k = number-so t small at n a w.2 in
    let c = cond-parsed (leb (a + n) (length t)) (parsed (take n (drop a t)) (a + n)) bs next w.3 in
    let i : a + n ≤ length t = leb→le (a + n) (length t) c.0 in
    let eb : take n (drop a t) ≡ bs = same-what c.1 in
    let en : a + n ≡ next = same_next c.1 in
    let long : n ≡ length bs = sym (length-take-le n (drop a t) (omega (arith, length-drop a t))) ∙ ap length eb in
    let there : drop a t ≡ bs ++ drop n (drop a t) = sym (take-append-drop n (drop a t)) ∙ ap (λ (x : List ℕ). x ++ drop n (drop a t)) eb in
    let u : StandsAt t a bs next = stands t a next bs (drop n (drop a t)) there (sym en ∙ ap (λ (x : ℕ). a + x) long) in
    (subst (λ (x : ℕ). x < 4294967296) long k.0, subst (λ (x : ℕ). StandsAt t at (number x ++ bs) next) long (join-here t at a next (number n) bs k.1 u))

pub read-string : (t : List ℕ) → Bytes t → (at : ℕ) (bs : List ℕ) (next : ℕ) → (read_string t at ≡ parsed bs next) ↔ ((length bs < 4294967296) × StandsAt t at (string bs) next)
read-string t small at bs next = (string-so t small at bs next, λ w. string-reads bs w.0 t at next w.1)

-- ---- calls
abbrev pub Small : ℕ → Type 0
Small n = n < 4294967296

pub small_of : (n : ℕ) (ns : List ℕ) → T (all_below (n ∷ ns)) → Small n × T (all_below ns)
small_of n ns h = (ltb→lt n 4294967296 (and_l (ltb n 4294967296) (all_below ns) h), and_r (ltb n 4294967296) (all_below ns) h)

pub of-small : (n : ℕ) (ns : List ℕ) → Small n → T (all_below ns) → T (all_below (n ∷ ns))
of-small n ns h t = and-of (ltb n 4294967296) (all_below ns) (lt→ltb n 4294967296 h) t

module _ (nm : List ℕ) where
  create-reads : (z : ℕ) → Small (length nm) → Small z → Reads read_create (creating nm z) (string nm ++ number z)
  unfolding read_create
  create-reads z h i = reads_then read_string (λ m t a. followed (read_number t a) (λ y b. parsed (creating m y) b)) nm (creating nm z) (string nm) (number z) (string-reads nm h) (reads-last read_number (creating nm) z (number z) (number-reads z i))

  remove-reads : Small (length nm) → Reads read_remove (removing nm) (string nm)
  unfolding read_remove
  remove-reads h = reads-last read_string removing nm (string nm) (string-reads nm h)

  read-reads : (o len : ℕ) → Small (length nm) → Small o → Small len → Reads read_read (reading nm o len) (string nm ++ (number o ++ number len))
  unfolding read_read
  read-reads o len h i j = reads_then read_string (λ m t a. followed (read_number t a) (λ y b. followed (read_number t b) (λ x c. parsed (reading m y x) c))) nm (reading nm o len) (string nm) (number o ++ number len) (string-reads nm h)
      (reads_then read_number (λ y t b. followed (read_number t b) (λ x c. parsed (reading nm y x) c)) o (reading nm o len) (number o) (number len) (number-reads o i) (reads-last read_number (reading nm o) len (number len) (number-reads len j)))

  write-reads : (o : ℕ) (bs : List ℕ) → Small (length nm) → Small o → Small (length bs) → Reads read_write (writing nm o bs) (string nm ++ (number o ++ string bs))
  unfolding read_write
  write-reads o bs h i j = reads_then read_string (λ m t a. followed (read_number t a) (λ y b. followed (read_string t b) (λ x c. parsed (writing m y x) c))) nm (writing nm o bs) (string nm) (number o ++ string bs) (string-reads nm h)
      (reads_then read_number (λ y t b. followed (read_string t b) (λ x c. parsed (writing nm y x) c)) o (writing nm o bs) (number o) (string bs) (number-reads o i) (reads-last read_string (writing nm o) bs (string bs) (string-reads bs j)))

-- the kind, then the arguments
kind-reads : (k : ℕ) → Small k → (c : Call) (bs : List ℕ) → Reads (λ t at. read_arguments t k at) c bs → Reads read_call c (number k ++ bs)
unfolding read_call
kind-reads k h c bs f = reads_then read_number (λ x t a. read_arguments t x a) k c (number k) bs (number-reads k h) f

call-reads : (c : Call) → T (all_below (call_numbers c)) → Reads read_call c (call_bytes c)
unfolding read_call
call-reads (creating nm z) h = let a = small_of (length nm) (z ∷ []) h in let b = small_of z [] a.1 in
    kind-reads 1 (omega arith) (creating nm z) (string nm ++ number z) (create-reads nm z a.0 b.0)
call-reads (removing nm) h = let a = small_of (length nm) [] h in
    kind-reads 2 (omega arith) (removing nm) (string nm) (remove-reads nm a.0)
call-reads (reading nm o len) h = let a = small_of (length nm) (o ∷ len ∷ []) h in let b = small_of o (len ∷ []) a.1 in let c = small_of len [] b.1 in
    kind-reads 3 (omega arith) (reading nm o len) (string nm ++ (number o ++ number len)) (read-reads nm o len a.0 b.0 c.0)
call-reads (writing nm o bs) h = let a = small_of (length nm) (o ∷ length bs ∷ []) h in let b = small_of o (length bs ∷ []) a.1 in let c = small_of (length bs) [] b.1 in
    kind-reads 4 (omega arith) (writing nm o bs) (string nm ++ (number o ++ string bs)) (write-reads nm o bs a.0 b.0 c.0)
call-reads counting h = λ t at next s. ap (λ (z : Parsed ℕ). followed z (read_arguments t)) (number-reads 5 (omega arith) t at next s)

-- ---- expected answers
-- granted, then the result
result-reads : (c : Call) (e : Expected) (bs : List ℕ) → Reads (read_result c) e bs → Reads (read_expected c) e (number 0 ++ bs)
unfolding read_expected
result-reads c e bs f = reads_then read_number (λ n t a. cond (eqb n 0) (read_result c t a) (parsed (refusal n) a)) 0 e (number 0) bs (number-reads 0 (omega arith)) f

expected-reads : (c : Call) (e : Expected) → Fitting c e → T (all_below (expected_numbers e)) → Reads (read_expected c) e (expected_bytes e)
unfolding read_expected
expected-reads _ _ (of-create nm z) h = λ t at next s. ap (λ (x : Parsed ℕ). followed x (λ n a. cond (eqb n 0) (parsed nothing a) (parsed (refusal n) a))) (number-reads 0 (omega arith) t at next s)
expected-reads _ _ (of-remove nm) h = λ t at next s. ap (λ (x : Parsed ℕ). followed x (λ n a. cond (eqb n 0) (parsed nothing a) (parsed (refusal n) a))) (number-reads 0 (omega arith) t at next s)
expected-reads _ _ (of-read nm o len bs) h = result-reads (reading nm o len) (bytes bs) (string bs) (reads-last read_string bytes bs (string bs) (string-reads bs (small_of (length bs) [] h).0))
expected-reads _ _ (of-write nm o bs n) h = result-reads (writing nm o bs) (amount n) (number n) (reads-last read_number amount n (number n) (number-reads n (small_of n [] h).0))
expected-reads _ _ (of-count n) h = result-reads counting (amount n) (number n) (reads-last read_number amount n (number n) (number-reads n (small_of n [] h).0))
expected-reads _ _ (of-refusal c n z) h = λ t at next s.
    ap (λ (x : Parsed ℕ). followed x (λ m a. cond (eqb m 0) (read_result c t a) (parsed (refusal m) a))) (number-reads n (small_of n [] h).0 t at next s)
    ∙ rw (ne_eqb n 0 z)

pub record-reads : (r : Record) → Recordable r → (t : List ℕ) (at next : ℕ) → StandsAt t at (record_bytes r) next → read_record t at ≡ parsed r next
unfolding read_record all_numbers_fit
record-reads r ok = reads_then read_call (λ c t a. followed (read_expected c t a) (λ e b. parsed (record_of c e) b)) r.call r (call_bytes r.call) (expected_bytes r.expected)
    (call-reads r.call (and_l (all_below (call_numbers r.call)) _ ok.small))
    (reads-last (read_expected r.call) (record_of r.call) r.expected (expected_bytes r.expected) (expected-reads r.call r.expected ok.fitting (and_r (all_below (call_numbers r.call)) _ ok.small)))

-- ---- what is read stands there
carried : {A : Type 0} (P : A → ℕ → Type 0) {x y : A} {m n : ℕ} → parsed x m ≡ parsed y n → P x m → P y n
carried P {x = x} {n = n} e w = subst (λ z. P z n) (same-what e) (subst (λ k. P x k) (same_next e) w)

module _ (t : List ℕ) (small : Bytes t) where
  -- the call c, from position at up to next
  abbrev CallThere : ℕ → Call → ℕ → Type 0
  CallThere at c next = T (all_below (call_numbers c)) × StandsAt t at (call_bytes c) next

  module _ (at a : ℕ) where
    create-so : StandsAt t at (number 1) a → (c : Call) (next : ℕ) → read_create t a ≡ parsed c next → CallThere at c next
    unfolding read_create
    create-so k c next e =
        let p = followed-by (read_string t a) _ c next e in
        let q = followed-by (read_number t p.1) _ c next p.3 in
        let nm = string-so t small a p.0 p.1 p.2 in
        let z = number-so t small p.1 q.0 q.1 q.2 in
        let u = join-here t at a q.1 (number 1) (string p.0 ++ number q.0) k (join-here t a p.1 q.1 (string p.0) (number q.0) nm.1 z.1) in
        let w : CallThere at (creating p.0 q.0) q.1 = (of-small (length p.0) (q.0 ∷ []) nm.0 (of-small q.0 [] z.0 tt), u) in
        carried (CallThere at) q.3 w

    remove-so : StandsAt t at (number 2) a → (c : Call) (next : ℕ) → read_remove t a ≡ parsed c next → CallThere at c next
    unfolding read_remove
    remove-so k c next e =
        let p = followed-by (read_string t a) _ c next e in
        let nm = string-so t small a p.0 p.1 p.2 in
        let w : CallThere at (removing p.0) p.1 = (of-small (length p.0) [] nm.0 tt, join-here t at a p.1 (number 2) (string p.0) k nm.1) in
        carried (CallThere at) p.3 w

    read-so : StandsAt t at (number 3) a → (c : Call) (next : ℕ) → read_read t a ≡ parsed c next → CallThere at c next
    unfolding read_read
    read-so k c next e =
        let p = followed-by (read_string t a) _ c next e in
        let q = followed-by (read_number t p.1) _ c next p.3 in
        let r = followed-by (read_number t q.1) _ c next q.3 in
        let nm = string-so t small a p.0 p.1 p.2 in
        let o = number-so t small p.1 q.0 q.1 q.2 in
        let len = number-so t small q.1 r.0 r.1 r.2 in
        let v = join-here t p.1 q.1 r.1 (number q.0) (number r.0) o.1 len.1 in
        let u = join-here t at a r.1 (number 3) (string p.0 ++ (number q.0 ++ number r.0)) k (join-here t a p.1 r.1 (string p.0) (number q.0 ++ number r.0) nm.1 v) in
        let w : CallThere at (reading p.0 q.0 r.0) r.1 = (of-small (length p.0) (q.0 ∷ r.0 ∷ []) nm.0 (of-small q.0 (r.0 ∷ []) o.0 (of-small r.0 [] len.0 tt)), u) in
        carried (CallThere at) r.3 w

    write-so : StandsAt t at (number 4) a → (c : Call) (next : ℕ) → read_write t a ≡ parsed c next → CallThere at c next
    unfolding read_write
    write-so k c next e =
        let p = followed-by (read_string t a) _ c next e in
        let q = followed-by (read_number t p.1) _ c next p.3 in
        let r = followed-by (read_string t q.1) _ c next q.3 in
        let nm = string-so t small a p.0 p.1 p.2 in
        let o = number-so t small p.1 q.0 q.1 q.2 in
        let bs = string-so t small q.1 r.0 r.1 r.2 in
        let v = join-here t p.1 q.1 r.1 (number q.0) (string r.0) o.1 bs.1 in
        let u = join-here t at a r.1 (number 4) (string p.0 ++ (number q.0 ++ string r.0)) k (join-here t a p.1 r.1 (string p.0) (number q.0 ++ string r.0) nm.1 v) in
        let w : CallThere at (writing p.0 q.0 r.0) r.1 = (of-small (length p.0) (q.0 ∷ length r.0 ∷ []) nm.0 (of-small q.0 (length r.0 ∷ []) o.0 (of-small (length r.0) [] bs.0 tt)), u) in
        carried (CallThere at) r.3 w

    count-so : StandsAt t at (number 5) a → (c : Call) (next : ℕ) → parsed counting a ≡ parsed c next → CallThere at c next
    count-so k c next e = carried (CallThere at) e (tt, k)

    -- by the kind
    kind-so : (n : ℕ) → StandsAt t at (number n) a → (c : Call) (next : ℕ) → read_arguments t n a ≡ parsed c next → CallThere at c next
    kind-so n k c next e = go (eqb n 1) (eqb n 2) (eqb n 3) (eqb n 4) (eqb n 5) refl refl refl refl refl e
      where
        is : (m : ℕ) → eqb n m ≡ true → StandsAt t at (number m) a
        is m q = subst (λ (x : ℕ). StandsAt t at (number x) a) (eqb→eq n m (of-true (eqb n m) q)) k

        go : (one two three four five : Bool) → eqb n 1 ≡ one → eqb n 2 ≡ two → eqb n 3 ≡ three → eqb n 4 ≡ four → eqb n 5 ≡ five → cond one (read_create t a) (cond two (read_remove t a) (cond three (read_read t a) (cond four (read_write t a) (cond five (parsed counting a) malformed)))) ≡ parsed c next → CallThere at c next
        go true two three four five q1 q2 q3 q4 q5 e = create-so (is 1 q1) c next e
        go false true three four five q1 q2 q3 q4 q5 e = remove-so (is 2 q2) c next e
        go false false true four five q1 q2 q3 q4 q5 e = read-so (is 3 q3) c next e
        go false false false true five q1 q2 q3 q4 q5 e = write-so (is 4 q4) c next e
        go false false false false true q1 q2 q3 q4 q5 e = count-so (is 5 q5) c next e
        go false false false false false q1 q2 q3 q4 q5 e = absurd (never e)

  call-so : (at : ℕ) (c : Call) (next : ℕ) → read_call t at ≡ parsed c next → CallThere at c next
  unfolding read_call
  call-so at c next e =
      let p = followed-by (read_number t at) (read_arguments t) c next e in
      kind-so at p.1 p.0 (number-so t small at p.0 p.1 p.2).1 c next p.3

  -- the expected answer e of a call, from position at up to next
  record ExpectedThere (at : ℕ) (c : Call) (e : Expected) (next : ℕ) : Type 0 where
    fitting : Fitting c e
    below : T (all_below (expected_numbers e))
    there : StandsAt t at (expected_bytes e) next

  module _ (at a : ℕ) (k : StandsAt t at (number 0) a) where
    nothing-so : (c : Call) → Fitting c nothing → (e : Expected) (next : ℕ) → parsed nothing a ≡ parsed e next → ExpectedThere at c e next
    nothing-so c f e next q = carried (ExpectedThere at c) q (record { fitting = f; below = tt; there = k })

    bytes-so : (c : Call) → ((bs : List ℕ) → Fitting c (bytes bs)) → (e : Expected) (next : ℕ) → followed (read_string t a) (λ bs n. parsed (bytes bs) n) ≡ parsed e next → ExpectedThere at c e next
    bytes-so c f e next q =
        let p = followed-by (read_string t a) _ e next q in
        let bs = string-so t small a p.0 p.1 p.2 in
        let w : ExpectedThere at c (bytes p.0) p.1 = record { fitting = f p.0; below = of-small (length p.0) [] bs.0 tt; there = join-here t at a p.1 (number 0) (string p.0) k bs.1 } in
        carried (ExpectedThere at c) p.3 w

    amount-so : (c : Call) → ((n : ℕ) → Fitting c (amount n)) → (e : Expected) (next : ℕ) → followed (read_number t a) (λ x n. parsed (amount x) n) ≡ parsed e next → ExpectedThere at c e next
    amount-so c f e next q =
        let p = followed-by (read_number t a) _ e next q in
        let x = number-so t small a p.0 p.1 p.2 in
        let w : ExpectedThere at c (amount p.0) p.1 = record { fitting = f p.0; below = of-small p.0 [] x.0 tt; there = join-here t at a p.1 (number 0) (number p.0) k x.1 } in
        carried (ExpectedThere at c) p.3 w

    result-so : (c : Call) (e : Expected) (next : ℕ) → read_result c t a ≡ parsed e next → ExpectedThere at c e next
    result-so (creating nm z) e next q = nothing-so (creating nm z) (of-create nm z) e next q
    result-so (removing nm) e next q = nothing-so (removing nm) (of-remove nm) e next q
    result-so (reading nm o len) e next q = bytes-so (reading nm o len) (of-read nm o len) e next q
    result-so (writing nm o bs) e next q = amount-so (writing nm o bs) (of-write nm o bs) e next q
    result-so counting e next q = amount-so counting of-count e next q

  expected-so : (c : Call) (at : ℕ) (e : Expected) (next : ℕ) → read_expected c t at ≡ parsed e next → ExpectedThere at c e next
  unfolding read_expected
  expected-so c at e next q =
      let p = followed-by (read_number t at) _ e next q in
      let x = number-so t small at p.0 p.1 p.2 in
      go (eqb p.0 0) p.0 p.1 refl x.0 x.1 p.3
    where
      go : (b : Bool) (n a : ℕ) → eqb n 0 ≡ b → Small n → StandsAt t at (number n) a → cond b (read_result c t a) (parsed (refusal n) a) ≡ parsed e next → ExpectedThere at c e next
      go true n a z h s q = result-so at a (subst (λ (x : ℕ). StandsAt t at (number x) a) (eqb→eq n 0 (of-true (eqb n 0) z)) s) c e next q
      go false n a z h s q =
          let w : ExpectedThere at c (refusal n) a = record { fitting = of-refusal c n (eqb-false n 0 z); below = of-small n [] h tt; there = s } in
          carried (ExpectedThere at c) q w

  pub record-so : (at : ℕ) (r : Record) (next : ℕ) → read_record t at ≡ parsed r next → Recordable r × StandsAt t at (record_bytes r) next
  unfolding read_record all_numbers_fit
  record-so at r next e =
      let p = followed-by (read_call t at) _ r next e in
      let q = followed-by (read_expected p.0 t p.1) _ r next p.3 in
      let c = call-so at p.0 p.1 p.2 in
      let x = expected-so p.0 p.1 q.0 q.1 q.2 in
      let w : Recordable (record_of p.0 q.0) × StandsAt t at (record_bytes (record_of p.0 q.0)) q.1 =
      (record { fitting = x.fitting; small = and-of (all_below (call_numbers p.0)) (all_below (expected_numbers q.0)) c.0 x.below }, join-here t at p.1 q.1 (call_bytes p.0) (expected_bytes q.0) c.1 x.there) in
      carried (λ y n. Recordable y × StandsAt t at (record_bytes y) n) q.3 w

  pub read-record : (at : ℕ) (r : Record) (next : ℕ) → (read_record t at ≡ parsed r next) ↔ (Recordable r × StandsAt t at (record_bytes r) next)
  read-record at r next = (record-so at r next, λ w. record-reads r w.0 t at next w.1)
