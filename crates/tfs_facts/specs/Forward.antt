-- Reading a trace moves forward and stays inside it; and what read_from gives, whatever its bound on records.
use Rattle.std.specs.Prelude.{◌≡◌, Bool, List, [], ◌∷◌, drop, T, ltb, leb, eqb}
use Rattle.std.proofs.Math.Path.{refl, sym, ap}
use Rattle.std.proofs.Common.{◌∙◌, ltb→lt, lt-ltb, le-ltb}
use Rattle.std.proofs.Math.Bool.{true, false, cond}
use Prim.Native.Nat.{ℕ, zero, suc, ◌+◌, ◌-◌, ◌*◌, ◌≤◌, ◌<◌}
use native.Mathlib.Omega.{arith}
use Rattle.std.proofs.Math.ListN.{length, length-drop}
use Rattle.std.proofs.Math.Dec.{leb→le}
use Rattle.list_laws.specs.Test.{by-test, cond_yes, cond_no}
use Rattle.tfs_spec.specs.Traces.{Call, creating, removing, reading, writing, counting, Expected, amount, refusal, Record, Parsed, parsed, malformed, followed, join_groups, read_groups, read_number, read_string, read_create, read_remove, read_read, read_write, read_arguments, read_call, read_result, read_expected, read_record, finished, holds, held_by, read_from}

-- ---- one thing behind another
pub never : {A : Type 0} {x : A} {n : ℕ} → malformed ≡ parsed x n → ⊥
never e = let z : ◌≡◌ {A = ℕ} 0 1 = cc in omega arith

pub same_next : {A : Type 0} {x y : A} {m n : ℕ} → parsed x m ≡ parsed y n → m ≡ n
same_next e = cc

pub same-what : {A : Type 0} {x y : A} {m n : ℕ} → parsed x m ≡ parsed y n → x ≡ y
same-what e = cc

pub followed-by : {A B : Type 0} (x : Parsed A) (f : A → ℕ → Parsed B) (y : B) (end : ℕ) → followed x f ≡ parsed y end → (a : A) × (next : ℕ) × (x ≡ parsed a next) × (f a next ≡ parsed y end)
followed-by (parsed a next) f y end e = (a, next, refl, e)
followed-by malformed f y end e = absurd (never e)

-- the case of a test that a result comes from
pub cond-parsed : {A : Type 0} (b : Bool) (x : Parsed A) (y : A) (end : ℕ) → cond b x malformed ≡ parsed y end → T b × (x ≡ parsed y end)
cond-parsed true x y end e = (tt, e)
cond-parsed false x y end e = absurd (never e)

same-yes : {A : Type 0} (b : Bool) (x y z : A) → (T b → x ≡ y) → cond b x z ≡ cond b y z
same-yes true x y z f = f tt
same-yes false x y z f = refl

-- ---- forward
-- not back, and not past the end
abbrev Onward : List ℕ → ℕ → ℕ → Type 0
Onward t at next = (at ≤ next) × (next ≤ length t)

abbrev pub Forward : List ℕ → ℕ → ℕ → Type 0
Forward t at next = (at < next) × (next ≤ length t)

groups-forward : (f at : ℕ) (l : List ℕ) (n next : ℕ) → read_groups f at l ≡ parsed n next → (at < next) × (next ≤ at + length l)
unfolding read_groups
groups-forward zero at l n next e = absurd (never e)
groups-forward (suc f) at [] n next e = absurd (never e)
groups-forward (suc f) at (g ∷ l) n next e = by-test (ltb g 128)
    (λ t. let s : at + 1 ≡ next = same_next (sym (cond_yes (ltb g 128) (parsed g (at + 1)) _ t) ∙ e) in (omega arith, omega arith))
    (λ t. let w = followed-by (read_groups f (at + 1) l) (join_groups (g - 128)) n next (sym (cond_no (ltb g 128) (parsed g (at + 1)) _ t) ∙ e) in
    let ih = groups-forward f (at + 1) l w.0 w.1 w.2 in
    let s : w.1 ≡ next = join-next (eqb w.0 0) (ltb (w.0 * 128 + (g - 128)) 4294967296) (w.0 * 128 + (g - 128)) w.1 w.3 in
    (omega arith, omega arith))
  where
    join-next : (a b : Bool) (v k : ℕ) → cond a malformed (cond b (parsed v k) malformed) ≡ parsed n next → k ≡ next
    join-next true b v k e = absurd (never e)
    join-next false true v k e = same_next e
    join-next false false v k e = absurd (never e)

module _ (t : List ℕ) where
  pub number-forward : (at n next : ℕ) → read_number t at ≡ parsed n next → Forward t at next
  unfolding read_number
  number-forward at n next e = let w = groups-forward 5 at (drop at t) n next e in (w.0, omega (arith, length-drop at t))

  pub string-forward : (at : ℕ) (bs : List ℕ) (next : ℕ) → read_string t at ≡ parsed bs next → Forward t at next
  unfolding read_string
  string-forward at bs next e =
      let w = followed-by (read_number t at) _ bs next e in
      let h = number-forward at w.0 w.1 w.2 in
      let c = cond-parsed (leb (w.1 + w.0) (length t)) _ bs next w.3 in
      let s : w.1 + w.0 ≡ next = same_next c.1 in
      let i : w.1 + w.0 ≤ length t = leb→le (w.1 + w.0) (length t) c.0 in
      (omega arith, omega arith)

  create-forward : (at : ℕ) (x : Call) (next : ℕ) → read_create t at ≡ parsed x next → Onward t at next
  unfolding read_create
  create-forward at x next e =
      let a = followed-by (read_string t at) _ x next e in
      let b = followed-by (read_number t a.1) _ x next a.3 in
      let s : b.1 ≡ next = same_next b.3 in
      let h = string-forward at a.0 a.1 a.2 in
      let i = number-forward a.1 b.0 b.1 b.2 in
      (omega arith, omega arith)

  remove-forward : (at : ℕ) (x : Call) (next : ℕ) → read_remove t at ≡ parsed x next → Onward t at next
  unfolding read_remove
  remove-forward at x next e =
      let a = followed-by (read_string t at) _ x next e in
      let s : a.1 ≡ next = same_next a.3 in
      let h = string-forward at a.0 a.1 a.2 in
      (omega arith, omega arith)

  read-forward : (at : ℕ) (x : Call) (next : ℕ) → read_read t at ≡ parsed x next → Onward t at next
  unfolding read_read
  read-forward at x next e =
      let a = followed-by (read_string t at) _ x next e in
      let b = followed-by (read_number t a.1) _ x next a.3 in
      let c = followed-by (read_number t b.1) _ x next b.3 in
      let s : c.1 ≡ next = same_next c.3 in
      let h = string-forward at a.0 a.1 a.2 in
      let i = number-forward a.1 b.0 b.1 b.2 in
      let j = number-forward b.1 c.0 c.1 c.2 in
      (omega arith, omega arith)

  write-forward : (at : ℕ) (x : Call) (next : ℕ) → read_write t at ≡ parsed x next → Onward t at next
  unfolding read_write
  write-forward at x next e =
      let a = followed-by (read_string t at) _ x next e in
      let b = followed-by (read_number t a.1) _ x next a.3 in
      let c = followed-by (read_string t b.1) _ x next b.3 in
      let s : c.1 ≡ next = same_next c.3 in
      let h = string-forward at a.0 a.1 a.2 in
      let i = number-forward a.1 b.0 b.1 b.2 in
      let j = string-forward b.1 c.0 c.1 c.2 in
      (omega arith, omega arith)

  call-forward : (at : ℕ) (x : Call) (next : ℕ) → read_call t at ≡ parsed x next → Forward t at next
  unfolding read_call
  call-forward at x next e =
      let a = followed-by (read_number t at) (read_arguments t) x next e in
      let h = number-forward at a.0 a.1 a.2 in
      let i = go (eqb a.0 1) (eqb a.0 2) (eqb a.0 3) (eqb a.0 4) (eqb a.0 5) a.1 h.1 a.3 in
      (omega arith, i.1)
    where
      go : (one two three four five : Bool) (k : ℕ) → k ≤ length t → cond one (read_create t k) (cond two (read_remove t k) (cond three (read_read t k) (cond four (read_write t k) (cond five (parsed counting k) malformed)))) ≡ parsed x next → Onward t k next
      go true two three four five k h e = create-forward k x next e
      go false true three four five k h e = remove-forward k x next e
      go false false true four five k h e = read-forward k x next e
      go false false false true five k h e = write-forward k x next e
      go false false false false true k h e = let s : k ≡ next = same_next e in (omega arith, omega arith)
      go false false false false false k h e = absurd (never e)

  amount-forward : (at : ℕ) (x : Expected) (next : ℕ) → followed (read_number t at) (λ n k. parsed (amount n) k) ≡ parsed x next → Onward t at next
  amount-forward at x next e =
      let a = followed-by (read_number t at) _ x next e in
      let s : a.1 ≡ next = same_next a.3 in
      let i = number-forward at a.0 a.1 a.2 in
      (omega arith, omega arith)

  result-forward : (c : Call) (at : ℕ) → at ≤ length t → (x : Expected) (next : ℕ) → read_result c t at ≡ parsed x next → Onward t at next
  result-forward (creating nm z) at h x next e = let s : at ≡ next = same_next e in (omega arith, omega arith)
  result-forward (removing nm) at h x next e = let s : at ≡ next = same_next e in (omega arith, omega arith)
  result-forward (reading nm o len) at h x next e =
      let a = followed-by (read_string t at) _ x next e in
      let s : a.1 ≡ next = same_next a.3 in
      let i = string-forward at a.0 a.1 a.2 in
      (omega arith, omega arith)
  result-forward (writing nm o bs) at h x next e = amount-forward at x next e
  result-forward counting at h x next e = amount-forward at x next e

  expected-forward : (c : Call) (at : ℕ) (x : Expected) (next : ℕ) → read_expected c t at ≡ parsed x next → Forward t at next
  unfolding read_expected
  expected-forward c at x next e =
      let a = followed-by (read_number t at) _ x next e in
      let h = number-forward at a.0 a.1 a.2 in
      let i = go (eqb a.0 0) a.0 a.1 h.1 a.3 in
      (omega arith, i.1)
    where
      go : (b : Bool) (n k : ℕ) → k ≤ length t → cond b (read_result c t k) (parsed (refusal n) k) ≡ parsed x next → Onward t k next
      go true n k h e = result-forward c k h x next e
      go false n k h e = let s : k ≡ next = same_next e in (omega arith, omega arith)

  pub record-forward : (at : ℕ) (r : Record) (next : ℕ) → read_record t at ≡ parsed r next → Forward t at next
  unfolding read_record
  record-forward at r next e =
      let a = followed-by (read_call t at) _ r next e in
      let b = followed-by (read_expected a.0 t a.1) _ r next a.3 in
      let s : b.1 ≡ next = same_next b.3 in
      let h = call-forward at a.0 a.1 a.2 in
      let i = expected-forward a.0 a.1 b.0 b.1 b.2 in
      (omega arith, omega arith)

  -- ---- read_from
  pub from_end : (f at : ℕ) → length t ≤ at → read_from f t at ≡ finished
  unfolding read_from
  from_end zero at h = refl
  from_end (suc f) at h = rw (le-ltb at (length t) h)

  -- any bound that reaches the end gives the same
  from-any : (f g at : ℕ) → length t - at ≤ f → length t - at ≤ g → read_from f t at ≡ read_from g t at
  unfolding read_from
  from-any zero g at h i = sym (from_end g at (omega arith))
  from-any (suc f) zero at h i = from_end (suc f) at (omega arith)
  from-any (suc f) (suc g) at h i = same-yes (ltb at (length t)) _ _ finished (λ u. go (read_record t at) refl (ltb→lt at (length t) u) (λ next. from-any f g next))
    where
      go : (x : Parsed Record) → read_record t at ≡ x → at < length t → ((next : ℕ) → length t - next ≤ f → length t - next ≤ g → read_from f t next ≡ read_from g t next) → held_by x (read_from f t) ≡ held_by x (read_from g t)
      go (parsed r next) e u ih = let m = record-forward at r next e in ap (holds r) (ih next (omega arith) (omega arith))
      go malformed e u ih = refl

  pub from_step : (at : ℕ) → at < length t → read_from (length t - at) t at ≡ held_by (read_record t at) (λ next. read_from (length t - next) t next)
  unfolding read_from
  from_step at h = from-any (length t - at) (suc (length t)) at (omega arith) (omega arith) ∙ rw (lt-ltb at (length t) h) (go (read_record t at) refl)
    where
      go : (x : Parsed Record) → read_record t at ≡ x → held_by x (read_from (length t) t) ≡ held_by x (λ next. read_from (length t - next) t next)
      go (parsed r next) e = ap (holds r) (from-any (length t) (length t - next) next (omega arith) (omega arith))
      go malformed e = refl
