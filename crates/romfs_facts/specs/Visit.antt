-- The walk goes through the headers that sound headers lead to, in rising order.
use Prim.Native.Nat.{ℕ, zero, suc, ◌+◌, ◌-◌, ◌≤◌, ◌<◌}
use Rattle.std.specs.Prelude.{◌≡◌, refl, ◌≢◌, true, false, List}
use Rattle.std.proofs.Common.{sym, ◌∙◌, sub-one}
use native.Mathlib.Omega.{arith}
use borrow.Author.Tests.{eq-eqb, ne_eqb}
use Rattle.romfs_spec.specs.Layout.{next, info, own, has_list}
use Rattle.romfs_spec.specs.Check.{Verdict, accepted, broken, and_then, visit_list, visit_entry}
use Rattle.romfs_facts.specs.Tested.{Sound}
use Rattle.romfs_facts.specs.Facts.{room, next-from, next-to, own-to, first-from, first_to, depth-to}

-- ---- headers that sound ones lead to, from p on
pub data From (s : List ℕ) (p bound depth : ℕ) : ℕ → ℕ → ℕ → Type 0 where
  here : From s p bound depth p bound depth
  along : {q b d : ℕ} → From s p bound depth q b d → Sound s q b d → next s q ≢ 0 → From s p bound depth (next s q) b d
  inside : {q b d : ℕ} → From s p bound depth q b d → Sound s q b d → has_list s q ≡ true → From s p bound depth (info s q) (own s b q) (suc d)

-- the same by the first step
pub data Cases (s : List ℕ) (p bound depth : ℕ) : ℕ → ℕ → ℕ → Type 0 where
  same : Cases s p bound depth p bound depth
  later : {q b d : ℕ} → Sound s p bound depth → next s p ≢ 0 → From s (next s p) bound depth q b d → Cases s p bound depth q b d
  below : {q b d : ℕ} → Sound s p bound depth → has_list s p ≡ true → From s (info s p) (own s bound p) (suc depth) q b d → Cases s p bound depth q b d

cases-along : {s : List ℕ} {p bound depth q b d : ℕ} → Cases s p bound depth q b d → Sound s q b d → next s q ≢ 0 → Cases s p bound depth (next s q) b d
cases-along same o n = later o n here
cases-along (later h z f) o n = later h z (along f o n)
cases-along (below h t f) o n = below h t (along f o n)

cases-inside : {s : List ℕ} {p bound depth q b d : ℕ} → Cases s p bound depth q b d → Sound s q b d → has_list s q ≡ true → Cases s p bound depth (info s q) (own s b q) (suc d)
cases-inside same o t = below o t here
cases-inside (later h z f) o t = later h z (inside f o t)
cases-inside (below h u f) o t = below h u (inside f o t)

pub cases : {s : List ℕ} {p bound depth q b d : ℕ} → From s p bound depth q b d → Cases s p bound depth q b d
cases here = same
cases (along f o n) = cases-along (cases f) o n
cases (inside f o t) = cases-inside (cases f) o t

-- they lie from p on, under their bounds, which are at most p's
pub lies : {s : List ℕ} {p bound depth q b d : ℕ} → p < bound → From s p bound depth q b d → (p ≤ q) × (q < b) × (b ≤ bound)
lies h here = omega arith
lies {s} h (along {q = q} {b = b} {d = d} f o n) = let l = lies h f in omega (arith, room s q, next-from s q b d o n, next-to s q b d o n)
lies {s} h (inside {q = q} {b = b} {d = d} f o t) =
    let l = lies h f in omega (arith, room s q, first-from s q b d o t, first_to s q b d o t, own-to s q b d o)

-- ---- verdicts
pub not-both : {n p : ℕ} {v : Verdict} → v ≡ accepted → v ≡ broken n p → ⊥
not-both e f = let z : ◌≡◌ {A = ℕ} 0 1 = cc in omega arith

pub then-accepted : (a b : Verdict) → and_then a b ≡ accepted → (a ≡ accepted) × (b ≡ accepted)
then-accepted accepted b e = (refl, e)
then-accepted (broken n p) b e = absurd (not-both e refl)

-- ---- one law for each way through a list and through an entry
module _ (s : List ℕ) (entry : ℕ → Verdict) where
  pub list-refused : (f p n q : ℕ) → 0 < f → entry p ≡ broken n q → visit_list s entry f p ≡ broken n q
  unfolding visit_list
  list-refused zero p n q h e = absurd (omega arith)
  list-refused (suc f) p n q h e = rw e

  pub list-last : (f p : ℕ) → 0 < f → entry p ≡ accepted → next s p ≡ 0 → visit_list s entry f p ≡ accepted
  unfolding visit_list
  list-last zero p h e z = absurd (omega arith)
  list-last (suc f) p h e z = rw (e, eq-eqb (next s p) 0 z)

  pub list-next : (f p : ℕ) → 0 < f → entry p ≡ accepted → next s p ≢ 0 → visit_list s entry f p ≡ visit_list s entry (f - 1) (next s p)
  unfolding visit_list
  list-next zero p h e z = absurd (omega arith)
  list-next (suc f) p h e z = rw (e, ne_eqb (next s p) 0 z, sub-one)

  pub list-entry : (f p : ℕ) → 0 < f → visit_list s entry f p ≡ accepted → entry p ≡ accepted
  unfolding visit_list
  list-entry zero p h e = absurd (omega arith)
  list-entry (suc f) p h e = (then-accepted (entry p) _ e).0

  pub list-rest : (f p : ℕ) → 0 < f → next s p ≢ 0 → visit_list s entry f p ≡ accepted → visit_list s entry (f - 1) (next s p) ≡ accepted
  list-rest f p h z e = sym (list-next f p h (list-entry f p h e) z) ∙ e

module _ (s : List ℕ) (test : ℕ → ℕ → ℕ → Verdict) (bound p : ℕ) where
  -- the list of the entry at p
  abbrev pub list_of : ℕ → Verdict
  list_of left = visit_list s (visit_entry s test left (own s bound p)) (own s bound p - info s p) (info s p)

  pub entry-refused : (left depth n q : ℕ) → left + depth ≡ 8 → test bound depth p ≡ broken n q → visit_entry s test left bound p ≡ broken n q
  unfolding visit_entry
  entry-refused zero depth n q l e = let d : depth ≡ 8 = omega arith in rw d at e
  entry-refused (suc left) depth n q l e = let d : depth ≡ 7 - left = omega arith in let f = rw d at e in rw f

  pub entry-leaf : (left depth : ℕ) → left + depth ≡ 8 → test bound depth p ≡ accepted → has_list s p ≡ false → visit_entry s test left bound p ≡ accepted
  unfolding visit_entry
  entry-leaf zero depth l e t = let d : depth ≡ 8 = omega arith in rw d at e
  entry-leaf (suc left) depth l e t = let d : depth ≡ 7 - left = omega arith in let f = rw d at e in rw (f, t)

  pub entry-list : (left depth : ℕ) → left + depth ≡ 8 → left ≢ 0 → test bound depth p ≡ accepted → has_list s p ≡ true → visit_entry s test left bound p ≡ list_of (left - 1)
  unfolding visit_entry
  entry-list zero depth l z e t = absurd (z refl)
  entry-list (suc left) depth l z e t = let d : depth ≡ 7 - left = omega arith in let f = rw d at e in rw (f, t, sub-one)

  pub entry-test : (left depth : ℕ) → left + depth ≡ 8 → visit_entry s test left bound p ≡ accepted → test bound depth p ≡ accepted
  unfolding visit_entry
  entry-test zero depth l e = let d : depth ≡ 8 = omega arith in rw d e
  entry-test (suc left) depth l e = let d : depth ≡ 7 - left = omega arith in rw d (then-accepted (test bound (7 - left) p) _ e).0

  pub entry-below : (left depth : ℕ) → left + depth ≡ 8 → left ≢ 0 → visit_entry s test left bound p ≡ accepted → has_list s p ≡ true → list_of (left - 1) ≡ accepted
  entry-below left depth l z e t = sym (entry-list left depth l z (entry-test left depth l e) t) ∙ e

-- ---- an accepted walk: the test holds of every header that sound ones lead to
module _ (s : List ℕ) (test : ℕ → ℕ → ℕ → Verdict) where
  abbrev All : ℕ → Type 0
  All left = (fuel p bound depth q b d : ℕ) → left + depth ≡ 8 → p < bound → bound - p ≤ fuel → visit_list s (visit_entry s test left bound) fuel p ≡ accepted → From s p bound depth q b d → test b d q ≡ accepted

  all-step : {p bound depth q b d : ℕ} → (Sound s p bound depth → next s p ≢ 0 → From s (next s p) bound depth q b d → test b d q ≡ accepted) → (Sound s p bound depth → has_list s p ≡ true → From s (info s p) (own s bound p) (suc depth) q b d → test b d q ≡ accepted) → test bound depth p ≡ accepted → Cases s p bound depth q b d → test b d q ≡ accepted
  all-step rest list e same = e
  all-step rest list e (later o z f) = rest o z f
  all-step rest list e (below o t f) = list o t f

  all-by : (left : ℕ) → (left ≢ 0 → All (left - 1)) → All left
  all-by left deep zero p bound depth q b d l h k e f = absurd (omega arith)
  all-by left deep (suc fuel) p bound depth q b d l h k e f =
      let en : visit_entry s test left bound p ≡ accepted = list-entry s (visit_entry s test left bound) (suc fuel) p (omega arith) e in
      all-step
      (λ o z g.
      all-by left deep fuel (next s p) bound depth q b d l (next-to s p bound depth o z) (omega (arith, room s p, next-from s p bound depth o z))
      (rw sub-one at (list-rest s (visit_entry s test left bound) (suc fuel) p (omega arith) z e))
      g)
      (λ o t g.
      let some : left ≢ 0 = omega (arith, depth-to s p bound depth o t) in
      deep some (own s bound p - info s p) (info s p) (own s bound p) (suc depth) q b d (omega arith) (first_to s p bound depth o t) (omega arith)
      (entry-below s test bound p left depth l some en t)
      g)
      (entry-test s test bound p left depth l en)
      (cases f)

  pub all : (left : ℕ) → All left
  all zero = all-by zero (λ z. absurd (z refl))
  all (suc left) = all-by (suc left) (λ z. rw sub-one (all left))
