-- What a sound header gives: its end, its next and its first header lie where the nesting has them.
use Rattle.std.specs.Prelude.{ℕ, ◌+◌, ◌%◌, ◌≤◌, ◌<◌, ◌≡◌, refl, ◌≢◌, ◌⊎◌, Bool, true, false, not, cond, ◌&&◌, ◌||◌, List, ltb, eqb}
use Rattle.std.proofs.Common.{inl, inr, arith}
use Rattle.std.proofs.Math.Decide.{ℕ_discrete}
use borrow.Author.Tests.{ltb-false, leb-false, eq-eqb, ne_eqb, eqb-true, not-false}
use Rattle.std.proofs.Math.Dec.{leb}
use Rattle.list_laws.specs.Test.{or-no-l, or-no-r}
use Rattle.romfs_spec.specs.Layout.{after_name, next, info, content_at, end_of, own, descends, has_list}
use Rattle.romfs_spec.specs.Check.{accepted, broken, over_bound, bad_header, bad_next, bad_first, bad_nesting, too_deep, fault, bad_name, bad_sum, bad_info, bad_size}
use Rattle.romfs_facts.specs.Tested.{Sound}

-- ---- Booleans
pub or_yes : (a b : Bool) → (a || b) ≡ true → (a ≡ true) ⊎ (b ≡ true)
or_yes true b e = inl refl
or_yes false b e = inr e

pub and_no : (a b : Bool) → (a && b) ≡ false → a ≡ true → b ≡ false
and_no true b e t = e
and_no false b e t = absurd (let z : ◌≡◌ {A = ℕ} 0 1 = cc in omega arith)

pub and-yes-l : (a b : Bool) → (a && b) ≡ true → a ≡ true
and-yes-l true b e = refl
and-yes-l false b e = e

pub and-yes-r : (a b : Bool) → (a && b) ≡ true → b ≡ true
and-yes-r true b e = e
and-yes-r false b e = absurd (let z : ◌≡◌ {A = ℕ} 0 1 = cc in omega arith)

pub both : (a b : Bool) → a ≡ true → b ≡ true → (a && b) ≡ true
both a b e f = rw (e, f)

pub either : (a b : Bool) → (a ≡ true) ⊎ (b ≡ true) → (a || b) ≡ true
either true b h = refl
either false b (inl e) = absurd (let z : ◌≡◌ {A = ℕ} 0 1 = cc in omega arith)
either false b (inr e) = e

pub not_eqb : (a b : ℕ) → a ≢ b → not (eqb a b) ≡ true
not_eqb a b h = rw (ne_eqb a b h)

pub true-false : {b : Bool} → b ≡ true → b ≡ false → ⊥
true-false e f = let z : ◌≡◌ {A = ℕ} 0 1 = cc in omega arith

-- ---- a list to descend to
pub has-list : (s : List ℕ) (p : ℕ) → descends s p ≡ true → info s p ≢ 0 → has_list s p ≡ true
unfolding has_list
has-list s p d i = both (descends s p) (not (eqb (info s p) 0)) d (not_eqb (info s p) 0 i)

pub list-descends : (s : List ℕ) (p : ℕ) → has_list s p ≡ true → descends s p ≡ true
unfolding has_list
list-descends s p h = and-yes-l (descends s p) (not (eqb (info s p) 0)) h

pub list-first : (s : List ℕ) (p : ℕ) → has_list s p ≡ true → info s p ≢ 0
unfolding has_list
list-first s p h z = true-false (and-yes-r (descends s p) (not (eqb (info s p) 0)) h) (rw (eq-eqb (info s p) 0 z))

and-false : (b : Bool) → (b && false) ≡ false
and-false true = refl
and-false false = refl

pub no-list : (s : List ℕ) (p : ℕ) → descends s p ≡ false → has_list s p ≡ false
unfolding has_list
no-list s p d = rw d

pub empty-list : (s : List ℕ) (p : ℕ) → info s p ≡ 0 → has_list s p ≡ false
unfolding has_list
empty-list s p z = rw (eq-eqb (info s p) 0 z) (and-false (descends s p))

-- ---- the own bound
pub own-test : (s : List ℕ) (bound p n o : ℕ) → o ≡ cond (eqb n 0) bound n → n ≡ next s p → o ≡ own s bound p
unfolding own
own-test s bound p n o h f = rw (← f) h

pub own-next : (s : List ℕ) (bound p : ℕ) → next s p ≢ 0 → own s bound p ≡ next s p
unfolding own
own-next s bound p z = rw (ne_eqb (next s p) 0 z)

pub own-last : (s : List ℕ) (bound p : ℕ) → next s p ≡ 0 → own s bound p ≡ bound
unfolding own
own-last s bound p z = rw (eq-eqb (next s p) 0 z)

-- ---- a sound header
pub room : (s : List ℕ) (p : ℕ) → p + 32 ≤ end_of s p
unfolding end_of content_at after_name
room s p = omega arith

module _ (s : List ℕ) (p bound depth : ℕ) (h : Sound s p bound depth) where
  pub ends : end_of s p ≤ bound
  unfolding bad_header over_bound
  ends = ltb-false bound (end_of s p) (or-no-l (over_bound s bound p) (bad_name s p || (bad_sum s p || (bad_info s p || bad_size s p))) h.head)

  next-in : next s p ≢ 0 → (ltb (next s p) (end_of s p) || leb bound (next s p)) ≡ false
  unfolding bad_nesting bad_next
  next-in z =
      and_no (not (eqb (next s p) 0)) (ltb (next s p) (end_of s p) || leb bound (next s p))
      (or-no-l (bad_next s bound p) (bad_first s bound p) h.nested)
      (not_eqb (next s p) 0 z)

  pub next-from : next s p ≢ 0 → end_of s p ≤ next s p
  next-from z = ltb-false (next s p) (end_of s p) (or-no-l (ltb (next s p) (end_of s p)) (leb bound (next s p)) (next-in z))

  pub next-to : next s p ≢ 0 → next s p < bound
  next-to z = leb-false bound (next s p) (or-no-r (ltb (next s p) (end_of s p)) (leb bound (next s p)) (next-in z))

  pub own-to : own s bound p ≤ bound
  own-to =
      elim (ℕ_discrete (next s p) 0)
      [ yes z ↦ omega (arith, own-last s bound p z) | no z ↦ omega (arith, own-next s bound p z, next-to z) ]

  first-ok : has_list s p ≡ true → (not (eqb (info s p % 16) 0) || (ltb (info s p) (end_of s p) || leb (own s bound p) (info s p))) ≡ false
  unfolding bad_nesting bad_first
  first-ok t =
      and_no (has_list s p) (not (eqb (info s p % 16) 0) || (ltb (info s p) (end_of s p) || leb (own s bound p) (info s p)))
      (or-no-r (bad_next s bound p) (bad_first s bound p) h.nested)
      t

  pub first-16 : has_list s p ≡ true → info s p % 16 ≡ 0
  first-16 t =
      eqb-true (info s p % 16) 0
      (not-false (eqb (info s p % 16) 0) (or-no-l (not (eqb (info s p % 16) 0)) (ltb (info s p) (end_of s p) || leb (own s bound p) (info s p)) (first-ok t)))

  first-in : has_list s p ≡ true → (ltb (info s p) (end_of s p) || leb (own s bound p) (info s p)) ≡ false
  first-in t = or-no-r (not (eqb (info s p % 16) 0)) (ltb (info s p) (end_of s p) || leb (own s bound p) (info s p)) (first-ok t)

  pub first-from : has_list s p ≡ true → end_of s p ≤ info s p
  first-from t = ltb-false (info s p) (end_of s p) (or-no-l (ltb (info s p) (end_of s p)) (leb (own s bound p) (info s p)) (first-in t))

  pub first_to : has_list s p ≡ true → info s p < own s bound p
  first_to t = leb-false (own s bound p) (info s p) (or-no-r (ltb (info s p) (end_of s p)) (leb (own s bound p) (info s p)) (first-in t))

  pub depth-to : has_list s p ≡ true → depth < 8
  unfolding too_deep
  depth-to t = leb-false 8 depth (and_no (has_list s p) (leb 8 depth) h.shallow t)

-- ---- the fault of a header
fault-by : (p : ℕ) (a b c : Bool) → cond a (broken 26 p) (cond b (broken 27 p) (cond c (broken 28 p) accepted)) ≡ accepted → (a ≡ false) × (b ≡ false) × (c ≡ false)
fault-by p true b c e = absurd (let z : ◌≡◌ {A = ℕ} 0 1 = cc in omega arith)
fault-by p false true c e = absurd (let z : ◌≡◌ {A = ℕ} 0 1 = cc in omega arith)
fault-by p false false true e = absurd (let z : ◌≡◌ {A = ℕ} 0 1 = cc in omega arith)
fault-by p false false false e = (refl, refl, refl)

pub fault-sound : (s : List ℕ) (p bound depth : ℕ) → fault s bound depth p ≡ accepted → Sound s p bound depth
unfolding fault
fault-sound s p bound depth e =
    let f = fault-by p (bad_header s bound p) (bad_nesting s bound p) (too_deep s depth p) e in
    record { head = f.0; nested = f.1; shallow = f.2 }

pub sound-fault : (s : List ℕ) (p bound depth : ℕ) → Sound s p bound depth → fault s bound depth p ≡ accepted
unfolding fault
sound-fault s p bound depth h = rw (h.head, h.nested, h.shallow)

place-by : (p n q : ℕ) (a b c : Bool) → cond a (broken 26 p) (cond b (broken 27 p) (cond c (broken 28 p) accepted)) ≡ broken n q → q ≡ p
place-by p n q true b c e = cc
place-by p n q false true c e = cc
place-by p n q false false true e = cc
place-by p n q false false false e = absurd (let z : ◌≡◌ {A = ℕ} 0 1 = cc in omega arith)

pub fault-place : (s : List ℕ) (p bound depth n q : ℕ) → fault s bound depth p ≡ broken n q → q ≡ p
unfolding fault
fault-place s p bound depth n q e = place-by p n q (bad_header s bound p) (bad_nesting s bound p) (too_deep s depth p) e

number_by : (p n q : ℕ) (a b c : Bool) → cond a (broken 26 p) (cond b (broken 27 p) (cond c (broken 28 p) accepted)) ≡ broken n q → (26 ≤ n) × (n ≤ 28)
number_by p n q true b c e = let f : n ≡ 26 = cc in omega arith
number_by p n q false true c e = let f : n ≡ 27 = cc in omega arith
number_by p n q false false true e = let f : n ≡ 28 = cc in omega arith
number_by p n q false false false e = absurd (let z : ◌≡◌ {A = ℕ} 0 1 = cc in omega arith)

pub fault-number : (s : List ℕ) (p bound depth n q : ℕ) → fault s bound depth p ≡ broken n q → (26 ≤ n) × (n ≤ 28)
unfolding fault
fault-number s p bound depth n q e = number_by p n q (bad_header s bound p) (bad_nesting s bound p) (too_deep s depth p) e
