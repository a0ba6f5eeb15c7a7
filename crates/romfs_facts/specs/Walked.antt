-- On an accepted walk every reached header is sound, and the reached headers are those that sound ones lead to.
use Rattle.std.specs.Prelude.{ℕ, ◌+◌, ◌-◌, ◌%◌, ◌≤◌, ◌<◌, ◌≡◌, refl, ◌≢◌, Bool, true, false, cond, ◌||◌, List, length, ltb, eqb}
use Rattle.std.proofs.Common.{sym, ◌∙◌}
use Rattle.std.proofs.Math.Bool.{not}
use native.Mathlib.Omega.{arith}
use borrow.Author.Tests.{eq-eqb, ne_eqb, ltb-true, ltb-false, eqb-true, not-false}
use Rattle.list_laws.specs.Test.{or-no-l, or-no-r}
use Rattle.romfs_spec.specs.Layout.{full_size, first_root, after_name, name_length, name_ends}
use Rattle.romfs_spec.specs.Check.{Verdict, accepted, broken, too_short, bad_magic, bad_full_size, bad_volume_sum, bad_volume_name, fault, visit_list, visit_entry, visit_all, walk, volume}
use Rattle.romfs_facts.specs.Tested.{Reached, root, along, inside, Sound}
use Rattle.romfs_facts.specs.Facts.{has-list, list-descends, list-first, fault-sound, room, ends}
use Rattle.romfs_facts.specs.Visit as visit
use Rattle.romfs_facts.specs.Visit.{From, lies, all, not-both}

-- ---- 21 to 25
-- none of 21 to 25 holds
pub record Volume (s : List ℕ) : Type 0 where
  pub not21 : too_short s ≡ false
  pub not22 : bad_magic s ≡ false
  pub not23 : bad_full_size s ≡ false
  pub not24 : bad_volume_sum s ≡ false
  pub not25 : bad_volume_name s ≡ false

cond-accepted : (b : Bool) (n q : ℕ) (v : Verdict) → cond b (broken n q) v ≡ accepted → (b ≡ false) × (v ≡ accepted)
cond-accepted true n q v e = absurd (not-both e refl)
cond-accepted false n q v e = (refl, e)

pub volume-of : (s : List ℕ) → volume s ≡ accepted → Volume s
unfolding volume
volume-of s e =
    let a = cond-accepted (too_short s) 21 0 _ e in
    let b = cond-accepted (bad_magic s) 22 0 _ a.1 in
    let c = cond-accepted (bad_full_size s) 23 0 _ b.1 in
    let d = cond-accepted (bad_volume_sum s) 24 0 _ c.1 in
    let f = cond-accepted (bad_volume_name s) 25 0 _ d.1 in
    record { not21 = a.0; not22 = b.0; not23 = c.0; not24 = d.0; not25 = f.0 }

pub of-volume : (s : List ℕ) → Volume s → volume s ≡ accepted
unfolding volume
of-volume s v = rw (v.not21, v.not22, v.not23, v.not24, v.not25)

module _ (s : List ℕ) (v : Volume s) where
  pub full_from : 32 ≤ full_size s
  unfolding bad_full_size
  full_from = ltb-false (full_size s) 32 (or-no-l (ltb (full_size s) 32) (ltb (length s) (full_size s) || not (eqb (full_size s % 16) 0)) v.not23)

  rest23 : (ltb (length s) (full_size s) || not (eqb (full_size s % 16) 0)) ≡ false
  unfolding bad_full_size
  rest23 = or-no-r (ltb (full_size s) 32) (ltb (length s) (full_size s) || not (eqb (full_size s % 16) 0)) v.not23

  pub full-to : full_size s ≤ length s
  full-to = ltb-false (length s) (full_size s) (or-no-l (ltb (length s) (full_size s)) (not (eqb (full_size s % 16) 0)) rest23)

  pub full-16 : full_size s % 16 ≡ 0
  full-16 =
      eqb-true (full_size s % 16) 0
      (not-false (eqb (full_size s % 16) 0) (or-no-r (ltb (length s) (full_size s)) (not (eqb (full_size s % 16) 0)) rest23))

  name_in : 16 + name_length s 16 < full_size s
  unfolding bad_volume_name name_ends
  name_in = ltb-true (16 + name_length s 16) (full_size s) (not-false (name_ends s 16) v.not25)

  pub root-from : 32 ≤ first_root s
  unfolding first_root after_name
  root-from = omega arith

  pub root-to : first_root s ≤ full_size s
  unfolding first_root after_name
  root-to = omega (arith, full-16, name_in)

-- ---- the root list
pub visit-none : (s : List ℕ) (test : ℕ → ℕ → ℕ → Verdict) → first_root s ≡ full_size s → visit_all s test ≡ accepted
unfolding visit_all
visit-none s test z = rw (eq-eqb (first_root s) (full_size s) z)

pub visit-root : (s : List ℕ) (test : ℕ → ℕ → ℕ → Verdict) → first_root s ≢ full_size s → visit_all s test ≡ visit_list s (visit_entry s test 7 (full_size s)) (full_size s - first_root s) (first_root s)
unfolding visit_all
visit-root s test z = rw (ne_eqb (first_root s) (full_size s) z)

pub has-root : {s : List ℕ} {p b d : ℕ} → Reached s p b d → first_root s ≢ full_size s
has-root (root z) = z
has-root (along r z) = has-root r
has-root (inside r t i) = has-root r

-- a header that sound ones lead to from the root
abbrev pub Met : List ℕ → ℕ → ℕ → ℕ → Type 0
Met s p bound depth = From s (first_root s) (full_size s) 1 p bound depth

pub met-reached : {s : List ℕ} {p b d : ℕ} → first_root s ≢ full_size s → Met s p b d → Reached s p b d
met-reached z visit.here = root z
met-reached z (visit.along f o n) = along (met-reached z f) n
met-reached {s} z (visit.inside {q = q} f o t) = inside (met-reached z f) (list-descends s q t) (list-first s q t)

module _ (s : List ℕ) (v : Volume s) where
  pub root_in : first_root s ≢ full_size s → first_root s < full_size s
  root_in z = omega (arith, root-to s v)

  -- where the walk accepts, the test holds of every header met
  pub all-met : (test : ℕ → ℕ → ℕ → Verdict) → visit_all s test ≡ accepted → first_root s ≢ full_size s → {p b d : ℕ} → Met s p b d → test b d p ≡ accepted
  all-met test e z {p} {b} {d} m =
      all s test 7 (full_size s - first_root s) (first_root s) (full_size s) 1 p b d (omega arith) (root_in z) (omega arith)
      (sym (visit-root s test z) ∙ e)
      m

  -- if each reached header is sound where it is met, all of them are met
  pub meet : ((p b d : ℕ) → first_root s ≢ full_size s → Met s p b d → Sound s p b d) → {p b d : ℕ} → Reached s p b d → Met s p b d
  meet h (root z) = visit.here
  meet h (along {p = p} {bound = b} {depth = d} r z) = visit.along (meet h r) (h p b d (has-root r) (meet h r)) z
  meet h (inside {p = p} {bound = b} {depth = d} r t i) = visit.inside (meet h r) (h p b d (has-root r) (meet h r)) (has-list s p t i)

module _ (s : List ℕ) (v : Volume s) (w : walk s ≡ accepted) where
  met-sound : (p b d : ℕ) → first_root s ≢ full_size s → Met s p b d → Sound s p b d
  unfolding walk
  met-sound p b d z m = fault-sound s p b d (all-met s v (fault s) w z m)

  pub met : {p b d : ℕ} → Reached s p b d → Met s p b d
  met r = meet s v met-sound r

  pub sound : {p b d : ℕ} → Reached s p b d → Sound s p b d
  sound {p} {b} {d} r = met-sound p b d (has-root r) (met r)

  pub reached-in : {p b d : ℕ} → Reached s p b d → (first_root s ≤ p) × (p < b) × (b ≤ full_size s)
  reached-in r = lies (root_in s v (has-root r)) (met r)

  -- an image's header with its fixed part and its name is inside the image
  pub reached-room : (p b d : ℕ) → Reached s p b d → p + 32 ≤ full_size s
  reached-room p b d r = let l = reached-in r in omega (arith, room s p, ends s p b d (sound r))
