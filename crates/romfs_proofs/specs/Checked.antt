-- What the check says, in plain facts: the theorems over its tests, translated.
use Rattle.std.specs.Prelude.{ℕ, suc, ◌+◌, ◌%◌, ◌≤◌, ◌<◌, ◌≡◌, refl, ◌≢◌, ◌↔◌, Bool, true, false, List, length}
use Rattle.std.proofs.Common.{sym, ap, subst, ◌∙◌, ⊎_elim, arith}
use Rattle.std.proofs.Math.Arith.{lt_of_le-ne}
use Rattle.romfs_spec.specs.Layout.{pad16, full_size, name_length, name_ends, after_name, first_root, type_of_file, info, own}
use Rattle.romfs_spec.specs.Check.{accepted, broken, too_short, bad_magic, bad_full_size, bad_volume_sum, bad_volume_name, bad_header, bad_nesting, too_deep, fault, check}
use Rattle.romfs_spec.specs.Accepted as plain
use Rattle.romfs_spec.specs.Accepted.{SoundVolume, type_at, next_at, info_at, HasList, RootFirst}
use Rattle.romfs_spec.specs.Statements as statements
use Rattle.romfs_spec.specs.Statements.{Walked, HeaderFault, at26, at27, at28, FirstFault, FirstLink, Refused, at21, at22, at23, at24, at25, at-header, at-link}
use Rattle.romfs_facts.specs.Tested as test
use Rattle.romfs_facts.specs.Facts.{true-false, has-list, list-descends, list-first, sound-fault}
use Rattle.romfs_facts.specs.Visit as visit
use Rattle.romfs_facts.specs.Lowest.{yes-no}
use Rattle.romfs_facts.specs.Walked.{Volume, full-to, Met}
use Rattle.romfs_facts.specs.Theorems as theorems
use Rattle.romfs_proofs.specs.Plain.{full_is, type-is, next-is, info-is, length-is, is-length, name-ends, ends_of, dots-is, has-list-is, Fails, short-fails, magic-fails, full-fails, sum-fails, volume-name-fails, header_of, of-header, own_of, own_is, nesting-fails, deep-fails}

-- ---- a test holds exactly when what it denies does not
pub denies : {P : Type 0} (b : Bool) → Fails b P → b ≡ true → P → ⊥
denies b f t h = true-false t (f.1 h)

pub denied : {P : Type 0} (b : Bool) → Fails b P → (P → ⊥) → b ≡ true
denied b f h = ⊎_elim (λ t. t) (λ n. absurd (h (f.0 n))) (yes-no b)

-- ---- 21 to 25
pub volume-is : (s : List ℕ) → Volume s → SoundVolume s
volume-is s v = record {
  long = (short-fails s).0 v.not21;
  magic = (magic-fails s).0 v.not22;
  full_size = (full-fails s).0 v.not23;
  sums = (sum-fails s).0 v.not24;
  named = (volume-name-fails s).0 v.not25;
}

pub is-volume : (s : List ℕ) → SoundVolume s → Volume s
is-volume s v = record {
  not21 = (short-fails s).1 v.long;
  not22 = (magic-fails s).1 v.magic;
  not23 = (full-fails s).1 v.full_size;
  not24 = (sum-fails s).1 v.sums;
  not25 = (volume-name-fails s).1 v.named;
}

-- ---- the root
pub root-first : (s : List ℕ) → name_ends s 16 ≡ true → RootFirst s (first_root s)
unfolding first_root after_name
root-first s e = record { name_length = name_length s 16; named = is-length s 16 e; is = refl }

pub root_is : (s : List ℕ) (p : ℕ) → RootFirst s p → first_root s ≡ p
unfolding first_root after_name
root_is s p r = rw (length-is s 16 r.name_length r.named) (sym r.is)

pub volume-named : (s : List ℕ) → Volume s → name_ends s 16 ≡ true
volume-named s v = (name-ends s 16).1 (volume-is s v).named

module _ (s : List ℕ) (v : Volume s) where
  inside : full_size s ≤ length s
  inside = full-to s v

  -- ---- 26 to 28
  pub sound-is : (p b d : ℕ) → test.Sound s p b d → plain.Sound s p b d
  sound-is p b d h =
      let head = header_of s b p h.head in
      record {
        name_length = name_length s (p + 16);
        head = head;
        nested = (nesting-fails s inside p (name_length s (p + 16)) head.named b).0 h.nested;
        shallow = (deep-fails s inside p (name_length s (p + 16)) head.named d).0 h.shallow;
      }

  pub is-sound : (p b d : ℕ) → plain.Sound s p b d → test.Sound s p b d
  is-sound p b d h =
      let z = h.head.named in
      record {
        head = of-header s b p h.head;
        nested = (nesting-fails s inside p h.name_length z b).1 h.nested;
        shallow = (deep-fails s inside p h.name_length z d).1 h.shallow;
      }

  pub sound-ends : (p b d : ℕ) → plain.Sound s p b d → name_ends s (p + 16) ≡ true
  sound-ends p b d h = ends_of s (p + 16) h.head.named

  -- ---- reached headers; their names end
  module _ (ends : (p b d : ℕ) → test.Reached s p b d → plain.Reached s p b d → name_ends s (p + 16) ≡ true) where
    pub reached-is : {p b d : ℕ} → test.Reached s p b d → plain.Reached s p b d
    reached-is (test.root z) =
        subst (λ (x : ℕ). plain.Reached s (first_root s) x 1) (sym (full_is s)) (plain.root (root-first s (volume-named s v)) (λ y. z (y ∙ sym (full_is s))))
    reached-is (test.along {p = p} {bound = b} {depth = d} r z) =
        subst (λ (x : ℕ). plain.Reached s x b d) (sym (next-is s p)) (plain.along (reached-is r) (λ y. z (next-is s p ∙ y)))
    reached-is (test.inside {p = p} {bound = b} {depth = d} r t i) =
        let q : plain.Reached s p b d = reached-is r in
        subst (λ (x : ℕ). plain.Reached s x (own s b p) (suc d)) (sym (info-is s p))
        (plain.inside q ((has-list-is s inside p (ends p b d r q)).0 (has-list s p t i)) (own_of s p b))

  module _ (ends : (p b d : ℕ) → test.Reached s p b d → name_ends s (p + 16) ≡ true) where
    pub is-reached : {p b d : ℕ} → plain.Reached s p b d → test.Reached s p b d
    is-reached (plain.root {p = p} f z) =
        let e : first_root s ≡ p = root_is s p f in
        subst (λ (x : ℕ). test.Reached s p x 1) (full_is s) (subst (λ (x : ℕ). test.Reached s x (full_size s) 1) e (test.root (λ y. z (sym e ∙ y ∙ full_is s))))
    is-reached (plain.along {p = p} {bound = b} {depth = d} r z) =
        subst (λ (x : ℕ). test.Reached s x b d) (next-is s p) (test.along (is-reached r) (λ y. z (sym (next-is s p) ∙ y)))
    is-reached (plain.inside {p = p} {bound = b} {depth = d} {own = o} r u w) =
        let q : test.Reached s p b d = is-reached r in
        let t = (has-list-is s inside p (ends p b d q)).1 u in
        subst (λ (x : ℕ). test.Reached s (info_at s p) x (suc d)) (own_is w)
        (subst (λ (x : ℕ). test.Reached s x (own s b p) (suc d)) (info-is s p) (test.inside q (list-descends s p t) (list-first s p t)))

    pub reach : (p : ℕ) → test.IsReached s p → plain.IsReached s p
    reach p r = record { bound = r.bound; depth = r.depth; reached = reached-is (λ q b d x y. ends q b d x) r.reached }

    pub unreach : (p : ℕ) → plain.IsReached s p → test.IsReached s p
    unreach p r = record { bound = r.bound; depth = r.depth; reached = is-reached r.reached }

    -- ---- 29
    pub linked-is : (p : ℕ) → test.IsReached s p → test.Linked s p → plain.Linked s p
    linked-is p r h =
        let to : test.IsReached s (info s p) → plain.IsReached s (info_at s p) = λ x. subst (plain.IsReached s) (info-is s p) (reach (info s p) x) in
        record {
          hard = λ k. let t = h.hard (type-is s p ∙ k) in (to t.0, λ y. t.1 (type-is s (info s p) ∙ ap (type_at s) (info-is s p) ∙ y));
          dots = λ k d. to (h.dots (type-is s p ∙ k) ((dots-is s inside p (ends p r.bound r.depth r.reached)).1 d));
        }

    pub is-linked : (p : ℕ) → test.IsReached s p → plain.Linked s p → test.Linked s p
    is-linked p r h =
        let to : plain.IsReached s (info_at s p) → test.IsReached s (info s p) = λ x. subst (test.IsReached s) (sym (info-is s p)) (unreach (info_at s p) x) in
        record {
          hard = λ k. let t = h.hard (sym (type-is s p) ∙ k) in (to t.0, λ y. t.1 (sym (type-is s (info_at s p)) ∙ ap (type_of_file s) (sym (info-is s p)) ∙ y));
          dots = λ k d. to (h.dots (sym (type-is s p) ∙ k) ((dots-is s inside p (ends p r.bound r.depth r.reached)).0 d));
        }

  -- ---- headers that sound ones lead to
  pub met-is : {p b d : ℕ} → first_root s ≢ full_size s → Met s p b d → statements.Met s p b d
  met-is z visit.here =
      subst (λ (x : ℕ). statements.Met s (first_root s) x 1) (sym (full_is s)) (statements.root (root-first s (volume-named s v)) (λ y. z (y ∙ sym (full_is s))))
  met-is z (visit.along {q = p} {b = b} {d = d} m o n) =
      subst (λ (x : ℕ). statements.Met s x b d) (sym (next-is s p)) (statements.along (met-is z m) (sound-is p b d o) (λ y. n (next-is s p ∙ y)))
  met-is z (visit.inside {q = p} {b = b} {d = d} m o t) =
      let h : plain.Sound s p b d = sound-is p b d o in
      subst (λ (x : ℕ). statements.Met s x (own s b p) (suc d)) (sym (info-is s p))
      (statements.inside (met-is z m) h ((has-list-is s inside p (sound-ends p b d h)).0 t) (own_of s p b))

  pub has-root : {p b d : ℕ} → statements.Met s p b d → first_root s ≢ full_size s
  has-root (statements.root {p = p} f z) = λ y. z (sym (root_is s p f) ∙ y ∙ full_is s)
  has-root (statements.along m o n) = has-root m
  has-root (statements.inside m o u w) = has-root m

  pub is-met : {p b d : ℕ} → statements.Met s p b d → Met s p b d
  is-met (statements.root {p = p} f z) =
      subst (λ (x : ℕ). Met s p x 1) (full_is s) (subst (λ (x : ℕ). Met s x (full_size s) 1) (root_is s p f) visit.here)
  is-met (statements.along {p = p} {bound = b} {depth = d} m o n) =
      subst (λ (x : ℕ). Met s x b d) (next-is s p) (visit.along (is-met m) (is-sound p b d o) (λ y. n (sym (next-is s p) ∙ y)))
  is-met (statements.inside {p = p} {bound = b} {depth = d} m o u w) =
      subst (λ (x : ℕ). Met s (info_at s p) x (suc d)) (own_is w)
      (subst (λ (x : ℕ). Met s x (own s b p) (suc d)) (info-is s p) (visit.inside (is-met m) (is-sound p b d o) ((has-list-is s inside p (sound-ends p b d o)).1 u)))

  -- ---- the fault of a header
  module _ (p b d : ℕ) where
    number : (n m : ℕ) → fault s b d p ≡ broken n p → fault s b d p ≡ broken m p → m ≡ n
    number n m e f = cc

    fault-26 : bad_header s b p ≡ true → fault s b d p ≡ broken 26 p
    unfolding fault
    fault-26 h = rw h

    fault-27 : bad_header s b p ≡ false → bad_nesting s b p ≡ true → fault s b d p ≡ broken 27 p
    unfolding fault
    fault-27 h k = rw (h, k)

    fault-28 : bad_header s b p ≡ false → bad_nesting s b p ≡ false → too_deep s d p ≡ true → fault s b d p ≡ broken 28 p
    unfolding fault
    fault-28 h k j = rw (h, k, j)

    pub fault-is : (n : ℕ) → fault s b d p ≡ broken n p → HeaderFault s p b d n
    fault-is n e =
        ⊎_elim (λ h. subst (HeaderFault s p b d) (number n 26 e (fault-26 h)) (at26 (λ m k. true-false h (of-header s b p k))))
        (λ h.
        let head = header_of s b p h in
        let z = head.named in
        ⊎_elim (λ k. subst (HeaderFault s p b d) (number n 27 e (fault-27 h k)) (at27 head (denies (bad_nesting s b p) (nesting-fails s inside p (name_length s (p + 16)) z b) k)))
        (λ k.
        ⊎_elim (λ j. subst (HeaderFault s p b d) (number n 28 e (fault-28 h k j)) (at28 head ((nesting-fails s inside p (name_length s (p + 16)) z b).0 k) (denies (too_deep s d p) (deep-fails s inside p (name_length s (p + 16)) z d) j)))
        (λ j. absurd (visit.not-both (sound-fault s p b d (record { head = h; nested = k; shallow = j })) e))
        (yes-no (too_deep s d p)))
        (yes-no (bad_nesting s b p)))
        (yes-no (bad_header s b p))

    pub is-fault : {n : ℕ} → HeaderFault s p b d n → fault s b d p ≡ broken n p
    is-fault (at26 f) = fault-26 (⊎_elim (λ h. h) (λ h. absurd (f (name_length s (p + 16)) (header_of s b p h))) (yes-no (bad_header s b p)))
    is-fault (at27 {n = n} h f) = fault-27 (of-header s b p h) (denied (bad_nesting s b p) (nesting-fails s inside p n h.named b) f)
    is-fault (at28 {n = n} h k f) =
        fault-28 (of-header s b p h) ((nesting-fails s inside p n h.named b).1 k) (denied (too_deep s d p) (deep-fails s inside p n h.named d) f)

  pub first-fault-is : {n p : ℕ} → theorems.FirstFault s n p → FirstFault s n p
  first-fault-is {n} {p} f = record {
    bound = f.bound;
    depth = f.depth;
    met = met-is f.some f.met;
    fault = fault-is p f.bound f.depth n f.fails;
    lower = λ m l. sound-is _ _ _ (f.lower _ _ _ (is-met m) l);
  }

  pub is-first-fault : {n p : ℕ} → FirstFault s n p → theorems.FirstFault s n p
  is-first-fault {n} {p} f = record {
    some = has-root f.met;
    bound = f.bound;
    depth = f.depth;
    met = is-met f.met;
    fails = is-fault p f.bound f.depth f.fault;
    lower = λ q b d m l. is-sound q b d (f.lower (met-is (has-root f.met) m) l);
  }

  module _ (ends : (p b d : ℕ) → test.Reached s p b d → name_ends s (p + 16) ≡ true) where
    pub first-link-is : {p : ℕ} → theorems.FirstLink s p → FirstLink s p
    first-link-is {p} f = record {
      reached = reach ends p f.reached;
      fault = λ h. f.fails (is-linked ends p f.reached h);
      lower = λ {q} r l. let t = unreach ends q r in linked-is ends q t (f.lower q t l);
    }

    pub is-first-link : {p : ℕ} → FirstLink s p → theorems.FirstLink s p
    is-first-link {p} f = record {
      reached = unreach ends p f.reached;
      fails = λ h. f.fault (linked-is ends p (unreach ends p f.reached) h);
      lower = λ q r l. is-linked ends q r (f.lower (reach ends q r) l);
    }

  -- every reached header is sound, either way
  pub test-ends : ((p b d : ℕ) → test.Reached s p b d → test.Sound s p b d) → (p b d : ℕ) → test.Reached s p b d → name_ends s (p + 16) ≡ true
  test-ends h p b d r = sound-ends p b d (sound-is p b d (h p b d r))

  plain-ends : ((p b d : ℕ) → plain.Reached s p b d → plain.Sound s p b d) → (p b d : ℕ) → test.Reached s p b d → plain.Reached s p b d → name_ends s (p + 16) ≡ true
  plain-ends h p b d r q = sound-ends p b d (h p b d q)

  pub all_sound : ((p b d : ℕ) → plain.Reached s p b d → plain.Sound s p b d) → (p b d : ℕ) → test.Reached s p b d → test.Sound s p b d
  all_sound h p b d r = is-sound p b d (h p b d (reached-is (plain-ends h) r))

  pub sound-all : ((p b d : ℕ) → test.Reached s p b d → test.Sound s p b d) → (p b d : ℕ) → plain.Reached s p b d → plain.Sound s p b d
  sound-all h p b d r = sound-is p b d (h p b d (is-reached (test-ends h) r))

-- ---- accepted images
-- a next header is a multiple of 16
next-16 : (s : List ℕ) (p : ℕ) → next_at s p % 16 ≡ 0
unfolding next_at
next-16 s p = omega arith

-- an entry's own bound is at most its list's, and so at most F
own-to : (s : List ℕ) (p b o d : ℕ) → plain.OwnBound s p b o → b ≤ plain.full s → plain.Sound s p b d → o ≤ plain.full s
own-to s p b _ d (plain.last z) l h = l
own-to s p b _ d (plain.next z) l h = omega (arith, (h.nested.next z).1)

pub volume-in : (s : List ℕ) → test.Accepted s → Volume s
volume-in s a = record { not21 = a.not21; not22 = a.not22; not23 = a.not23; not24 = a.not24; not25 = a.not25 }

pub accepted-is : (s : List ℕ) → test.Accepted s → plain.Accepted s
accepted-is s a =
    let v : Volume s = volume-in s a in
    let all : (p b d : ℕ) → test.Reached s p b d → test.Sound s p b d = λ p b d r. a.sound r in
    record {
      volume = volume-is s v;
      sound = λ r. sound-all s v all _ _ _ r;
      linked = λ {p} r. let t = unreach s v (test-ends s v all) p r in linked-is s v (test-ends s v all) p t (a.linked t.reached);
    }

pub is-accepted : (s : List ℕ) → plain.Accepted s → test.Accepted s
is-accepted s a =
    let v : Volume s = is-volume s a.volume in
    let all : (p b d : ℕ) → test.Reached s p b d → test.Sound s p b d = all_sound s v (λ p b d r. a.sound r) in
    record {
      not21 = v.not21;
      not22 = v.not22;
      not23 = v.not23;
      not24 = v.not24;
      not25 = v.not25;
      sound = λ r. all _ _ _ r;
      linked = λ {p} {bound} {depth} r.
          let t : test.IsReached s p = record { bound = bound; depth = depth; reached = r } in
          is-linked s v (test-ends s v all) p t (a.linked (reach s v (test-ends s v all) p t));
    }

pub check-accepted : (s : List ℕ) → (check s ≡ accepted) ↔ plain.Accepted s
check-accepted s = (λ e. accepted-is s ((theorems.check-accepted s).0 e), λ a. (theorems.check-accepted s).1 (is-accepted s a))

-- ---- refusals
refused-is : {s : List ℕ} {n p : ℕ} → theorems.Refused s n p → Refused s n p
refused-is {s} (theorems.at21 a) = at21 (denies (too_short s) (short-fails s) a)
refused-is {s} (theorems.at22 a b) = at22 ((short-fails s).0 a) (denies (bad_magic s) (magic-fails s) b)
refused-is {s} (theorems.at23 a b c) = at23 ((short-fails s).0 a) ((magic-fails s).0 b) (denies (bad_full_size s) (full-fails s) c)
refused-is {s} (theorems.at24 a b c d) = at24 ((short-fails s).0 a) ((magic-fails s).0 b) ((full-fails s).0 c) (denies (bad_volume_sum s) (sum-fails s) d)
refused-is {s} (theorems.at25 a b c d e) = at25 ((short-fails s).0 a) ((magic-fails s).0 b) ((full-fails s).0 c) ((sum-fails s).0 d) (denies (bad_volume_name s) (volume-name-fails s) e)
refused-is {s} (theorems.at-header v f) = at-header (volume-is s v) (first-fault-is s v f)
refused-is {s} (theorems.at-link v h f) = at-link (volume-is s v, sound-all s v h) (first-link-is s v (test-ends s v h) f)

is-refused : {s : List ℕ} {n p : ℕ} → Refused s n p → theorems.Refused s n p
is-refused {s} (at21 a) = theorems.at21 (denied (too_short s) (short-fails s) a)
is-refused {s} (at22 a b) = theorems.at22 ((short-fails s).1 a) (denied (bad_magic s) (magic-fails s) b)
is-refused {s} (at23 a b c) = theorems.at23 ((short-fails s).1 a) ((magic-fails s).1 b) (denied (bad_full_size s) (full-fails s) c)
is-refused {s} (at24 a b c d) = theorems.at24 ((short-fails s).1 a) ((magic-fails s).1 b) ((full-fails s).1 c) (denied (bad_volume_sum s) (sum-fails s) d)
is-refused {s} (at25 a b c d e) = theorems.at25 ((short-fails s).1 a) ((magic-fails s).1 b) ((full-fails s).1 c) ((sum-fails s).1 d) (denied (bad_volume_name s) (volume-name-fails s) e)
is-refused {s} (at-header v f) = let w = is-volume s v in theorems.at-header w (is-first-fault s w f)
is-refused {s} (at-link h f) =
    let w = is-volume s h.0 in
    let all = all_sound s w h.1 in
    theorems.at-link w all (is-first-link s w (test-ends s w all) f)

pub check-refused : (s : List ℕ) (n p : ℕ) → (check s ≡ broken n p) ↔ Refused s n p
check-refused s n p = (λ e. refused-is ((theorems.check-given s (broken n p)).0 e), λ r. (theorems.check-given s (broken n p)).1 (is-refused r))

-- ---- what the nesting gives where 21 to 28 are not broken
-- the root's first header lies before F
root-lies : (s : List ℕ) (p : ℕ) → SoundVolume s → RootFirst s p → p ≢ plain.full s → (32 ≤ p) × (p % 16 ≡ 0) × (p < plain.full s)
root-lies s p v f z =
    let e : p ≡ 16 + pad16 (f.name_length + 1) = f.is in
    let to : 16 + f.name_length < plain.full s = f.named.to in
    let low : p ≤ plain.full s = omega (arith, v.full_size.whole) in
    (omega arith, omega arith, lt_of_le-ne low z)

pub reached-lies : (s : List ℕ) (p b d : ℕ) → Walked s → plain.Reached s p b d → (32 ≤ p) × (p % 16 ≡ 0) × (p < b) × (b ≤ plain.full s)
reached-lies s p b d a (plain.root f z) = let l = root-lies s p a.0 f z in (l.0, l.1, l.2, omega arith)
reached-lies s p b d a (plain.along {p = q} r z) =
    let l = reached-lies s q b d a r in
    let h = a.1 q b d r in
    let n = h.nested.next z in
    (omega (arith, l.0, n.0), next-16 s q, n.1, l.3)
reached-lies s p b d a (plain.inside {p = q} {bound = c} {depth = e} r u w) =
    let l = reached-lies s q c e a r in
    let h = a.1 q c e r in
    let n = h.nested.first u w in
    (omega (arith, l.0, n.1), n.0, n.2, own-to s q c b e w l.3 h)

pub reached-rises : (s : List ℕ) (p b d : ℕ) → Walked s → plain.Reached s p b d → (next_at s p ≢ 0 → p < next_at s p) × (HasList s p → p < info_at s p)
reached-rises s p b d a r =
    let h : plain.Sound s p b d = a.1 p b d r in (
      λ z. omega (arith, h.nested.next z),
      λ u. omega (arith, h.nested.first u (own_of s p b)),
    )

pub reached-once : (s : List ℕ) (p b d c e : ℕ) → Walked s → plain.Reached s p b d → plain.Reached s p c e → (b ≡ c) × (d ≡ e)
reached-once s p b d c e a q r =
    let v : Volume s = is-volume s a.0 in
    let all : (p b d : ℕ) → test.Reached s p b d → test.Sound s p b d = all_sound s v a.1 in
    let to : (x y : ℕ) → plain.Reached s p x y → test.Reached s p x y = λ x y z. is-reached s v (test-ends s v all) z in
    theorems.reached-once v ((theorems.walk-accepted s v).1 all) (to b d q) (to c e r)

pub reached-deep : (s : List ℕ) (p b d : ℕ) → Walked s → plain.Reached s p b d → d ≤ 8
reached-deep s p b d a (plain.root f z) = omega arith
reached-deep s p b d a (plain.along {p = q} r z) = reached-deep s q b d a r
reached-deep s p b d a (plain.inside {p = q} {bound = c} {depth = e} r u w) = omega (arith, (a.1 q c e r).shallow u)
