-- For find and content on an accepted image: a directory's first header is reached, a granted content lies inside F. (What a verdict says is Given of Theorems.)
use Rattle.std.specs.Prelude.{ℕ, suc, ◌+◌, ◌≤◌, ◌≡◌, refl, ◌≢◌, ◌⊎◌, ◌↔◌, Bool, true, false, cond, ◌&&◌, List, length, eqb}
use Rattle.std.proofs.Common.{sym, subst, ◌∙◌, inl, inr, ⊎_elim, arith, eq-eqb, ne_eqb, eqb-true}
use Rattle.std.proofs.Math.Decide.{ℕ_discrete}
use Rattle.romfs_spec.specs.Layout.{full_size, first_root, type_of_file, info, size, own, content_at, end_of, is_dots, descends, has_data}
use Rattle.romfs_spec.specs.Check.{Verdict, accepted, broken, is_reached, check}
use Rattle.romfs_facts.specs.Tested.{root, inside, IsReached, Sound}
use Rattle.romfs_spec.specs.Requests.{granted, refused, checked, first_of, is_directory, content_step, content_length}
use Rattle.romfs_facts.specs.Facts.{or_yes, and-yes-l, and-yes-r, ends}
use Rattle.romfs_facts.specs.Lowest.{yes-no}
use Rattle.romfs_facts.specs.Walked.{volume-of, full-to, reached-in}
use Rattle.romfs_facts.specs.Seek.{is-reached}
use Rattle.romfs_facts.specs.Theorems.{check-accepted, check-parts}

-- ---- find
first-root : (s : List ℕ) (dir : ℕ) → dir ≡ 0 → first_of s dir ≢ 0 → IsReached s (first_of s dir)
unfolding first_of
first-root s dir z h =
    elim (ℕ_discrete (first_root s) (full_size s)) [
      | yes e ↦ absurd (h (rw (eq-eqb dir 0 z, eq-eqb (first_root s) (full_size s) e)))
      | no e ↦ rw (eq-eqb dir 0 z, ne_eqb (first_root s) (full_size s) e) (record { bound = full_size s; depth = 1; reached = root e })
    ]

pub first-info : (s : List ℕ) (dir : ℕ) → dir ≢ 0 → first_of s dir ≡ info s dir
unfolding first_of
first-info s dir z = rw (ne_eqb dir 0 z)

dir-reached : (s : List ℕ) (dir : ℕ) → is_directory s dir ≡ true → dir ≢ 0 → (is_reached s dir && eqb (type_of_file s dir) 1) ≡ true
unfolding is_directory
dir-reached s dir h z = rw (ne_eqb dir 0 z) at h

-- a directory that is not 0 is a reached header
pub dir-is : (s : List ℕ) (dir : ℕ) → is_directory s dir ≡ true → dir ≢ 0 → IsReached s dir
dir-is s dir h z = is-reached s dir (and-yes-l (is_reached s dir) (eqb (type_of_file s dir) 1) (dir-reached s dir h z))

descends-of : (s : List ℕ) (p : ℕ) → type_of_file s p ≡ 1 → is_dots s p ≡ false → descends s p ≡ true
unfolding descends
descends-of s p k d = rw (eq-eqb (type_of_file s p) 1 k, d)

-- a directory's first header is reached, also that of "." and ".."
pub first-reached : (s : List ℕ) (dir : ℕ) → check s ≡ accepted → is_directory s dir ≡ true → first_of s dir ≢ 0 → IsReached s (first_of s dir)
first-reached s dir a h f =
    elim (ℕ_discrete dir 0) [
      | yes z ↦ first-root s dir z f
      | no z ↦
          let r : IsReached s dir = dir-is s dir h z in
          let k : type_of_file s dir ≡ 1 = eqb-true (type_of_file s dir) 1 (and-yes-r (is_reached s dir) (eqb (type_of_file s dir) 1) (dir-reached s dir h z)) in
          let e : first_of s dir ≡ info s dir = first-info s dir z in
          subst (IsReached s) (sym e)
          (⊎_elim (λ d. (((check-accepted s).0 a).linked r.reached).dots k d)
          (λ d. record { bound = own s r.bound dir; depth = suc r.depth; reached = inside r.reached (descends-of s dir k d) (λ y. f (e ∙ y)) })
          (yes-no (is_dots s dir)))
    ]

-- ---- content
-- types 2 and 3 have content
pub data-type : (k : ℕ) → (has_data k ≡ true) ↔ ((k ≡ 2) ⊎ (k ≡ 3))
unfolding has_data
data-type k = (
  λ h. ⊎_elim (λ e. inl (eqb-true k 2 e)) (λ e. inr (eqb-true k 3 e)) (or_yes (eqb k 2) (eqb k 3) h),
  λ h. ⊎_elim (λ e. rw e) (λ e. rw e) h,
)

-- a granted content: of n bytes, of a reached header of type 2 or 3, inside F, which is inside the image
pub record Content (s : List ℕ) (p n : ℕ) : Type 0 where
  pub sound : check s ≡ accepted
  pub reached : IsReached s p
  pub is : n ≡ size s p
  pub inside : content_at s p + n ≤ full_size s
  pub full : full_size s ≤ length s

size_in : (s : List ℕ) (p b d : ℕ) → Sound s p b d → content_at s p + size s p ≤ b
unfolding end_of
size_in s p b d h = omega (arith, ends s p b d h)

granted-by : (s : List ℕ) (p n : ℕ) (v : Verdict) (t : Bool) → checked v (cond t (granted (size s p)) (refused 31 0)) ≡ granted n → (v ≡ accepted) × (t ≡ true) × (n ≡ size s p)
granted-by s p n accepted true e = (refl, refl, (cc))
granted-by s p n accepted false e = absurd (let z : ◌≡◌ {A = ℕ} 0 1 = cc in omega arith)
granted-by s p n (broken m q) t e = absurd (let z : ◌≡◌ {A = ℕ} 0 1 = cc in omega arith)

pub content-in : (s : List ℕ) (p n : ℕ) → content_length s p ≡ granted n → Content s p n
unfolding content_length content_step
content-in s p n e =
    let g = granted-by s p n (check s) (is_reached s p && has_data (type_of_file s p)) e in
    let parts = check-parts s g.0 in
    let r : IsReached s p = is-reached s p (and-yes-l (is_reached s p) (has_data (type_of_file s p)) g.1) in
    let l = reached-in s (volume-of s parts.0) parts.1 r.reached in
    record {
      sound = g.0;
      reached = r;
      is = g.2;
      inside = omega (arith, g.2, size_in s p r.bound r.depth (((check-accepted s).0 g.0).sound r.reached));
      full = full-to s (volume-of s parts.0);
    }
