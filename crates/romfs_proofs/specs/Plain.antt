-- The definitions of the layout and the tests of the check in plain facts on the image's bytes.
use Rattle.std.specs.Prelude.{ℕ, zero, suc, ◌+◌, ◌*◌, ◌-◌, ◌/◌, ◌%◌, ◌^◌, ◌≤◌, ◌<◌, min, ◌≡◌, refl, ◌≢◌, ◌⊎◌, ◌↔◌, Bool, true, ◌&&◌, ◌||◌, List, [], ◌∷◌, length, take, ltb}
use Rattle.std.proofs.Math.Path.{sym}
use Rattle.std.proofs.Common.{ap, subst, ◌∙◌, arith, ext_get_or}
use Rattle.std.proofs.Math.Logic.{inl, inr, ⊎_elim}
use Rattle.std.proofs.Math.Bool.{false, not}
use Rattle.std.proofs.Math.Decide.{dec_lt, ℕ_discrete}
use borrow.Author.Tests.{ltb-true, ltb-false, lt-ltb, le-ltb, leb-false, lt-leb, eqb-true, eqb-false, eq-eqb, ne_eqb, not-true, not-false}
use Rattle.std.proofs.Math.ListN.{get_or}
use Rattle.std.proofs.Math.Dec.{leb, eqb, eqb→eq, T_not}
use Rattle.lists.specs.Lists.{same_list, zero_at, sum, word, part}
use Rattle.list_laws.specs.Test.{or-no-l, or-no-r, eqb_of, neqb-of, of-true, to-true, same-eq, same_refl}
use Rattle.list_laws.specs.Least.{least-hit, least-below, least-is}
use Rattle.list_laws.specs.Part.{get_or-part, length_part}
use Rattle.romfs_spec.specs.Layout.{pad16, full_size, name_length, name_ends, after_name, type_of_file, executable, next, info, size, name, content_at, end_of, own, is_dots, descends, has_list, has_data, sum_of_words}
use Rattle.romfs_spec.specs.Check.{too_short, bad_magic, bad_full_size, bad_volume_sum, bad_volume_name, over_bound, bad_name, bad_sum, bad_info, bad_size, bad_header, bad_next, bad_first, bad_nesting, too_deep}
use Rattle.romfs_spec.specs.Accepted.{number_at, full, SomeZero, ZeroAfter, LongEnough, RightMagic, RightFullSize, RightVolumeSum, type_at, executable_at, next_at, info_at, size_at, data_at, end_at, Named, Dots, HasList, OwnBound, last, next as to_next, SoundHeader, Nested, Shallow}
use Rattle.romfs_facts.specs.Facts.{and_no, or_yes, either, and-yes-l, and-yes-r, true-false, own-next, own-last}
use Rattle.romfs_facts.specs.Lowest.{yes-no}

-- ---- numbers
pub number_is : (s : List ℕ) (p : ℕ) → word s p ≡ number_at s p
unfolding number_at word
number_is s p = omega arith

pub full_is : (s : List ℕ) → full_size s ≡ full s
unfolding full_size
full_is s = number_is s 8

pub type-is : (s : List ℕ) (p : ℕ) → type_of_file s p ≡ type_at s p
unfolding type_of_file type_at word
type-is s p = omega arith

pub executable-is : (s : List ℕ) (p : ℕ) → executable s p ≡ executable_at s p
unfolding executable executable_at word
executable-is s p = omega arith

pub next-is : (s : List ℕ) (p : ℕ) → next s p ≡ next_at s p
unfolding next next_at
next-is s p = rw (number_is s p) (omega arith)

pub info-is : (s : List ℕ) (p : ℕ) → info s p ≡ info_at s p
unfolding info
info-is s p = number_is s (p + 4)

pub size_is : (s : List ℕ) (p : ℕ) → size s p ≡ size_at s p
unfolding size
size_is s p = number_is s (p + 8)

-- sum_of_words is the plain sum of the n words from p on, modulo 2^32
pub word_sum : (s : List ℕ) (p n : ℕ) → sum_of_words s p n ≡ sum (λ i. number_at s (p + 4 * i)) n % 2 ^ 32
unfolding sum_of_words sum
word_sum s p zero = refl
word_sum s p (suc n) = rw (word_sum s p n, number_is s (p + 4 * n)) (omega arith)

pub padded : (n : ℕ) → (pad16 n % 16 ≡ 0) × (n ≤ pad16 n) × (pad16 n < n + 16)
padded n = (omega arith, omega arith, omega arith)

-- ---- names; 23 keeps F inside the image, so these bytes are bytes of it
module _ (s : List ℕ) (p : ℕ) where
  -- the name at p is the n bytes before the first zero
  pub length-is : (n : ℕ) → ZeroAfter s p n → name_length s p ≡ n
  unfolding name_length zero_at
  length-is n z =
      least-is (λ i. zero_at s (p + i)) (full_size s - p) n (omega (arith, z.to, full_is s)) (eqb_of z.empty)
      (λ i l. neqb-of (get_or s (p + i) 0) 0 (z.before i l))

  pub is-length : name_ends s p ≡ true → ZeroAfter s p (name_length s p)
  unfolding name_ends name_length zero_at
  is-length e =
      let h : p + name_length s p < full_size s = ltb-true (p + name_length s p) (full_size s) e in
      record {
        before = λ i l z. T_not (zero_at s (p + i)) (least-below (λ j. zero_at s (p + j)) (full_size s - p) i l) (eqb_of z);
        empty = eqb→eq (get_or s (p + name_length s p) 0) 0 (least-hit (λ j. zero_at s (p + j)) (full_size s - p) (omega arith));
        to = omega (arith, full_is s);
      }

  first-zero : SomeZero s p → p + name_length s p < full_size s
  unfolding name_length zero_at
  first-zero z =
      elim (dec_lt (z.at - p) (name_length s p)) [
        | yes l ↦ absurd (T_not (zero_at s (p + (z.at - p))) (least-below (λ j. zero_at s (p + j)) (full_size s - p) (z.at - p) l) (eqb_of (ap (λ (i : ℕ). get_or s i 0) (omega (arith, z.from)) ∙ z.empty)))
        | no l ↦ omega (arith, z.from, z.to, full_is s)
      ]

  pub name-ends : (name_ends s p ≡ true) ↔ SomeZero s p
  unfolding name_ends
  name-ends = (
    λ e. let z : ZeroAfter s p (name_length s p) = is-length e in record { at = p + name_length s p; from = omega arith; to = z.to; empty = z.empty },
    λ z. lt-ltb (p + name_length s p) (full_size s) (first-zero z),
  )

  pub name-length : (n : ℕ) → ((name_ends s p ≡ true) × (name_length s p ≡ n)) ↔ ZeroAfter s p n
  unfolding name_ends
  name-length n = (
    λ e. rw (← e.1) (is-length e.0),
    λ z. let h : name_length s p ≡ n = length-is n z in (rw h (lt-ltb (p + n) (full_size s) (omega (arith, z.to, full_is s))), h),
  )

  pub ends_of : {n : ℕ} → ZeroAfter s p n → name_ends s p ≡ true
  ends_of {n} z = ((name-length n).1 z).0

-- ---- a header whose name has n bytes
module _ (s : List ℕ) (p n : ℕ) (z : ZeroAfter s (p + 16) n) where
  pub content-is : content_at s p ≡ data_at p n
  unfolding content_at after_name
  content-is = rw (length-is s (p + 16) n z)

  pub end_is : end_of s p ≡ end_at s p n
  unfolding end_of
  end_is = rw (content-is, size_is s p)

  pub name-is : name s p ≡ part (p + 16) n s
  unfolding name
  name-is = rw (length-is s (p + 16) n z)

  pub sum-words : (content_at s p - p) / 4 ≡ (16 + pad16 (n + 1)) / 4
  sum-words = ap (λ (x : ℕ). x / 4) (omega (arith, content-is))

-- ---- names as lists of bytes
module _ (s : List ℕ) (inside : full_size s ≤ length s) (p : ℕ) where
  pub named-of : (l : List ℕ) → name_ends s (p + 16) ≡ true → name s p ≡ l → Named s p l
  named-of l e h =
      let n : ℕ = name_length s (p + 16) in
      let z : ZeroAfter s (p + 16) n = is-length s (p + 16) e in
      let k : length (part (p + 16) n s) ≡ n = length_part (p + 16) n s (omega (arith, z.to, full_is s)) in
      let g : part (p + 16) n s ≡ l = sym (name-is s p n z) ∙ h in
      let m : n ≡ length l = sym k ∙ ap length g in
      record {
        same = λ i j. sym (get_or-part (p + 16) n s i (omega arith)) ∙ ap (λ (x : List ℕ). get_or x i 0) g;
        ends = subst (ZeroAfter s (p + 16)) m z;
      }

  pub of-named : (l : List ℕ) → Named s p l → name s p ≡ l
  of-named l h =
      let k : length (part (p + 16) (length l) s) ≡ length l = length_part (p + 16) (length l) s (omega (arith, h.ends.to, full_is s)) in
      name-is s p (length l) h.ends
      ∙ ext_get_or 0 (part (p + 16) (length l) s) l k (λ i j. let m : i < length l = omega arith in get_or-part (p + 16) (length l) s i m ∙ h.same i m)

  module _ (e : name_ends s (p + 16) ≡ true) where
    pub same-named : (l : List ℕ) → (same_list (name s p) l ≡ true) ↔ Named s p l
    same-named l = (
      λ t. named-of l e (same-eq (name s p) l (of-true (same_list (name s p) l) t)),
      λ h. rw (of-named l h) (to-true (same_list l l) (same_refl l)),
    )

    pub dots-is : (is_dots s p ≡ true) ↔ Dots s p
    unfolding is_dots
    dots-is =
        let a = same_list (name s p) (46 ∷ []) in
        let b = same_list (name s p) (46 ∷ 46 ∷ []) in (
          λ t. ⊎_elim (λ x. inl ((same-named (46 ∷ [])).0 x)) (λ x. inr ((same-named (46 ∷ 46 ∷ [])).0 x)) (or_yes a b t),
          λ h. either a b (⊎_elim (λ x. inl ((same-named (46 ∷ [])).1 x)) (λ x. inr ((same-named (46 ∷ 46 ∷ [])).1 x)) h),
        )

    pub has-list-is : (has_list s p ≡ true) ↔ HasList s p
    unfolding has_list descends
    has-list-is = (
      λ t.
          let d = and-yes-l (eqb (type_of_file s p) 1 && not (is_dots s p)) (not (eqb (info s p) 0)) t in
          let i = and-yes-r (eqb (type_of_file s p) 1 && not (is_dots s p)) (not (eqb (info s p) 0)) t in (
            sym (type-is s p) ∙ eqb-true (type_of_file s p) 1 (and-yes-l (eqb (type_of_file s p) 1) (not (is_dots s p)) d),
            λ h. true-false (dots-is.1 h) (not-true (is_dots s p) (and-yes-r (eqb (type_of_file s p) 1) (not (is_dots s p)) d)),
            λ y. eqb-false (info s p) 0 (not-true (eqb (info s p) 0) i) (info-is s p ∙ y),
          ),
      λ h.
          let d : is_dots s p ≡ false = ⊎_elim (λ x. absurd (h.1 (dots-is.0 x))) (λ x. x) (yes-no (is_dots s p)) in
          rw (eq-eqb (type_of_file s p) 1 (type-is s p ∙ h.0), d, ne_eqb (info s p) 0 (λ y. h.2 (sym (info-is s p) ∙ y))),
    )

-- ---- tests that fail
-- a test fails exactly when P holds
abbrev pub Fails : Bool → Type 0 → Type 0
Fails b P = (b ≡ false) ↔ P

and-by : (a b : Bool) → (a ≡ true → b ≡ false) → (a && b) ≡ false
and-by true b h = h refl
and-by false b h = refl

module _ {P Q : Type 0} (a b : Bool) where
  or-fails : Fails a P → Fails b Q → Fails (a || b) (P × Q)
  or-fails f g = (λ e. (f.0 (or-no-l a b e), g.0 (or-no-r a b e)), λ h. rw (f.1 h.0, g.1 h.1))

  and-fails : (a ≡ true) ↔ P → Fails b Q → Fails (a && b) (P → Q)
  and-fails f g = (λ e h. g.0 (and_no a b e (f.1 h)), λ h. and-by a b (λ y. g.1 (h (f.0 y))))

  or-true : (a ≡ true) ↔ P → (b ≡ true) ↔ Q → ((a || b) ≡ true) ↔ (P ⊎ Q)
  or-true f g = (
    λ e. ⊎_elim (λ x. inl (f.0 x)) (λ x. inr (g.0 x)) (or_yes a b e),
    λ h. either a b (⊎_elim (λ x. inl (f.1 x)) (λ x. inr (g.1 x)) h),
  )

not-fails : {P : Type 0} (b : Bool) → (b ≡ true) ↔ P → Fails (not b) P
not-fails b f = (λ e. f.0 (not-false b e), λ h. rw (f.1 h))

not_is : {P : Type 0} (b : Bool) → Fails b P → (not b ≡ true) ↔ P
not_is b f = (λ e. f.0 (not-true b e), λ h. rw (f.1 h))

eq_is : (a b : ℕ) → (eqb a b ≡ true) ↔ (a ≡ b)
eq_is a b = (eqb-true a b, eq-eqb a b)

eq-fails : (a b : ℕ) → Fails (eqb a b) (a ≢ b)
eq-fails a b = (eqb-false a b, ne_eqb a b)

lt-fails : (a b : ℕ) → Fails (ltb a b) (b ≤ a)
lt-fails a b = (ltb-false a b, le-ltb a b)

le-fails : (a b : ℕ) → Fails (leb a b) (b < a)
le-fails a b = (leb-false a b, lt-leb a b)

-- ---- 21 to 25
pub short-fails : (s : List ℕ) → Fails (too_short s) (LongEnough s)
unfolding too_short
short-fails s = lt-fails (length s) 32

pub magic-fails : (s : List ℕ) → Fails (bad_magic s) (RightMagic s)
unfolding bad_magic part
magic-fails s =
    let m : List ℕ = 0x2D ∷ 0x72 ∷ 0x6F ∷ 0x6D ∷ 0x31 ∷ 0x66 ∷ 0x73 ∷ 0x2D ∷ [] in
    not-fails (same_list (take 8 s) m) (λ t. same-eq (take 8 s) m (of-true (same_list (take 8 s) m) t), λ h. rw h (to-true (same_list m m) (same_refl m)))

pub full-fails : (s : List ℕ) → Fails (bad_full_size s) (RightFullSize s)
unfolding bad_full_size
full-fails s =
    let f = or-fails (ltb (full_size s) 32) (ltb (length s) (full_size s) || not (eqb (full_size s % 16) 0)) (lt-fails (full_size s) 32) (or-fails (ltb (length s) (full_size s)) (not (eqb (full_size s % 16) 0)) (lt-fails (length s) (full_size s)) (not-fails (eqb (full_size s % 16) 0) (eq_is (full_size s % 16) 0))) in
    let e = full_is s in (
      λ t. let h = f.0 t in record { from = omega (arith, h.0); to = omega (arith, h.1.0); whole = omega (arith, h.1.1) },
      λ h. f.1 (omega (arith, h.from), (omega (arith, h.to), omega (arith, h.whole))),
    )

pub sum-fails : (s : List ℕ) → Fails (bad_volume_sum s) (RightVolumeSum s)
unfolding bad_volume_sum
sum-fails s =
    let f = not-fails (eqb (sum_of_words s 0 (min 512 (full_size s) / 4)) 0) (eq_is (sum_of_words s 0 (min 512 (full_size s) / 4)) 0) in
    let e : sum_of_words s 0 (min 512 (full_size s) / 4) ≡ sum (λ i. number_at s (0 + 4 * i)) (min 512 (full s) / 4) % 2 ^ 32 = ap (λ (x : ℕ). sum_of_words s 0 (min 512 x / 4)) (full_is s) ∙ word_sum s 0 (min 512 (full s) / 4) in
    (λ t. sym e ∙ f.0 t, λ h. f.1 (e ∙ h))

pub volume-name-fails : (s : List ℕ) → Fails (bad_volume_name s) (SomeZero s 16)
unfolding bad_volume_name
volume-name-fails s = not-fails (name_ends s 16) (name-ends s 16)

-- ---- 26
data_is : (k : ℕ) → Fails (has_data k) ((k ≢ 2) × (k ≢ 3))
unfolding has_data
data_is k = or-fails (eqb k 2) (eqb k 3) (eq-fails k 2) (eq-fails k 3)

info-kinds : (k : ℕ) → ((eqb k 2 || (eqb k 3 || (eqb k 6 || eqb k 7))) ≡ true) ↔ ((k ≡ 2) ⊎ ((k ≡ 3) ⊎ ((k ≡ 6) ⊎ (k ≡ 7))))
info-kinds k =
    or-true (eqb k 2) (eqb k 3 || (eqb k 6 || eqb k 7)) (eq_is k 2)
    (or-true (eqb k 3) (eqb k 6 || eqb k 7) (eq_is k 3) (or-true (eqb k 6) (eqb k 7) (eq_is k 6) (eq_is k 7)))

module _ (s : List ℕ) (bound p : ℕ) where
  abbrev Parts : Type 0
  Parts =
      (end_of s p ≤ bound) × (((name_length s (p + 16) ≢ 0) × (name_ends s (p + 16) ≡ true))
      × ((sum_of_words s p ((content_at s p - p) / 4) ≡ 0)
      × (((type_of_file s p ≡ 2) ⊎ ((type_of_file s p ≡ 3) ⊎ ((type_of_file s p ≡ 6) ⊎ (type_of_file s p ≡ 7))) → info s p ≡ 0)
      × ((type_of_file s p ≢ 2) × (type_of_file s p ≢ 3) → size s p ≡ 0))))

  header-parts : Fails (bad_header s bound p) Parts
  unfolding bad_header over_bound bad_name bad_sum bad_info bad_size
  header-parts =
      or-fails (over_bound s bound p) (bad_name s p || (bad_sum s p || (bad_info s p || bad_size s p))) (lt-fails bound (end_of s p))
      (or-fails (bad_name s p) (bad_sum s p || (bad_info s p || bad_size s p))
      (or-fails (eqb (name_length s (p + 16)) 0) (not (name_ends s (p + 16))) (eq-fails (name_length s (p + 16)) 0) (not-fails (name_ends s (p + 16)) (λ e. e, λ e. e)))
      (or-fails (bad_sum s p) (bad_info s p || bad_size s p) (not-fails (eqb (sum_of_words s p ((content_at s p - p) / 4)) 0) (eq_is (sum_of_words s p ((content_at s p - p) / 4)) 0))
      (or-fails (bad_info s p) (bad_size s p)
      (and-fails (eqb (type_of_file s p) 2 || (eqb (type_of_file s p) 3 || (eqb (type_of_file s p) 6 || eqb (type_of_file s p) 7))) (not (eqb (info s p) 0)) (info-kinds (type_of_file s p)) (not-fails (eqb (info s p) 0) (eq_is (info s p) 0)))
      (and-fails (not (has_data (type_of_file s p))) (not (eqb (size s p) 0)) (not_is (has_data (type_of_file s p)) (data_is (type_of_file s p))) (not-fails (eqb (size s p) 0) (eq_is (size s p) 0))))))

  sum_is : (n : ℕ) → ZeroAfter s (p + 16) n → sum_of_words s p ((content_at s p - p) / 4) ≡ sum (λ i. number_at s (p + 4 * i)) ((16 + pad16 (n + 1)) / 4) % 2 ^ 32
  sum_is n z = ap (sum_of_words s p) (sum-words s p n z) ∙ word_sum s p ((16 + pad16 (n + 1)) / 4)

  pub header_of : bad_header s bound p ≡ false → SoundHeader s p (name_length s (p + 16)) bound
  header_of e =
      let h : Parts = header-parts.0 e in
      let n : ℕ = name_length s (p + 16) in
      let z : ZeroAfter s (p + 16) n = is-length s (p + 16) h.1.0.1 in
      let t = type-is s p in
      record {
        named = z;
        some = h.1.0.0;
        ends = omega (arith, h.0, end_is s p n z);
        sums = sym (sum_is n z) ∙ h.1.1.0;
        info = λ k. sym (info-is s p) ∙ h.1.1.1.0 (rw (type-is s p) k);
        size = λ a b. sym (size_is s p) ∙ h.1.1.1.1 (rw (type-is s p) (a, b));
      }

  pub of-header : {n : ℕ} → SoundHeader s p n bound → bad_header s bound p ≡ false
  of-header {n} h =
      header-parts.1 (
        omega (arith, h.ends, end_is s p n h.named),
        (
          (λ y. h.some (sym (length-is s (p + 16) n h.named) ∙ y), ends_of s (p + 16) h.named),
          (
            sum_is n h.named ∙ h.sums,
            (
              λ k. info-is s p ∙ h.info (rw (type-is s p) at k),
              λ k. size_is s p ∙ h.size (rw (type-is s p) at k.0) (rw (type-is s p) at k.1),
            ),
          ),
        ),
      )

-- ---- 27, 28
pub own_of : (s : List ℕ) (p bound : ℕ) → OwnBound s p bound (own s bound p)
own_of s p bound =
    elim (ℕ_discrete (next s p) 0) [
      | yes z ↦ subst (OwnBound s p bound) (sym (own-last s bound p z)) (last (sym (next-is s p) ∙ z))
      | no z ↦ subst (OwnBound s p bound) (sym (own-next s bound p z ∙ next-is s p)) (to_next (λ y. z (next-is s p ∙ y)))
    ]

pub own_is : {s : List ℕ} {p bound o : ℕ} → OwnBound s p bound o → own s bound p ≡ o
own_is {s} {p} {bound} (last z) = own-last s bound p (next-is s p ∙ z)
own_is {s} {p} {bound} (to_next z) = own-next s bound p (λ y. z (sym (next-is s p) ∙ y)) ∙ next-is s p

module _ (s : List ℕ) (inside : full_size s ≤ length s) (p n : ℕ) (z : ZeroAfter s (p + 16) n) where
  list-is : (has_list s p ≡ true) ↔ HasList s p
  list-is = has-list-is s inside p (ends_of s (p + 16) z)

  nesting-parts : (bound : ℕ) → Fails (bad_nesting s bound p) ((next s p ≢ 0 → (end_of s p ≤ next s p) × (next s p < bound)) × (HasList s p → (info s p % 16 ≡ 0) × ((end_of s p ≤ info s p) × (info s p < own s bound p))))
  unfolding bad_nesting bad_next bad_first
  nesting-parts bound =
      or-fails (bad_next s bound p) (bad_first s bound p)
      (and-fails (not (eqb (next s p) 0)) (ltb (next s p) (end_of s p) || leb bound (next s p)) (not_is (eqb (next s p) 0) (eq-fails (next s p) 0))
      (or-fails (ltb (next s p) (end_of s p)) (leb bound (next s p)) (lt-fails (next s p) (end_of s p)) (le-fails bound (next s p))))
      (and-fails (has_list s p) (not (eqb (info s p % 16) 0) || (ltb (info s p) (end_of s p) || leb (own s bound p) (info s p))) list-is
      (or-fails (not (eqb (info s p % 16) 0)) (ltb (info s p) (end_of s p) || leb (own s bound p) (info s p)) (not-fails (eqb (info s p % 16) 0) (eq_is (info s p % 16) 0))
      (or-fails (ltb (info s p) (end_of s p)) (leb (own s bound p) (info s p)) (lt-fails (info s p) (end_of s p)) (le-fails (own s bound p) (info s p)))))

  pub nesting-fails : (bound : ℕ) → Fails (bad_nesting s bound p) (Nested s p n bound)
  nesting-fails bound =
      let f = nesting-parts bound in
      let e = end_is s p n z in
      let i = info-is s p in
      let x = next-is s p in (
        λ t.
            let h = f.0 t in
            record {
              next = λ y. let k = h.0 (λ w. y (sym x ∙ w)) in omega (arith, k);
              first = λ u o. let k = h.1 u in let w = own_is o in (sym (ap (λ (v : ℕ). v % 16) i) ∙ k.0, omega (arith, k.1.0), omega (arith, k.1.1));
            },
        λ h.
            f.1 (
              λ y. let k = h.next (λ w. y (x ∙ w)) in omega (arith, k),
              λ u. let k = h.first u (own_of s p bound) in (ap (λ (v : ℕ). v % 16) i ∙ k.0, (omega (arith, k.1), omega (arith, k.2))),
            ),
      )

  pub deep-fails : (depth : ℕ) → Fails (too_deep s depth p) (Shallow s p depth)
  unfolding too_deep
  deep-fails depth = and-fails (has_list s p) (leb 8 depth) list-is (le-fails 8 depth)
