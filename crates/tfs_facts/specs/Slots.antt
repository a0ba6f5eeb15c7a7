-- A slot's 20 bytes: whether it is free or used, and its name. Its inode number and its name decide; bytes behind the name's end have no say.
use Rattle.std.specs.Prelude.{◌≡◌, refl, ◌≢◌, ◌↔◌, Bool, ◌&&◌, length, T, ltb}
use Rattle.std.proofs.Common.{sym, ◌∙◌, subst, ext_get_or, ltb→lt, lt→ltb}
use Rattle.std.proofs.Math.Path.{ap, ap₂}
use Rattle.std.proofs.Math.Bool.{not}
use Prim.Native.Nat.{ℕ, ◌≤◌, ◌<◌}
use mathlib.Core.List.{List, [], ◌∷◌}
use native.Mathlib.Omega.{arith}
use Rattle.std.proofs.Math.Decide.{dec_lt}
use Rattle.std.proofs.Math.ListN.{get_or, take}
use Rattle.std.proofs.Math.Seq.{length-take-le, get_or-take}
use Rattle.std.proofs.Math.Dec.{eqb, eqb→eq, T_not, not_T}
use Rattle.lists.specs.Lists.{zeros, zero_at, first_zero, up_to_zero, word}
use Rattle.list_laws.specs.Test.{zeros-byte, and-of, and_l, and_r, iff-eq, eqb_of, neqb-of}
use Rattle.list_laws.specs.Least.{least-le, least-hit, least-below, least-none, least-is}
use Rattle.list_laws.specs.Part.{get_or-part}
use Rattle.tfs_spec.specs.Layout.{slot_inode, name_field, slot_name, slot_free, slot_used, name_formed, in_range}

-- ---- the bytes up to the zero
-- the first zero of f is byte k
pub record Ends (f : List ℕ) (k : ℕ) : Type 0 where
  pub short : k < length f
  pub bytes : (i : ℕ) → i < k → get_or f i 0 ≢ 0
  pub end : get_or f k 0 ≡ 0

module _ (f : List ℕ) where
  zero-le : first_zero f ≤ length f
  unfolding first_zero
  zero-le = least-le (zero_at f) (length f)

  pub name-length : length (up_to_zero f) ≡ first_zero f
  unfolding up_to_zero
  name-length = length-take-le (first_zero f) f zero-le

  -- the bytes before the first zero are not zero
  pub bytes-before : (i : ℕ) → i < first_zero f → get_or f i 0 ≢ 0
  unfolding first_zero zero_at
  bytes-before i h e = T_not (zero_at f i) (least-below (zero_at f) (length f) i h) (eqb_of e)

  pub name-byte : (i : ℕ) → i < first_zero f → get_or (up_to_zero f) i 0 ≡ get_or f i 0
  unfolding up_to_zero
  name-byte i h = get_or-take (first_zero f) f i 0 h

  zero-ends : first_zero f < length f → Ends f (first_zero f)
  unfolding first_zero zero_at
  zero-ends h = record { short = h; bytes = bytes-before; end = eqb→eq (get_or f (first_zero f) 0) 0 (least-hit (zero_at f) (length f) h) }

  module _ (k : ℕ) (h : Ends f k) where
    pub ends-zero : first_zero f ≡ k
    unfolding first_zero zero_at
    ends-zero =
        least-is (zero_at f) (length f) k h.short (eqb_of h.end) (λ i l. neqb-of (get_or f i 0) 0 (h.bytes i l))

    pub name-is : up_to_zero f ≡ take k f
    unfolding up_to_zero
    name-is = ap (λ (i : ℕ). take i f) ends-zero

  -- a zero among the bytes is found
  pub zero-found : first_zero f < length f ↔ ((i : ℕ) × (i < length f) × (get_or f i 0 ≡ 0))
  unfolding first_zero zero_at
  zero-found = (
    (λ h. (first_zero f, h, (zero-ends h).end)),
    λ z.
        elim (dec_lt (first_zero f) (length f)) [
          | yes h ↦ h
          | no h ↦ absurd (T_not (zero_at f z.0) (least-none (zero_at f) (length f) (omega arith) z.0 z.1) (eqb_of z.2))
        ],
  )

  -- the first byte is zero exactly where no byte is before the first zero
  pub zero-first : zero_at f 0 ≡ eqb (first_zero f) 0
  unfolding first_zero zero_at
  zero-first = iff-eq (zero_at f 0) (eqb (first_zero f) 0) (λ t. eqb_of (to (eqb→eq (get_or f 0 0) 0 t))) (λ t. eqb_of (from f (eqb→eq (first_zero f) 0 t)))
    where
      to : get_or f 0 0 ≡ 0 → first_zero f ≡ 0
      to e = elim (dec_lt 0 (first_zero f)) [ yes h ↦ absurd (bytes-before 0 h e) | no h ↦ omega arith ]

      from : (l : List ℕ) → first_zero l ≡ 0 → get_or l 0 0 ≡ 0
      from [] e = refl
      from (x ∷ xs) e = eqb→eq x 0 (subst (λ (i : ℕ). T (zero_at (x ∷ xs) i)) e (least-hit (zero_at (x ∷ xs)) (length (x ∷ xs)) (omega arith)))

-- two fields of one length that agree up to the first zero have one name
pub same_names : (f g : List ℕ) → length f ≡ length g → ((i : ℕ) → i ≤ first_zero f → i < length f → get_or f i 0 ≡ get_or g i 0) → up_to_zero f ≡ up_to_zero g
unfolding up_to_zero
same_names f g l h =
    ext_get_or 0 (take (first_zero f) f) (take (first_zero g) g) (omega (arith, length-take-le (first_zero f) f (zero-le f), length-take-le (first_zero g) g (zero-le g), end))
    (λ i k.
    let m : i < first_zero f = omega (arith, length-take-le (first_zero f) f (zero-le f)) in
    (get_or-take (first_zero f) f i 0 m ∙ h i (omega arith) (omega (arith, zero-le f)) ∙ sym (get_or-take (first_zero g) g i 0 (omega (arith, end)))))
  where
    end : first_zero g ≡ first_zero f
    end =
        elim (dec_lt (first_zero f) (length f)) [
          | yes k ↦
              let z : Ends f (first_zero f) = zero-ends f k in
              ends-zero g (first_zero f) (record {
                short = omega arith;
                bytes = λ i m e. z.bytes i m (h i (omega arith) (omega arith) ∙ e);
                end = sym (h (first_zero f) (omega arith) k) ∙ z.end;
              })
          | no k ↦ elim (dec_lt (first_zero g) (length g)) [
            | yes m ↦ absurd (bytes-before f (first_zero g) (omega arith) (h (first_zero g) (omega arith) (omega arith) ∙ (zero-ends g m).end))
            | no m ↦ omega (arith, zero-le f, zero-le g)
          ]
        ]

-- ---- free and used, by inode number and name
abbrev empty_name : List ℕ → Bool
empty_name nm = eqb (length nm) 0

abbrev free_by : ℕ → List ℕ → Bool
free_by i nm = eqb i 0 && empty_name nm

abbrev used_by : ℕ → ℕ → List ℕ → Bool
used_by n i nm = in_range n i && (ltb (length nm) 16 && not (empty_name nm))

module _ (e : List ℕ) where
  pub free-is : slot_free e ≡ free_by (slot_inode e) (slot_name e)
  unfolding slot_free slot_name
  free-is =
      ap (λ (b : Bool). eqb (slot_inode e) 0 && b) (zero-first (name_field e) ∙ ap (λ (k : ℕ). eqb k 0) (sym (name-length (name_field e))))

  pub used-is : (n : ℕ) → slot_used n e ≡ used_by n (slot_inode e) (slot_name e)
  unfolding slot_used name_formed slot_name
  used-is n = ap₂ (λ (k : ℕ) (b : Bool). in_range n (slot_inode e) && (ltb k 16 && not b)) (sym (name-length (name_field e))) (zero-first (name_field e) ∙ ap (λ (k : ℕ). eqb k 0) (sym (name-length (name_field e))))

  pub free-number : T (slot_free e) → slot_inode e ≡ 0
  free-number t = eqb→eq (slot_inode e) 0 (and_l (eqb (slot_inode e) 0) (empty_name (slot_name e)) (subst T free-is t))

  pub free-name : T (slot_free e) → slot_name e ≡ []
  free-name t = empty (slot_name e) (eqb→eq (length (slot_name e)) 0 (and_r (eqb (slot_inode e) 0) (empty_name (slot_name e)) (subst T free-is t)))
    where
      empty : (l : List ℕ) → length l ≡ 0 → l ≡ []
      empty [] h = refl
      empty (x ∷ xs) h = absurd (omega arith)

  pub named-taken : slot_name e ≢ [] → T (not (slot_free e))
  named-taken d = not_T (slot_free e) (λ t. d (free-name t))

  pub used-of : (n : ℕ) → T (in_range n (slot_inode e)) → 1 ≤ length (slot_name e) → length (slot_name e) < 16 → T (slot_used n e)
  used-of n r some short =
      let z : Bool = ltb (length (slot_name e)) 16 in
      let y : Bool = not (empty_name (slot_name e)) in
      subst T (sym (used-is n)) (and-of (in_range n (slot_inode e)) (z && y) r (and-of z y (lt→ltb (length (slot_name e)) 16 short) (neqb-of (length (slot_name e)) 0 (λ h. omega arith))))

  -- the name of a used slot has 1 to 15 bytes
  module _ (n : ℕ) (t : T (slot_used n e)) where
    both : T (ltb (length (slot_name e)) 16 && not (empty_name (slot_name e)))
    both = and_r (in_range n (slot_inode e)) _ (subst T (used-is n) t)

    pub used-short : length (slot_name e) < 16
    used-short = ltb→lt (length (slot_name e)) 16 (and_l (ltb (length (slot_name e)) 16) _ both)

    pub used-named : 1 ≤ length (slot_name e)
    used-named = elim (dec_lt 0 (length (slot_name e))) [ yes h ↦ h | no h ↦ (let z : length (slot_name e) ≡ 0 = omega arith in absurd (T_not (empty_name (slot_name e)) (and_r (ltb (length (slot_name e)) 16) _ both) (eqb_of z))) ]

  -- none of them zero
  pub name-whole : (i : ℕ) → i < length (slot_name e) → get_or (slot_name e) i 0 ≢ 0
  unfolding slot_name
  name-whole i h z =
      let f : List ℕ = name_field e in
      let k : i < first_zero f = omega (arith, name-length f) in
      bytes-before f i k (sym (name-byte f i k) ∙ z)

-- slots with one inode number and one name are alike
module _ (e f : List ℕ) (i : slot_inode e ≡ slot_inode f) (nm : slot_name e ≡ slot_name f) where
  pub same-free : slot_free e ≡ slot_free f
  same-free = free-is e ∙ ap₂ free_by i nm ∙ sym (free-is f)

  pub same-used : (n : ℕ) → slot_used n e ≡ slot_used n f
  same-used n = used-is e n ∙ ap₂ (used_by n) i nm ∙ sym (used-is f n)

-- ---- a slot whose inode number and first name byte are zeros
pub zero-free : (e : List ℕ) → ((i : ℕ) → i < 5 → get_or e i 0 ≡ 0) → T (slot_free e)
unfolding slot_free slot_inode zero_at word
zero-free e h =
    let i : word e 0 ≡ 0 = omega (arith, h 0 (omega arith), h 1 (omega arith), h 2 (omega arith), h 3 (omega arith)) in
    and-of (eqb (word e 0) 0) (eqb (get_or (name_field e) 0 0) 0) (eqb_of i) (eqb_of (get_or-part 4 16 e 0 (omega arith) ∙ h 4 (omega arith)))

pub zeros-free : T (slot_free (zeros 20))
zeros-free = zero-free (zeros 20) (λ i h. zeros-byte 20 i)
