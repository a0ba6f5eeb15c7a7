-- Laws of the definitions, one for each way that the code takes.
use Rattle.std.proofs.Common.{◌≡◌, ℕ, ◌+◌, ◌-◌, ◌<◌, ◌≤◌, Bool, true, false, ◌||◌, T, eqb, ltb, ◌≢◌, List, [], ◌∷◌, length, get_or, sym, ap, ◌∙◌, arith, ext_get_or, below_none, below_more, lt-ltb, eq-eqb, ne_eqb}
use native.Mathlib.Decide.{dec_lt, ℕ_discrete}
use Rattle.lists.specs.Lists.{same_list, zero_at, part}
use Rattle.list_laws.specs.Test.{to-true, to-false, same-eq, same_refl}
use Rattle.list_laws.specs.Part.{get_or-part, length_part}
use Rattle.list_laws.specs.Least.{Below, found, none_found, least-le, least-hit}
use Rattle.romfs_spec.specs.Layout.{full_size, name_length, end_of, name, is_dots}
use Rattle.romfs_spec.specs.Check.{broken, over_bound, bad_header, fault}
use Rattle.romfs_facts.specs.Facts.{room, true-false}
use Rattle.romfs_headers.specs.Whole.{Whole}

-- ---- names
pub zero-yes : (s : List ℕ) (p : ℕ) → get_or s p 0 ≡ 0 → zero_at s p ≡ true
unfolding zero_at
zero-yes s p e = eq-eqb (get_or s p 0) 0 e

pub zero-no : (s : List ℕ) (p : ℕ) → (get_or s p 0 ≡ 0 → ⊥) → zero_at s p ≡ false
unfolding zero_at
zero-no s p e = ne_eqb (get_or s p 0) 0 e

module _ (s : List ℕ) (at n : ℕ) (name : List ℕ) (fits : at + n ≤ length s) where
  pub same-longer : n ≢ length name → same_list (part at n s) name ≡ false
  same-longer h = to-false (same_list (part at n s) name) (λ t. h (sym (length_part at n s fits) ∙ ap length (same-eq (part at n s) name t)))

  pub same-other : (i : ℕ) → i < n → (get_or s (at + i) 0 ≡ get_or name i 0 → ⊥) → same_list (part at n s) name ≡ false
  same-other i l h =
      to-false (same_list (part at n s) name)
      (λ t. h (sym (get_or-part at n s i l) ∙ ap (λ (x : List ℕ). get_or x i 0) (same-eq (part at n s) name t)))

  pub same-all : n ≡ length name → ((i : ℕ) → i < n → get_or s (at + i) 0 ≡ get_or name i 0) → same_list (part at n s) name ≡ true
  same-all e h =
      let same : part at n s ≡ name =
      ext_get_or 0 (part at n s) name (length_part at n s fits ∙ e)
      (λ i l. let k : i < n = omega (arith, length_part at n s fits) in get_or-part at n s i k ∙ h i k) in
      rw same (to-true (same_list name name) (same_refl name))

module _ (s : List ℕ) (at full i : ℕ) (e : full ≡ full_size s) (b : Below (λ j. zero_at s (at + j)) i) where
  pub name-found : at + i < full → zero_at s (at + i) ≡ true → i ≡ name_length s at
  unfolding name_length
  name-found h t = found (λ j. zero_at s (at + j)) (full_size s - at) i (omega arith) b t

  pub name-none : at + i ≤ full → full ≤ at + i → i ≡ name_length s at
  unfolding name_length
  name-none h k = let n : i ≡ full_size s - at = omega arith in n ∙ none_found (λ j. zero_at s (at + j)) (full_size s - at) i (omega arith) (omega arith) b

-- ---- the fault of a header
-- 32 bytes do not fit below the bound
pub fault_short : (s : List ℕ) (bound p d : ℕ) → bound < p + 32 → fault s bound d p ≡ broken 26 p
unfolding fault bad_header over_bound
fault_short s bound p d h = let e : ltb bound (end_of s p) ≡ true = lt-ltb bound (end_of s p) (omega (arith, room s p)) in rw e

-- ---- "." and "..", by the first three bytes of the name of a header at p
module _ (s : List ℕ) (full p : ℕ) (w : Whole s full) (h : p + 32 ≤ full) where
  abbrev long : ℕ
  long = name_length s (p + 16)

  fits : p + 16 + long ≤ length s
  unfolding name_length
  fits = omega (arith, least-le (λ j. zero_at s (p + 16 + j)) (full_size s - (p + 16)), w.is, w.inside)

  -- where a byte is not 0 the name has not ended
  goes_on : (i : ℕ) → i < 16 → (get_or s (p + 16 + i) 0 ≡ 0 → ⊥) → long ≢ i
  unfolding name_length
  goes_on i l z e =
      let hit : T (zero_at s (p + 16 + long)) = least-hit (λ j. zero_at s (p + 16 + j)) (full_size s - (p + 16)) (omega (arith, w.is, e)) in
      let t : zero_at s (p + 16 + i) ≡ true = ap (λ (j : ℕ). zero_at s (p + 16 + j)) (sym e) ∙ to-true (zero_at s (p + 16 + long)) hit in
      true-false t (zero-no s (p + 16 + i) z)

  -- the name is not a list of so many bytes, or has another byte i
  unlike : (l : List ℕ) (i : ℕ) → (i < long → (get_or s (p + 16 + i) 0 ≡ get_or l i 0 → ⊥)) → (long ≤ i → long ≢ length l) → same_list (name s p) l ≡ false
  unfolding name
  unlike l i other short =
      elim (dec_lt i long) [
        | yes k ↦ same-other s (p + 16) long l fits i k (other k)
        | no k ↦ same-longer s (p + 16) long l fits (short (omega arith))
      ]

  or_no : {a b : Bool} → a ≡ false → b ≡ false → (a || b) ≡ false
  or_no e f = rw (e, f)

  -- the bytes of the name by their places in the image
  abbrev byte : ℕ → ℕ
  byte i = get_or s (p + 16 + i) 0

  first-is : get_or s (p + 16) 0 ≡ byte 0
  first-is = ap (λ (i : ℕ). get_or s i 0) (omega arith)

  second_is : get_or s (p + 17) 0 ≡ byte 1
  second_is = ap (λ (i : ℕ). get_or s i 0) (omega arith)

  third-is : get_or s (p + 18) 0 ≡ byte 2
  third-is = ap (λ (i : ℕ). get_or s i 0) (omega arith)

  pub dots-first : (get_or s (p + 16) 0 ≡ 46 → ⊥) → false ≡ is_dots s p
  unfolding is_dots
  dots-first z =
      let y : byte 0 ≡ 46 → ⊥ = λ e. z (first-is ∙ e) in
      sym (or_no (unlike (46 ∷ []) 0 (λ k. y) (λ k. omega arith)) (unlike (46 ∷ 46 ∷ []) 0 (λ k. y) (λ k. omega arith)))

  module _ (dot : get_or s (p + 16) 0 ≡ 46) where
    dot-goes-on : long ≢ 0
    dot-goes-on = goes_on 0 (omega arith) (omega (arith, dot, first-is))

    pub dots-one : get_or s (p + 17) 0 ≡ 0 → true ≡ is_dots s p
    unfolding is_dots name
    dots-one z =
        let one : 1 ≡ long = name-found s (p + 16) full 1 w.is (below_more _ 0 (below_none _) (zero-no s (p + 16 + 0) (omega (arith, dot, first-is)))) (omega arith) (zero-yes s (p + 16 + 1) (sym second_is ∙ z)) in
        let same : same_list (part (p + 16) long s) (46 ∷ []) ≡ true = same-all s (p + 16) long (46 ∷ []) fits (sym one) (λ i l. let k : i ≡ 0 = omega arith in rw k (sym first-is ∙ dot)) in
        rw same

    pub dots-second : (get_or s (p + 17) 0 ≡ 0 → ⊥) → (get_or s (p + 17) 0 ≡ 46 → ⊥) → false ≡ is_dots s p
    unfolding is_dots
    dots-second z d =
        let a = dot-goes-on in
        let b : long ≢ 1 = goes_on 1 (omega arith) (λ e. z (second_is ∙ e)) in
        sym (or_no (unlike (46 ∷ []) 1 (λ k e. z (second_is ∙ e)) (λ k. omega arith)) (unlike (46 ∷ 46 ∷ []) 1 (λ k e. d (second_is ∙ e)) (λ k. omega arith)))

    module _ (again : get_or s (p + 17) 0 ≡ 46) where
      two-go-on : Below (λ j. zero_at s (p + 16 + j)) 2
      two-go-on = below_more _ 1 (below_more _ 0 (below_none _) (zero-no s (p + 16 + 0) (omega (arith, dot, first-is)))) (zero-no s (p + 16 + 1) (omega (arith, again, second_is)))

      dots-two : get_or s (p + 18) 0 ≡ 0 → is_dots s p ≡ true
      unfolding is_dots name
      dots-two z =
          let two : 2 ≡ long = name-found s (p + 16) full 2 w.is two-go-on (omega arith) (zero-yes s (p + 16 + 2) (sym third-is ∙ z)) in
          let same : same_list (part (p + 16) long s) (46 ∷ 46 ∷ []) ≡ true =
          same-all s (p + 16) long (46 ∷ 46 ∷ []) fits (sym two)
          (λ i l. elim (ℕ_discrete i 0) [
            | yes k ↦ rw k (sym first-is ∙ dot)
            | no k ↦ let k₁ : i ≡ 1 = omega arith in rw k₁ (sym second_is ∙ again)
          ]) in
          rw (same-longer s (p + 16) long (46 ∷ []) fits (omega arith), same)

      dots-more : (get_or s (p + 18) 0 ≡ 0 → ⊥) → is_dots s p ≡ false
      unfolding is_dots name
      dots-more z =
          let a = dot-goes-on in
          let b : long ≢ 1 = goes_on 1 (omega arith) (omega (arith, again, second_is)) in
          let c : long ≢ 2 = goes_on 2 (omega arith) (λ e. z (third-is ∙ e)) in
          or_no (same-longer s (p + 16) long (46 ∷ []) fits (omega arith)) (same-longer s (p + 16) long (46 ∷ 46 ∷ []) fits (omega arith))

      pub dots-third : eqb (get_or s (p + 18) 0) 0 ≡ is_dots s p
      dots-third =
          elim (ℕ_discrete (get_or s (p + 18) 0) 0) [
            | yes z ↦ eq-eqb (get_or s (p + 18) 0) 0 z ∙ sym (dots-two z)
            | no z ↦ ne_eqb (get_or s (p + 18) 0) 0 z ∙ sym (dots-more z)
          ]
