-- A window of the image: bits for its offsets in steps of 16. A marked offset is a reached header's.
use Rattle.std.specs.Prelude.{ℕ, zero, suc, ◌+◌, ◌-◌, ◌/◌, ◌%◌, ◌≤◌, ◌<◌, ◌≡◌, ◌≢◌, Bool, cond, ◌&&◌, List, length, get_or, set, replicate, leb, ltb}
use Rattle.std.proofs.Math.Path.{refl, subst}
use Rattle.std.proofs.Common.{sym, ap, ◌∙◌, arith, get_or-set_same, get_or-set_other}
use Rattle.std.proofs.Math.Bool.{true, false}
use Rattle.std.proofs.Math.Decide.{ℕ_discrete}
use borrow.Author.Tests.{eqb-true, leb-true, ltb-true}
use Rattle.std.proofs.Math.ListN.{length-set}
use Rattle.std.proofs.lemmas.List.{length-replicate}
use Rattle.std.proofs.Math.Dec.{eqb}
use Rattle.lists.specs.Lists.{bit_of, with_bit}
use Rattle.list_laws.specs.Bits.{bit-zero, bit-other}
use Rattle.romfs_facts.specs.Tested.{IsReached}
use Rattle.romfs_facts.specs.Facts.{and-yes-l, and-yes-r}

-- whether p has a bit in the window from lo on
unfoldable pub in_window : ℕ → ℕ → Bool
in_window lo p = leb lo p && (ltb p (lo + 1048576) && eqb ((p - lo) % 16) 0)

-- the number of its bit
abbrev pub number_of : ℕ → ℕ → ℕ
number_of lo p = (p - lo) / 16

-- the bits with that of p set, if it has one
unfoldable pub mark_at : List ℕ → ℕ → ℕ → List ℕ
mark_at bits lo p =
    cond (in_window lo p) (set bits (number_of lo p / 8) (with_bit (get_or bits (number_of lo p / 8) 0) (number_of lo p % 8) 1)) bits

-- whether p has a bit and it is set
unfoldable pub is_marked : List ℕ → ℕ → ℕ → Bool
is_marked bits lo p = in_window lo p && eqb (bit_of (get_or bits (number_of lo p / 8) 0) (number_of lo p % 8)) 1

-- each marked offset is a reached header's
pub record Window (s : List ℕ) (lo : ℕ) (bits : List ℕ) : Type 0 where
  pub from : lo ≤ 4294967296
  pub long : length bits ≡ 8192
  pub marked : (p : ℕ) → is_marked bits lo p ≡ true → IsReached s p

-- ---- an offset with a bit
module _ (lo p : ℕ) (h : in_window lo p ≡ true) where
  pub window_from : lo ≤ p
  unfolding in_window
  window_from = leb-true lo p (and-yes-l (leb lo p) (ltb p (lo + 1048576) && eqb ((p - lo) % 16) 0) h)

  rest : (ltb p (lo + 1048576) && eqb ((p - lo) % 16) 0) ≡ true
  unfolding in_window
  rest = and-yes-r (leb lo p) (ltb p (lo + 1048576) && eqb ((p - lo) % 16) 0) h

  window-to : p < lo + 1048576
  window-to = ltb-true p (lo + 1048576) (and-yes-l (ltb p (lo + 1048576)) (eqb ((p - lo) % 16) 0) rest)

  window-16 : (p - lo) % 16 ≡ 0
  window-16 = eqb-true ((p - lo) % 16) 0 (and-yes-r (ltb p (lo + 1048576)) (eqb ((p - lo) % 16) 0) rest)

  pub window_byte : number_of lo p / 8 < 8192
  window_byte = omega (arith, window_from, window-to)

-- two offsets with the same bit are one
same_bit : (lo p q : ℕ) → in_window lo p ≡ true → in_window lo q ≡ true → number_of lo p ≡ number_of lo q → p ≡ q
same_bit lo p q h k e = omega (arith, window_from lo p h, window_from lo q k, window-16 lo p h, window-16 lo q k)

-- ---- no bit is set
zeros : (n i : ℕ) → ◌≡◌ {A = ℕ} (get_or (replicate n 0) i 0) 0
zeros zero i = refl
zeros (suc n) zero = refl
zeros (suc n) (suc i) = zeros n i

unset : (lo p n : ℕ) → is_marked (replicate n 0) lo p ≡ true → ⊥
unfolding is_marked
unset lo p n e =
    let byte : ℕ = get_or (replicate n 0) (number_of lo p / 8) 0 in
    let one : bit_of byte (number_of lo p % 8) ≡ 1 = eqb-true (bit_of byte (number_of lo p % 8)) 1 (and-yes-r (in_window lo p) (eqb (bit_of byte (number_of lo p % 8)) 1) e) in
    let none : bit_of byte (number_of lo p % 8) ≡ 0 = ap (λ (x : ℕ). bit_of x (number_of lo p % 8)) (zeros n (number_of lo p / 8)) ∙ bit-zero (number_of lo p % 8) in
    omega arith

pub window-none : (s : List ℕ) (lo : ℕ) (bits : List ℕ) (n : ℕ) → lo ≤ 4294967296 → n ≡ 8192 → bits ≡ replicate n 0 → Window s lo bits
window-none s lo bits n h l e = rw e (record { from = h; long = length-replicate {A = ℕ} n 0 ∙ l; marked = λ p m. absurd (unset lo p n m) })

-- ---- one more is set
module _ (s : List ℕ) (lo : ℕ) (bits : List ℕ) (w : Window s lo bits) (p : ℕ) where
  abbrev byte_of : ℕ → ℕ
  byte_of q = get_or bits (number_of lo q / 8) 0

  abbrev more : List ℕ
  more = set bits (number_of lo p / 8) (with_bit (byte_of p) (number_of lo p % 8) 1)

  -- the bits of other offsets stay
  others : (q : ℕ) → in_window lo p ≡ true → number_of lo p ≢ number_of lo q → bit_of (get_or more (number_of lo q / 8) 0) (number_of lo q % 8) ≡ bit_of (byte_of q) (number_of lo q % 8)
  others q h d =
      elim (ℕ_discrete (number_of lo q / 8) (number_of lo p / 8)) [
        | yes e ↦
            rw (e, get_or-set_same {A = ℕ} bits (number_of lo p / 8) (with_bit (byte_of p) (number_of lo p % 8) 1) 0 (omega (arith, w.long, window_byte lo p h)))
            (bit-other (byte_of p) (number_of lo p % 8) (number_of lo q % 8) 1 (omega arith) (omega arith))
        | no e ↦ rw (get_or-set_other bits (number_of lo p / 8) (number_of lo q / 8) (with_bit (byte_of p) (number_of lo p % 8) 1) 0 e)
      ]

  set-marked : IsReached s p → in_window lo p ≡ true → (q : ℕ) → is_marked more lo q ≡ true → IsReached s q
  unfolding is_marked
  set-marked r h q m =
      let in-q : in_window lo q ≡ true = and-yes-l (in_window lo q) (eqb (bit_of (get_or more (number_of lo q / 8) 0) (number_of lo q % 8)) 1) m in
      elim (ℕ_discrete (number_of lo p) (number_of lo q)) [
        | yes e ↦ subst (IsReached s) (same_bit lo p q h in-q e) r
        | no d ↦ w.marked q (ap (λ (x : ℕ). in_window lo q && eqb x 1) (sym (others q h d)) ∙ m)
      ]

  pub window-at : IsReached s p → Window s lo (mark_at bits lo p)
  unfolding mark_at
  window-at r = go (in_window lo p) refl
    where
      go : (b : Bool) → in_window lo p ≡ b → Window s lo (cond b more bits)
      go true h = record { from = w.from; long = length-set bits (number_of lo p / 8) _ ∙ w.long; marked = set-marked r h }
      go false h = w
