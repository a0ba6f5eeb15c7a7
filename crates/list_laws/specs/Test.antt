-- Tests as Booleans, and what they say.
use Rattle.std.specs.Prelude.{◌≡◌, refl, Bool, true, false, not, cond, ◌&&◌, ◌||◌, ℕ, zero, suc, List, [], ◌∷◌, get_or, T, eqb}
use Rattle.std.proofs.Common.{sym, subst, eqb→eq}
use Rattle.std.proofs.Math.Dec.{eqb_refl, not_T}
use Rattle.lists.specs.Lists.{same_list, zeros}

-- ---- a test is true or not
pub by-test {ℓ} : {P : Type ℓ} (b : Bool) → (T b → P) → (T (not b) → P) → P
by-test true f g = f tt
by-test false f g = g tt

pub cond_yes {ℓ} : {X : Type ℓ} (b : Bool) (x y : X) → T b → cond b x y ≡ x
cond_yes true x y t = refl
cond_yes false x y t = absurd t

pub cond_no {ℓ} : {X : Type ℓ} (b : Bool) (x y : X) → T (not b) → cond b x y ≡ y
cond_no true x y t = absurd t
cond_no false x y t = refl

pub to-true : (b : Bool) → T b → b ≡ true
to-true true t = refl
to-true false t = absurd t

pub of-true : (b : Bool) → b ≡ true → T b
of-true b e = subst T (sym e) tt

pub to-false : (b : Bool) → (T b → ⊥) → b ≡ false
to-false true f = absurd (f tt)
to-false false f = refl

pub no_false : (b : Bool) → T (not b) → b ≡ false
no_false true t = absurd t
no_false false t = refl

-- ---- and, or, not
pub and-of : (a b : Bool) → T a → T b → T (a && b)
and-of true b s t = t
and-of false b s t = s

pub and_l : (a b : Bool) → T (a && b) → T a
and_l true b t = tt
and_l false b t = t

pub and_r : (a b : Bool) → T (a && b) → T b
and_r true b t = t
and_r false b t = absurd t

pub no-and : (a b : Bool) → T (not a) → T (not (a && b))
no-and true b t = absurd t
no-and false b t = tt

pub or-no-l : (a b : Bool) → (a || b) ≡ false → a ≡ false
or-no-l true b e = e
or-no-l false b e = refl

pub or-no-r : (a b : Bool) → (a || b) ≡ false → b ≡ false
or-no-r true b e = cc
or-no-r false b e = e

pub or_l : (a b : Bool) → T a → T (a || b)
or_l true b t = tt
or_l false b t = absurd t

pub or_r : (a b : Bool) → T b → T (a || b)
or_r true b t = tt
or_r false b t = t

pub or-second : (a b : Bool) → T (not a) → T (a || b) → T b
or-second true b s t = absurd s
or-second false b s t = t

pub not-not : (b : Bool) → T (not (not b)) → T b
not-not true t = tt
not-not false t = t

pub yes-yes : (b : Bool) → T b → T (not (not b))
yes-yes true t = tt
yes-yes false t = t

pub iff-eq : (a b : Bool) → (T a → T b) → (T b → T a) → a ≡ b
iff-eq true true f g = refl
iff-eq true false f g = absurd (f tt)
iff-eq false true f g = absurd (g tt)
iff-eq false false f g = refl

-- ---- numbers
pub eqb_of : {a b : ℕ} → a ≡ b → T (eqb a b)
eqb_of {a} {b} e = rw e (eqb_refl b)

pub neqb-of : (a b : ℕ) → (a ≡ b → ⊥) → T (not (eqb a b))
neqb-of a b f = not_T (eqb a b) (λ t. f (eqb→eq a b t))

-- ---- lists
pub same-eq : (a b : List ℕ) → T (same_list a b) → a ≡ b
same-eq [] [] t = refl
same-eq [] (y ∷ ys) t = absurd t
same-eq (x ∷ xs) [] t = absurd t
same-eq (x ∷ xs) (y ∷ ys) t = λ i. eqb→eq x y (and_l (eqb x y) (same_list xs ys) t) i ∷ same-eq xs ys (and_r (eqb x y) (same_list xs ys) t) i

pub same_refl : (a : List ℕ) → T (same_list a a)
same_refl [] = tt
same_refl (x ∷ xs) = and-of (eqb x x) (same_list xs xs) (eqb_refl x) (same_refl xs)

-- zeros, by their bytes
pub zeros-byte : (n i : ℕ) → get_or (zeros n) i 0 ≡ 0
zeros-byte zero i = refl
zeros-byte (suc n) zero = refl
zeros-byte (suc n) (suc i) = zeros-byte n i
