-- Sums and counts over the numbers below a bound.
use Rattle.std.specs.Prelude.{◌≡◌, refl, ◌≢◌, ◌↔◌, Bool, not, cond, ◌&&◌, ℕ, zero, suc, ◌+◌, ◌≤◌, ◌<◌, T, eqb}
use Rattle.std.proofs.Common.{sym, ap, ap₂, ◌∙◌, arith, T_not}
use Rattle.std.proofs.Math.Decide.{ℕ_discrete}
use Rattle.std.proofs.Math.Arith.{lt_of_le-ne}
use Rattle.std.proofs.Math.Dec.{not_T}
use Rattle.lists.specs.Lists.{sum, count}
use Rattle.list_laws.specs.Test.{cond_yes, cond_no, and-of, and_l, and_r, eqb_of, neqb-of, iff-eq}

pub sum_one : (f : ℕ → ℕ) (n i : ℕ) → i < n → f i ≤ sum f n
unfolding sum
sum_one f zero i l = absurd (omega arith)
sum_one f (suc n) i l =
    elim (ℕ_discrete i n) [
      | yes e ↦ rw e (omega arith)
      | no e ↦ let z : f i ≤ sum f n = sum_one f n i (lt_of_le-ne (omega arith) e) in omega arith
    ]

pub sum-two : (f : ℕ → ℕ) (n i j : ℕ) → i < j → j < n → f i + f j ≤ sum f n
unfolding sum
sum-two f zero i j k l = absurd (omega arith)
sum-two f (suc n) i j k l =
    elim (ℕ_discrete j n) [
      | yes e ↦ (let z : f i ≤ sum f n = sum_one f n i (omega arith) in rw e (omega arith))
      | no e ↦ let z : f i + f j ≤ sum f n = sum-two f n i j k (lt_of_le-ne (omega arith) e) in omega arith
    ]

pub sum-cong : (f g : ℕ → ℕ) (n : ℕ) → ((i : ℕ) → i < n → f i ≡ g i) → sum f n ≡ sum g n
unfolding sum
sum-cong f g zero h = refl
sum-cong f g (suc n) h = ap₂ ◌+◌ (sum-cong f g n (λ i l. h i (omega arith))) (h n (omega arith))

pub sum-zero : (n : ℕ) → sum (λ _. 0) n ≡ 0
unfolding sum
sum-zero zero = refl
sum-zero (suc n) = rw (sum-zero n)

pub sum_ones : (n : ℕ) → sum (λ _. 1) n ≡ n
unfolding sum
sum_ones zero = refl
sum_ones (suc n) = rw (sum_ones n) (omega arith)

pub sum-add : (f g : ℕ → ℕ) (n : ℕ) → sum (λ i. f i + g i) n ≡ sum f n + sum g n
unfolding sum
sum-add f g zero = refl
sum-add f g (suc n) = rw (sum-add f g n) (omega arith)

-- two functions that differ at one number only
pub sum_drop : (f g : ℕ → ℕ) (n s : ℕ) → s < n → ((t : ℕ) → t < n → s ≢ t → g t ≡ f t) → g s ≡ 0 → sum f n ≡ sum g n + f s
unfolding sum
sum_drop f g zero s h e z = absurd (omega arith)
sum_drop f g (suc n) s h e z =
    elim (ℕ_discrete s n) [
      | yes d ↦ (let a : sum f n ≡ sum g n = sum-cong f g n (λ t l. sym (e t (omega arith) (omega arith))) in
          let b : f s ≡ f n = ap f d in
          let c : g s ≡ g n = ap g d in
          omega arith)
      | no d ↦
          let a : sum f n ≡ sum g n + f s = sum_drop f g n s (lt_of_le-ne {i = s} {k = n} (omega arith) d) (λ t l x. e t (omega arith) x) z in
          let b : g n ≡ f n = e n (omega arith) d in
          omega arith
    ]

pub one-no : (x b : ℕ) → x ≢ b → cond {A = ℕ} (eqb x b) 1 0 ≡ 0
one-no x b h = cond_no {X = ℕ} (eqb x b) 1 0 (neqb-of x b h)

pub one-yes : (x b : ℕ) → x ≡ b → cond {A = ℕ} (eqb x b) 1 0 ≡ 1
one-yes x b h = cond_yes {X = ℕ} (eqb x b) 1 0 (eqb_of h)

-- exactly one number is x
pub sum-delta : (x n : ℕ) → x < n → sum (λ b. cond (eqb x b) 1 0) n ≡ 1
unfolding sum
sum-delta x zero h = absurd (omega arith)
sum-delta x (suc n) h =
    elim (ℕ_discrete x n) [
      | yes e ↦ (ap₂ ◌+◌ (sum-cong (λ b. cond (eqb x b) 1 0) (λ _. 0) n (λ b l. one-no x b (omega arith)) ∙ sum-zero n) (one-yes x n e))
      | no e ↦ ap₂ ◌+◌ (sum-delta x n (lt_of_le-ne {i = x} {k = n} (omega arith) e)) (one-no x n e)
    ]

pub count-one : (f : ℕ → Bool) (n i : ℕ) → i < n → T (f i) → 1 ≤ count f n
count-one f n i l t = let z : cond (f i) 1 0 ≤ count f n = sum_one (λ j. cond (f j) 1 0) n i l in rw (cond_yes {X = ℕ} (f i) 1 0 t) at z

pub count-two : (f : ℕ → Bool) (n i j : ℕ) → i < j → j < n → T (f i) → T (f j) → 2 ≤ count f n
count-two f n i j k l t u =
    let z : cond (f i) 1 0 + cond (f j) 1 0 ≤ count f n = sum-two (λ m. cond (f m) 1 0) n i j k l in
    rw (cond_yes {X = ℕ} (f i) 1 0 t, cond_yes {X = ℕ} (f j) 1 0 u) at z

-- if p holds below n just at f 0 to f (m - 1), and these are different, it holds at m numbers
pub count-image : (f : ℕ → ℕ) (m n : ℕ) → ((k : ℕ) → k < m → f k < n) → ((j k : ℕ) → j < m → k < m → f j ≡ f k → j ≡ k) → (p : ℕ → Bool) → ((b : ℕ) → b < n → T (p b) ↔ ((k : ℕ) × (k < m) × (f k ≡ b))) → count p n ≡ m
count-image f zero n low once p at =
    sum-cong (λ b. cond (p b) 1 0) (λ _. 0) n (λ b l. cond_no {X = ℕ} (p b) 1 0 (not_T (p b) (λ t. let k = (at b l).0 t in omega (arith, k.1)))) ∙ sum-zero n
count-image f (suc m) n low once p at =
    let q : ℕ → Bool = λ b. p b && not (eqb (f m) b) in
    let rest : count q n ≡ m = count-image f m n (λ k l. low k (omega arith)) (λ j k l h. once j k (omega arith) (omega arith)) q (λ b l. (fewer b l, more b l)) in
    let drop : count p n ≡ count q n + cond {A = ℕ} (p (f m)) 1 0 =
    sum_drop (λ b. cond (p b) 1 0) (λ b. cond (q b) 1 0) n (f m) (low m (omega arith)) (λ t l d. ap (λ (x : Bool). cond x 1 0) (kept t d)) (cond_no {X = ℕ} (q (f m)) 1 0 gone) in
    let last : cond {A = ℕ} (p (f m)) 1 0 ≡ 1 = cond_yes {X = ℕ} (p (f m)) 1 0 ((at (f m) (low m (omega arith))).1 (m, omega arith, refl)) in
    omega arith
  where
    fewer : (b : ℕ) → b < n → T (p b && not (eqb (f m) b)) → (k : ℕ) × (k < m) × (f k ≡ b)
    fewer b l t =
        let k = (at b l).0 (and_l (p b) _ t) in
        let other : f m ≢ b = λ e. T_not (eqb (f m) b) (and_r (p b) _ t) (eqb_of e) in
        (k.0, lt_of_le-ne {i = k.0} {k = m} (omega (arith, k.1)) (λ e. other (ap f (sym e) ∙ k.2)), k.2)

    more : (b : ℕ) → b < n → (k : ℕ) × (k < m) × (f k ≡ b) → T (p b && not (eqb (f m) b))
    more b l k =
        and-of (p b) _ ((at b l).1 (k.0, omega (arith, k.1), k.2))
        (neqb-of (f m) b (λ e. let same : m ≡ k.0 = once m k.0 (omega arith) (omega (arith, k.1)) (e ∙ sym k.2) in omega (arith, k.1)))

    kept : (t : ℕ) → f m ≢ t → (p t && not (eqb (f m) t)) ≡ p t
    kept t d = iff-eq (p t && not (eqb (f m) t)) (p t) (λ u. and_l (p t) _ u) (λ u. and-of (p t) _ u (neqb-of (f m) t d))

    gone : T (not (p (f m) && not (eqb (f m) (f m))))
    gone = not_T (p (f m) && not (eqb (f m) (f m))) (λ t. T_not (eqb (f m) (f m)) (and_r (p (f m)) _ t) (eqb_of {a = f m} {b = f m} refl))
