-- The decimal digits of a number.
use Rattle.std.specs.Prelude.{◌≡◌, refl, ◌≢◌, Bool, true, false, ℕ, zero, suc, ◌+◌, ◌-◌, ◌*◌, ◌/◌, ◌%◌, ◌^◌, ◌≤◌, ◌<◌, List, [], ◌∷◌, ◌++◌, length, get_or, ltb}
use Rattle.std.proofs.Common.{sym, ap, ◌∙◌, subst, arith, pow-suc, lt-ltb, le-ltb, ltb-true, ltb-false, length-append}
use Rattle.std.proofs.Math.ListN.{get_or-append}
use Rattle.std.proofs.Math.Seq.{get_or-append_seam}
use Rattle.tfs_spec.specs.Replays.{line_bytes, decimal, decimal_worth, DecimalForm}

decimal-low : (f n : ℕ) → n < 10 → decimal (suc f) n ≡ (n + 48) ∷ []
unfolding decimal
decimal-low f n h = rw (lt-ltb _ _ h)

decimal-high : (f n : ℕ) → 10 ≤ n → decimal (suc f) n ≡ decimal f (n / 10) ++ ((n % 10 + 48) ∷ [])
unfolding decimal
decimal-high f n h = rw (le-ltb _ _ h)

worth-append : (v : ℕ) (xs ys : List ℕ) → decimal_worth v (xs ++ ys) ≡ decimal_worth (decimal_worth v xs) ys
worth-append v [] ys = refl
worth-append v (d ∷ ds) ys = worth-append (v * 10 + (d - 48)) ds ys

form-one : (n : ℕ) → n < 10 → DecimalForm n ((n + 48) ∷ [])
form-one n h = record { some = omega arith; digits = one; front = λ k. absurd (omega arith); value = omega arith }
  where
    one : (i : ℕ) → i < 1 → (48 ≤ get_or ((n + 48) ∷ []) i 0) × (get_or ((n + 48) ∷ []) i 0 ≤ 57)
    one zero k = (omega arith, omega arith)
    one (suc i) k = absurd (omega arith)

-- the first digit of a number that is not 0 is not 0
front-nonzero : (n : ℕ) (ds : List ℕ) → 1 ≤ n → DecimalForm n ds → get_or ds 0 0 ≢ 48
front-nonzero n [] h w e = absurd (omega (arith, w.some))
front-nonzero n (d ∷ []) h w e = let v : 0 * 10 + (d - 48) ≡ n = w.value in let z : d ≡ 48 = e in omega arith
front-nonzero n (d ∷ x ∷ ds) h w e = w.front (omega arith) e

form-more : (n : ℕ) (ds : List ℕ) → 10 ≤ n → DecimalForm (n / 10) ds → DecimalForm n (ds ++ ((n % 10 + 48) ∷ []))
form-more n ds h w = record {
  some = omega (arith, length-append ds (d ∷ []));
  digits = λ i k. by_place i (ltb i (length ds)) refl k;
  front = λ k e. front-nonzero (n / 10) ds (omega arith) w (sym (get_or-append ds (d ∷ []) 0 0 (omega (arith, w.some))) ∙ e);
  value = worth-append 0 ds (d ∷ []) ∙ omega (arith, w.value);
}
  where
    d : ℕ
    d = n % 10 + 48

    by_place : (i : ℕ) (b : Bool) → ltb i (length ds) ≡ b → i < length (ds ++ ((n % 10 + 48) ∷ [])) → (48 ≤ get_or (ds ++ ((n % 10 + 48) ∷ [])) i 0) × (get_or (ds ++ ((n % 10 + 48) ∷ [])) i 0 ≤ 57)
    by_place i true q k =
        let l : i < length ds = ltb-true i (length ds) q in
        subst (λ (x : ℕ). (48 ≤ x) × (x ≤ 57)) (sym (get_or-append ds ((n % 10 + 48) ∷ []) 0 i l)) (w.digits i l)
    by_place i false q k =
        let e : i ≡ length ds = omega (arith, ltb-false i (length ds) q, length-append ds ((n % 10 + 48) ∷ [])) in
        subst (λ (x : ℕ). (48 ≤ x) × (x ≤ 57)) (sym (ap (λ (j : ℕ). get_or (ds ++ ((n % 10 + 48) ∷ [])) j 0) e ∙ get_or-append_seam ds (n % 10 + 48) [] 0)) (omega arith, omega arith)

positive : (f m : ℕ) → 1 ≤ m → m < 10 ^ f → 0 < f
positive zero m p h = absurd (omega arith)
positive (suc f) m p h = omega arith

form_of : (f n : ℕ) → n < 10 ^ f → 0 < f → DecimalForm n (decimal f n)
form_of zero n h pos = absurd (omega arith)
form_of (suc f) n h pos = go (ltb n 10) refl (λ p q. form_of f (n / 10) p q)
  where
    go : (b : Bool) → ltb n 10 ≡ b → (n / 10 < 10 ^ f → 0 < f → DecimalForm (n / 10) (decimal f (n / 10))) → DecimalForm n (decimal (suc f) n)
    go true q ih = subst (DecimalForm n) (sym (decimal-low f n (ltb-true n 10 q))) (form-one n (ltb-true n 10 q))
    go false q ih =
        let k : 10 ≤ n = ltb-false n 10 q in
        subst (DecimalForm n) (sym (decimal-high f n k)) (form-more n (decimal f (n / 10)) k (ih (omega (arith, pow-suc 10 f)) (positive f (n / 10) (omega arith) (omega (arith, pow-suc 10 f)))))

pub decimal-form : (n : ℕ) → n < 10 ^ 20 → DecimalForm n (decimal 20 n)
decimal-form n h = form_of 20 n h (omega arith)

pub example : line_bytes (3 ∷ 4 ∷ 17 ∷ []) ≡ 51 ∷ 32 ∷ 52 ∷ 32 ∷ 49 ∷ 55 ∷ 10 ∷ []
unfolding line_bytes decimal
example = refl
