-- The least index with a test.
use Rattle.std.specs.Prelude.{◌≡◌, refl, ◌≢◌, Bool, true, false, not, cond, ℕ, zero, suc, ◌≤◌, ◌<◌, min, T, ltb}
use Rattle.std.proofs.Common.{sym, subst, ◌∙◌, arith, ltb→lt, nltb→le, T_not}
use Rattle.std.proofs.Math.Decide.{dec_lt, ℕ_discrete}
use Rattle.std.proofs.Math.Arith.{lt_of_le-ne}
use Rattle.lists.specs.Lists.{least}
use Rattle.list_laws.specs.Test.{by-test, cond_yes, cond_no, of-true}

pub least-le : (f : ℕ → Bool) (n : ℕ) → least f n ≤ n
unfolding least
least-le f zero = omega arith
least-le f (suc n) = go (least f n) (f n) (least-le f n)
  where
    go : (r : ℕ) (b : Bool) → r ≤ n → cond (ltb r n) r (cond b n (suc n)) ≤ suc n
    go r b h =
        by-test (ltb r n)
        (λ t. rw (cond_yes (ltb r n) r (cond b n (suc n)) t) (omega arith))
        (λ t.
        rw (cond_no (ltb r n) r (cond b n (suc n)) t)
        (by-test b (λ u. rw (cond_yes b n (suc n) u) (omega arith)) (λ u. rw (cond_no b n (suc n) u) (omega arith))))

-- f holds at the least index
pub least-hit : (f : ℕ → Bool) (n : ℕ) → least f n < n → T (f (least f n))
unfolding least
least-hit f zero h = absurd (omega arith)
least-hit f (suc n) h =
    by-test (ltb (least f n) n)
    (λ t. rw (cond_yes (ltb (least f n) n) (least f n) (cond (f n) n (suc n)) t) (least-hit f n (ltb→lt (least f n) n t)))
    (λ t. rw (cond_no (ltb (least f n) n) (least f n) (cond (f n) n (suc n)) t) (last (rw (cond_no (ltb (least f n) n) (least f n) (cond (f n) n (suc n)) t) at h)))
  where
    last : cond (f n) n (suc n) < suc n → T (f (cond (f n) n (suc n)))
    last k =
        by-test (f n)
        (λ u. rw (cond_yes (f n) n (suc n) u) u)
        (λ u. let z : suc n < suc n = rw (cond_no (f n) n (suc n) u) at k in absurd (omega arith))

-- and nowhere below it
pub least-below : (f : ℕ → Bool) (n i : ℕ) → i < least f n → T (not (f i))
unfolding least
least-below f zero i h = absurd (omega arith)
least-below f (suc n) i h =
    by-test (ltb (least f n) n)
    (λ t. least-below f n i (rw (cond_yes (ltb (least f n) n) (least f n) (cond (f n) n (suc n)) t) at h))
    (λ t.
    let k : i < cond (f n) n (suc n) = rw (cond_no (ltb (least f n) n) (least f n) (cond (f n) n (suc n)) t) at h in
    let r : n ≤ least f n = nltb→le (least f n) n t in
    by-test (f n)
    (λ u. let m : i < n = rw (cond_yes (f n) n (suc n) u) at k in least-below f n i (omega arith))
    (λ u.
    let m : i < suc n = rw (cond_no (f n) n (suc n) u) at k in
    elim (ℕ_discrete i n) [ yes e ↦ rw e u | no e ↦ least-below f n i (omega (arith, lt_of_le-ne {i = i} {k = n} (omega arith) e)) ]))

pub least-none : (f : ℕ → Bool) (n : ℕ) → n ≤ least f n → (i : ℕ) → i < n → T (not (f i))
least-none f n h i l = least-below f n i (omega arith)

-- an index at which f holds and below which it does not is the least
pub least-is : (f : ℕ → Bool) (n s : ℕ) → s < n → T (f s) → ((i : ℕ) → i < s → T (not (f i))) → least f n ≡ s
least-is f n s h t below =
    elim (dec_lt (least f n) s) [
      | yes l ↦ absurd (T_not (f (least f n)) (below (least f n) l) (least-hit f n (omega arith)))
      | no l ↦ elim (dec_lt s (least f n)) [ yes g ↦ absurd (T_not (f s) (least-below f n s g) t) | no g ↦ omega arith ]
    ]

pub least-all : (f : ℕ → Bool) (n : ℕ) → ((i : ℕ) → i < n → T (not (f i))) → least f n ≡ n
least-all f n h =
    elim (dec_lt (least f n) n)
    [ yes l ↦ absurd (T_not (f (least f n)) (h (least f n) l) (least-hit f n l)) | no l ↦ omega (arith, least-le f n) ]

pub least-cong : (f g : ℕ → Bool) (n : ℕ) → ((i : ℕ) → i < n → f i ≡ g i) → least f n ≡ least g n
unfolding least
least-cong f g zero h = refl
least-cong f g (suc n) h = λ i.
    let r : ℕ = least-cong f g n (λ j l. h j (omega arith)) i in cond (ltb r n) r (cond (h n (omega arith) i) n (suc n))

-- ---- one index more at which a test holds
module _ (f g : ℕ → Bool) (b : ℕ) (hit : T (g b)) (same : (k : ℕ) → k ≢ b → f k ≡ g k) where
  past : (n i : ℕ) → i < least f n → i ≢ b → T (not (g i))
  past n i h d = subst (λ (t : Bool). T (not t)) (same i d) (least-below f n i h)

  pub least_more : (n : ℕ) → min b (least f n) ≡ least g n
  least_more n =
      elim (dec_lt b (least f n)) [
        | yes h ↦
            let e : min b (least f n) ≡ b = omega arith in
            e ∙ sym (least-is g n b (omega (arith, least-le f n)) hit (λ i l. past n i (omega arith) (λ q. omega arith)))
        | no h ↦
            let e : min b (least f n) ≡ least f n = omega arith in
            elim (dec_lt (least f n) n) [
              | yes l ↦ e ∙ sym (least-is g n (least f n) l (at (ℕ_discrete (least f n) b) l) (λ i k. past n i k (λ q. omega arith)))
              | no l ↦
                  let z : least f n ≡ n = omega (arith, least-le f n) in
                  e ∙ z ∙ sym (least-all g n (λ i k. past n i (omega arith) (λ q. omega arith)))
            ]
      ]
    where
      at : Dec (least f n ≡ b) → least f n < n → T (g (least f n))
      at (yes e) l = subst (λ (k : ℕ). T (g k)) (sym e) hit
      at (no e) l = subst T (same (least f n) e) (least-hit f n l)

-- ---- for a search in code, which goes up from 0
abbrev pub Below : (ℕ → Bool) → ℕ → Type 0
Below f i = (k : ℕ) → k < i → f k ≡ false

pub found : (f : ℕ → Bool) (n r : ℕ) → r < n → Below f r → f r ≡ true → r ≡ least f n
found f n r h b t = sym (least-is f n r h (of-true (f r) t) (λ i l. subst (λ (x : Bool). T (not x)) (sym (b i l)) tt))

pub none_found : (f : ℕ → Bool) (n r : ℕ) → r ≤ n → n ≤ r → Below f r → n ≡ least f n
none_found f n r h l b = sym (least-all f n (λ i k. subst (λ (x : Bool). T (not x)) (sym (b i (omega arith))) tt))
