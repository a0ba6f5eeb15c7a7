-- Lists by index: the list of f k, f (k + 1), .. and what it holds.
use Rattle.std.specs.Prelude.{◌≡◌, refl, ℕ, zero, suc, ◌+◌, ◌≤◌, ◌<◌, List, [], ◌∷◌, ◌++◌, length, get_or, replicate}
use Rattle.std.proofs.Common.{ap, ◌∙◌, arith, zero-add, ext_get_or}
use Rattle.lists.specs.Lists.{table}

module _ {ℓ} {A : Type ℓ} where
  pub length-table : (f : ℕ → A) (k d : ℕ) → length (table f k d) ≡ d
  length-table f k zero = refl
  length-table f k (suc d) = ap suc (length-table f (suc k) d)

  pub get_or-table : (f : ℕ → A) (k d i : ℕ) (z : A) → i < d → get_or (table f k d) i z ≡ f (k + i)
  get_or-table f k zero i z h = absurd (omega arith)
  get_or-table f k (suc d) zero z h = ap f (omega arith)
  get_or-table f k (suc d) (suc i) z h = get_or-table f (suc k) d i z (omega arith) ∙ ap f (omega arith)

  pub get_or-table-out : (f : ℕ → A) (k d i : ℕ) (z : A) → d ≤ i → get_or (table f k d) i z ≡ z
  get_or-table-out f k zero i z h = refl
  get_or-table-out f k (suc d) zero z h = absurd (omega arith)
  get_or-table-out f k (suc d) (suc i) z h = get_or-table-out f (suc k) d i z (omega arith)

  pub table-cong : (f g : ℕ → A) (k d : ℕ) → ((p : ℕ) → k ≤ p → p < k + d → f p ≡ g p) → table f k d ≡ table g k d
  table-cong f g k zero h = refl
  table-cong f g k (suc d) h = λ i. h k (omega arith) (omega arith) i ∷ table-cong f g (suc k) d (λ s a b. h s (omega arith) (omega arith)) i

  pub table_same : (x : A) (k d : ℕ) → table (λ _. x) k d ≡ replicate d x
  table_same x k zero = refl
  table_same x k (suc d) = ap (λ (l : List A). x ∷ l) (table_same x (suc k) d)

  -- one element more
  pub table_more : (f : ℕ → A) (k d : ℕ) → table f k (suc d) ≡ table f k d ++ (f (k + d) ∷ [])
  table_more f k zero = ap (λ (n : ℕ). f n ∷ []) (omega arith)
  table_more f k (suc d) = ap (λ (l : List A). f k ∷ l) (table_more f (suc k) d ∙ ap (λ (n : ℕ). table f (suc k) d ++ (f n ∷ [])) (omega arith))

  -- a list is the table of its elements
  pub table-get_or : (l : List A) (z : A) → table (λ i. get_or l i z) 0 (length l) ≡ l
  table-get_or l z =
      ext_get_or z (table (λ i. get_or l i z) 0 (length l)) l (length-table (λ i. get_or l i z) 0 (length l))
      (λ i h.
      let k : i < length l = omega (arith, length-table (λ i. get_or l i z) 0 (length l)) in
      get_or-table (λ i. get_or l i z) 0 (length l) i z k ∙ ap (λ (j : ℕ). get_or l j z) (zero-add i))
