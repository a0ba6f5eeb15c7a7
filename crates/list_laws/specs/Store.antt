-- Bytes stored one by one through an address map.
use Rattle.std.specs.Prelude.{◌≡◌, refl, ◌≢◌, ℕ, zero, suc, ◌+◌, ◌≤◌, ◌<◌, List, [], ◌∷◌, ◌++◌, length, get_or, set}
use Rattle.std.proofs.Common.{◌∙◌, arith, add-suc, suc-add, add-zero, length-set, get_or-set_same, get_or-set_other}
use Rattle.lists.specs.Lists.{store_bytes}

module _ (a : ℕ → ℕ) where
  pub length-store : (bs img : List ℕ) (o : ℕ) → length (store_bytes a img o bs) ≡ length img
  length-store [] img o = refl
  length-store (b ∷ bs) img o = length-store bs (set img (a o) b) (suc o) ∙ length-set img (a o) b

  -- an address that is none of those stored to
  pub store_other : (bs img : List ℕ) (o q : ℕ) → ((p : ℕ) → o ≤ p → p < o + length bs → q ≢ a p) → get_or (store_bytes a img o bs) q 0 ≡ get_or img q 0
  store_other [] img o q h = refl
  store_other (b ∷ bs) img o q h =
      store_other bs (set img (a o) b) (suc o) q (λ p l u. h p (omega arith) (omega arith))
      ∙ get_or-set_other img (a o) q b 0 (h o (omega arith) (omega arith))

  -- an address stored to, where no two positions share one
  pub store_at : (bs img : List ℕ) (o j : ℕ) → j < length bs → a (o + j) < length img → ((r : ℕ) → o ≤ r → r < o + length bs → a (o + j) ≡ a r → o + j ≡ r) → get_or (store_bytes a img o bs) (a (o + j)) 0 ≡ get_or bs j 0
  store_at [] img o j h k inj = absurd (omega arith)
  store_at (b ∷ bs) img o zero h k inj =
      let e : o + 0 ≡ o = add-zero o in
      store_other bs (set img (a o) b) (suc o) (a (o + 0)) (λ p l u z. let w : o + 0 ≡ p = inj p (omega arith) (omega arith) z in omega arith)
      ∙ rw e (get_or-set_same img (a o) b 0 (rw e at k))
  store_at (b ∷ bs) img o (suc j) h k inj =
      let e : o + suc j ≡ suc o + j = omega arith in
      rw e
      (store_at bs (set img (a o) b) (suc o) j (omega arith) (rw length-set (rw e at k)) (λ r l u z. rw e at (inj r (omega arith) (omega arith) (rw e z))))

  pub store-join : (xs ys img : List ℕ) (o : ℕ) → store_bytes a (store_bytes a img o xs) (o + length xs) ys ≡ store_bytes a img o (xs ++ ys)
  store-join [] ys img o = rw add-zero
  store-join (x ∷ xs) ys img o = rw add-suc (rw (← suc-add) (store-join xs ys (set img (a o) x) (suc o)))
