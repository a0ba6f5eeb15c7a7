-- The free blocks in rising order: how many they are, and what a search for the next one finds.
use Rattle.std.specs.Prelude.{◌≡◌, refl, Bool, true, false, not, cond, ℕ, zero, suc, ◌+◌, ◌-◌, ◌≤◌, ◌<◌, List, [], ◌∷◌, length, get_or}
use Rattle.std.proofs.Common.{sym, ap, ap₂, ◌∙◌, subst, zero-add, arith}
use Rattle.std.proofs.Math.Decide.{ℕ_discrete}
use Rattle.lists.specs.Lists.{sum, count}
use Rattle.list_laws.specs.Sum.{sum-cong}
use Rattle.tfs_spec.specs.Layout.{map_bit, View, free_blocks}
use Rattle.tfs_spec.specs.Requests.{free_from}

-- ---- one block more: marked, or free
pub free-marked : (map : List ℕ) (k d : ℕ) → map_bit map k ≡ true → free_from map k (suc d) ≡ free_from map (suc k) d
unfolding free_from
free-marked map k d e = ap (λ (b : Bool). cond b (free_from map (suc k) d) (k ∷ free_from map (suc k) d)) e

pub free-clear : (map : List ℕ) (k d : ℕ) → map_bit map k ≡ false → free_from map k (suc d) ≡ k ∷ free_from map (suc k) d
unfolding free_from
free-clear map k d e = ap (λ (b : Bool). cond b (free_from map (suc k) d) (k ∷ free_from map (suc k) d)) e

free-end : (map : List ℕ) (k : ℕ) → free_from map k 0 ≡ []
unfolding free_from
free-end map k = refl

-- what holds of the list whether block k is marked or free
by-mark {ℓ} : (P : List ℕ → Type ℓ) (map : List ℕ) (k d : ℕ) → (map_bit map k ≡ true → P (free_from map (suc k) d)) → (map_bit map k ≡ false → P (k ∷ free_from map (suc k) d)) → P (free_from map k (suc d))
by-mark P map k d marked clear = go (map_bit map k) refl
  where
    go : (b : Bool) → map_bit map k ≡ b → P (free_from map k (suc d))
    go true e = subst P (sym (free-marked map k d e)) (marked e)
    go false e = subst P (sym (free-clear map k d e)) (clear e)

-- ---- how many
sum-front : (f : ℕ → ℕ) (n : ℕ) → sum f (suc n) ≡ f 0 + sum (λ i. f (suc i)) n
unfolding sum
sum-front f zero = omega arith
sum-front f (suc n) = omega (arith, sum-front f n)

-- as many as there are zero bits among the d from k on
pub free-length : (map : List ℕ) (k d : ℕ) → length (free_from map k d) ≡ count (λ i. not (map_bit map (k + i))) d
unfolding sum
free-length map k zero = ap length (free-end map k)
free-length map k (suc d) =
    let f : ℕ → ℕ = λ x. cond (not (map_bit map x)) 1 0 in
    let r : length (free_from map (suc k) d) ≡ sum (λ i. f (suc k + i)) d = free-length map (suc k) d in
    let shift : sum (λ i. f (k + suc i)) d ≡ sum (λ i. f (suc k + i)) d = sum-cong (λ i. f (k + suc i)) (λ i. f (suc k + i)) d (λ i l. ap f (omega arith)) in
    let front : sum (λ i. f (k + i)) (suc d) ≡ f (k + 0) + sum (λ i. f (k + suc i)) d = sum-front (λ i. f (k + i)) d in
    let first : f (k + 0) ≡ f k = ap f (omega arith) in
    by-mark (λ l. length l ≡ sum (λ i. f (k + i)) (suc d)) map k d
    (λ e. let z : f k ≡ 0 = ap (λ (b : Bool). cond {A = ℕ} (not b) 1 0) e in omega arith)
    (λ e. let z : f k ≡ 1 = ap (λ (b : Bool). cond {A = ℕ} (not b) 1 0) e in omega arith)

pub free-below : (map : List ℕ) (n : ℕ) → length (free_from map 0 n) ≡ count (λ b. not (map_bit map b)) n
free-below map n =
    free-length map 0 n
    ∙ sum-cong (λ i. cond (not (map_bit map (0 + i))) 1 0) (λ i. cond (not (map_bit map i)) 1 0) n (λ i l. rw zero-add)

-- "zero bits below N"
pub free-count : (v : View) → length (free_from v.map 0 v.n) ≡ free_blocks v
unfolding free_blocks
free-count v = free-below v.map v.n

-- ---- what they are
-- x is free, and one of the d blocks from k on
pub record FreeIn (map : List ℕ) (k d x : ℕ) : Type 0 where
  pub low : k ≤ x
  pub high : x < k + d
  pub clear : map_bit map x ≡ false

free-wider : (map : List ℕ) (k d x : ℕ) → FreeIn map (suc k) d x → FreeIn map k (suc d) x
free-wider map k d x h = record { low = omega (arith, h.low); high = omega (arith, h.high); clear = h.clear }

member-cons : (map : List ℕ) (k d : ℕ) (l : List ℕ) → map_bit map k ≡ false → ((m : ℕ) → m < length l → FreeIn map (suc k) d (get_or l m 0)) → (m : ℕ) → m < suc (length l) → FreeIn map k (suc d) (get_or (k ∷ l) m 0)
member-cons map k d l e h zero b = record { low = omega arith; high = omega arith; clear = e }
member-cons map k d l e h (suc m) b = free-wider map k d (get_or l m 0) (h m (omega arith))

-- each is free, and one of the d from k on
pub free-member : (map : List ℕ) (k d m : ℕ) → m < length (free_from map k d) → FreeIn map k d (get_or (free_from map k d) m 0)
free-member map k zero m h = absurd (omega (arith, ap length (free-end map k)))
free-member map k (suc d) m h =
    by-mark (λ l. m < length l → FreeIn map k (suc d) (get_or l m 0)) map k d
    (λ e b. free-wider map k d _ (free-member map (suc k) d m b))
    (λ e. member-cons map k d (free_from map (suc k) d) e (λ j b. free-member map (suc k) d j b) m)
    h

rising-cons : (k : ℕ) (l : List ℕ) → ((m : ℕ) → m < length l → k < get_or l m 0) → ((i j : ℕ) → i < j → j < length l → get_or l i 0 < get_or l j 0) → (i j : ℕ) → i < j → j < suc (length l) → get_or (k ∷ l) i 0 < get_or (k ∷ l) j 0
rising-cons k l above rising i zero h b = absurd (omega arith)
rising-cons k l above rising zero (suc j) h b = above j (omega arith)
rising-cons k l above rising (suc i) (suc j) h b = rising i j (omega arith) (omega arith)

-- each is less than the later ones
pub free-rising : (map : List ℕ) (k d i j : ℕ) → i < j → j < length (free_from map k d) → get_or (free_from map k d) i 0 < get_or (free_from map k d) j 0
free-rising map k zero i j l h = absurd (omega (arith, ap length (free-end map k)))
free-rising map k (suc d) i j l h =
    by-mark (λ x. j < length x → get_or x i 0 < get_or x j 0) map k d (λ e. free-rising map (suc k) d i j l)
    (λ e. rising-cons k (free_from map (suc k) d) (λ m b. (free-member map (suc k) d m b).low) (λ x y. free-rising map (suc k) d x y) i j l)
    h

before-cons : (f : ℕ → ℕ) (k : ℕ) (l : List ℕ) → f k ≡ 1 → ((m : ℕ) → m < length l → sum f (get_or l m 0) ≡ sum f (suc k) + m) → (m : ℕ) → m < suc (length l) → sum f (get_or (k ∷ l) m 0) ≡ sum f k + m
unfolding sum
before-cons f k l e h zero b = omega arith
before-cons f k l e h (suc m) b = omega (arith, h m (omega arith))

-- as many are lower as stand before it, and those below k
pub free-before : (map : List ℕ) (k d m : ℕ) → m < length (free_from map k d) → count (λ i. not (map_bit map i)) (get_or (free_from map k d) m 0) ≡ count (λ i. not (map_bit map i)) k + m
unfolding sum
free-before map k zero m h = absurd (omega (arith, ap length (free-end map k)))
free-before map k (suc d) m h =
    let f : ℕ → ℕ = λ x. cond (not (map_bit map x)) 1 0 in
    by-mark (λ l. m < length l → sum f (get_or l m 0) ≡ sum f k + m) map k d
    (λ e b. (let z : f k ≡ 0 = ap (λ (x : Bool). cond {A = ℕ} (not x) 1 0) e in omega (arith, free-before map (suc k) d m b)))
    (λ e. before-cons f k (free_from map (suc k) d) (ap (λ (x : Bool). cond {A = ℕ} (not x) 1 0) e) (λ j b. free-before map (suc k) d j b) m)
    h

-- ---- a search for the next one
-- x is the first free block at or after k
pub free-cursor : (map : List ℕ) (k d x : ℕ) → FreeIn map k d x → ((i : ℕ) → k ≤ i → i < x → map_bit map i ≡ true) → free_from map k d ≡ x ∷ free_from map (suc x) (k + d - suc x)
free-cursor map k zero x h marked = absurd (omega (arith, h.low, h.high))
free-cursor map k (suc d) x h marked =
    elim (ℕ_discrete k x) [
      | yes e ↦
          let f : map_bit map k ≡ false = ap (map_bit map) e ∙ h.clear in
          free-clear map k d f ∙ ap₂ (λ (y c : ℕ). y ∷ free_from map (suc y) c) e (omega arith)
      | no e ↦
          free-marked map k d (marked k (omega arith) (omega (arith, h.low)))
          ∙ free-cursor map (suc k) d x (record { low = omega (arith, h.low); high = omega (arith, h.high); clear = h.clear }) (λ i l b. marked i (omega arith) b)
          ∙ ap (λ (c : ℕ). x ∷ free_from map (suc x) c) (omega arith)
    ]

-- none is free
pub free-none : (map : List ℕ) (k d : ℕ) → ((i : ℕ) → k ≤ i → i < k + d → map_bit map i ≡ true) → free_from map k d ≡ []
free-none map k zero marked = free-end map k
free-none map k (suc d) marked =
    free-marked map k d (marked k (omega arith) (omega arith)) ∙ free-none map (suc k) d (λ i l h. marked i (omega arith) (omega arith))
