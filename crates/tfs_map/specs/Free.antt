-- The free blocks of a map: how many, the next one, all of them in order.
use Rattle.std.specs.Prelude.{◌≡◌, refl, Bool, true, false, not, cond, ℕ, zero, suc, ◌+◌, ◌-◌, ◌≤◌, ◌<◌, List, ◌∷◌, length, get_or, drop}
use Rattle.std.proofs.Common.{◌∙◌, add-one, arith, drop-cons}
use Rattle.lists.specs.Lists.{count}
use Rattle.tfs_spec.specs.Layout.{map_bit, View, free_blocks, ones_below}
use Rattle.tfs_facts.specs.MapOnes.{ones-zeros}
use Rattle.tfs_facts.specs.Room.{free-below}
use Rattle.tfs_spec.specs.Requests.{free_from}

-- how many of the first n blocks are free
unfoldable pub free_below : List ℕ → ℕ → ℕ
free_below map n = count (λ b. not (map_bit map b)) n

pub free-blocks : (v : View) → free_blocks v ≡ free_below v.map v.n
unfolding free_blocks free_below
free-blocks v = refl

-- a block is free where its bit is not one
pub free-ones : (map : List ℕ) (n : ℕ) → free_below map n + ones_below map n ≡ n
unfolding free_below
free-ones map n = ones-zeros map n

-- the lowest free block from k on among the next d, or k + d
unfoldable pub next_free : List ℕ → ℕ → ℕ → ℕ
next_free map k zero = k
next_free map k (suc d) = let t : ℕ = next_free map (suc k) d in cond (map_bit map k) t k

-- ---- a search that goes up to n
pub next-end : (map : List ℕ) (k n : ℕ) → n ≤ k → next_free map k (n - k) ≡ k
unfolding next_free
next-end map k n h = let e : n - k ≡ 0 = omega arith in rw e

pub next_here : (map : List ℕ) (k n : ℕ) → k < n → map_bit map k ≡ false → next_free map k (n - k) ≡ k
unfolding next_free
next_here map k n h e = let s : n - k ≡ suc (n - suc k) = omega arith in rw (s, e)

pub next_past : (map : List ℕ) (k n : ℕ) → k < n → map_bit map k ≡ true → next_free map (k + 1) (n - (k + 1)) ≡ next_free map k (n - k)
unfolding next_free
next_past map k n h e = let s : n - k ≡ suc (n - suc k) = omega arith in rw (s, e, add-one)

-- ---- the list of free blocks
-- its head is the next free block, its tail the free blocks after that
pub record Next (map : List ℕ) (k d x : ℕ) (rest : List ℕ) : Type 0 where
  pub next : next_free map k d ≡ x
  pub low : k ≤ x
  pub below : x < k + d
  pub tail : free_from map (suc x) (k + d - suc x) ≡ rest

pub free-next : (map : List ℕ) (k d x : ℕ) (rest : List ℕ) → free_from map k d ≡ x ∷ rest → Next map k d x rest
unfolding free_from next_free
free-next map k zero x rest e = absurd (let z : ◌≡◌ {A = ℕ} 0 1 = cc in omega arith)
free-next map k (suc d) x rest e = by (map_bit map k) refl (free-next map (suc k) d x rest)
  where
    by : (t : Bool) → map_bit map k ≡ t → (free_from map (suc k) d ≡ x ∷ rest → Next map (suc k) d x rest) → Next map k (suc d) x rest
    by true t more =
        let r : Next map (suc k) d x rest = more (rw t at e) in
        let s : k + suc d ≡ suc k + d = omega arith in
        record { next = rw t r.next; low = omega arith; below = omega arith; tail = rw s r.tail }
    by false t more =
        let f : k ∷ free_from map (suc k) d ≡ x ∷ rest = rw t at e in
        let a : k ≡ x = cc in
        let b : free_from map (suc k) d ≡ rest = cc in
        let s : k + suc d - suc x ≡ d = omega arith in
        record { next = rw t a; low = omega arith; below = omega arith; tail = rw (s, ← a) b }

-- where the free blocks from k on are all but the first i, the next one is number i
pub record Turn (map : List ℕ) (n i x : ℕ) : Type 0 where
  pub below : x + 1 ≤ n
  pub rest : free_from map (x + 1) (n - (x + 1)) ≡ drop (i + 1) (free_from map 0 n)
  pub taken : x ≡ get_or (free_from map 0 n) i 0

pub turn : (map : List ℕ) (n i k x : ℕ) → k ≤ n → free_from map k (n - k) ≡ drop i (free_from map 0 n) → i < length (free_from map 0 n) → x ≡ next_free map k (n - k) → Turn map n i x
turn map n i k x h e l r =
    let all : List ℕ = free_from map 0 n in
    let f : Next map k (n - k) (get_or all i 0) (drop (suc i) all) = free-next map k (n - k) (get_or all i 0) (drop (suc i) all) (e ∙ drop-cons all i 0 l) in
    let at : x ≡ get_or all i 0 = r ∙ f.next in
    let s : k + (n - k) ≡ n = omega arith in
    record { below = omega (arith, at, f.below); rest = rw (add-one x, add-one i, at) (rw s at f.tail); taken = at }

-- there are as many as are counted
pub free-length : (map : List ℕ) (n : ℕ) → length (free_from map 0 n) ≡ free_below map n
unfolding free_below
free-length map n = free-below map n
