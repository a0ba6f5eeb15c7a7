-- The first j of a list of stores to different blocks: these blocks are new, the others old, and no other byte has changed.
use Rattle.std.specs.Prelude.{◌≡◌, refl, ◌≢◌, ℕ, zero, suc, ◌+◌, ◌*◌, ◌≤◌, ◌<◌, List, [], ◌∷◌, ◌++◌, length, get_or, take}
use Rattle.std.proofs.Common.{sym, ◌∙◌, subst, arith}
use Rattle.tfs_spec.specs.Layout.{block, set_block}
use Rattle.tfs_spec.specs.Requests.{Store, store, store_all}
use Rattle.tfs_facts.specs.Stores.{Fits, Away, length-set_block, block-other, length-store_all, stored-away, stored-first}

-- no two stores to one block
abbrev pub Apart : List Store → Type 0
Apart [] = Unit {0}
Apart (x ∷ xs) = Away x.at xs × Apart xs

abbrev pub nth : List Store → ℕ → Store
nth xs i = get_or xs i (store 0 [])

fits-take : (B len : ℕ) (xs : List Store) (j : ℕ) → Fits B len xs → Fits B len (take j xs)
fits-take B len [] zero f = tt
fits-take B len [] (suc j) f = tt
fits-take B len (x ∷ xs) zero f = tt
fits-take B len (x ∷ xs) (suc j) f = (f.0, (f.1.0, fits-take B len xs j f.1.1))

pub away-take : (c : ℕ) (xs : List Store) (j : ℕ) → Away c xs → Away c (take j xs)
away-take c [] zero a = tt
away-take c [] (suc j) a = tt
away-take c (x ∷ xs) zero a = tt
away-take c (x ∷ xs) (suc j) a = (a.0, away-take c xs j a.1)

away-nth : (c : ℕ) (xs : List Store) (i : ℕ) → Away c xs → i < length xs → c ≢ (nth xs i).at
away-nth c [] i a h = absurd (omega arith)
away-nth c (x ∷ xs) zero a h = a.0
away-nth c (x ∷ xs) (suc i) a h = away-nth c xs i a.1 (omega arith)

pub away-all : (c : ℕ) (xs : List Store) → ((i : ℕ) → i < length xs → c ≢ (nth xs i).at) → Away c xs
away-all c [] h = tt
away-all c (x ∷ xs) h = (h 0 (omega arith), away-all c xs (λ i l. h (suc i) (omega arith)))

pub apart-all : (xs : List Store) → ((i k : ℕ) → i < k → k < length xs → (nth xs i).at ≢ (nth xs k).at) → Apart xs
apart-all [] h = tt
apart-all (x ∷ xs) h =
    (away-all x.at xs (λ i l. h 0 (suc i) (omega arith) (omega arith)), apart-all xs (λ i k l m. h (suc i) (suc k) (omega arith) (omega arith)))

pub fits_all : (B len : ℕ) (xs : List Store) → ((i : ℕ) → i < length xs → (length (nth xs i).bytes ≡ B) × ((nth xs i).at * B + B ≤ len)) → Fits B len xs
fits_all B len [] h = tt
fits_all B len (x ∷ xs) h = ((h 0 (omega arith)).0, ((h 0 (omega arith)).1, fits_all B len xs (λ i l. h (suc i) (omega arith))))

pub apart-nth : (xs : List Store) → Apart xs → (i k : ℕ) → i < k → k < length xs → (nth xs i).at ≢ (nth xs k).at
apart-nth [] a i k l h = absurd (omega arith)
apart-nth (x ∷ xs) a zero zero l h = absurd (omega arith)
apart-nth (x ∷ xs) a zero (suc k) l h = away-nth x.at xs k a.0 (omega arith)
apart-nth (x ∷ xs) a (suc i) zero l h = absurd (omega arith)
apart-nth (x ∷ xs) a (suc i) (suc k) l h = apart-nth xs a.1 i k (omega arith) (omega arith)

fits-nth : (B len : ℕ) (xs : List Store) → Fits B len xs → (i : ℕ) → i < length xs → (nth xs i).at * B + B ≤ len
fits-nth B len [] f i h = absurd (omega arith)
fits-nth B len (x ∷ xs) f zero h = f.1.0
fits-nth B len (x ∷ xs) f (suc i) h = fits-nth B len xs f.1.1 i (omega arith)

pub apart-append : (xs ys : List Store) → Apart xs → Apart ys → ((i : ℕ) → i < length xs → Away (nth xs i).at ys) → Apart (xs ++ ys)
apart-append [] ys a b h = b
apart-append (x ∷ xs) ys a b h =
    (Rattle.tfs_facts.specs.Stores.away-append x.at xs ys a.0 (h 0 (omega arith)), apart-append xs ys a.1 b (λ i l. h (suc i) (omega arith)))

module _ (B : ℕ) where
  -- store i, from 0
  pub prefix-new : (xs : List Store) (img : List ℕ) (j i : ℕ) → Fits B (length img) xs → Apart xs → i < j → i < length xs → block B (store_all B img (take j xs)) (nth xs i).at ≡ (nth xs i).bytes
  prefix-new [] img j i f a l h = absurd (omega arith)
  prefix-new (x ∷ xs) img zero i f a l h = absurd (omega arith)
  prefix-new (x ∷ xs) img (suc j) zero f a l h =
      stored-first B x (take j xs) img (f.0, (f.1.0, fits-take B (length img) xs j f.1.1)) (away-take x.at xs j a.0)
  prefix-new (x ∷ xs) img (suc j) (suc i) f a l h =
      let e : length (set_block B img x.at x.bytes) ≡ length img = length-set_block B img x.at x.bytes f.0 f.1.0 in
      prefix-new xs (set_block B img x.at x.bytes) j i (subst (λ (n : ℕ). Fits B n xs) (sym e) f.1.1) a.1 (omega arith) (omega arith)

  pub prefix-old : (xs : List Store) (img : List ℕ) (j i : ℕ) → Fits B (length img) xs → Apart xs → j ≤ i → i < length xs → block B (store_all B img (take j xs)) (nth xs i).at ≡ block B img (nth xs i).at
  prefix-old [] img j i f a l h = absurd (omega arith)
  prefix-old (x ∷ xs) img zero i f a l h = refl
  prefix-old (x ∷ xs) img (suc j) zero f a l h = absurd (omega arith)
  prefix-old (x ∷ xs) img (suc j) (suc i) f a l h =
      let e : length (set_block B img x.at x.bytes) ≡ length img = length-set_block B img x.at x.bytes f.0 f.1.0 in
      prefix-old xs (set_block B img x.at x.bytes) j i (subst (λ (n : ℕ). Fits B n xs) (sym e) f.1.1) a.1 (omega arith) (omega arith)
      ∙ block-other B img x.at x.bytes f.0 f.1.0 (nth xs i).at (λ q. away-nth x.at xs i a.0 (omega arith) (sym q))

  pub prefix-away : (xs : List Store) (img : List ℕ) (j c : ℕ) → Fits B (length img) xs → Away c (take j xs) → block B (store_all B img (take j xs)) c ≡ block B img c
  prefix-away xs img j c f a = stored-away B (take j xs) img c (fits-take B (length img) xs j f) a

  pub prefix-long : (xs : List Store) (img : List ℕ) (j : ℕ) → Fits B (length img) xs → length (store_all B img (take j xs)) ≡ length img
  prefix-long xs img j f = length-store_all B (take j xs) img (fits-take B (length img) xs j f)
