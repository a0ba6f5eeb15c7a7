-- Whole-block stores: the block stored, and every other block.
use Rattle.std.specs.Prelude.{◌≡◌, refl, ◌≢◌, ℕ, zero, suc, ◌+◌, ◌*◌, ◌≤◌, ◌<◌, List, [], ◌∷◌, ◌++◌, length, get_or}
use Rattle.std.proofs.Common.{sym, ap, ◌∙◌, subst, arith}
use Rattle.std.proofs.lemmas.List.{length-replicate}
use Rattle.lists.specs.Lists.{zeros}
use Rattle.list_laws.specs.Part.{length_part, length-with, part-with, part-with-other, get_or-part, get_or-with-after}
use Rattle.tfs_spec.specs.Layout.{block, set_block}
use Rattle.tfs_spec.specs.Requests.{Store, store, store_all, zero_stores}
use Rattle.tfs_facts.specs.Sizes.{apart-blocks}

-- ---- one store
module _ (B : ℕ) (img : List ℕ) (b : ℕ) (bs : List ℕ) (e : length bs ≡ B) (h : b * B + B ≤ length img) where
  pub length-set_block : length (set_block B img b bs) ≡ length img
  unfolding set_block
  length-set_block = length-with (b * B) B bs img e h

  pub block_same : block B (set_block B img b bs) b ≡ bs
  unfolding set_block block
  block_same = part-with (b * B) B bs img e (omega arith)

  pub block-other : (c : ℕ) → c ≢ b → block B (set_block B img b bs) c ≡ block B img c
  unfolding set_block block
  block-other c d = part-with-other (b * B) B bs img (c * B) B e h (apart-blocks B b c (λ x. d (sym x)))

pub length-block : (B : ℕ) (img : List ℕ) (b : ℕ) → b * B + B ≤ length img → length (block B img b) ≡ B
unfolding block
length-block B img b h = length_part (b * B) B img h

-- a byte of a block
pub byte_at : (B : ℕ) (img : List ℕ) (b r : ℕ) → r < B → get_or img (b * B + r) 0 ≡ get_or (block B img b) r 0
unfolding block
byte_at B img b r h = sym (get_or-part (b * B) B img r h)

-- of a block that is the same in two images
pub block-byte : (B : ℕ) (a c : List ℕ) (b r : ℕ) → r < B → block B a b ≡ block B c b → get_or a (b * B + r) 0 ≡ get_or c (b * B + r) 0
block-byte B a c b r h e = byte_at B a b r h ∙ ap (λ (x : List ℕ). get_or x r 0) e ∙ sym (byte_at B c b r h)

-- ---- stores in order
-- each store is a whole block inside the image
abbrev pub Fits : ℕ → ℕ → List Store → Type 0
Fits B len [] = Unit {0}
Fits B len (x ∷ xs) = (length x.bytes ≡ B) × ((x.at * B + B ≤ len) × Fits B len xs)

-- no store is to block c
abbrev pub Away : ℕ → List Store → Type 0
Away c [] = Unit {0}
Away c (x ∷ xs) = (c ≢ x.at) × Away c xs

module _ (B : ℕ) where
  pub length-store_all : (xs : List Store) (img : List ℕ) → Fits B (length img) xs → length (store_all B img xs) ≡ length img
  length-store_all [] img f = refl
  length-store_all (x ∷ xs) img f =
      let l : length (set_block B img x.at x.bytes) ≡ length img = length-set_block B img x.at x.bytes f.0 f.1.0 in
      length-store_all xs (set_block B img x.at x.bytes) (subst (λ (n : ℕ). Fits B n xs) (sym l) f.1.1) ∙ l

  pub stored-away : (xs : List Store) (img : List ℕ) (c : ℕ) → Fits B (length img) xs → Away c xs → block B (store_all B img xs) c ≡ block B img c
  stored-away [] img c f a = refl
  stored-away (x ∷ xs) img c f a =
      let l : length (set_block B img x.at x.bytes) ≡ length img = length-set_block B img x.at x.bytes f.0 f.1.0 in
      stored-away xs (set_block B img x.at x.bytes) c (subst (λ (n : ℕ). Fits B n xs) (sym l) f.1.1) a.1
      ∙ block-other B img x.at x.bytes f.0 f.1.0 c a.0

  pub stored-first : (x : Store) (xs : List Store) (img : List ℕ) → Fits B (length img) (x ∷ xs) → Away x.at xs → block B (store_all B img (x ∷ xs)) x.at ≡ x.bytes
  stored-first x xs img f a =
      let l : length (set_block B img x.at x.bytes) ≡ length img = length-set_block B img x.at x.bytes f.0 f.1.0 in
      stored-away xs (set_block B img x.at x.bytes) x.at (subst (λ (n : ℕ). Fits B n xs) (sym l) f.1.1) a
      ∙ block_same B img x.at x.bytes f.0 f.1.0

  pub store_all-append : (xs ys : List Store) (img : List ℕ) → store_all B img (xs ++ ys) ≡ store_all B (store_all B img xs) ys
  store_all-append [] ys img = refl
  store_all-append (x ∷ xs) ys img = store_all-append xs ys (set_block B img x.at x.bytes)

  -- ---- zeroed blocks
  pub zero-fits : (bs : List ℕ) (len : ℕ) → ((m : ℕ) → m < length bs → get_or bs m 0 * B + B ≤ len) → Fits B len (zero_stores B bs)
  zero-fits [] len h = tt
  zero-fits (b ∷ bs) len h = (length-replicate B 0, (h 0 (omega arith), zero-fits bs len (λ m l. h (suc m) (omega arith))))

  pub zero-away : (bs : List ℕ) (c : ℕ) → ((m : ℕ) → m < length bs → c ≢ get_or bs m 0) → Away c (zero_stores B bs)
  zero-away [] c h = tt
  zero-away (b ∷ bs) c h = (h 0 (omega arith), zero-away bs c (λ m l. h (suc m) (omega arith)))

  pub zeroed : (bs : List ℕ) (img : List ℕ) → Fits B (length img) (zero_stores B bs) → ((m j : ℕ) → m < j → j < length bs → get_or bs m 0 ≢ get_or bs j 0) → (m : ℕ) → m < length bs → block B (store_all B img (zero_stores B bs)) (get_or bs m 0) ≡ zeros B
  zeroed [] img f d m h = absurd (omega arith)
  zeroed (b ∷ bs) img f d zero h =
      stored-first (store b (zeros B)) (zero_stores B bs) img f (zero-away bs b (λ j l. d 0 (suc j) (omega arith) (omega arith)))
  zeroed (b ∷ bs) img f d (suc m) h =
      let l : length (set_block B img b (zeros B)) ≡ length img = length-set_block B img b (zeros B) f.0 f.1.0 in
      zeroed bs (set_block B img b (zeros B)) (subst (λ (n : ℕ). Fits B n (zero_stores B bs)) (sym l) f.1.1) (λ i j a c. d (suc i) (suc j) (omega arith) (omega arith)) m (omega arith)

-- ---- stores that end at len or before
pub fits-up : (B len more : ℕ) → len ≤ more → (xs : List Store) → Fits B len xs → Fits B more xs
fits-up B len more h [] f = tt
fits-up B len more h (x ∷ xs) f = (f.0, (omega (arith, f.1.0), fits-up B len more h xs f.1.1))

-- keep every byte from len on
pub stored_past : (B len : ℕ) (xs : List Store) (img : List ℕ) (q : ℕ) → Fits B len xs → len ≤ length img → len ≤ q → get_or (store_all B img xs) q 0 ≡ get_or img q 0
unfolding set_block
stored_past B len [] img q f h l = refl
stored_past B len (x ∷ xs) img q f h l =
    let k : x.at * B + B ≤ length img = omega (arith, f.1.0) in
    stored_past B len xs (set_block B img x.at x.bytes) q f.1.1 (omega (arith, length-set_block B img x.at x.bytes f.0 k)) l
    ∙ get_or-with-after (x.at * B) B x.bytes img f.0 k q (omega (arith, f.1.0))

-- a store that no later one touches
pub stored_at : (B : ℕ) (xs : List Store) (x : Store) (ys : List Store) (img : List ℕ) → Fits B (length img) (xs ++ (x ∷ ys)) → Away x.at ys → block B (store_all B img (xs ++ (x ∷ ys))) x.at ≡ x.bytes
stored_at B [] x ys img f a = stored-first B x ys img f a
stored_at B (y ∷ xs) x ys img f a =
    let l : length (set_block B img y.at y.bytes) ≡ length img = length-set_block B img y.at y.bytes f.0 f.1.0 in
    stored_at B xs x ys (set_block B img y.at y.bytes) (subst (λ (n : ℕ). Fits B n (xs ++ (x ∷ ys))) (sym l) f.1.1) a

-- two lists of stores, one after the other
pub fits-append : (B len : ℕ) (xs ys : List Store) → Fits B len xs → Fits B len ys → Fits B len (xs ++ ys)
fits-append B len [] ys f g = g
fits-append B len (x ∷ xs) ys f g = (f.0, (f.1.0, fits-append B len xs ys f.1.1 g))

pub away-append : (c : ℕ) (xs ys : List Store) → Away c xs → Away c ys → Away c (xs ++ ys)
away-append c [] ys f g = g
away-append c (x ∷ xs) ys f g = (f.0, away-append c xs ys f.1 g)
