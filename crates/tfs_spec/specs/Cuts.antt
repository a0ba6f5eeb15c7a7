-- Power taken in the middle: what the stores of create, remove and write are, what mend does, and what a cut behind any store leaves.
use Rattle.std.specs.Prelude.{◌≡◌, ◌≢◌, ◌⊎◌, false, cond, ℕ, ◌+◌, ◌-◌, ◌*◌, ◌/◌, ◌≤◌, ◌<◌, List, [], ◌∷◌, ◌++◌, length, get_or, take, drop, T, ltb, eqb}
use Rattle.lists.specs.Lists.{zeros}
use Rattle.tfs_spec.specs.Layout.{need, blocks, block, map_bit, view, contents}
use Rattle.tfs_spec.specs.Check.{consistent, broken, check}
use Rattle.tfs_spec.specs.Consistent.{Consistent, Stray, OnlyStrays}
use Rattle.tfs_spec.specs.Requests.{done, value, granted, store, store_all, create, Change, creates, removes, writes, perform, stores_of, kth, fetch, cut, mend, changes, Operation, requests, after_all}
use Rattle.tfs_spec.specs.Answers.{store_count}

-- names, sizes and contents are the same in two images
abbrev pub SameFiles : ℕ → List ℕ → List ℕ → Type 0
SameFiles B a b = (nm : List ℕ) → contents B a nm ≡ contents B b nm

-- ---- the stores of a granted create, remove or write of a consistent volume, and what a cut behind the first j of them leaves
pub record StoreLaws (B : ℕ) (img : List ℕ) (c : Change) : Type 0 where
  -- "All stores together equal the old request"
  pub all : store_all B img (stores_of B img c) ≡ (perform B img c).image
  -- so many as the table of answers says, each to a block of the volume, no block twice
  pub number : length (stores_of B img c) ≡ store_count B c (perform B img c).answer
  pub inside : (k : ℕ) → 1 ≤ k → k ≤ length (stores_of B img c) → (kth k (stores_of B img c)).at < blocks B img
  pub once : (i k : ℕ) → 1 ≤ i → i < k → k ≤ length (stores_of B img c) → (kth i (stores_of B img c)).at ≢ (kth k (stores_of B img c)).at
  -- each a whole block, as it is after the whole request, also where nothing in it changes
  pub full : (k : ℕ) → 1 ≤ k → k ≤ length (stores_of B img c) → length (kth k (stores_of B img c)).bytes ≡ B
  pub bytes : (k : ℕ) → 1 ≤ k → k ≤ length (stores_of B img c) → (kth k (stores_of B img c)).bytes ≡ block B (perform B img c).image (kth k (stores_of B img c)).at
  -- and each is what the caller fetches: "its block number, and its bytes into the start of a lent buffer. The image stays"
  pub fetched : (k : ℕ) (buf : List ℕ) → 1 ≤ k → k ≤ length (stores_of B img c) → B ≤ length buf → fetch B img c k buf ≡ record { answer = value (kth k (stores_of B img c)).at; image = img; buffer = (kth k (stores_of B img c)).bytes ++ drop B buf }
  -- after a cut each stored block is wholly new, each other of them wholly old, and no other byte has changed
  pub new : (j k : ℕ) → 1 ≤ k → k ≤ j → k ≤ length (stores_of B img c) → block B (cut B img c j) (kth k (stores_of B img c)).at ≡ block B (perform B img c).image (kth k (stores_of B img c)).at
  pub old : (j k : ℕ) → j < k → k ≤ length (stores_of B img c) → block B (cut B img c j) (kth k (stores_of B img c)).at ≡ block B img (kth k (stores_of B img c)).at
  pub others : (j q : ℕ) → ((k : ℕ) → 1 ≤ k → k ≤ length (stores_of B img c) → q / B ≢ (kth k (stores_of B img c)).at) → get_or (cut B img c j) q 0 ≡ get_or img q 0
  pub long : (j : ℕ) → length (cut B img c j) ≡ length img

-- ---- mend, of every image, consistent or not
pub record MendLaws (B : ℕ) (img : List ℕ) : Type 0 where
  -- granted, it "clears exactly such bits", and leaves a consistent volume
  pub cleared : T (granted (mend B img).answer) → (b : ℕ) → Stray B (view B img) b → map_bit (block B (mend B img).image 1) b ≡ false
  pub bits : (b : ℕ) → (Stray B (view B img) b → ⊥) → map_bit (block B (mend B img).image 1) b ≡ map_bit (block B img 1) b
  pub consistent : T (granted (mend B img).answer) → Consistent B (mend B img).image
  -- no byte outside the map, and with it no name, size or content, is changed
  pub bytes : (q : ℕ) → (q < B) ⊎ (2 * B ≤ q) → get_or (mend B img).image q 0 ≡ get_or img q 0
  pub files : SameFiles B (mend B img).image img
  pub long : length (mend B img).image ≡ length img
  -- a consistent volume is granted and kept as it is; mend twice is mend once
  pub sound : Consistent B img → mend B img ≡ record { answer = done; image = img; buffer = [] }
  pub again : mend B (mend B img).image ≡ mend B img

-- ---- cuts
-- new, left by a cut, has the files of old, and mend makes it consistent
pub record Leaves (B : ℕ) (new old : List ℕ) : Type 0 where
  -- "the old or the new names, sizes and contents, and a check answering 0, or 7 with only set bits that nobody claims"
  pub files : SameFiles B new old
  pub verdict : (check B new ≡ consistent) ⊎ ((p : ℕ) × (check B new ≡ broken 7 p))
  pub strays : OnlyStrays B new
  -- mend is granted and leaves the names, sizes and contents of old, and all else that requests look at: N, blocks 0 to 2 and the inodes
  pub mends : (mend B new).answer ≡ done
  pub mended : Consistent B (mend B new).image
  pub mended-files : SameFiles B (mend B new).image old
  pub mended-view : view B (mend B new).image ≡ view B old

-- what a request comes to that is cut behind j stores: a create counts from its last store on, a remove from its first; a write puts the bytes of the blocks that are stored
abbrev pub reached : ℕ → Change → ℕ → List Operation
reached B (creates nm z) j = cond (ltb j (need B z + 3)) [] (requests (changes (creates nm z)) ∷ [])
reached B (removes nm) j = cond (eqb j 0) [] (requests (changes (removes nm)) ∷ [])
reached B (writes nm o bs) j = requests (changes (writes nm o (take ((o / B + j) * B - o) bs))) ∷ []

-- of a consistent volume
pub record CutLaws (B : ℕ) (img : List ℕ) : Type 0 where
  -- "a cut after any number of them": behind j stores of c, which comes after the requests xs; between two requests j is 0
  pub leaves : (xs : List Operation) (c : Change) (j : ℕ) → Leaves B (cut B (after_all B img xs) c j) (after_all B img (xs ++ reached B c j))
  -- "all content blocks wholly zero": so a create stores them
  pub blank : (nm : List ℕ) (z k : ℕ) → T (granted (create B img nm z).answer) → 1 ≤ k → k ≤ need B z → (kth k (stores_of B img (creates nm z))).bytes ≡ zeros B
  -- a write of up to a block into a file just created has one store: its bytes, and zeros behind them, to the block that the create stores first
  pub filled : (nm : List ℕ) (z : ℕ) (bs : List ℕ) → T (granted (create B img nm z).answer) → 1 ≤ length bs → length bs ≤ z → length bs ≤ B → stores_of B (create B img nm z).image (writes nm 0 bs) ≡ store (kth 1 (stores_of B img (creates nm z))).at (bs ++ zeros (B - length bs)) ∷ []
  -- "for write .. the check still 0": a cut write is a shorter write
  pub shorter : (xs : List Operation) (nm : List ℕ) (o : ℕ) (bs : List ℕ) (j : ℕ) → cut B (after_all B img xs) (writes nm o bs) j ≡ after_all B img (xs ++ reached B (writes nm o bs) j)
  pub still : (xs : List Operation) (nm : List ℕ) (o : ℕ) (bs : List ℕ) (j : ℕ) → check B (cut B (after_all B img xs) (writes nm o bs) j) ≡ consistent
