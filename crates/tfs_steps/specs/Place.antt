-- The stores that place a file, one after another.
use Rattle.std.specs.Prelude.{◌≡◌, get_or, take, drop}
use Rattle.std.proofs.Math.Path.{ap}
use Rattle.std.proofs.Common.{◌∙◌, take_all, arith}
use Prim.Native.Nat.{ℕ, suc, ◌+◌, ◌-◌, ◌*◌, ◌≤◌, ◌<◌}
use mathlib.Core.List.{List, [], ◌∷◌}
use Rattle.std.proofs.Math.ListN.{length}
use Rattle.tfs_spec.specs.Layout.{blocks, block, set_block, set_bits, set_slot, entry, inode_block, view}
use Rattle.tfs_spec.specs.Requests.{store_all, zero_stores, place_stores}
use Rattle.tfs_facts.specs.Stores.{Fits, length-block, length-set_block, block-other, length-store_all, stored-away, store_all-append, zero-fits, zero-away}
use Rattle.tfs_facts.specs.MapBits.{length-set_bits}
use Rattle.tfs_facts.specs.Views.{view-map, view-dir}
use Rattle.tfs_facts.specs.Entries.{length-inode}
use Rattle.tfs_runs.specs.Blank.{AllInside}

-- every block is a content block, has a bit in the map, and lies inside an image of len bytes
abbrev pub Placeable : List ℕ → ℕ → Type 0
Placeable bs len = (i : ℕ) → i < length bs → (3 ≤ get_or bs i 0) × (get_or bs i 0 < 4096) × (get_or bs i 0 * 512 + 512 ≤ len)

-- blocks from 3 on and below N
pub placeable-below : (bs img : List ℕ) → ((i : ℕ) → i < length bs → (3 ≤ get_or bs i 0) × (get_or bs i 0 < blocks 512 img)) → Placeable bs (length img)
unfolding blocks
placeable-below bs img h i l = ((h i l).0, omega (arith, (h i l).1), omega (arith, (h i l).1))

-- the blocks after the first
rest-is : (b : ℕ) (bs : List ℕ) → take (length (b ∷ bs) - 1) bs ≡ bs
rest-is b bs = take_all (length (b ∷ bs) - 1) bs (omega arith)

pub inside-rest : (bs : List ℕ) (len : ℕ) → Placeable bs len → AllInside (take (length bs - 1) (drop 1 bs)) len
inside-rest [] len h = λ i l. absurd (omega arith)
inside-rest (b ∷ bs) len h = rw (rest-is b bs) (λ i l. (h (suc i) (omega arith)).2)

module _ (B : ℕ) (img : List ℕ) (i : ℕ) (bs : List ℕ) (long : 3 * B ≤ length img) (few : 4 * (1 + length bs) ≤ B) where
  abbrev High : ℕ → Type 0
  High b = (3 ≤ b) × (b * B + B ≤ length img)

  module _ (first : High i) (rest : (m : ℕ) → m < length bs → High (get_or bs m 0)) where
    fits : Fits B (length img) (zero_stores B bs)
    fits = zero-fits B bs (length img) (λ m h. (rest m h).1)

    -- content and inode are in blocks from 3 on: a lower block stays
    module _ (z : ℕ) (a b : List ℕ) (p : a ≡ store_all B img (zero_stores B bs)) (q : b ≡ set_block B a i (inode_block B z bs)) where
      length-a : length a ≡ length img
      length-a = ap length p ∙ length-store_all B (zero_stores B bs) img fits

      length-b : length b ≡ length img
      length-b = ap length q ∙ length-set_block B a i (inode_block B z bs) (length-inode B z bs few) (omega (arith, length-a, first.1)) ∙ length-a

      low-kept : (c : ℕ) → c < 3 → block B b c ≡ block B img c
      low-kept c h =
          ap (λ (x : List ℕ). block B x c) q
          ∙ block-other B a i (inode_block B z bs) (length-inode B z bs few) (omega (arith, length-a, first.1)) c (λ e. omega (arith, first.0))
          ∙ ap (λ (x : List ℕ). block B x c) p
          ∙ stored-away B (zero_stores B bs) img c fits (zero-away B bs c (λ m l e. omega (arith, (rest m l).0)))

      stored : (s : ℕ) (nm c d : List ℕ) → c ≡ set_block B b 1 (set_bits (block B b 1) 1 (i ∷ bs)) → d ≡ set_block B c 2 (set_slot (block B c 2) s (entry i nm)) → d ≡ store_all B img (place_stores B (view B img) s nm z (i ∷ bs))
      unfolding place_stores
      stored s nm c d r t =
          let map : List ℕ = set_bits (block B b 1) 1 (i ∷ bs) in
          let low : 1 * B + B ≤ length b = omega (arith, length-b, long) in
          let dir : block B c 2 ≡ block B img 2 =
          ap (λ (x : List ℕ). block B x 2) r
          ∙ block-other B b 1 map (length-set_bits (i ∷ bs) (block B b 1) 1 ∙ length-block B b 1 low) low 2 (λ e. omega arith)
          ∙ low-kept 2 (omega arith)
          in
          rw (store_all-append, view-map, view-dir) (t ∙ rw (dir, r, low-kept 1 (omega arith), q, p))

-- the four steps one after another are the stores of the definition
pub placed : (img a b c d bs nm : List ℕ) (s z : ℕ) → 1536 ≤ length img → 1 ≤ length bs → length bs ≤ 128 → Placeable bs (length img) → a ≡ store_all 512 img (zero_stores 512 (take (length bs - 1) (drop 1 bs))) → b ≡ set_block 512 a (get_or bs 0 0) (inode_block 512 z (take (length bs - 1) (drop 1 bs))) → c ≡ set_block 512 b 1 (set_bits (block 512 b 1) 1 bs) → d ≡ set_block 512 c 2 (set_slot (block 512 c 2) s (entry (get_or bs 0 0) nm)) → d ≡ store_all 512 img (place_stores 512 (view 512 img) s nm z bs)
placed img a b c d [] nm s z long some few h p q r t = absurd (omega arith)
placed img a b c d (i ∷ bs) nm s z long some few h p q r t =
    stored 512 img i bs (omega arith) (omega arith) ((h 0 (omega arith)).0, (h 0 (omega arith)).2) (λ m l. let x = h (suc m) (omega arith) in (x.0, x.2)) z a b
    (p ∙ ap (λ (l : List ℕ). store_all 512 img (zero_stores 512 l)) (rest-is i bs))
    (q ∙ ap (λ (l : List ℕ). set_block 512 a i (inode_block 512 z l)) (rest-is i bs))
    s nm c d r t
