-- The stores that erase a file.
use Rattle.std.specs.Prelude.{◌≡◌, refl, ℕ, ◌+◌, ◌*◌, ◌≤◌, ◌<◌, List, [], ◌∷◌, length}
use Rattle.std.proofs.Common.{ap, ◌∙◌, arith}
use Rattle.lists.specs.Lists.{zeros}
use Rattle.tfs_spec.specs.Layout.{slots, block, set_block, set_bits, set_slot, view, slot_of}
use Rattle.tfs_spec.specs.Check.{file_claims}
use Rattle.tfs_spec.specs.Requests.{Store, store, store_all, remove_stores}
use Rattle.tfs_facts.specs.Views.{view-map, view-dir}
use Rattle.tfs_facts.specs.Stores.{length-block, block-other}
use Rattle.tfs_facts.specs.Names.{length-set_slot}

-- the directory with slot s free, then the map with the blocks free
unfoldable pub erase_stores : ℕ → List ℕ → ℕ → List ℕ → List Store
erase_stores B img s bs =
    store 2 (set_slot (block B img 2) s (zeros 20))
    ∷ store 1 (set_bits (block B img 1) 0 bs)
    ∷ []

-- remove's stores
pub erase-removes : (B : ℕ) (img nm : List ℕ) → erase_stores B img (slot_of B (view B img) nm) (file_claims B (view B img) (slot_of B (view B img) nm)) ≡ remove_stores B (view B img) nm
unfolding erase_stores remove_stores
erase-removes B img nm = rw (view-dir, view-map)

-- the map is written from the image in which the slot is free: block 1 is still the old one
pub erased : (B : ℕ) (img a c : List ℕ) (s : ℕ) (bs : List ℕ) → 3 * B ≤ length img → s < slots B → a ≡ set_block B img 2 (set_slot (block B img 2) s (zeros 20)) → c ≡ set_block B a 1 (set_bits (block B a 1) 0 bs) → c ≡ store_all B img (erase_stores B img s bs)
unfolding erase_stores
erased B img a c s bs h l p q =
    let inside : 2 * B + B ≤ length img = omega arith in
    let dir : List ℕ = set_slot (block B img 2) s (zeros 20) in
    let long : length dir ≡ B = length-set_slot B (block B img 2) s (zeros 20) (length-block B img 2 inside) l refl in
    let old : block B a 1 ≡ block B img 1 = ap (λ (x : List ℕ). block B x 1) p ∙ block-other B img 2 dir long inside 1 (λ e. omega arith) in
    q ∙ ap (λ (m : List ℕ). set_block B a 1 (set_bits m 0 bs)) old ∙ ap (λ (x : List ℕ). set_block B x 1 (set_bits (block B img 1) 0 bs)) p
