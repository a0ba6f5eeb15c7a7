-- The bytes of slots in two directories.
use Rattle.std.specs.Prelude.{◌≡◌, ◌≢◌, ◌⊎◌, ℕ, ◌+◌, ◌*◌, ◌≤◌, ◌<◌, List, length, get_or}
use Rattle.std.proofs.Common.{sym, ap, ◌∙◌, inl, inr, ⊎_elim, arith}
use Rattle.list_laws.specs.Part.{get_or-part, part_ext}
use Rattle.tfs_spec.specs.Layout.{slots, block, slot, slot_inode, name_field, slot_name, view, view_n, inode, name}
use Rattle.tfs_spec.specs.Consistent.{slot_at}
use Rattle.tfs_spec.specs.Effects.{SameSlot}
use Rattle.tfs_facts.specs.Sizes.{apart-blocks}
use Rattle.tfs_facts.specs.Stores.{length-block, byte_at}
use Rattle.tfs_proofs.specs.Removes.{low-inside}

-- byte j of slot s
pub slot-byte : (B : ℕ) (img : List ℕ) (s j : ℕ) → s < slots B → j < 20 → get_or (slot (block B img 2) s) j 0 ≡ get_or img (slot_at B s + j) 0
unfolding slot
slot-byte B img s j low h =
    get_or-part (s * 20) 20 (block B img 2) j h ∙ sym (byte_at B img 2 (s * 20 + j) (omega arith)) ∙ ap (λ (q : ℕ). get_or img q 0) (omega arith)

-- name byte i of slot s
pub field-byte : (B : ℕ) (img : List ℕ) (s i : ℕ) → s < slots B → i < 16 → get_or (name_field (slot (block B img 2) s)) i 0 ≡ get_or img (slot_at B s + 4 + i) 0
field-byte B img s i low h =
    get_or-part 4 16 (slot (block B img 2) s) i h ∙ slot-byte B img s (4 + i) low (omega arith) ∙ ap (λ (q : ℕ). get_or img q 0) (omega arith)

-- slots of which each byte is the same
pub slot-ext : (t : ℕ) (x y : List ℕ) → length x ≡ length y → ((i : ℕ) → i < 20 → get_or x (t * 20 + i) 0 ≡ get_or y (t * 20 + i) 0) → slot x t ≡ slot y t
unfolding slot
slot-ext t x y l h = part_ext (t * 20) 20 x y l h

-- all but slot s is as before
pub slot_kept : (s t : ℕ) (x y : List ℕ) → length x ≡ length y → t ≢ s → ((i : ℕ) → (i < s * 20) ⊎ (s * 20 + 20 ≤ i) → get_or x i 0 ≡ get_or y i 0) → slot x t ≡ slot y t
slot_kept s t x y l d h =
    slot-ext t x y l
    (λ i k. h (t * 20 + i) (⊎_elim (λ e. inl (omega arith)) (λ e. inr (omega arith)) (apart-blocks 20 s t (λ e. d (sym e)))))

-- an image that a request leaves has a directory as long as before
pub dir-long : (B : ℕ) (x y : List ℕ) → 3 * B ≤ length y → length x ≡ length y → length (block B x 2) ≡ length (block B y 2)
dir-long B x y h l =
    length-block B x 2 (low-inside B x (omega arith) 2 (omega arith)) ∙ sym (length-block B y 2 (low-inside B y h 2 (omega arith)))

-- slots with the same bytes have one inode number and one name
pub same-slot : (B : ℕ) (x y : List ℕ) (t : ℕ) → slot (block B x 2) t ≡ slot (block B y 2) t → SameSlot B x y t
unfolding inode name view view_n
same-slot B x y t e = (ap slot_inode e, ap slot_name e)
