-- The blocks of a file: its inode's own, and those that the inode lists.
use Rattle.std.specs.Prelude.{◌≡◌, ℕ, zero, suc, ◌+◌, ◌<◌, ◌≤◌, false, cond, List, [], ◌∷◌, ◌++◌, length, drop, slice_index, slice_index_or, slice_set, refl}
use Rattle.std.proofs.Common.{ap, ◌∙◌, add-one, arith, drop-cons, drop-set-lt}
use Rattle.std.proofs.Math.Seq.{append_snoc}
use Rattle.std.proofs.lemmas.List.{set_at}
use Rattle.lists.specs.Lists.{table}
use Rattle.list_laws.specs.Table.{length-table, get_or-table, table_more}
use Rattle.tfs_spec.specs.Layout.{need, inode_size, inode_number, View, free, inode, size, number}
use Rattle.tfs_spec.specs.Check.{file_claims}
use Rattle.tfs_inode.specs.Wrong.{inode_wrong, right-number}

-- the inode's own block and the content blocks
unfoldable pub claim_list : ℕ → List ℕ → List ℕ
claim_list b ino = b ∷ table (inode_number ino) 0 (need 512 (inode_size ino))

pub file-claims : (v : View) (s : ℕ) → file_claims 512 v s ≡ cond (free v s) [] (claim_list (inode v s) (slice_index_or v.inodes s []))
unfolding file_claims claim_list size number
file-claims v s = refl

pub length-claims : (b : ℕ) (ino : List ℕ) → length (claim_list b ino) ≡ 1 + need 512 (inode_size ino)
unfolding claim_list
length-claims b ino = omega (arith, length-table (inode_number ino) 0 (need 512 (inode_size ino)))

-- the blocks of an inode that is not wrong
abbrev pub Within : ℕ → List ℕ → Type 0
Within n l = (i : ℕ) → i < length l → (3 ≤ slice_index l i) × (slice_index l i < n)

pub claims-within : (n b : ℕ) (ino : List ℕ) → 3 ≤ b → b < n → inode_wrong 512 n ino ≡ false → Within n (claim_list b ino)
unfolding claim_list
claims-within n b ino low high right zero l = (low, high)
claims-within n b ino low high right (suc i) l =
    let asked : i < need 512 (inode_size ino) = omega (arith, length-table (inode_number ino) 0 (need 512 (inode_size ino))) in
    let z : 0 + i ≡ i = omega arith in
    rw (get_or-table (inode_number ino) 0 (need 512 (inode_size ino)) i 0 asked, z) (right-number n ino right i asked)

-- ---- one number more to the front of a list
-- the first k numbers after the inode's own block
unfoldable pub claimed : ℕ → List ℕ → ℕ → List ℕ
claimed b ino k = b ∷ table (inode_number ino) 0 k

length-claimed : (b : ℕ) (ino : List ℕ) (k : ℕ) → length (claimed b ino k) ≡ 1 + k
unfolding claimed
length-claimed b ino k = omega (arith, length-table (inode_number ino) 0 k)

claimed-next : (b : ℕ) (ino : List ℕ) (k : ℕ) → claimed b ino (k + 1) ≡ claimed b ino k ++ (inode_number ino k ∷ [])
unfolding claimed
claimed-next b ino k =
    let z : 0 + k ≡ k = omega arith in
    ap (λ (n : ℕ). b ∷ table (inode_number ino) 0 n) (add-one k)
    ∙ ap (λ (l : List ℕ). b ∷ l) (table_more (inode_number ino) 0 k)
    ∙ ap (λ (n : ℕ). b ∷ (table (inode_number ino) 0 k ++ (inode_number ino n ∷ []))) z

pub claimed-none : (b : ℕ) (ino d : List ℕ) → 0 < length d → slice_set d 0 b ≡ claimed b ino 0 ++ drop 1 (slice_set d 0 b)
unfolding claimed
claimed-none b ino [] h = absurd (omega arith)
claimed-none b ino (x ∷ d) h = refl

pub claimed-more : (b : ℕ) (ino d : List ℕ) (k : ℕ) → 1 + k < length d → slice_set (claimed b ino k ++ drop (1 + k) d) (1 + k) (inode_number ino k) ≡ claimed b ino (k + 1) ++ drop (1 + (k + 1)) d
claimed-more b ino d k h =
    let t : 1 + (k + 1) ≡ suc (1 + k) = omega arith in
    rw (t, claimed-next b ino k, drop-cons d (1 + k) 0 h, append_snoc)
    (set_at (claimed b ino k) (slice_index d (1 + k)) (drop (suc (1 + k)) d) (inode_number ino k) (1 + k) (length-claimed b ino k))

pub claimed-all : (b : ℕ) (ino d : List ℕ) (k : ℕ) → k ≡ need 512 (inode_size ino) → claimed b ino k ++ drop (1 + k) (slice_set d 0 b) ≡ claim_list b ino ++ drop (1 + need 512 (inode_size ino)) d
unfolding claimed claim_list
claimed-all b ino d k e =
    ap (λ (l : List ℕ). claimed b ino k ++ l) (drop-set-lt (1 + k) d 0 b (omega arith))
    ∙ ap (λ (n : ℕ). claimed b ino n ++ drop (1 + n) d) e
