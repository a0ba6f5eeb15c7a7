-- What a passed check says of the parts that the code reads and writes.
use Rattle.std.specs.Prelude.{◌≡◌, length, T}
use Rattle.std.proofs.Math.Path.{sym, ap}
use Rattle.std.proofs.Common.{◌∙◌, subst, ⊎_elim, zero-add, T_not}
use Prim.Native.Nat.{ℕ, zero, suc, ◌+◌, ◌*◌, ◌≤◌, ◌<◌}
use mathlib.Core.List.{List, []}
use native.Mathlib.Omega.{arith}
use Rattle.std.proofs.Math.ListN.{get_or}
use Rattle.list_laws.specs.Test.{cond_no}
use Rattle.lists.specs.Lists.{table}
use Rattle.list_laws.specs.Table.{length-table, get_or-table}
use Rattle.tfs_spec.specs.Layout.{need, blocks, block, slot, inode_size, inode_number, View, view, free, used, inode, name, size, number, place}
use Rattle.tfs_spec.specs.Check.{consistent, check, file_claims}
use Rattle.tfs_spec.specs.Consistent.{File, Consistent}
use Rattle.tfs_spec.specs.Consistent as rules
use Rattle.tfs_facts.specs.CheckMeans.{check-means, used-inode, need-le}
use Rattle.tfs_facts.specs.Slots.{used-named, used-short}
use Rattle.tfs_facts.specs.Sizes.{in_image, size-512}
use Rattle.tfs_facts.specs.Views.{view-n, inode-block}
use Rattle.tfs_map.specs.Under.{Under}
use Rattle.tfs_inode.specs.Claims.{claim_list, file-claims}
use Rattle.tfs_runs.specs.Place.{at, Small, Inside, at_place}

module _ (img : List ℕ) (passed : check 512 img ≡ consistent) where
  abbrev v : View
  v = view 512 img

  ok : Consistent 512 img
  ok = (check-means 512 size-512 img).0 passed

  pub long : 1536 ≤ length img
  long = ok.long

  blocks-high : blocks 512 img ≤ 4096
  unfolding blocks
  blocks-high = omega arith

  -- ---- the file in slot s
  module _ (s : ℕ) (f : File 512 v s) where
    stands : T (used v s)
    stands = ⊎_elim (λ t. absurd (T_not (free v s) f.taken t)) (λ t. t) (ok.sound.formed s f.slot)

    pub inode-inside : rules.Inside v (inode v s)
    inode-inside = used-inode v s stands

    -- its name has 1 to 15 bytes
    pub name-sized : (1 ≤ length (name v s)) × (length (name v s) ≤ 15)
    unfolding name used
    name-sized = (used-named (slot v.dir s) v.n stands, omega (arith, used-short (slot v.dir s) v.n stands))

    abbrev b : ℕ
    b = inode v s

    abbrev ino : List ℕ
    ino = block 512 img b

    below : inode v s < blocks 512 img
    below = subst (λ (n : ℕ). inode v s < n) (view-n 512 img) inode-inside.high

    inode-small : inode v s < 4096
    inode-small = omega (arith, below, blocks-high)

    inode-in : inode v s * 512 + 512 ≤ length img
    inode-in = in_image 512 (inode v s) img below

    ino-is : get_or v.inodes s [] ≡ block 512 img (inode v s)
    ino-is = inode-block 512 img s f.slot inode-inside

    size_is : size v s ≡ inode_size (block 512 img (inode v s))
    unfolding size
    size_is = ap inode_size ino-is

    pub size_small : size v s ≤ 65024
    size_small = ok.sound.small s f

    need-few : need 512 (inode_size (block 512 img (inode v s))) ≤ 127
    need-few = need-le 512 (inode_size (block 512 img (inode v s))) 127 (omega arith) (omega (arith, size_is, size_small))

    -- the same of the block that the code has as the inode, and of the size that it reads there
    pub file-ready : (b : ℕ) → b ≡ inode v s → (b * 512 + 512 ≤ length img) × (b < 4096) × (need 512 (inode_size (block 512 img b)) ≤ 127)
    file-ready b e = rw e (inode-in, inode-small, need-few)

    pub sized : (b z : ℕ) → b ≡ inode v s → z ≡ inode_size (block 512 img b) → z ≡ size v s
    sized b z e ez = ez ∙ ap (λ (x : ℕ). inode_size (block 512 img x)) e ∙ sym size_is

    pub claims-are : file_claims 512 v s ≡ claim_list (inode v s) (block 512 img (inode v s))
    claims-are =
        file-claims v s
        ∙ cond_no {X = List ℕ} (free v s) [] (claim_list (inode v s) (get_or v.inodes s [])) f.taken
        ∙ ap (claim_list (inode v s)) ino-is

    -- number k of the inode
    pub number_is : (k : ℕ) → number v s k ≡ inode_number (block 512 img (inode v s)) k
    unfolding number
    number_is k = ap (λ (x : List ℕ). inode_number x k) ino-is

    needed : need 512 (size v s) ≡ need 512 (inode_size (block 512 img (inode v s)))
    needed = ap (need 512) size_is

    -- a block that one of its bytes lies in
    number-below : (k : ℕ) → k * 512 < size v s → inode_number (block 512 img (inode v s)) k < blocks 512 img
    unfolding need
    number-below k h = omega (arith, (ok.sound.inside s k f (omega arith)).high, view-n 512 img, number_is k)

    pub content-small : (e : ℕ) → e ≤ size v s → Small (block 512 img (inode v s)) e
    content-small e h k l = omega (arith, number-below k (omega arith), blocks-high)

    pub content-inside : (e : ℕ) → e ≤ size v s → Inside (block 512 img (inode v s)) e (length img)
    content-inside e h k l = in_image 512 (inode_number ino k) img (number-below k (omega arith))

    -- its bytes lie where its inode says
    pub place_is : at (block 512 img (inode v s)) ≡ place 512 v s
    place_is = ap at (sym ino-is) ∙ at_place v s

    pub claims-under : Under 4096 (claim_list (inode v s) (block 512 img (inode v s)))
    unfolding claim_list
    claims-under zero h = inode-small
    claims-under (suc i) h =
        let l : i < need 512 (inode_size ino) = omega (arith, length-table (inode_number ino) 0 (need 512 (inode_size ino))) in
        let k : i < need 512 (size v s) = omega (arith, needed) in
        let c : rules.Inside v (number v s i) = ok.sound.inside s i f k in
        let e : get_or (table (inode_number ino) 0 (need 512 (inode_size ino))) i 0 ≡ number v s i =
        get_or-table (inode_number ino) 0 (need 512 (inode_size ino)) i 0 l ∙ ap (inode_number ino) (zero-add i) ∙ sym (number_is i)
        in
        omega (arith, c.high, view-n 512 img, blocks-high)
