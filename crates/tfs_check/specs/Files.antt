-- The files of a volume whose slots are formed: where their inodes lie.
use Rattle.std.specs.Prelude.{◌≡◌, refl, Bool, true, false, not, cond, ◌&&◌, ◌||◌, List, [], length, get_or, leb, ltb, eqb}
use Rattle.std.proofs.Common.{sym, ap, ap₂, ◌∙◌, arith, eq-eqb, ne_eqb}
use Prim.Native.Nat.{ℕ, ◌+◌, ◌*◌, ◌≤◌, ◌<◌}
use Rattle.std.proofs.Math.Dec.{T, leb→le, ltb→lt}
use Rattle.list_laws.specs.Test.{of-true, no_false, and_l, and_r}
use Rattle.lists.specs.Lists.{least}
use Rattle.list_laws.specs.Least.{least-none}
use Rattle.tfs_spec.specs.Layout.{blocks, block, slot, slot_inode, slot_used, in_range, name_formed, name_field, View, view, free, used, inode}
use Rattle.tfs_spec.specs.Check.{repeats, bad_slot, bad_inode, file_claims}
use Rattle.tfs_spec.specs.Consistent.{Inside}
use Rattle.tfs_facts.specs.Sizes.{in_image}
use Rattle.tfs_facts.specs.Views.{view-n, inode-block, free-inode}
use Rattle.tfs_inode.specs.Claims.{claim_list, file-claims}
use Rattle.tfs_inode.specs.Wrong.{inode_wrong, bad-inode}

-- rules 1 and 4 hold
pub record Formed (img : List ℕ) : Type 0 where
  pub long : 1536 ≤ length img
  pub slots : least (bad_slot (view 512 img)) 25 ≡ 25

-- and rule 5
pub record Sized (img : List ℕ) : Type 0 where
  pub long : 1536 ≤ length img
  pub slots : least (bad_slot (view 512 img)) 25 ≡ 25
  pub inodes : least (bad_inode 512 (view 512 img)) 25 ≡ 25

pub blocks-le : (img : List ℕ) → blocks 512 img ≤ 4096
unfolding blocks
blocks-le img = omega arith

pub blocks-ge : (img : List ℕ) → 1536 ≤ length img → 3 ≤ blocks 512 img
unfolding blocks
blocks-ge img h = omega arith

-- ---- a slot that is not bad, and not free
used-of : (f u r : Bool) → (not f && (not u || r)) ≡ false → f ≡ false → u ≡ true
used-of true u r e z = cc
used-of false true r e z = refl
used-of false false r e z = sym e

module _ (v : View) (s : ℕ) (fine : bad_slot v s ≡ false) (taken : free v s ≡ false) where
  pub slot-inside : Inside v (inode v s)
  unfolding bad_slot used slot_used inode
  slot-inside =
      let i : ℕ = slot_inode (slot v.dir s) in
      let u : T (used v s) = of-true (used v s) (used-of (free v s) (used v s) (repeats v s) fine taken) in
      let r : T (in_range v.n i) = and_l (in_range v.n i) (name_formed (name_field (slot v.dir s))) u in
      record { low = leb→le 3 i (and_l (leb 3 i) (ltb i v.n) r); high = ltb→lt i v.n (and_r (leb 3 i) (ltb i v.n) r) }

module _ (img : List ℕ) (s : ℕ) (below : s < 25) (none : least (bad_slot (view 512 img)) 25 ≡ 25) (taken : free (view 512 img) s ≡ false) where
  inside : Inside (view 512 img) (inode (view 512 img) s)
  inside = slot-inside (view 512 img) s (no_false (bad_slot (view 512 img) s) (least-none (bad_slot (view 512 img)) 25 (omega arith) s below)) taken

  -- the inode's number, and its block in the image
  pub inode-over : 3 ≤ inode (view 512 img) s
  inode-over = inside.low

  pub inode-under : inode (view 512 img) s < blocks 512 img
  inode-under = omega (arith, inside.high, view-n 512 img)

  pub inode-fits : inode (view 512 img) s * 512 + 512 ≤ length img
  inode-fits = in_image 512 (inode (view 512 img) s) img inode-under

  pub inode-part : get_or (view 512 img).inodes s [] ≡ block 512 img (inode (view 512 img) s)
  inode-part = inode-block 512 img s below inside

  -- rule 5 of the slot is that of its block
  pub wrong-at : bad_inode 512 (view 512 img) s ≡ inode_wrong 512 (blocks 512 img) (block 512 img (inode (view 512 img) s))
  wrong-at =
      let v : View = view 512 img in
      bad-inode 512 v s
      ∙ ap (λ (f : Bool). not f && inode_wrong 512 v.n (get_or v.inodes s [])) taken
      ∙ ap₂ (inode_wrong 512) (view-n 512 img) inode-part

  -- and where the slot does not break it, the blocks that it claims
  pub right-at : least (bad_inode 512 (view 512 img)) 25 ≡ 25 → inode_wrong 512 (blocks 512 img) (block 512 img (inode (view 512 img) s)) ≡ false
  right-at sized = sym wrong-at ∙ no_false (bad_inode 512 (view 512 img) s) (least-none (bad_inode 512 (view 512 img)) 25 (omega arith) s below)

  pub claims-at : file_claims 512 (view 512 img) s ≡ claim_list (inode (view 512 img) s) (block 512 img (inode (view 512 img) s))
  claims-at =
      let v : View = view 512 img in
      file-claims v s
      ∙ ap (λ (f : Bool). cond f [] (claim_list (inode v s) (get_or v.inodes s []))) taken
      ∙ ap (claim_list (inode v s)) inode-part

-- a slot is free where its inode number is 0
free-zero : (img : List ℕ) (s : ℕ) → Formed img → s < 25 → eqb (inode (view 512 img) s) 0 ≡ free (view 512 img) s
free-zero img s w h = by (free (view 512 img) s) refl
  where
    by : (t : Bool) → free (view 512 img) s ≡ t → eqb (inode (view 512 img) s) 0 ≡ t
    by true e = eq-eqb (inode (view 512 img) s) 0 (free-inode (view 512 img) s (of-true (free (view 512 img) s) e))
    by false e = ne_eqb (inode (view 512 img) s) 0 (λ z. omega (arith, inode-over img s h w.slots e))

module _ (img : List ℕ) (s : ℕ) (w : Formed img) (h : s < 25) where
  pub free-at : inode (view 512 img) s ≡ 0 → free (view 512 img) s ≡ true
  free-at e = sym (free-zero img s w h) ∙ eq-eqb (inode (view 512 img) s) 0 e

  pub used-at : (inode (view 512 img) s ≡ 0 → ⊥) → free (view 512 img) s ≡ false
  used-at d = sym (free-zero img s w h) ∙ ne_eqb (inode (view 512 img) s) 0 d
