-- What a view takes from its image.
use Rattle.std.specs.Prelude.{◌≡◌, length, T, leb, ltb}
use Rattle.std.proofs.Math.Path.{refl, ap, subst}
use Rattle.std.proofs.Common.{◌∙◌, zero-add, le→leb, lt→ltb}
use Rattle.std.proofs.Math.Bool.{cond}
use Prim.Native.Nat.{ℕ, ◌*◌, ◌≤◌, ◌<◌}
use mathlib.Core.List.{List, []}
use native.Mathlib.Omega.{arith}
use Rattle.std.proofs.Math.Decide.{dec_lt}
use Rattle.std.proofs.Math.ListN.{get_or}
use Rattle.list_laws.specs.Test.{by-test, cond_yes, and-of}
use Rattle.list_laws.specs.Table.{get_or-table, get_or-table-out}
use Rattle.lists.specs.Lists.{word}
use Rattle.tfs_spec.specs.Layout.{slots, blocks, block, slot, slot_inode, in_range, inode_size, View, view, view_n, inode_at, free, inode, size}
use Rattle.tfs_spec.specs.Consistent.{File, Inside}
use Rattle.tfs_facts.specs.Slots.{free-number}
use Rattle.tfs_facts.specs.Stores.{length-block}

-- a free slot has inode number 0
pub free-inode : (v : View) (s : ℕ) → T (free v s) → inode v s ≡ 0
unfolding free inode
free-inode v s t = free-number (slot v.dir s) t

module _ (B : ℕ) (img : List ℕ) where
  pub view-n : (view B img).n ≡ blocks B img
  unfolding view view_n
  view-n = refl

  pub view-head : (view B img).head ≡ block B img 0
  unfolding view view_n
  view-head = refl

  pub view-map : (view B img).map ≡ block B img 1
  unfolding view view_n
  view-map = refl

  pub view-dir : (view B img).dir ≡ block B img 2
  unfolding view view_n
  view-dir = refl

  -- in an image of three blocks or more, map and directory are whole blocks
  module _ (long : 3 * B ≤ length img) where
    pub length-map : length (view B img).map ≡ B
    length-map = ap length view-map ∙ length-block B img 1 (omega arith)

    pub length-dir : length (view B img).dir ≡ B
    length-dir = ap length view-dir ∙ length-block B img 2 (omega arith)

  pub inodes-at : (s : ℕ) → s < slots B → get_or (view B img).inodes s [] ≡ inode_at B (blocks B img) img s
  unfolding view view_n
  inodes-at s h = get_or-table (inode_at B (blocks B img) img) 0 (slots B) s [] h ∙ ap (inode_at B (blocks B img) img) (zero-add s)

  pub inodes-out : (s : ℕ) → slots B ≤ s → get_or (view B img).inodes s [] ≡ []
  unfolding view view_n
  inodes-out s h = get_or-table-out (inode_at B (blocks B img) img) 0 (slots B) s [] h

  -- the inode of a slot whose inode number is in range
  pub inode-block : (s : ℕ) → s < slots B → Inside (view B img) (inode (view B img) s) → get_or (view B img).inodes s [] ≡ block B img (inode (view B img) s)
  unfolding view view_n inode inode_at
  inode-block s h r =
      let i : ℕ = slot_inode (slot (block B img 2) s) in
      inodes-at s h
      ∙ cond_yes (in_range (blocks B img) i) (block B img i) [] (and-of (leb 3 i) (ltb i (blocks B img)) (le→leb 3 i r.low) (lt→ltb i (blocks B img) r.high))

  -- a free slot has no inode
  pub inode-none : (s : ℕ) → s < slots B → T (free (view B img) s) → get_or (view B img).inodes s [] ≡ []
  unfolding inode_at view view_n inode
  inode-none s h t =
      inodes-at s h ∙ ap (λ (i : ℕ). cond (in_range (blocks B img) i) (block B img i) []) (free-inode (view B img) s t)

  -- only a file has a size
  pub has : (s p : ℕ) → p < size (view B img) s → File B (view B img) s
  unfolding size inode_size word
  has s p l =
      elim (dec_lt s (slots B)) [
        | yes k ↦ record { slot = k; taken = by-test (free (view B img) s) (λ t. absurd (none (inode-none s k t))) (λ t. t) }
        | no k ↦ absurd (none (inodes-out s (omega arith)))
      ]
    where
      none : get_or (view B img).inodes s [] ≡ [] → ⊥
      none e = let z : p < inode_size [] = subst (λ (x : List ℕ). p < inode_size x) e l in omega arith
