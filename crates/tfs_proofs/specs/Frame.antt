-- Two images whose volumes differ in one slot only: every other file is as it was.
use Rattle.std.specs.Prelude.{◌≡◌, refl, ◌≢◌, Bool, not, length}
use Rattle.std.proofs.Math.Path.{sym, ap, ap₂}
use Rattle.std.proofs.Common.{◌∙◌, subst, arith}
use Rattle.std.proofs.Math.Bool.{cond}
use Prim.Native.Nat.{ℕ, ◌+◌, ◌*◌, ◌/◌, ◌%◌, ◌<◌}
use mathlib.Core.List.{List, []}
use Rattle.std.proofs.Math.ListN.{get_or}
use Rattle.std.proofs.Math.Dec.{T}
use Rattle.list_laws.specs.Test.{by-test, cond_no}
use Rattle.lists.specs.Lists.{table}
use Rattle.list_laws.specs.Table.{table-cong}
use Rattle.tfs_spec.specs.Layout.{slots, need, blocks, block, slot, slot_inode, slot_name, slot_free, slot_used, in_range, inode_size, inode_number, View, view, inode_at, free, used, inode, name, size, number, place, content}
use Rattle.tfs_spec.specs.Consistent.{File, Owner, inode_of, content_of, Owns, Inside}
use Rattle.tfs_facts.specs.Claims.{slot_in}
use Rattle.tfs_facts.specs.CheckMeans.{in-range}
use Rattle.tfs_facts.specs.Sizes.{in-need, in_block}
use Rattle.tfs_facts.specs.Views.{view-n, view-dir, inodes-at}
use Rattle.tfs_proofs.specs.Places.{blocks-eq, file-at}
use Rattle.tfs_facts.specs.Stores.{block-byte}

pub record Frame (B : ℕ) (img new : List ℕ) (s : ℕ) : Type 0 where
  pub long : length new ≡ length img
  pub slots_kept : (t : ℕ) → t < slots B → t ≢ s → slot (block B new 2) t ≡ slot (block B img 2) t
  -- the blocks of the other files
  pub blocks-kept : (o : Owner) (b : ℕ) → slot_in o ≢ s → Owns B (view B img) o b → block B new b ≡ block B img b

module _ (B : ℕ) (img new : List ℕ) (s : ℕ) (fr : Frame B img new s) where
  abbrev v : View
  v = view B img

  abbrev v' : View
  v' = view B new

  pub n-same : v'.n ≡ v.n
  n-same = view-n B new ∙ blocks-eq B new img fr.long ∙ sym (view-n B img)

  module _ (t : ℕ) (h : t < slots B) (d : t ≢ s) where
    pub slot_same : slot v'.dir t ≡ slot v.dir t
    slot_same =
        ap (λ (x : List ℕ). slot x t) (view-dir B new) ∙ fr.slots_kept t h d ∙ ap (λ (x : List ℕ). slot x t) (sym (view-dir B img))

    pub free-same : free v' t ≡ free v t
    unfolding free
    free-same = ap slot_free slot_same

    pub used-same : used v' t ≡ used v t
    unfolding used
    used-same = ap₂ slot_used n-same slot_same

    pub inode-same : inode v' t ≡ inode v t
    unfolding inode
    inode-same = ap slot_inode slot_same

    pub name-same : name v' t ≡ name v t
    unfolding name
    name-same = ap slot_name slot_same

    pub inodes-same : get_or v'.inodes t [] ≡ get_or v.inodes t []
    unfolding inode_at inode
    inodes-same =
        let i : ℕ = slot_inode (slot (block B img 2) t) in
        let n : ℕ = blocks B img in
        inodes-at B new t h
        ∙ ap₂ (λ (m : ℕ) (x : List ℕ). cond (in_range m (slot_inode x)) (block B new (slot_inode x)) []) (blocks-eq B new img fr.long) (fr.slots_kept t h d)
        ∙ by-test (in_range n i)
        (λ r.
        ap (λ (x : List ℕ). cond (in_range n i) x [])
        (fr.blocks-kept (inode_of t) i d (file-at B v t h (subst (Inside v) (sym at-t) (in-range v i (subst (λ (m : ℕ). T (in_range m i)) (sym (view-n B img)) r))), at-t)))
        (λ r. cond_no {X = List ℕ} (in_range n i) (block B new i) [] r ∙ sym (cond_no {X = List ℕ} (in_range n i) (block B img i) [] r))
        ∙ sym (inodes-at B img t h)
      where
        at-t : slot_inode (slot v.dir t) ≡ slot_inode (slot (block B img 2) t)
        at-t = ap (λ (x : List ℕ). slot_inode (slot x t)) (view-dir B img)

    pub size_same : size v' t ≡ size v t
    unfolding size
    size_same = ap inode_size inodes-same

    pub number_same : (k : ℕ) → number v' t k ≡ number v t k
    unfolding number
    number_same k = ap (λ (x : List ℕ). inode_number x k) inodes-same

  pub file-to : (t : ℕ) → t ≢ s → File B v t → File B v' t
  file-to t d f = record { slot = f.slot; taken = subst (λ (x : Bool). T (not x)) (sym (free-same t f.slot d)) f.taken }

  pub file-from : (t : ℕ) → t ≢ s → File B v' t → File B v t
  file-from t d f = record { slot = f.slot; taken = subst (λ (x : Bool). T (not x)) (free-same t f.slot d) f.taken }

  pub owns-to : (o : Owner) (b : ℕ) → slot_in o ≢ s → Owns B v o b → Owns B v' o b
  owns-to (inode_of t) b d w = (file-to t d w.0, inode-same t w.0.slot d ∙ w.1)
  owns-to (content_of t k) b d w =
      (file-to t d w.0, subst (λ (z : ℕ). k < need B z) (sym (size_same t w.0.slot d)) w.1, number_same t w.0.slot d k ∙ w.2)

  pub owns-from : (o : Owner) (b : ℕ) → slot_in o ≢ s → Owns B v' o b → Owns B v o b
  owns-from (inode_of t) b d w = (file-from t d w.0, sym (inode-same t w.0.slot d) ∙ w.1)
  owns-from (content_of t k) b d w =
      (file-from t d w.0, subst (λ (z : ℕ). k < need B z) (size_same t w.0.slot d) w.1, sym (number_same t w.0.slot d k) ∙ w.2)

  -- the content of another file
  pub content-same : 0 < B → (t : ℕ) → t ≢ s → File B v t → content B v' new t ≡ content B v img t
  unfolding content place
  content-same pos t d f =
      ap (λ (z : ℕ). table (λ p. get_or new (number v' t (p / B) * B + p % B) 0) 0 z) (size_same t f.slot d)
      ∙ table-cong (λ p. get_or new (number v' t (p / B) * B + p % B) 0) (λ p. get_or img (number v t (p / B) * B + p % B) 0) 0 (size v t)
      (λ p a l.
      ap (λ (b : ℕ). get_or new (b * B + p % B) 0) (number_same t f.slot d (p / B))
      ∙ block-byte B new img (number v t (p / B)) (p % B) (in_block B pos p)
      (fr.blocks-kept (content_of t (p / B)) (number v t (p / B)) d (f, in-need B pos p (size v t) (omega arith), refl)))
