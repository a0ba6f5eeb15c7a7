-- Each way through list on a consistent volume, with its directory as a part of the image.
use Rattle.std.specs.Prelude.{◌≡◌, true, false, ℕ, ◌+◌, ◌-◌, ◌*◌, ◌≤◌, ◌<◌, take}
use Rattle.std.proofs.Common.{sym, ◌∙◌, arith, take_at, take_all, lt-ltb, le-ltb}
use Rattle.std.proofs.Math.Path.{ap, subst}
use mathlib.Core.List.{List, ◌++◌}
use Rattle.std.proofs.Math.ListN.{length}
use Rattle.lists.specs.Lists.{zeros, pad_to}
use Rattle.tfs_spec.specs.Layout.{block, slot, slot_free, slot_inode, slot_name, inode_size, view, free, inode, name, size}
use Rattle.tfs_spec.specs.Check.{consistent, check}
use Rattle.tfs_spec.specs.Consistent.{File}
use Rattle.tfs_spec.specs.Requests.{refused, unused, file, list_view}
use Rattle.tfs_steps.specs.Ready.{file-ready, sized, name-sized}

pub list_past : (img : List ℕ) (s : ℕ) → 25 ≤ s → refused 14 0 ≡ list_view 512 (view 512 img) s
unfolding list_view
list_past img s h = rw (le-ltb s 25 h)

module _ (img dir : List ℕ) (s : ℕ) (at : dir ≡ (view 512 img).dir) (h : s < 25) where
  pub list_free : slot_free (slot dir s) ≡ true → unused ≡ list_view 512 (view 512 img) s
  unfolding list_view free
  list_free e = rw (lt-ltb s 25 h, ← at, e)

  module _ (passed : check 512 img ≡ consistent) (e : slot_free (slot dir s) ≡ false) (i : ℕ) (ei : i ≡ slot_inode (slot dir s)) where
    taken : File 512 (view 512 img) s
    unfolding free
    taken = record { slot = h; taken = rw (← at, e) tt }

    inode-is : i ≡ inode (view 512 img) s
    unfolding inode
    inode-is = ei ∙ ap (λ (d : List ℕ). slot_inode (slot d s)) at

    -- the inode of a file lies inside the image
    pub list_inside : i * 512 + 512 ≤ length img
    list_inside = (file-ready img passed s taken i inode-is).0

    pub list_named : (1 ≤ length (slot_name (slot dir s))) × (length (slot_name (slot dir s)) ≤ 15)
    unfolding name
    list_named = subst (λ (d : List ℕ). (1 ≤ length (slot_name (slot d s))) × (length (slot_name (slot d s)) ≤ 15)) (sym at) (name-sized img passed s taken)

    pub list_file : (z : ℕ) → z ≡ inode_size (block 512 img i) → file (slot_name (slot dir s)) i z ≡ list_view 512 (view 512 img) s
    unfolding list_view free name
    list_file z ez =
        let sz : z ≡ size (view 512 img) s = sized img passed s taken i z inode-is ez in
        rw (lt-ltb s 25 h, ← sz, ← inode-is, ← at, e)

-- a name cut out of its padded field
pub name_back : (nm : List ℕ) (k : ℕ) → k ≡ length nm → k ≤ 16 → take k (pad_to 16 nm) ≡ nm
name_back nm k e h =
    ap (take k) (ap (λ (x : List ℕ). x ++ zeros (16 - length nm)) (take_all 16 nm (omega arith))) ∙ take_at nm (zeros (16 - length nm)) k (sym e)
