-- The blocks of a file, and what remove leaves.
use Rattle.std.specs.Prelude.{◌≡◌, ℕ, ◌+◌, List, ◌++◌, take}
use Rattle.std.proofs.Common.{sym, ap, ◌∙◌, take_at}
use Rattle.tfs_spec.specs.Layout.{need, block, inode_size, view, inode, slot_of}
use Rattle.tfs_spec.specs.Check.{consistent, check, file_claims}
use Rattle.tfs_spec.specs.Consistent.{File}
use Rattle.tfs_spec.specs.Requests.{store_all, in_slot, lookup, remove_stores, remove_view, remove_step}
use Rattle.tfs_facts.specs.Lookups.{lookup-file}
use Rattle.tfs_map.specs.Under.{Under}
use Rattle.tfs_inode.specs.Claims.{claim_list, length-claims}
use Rattle.tfs_steps.specs.Erase.{erase_stores, erase-removes}
use Rattle.tfs_steps.specs.Ready.{claims-are, claims-under}

-- the front of a list that begins with the claims of the file in slot s, whose inode is b
module _ (img : List ℕ) (passed : check 512 img ≡ consistent) (s : ℕ) (f : File 512 (view 512 img) s) (b : ℕ) (at : b ≡ inode (view 512 img) s) (k : ℕ) (count : k ≡ 1 + need 512 (inode_size (block 512 img b))) (out rest : List ℕ) (is : out ≡ claim_list b (block 512 img b) ++ rest) where
  front_is : take k out ≡ claim_list (inode (view 512 img) s) (block 512 img (inode (view 512 img) s))
  front_is =
      rw (is, count) (take_at (claim_list b (block 512 img b)) rest (1 + need 512 (inode_size (block 512 img b))) (length-claims b (block 512 img b)))
      ∙ ap (λ (x : ℕ). claim_list x (block 512 img x)) at

  pub front_claims : take k out ≡ file_claims 512 (view 512 img) s
  front_claims = front_is ∙ sym (claims-are img passed s f)

  pub front_under : Under 4096 (take k out)
  front_under = rw front_is (claims-under img passed s f)

-- the stores of the file that the lookup gives are those of remove
pub remove_done : (img nm : List ℕ) (s : ℕ) → in_slot s ≡ lookup 512 (view 512 img) nm → (bs after : List ℕ) → bs ≡ file_claims 512 (view 512 img) s → after ≡ store_all 512 img (erase_stores 512 img s bs) → after ≡ (remove_step 512 img nm).image
unfolding remove_view
remove_done img nm s found bs after claims e =
    let slot : s ≡ slot_of 512 (view 512 img) nm = (lookup-file 512 (view 512 img) nm s (sym found)).1 in
    let stores : erase_stores 512 img s bs ≡ remove_stores 512 (view 512 img) nm = rw (claims, slot) (erase-removes 512 img nm) in
    rw (← found) (e ∙ ap (store_all 512 img) stores)
