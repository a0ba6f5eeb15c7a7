-- The stores of a remove.
use Rattle.std.specs.Prelude.{◌≡◌, refl, ℕ, ◌≤◌, List, length}
use Rattle.std.proofs.Common.{ap, ◌∙◌, arith}
use Rattle.std.proofs.Math.Path.{sym}
use Rattle.lists.specs.Lists.{zeros}
use Rattle.tfs_spec.specs.Layout.{set_bits, set_slot, view}
use Rattle.tfs_spec.specs.Check.{file_claims}
use Rattle.tfs_spec.specs.Requests.{done, Store, store, in_slot, lookup, remove_stores, remove_view, kth}
use Rattle.tfs_facts.specs.Views.{view-map, view-dir}
use Rattle.tfs_facts.specs.Lookups.{lookup-file}
use Rattle.tfs_steps.specs.Erase.{erase_stores, erase-removes}

-- directory, map
module _ (img : List ℕ) (s : ℕ) (bs : List ℕ) (k : ℕ) where
  pub erase_first : k ≡ 1 → (out : List ℕ) → out ≡ set_slot (view 512 img).dir s (zeros 20) → store 2 out ≡ kth k (erase_stores 512 img s bs)
  unfolding erase_stores
  erase_first e out p = rw (e, p, view-dir)

  pub erase_second : 1 ≤ k → k ≤ 2 → (k ≡ 1 → ⊥) → (out : List ℕ) → out ≡ set_bits (view 512 img).map 0 bs → store 1 out ≡ kth k (erase_stores 512 img s bs)
  unfolding erase_stores
  erase_second h l d out p = let e : k ≡ 2 = omega arith in rw (e, p, view-map)

module _ (img nm : List ℕ) where
  pub remove_many : 2 ≡ length (remove_stores 512 (view 512 img) nm)
  unfolding remove_stores
  remove_many = refl

  module _ (s : ℕ) (found : in_slot s ≡ lookup 512 (view 512 img) nm) where
    pub remove_found : done ≡ remove_view 512 (view 512 img) nm
    unfolding remove_view
    remove_found = rw (← found)

    pub remove_one : (k : ℕ) (x : Store) → x ≡ kth k (erase_stores 512 img s (file_claims 512 (view 512 img) s)) → x ≡ kth k (remove_stores 512 (view 512 img) nm)
    remove_one k x e =
        e
        ∙ ap (λ (t : ℕ). kth k (erase_stores 512 img t (file_claims 512 (view 512 img) t))) (lookup-file 512 (view 512 img) nm s (sym found)).1
        ∙ ap (kth k) (erase-removes 512 img nm)
