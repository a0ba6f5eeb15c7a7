-- Room: a remove of a name that stands frees the blocks of the file at once, a granted create takes its own, and a write takes none.
use Rattle.std.specs.Prelude.{◌≡◌, refl, ◌≢◌, Bool, not, cond, ℕ, ◌+◌, ◌<◌, List, T}
use Rattle.std.proofs.Common.{sym, ap₂, ◌∙◌, subst, arith}
use Rattle.std.proofs.Math.Path.{ap}
use Rattle.list_laws.specs.Test.{by-test, cond_yes, cond_no}
use Rattle.list_laws.specs.Sum.{sum_drop}
use Rattle.tfs_spec.specs.Layout.{BlockSize, slots, need, View, view, free, size, slot_of, free_slot, free_blocks}
use Rattle.tfs_spec.specs.Consistent.{File, Consistent}
use Rattle.tfs_facts.specs.CheckMeans.{check-means}
use Rattle.tfs_spec.specs.Effects.{inode_count, content_count}
use Rattle.tfs_facts.specs.Total.{adds-up}
use Rattle.tfs_spec.specs.Requests.{granted, store_all, create_stores, create, remove_stores, remove, write}
use Rattle.tfs_proofs.specs.Frame.{Frame, n-same, free-same, size_same}
use Rattle.tfs_proofs.specs.WriteLists.{wr, request-view}
use Rattle.tfs_spec.specs.Laws.{request}
use Rattle.tfs_facts.specs.Names.{free-hit}
use Rattle.tfs_facts.specs.Chosen.{CreateGrant}
use Rattle.tfs_proofs.specs.Creates as made
use Rattle.tfs_proofs.specs.Removes as removed
use Rattle.tfs_proofs.specs.Changes.{Passed, create-granted, create-image, remove-granted, remove-image}
use Rattle.tfs_spec.specs.Answers.{Stands}
use Rattle.tfs_proofs.specs.Grants.{stands_at, stands-removed}

-- two views that differ in slot s only: a has a file there, b has none
module _ (B : ℕ) (a b : View) (s : ℕ) (low : s < slots B) (taken : T (not (free a s))) (clear : T (free b s)) (frees : (t : ℕ) → t < slots B → t ≢ s → free b t ≡ free a t) (sizes : (t : ℕ) → t < slots B → t ≢ s → size b t ≡ size a t) where
  inodes-differ : inode_count B a ≡ inode_count B b + 1
  inodes-differ =
      sum_drop (λ t. cond (free a t) 0 1) (λ t. cond (free b t) 0 1) (slots B) s low (λ t l d. ap (λ (x : Bool). cond x 0 1) (frees t l (λ e. d (sym e)))) (cond_yes {X = ℕ} (free b s) 0 1 clear)
      ∙ ap (λ (x : ℕ). inode_count B b + x) (cond_no {X = ℕ} (free a s) 0 1 taken)

  contents-differ : content_count B a ≡ content_count B b + need B (size a s)
  contents-differ =
      sum_drop (λ t. cond (free a t) 0 (need B (size a t))) (λ t. cond (free b t) 0 (need B (size b t))) (slots B) s low
      (λ t l d. ap₂ (λ (x : Bool) (z : ℕ). cond x 0 (need B z)) (frees t l (λ e. d (sym e))) (sizes t l (λ e. d (sym e)))) (cond_yes {X = ℕ} (free b s) 0 (need B (size b s)) clear)
      ∙ ap (λ (x : ℕ). content_count B b + x) (cond_no {X = ℕ} (free a s) 0 (need B (size a s)) taken)

-- the room that the file takes
room-differs : (B : ℕ) → BlockSize B → (x y : List ℕ) → Consistent B x → Consistent B y → (s : ℕ) → s < slots B → T (not (free (view B x) s)) → T (free (view B y) s) → (view B y).n ≡ (view B x).n → ((t : ℕ) → t < slots B → t ≢ s → free (view B y) t ≡ free (view B x) t) → ((t : ℕ) → t < slots B → t ≢ s → size (view B y) t ≡ size (view B x) t) → free_blocks (view B y) ≡ free_blocks (view B x) + (1 + need B (size (view B x) s))
room-differs B sz x y okx oky s low taken clear n frees sizes =
    omega (arith, adds-up B sz x okx, adds-up B sz y oky, n, inodes-differ B (view B x) (view B y) s low taken clear frees sizes, contents-differ B (view B x) (view B y) s low taken clear frees sizes)

module _ (B : ℕ) (sz : BlockSize B) (img : List ℕ) (ok : Consistent B img) where
  passed : Passed B img
  passed = (check-means B sz img).1 ok

  -- "Room freed by remove counts for 12 at once"
  pub removed-room : (nm : List ℕ) (s : ℕ) → Stands B (view B img) nm s → free_blocks (view B (remove B img nm).image) ≡ free_blocks (view B img) + (1 + need B (size (view B img) s))
  removed-room nm s st =
      ap (λ (x : List ℕ). free_blocks (view B x)) (remove-image B img passed nm g) ∙ subst room (stands_at B v nm ok.sound s st) differ
    where
      v : View
      v = view B img

      new : List ℕ
      new = store_all B img (remove_stores B v nm)

      room : ℕ → Type 0
      room t = free_blocks (view B new) ≡ free_blocks v + (1 + need B (size v t))

      g : T (granted (remove B img nm).answer)
      g = stands-removed B sz img ok nm s st

      hit : slot_of B v nm < slots B
      hit = remove-granted B img passed nm g

      fr : Frame B img new (slot_of B v nm)
      fr = removed.frame B sz img ok nm hit

      there : File B v (slot_of B v nm)
      there = subst (File B v) (sym (stands_at B v nm ok.sound s st)) st.file

      clear : T (free (view B new) (slot_of B v nm))
      clear =
          by-test (free (view B new) (slot_of B v nm)) (λ t. t)
          (λ t. absurd (removed.other B sz img ok nm hit (slot_of B v nm) (record { slot = hit; taken = t }) refl))

      differ : room (slot_of B v nm)
      differ =
          room-differs B sz img new ok (removed.remove-consistent B sz img ok nm hit) (slot_of B v nm) hit there.taken clear
          (n-same B img new (slot_of B v nm) fr) (free-same B img new (slot_of B v nm) fr) (size_same B img new (slot_of B v nm) fr)

  -- create takes one block for the inode, and ⌈size/512⌉ for the content
  pub created-room : (nm : List ℕ) (z : ℕ) → T (granted (create B img nm z).answer) → free_blocks (view B (create B img nm z).image) + (1 + need B z) ≡ free_blocks (view B img)
  created-room nm z g =
      ap (λ (x : List ℕ). free_blocks (view B x) + (1 + need B z)) (create-image B img passed nm z g)
      ∙ ap (λ (x : ℕ). free_blocks (view B new) + (1 + need B x)) (sym (made.new-size B sz img ok nm z gr))
      ∙ sym differ
    where
      v : View
      v = view B img

      new : List ℕ
      new = store_all B img (create_stores B v nm z)

      gr : CreateGrant B v nm z
      gr = create-granted B img passed nm z g

      fr : Frame B img new (free_slot B v)
      fr = made.frame B sz img ok nm z gr

      differ : free_blocks v ≡ free_blocks (view B new) + (1 + need B (size (view B new) (free_slot B v)))
      differ =
          room-differs B sz new img (made.create-consistent B sz img ok nm z gr) ok (free_slot B v) gr.slot (made.new-file B sz img ok nm z gr).taken (free-hit B v gr.slot)
          (sym (n-same B img new (free_slot B v) fr)) (λ t l d. sym (free-same B img new (free_slot B v) fr t l d)) (λ t l d. sym (size_same B img new (free_slot B v) fr t l d))

  -- a write, granted or refused, takes no room
  pub written-room : (nm : List ℕ) (o : ℕ) (buf : List ℕ) → free_blocks (view B (write B img nm o buf).image) ≡ free_blocks (view B img)
  unfolding request
  written-room nm o buf = ap free_blocks (request-view B (omega (arith, sz.large)) img passed ok.sound (wr nm o buf))
