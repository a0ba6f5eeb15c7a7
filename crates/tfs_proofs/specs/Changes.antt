-- Create, remove and write as one kind of request: consistency after each, and the change of the plain view that each is. Of format see Formats.antt.
use Rattle.std.specs.Prelude.{◌≡◌, refl, Bool, not, cond, length, get_or, ltb}
use Rattle.std.proofs.Math.Path.{sym, ap, subst}
use Rattle.std.proofs.Common.{◌∙◌, arith}
use Prim.Native.Nat.{ℕ, ◌+◌, ◌<◌}
use mathlib.Core.List.{List, []}
use Rattle.std.proofs.Math.Dec.{T}
use Rattle.std.proofs.Math.Option.{map}
use Rattle.list_laws.specs.Test.{to-true, by-test, cond_no}
use Rattle.tfs_spec.specs.Layout.{BlockSize, slots, max_size, need, name_allowed, same_name, View, view, name, slot_of, free_slot, free_blocks, contents}
use Rattle.tfs_spec.specs.Check.{Verdict, consistent, broken, check}
use Rattle.tfs_spec.specs.Consistent.{File, Consistent}
use Rattle.tfs_facts.specs.CheckMeans.{check-means}
use Rattle.tfs_spec.specs.Requests.{Answer, done, value, refused, granted, Outcome, stored, store_all, chosen, create_view, create_stores, create, Lookup, looked, transfer_answer, remove_view, remove_stores, remove, write, checked, refuse, Change, creates, removes, writes, perform}
use Rattle.tfs_facts.specs.Views.{view-head}
use Rattle.tfs_facts.specs.Lookups.{by-lookup}
use Rattle.tfs_proofs.specs.WriteLists.{wr, put_of, request-answer, request-image, request-view, request-length, request-sound}
use Rattle.tfs_spec.specs.Laws.{request}
use Rattle.tfs_facts.specs.Names.{slot-hit}
use Rattle.tfs_proofs.specs.Transfers.{slot_given, slot_for, slot_for-hit, transfer_view, write_as}
use Rattle.tfs_proofs.specs.Ledger.{change-at}
use Rattle.tfs_proofs.specs.Others.{consistent-to}
use Rattle.tfs_facts.specs.Chosen.{CreateGrant}
use Rattle.tfs_proofs.specs.Creates.{value-step, same-value, create-grant, create-consistent, create-contents}
use Rattle.tfs_proofs.specs.Removes.{remove-consistent, remove-contents}
use Rattle.tfs_proofs.specs.WriteContents.{write-contents}
use Rattle.tfs_spec.specs.Effects.{change, over, name_on, effect_of}

-- ---- a granted request on a consistent volume
abbrev pub Passed : ℕ → List ℕ → Type 0
Passed B img = check B img ≡ consistent

module _ (B : ℕ) (img : List ℕ) (passed : Passed B img) where
  pub create-is : (nm : List ℕ) (z : ℕ) → create B img nm z ≡ stored B img (create_view B (view B img) nm z) (create_stores B (view B img) nm z)
  unfolding create
  create-is nm z = rw passed

  pub remove-is : (nm : List ℕ) → remove B img nm ≡ stored B img (remove_view B (view B img) nm) (remove_stores B (view B img) nm)
  unfolding remove
  remove-is nm = rw passed

  pub create-image : (nm : List ℕ) (z : ℕ) → T (granted (create B img nm z).answer) → (create B img nm z).image ≡ store_all B img (create_stores B (view B img) nm z)
  create-image nm z g =
      let t : T (granted (create_view B (view B img) nm z)) = subst (λ (o : Outcome). T (granted o.answer)) (create-is nm z) g in
      ap (λ (o : Outcome). o.image) (create-is nm z)
      ∙ ap (λ (b : Bool). cond b (store_all B img (create_stores B (view B img) nm z)) img) (to-true (granted (create_view B (view B img) nm z)) t)

  pub remove-image : (nm : List ℕ) → T (granted (remove B img nm).answer) → (remove B img nm).image ≡ store_all B img (remove_stores B (view B img) nm)
  remove-image nm g =
      let t : T (granted (remove_view B (view B img) nm)) = subst (λ (o : Outcome). T (granted o.answer)) (remove-is nm) g in
      ap (λ (o : Outcome). o.image) (remove-is nm)
      ∙ ap (λ (b : Bool). cond b (store_all B img (remove_stores B (view B img) nm)) img) (to-true (granted (remove_view B (view B img) nm)) t)

  pub create-granted : (nm : List ℕ) (z : ℕ) → T (granted (create B img nm z).answer) → CreateGrant B (view B img) nm z
  create-granted nm z g =
      create-grant B (view B img) nm z (subst (λ (o : Outcome). T (granted o.answer)) (create-is nm z) g)

  -- the answer is the lowest chosen block
  pub create-number : (nm : List ℕ) (z h : ℕ) → (create B img nm z).answer ≡ value h → get_or (chosen B (view B img) z) 0 0 ≡ h
  unfolding create_view
  create-number nm z h e =
      let a8 = value-step (not (name_allowed nm)) 8 _ h (sym (ap (λ (o : Outcome). o.answer) (create-is nm z)) ∙ e) in
      let a9 = value-step (ltb (max_size B) z) 9 _ h a8.1 in
      let a10 = value-step (ltb (slot_of B (view B img) nm) (slots B)) 10 _ h a9.1 in
      let a11 = value-step (not (ltb (free_slot B (view B img)) (slots B))) 11 _ h a10.1 in
      let a12 = value-step (ltb (free_blocks (view B img)) (1 + need B z)) 12 (value (get_or (chosen B (view B img) z) 0 0)) h a11.1 in
      same-value (get_or (chosen B (view B img) z) 0 0) h a12.1

  pub remove-granted : (nm : List ℕ) → T (granted (remove B img nm).answer) → slot_of B (view B img) nm < slots B
  unfolding remove_view
  remove-granted nm g =
      let t : T (granted (remove_view B (view B img) nm)) = subst (λ (o : Outcome). T (granted o.answer)) (remove-is nm) g in
      by-lookup B (view B img) nm (λ (x : Lookup). T (granted (looked x refused (λ s. done))) → slot_of B (view B img) nm < slots B) (λ _ g. absurd g) (λ _ _ g. absurd g) (λ _ l _. l) t

  pub write_granted : (nm : List ℕ) (o : ℕ) (bs : List ℕ) → T (granted (write B img nm o bs).answer) → slot_for B (view B img) nm < slots B
  unfolding transfer_view slot_for request
  write_granted nm o bs g =
      let t : T (granted (transfer_view B (view B img) nm o (length bs))) = subst (λ (a : Answer). T (granted a)) (request-answer B img passed (wr nm o bs)) g in
      by-lookup B (view B img) nm (λ (x : Lookup). T (granted (looked x refused (λ s. transfer_answer B (view B img) s o (length bs)))) → slot_given B x < slots B) (λ _ g. absurd g) (λ _ _ g. absurd g) (λ _ l _. l) t

-- "A refused request changes no byte of the image"
refused-core : (f : Verdict) (img new : List ℕ) (a : Answer) → T (not (granted (checked f (refuse img []) (record { answer = a; image = cond (granted a) new img; buffer = [] })).answer)) → (checked f (refuse img []) (record { answer = a; image = cond (granted a) new img; buffer = [] })).image ≡ img
refused-core consistent img new a t = cond_no (granted a) new img t
refused-core (broken num q) img new a t = refl

pub refused-keeps : (B : ℕ) (img : List ℕ) (c : Change) → T (not (granted (perform B img c).answer)) → (perform B img c).image ≡ img
unfolding perform create remove
refused-keeps B img (creates nm z) t = refused-core (check B img) img _ (create_view B (view B img) nm z) t
refused-keeps B img (removes nm) t = refused-core (check B img) img _ (remove_view B (view B img) nm) t
refused-keeps B img (writes nm o bs) t =
    ap (λ (x : Outcome). x.image) (write_as B img nm o bs)
    ∙ refused-core (check B img) img _ (transfer_view B (view B img) nm o (length bs)) (subst (λ (x : Outcome). T (not (granted x.answer))) (write_as B img nm o bs) t)

-- what a granted request does
pub record Changed (B : ℕ) (img : List ℕ) (c : Change) : Type 0 where
  -- "The volume stays consistent"
  pub consistent : Consistent B (perform B img c).image
  -- what stands under one name changes, and every other name keeps its size and bytes; Touches.antt says which bytes of the image change
  pub contents : (j : List ℕ) → contents B (perform B img c).image j ≡ change (name_on c) (effect_of c) (contents B img) j

module _ (B : ℕ) (sz : BlockSize B) where
  pos : 0 < B
  pos = omega (arith, sz.large)

  module _ (img : List ℕ) (ok : Consistent B img) (h : List ℕ) (o : ℕ) (bs : List ℕ) where
    p : Passed B img
    p = (check-means B sz img).1 ok

    -- a write, granted or refused, leaves a consistent volume
    pub write-consistent : Consistent B (write B img h o bs).image
    unfolding request
    write-consistent =
        consistent-to B sz img (write B img h o bs).image ok
        (request-length B pos img p ok.sound (wr h o bs))
        (sym (view-head B (write B img h o bs).image) ∙ ap (λ (v : View). v.head) (request-view B pos img p ok.sound (wr h o bs)) ∙ view-head B img)
        (request-sound B pos img p ok.sound (wr h o bs))

    pub write-changes : T (granted (write B img h o bs).answer) → (j : List ℕ) → contents B (write B img h o bs).image j ≡ change h (map (over o bs)) (contents B img) j
    unfolding request put_of
    write-changes g j =
        let s : ℕ = slot_for B (view B img) h in
        let low : slot_for B (view B img) h < slots B = write_granted B img p h o bs g in
        let at : slot_of B (view B img) h ≡ slot_for B (view B img) h = sym (slot_for-hit B (view B img) h low).1 in
        let hit = slot-hit B (view B img) h (subst (λ (x : ℕ). x < slots B) (sym at) low) in
        ap (λ (x : List ℕ). contents B x j) (request-image B img p (wr h o bs))
        ∙ write-contents B pos img ok.sound s (subst (File B (view B img)) at hit.0) o bs j
        ∙ change-at (name (view B img) s) h (map (over o bs)) (contents B img) (subst (λ (x : ℕ). T (same_name (name (view B img) x) h)) at hit.1) j

  pub changed : (img : List ℕ) → Consistent B img → (c : Change) → T (granted (perform B img c).answer) → Changed B img c
  unfolding perform
  changed img ok (creates nm z) g =
      let p : Passed B img = (check-means B sz img).1 ok in
      let gr : CreateGrant B (view B img) nm z = create-granted B img p nm z g in
      let e : (create B img nm z).image ≡ store_all B img (create_stores B (view B img) nm z) = create-image B img p nm z g in
      record {
        consistent = subst (Consistent B) (sym e) (create-consistent B sz img ok nm z gr);
        contents = λ j. (ap (λ (x : List ℕ). contents B x j) e ∙ create-contents B sz img ok nm z gr j);
      }
  changed img ok (removes nm) g =
      let p : Passed B img = (check-means B sz img).1 ok in
      let hit : slot_of B (view B img) nm < slots B = remove-granted B img p nm g in
      let e : (remove B img nm).image ≡ store_all B img (remove_stores B (view B img) nm) = remove-image B img p nm g in
      record {
        consistent = subst (Consistent B) (sym e) (remove-consistent B sz img ok nm hit);
        contents = λ j. (ap (λ (x : List ℕ). contents B x j) e ∙ remove-contents B sz img ok nm hit j);
      }
  changed img ok (writes nm o bs) g =
      record { consistent = write-consistent img ok nm o bs; contents = write-changes img ok nm o bs g }

  -- "The volume stays consistent", whatever is asked
  pub stays-consistent : (img : List ℕ) → Consistent B img → (c : Change) → Consistent B (perform B img c).image
  stays-consistent img ok c =
      by-test (granted (perform B img c).answer)
      (λ t. (changed img ok c t).consistent)
      (λ t. subst (Consistent B) (sym (refused-keeps B img c t)) ok)
