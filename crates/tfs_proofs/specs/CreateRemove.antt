-- A granted create, then a remove of that name: the map is back byte for byte, of the directory each slot's inode number and name.
use Rattle.std.specs.Prelude.{◌≡◌, ◌≢◌, ◌⊎◌, ℕ, suc, ◌+◌, ◌*◌, ◌≤◌, ◌<◌, List, [], ◌∷◌, length, get_or, T}
use Rattle.std.proofs.Common.{sym, ap, ap₂, ◌∙◌, subst, arith, ext_get_or}
use Rattle.std.proofs.Math.Decide.{ℕ_discrete}
use Rattle.lists.specs.Lists.{zeros, table, part}
use Rattle.list_laws.specs.Test.{zeros-byte}
use Rattle.list_laws.specs.Table.{table-cong, table-get_or}
use Rattle.list_laws.specs.Part.{length_part, get_or-part}
use Rattle.tfs_spec.specs.Layout.{BlockSize, slots, block, slot, slot_inode, slot_name, set_bits, map_bit, need, name_allowed, View, view, view_n, free, inode, name, size, number, slot_of, free_slot}
use Rattle.tfs_spec.specs.Check.{file_claims}
use Rattle.tfs_spec.specs.Consistent.{Consistent}
use Rattle.tfs_facts.specs.Lookups.{lookup-there}
use Rattle.tfs_facts.specs.CheckMeans.{check-means}
use Rattle.tfs_spec.specs.Requests.{Answer, done, refused, granted, Outcome, store_all, create, create_stores, chosen, Lookup, looked, remove_view, remove_stores, remove, stored}
use Rattle.tfs_spec.specs.Answers.{Stands}
use Rattle.tfs_spec.specs.Effects.{SameSlot, RemoveTouch, CreateTouch}
use Rattle.tfs_spec.specs.Laws.{undone, BackLaw}
use Rattle.tfs_facts.specs.Slots.{free-number, free-name, zeros-free}
use Rattle.tfs_facts.specs.Stores.{length-block}
use Rattle.tfs_facts.specs.Views.{view-map}
use Rattle.tfs_facts.specs.MapBits.{in-at, Distinct, set_bits-undo}
use Rattle.tfs_facts.specs.Names.{slot_is, free-hit, claims-is, name-refl}
use Rattle.tfs_facts.specs.Chosen.{CreateGrant, choice}
use Rattle.tfs_proofs.specs.Creates as made
use Rattle.tfs_proofs.specs.Removes as removed
use Rattle.tfs_proofs.specs.SlotBytes.{slot_kept, dir-long, same-slot}
use Rattle.tfs_proofs.specs.Touches.{remove-touches, created-touch}
use Rattle.tfs_proofs.specs.Changes.{Passed, create-granted, create-image, remove-is}

-- a list without repeats
distinct_of : (l : List ℕ) → ((m j : ℕ) → m < j → j < length l → get_or l m 0 ≢ get_or l j 0) → Distinct l
distinct_of [] h = tt
distinct_of (x ∷ xs) h = (
  (λ i. let r = in-at xs x i in h 0 (suc r.0) (omega arith) (omega (arith, r.1)) (sym r.2)),
  distinct_of xs (λ m j a b. h (suc m) (suc j) (omega arith) (omega arith)),
)

module _ (B : ℕ) (sz : BlockSize B) (img : List ℕ) (ok : Consistent B img) (nm : List ℕ) (z : ℕ) (g : T (granted (create B img nm z).answer)) where
  passed : Passed B img
  passed = (check-means B sz img).1 ok

  gr : CreateGrant B (view B img) nm z
  gr = create-granted B img passed nm z g

  abbrev mid : List ℕ
  mid = store_all B img (create_stores B (view B img) nm z)

  ok-mid : Consistent B mid
  ok-mid = made.create-consistent B sz img ok nm z gr

  abbrev v : View
  v = view B img

  abbrev v' : View
  v' = view B mid

  abbrev s : ℕ
  s = free_slot B v

  -- the created name is in that slot
  pub at_slot : slot_of B v' nm ≡ s
  at_slot =
      slot_is B v' nm (made.apart' B sz img ok nm z gr) s (made.new-file B sz img ok nm z gr)
      (subst (λ (x : List ℕ). T (Rattle.tfs_spec.specs.Layout.same_name x nm)) (sym (made.new-name B sz img ok nm z gr)) (name-refl nm))

  pub hit : slot_of B v' nm < slots B
  hit = subst (λ (x : ℕ). x < slots B) (sym at_slot) gr.slot

  -- the created file claims the chosen blocks
  claims-chosen : file_claims B v' s ≡ chosen B v z
  claims-chosen =
      claims-is B v' s (made.new-file B sz img ok nm z gr) ∙ (λ j. made.new-number B sz img ok nm z gr j ∷ listed j) ∙ sym (made.cs-is B sz img ok nm z gr)
    where
      bs : List ℕ
      bs = made.bs B sz img ok nm z gr

      listed : table (number v' s) 0 (need B (size v' s)) ≡ bs
      listed =
          ap (λ (x : ℕ). table (number v' s) 0 (need B x)) (made.new-size B sz img ok nm z gr)
          ∙ table-cong (number v' s) (λ k. get_or bs k 0) 0 (need B z) (λ k a l. made.new-at B sz img ok nm z gr k (omega arith))
          ∙ ap (λ (x : ℕ). table (λ k. get_or bs k 0) 0 x) (sym (made.length-bs B sz img ok nm z gr))
          ∙ table-get_or bs 0

  map_back : block B (store_all B mid (remove_stores B v' nm)) 1 ≡ block B img 1
  map_back =
      let cs : List ℕ = chosen B v z in
      removed.new-map B sz mid ok-mid nm hit
      ∙ ap₂ (λ (m c : List ℕ). set_bits m 0 c) (made.bits_is B sz img ok nm z gr) (ap (file_claims B v') at_slot ∙ claims-chosen)
      ∙ set_bits-undo (chosen B v z) v.map
      (distinct_of (chosen B v z) (λ m j a b e. omega (arith, (choice B v ok.sound z gr.room).rising m j a b)))
      (made.cs-mapped B sz img ok nm z gr)
      (λ b i.
      let r = in-at (chosen B v z) b i in
      ap (map_bit v.map) (sym r.2) ∙ ((choice B v ok.sound z gr.room).cs-free r.0 r.1).clear)
      ∙ view-map B img

remove-yes : (B : ℕ) (v : View) (nm : List ℕ) → T (name_allowed nm) → slot_of B v nm < slots B → remove_view B v nm ≡ done
unfolding remove_view
remove-yes B v nm t h =
    ap (λ (x : Lookup). looked x refused (λ s. done)) (lookup-there B v nm t h)

-- the created file stands in the lowest free slot
pub created-stands : (B : ℕ) → BlockSize B → (img : List ℕ) → Consistent B img → (nm : List ℕ) (z : ℕ) → T (granted (create B img nm z).answer) → Stands B (view B (create B img nm z).image) nm (free_slot B (view B img))
created-stands B sz img ok nm z g =
    subst (λ (x : List ℕ). Stands B (view B x) nm (free_slot B (view B img))) (sym (create-image B img ((check-means B sz img).1 ok) nm z g))
    (record { file = made.new-file B sz img ok nm z (gr B sz img ok nm z g); named = made.new-name B sz img ok nm z (gr B sz img ok nm z g) })

-- a slot of zero bytes
slot-zeros : (B : ℕ) (img : List ℕ) (s : ℕ) → 3 * B ≤ length img → s < slots B → ((i : ℕ) → i < 20 → get_or (block B img 2) (s * 20 + i) 0 ≡ 0) → slot (block B img 2) s ≡ zeros 20
unfolding slot
slot-zeros B img s l h z =
    let long : length (part (s * 20) 20 (block B img 2)) ≡ 20 = length_part (s * 20) 20 (block B img 2) (omega (arith, length-block B img 2 (removed.low-inside B img l 2 (omega arith)))) in
    ext_get_or 0 (part (s * 20) 20 (block B img 2)) (zeros 20) long
    (λ i k. get_or-part (s * 20) 20 (block B img 2) i (omega arith) ∙ z i (omega arith) ∙ sym (zeros-byte 20 i))

-- a slot that was free, and one of zeros, have one inode number and one name
zeroed-slot : (B : ℕ) (img new : List ℕ) (s : ℕ) → T (free (view B img) s) → slot (block B new 2) s ≡ zeros 20 → SameSlot B new img s
unfolding free inode name view view_n
zeroed-slot B img new s t z = (
  ap slot_inode z ∙ free-number (zeros 20) zeros-free ∙ sym (free-number (slot (block B img 2) s) t),
  ap slot_name z ∙ free-name (zeros 20) zeros-free ∙ sym (free-name (slot (block B img 2) s) t),
)

pub back-law : (B : ℕ) → BlockSize B → (img : List ℕ) → Consistent B img → (nm : List ℕ) (z : ℕ) → T (granted (create B img nm z).answer) → (s : ℕ) × BackLaw B img nm z s
back-law B sz img ok nm z g = (
  s,
  record {
    answer = ap (λ (x : List ℕ). (remove B x nm).answer) e ∙ ap (λ (o : Outcome). o.answer) is;
    map = ap (λ (x : List ℕ). block B (remove B x nm).image 1) e ∙ ap (λ (o : Outcome). block B o.image 1) is ∙ map_back B sz img ok nm z g;
    slots_same = λ t h.
        elim (ℕ_discrete t s) [
          | yes i ↦ subst (SameSlot B (undone B img nm z) img) (sym i) (zeroed-slot B img (undone B img nm z) s (free-hit B (view B img) (gr B sz img ok nm z g).slot) zeroed)
          | no d ↦ same-slot B (undone B img nm z) img t (slot_kept s t (block B (undone B img nm z) 2) (block B img 2) (dir-long B (undone B img nm z) img ok.long long) d others)
        ];
    stood = stood;
    zeroed = zeroed;
    others = others;
  },
)
  where
    m : List ℕ
    m = store_all B img (create_stores B (view B img) nm z)

    s : ℕ
    s = free_slot B (view B img)

    e : (create B img nm z).image ≡ m
    e = create-image B img ((check-means B sz img).1 ok) nm z g

    yes-answer : remove_view B (view B m) nm ≡ done
    yes-answer = remove-yes B (view B m) nm (gr B sz img ok nm z g).named (hit B sz img ok nm z g)

    is : remove B m nm ≡ record { answer = done; image = store_all B m (remove_stores B (view B m) nm); buffer = [] }
    is =
        remove-is B m ((check-means B sz m).1 (ok-mid B sz img ok nm z g)) nm
        ∙ ap (λ (a : Answer). stored B m a (remove_stores B (view B m) nm)) yes-answer

    stood : Stands B (view B (create B img nm z).image) nm s
    stood = created-stands B sz img ok nm z g

    first : CreateTouch B img (create B img nm z).image nm z (get_or (chosen B (view B img) z) 0 0) s (chosen B (view B img) z)
    first = created-touch B sz img ok nm z g

    then : RemoveTouch B (create B img nm z).image (undone B img nm z) s
    then = remove-touches B sz (create B img nm z).image (subst (Consistent B) (sym e) (ok-mid B sz img ok nm z g)) nm s stood

    long : length (undone B img nm z) ≡ length img
    long = then.long ∙ first.long

    others : (i : ℕ) → (i < s * 20) ⊎ (s * 20 + 20 ≤ i) → get_or (block B (undone B img nm z) 2) i 0 ≡ get_or (block B img 2) i 0
    others i h = then.entries i h ∙ first.entries i h

    zeroed : slot (block B (undone B img nm z) 2) s ≡ zeros 20
    zeroed = slot-zeros B (undone B img nm z) s (omega (arith, ok.long, long)) (gr B sz img ok nm z g).slot then.zeroed
