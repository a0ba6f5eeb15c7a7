-- A cut behind any store of a create, a remove or a write leaves the files of before or after, and mend makes the volume consistent.
use Rattle.std.specs.Prelude.{◌≡◌, ◌≢◌, ◌⊎◌, Bool, not, cond, length, get_or, take, ltb, eqb}
use Rattle.std.proofs.Math.Path.{refl, sym, ap, subst}
use Rattle.std.proofs.Common.{◌∙◌, inl, inr, ⊎_elim, arith, take_all, ltb→lt, nltb→le}
use Rattle.std.proofs.Math.Bool.{true, false}
use Prim.Native.Nat.{ℕ, zero, suc, ◌+◌, ◌-◌, ◌*◌, ◌/◌, ◌≤◌, ◌<◌}
use mathlib.Core.List.{List, [], ◌∷◌, ◌++◌}
use Rattle.std.proofs.Math.Decide.{dec_lt}
use Rattle.std.proofs.Math.Dec.{T}
use Rattle.lists.specs.Lists.{In}
use Rattle.list_laws.specs.Test.{by-test, cond_yes, cond_no, neqb-of}
use Rattle.tfs_spec.specs.Layout.{BlockSize, slots, need, block, set_bits, map_bit, view, size, slot_of}
use Rattle.tfs_spec.specs.Check.{file_claims}
use Rattle.tfs_spec.specs.Consistent.{Inside, Consistent}
use Rattle.tfs_spec.specs.Requests.{refused, transferred, granted, Store, store_all, zero_stores, remove_stores, remove, Lookup, looked, transfer_answer, write, Change, creates, removes, writes, perform, stores_of, cut, changes, Operation, requests, operate, after_all}
use Rattle.tfs_spec.specs.Cuts.{Leaves, reached, CutLaws}
use Rattle.tfs_facts.specs.CheckMeans.{owns-inside, check-means}
use Rattle.tfs_facts.specs.Names.{slot-hit, claims-owner}
use Rattle.tfs_facts.specs.Lookups.{by-lookup}
use Rattle.tfs_facts.specs.MapBits.{in-dec, at_in, above-set-all}
use Rattle.tfs_facts.specs.Views.{view-map}
use Rattle.tfs_facts.specs.Chosen.{CreateGrant, choice}
use Rattle.tfs_proofs.specs.Creates as made
use Rattle.tfs_proofs.specs.Removes as removed
use Rattle.tfs_proofs.specs.WriteStores as pieces
use Rattle.tfs_proofs.specs.Transfers.{transfer_view, write-answer}
use Rattle.tfs_proofs.specs.Changes.{Passed, create-granted, remove-granted, remove-image, refused-keeps, stays-consistent}
use Rattle.tfs_proofs.specs.Prefixes.{nth, away-all, away-take, prefix-new, prefix-old, prefix-away, prefix-long}
use Rattle.tfs_proofs.specs.Storing.{Stored, stored, create-stores, length-zero, nth-zero, nth_left, nth_right, cut-granted, WriteGrant, write-grant}
use Rattle.tfs_proofs.specs.SameButMap.{leaves}
use Rattle.tfs_proofs.specs.Frame.{n-same}
use Rattle.tfs_proofs.specs.Histories.{all-consistent}
use Rattle.tfs_proofs.specs.Filled.{blank, filled}

-- a consistent volume as it is
itself : (B : ℕ) → BlockSize B → (img : List ℕ) → Consistent B img → Leaves B img img
itself B sz img ok =
    leaves B sz img img ok (record { long = refl; head = refl; dir = refl; owned = λ o b w. refl })
    (λ b h t. subst (λ (x : List ℕ). T (map_bit x b)) (view-map B img) t) (λ b h. refl) (λ i. refl)

-- ---- create, cut before its last store
module _ (B : ℕ) (sz : BlockSize B) (img : List ℕ) (ok : Consistent B img) (nm : List ℕ) (z : ℕ) (g : T (granted (perform B img (creates nm z)).answer)) (j : ℕ) (early : j < need B z + 3) where
  gr : CreateGrant B (view B img) nm z
  unfolding perform
  gr = create-granted B img ((check-means B sz img).1 ok) nm z g

  abbrev bs : List ℕ
  bs = made.bs B sz img ok nm z gr

  abbrev cs : List ℕ
  cs = made.cs B sz img ok nm z gr

  abbrev zs : List Store
  zs = zero_stores B bs

  abbrev ls : List Store
  ls = made.lasts B sz img ok nm z gr

  abbrev xs : List Store
  xs = stores_of B img (creates nm z)

  know : Stored B img (creates nm z)
  know = stored B sz img ok (creates nm z) g

  abbrev new : List ℕ
  new = cut B img (creates nm z) j

  new_is : new ≡ store_all B img (take j xs)
  new_is = cut-granted B sz img ok (creates nm z) g j

  xs-is : xs ≡ zs ++ ls
  xs-is = create-stores B sz img ok nm z gr

  length-zs : length zs ≡ need B z
  length-zs = length-zero B bs ∙ made.length-bs B sz img ok nm z gr

  long-xs : length xs ≡ need B z + 3
  long-xs = know.number

  last : (i : ℕ) → nth xs (need B z + i) ≡ nth ls i
  last i =
      ap (λ (x : List Store). nth x (need B z + i)) xs-is ∙ ap (λ (n : ℕ). nth (zs ++ ls) (n + i)) (sym length-zs) ∙ nth_right zs ls i

  -- a block that is not chosen, and is neither 1 nor 2
  away : (b : ℕ) → (In b cs → ⊥) → b ≢ 1 → b ≢ 2 → block B new b ≡ block B img b
  away b d d1 d2 =
      ap (λ (x : List ℕ). block B x b) new_is
      ∙ prefix-away B xs img j b know.fits
      (away-take b xs j (away-all b xs (λ i l e. each i (omega (arith, long-xs)) e (dec_lt i (need B z)))))
    where
      each : (i : ℕ) → i < need B z + 3 → b ≡ (nth xs i).at → Dec (i < need B z) → ⊥
      each i l e (yes h) =
          let k : i < length bs = omega (arith, made.length-bs B sz img ok nm z gr) in
          let here : (nth xs i).at ≡ get_or bs i 0 = ap (λ (x : List Store). (nth x i).at) xs-is ∙ ap (λ (x : Store). x.at) (nth_left zs ls i (omega (arith, length-zs))) ∙ nth-zero B bs i k in
          d (subst (λ (x : ℕ). In x cs) (sym (e ∙ here ∙ made.at-bs B sz img ok nm z gr i)) (at_in cs (suc i) (omega (arith, (choice B (view B img) ok.sound z gr.room).length-cs))))
      each i l e (no h) = tail (i - need B z) (omega arith) (e ∙ ap (λ (x : Store). x.at) (ap (nth xs) at ∙ last (i - need B z)))
        where
          at : i ≡ need B z + (i - need B z)
          at = omega arith

          tail : (k : ℕ) → k < 3 → b ≡ (nth ls k).at → ⊥
          tail zero m q = d (subst (λ (x : ℕ). In x cs) (sym q) (at_in cs 0 (omega (arith, (choice B (view B img) ok.sound z gr.room).length-cs))))
          tail (suc zero) m q = d1 q
          tail (suc (suc zero)) m q = d2 q
          tail (suc (suc (suc k))) m q = omega arith

  -- the directory is the last store
  dir-old : block B new 2 ≡ block B img 2
  dir-old =
      ap (λ (x : List ℕ). block B x 2) new_is
      ∙ ap (block B (store_all B img (take j xs))) (sym (ap (λ (x : Store). x.at) (last 2)))
      ∙ prefix-old B xs img j (need B z + 2) know.fits know.apart (omega arith) (omega (arith, long-xs))
      ∙ ap (λ (x : Store). block B img x.at) (last 2)

  -- the map is the one before it
  map_is : (block B new 1 ≡ block B img 1) ⊎ (block B new 1 ≡ set_bits (view B img).map 1 cs)
  map_is =
      elim (dec_lt (need B z + 1) j) [
        | yes l ↦ inr (ap (λ (x : List ℕ). block B x 1) new_is
            ∙ ap (block B (store_all B img (take j xs))) (sym (ap (λ (x : Store). x.at) (last 1)))
            ∙ prefix-new B xs img j (need B z + 1) know.fits know.apart l (omega (arith, long-xs))
            ∙ ap (λ (x : Store). x.bytes) (last 1)
            ∙ ap (set_bits (view B img).map 1) (sym (made.cs-is B sz img ok nm z gr)))
        | no l ↦ inl (ap (λ (x : List ℕ). block B x 1) new_is
            ∙ ap (block B (store_all B img (take j xs))) (sym (ap (λ (x : Store). x.at) (last 1)))
            ∙ prefix-old B xs img j (need B z + 1) know.fits know.apart (omega arith) (omega (arith, long-xs))
            ∙ ap (λ (x : Store). block B img x.at) (last 1))
      ]

  -- bits of chosen blocks alone may be set
  bit_in : (b : ℕ) → In b cs → T (map_bit (set_bits (view B img).map 1 cs) b)
  bit_in b p = subst (λ (m : List ℕ). T (map_bit m b)) (made.bits_is B sz img ok nm z gr) (made.bit_in B sz img ok nm z gr b p)

  bit-out : (b : ℕ) → (In b cs → ⊥) → map_bit (set_bits (view B img).map 1 cs) b ≡ map_bit (view B img).map b
  bit-out b d = ap (λ (m : List ℕ). map_bit m b) (sym (made.bits_is B sz img ok nm z gr)) ∙ made.bit-out B sz img ok nm z gr b d

  more : (b : ℕ) → b < (view B img).n → T (map_bit (view B img).map b) → T (map_bit (block B new 1) b)
  more b h t =
      ⊎_elim
      (λ e. subst (λ (m : List ℕ). T (map_bit m b)) (view-map B img ∙ sym e) t)
      (λ e. subst (λ (m : List ℕ). T (map_bit m b)) (sym e) (elim (in-dec b cs) [ yes p ↦ bit_in b p | no d ↦ subst T (sym (bit-out b d)) t ]))
      map_is

  beyond : (b : ℕ) → (view B img).n ≤ b → map_bit (block B new 1) b ≡ map_bit (block B img 1) b
  beyond b h =
      ⊎_elim
      (λ e. ap (λ (m : List ℕ). map_bit m b) e)
      (λ e. ap (λ (m : List ℕ). map_bit m b) e ∙ bit-out b (λ p. omega (arith, (made.picked B sz img ok nm z gr b p).inside.high)) ∙ ap (λ (m : List ℕ). map_bit m b) (view-map B img))
      map_is

  above : (i : ℕ) → get_or (block B new 1) i 0 / 256 ≡ get_or (block B img 1) i 0 / 256
  above i =
      ⊎_elim
      (λ e. ap (λ (m : List ℕ). get_or m i 0 / 256) e)
      (λ e.
      ap (λ (m : List ℕ). get_or m i 0 / 256) e
      ∙ above-set-all cs (view B img).map 1 (made.cs-mapped B sz img ok nm z gr) (omega arith) i
      ∙ ap (λ (m : List ℕ). get_or m i 0 / 256) (view-map B img))
      map_is

  create-leaves : Leaves B (cut B img (creates nm z) j) img
  create-leaves =
      leaves B sz img new ok
      (record {
        long = ap length new_is ∙ prefix-long B xs img j know.fits;
        head = away 0 (λ p. omega (arith, (made.picked B sz img ok nm z gr 0 p).inside.low)) (λ e. omega arith) (λ e. omega arith);
        dir = dir-old;
        owned = λ o b w.
            (let i : Inside (view B img) b = owns-inside B (view B img) ok.sound o b w in
            away b (λ p. (made.picked B sz img ok nm z gr b p).unowned (o, w)) (λ e. omega (arith, i.low)) (λ e. omega (arith, i.low)));
      }) more beyond above

-- ---- remove, cut between its two stores
module _ (B : ℕ) (sz : BlockSize B) (img : List ℕ) (ok : Consistent B img) (nm : List ℕ) (g : T (granted (perform B img (removes nm)).answer)) where
  hit : slot_of B (view B img) nm < slots B
  unfolding perform
  hit = remove-granted B img ((check-means B sz img).1 ok) nm g

  abbrev base : List ℕ
  base = removed.new B sz img ok nm hit

  ok-base : Consistent B base
  ok-base = removed.remove-consistent B sz img ok nm hit

  knew : Stored B img (removes nm)
  knew = stored B sz img ok (removes nm) g

  abbrev ys : List Store
  ys = stores_of B img (removes nm)

  abbrev half : List ℕ
  half = store_all B img (take 1 ys)

  half-other : (b : ℕ) → b ≢ 2 → block B half b ≡ block B img b
  unfolding remove_stores
  half-other b d = prefix-away B ys img 1 b knew.fits (d, tt)

  half-dir : block B half 2 ≡ block B base 2
  unfolding remove_stores
  half-dir = prefix-new B ys img 1 0 knew.fits knew.apart (omega arith) (omega arith) ∙ sym (removed.new-dir B sz img ok nm hit)

  claims-inside : (b : ℕ) → In b (file_claims B (view B img) (slot_of B (view B img) nm)) → Inside (view B img) b
  claims-inside b i =
      let o = claims-owner B (view B img) (slot_of B (view B img) nm) b (slot-hit B (view B img) nm hit).0 i in
      owns-inside B (view B img) ok.sound o.0 b o.2

  same-n : (view B base).n ≡ (view B img).n
  same-n = n-same B img base (slot_of B (view B img) nm) (removed.frame B sz img ok nm hit)

  half-leaves : Leaves B half base
  half-leaves =
      leaves B sz base half ok-base
      (record {
        long = prefix-long B ys img 1 knew.fits ∙ sym (removed.frame B sz img ok nm hit).long;
        head = half-other 0 (λ e. omega arith) ∙ sym (removed.kept B sz img ok nm hit 0 (λ e. omega arith) (λ e. omega arith));
        dir = half-dir;
        owned = λ o b w.
            (let i : Inside (view B base) b = owns-inside B (view B base) ok-base.sound o b w in
            half-other b (λ e. omega (arith, i.low)) ∙ sym (removed.kept B sz img ok nm hit b (λ e. omega (arith, i.low)) (λ e. omega (arith, i.low))));
      })
      (λ b h t.
      elim (in-dec b (file_claims B (view B img) (slot_of B (view B img) nm))) [
        | yes i ↦ absurd (subst T (removed.bit_in B sz img ok nm hit b i) t)
        | no d ↦ subst T (removed.bit-out B sz img ok nm hit b d ∙ ap (λ (m : List ℕ). map_bit m b) (view-map B img ∙ sym (half-other 1 (λ e. omega arith)))) t
      ])
      (λ b h.
      ap (λ (m : List ℕ). map_bit m b) (half-other 1 (λ e. omega arith) ∙ sym (view-map B img))
      ∙ sym (removed.bit-out B sz img ok nm hit b (λ i. omega (arith, (claims-inside b i).high, same-n)))
      ∙ ap (λ (m : List ℕ). map_bit m b) (view-map B base))
      (λ i.
      ap (λ (m : List ℕ). get_or m i 0 / 256) (half-other 1 (λ e. omega arith) ∙ sym (view-map B img))
      ∙ sym (above-set-all (file_claims B (view B img) (slot_of B (view B img) nm)) (view B img).map 0 (removed.claims-mapped B sz img ok nm hit) (omega arith) i)
      ∙ ap (λ (m : List ℕ). get_or m i 0 / 256) (sym (removed.new-map B sz img ok nm hit)))

-- ---- any cut of one request
module _ (B : ℕ) (sz : BlockSize B) (img : List ℕ) (ok : Consistent B img) where
  passed : Passed B img
  passed = (check-means B sz img).1 ok

  cut-refused : (c : Change) (j : ℕ) → T (not (granted (perform B img c).answer)) → cut B img c j ≡ img
  unfolding cut
  cut-refused c j t = cond_no (granted (perform B img c).answer) _ img t

  -- all stores are the request
  cut-whole : (c : Change) (j : ℕ) → T (granted (perform B img c).answer) → length (stores_of B img c) ≤ j → cut B img c j ≡ (perform B img c).image
  cut-whole c j g h = cut-granted B sz img ok c g j ∙ ap (store_all B img) (take_all j (stores_of B img c) h) ∙ (stored B sz img ok c g).all

  done : (c : Change) → Leaves B (perform B img c).image (perform B img c).image
  done c = itself B sz (perform B img c).image (stays-consistent B sz img ok c)

  unchanged : (c : Change) → T (not (granted (perform B img c).answer)) → (perform B img c).image ≡ img
  unchanged c t = refused-keeps B img c t

  one : (c : Change) → after_all B img (requests (changes c) ∷ []) ≡ (perform B img c).image
  unfolding after_all
  one c = refl

  none : after_all B img [] ≡ img
  unfolding after_all
  none = refl

  -- whether a write is granted does not depend on its bytes
  grant-any : (nm : List ℕ) (o : ℕ) (a b : List ℕ) → granted (write B img nm o a).answer ≡ granted (write B img nm o b).answer
  unfolding transfer_view transfer_answer
  grant-any nm o a b =
      ap granted (write-answer B img nm o a passed)
      ∙ by-lookup B (view B img) nm (λ (x : Lookup). granted (looked x refused (λ s. transfer_answer B (view B img) s o (length a))) ≡ granted (looked x refused (λ s. transfer_answer B (view B img) s o (length b))))
      (λ _. refl) (λ _ _. refl) (λ _ _. either (ltb (size (view B img) (slot_of B (view B img) nm)) o) _ _ _ _)
      ∙ sym (ap granted (write-answer B img nm o b passed))
    where
      either : (x : Bool) (c d e f : ℕ) → granted (cond x (refused 15 0) (transferred c d)) ≡ granted (cond x (refused 15 0) (transferred e f))
      either true c d e f = refl
      either false c d e f = refl

  -- a cut write is a shorter one
  cut-write : (nm : List ℕ) (o : ℕ) (bs : List ℕ) (j : ℕ) → cut B img (writes nm o bs) j ≡ (write B img nm o (take ((o / B + j) * B - o) bs)).image
  unfolding perform
  cut-write nm o bs j =
      by-test (granted (write B img nm o bs).answer)
      (λ g.
      let w : WriteGrant B img nm o bs = write-grant B img passed nm o bs g in
      cut-granted B sz img ok (writes nm o bs) g j
      ∙ pieces.cut-is B (omega (arith, sz.large)) img ok.sound (slot_of B (view B img) nm) (slot-hit B (view B img) nm w.low).0 o bs w.reach j
      ∙ sym (w.image (take ((o / B + j) * B - o) bs)))
      (λ t.
      cut-refused (writes nm o bs) j t
      ∙ sym (refused-keeps B img (writes nm o (take ((o / B + j) * B - o) bs)) (subst (λ (x : Bool). T (not x)) (grant-any nm o bs (take ((o / B + j) * B - o) bs)) t)))

  write-reached : (nm : List ℕ) (o : ℕ) (bs : List ℕ) (j : ℕ) → cut B img (writes nm o bs) j ≡ after_all B img (reached B (writes nm o bs) j)
  unfolding perform
  write-reached nm o bs j = cut-write nm o bs j ∙ sym (one (writes nm o (take ((o / B + j) * B - o) bs)))

  -- a refused request is not cut
  refused-leaves : (c : Change) (j : ℕ) (b : Bool) → T (not (granted (perform B img c).answer)) → Leaves B (cut B img c j) (after_all B img (cond b [] (requests (changes c) ∷ [])))
  refused-leaves c j true t =
      subst (λ (x : List ℕ). Leaves B x (after_all B img [])) (sym (cut-refused c j t)) (subst (λ (x : List ℕ). Leaves B img x) (sym none) (itself B sz img ok))
  refused-leaves c j false t =
      subst (λ (x : List ℕ). Leaves B x (after_all B img (requests (changes c) ∷ []))) (sym (cut-refused c j t)) (subst (λ (x : List ℕ). Leaves B img x) (sym (one c ∙ unchanged c t)) (itself B sz img ok))

  -- behind all stores
  whole-leaves : (c : Change) (j : ℕ) (b : Bool) → T (not b) → T (granted (perform B img c).answer) → length (stores_of B img c) ≤ j → Leaves B (cut B img c j) (after_all B img (cond b [] (requests (changes c) ∷ [])))
  whole-leaves c j b t g h =
      subst (λ (x : List ℕ). Leaves B x (after_all B img (cond b [] (requests (changes c) ∷ [])))) (sym (cut-whole c j g h))
      (subst (λ (x : List ℕ). Leaves B (perform B img c).image x) (sym (ap (after_all B img) (cond_no b [] _ t) ∙ one c)) (done c))

  -- before any of them
  old-leaves : (c : Change) (x : List ℕ) (b : Bool) → T b → Leaves B x img → Leaves B x (after_all B img (cond b [] (requests (changes c) ∷ [])))
  old-leaves c x b t l = subst (Leaves B x) (sym (ap (after_all B img) (cond_yes b [] _ t) ∙ none)) l

  remove-leaves : (nm : List ℕ) (j : ℕ) → T (granted (perform B img (removes nm)).answer) → Leaves B (cut B img (removes nm) j) (after_all B img (reached B (removes nm) j))
  unfolding perform
  remove-leaves nm zero g =
      old-leaves (removes nm) (cut B img (removes nm) 0) (eqb 0 0) tt (subst (λ (x : List ℕ). Leaves B x img) (sym (cut-granted B sz img ok (removes nm) g 0)) (itself B sz img ok))
  remove-leaves nm (suc zero) g =
      let e : (remove B img nm).image ≡ store_all B img (remove_stores B (view B img) nm) = remove-image B img passed nm g in
      subst (λ (x : List ℕ). Leaves B x (after_all B img (reached B (removes nm) 1))) (sym (cut-granted B sz img ok (removes nm) g 1))
      (subst (Leaves B (store_all B img (take 1 (stores_of B img (removes nm))))) (sym (ap (after_all B img) (cond_no (eqb 1 0) [] _ tt) ∙ one (removes nm) ∙ e)) (half-leaves B sz img ok nm g))
  remove-leaves nm (suc (suc j)) g = whole-leaves (removes nm) (suc (suc j)) (eqb (suc (suc j)) 0) (neqb-of (suc (suc j)) 0 (λ e. omega arith)) g (omega (arith, (stored B sz img ok (removes nm) g).number))

  cut-leaves : (c : Change) (j : ℕ) → Leaves B (cut B img c j) (after_all B img (reached B c j))
  cut-leaves (creates nm z) j =
      by-test (granted (perform B img (creates nm z)).answer)
      (λ g.
      by-test (ltb j (need B z + 3))
      (λ t. old-leaves (creates nm z) (cut B img (creates nm z) j) (ltb j (need B z + 3)) t (create-leaves B sz img ok nm z g j (ltb→lt j (need B z + 3) t)))
      (λ t. whole-leaves (creates nm z) j (ltb j (need B z + 3)) t g (omega (arith, (stored B sz img ok (creates nm z) g).number, nltb→le j (need B z + 3) t))))
      (λ t. refused-leaves (creates nm z) j (ltb j (need B z + 3)) t)
  cut-leaves (removes nm) j =
      by-test (granted (perform B img (removes nm)).answer) (remove-leaves nm j) (λ t. refused-leaves (removes nm) j (eqb j 0) t)
  cut-leaves (writes nm o bs) j =
      subst (λ (x : List ℕ). Leaves B x (after_all B img (reached B (writes nm o bs) j))) (sym (write-reached nm o bs j))
      (itself B sz (after_all B img (reached B (writes nm o bs) j)) (subst (Consistent B) (sym (one (writes nm o (take ((o / B + j) * B - o) bs)))) (stays-consistent B sz img ok (writes nm o (take ((o / B + j) * B - o) bs)))))

-- ---- in a list of requests
after-append : (B : ℕ) (xs ys : List Operation) (img : List ℕ) → after_all B img (xs ++ ys) ≡ after_all B (after_all B img xs) ys
unfolding after_all
after-append B [] ys img = refl
after-append B (x ∷ xs) ys img = after-append B xs ys (operate B img x).image

pub cut-law : (B : ℕ) → BlockSize B → (img : List ℕ) → Consistent B img → CutLaws B img
cut-law B sz img ok = record {
  leaves = λ xs c j. subst (Leaves B (cut B (after_all B img xs) c j)) (sym (after-append B xs (reached B c j) img)) (cut-leaves B sz (after_all B img xs) (all-consistent B sz xs img ok) c j);
  blank = λ nm z k g. blank B sz img ok nm z g k;
  filled = λ nm z bs g. filled B sz img ok nm z g bs;
  shorter = short;
  still = λ xs nm o bs j.
      (check-means B sz (cut B (after_all B img xs) (writes nm o bs) j)).1
      (subst (Consistent B) (sym (short xs nm o bs j)) (all-consistent B sz (xs ++ reached B (writes nm o bs) j) img ok));
}
  where
    short : (xs : List Operation) (nm : List ℕ) (o : ℕ) (bs : List ℕ) (j : ℕ) → cut B (after_all B img xs) (writes nm o bs) j ≡ after_all B img (xs ++ reached B (writes nm o bs) j)
    short xs nm o bs j = write-reached B sz (after_all B img xs) (all-consistent B sz xs img ok) nm o bs j ∙ sym (after-append B xs (reached B (writes nm o bs) j) img)
