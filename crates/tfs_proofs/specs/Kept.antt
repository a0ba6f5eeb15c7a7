-- What create, remove and write keep: block 0, the directory's bytes past the last slot, and the map's bits from N on.
use Rattle.std.specs.Prelude.{◌≡◌, ℕ, suc, ◌+◌, ◌*◌, ◌/◌, ◌≤◌, ◌<◌, min, length, T}
use Rattle.std.proofs.Math.Path.{refl, ap, subst}
use Rattle.std.proofs.Common.{sym, ◌∙◌, div-mul-le_self, mul-le-mul_right}
use mathlib.Core.List.{List, [], ◌∷◌, ◌++◌, append_assoc}
use native.Mathlib.Omega.{arith}
use Rattle.std.proofs.Math.ListN.{get_or}
use Rattle.list_laws.specs.Test.{by-test}
use Rattle.lists.specs.Lists.{zeros, words, In}
use Rattle.list_laws.specs.Part.{get_or-with-after}
use Rattle.tfs_spec.specs.Layout.{BlockSize, slots, need, blocks, block, map_bit, set_bits, set_slot, entry, inode_block, View, view, slot_of, free_slot, free_blocks}
use Rattle.tfs_spec.specs.Check.{Verdict, consistent, broken, check, file_claims}
use Rattle.tfs_spec.specs.Consistent.{File, Inside, Consistent}
use Rattle.tfs_facts.specs.CheckMeans.{check-means, owns-inside}
use Rattle.tfs_facts.specs.Total.{three-blocks}
use Rattle.tfs_spec.specs.Requests.{granted, Outcome, Store, store, store_all, zero_stores, chosen, place_stores, create_stores, create, remove_stores, remove, write, checked, refuse, Change, creates, removes, writes, perform}
use Rattle.tfs_facts.specs.Sizes.{after_block}
use Rattle.tfs_facts.specs.Views.{view-n, view-head, view-map, view-dir, length-map, length-dir}
use Rattle.tfs_facts.specs.Stores.{Fits, Away, stored-away, stored-first, zero-fits, zero-away, fits-up, stored_at, fits-append, away-append}
use Rattle.tfs_facts.specs.MapBits.{in-at, mapped-all, length-set_bits, bits-kept}
use Rattle.tfs_proofs.specs.WriteLists.{wr, request-view}
use Rattle.tfs_spec.specs.Laws.{request}
use Rattle.tfs_facts.specs.Names.{slot-hit, length-set_slot, claims-owner}
use Rattle.tfs_facts.specs.Entries.{length-pad, Allowed, allowed, length-entry}
use Rattle.tfs_proofs.specs.Removes.{map-inside}
use Rattle.tfs_facts.specs.Chosen.{CreateGrant, choice}
use Rattle.tfs_spec.specs.Effects.{Kept}
use Rattle.tfs_proofs.specs.Changes.{create-image, create-granted, remove-image, remove-granted, refused-keeps}

-- an image that stays keeps all of it
kept_same : (B : ℕ) (img : List ℕ) → Kept B img img
kept_same B img = record { head = refl; ends = λ i h. refl; bits = λ b h. refl }

-- and so does a new one with the same view
kept-view : (B : ℕ) (img new : List ℕ) → view B new ≡ view B img → Kept B img new
kept-view B img new e =
    record {
      head = sym (view-head B new) ∙ ap (λ (v : View). v.head) e ∙ view-head B img;
      ends = λ i h. (ap (λ (d : List ℕ). get_or d i 0) (sym (view-dir B new) ∙ ap (λ (v : View). v.dir) e ∙ view-dir B img));
      bits = λ b h. (ap (λ (m : List ℕ). map_bit m b) (sym (view-map B new) ∙ ap (λ (v : View). v.map) e ∙ view-map B img));
    }

-- ---- which images a request can leave
granted-core : (x : Verdict) (img : List ℕ) (o : Outcome) → T (granted (checked x (refuse img []) o).answer) → x ≡ consistent
granted-core consistent img o t = refl
granted-core (broken num p) img o t = absurd t

-- a granted request passed the check
pub granted-passed : (B : ℕ) (img : List ℕ) (c : Change) → T (granted (perform B img c).answer) → check B img ≡ consistent
unfolding perform create remove write
granted-passed B img (creates nm z) t = granted-core (check B img) img _ t
granted-passed B img (removes nm) t = granted-core (check B img) img _ t
granted-passed B img (writes nm o bs) t = granted-core (check B img) img _ t

-- what holds of the image before and after a grant holds after every answer
by_answer : (B : ℕ) (img : List ℕ) (c : Change) (P : List ℕ → Type 0) → P img → (check B img ≡ consistent → T (granted (perform B img c).answer) → P (perform B img c).image) → P (perform B img c).image
by_answer B img c P same full =
    by-test (granted (perform B img c).answer) (λ t. full (granted-passed B img c t) t) (λ t. subst P (sym (refused-keeps B img c t)) same)

-- granted, create stores
pub by-create : (B : ℕ) (img nm : List ℕ) (sz : ℕ) (P : List ℕ → Type 0) → P img → (check B img ≡ consistent → CreateGrant B (view B img) nm sz → P (store_all B img (create_stores B (view B img) nm sz))) → P (create B img nm sz).image
unfolding perform
by-create B img nm sz P same full =
    by_answer B img (creates nm sz) P same
    (λ e g. subst P (sym (create-image B img e nm sz g)) (full e (create-granted B img e nm sz g)))

-- granted, remove stores
pub by-remove : (B : ℕ) (img nm : List ℕ) (P : List ℕ → Type 0) → P img → (check B img ≡ consistent → slot_of B (view B img) nm < slots B → P (store_all B img (remove_stores B (view B img) nm))) → P (remove B img nm).image
unfolding perform
by-remove B img nm P same full =
    by_answer B img (removes nm) P same
    (λ e g. subst P (sym (remove-image B img e nm g)) (full e (remove-granted B img e nm g)))

-- write changes nothing where the volume is not consistent
pub by-write : (B : ℕ) (img nm : List ℕ) (o : ℕ) (buf : List ℕ) (P : List ℕ → Type 0) → P img → (check B img ≡ consistent → P (write B img nm o buf).image) → P (write B img nm o buf).image
unfolding perform
by-write B img nm o buf P same full = by_answer B img (writes nm o buf) P same (λ e g. full e)

-- ---- a map with bits of blocks below N changed, and a directory with a slot changed
-- the volume ends inside the image
pub volume-end : (B : ℕ) (img : List ℕ) → blocks B img * B ≤ length img
unfolding blocks
volume-end B img =
    omega (arith, mul-le-mul_right {m = min (8 * B) (length img / B)} {n = length img / B} B (omega arith), div-mul-le_self (length img) B)

module _ (B : ℕ) (size : BlockSize B) (img : List ℕ) (long : 3 * B ≤ length img) where
  -- blocks 0 to 2 are of the volume
  pub three : 3 ≤ blocks B img
  three = subst (λ (n : ℕ). 3 ≤ n) (view-n B img) (three-blocks B size img long)

  bits-past : (w : ℕ) (cs : List ℕ) → w < 2 → ((c : ℕ) → In c cs → c < (view B img).n) → (b : ℕ) → blocks B img ≤ b → map_bit (set_bits (view B img).map w cs) b ≡ map_bit (block B img 1) b
  bits-past w cs two low b h =
      bits-kept w two cs (view B img).map
      (mapped-all cs (length (view B img).map) (λ c i. rw (length-map B img long) (map-inside B size img c (low c i))))
      b (λ i. omega (arith, low b i, view-n B img))
      ∙ ap (λ (m : List ℕ). map_bit m b) (view-map B img)

  ends-past : (s : ℕ) (e : List ℕ) → s < slots B → length e ≡ 20 → (i : ℕ) → 20 * slots B ≤ i → get_or (set_slot (view B img).dir s e) i 0 ≡ get_or (block B img 2) i 0
  unfolding set_slot
  ends-past s e l k i h =
      get_or-with-after (s * 20) 20 e (view B img).dir k (omega (arith, length-dir B img long)) i (omega arith) ∙ ap (λ (d : List ℕ). get_or d i 0) (view-dir B img)

-- ---- on a consistent volume
module _ (B : ℕ) (size : BlockSize B) (img : List ℕ) (ok : Consistent B img) where
  abbrev v : View
  v = view B img

  inside-high : (b : ℕ) → Inside v b → b < blocks B img
  inside-high b h = subst (λ (n : ℕ). b < n) (view-n B img) h.high

  -- the blocks that create chooses are blocks of the volume
  chosen-inside : (sz : ℕ) → 1 + need B sz ≤ free_blocks v → (m : ℕ) → m < length (chosen B v sz) → Inside v (get_or (chosen B v sz) m 0)
  chosen-inside sz room m h = ((choice B v ok.sound sz room).at-cs m h).inside

  -- a block that the file in slot s claims is one of the volume
  claims-inside : (s b : ℕ) → File B v s → In b (file_claims B v s) → Inside v b
  claims-inside s b f i = let o = claims-owner B v s b f i in owns-inside B v ok.sound o.0 b o.2

  -- ---- stores to blocks of the volume
  abbrev end : ℕ
  end = blocks B img * B

  at_block : (b : ℕ) → b < blocks B img → b * B + B ≤ end
  at_block b h = after_block B b (blocks B img) h

  three-in : 3 ≤ blocks B img
  three-in = three B size img ok.long

  -- what a request that stores a new map and a new directory keeps
  stored-kept : (xs : List Store) (w : ℕ) (cs : List ℕ) (s : ℕ) (e : List ℕ) → Fits B end xs → Away 0 xs → w < 2 → ((c : ℕ) → In c cs → Inside v c) → s < slots B → length e ≡ 20 → block B (store_all B img xs) 1 ≡ set_bits v.map w cs → block B (store_all B img xs) 2 ≡ set_slot v.dir s e → Kept B img (store_all B img xs)
  stored-kept xs w cs s e fits away two low l k new-map new-dir =
      record {
        head = stored-away B xs img 0 (fits-up B end (length img) (volume-end B img) xs fits) away;
        ends = λ i h. (ap (λ (d : List ℕ). get_or d i 0) new-dir ∙ ends-past B size img ok.long s e l k i h);
        bits = λ b h. (ap (λ (m : List ℕ). map_bit m b) new-map ∙ bits-past B size img ok.long w cs two (λ c i. (low c i).high) b h);
      }

  module _ (nm : List ℕ) (l : slot_of B v nm < slots B) where
    -- remove's stores are inside the volume
    pub remove-fits : Fits B end (remove_stores B v nm)
    unfolding remove_stores
    remove-fits = (
      length-set_slot B v.dir (slot_of B v nm) (zeros 20) (length-dir B img ok.long) l refl,
      (
        at_block 2 (omega (arith, three-in)),
        (length-set_bits (file_claims B v (slot_of B v nm)) v.map 0 ∙ length-map B img ok.long, (at_block 1 (omega (arith, three-in)), tt)),
      ),
    )

    remove-keeps : Kept B img (store_all B img (remove_stores B v nm))
    unfolding remove_stores
    remove-keeps =
        let fits : Fits B (length img) (remove_stores B v nm) = fits-up B end (length img) (volume-end B img) (remove_stores B v nm) remove-fits in
        stored-kept (remove_stores B v nm) 0 (file_claims B v (slot_of B v nm)) (slot_of B v nm) (zeros 20) remove-fits (omega arith, (omega arith, tt)) (omega arith)
        (λ c i. claims-inside (slot_of B v nm) c (slot-hit B v nm l).0 i) l refl
        (stored_at B (store 2 (set_slot v.dir (slot_of B v nm) (zeros 20)) ∷ []) (store 1 (set_bits v.map 0 (file_claims B v (slot_of B v nm)))) [] img fits tt)
        (stored-first B (store 2 (set_slot v.dir (slot_of B v nm) (zeros 20))) (store 1 (set_bits v.map 0 (file_claims B v (slot_of B v nm))) ∷ []) img fits (omega arith, tt))

  module _ (nm : List ℕ) (good : Allowed nm) (sz s : ℕ) (l : s < slots B) where
    -- what create stores after the content blocks
    abbrev lasts : ℕ → List ℕ → List Store
    lasts i bs = store i (inode_block B sz bs) ∷ store 1 (set_bits v.map 1 (i ∷ bs)) ∷ store 2 (set_slot v.dir s (entry i nm)) ∷ []

    last_fits : (i : ℕ) (bs : List ℕ) → i < blocks B img → Fits B end (lasts i bs)
    unfolding inode_block
    last_fits i bs h = (
      length-pad B (words (sz ∷ bs)),
      (
        at_block i h,
        (
          length-set_bits (i ∷ bs) v.map 1 ∙ length-map B img ok.long,
          (at_block 1 (omega (arith, three-in)), (length-set_slot B v.dir s (entry i nm) (length-dir B img ok.long) l (length-entry nm good i), (at_block 2 (omega (arith, three-in)), tt))),
        ),
      ),
    )

    place-fits : (cs : List ℕ) → ((m : ℕ) → m < length cs → Inside v (get_or cs m 0)) → Fits B end (place_stores B v s nm sz cs)
    unfolding place_stores
    place-fits [] low = tt
    place-fits (i ∷ bs) low =
        fits-append B end (zero_stores B bs) (lasts i bs)
        (zero-fits B bs end (λ m h. at_block (get_or bs m 0) (inside-high (get_or bs m 0) (low (suc m) (omega arith)))))
        (last_fits i bs (inside-high i (low 0 (omega arith))))

    -- a store among the last
    place_at : (i : ℕ) (bs : List ℕ) (xs : List Store) (x : Store) (ys : List Store) → lasts i bs ≡ xs ++ (x ∷ ys) → Fits B (length img) (zero_stores B bs ++ lasts i bs) → Away x.at ys → block B (store_all B img (zero_stores B bs ++ lasts i bs)) x.at ≡ x.bytes
    place_at i bs xs x ys e f a =
        let same : (zero_stores B bs ++ xs) ++ (x ∷ ys) ≡ zero_stores B bs ++ lasts i bs = append_assoc (zero_stores B bs) xs (x ∷ ys) ∙ ap (λ (zs : List Store). zero_stores B bs ++ zs) (sym e) in
        subst (λ (zs : List Store). Fits B (length img) zs → block B (store_all B img zs) x.at ≡ x.bytes) same
        (λ g. stored_at B (zero_stores B bs ++ xs) x ys img g a) f

    place-away : (i : ℕ) (bs : List ℕ) → ((m : ℕ) → m < suc (length bs) → Inside v (get_or (i ∷ bs) m 0)) → Away 0 (zero_stores B bs ++ lasts i bs)
    place-away i bs low =
        away-append 0 (zero_stores B bs) (lasts i bs)
        (zero-away B bs 0 (λ m h e. omega (arith, (low (suc m) (omega arith)).low)))
        ((λ e. omega (arith, (low 0 (omega arith)).low)), (omega arith, (omega arith, tt)))

    place-keeps : (cs : List ℕ) → ((m : ℕ) → m < length cs → Inside v (get_or cs m 0)) → Kept B img (store_all B img (place_stores B v s nm sz cs))
    unfolding place_stores
    place-keeps [] low = kept_same B img
    place-keeps (i ∷ bs) low =
        let fits : Fits B (length img) (zero_stores B bs ++ lasts i bs) = fits-up B end (length img) (volume-end B img) (zero_stores B bs ++ lasts i bs) (place-fits (i ∷ bs) low) in
        stored-kept (zero_stores B bs ++ lasts i bs) 1 (i ∷ bs) s (entry i nm) (place-fits (i ∷ bs) low) (place-away i bs low) (omega arith)
        (λ c j. let r = in-at (i ∷ bs) c j in subst (Inside v) r.2 (low r.0 r.1)) l (length-entry nm good i)
        (place_at i bs (store i (inode_block B sz bs) ∷ []) (store 1 (set_bits v.map 1 (i ∷ bs))) (store 2 (set_slot v.dir s (entry i nm)) ∷ []) refl fits (omega arith, tt))
        (place_at i bs (store i (inode_block B sz bs) ∷ store 1 (set_bits v.map 1 (i ∷ bs)) ∷ []) (store 2 (set_slot v.dir s (entry i nm))) [] refl fits tt)

-- ---- the three requests, granted or refused
module _ {B : ℕ} (size : BlockSize B) (img : List ℕ) where
  sound-of : check B img ≡ consistent → Consistent B img
  sound-of = (check-means B size img).0

  -- create's stores are inside the volume
  pub create-fits : (nm : List ℕ) (sz : ℕ) → check B img ≡ consistent → CreateGrant B (view B img) nm sz → Fits B (blocks B img * B) (create_stores B (view B img) nm sz)
  unfolding create_stores
  create-fits nm sz e g =
      place-fits B size img (sound-of e) nm (allowed nm g.named) sz (free_slot B (view B img)) g.slot (chosen B (view B img) sz) (chosen-inside B size img (sound-of e) sz g.room)

  -- create keeps what the layout says is kept
  pub create-kept : (nm : List ℕ) (sz : ℕ) → Kept B img (create B img nm sz).image
  unfolding create_stores
  create-kept nm sz =
      by-create B img nm sz (Kept B img) (kept_same B img)
      (λ e g. place-keeps B size img (sound-of e) nm (allowed nm g.named) sz (free_slot B (view B img)) g.slot (chosen B (view B img) sz) (chosen-inside B size img (sound-of e) sz g.room))

  -- so does remove
  pub remove-kept : (nm : List ℕ) → Kept B img (remove B img nm).image
  remove-kept nm = by-remove B img nm (Kept B img) (kept_same B img) (λ e l. remove-keeps B size img (sound-of e) nm l)

  -- and write
  pub write_kept : (nm : List ℕ) (o : ℕ) (buf : List ℕ) → Kept B img (write B img nm o buf).image
  unfolding request
  write_kept nm o buf =
      by-write B img nm o buf (Kept B img) (kept_same B img)
      (λ e. kept-view B img (write B img nm o buf).image (request-view B (omega (arith, size.large)) img e (sound-of e).sound (wr nm o buf)))
