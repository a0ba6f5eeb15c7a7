-- What a granted remove and a granted create do to the image, byte for byte and bit for bit: what they set, and that all else stays.
use Rattle.std.specs.Prelude.{◌≡◌, refl, ◌≢◌, ◌⊎◌, Bool, true, false, not, ℕ, zero, suc, ◌+◌, ◌*◌, ◌/◌, ◌%◌, ◌≤◌, ◌<◌, length, take, drop, T}
use Rattle.std.proofs.Common.{sym, ◌∙◌, subst, inl, inr, arith, div-add-mod', mod-lt, length-take, get_or-take}
use Rattle.std.proofs.Math.Path.{ap}
use Rattle.std.proofs.Math.Logic.{⊎_elim}
use mathlib.Core.List.{List}
use Rattle.std.proofs.Math.Decide.{ℕ_discrete, dec_lt}
use Rattle.std.proofs.Math.ListN.{get_or}
use Rattle.std.proofs.lemmas.List.{get_or-replicate}
use Rattle.list_laws.specs.Test.{to-true}
use Rattle.list_laws.specs.Least.{least-below}
use Rattle.lists.specs.Lists.{zeros, In}
use Rattle.list_laws.specs.Part.{get_or-with-in, get_or-with-before, get_or-with-after}
use Rattle.tfs_spec.specs.Layout.{BlockSize, slots, need, block, map_bit, slot, set_slot, entry, inode_size, inode_number, inode_block, View, view, free, slot_of, free_slot}
use Rattle.tfs_spec.specs.Check.{file_claims}
use Rattle.tfs_spec.specs.Consistent.{File, Owner, inode_of, content_of, Owns, Consistent}
use Rattle.tfs_facts.specs.Claims.{slot_in}
use Rattle.tfs_facts.specs.CheckMeans.{check-means}
use Rattle.tfs_facts.specs.Room.{FreeIn, free-marked, free-clear, free-rising}
use Rattle.tfs_spec.specs.Requests.{Answer, value, granted, store_all, free_from, chosen, create_stores, create, remove_stores, remove}
use Rattle.tfs_facts.specs.Views.{view-map, view-dir, length-dir}
use Rattle.tfs_facts.specs.Stores.{block-byte}
use Rattle.tfs_facts.specs.MapBits.{in-at, at_in}
use Rattle.tfs_facts.specs.Names.{claims-owner, owner-claims}
use Rattle.tfs_facts.specs.Entries.{length-entry, allowed, inode-size, inode-number, inode-rest}
use Rattle.tfs_facts.specs.Chosen.{CreateGrant, choice}
use Rattle.tfs_proofs.specs.Creates as made
use Rattle.tfs_proofs.specs.Removes as removed
use Rattle.tfs_proofs.specs.Changes.{Passed, create-granted, create-image, create-number, remove-granted, remove-image}
use Rattle.tfs_spec.specs.Answers.{Stands}
use Rattle.tfs_spec.specs.Effects.{Outside, BlockOf, RemoveTouch, LowestBlocks, CreateTouch}
use Rattle.tfs_proofs.specs.Grants.{stands_at, stands-removed, vacant-hit}

module _ (B : ℕ) (pos : 0 < B) (q : ℕ) where
  -- lie in neither block
  outside_low : (c : ℕ) → q / B ≡ c → q ≡ c * B + q % B
  outside_low c e = sym (div-add-mod' q B) ∙ ap (λ (x : ℕ). x * B + q % B) e

  outside-one : Outside B q → q / B ≢ 1
  outside-one w e = ⊎_elim (λ h. omega (arith, outside_low 1 e)) (λ h. omega (arith, outside_low 1 e, mod-lt q pos)) w

  outside-two : Outside B q → q / B ≢ 2
  outside-two w e = ⊎_elim (λ h. omega (arith, outside_low 2 e)) (λ h. omega (arith, outside_low 2 e, mod-lt q pos)) w

  -- a byte of a block that stays
  byte-kept : (new img : List ℕ) → block B new (q / B) ≡ block B img (q / B) → get_or new q 0 ≡ get_or img q 0
  byte-kept new img e =
      ap (λ (x : ℕ). get_or new x 0) (sym (div-add-mod' q B)) ∙ block-byte B new img (q / B) (q % B) (mod-lt q pos) e ∙ ap (λ (x : ℕ). get_or img x 0) (div-add-mod' q B)

-- ---- one slot of a directory
module _ (dir : List ℕ) (s : ℕ) (e : List ℕ) (k : length e ≡ 20) (h : s * 20 + 20 ≤ length dir) where
  slot-in : (i : ℕ) → i < 20 → get_or (set_slot dir s e) (s * 20 + i) 0 ≡ get_or e i 0
  unfolding set_slot
  slot-in i l = get_or-with-in (s * 20) 20 e dir k h i l

  slot-out : (i : ℕ) → (i < s * 20) ⊎ (s * 20 + 20 ≤ i) → get_or (set_slot dir s e) i 0 ≡ get_or dir i 0
  unfolding set_slot
  slot-out i w = ⊎_elim (get_or-with-before (s * 20) 20 e dir k h i) (get_or-with-after (s * 20) 20 e dir k h i) w

pub block-claimed : (B : ℕ) (v : View) (s b : ℕ) → File B v s → BlockOf B v s b → In b (file_claims B v s)
block-claimed B v s b f w =
    ⊎_elim (λ e. owner-claims B v (inode_of s) b (f, e)) (λ k. owner-claims B v (content_of s k.0) b (f, k.1, k.2)) w

owned_block : (B : ℕ) (v : View) (o : Owner) (b : ℕ) → Owns B v o b → BlockOf B v (slot_in o) b
owned_block B v (inode_of s) b w = inl w.1
owned_block B v (content_of s k) b w = inr (k, w.1, w.2)

pub claimed-block : (B : ℕ) (v : View) (s b : ℕ) → File B v s → In b (file_claims B v s) → BlockOf B v s b
claimed-block B v s b f i =
    let o = claims-owner B v s b f i in subst (λ (t : ℕ). BlockOf B v t b) o.1 (owned_block B v o.0 b o.2)

module _ (B : ℕ) (sz : BlockSize B) (img : List ℕ) (ok : Consistent B img) where
  pos : 0 < B
  pos = omega (arith, sz.large)

  passed : Passed B img
  passed = (check-means B sz img).1 ok

  module _ (nm : List ℕ) (hit : slot_of B (view B img) nm < slots B) (there : File B (view B img) (slot_of B (view B img) nm)) where
    abbrev v : View
    v = view B img

    abbrev s : ℕ
    s = slot_of B v nm

    abbrev new : List ℕ
    new = store_all B img (remove_stores B v nm)

    in-dir : s * 20 + 20 ≤ length v.dir
    in-dir = omega (arith, length-dir B img ok.long)

    stored-touch : RemoveTouch B img new s
    stored-touch =
        record {
          cleared = λ b w. (ap (λ (m : List ℕ). map_bit m b) (sym (view-map B new)) ∙ removed.bit_in B sz img ok nm hit b (block-claimed B v s b there w));
          zeroed = λ i l. (ap (λ (d : List ℕ). get_or d (s * 20 + i) 0) (removed.new-dir B sz img ok nm hit) ∙ slot-in v.dir s (zeros 20) refl in-dir i l ∙ get_or-replicate {A = ℕ} 20 i 0 0 l);
          bits = λ b w.
              (ap (λ (m : List ℕ). map_bit m b) (sym (view-map B new))
              ∙ removed.bit-out B sz img ok nm hit b (λ i. w (claimed-block B v s b there i))
              ∙ ap (λ (m : List ℕ). map_bit m b) (view-map B img));
          entries = λ i w.
              (ap (λ (d : List ℕ). get_or d i 0) (removed.new-dir B sz img ok nm hit) ∙ slot-out v.dir s (zeros 20) refl in-dir i w ∙ ap (λ (d : List ℕ). get_or d i 0) (view-dir B img));
          bytes = λ q w. byte-kept B pos q new img (removed.kept B sz img ok nm hit (q / B) (outside-one B pos q w) (outside-two B pos q w));
          long = (removed.frame B sz img ok nm hit).long;
        }

  -- a remove of a name that stands does this to the file that has it, and no more
  pub remove-touches : (nm : List ℕ) (s : ℕ) → Stands B (view B img) nm s → RemoveTouch B img (remove B img nm).image s
  remove-touches nm s st =
      let g : T (granted (remove B img nm).answer) = stands-removed B sz img ok nm s st in
      let hit : slot_of B (view B img) nm < slots B = remove-granted B img passed nm g in
      let at : slot_of B (view B img) nm ≡ s = stands_at B (view B img) nm ok.sound s st in
      subst (λ (x : List ℕ). RemoveTouch B img x s) (sym (remove-image B img passed nm g))
      (subst (RemoveTouch B img (store_all B img (remove_stores B (view B img) nm))) at
      (stored-touch nm hit (subst (File B (view B img)) (sym at) st.file)))

-- every free block is among the free ones
free_in : (map : List ℕ) (k d c : ℕ) → FreeIn map k d c → In c (free_from map k d)
free_in map k zero c h = absurd (omega (arith, h.low, h.high))
free_in map k (suc d) c h =
    elim (ℕ_discrete c k) [
      | yes e ↦ subst (λ (l : List ℕ). In c l) (sym (free-clear map k d (ap (map_bit map) (sym e) ∙ h.clear))) (inl e)
      | no e ↦ go (map_bit map k) refl (free_in map (suc k) d c (record { low = omega (arith, h.low); high = omega (arith, h.high); clear = h.clear }))
    ]
  where
    go : (b : Bool) → map_bit map k ≡ b → In c (free_from map (suc k) d) → In c (free_from map k (suc d))
    go true e i = subst (λ (l : List ℕ). In c l) (sym (free-marked map k d e)) i
    go false e i = subst (λ (l : List ℕ). In c l) (sym (free-clear map k d e)) (inr i)

-- a free block that is not among the first m is higher than each of them
first-lowest : (map : List ℕ) (n m c : ℕ) → FreeIn map 0 n c → (In c (take m (free_from map 0 n)) → ⊥) → (j : ℕ) → j < length (take m (free_from map 0 n)) → get_or (take m (free_from map 0 n)) j 0 < c
first-lowest map n m c h d j l =
    let all : List ℕ = free_from map 0 n in
    let at = in-at all c (free_in map 0 n c h) in
    let lm : j < m = omega (arith, length-take m all) in
    let late : m ≤ at.0 =
    elim (dec_lt at.0 m) [
      | yes k ↦ absurd (d (subst (λ (x : ℕ). In x (take m all)) (get_or-take m all at.0 0 k ∙ at.2) (at_in (take m all) at.0 (omega (arith, length-take m all, at.1)))))
      | no k ↦ omega arith
    ]
    in
    omega (arith, get_or-take m all j 0 lm, free-rising map 0 n j at.0 (omega arith) at.1, at.2)

module _ (B : ℕ) (sz : BlockSize B) (img : List ℕ) (ok : Consistent B img) (nm : List ℕ) (z : ℕ) (gr : CreateGrant B (view B img) nm z) where
  abbrev w : View
  w = view B img

  abbrev t : ℕ
  t = free_slot B w

  abbrev cs : List ℕ
  cs = chosen B w z

  abbrev after : List ℕ
  after = store_all B img (create_stores B w nm z)

  open choice B (view B img) ok.sound z gr.room use {length-cs, cs-free, rising}

  lowest-chosen : LowestBlocks w (1 + need B z) (chosen B w z)
  unfolding chosen
  lowest-chosen =
      record {
        long = length-cs;
        below = λ j l. omega (arith, (cs-free j (omega (arith, length-cs))).high);
        clear = λ j l. (cs-free j (omega (arith, length-cs))).clear;
        rising = λ i j a l. rising i j a (omega (arith, length-cs));
        lowest = λ b l e d j k. first-lowest w.map w.n (1 + need B z) b (record { low = omega arith; high = omega arith; clear = e }) d j (omega (arith, length-cs));
      }

  lower-taken : (u : ℕ) → u < free_slot B w → T (not (free w u))
  unfolding free_slot
  lower-taken u l = least-below (free w) (slots B) u l

  length-new : length (entry (get_or cs 0 0) nm) ≡ 20
  length-new = length-entry nm (allowed nm gr.named) (get_or cs 0 0)

  new-touch : CreateTouch B img after nm z (get_or cs 0 0) t cs
  unfolding entry inode_block
  new-touch =
      record {
        vacant = vacant-hit B w gr.slot;
        lower = lower-taken;
        blocks = lowest-chosen;
        number = refl;
        marked = λ b i. (ap (λ (m : List ℕ). map_bit m b) (sym (view-map B after)) ∙ to-true (map_bit (view B after).map b) (made.bit_in B sz img ok nm z gr b i));
        entry = ap (λ (d : List ℕ). slot d t) (sym (view-dir B after)) ∙ made.new-slot B sz img ok nm z gr;
        inode = made.new-inode B sz img ok nm z gr;
        size = ap inode_size (made.new-inode B sz img ok nm z gr) ∙ inode-size B z (drop 1 cs) (made.room-inode B sz img ok nm z gr);
        listed = λ k l.
            (ap (λ (x : List ℕ). inode_number x k) (made.new-inode B sz img ok nm z gr)
            ∙ inode-number B z (drop 1 cs) (made.room-inode B sz img ok nm z gr) k (omega (arith, made.length-bs B sz img ok nm z gr))
            ∙ made.at-bs B sz img ok nm z gr k);
        unlisted = λ k l.
            (ap (λ (x : List ℕ). inode_number x k) (made.new-inode B sz img ok nm z gr)
            ∙ inode-rest B z (drop 1 cs) (made.room-inode B sz img ok nm z gr) k (omega (arith, made.length-bs B sz img ok nm z gr)));
        zeroed = λ k l.
            (ap (block B after) (sym (made.at-bs B sz img ok nm z gr k)) ∙ made.new-zero B sz img ok nm z gr k (omega (arith, made.length-bs B sz img ok nm z gr)));
        bits = λ b d.
            (ap (λ (m : List ℕ). map_bit m b) (sym (view-map B after)) ∙ made.bit-out B sz img ok nm z gr b d ∙ ap (λ (m : List ℕ). map_bit m b) (view-map B img));
        entries = λ i o.
            (ap (λ (d : List ℕ). get_or d i 0) (made.new-dir B sz img ok nm z gr)
            ∙ slot-out w.dir t _ length-new (omega (arith, length-dir B img ok.long, gr.slot)) i o
            ∙ ap (λ (d : List ℕ). get_or d i 0) (view-dir B img));
        bytes = λ q o d.
            byte-kept B (omega (arith, sz.large)) q after img
            (made.kept B sz img ok nm z gr (q / B) d (outside-one B (omega (arith, sz.large)) q o) (outside-two B (omega (arith, sz.large)) q o));
        long = (made.frame B sz img ok nm z gr).long;
      }

-- a granted create does this, and no more
pub created-touch : (B : ℕ) → BlockSize B → (img : List ℕ) → Consistent B img → (nm : List ℕ) (z : ℕ) → T (granted (create B img nm z).answer) → CreateTouch B img (create B img nm z).image nm z (get_or (chosen B (view B img) z) 0 0) (free_slot B (view B img)) (chosen B (view B img) z)
created-touch B sz img ok nm z g =
    let passed : Passed B img = (check-means B sz img).1 ok in
    let v : View = view B img in
    subst (λ (x : List ℕ). CreateTouch B img x nm z (get_or (chosen B v z) 0 0) (free_slot B v) (chosen B v z)) (sym (create-image B img passed nm z g))
    (new-touch B sz img ok nm z (create-granted B img passed nm z g))

pub create-touches : (B : ℕ) → BlockSize B → (img : List ℕ) → Consistent B img → (nm : List ℕ) (z h : ℕ) → (create B img nm z).answer ≡ value h → (s : ℕ) × (cs : List ℕ) × CreateTouch B img (create B img nm z).image nm z h s cs
create-touches B sz img ok nm z h e =
    let g : T (granted (create B img nm z).answer) = subst (λ (a : Answer). T (granted a)) (sym e) tt in
    let v : View = view B img in (
      free_slot B v,
      chosen B v z,
      subst (λ (x : ℕ). CreateTouch B img (create B img nm z).image nm z x (free_slot B v) (chosen B v z)) (create-number B img ((check-means B sz img).1 ok) nm z h e) (created-touch B sz img ok nm z g),
    )
