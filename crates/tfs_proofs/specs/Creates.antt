-- Create: the volume stays consistent, and exactly the created name comes to stand, with zeros.
use Rattle.std.specs.Prelude.{◌≡◌, ◌≢◌, ◌⊎◌, ◌↔◌, Bool, true, false, not, cond, ℕ, zero, suc, ◌+◌, ◌*◌, ◌/◌, ◌%◌, ◌≤◌, ◌<◌, length, drop, ltb}
use Rattle.std.proofs.Common.{sym, ap₂, ◌∙◌, inl, inr, ⊎_elim, arith, length-drop, get_or-drop, drop-cons, ltb→lt, nltb→le, T_not}
use Rattle.std.proofs.Math.Path.{ap, subst}
use mathlib.Core.List.{List, [], ◌∷◌}
use Rattle.std.proofs.Math.Option.{some}
use Rattle.std.proofs.Math.Decide.{ℕ_discrete, dec_lt}
use Rattle.std.proofs.Math.ListN.{get_or}
use Rattle.std.proofs.lemmas.List.{get_or-replicate}
use Rattle.std.proofs.Math.Dec.{T}
use Rattle.lists.specs.Lists.{zeros, table, In}
use Rattle.list_laws.specs.Test.{by-test, cond_yes, cond_no, not-not}
use Rattle.list_laws.specs.Table.{table-cong, table_same}
use Rattle.tfs_spec.specs.Layout.{BlockSize, slots, block, set_block, slot, set_slot, set_bits, map_bit, same_name, slot_free, slot_inode, slot_name, slot_used, need, max_size, numbers, name_allowed, entry, inode_block, inode_size, inode_number, View, view, free, used, inode, name, size, number, slot_of, free_slot, free_blocks, place, content, contents}
use Rattle.tfs_spec.specs.Consistent.{File, Owner, inode_of, content_of, Owns, Owned, Inside, Sound, Consistent}
use Rattle.tfs_facts.specs.Claims.{slot_in, owns-file}
use Rattle.tfs_facts.specs.CheckMeans.{owns-inside, same-sym, need-le, range-in}
use Rattle.tfs_spec.specs.Requests.{Answer, value, refused, granted, Store, store, store_all, zero_stores, chosen, place_stores, create_stores, create_view}
use Rattle.tfs_facts.specs.Sizes.{in_image, in-need, in_block}
use Rattle.tfs_facts.specs.Views.{view-n, view-map, view-dir, length-map, length-dir, inode-block}
use Rattle.tfs_facts.specs.Stores.{Fits, length-store_all, stored-away, stored-first, store_all-append, zero-fits, zero-away, zeroed, block_same, length-set_block, byte_at}
use Rattle.tfs_facts.specs.MapBits.{length-set_bits, in-dec, in-at, at_in, mapped-all, Mapped, bits-kept, bits-set}
use Rattle.tfs_facts.specs.Chosen.{CreateGrant, Picked, choice}
use Rattle.tfs_proofs.specs.Frame.{Frame, n-same, name-same, file-from, owns-to, owns-from}
use Rattle.tfs_facts.specs.Names.{slot-miss, slot_is, free-hit, length-set_slot, slot-set, slot-unset}
use Rattle.tfs_proofs.specs.Others.{consistent-to, stands, formed-to, apart-to, small-to, inside-to, rest-to, contents-other}
use Rattle.tfs_proofs.specs.Removes.{low-inside, map-inside}
use Rattle.tfs_facts.specs.Entries.{Allowed, allowed, length-entry, entry-inode, entry-name, entry-taken, entry-used, length-inode, inode-size, inode-number, inode-rest}
use Rattle.tfs_spec.specs.Effects.{change}

-- a granted choice was not the refusal
pub grant-step : (b : Bool) (num : ℕ) (a : Answer) → T (granted (cond b (refused num 0) a)) → T (not b) × T (granted a)
grant-step true num a t = absurd t
grant-step false num a t = (tt, t)

-- and gave the value that was to come
pub value-step : (b : Bool) (num : ℕ) (a : Answer) (x : ℕ) → cond b (refused num 0) a ≡ value x → T (not b) × (a ≡ value x)
value-step true num a x e = absurd (let z : ◌≡◌ {A = ℕ} 0 1 = cc in omega arith)
value-step false num a x e = (tt, e)

pub same-value : (x y : ℕ) → value x ≡ value y → x ≡ y
same-value x y e = cc

pub create-grant : (B : ℕ) (v : View) (nm : List ℕ) (z : ℕ) → T (granted (create_view B v nm z)) → CreateGrant B v nm z
unfolding create_view
create-grant B v nm z t =
    let g8 = grant-step (not (name_allowed nm)) 8 _ t in
    let g9 = grant-step (ltb (max_size B) z) 9 _ g8.1 in
    let g10 = grant-step (ltb (slot_of B v nm) (slots B)) 10 _ g9.1 in
    let g11 = grant-step (not (ltb (free_slot B v) (slots B))) 11 _ g10.1 in
    let g12 = grant-step (ltb (free_blocks v) (1 + need B z)) 12 _ g11.1 in
    record {
      named = not-not (name_allowed nm) g8.0;
      small = nltb→le (max_size B) z g9.0;
      fresh = nltb→le (slot_of B v nm) (slots B) g10.0;
      slot = ltb→lt (free_slot B v) (slots B) (not-not (ltb (free_slot B v) (slots B)) g11.0);
      room = nltb→le (free_blocks v) (1 + need B z) g12.0;
    }

module _ (B : ℕ) (sz : BlockSize B) (img : List ℕ) (ok : Consistent B img) (nm : List ℕ) (z : ℕ) (gr : CreateGrant B (view B img) nm z) where
  abbrev pub v : View
  v = view B img

  abbrev pub s : ℕ
  s = free_slot B v

  abbrev pub cs : List ℕ
  cs = chosen B v z

  abbrev pub i : ℕ
  i = get_or cs 0 0

  abbrev pub bs : List ℕ
  bs = drop 1 cs

  pos : 0 < B
  pos = omega (arith, sz.large)

  good : Allowed nm
  good = allowed nm gr.named

  -- ---- the chosen blocks
  open choice B (view B img) ok.sound z gr.room use {length-cs, rising, at-cs}

  pub cs-is : cs ≡ i ∷ bs
  cs-is = drop-cons cs 0 0 (omega (arith, length-cs))

  pub length-bs : length bs ≡ need B z
  length-bs = length-drop 1 cs ∙ omega (arith, length-cs)

  pub at-bs : (m : ℕ) → get_or bs m 0 ≡ get_or cs (suc m) 0
  at-bs m = get_or-drop 1 cs m 0 ∙ ap (λ (x : ℕ). get_or cs x 0) (omega arith)

  few : need B z ≤ numbers B
  few = need-le B z (numbers B) pos gr.small

  pub picked : (b : ℕ) → In b cs → Picked B v b
  picked b p = let m = in-at cs b p in subst (Picked B v) m.2 (at-cs m.0 m.1)

  pub first : Picked B v i
  first = at-cs 0 (omega (arith, length-cs))

  pub at_b : (m : ℕ) → m < length bs → Picked B v (get_or bs m 0)
  at_b m h = subst (Picked B v) (sym (at-bs m)) (at-cs (suc m) (omega (arith, length-cs, length-bs)))

  -- ---- the image after
  abbrev pub ino : List ℕ
  ino = inode_block B z bs

  abbrev pub map' : List ℕ
  map' = set_bits v.map 1 (i ∷ bs)

  abbrev pub dir' : List ℕ
  dir' = set_slot v.dir s (entry i nm)

  abbrev pub lasts : List Store
  lasts = store i ino ∷ store 1 map' ∷ store 2 dir' ∷ []

  abbrev a0 : List ℕ
  a0 = store_all B img (zero_stores B bs)

  abbrev pub new : List ℕ
  new = store_all B img (create_stores B v nm z)

  new_is : new ≡ store_all B a0 lasts
  unfolding create_stores place_stores
  new_is =
      ap (λ (l : List ℕ). store_all B img (place_stores B v s nm z l)) cs-is ∙ store_all-append B (zero_stores B bs) lasts img

  inside-img : (b : ℕ) → b < v.n → b * B + B ≤ length img
  inside-img b h = in_image B b img (subst (λ (n : ℕ). b < n) (view-n B img) h)

  pub fits0 : Fits B (length img) (zero_stores B bs)
  fits0 = zero-fits B bs (length img) (λ m h. inside-img (get_or bs m 0) (at_b m h).inside.high)

  length-a0 : length a0 ≡ length img
  length-a0 = length-store_all B (zero_stores B bs) img fits0

  pub room-inode : 4 * (1 + length bs) ≤ B
  room-inode = omega (arith, few, length-bs, sz.large)

  pub fits1 : Fits B (length img) lasts
  fits1 = (
    length-inode B z bs room-inode,
    (
      inside-img i first.inside.high,
      (
        length-set_bits (i ∷ bs) v.map 1 ∙ length-map B img ok.long,
        (
          low-inside B img ok.long 1 (omega arith),
          (length-set_slot B v.dir s (entry i nm) (length-dir B img ok.long) gr.slot (length-entry nm good i), (low-inside B img ok.long 2 (omega arith), tt)),
        ),
      ),
    ),
  )

  fits-a0 : Fits B (length a0) lasts
  fits-a0 = subst (λ (n : ℕ). Fits B n lasts) (sym length-a0) fits1

  long' : length new ≡ length img
  long' = ap length new_is ∙ length-store_all B lasts a0 fits-a0 ∙ length-a0

  -- a block that was not chosen, and is neither 1 nor 2
  pub kept : (b : ℕ) → (In b cs → ⊥) → b ≢ 1 → b ≢ 2 → block B new b ≡ block B img b
  kept b d d1 d2 =
      ap (λ (x : List ℕ). block B x b) new_is
      ∙ stored-away B lasts a0 b fits-a0 ((λ e. d (subst (λ (x : ℕ). In x cs) (sym e) (at_in cs 0 (omega (arith, length-cs))))), (d1, (d2, tt)))
      ∙ stored-away B (zero_stores B bs) img b fits0
      (zero-away B bs b (λ m h e. d (subst (λ (x : ℕ). In x cs) (sym (at-bs m) ∙ sym e) (at_in cs (suc m) (omega (arith, length-cs, length-bs))))))

  pub new-inode : block B new i ≡ ino
  new-inode =
      ap (λ (x : List ℕ). block B x i) new_is
      ∙ stored-first B (store i ino) (store 1 map' ∷ store 2 dir' ∷ []) a0 fits-a0 ((λ e. omega (arith, first.inside.low)), ((λ e. omega (arith, first.inside.low)), tt))

  abbrev a1 : List ℕ
  a1 = set_block B a0 i ino

  length-a1 : length a1 ≡ length img
  length-a1 = length-set_block B a0 i ino fits-a0.0 fits-a0.1.0 ∙ length-a0

  fits-a1 : Fits B (length a1) (store 1 map' ∷ store 2 dir' ∷ [])
  fits-a1 = subst (λ (n : ℕ). Fits B n (store 1 map' ∷ store 2 dir' ∷ [])) (sym length-a1) fits1.1.1

  new-map : block B new 1 ≡ map'
  new-map =
      ap (λ (x : List ℕ). block B x 1) new_is ∙ stored-first B (store 1 map') (store 2 dir' ∷ []) a1 fits-a1 ((λ e. omega arith), tt)

  abbrev a2 : List ℕ
  a2 = set_block B a1 1 map'

  pub new-dir : block B new 2 ≡ dir'
  new-dir =
      let l : length a2 ≡ length img = length-set_block B a1 1 map' fits-a1.0 fits-a1.1.0 ∙ length-a1 in
      ap (λ (x : List ℕ). block B x 2) new_is
      ∙ block_same B a2 2 dir' fits1.1.1.1.1.0 (subst (λ (n : ℕ). 2 * B + B ≤ n) (sym l) fits1.1.1.1.1.1.0)

  -- "all content blocks wholly zero"
  pub new-zero : (m : ℕ) → m < length bs → block B new (get_or bs m 0) ≡ zeros B
  new-zero m h =
      let p : Picked B v (get_or bs m 0) = at_b m h in
      ap (λ (x : List ℕ). block B x (get_or bs m 0)) new_is
      ∙ stored-away B lasts a0 (get_or bs m 0) fits-a0
      ((λ e. omega (arith, rising 0 (suc m) (omega arith) (omega (arith, length-cs, length-bs)), at-bs m)), ((λ e. omega (arith, p.inside.low)), ((λ e. omega (arith, p.inside.low)), tt)))
      ∙ zeroed B bs img fits0
      (λ a b l k e. omega (arith, rising (suc a) (suc b) (omega arith) (omega (arith, length-cs, length-bs)), at-bs a, at-bs b)) m h

  pub frame : Frame B img new s
  frame =
      record {
        long = long';
        slots_kept = λ t h d.
            (ap (λ (x : List ℕ). slot x t) new-dir ∙ slot-unset B v.dir s (entry i nm) (length-dir B img ok.long) gr.slot (length-entry nm good i) t d ∙ ap (λ (x : List ℕ). slot x t) (view-dir B img));
        blocks-kept = λ o b d w.
            (let j : Inside v b = owns-inside B v ok.sound o b w in
            kept b (λ p. (picked b p).unowned (o, w)) (λ e. omega (arith, j.low)) (λ e. omega (arith, j.low)));
      }

  abbrev v' : View
  v' = view B new

  -- ---- the new slot
  pub new-slot : slot v'.dir s ≡ entry i nm
  new-slot =
      ap (λ (x : List ℕ). slot x s) (view-dir B new ∙ new-dir) ∙ slot-set B v.dir s (entry i nm) (length-dir B img ok.long) gr.slot (length-entry nm good i)

  pub new-file : File B v' s
  unfolding free
  new-file =
      record { slot = gr.slot; taken = subst (λ (x : List ℕ). T (not (slot_free x))) (sym new-slot) (entry-taken nm good i) }

  pub new-number : inode v' s ≡ i
  unfolding inode
  new-number = ap slot_inode new-slot ∙ entry-inode nm good i

  pub new-name : name v' s ≡ nm
  unfolding name
  new-name = ap slot_name new-slot ∙ entry-name nm good i

  inside-new : Inside v' i
  inside-new =
      record { low = first.inside.low; high = subst (λ (n : ℕ). i < n) (sym (n-same B img new s frame)) first.inside.high }

  new-used : T (used v' s)
  unfolding used
  new-used =
      subst (λ (x : List ℕ). T (slot_used v'.n x)) (sym new-slot) (entry-used nm good i v'.n (range-in v' i inside-new))

  new-block : get_or v'.inodes s [] ≡ ino
  new-block =
      inode-block B new s gr.slot (subst (Inside v') (sym new-number) inside-new) ∙ ap (block B new) new-number ∙ new-inode

  pub new-size : size v' s ≡ z
  unfolding size
  new-size = ap inode_size new-block ∙ inode-size B z bs room-inode

  pub new-at : (k : ℕ) → k < need B z → number v' s k ≡ get_or bs k 0
  unfolding number
  new-at k h = ap (λ (x : List ℕ). inode_number x k) new-block ∙ inode-number B z bs room-inode k (omega (arith, length-bs))

  new-rest : (k : ℕ) → need B z ≤ k → number v' s k ≡ 0
  unfolding number
  new-rest k h = ap (λ (x : List ℕ). inode_number x k) new-block ∙ inode-rest B z bs room-inode k (omega (arith, length-bs))

  needed : (k : ℕ) → k < need B (size v' s) → k < need B z
  needed k h = subst (λ (x : ℕ). k < need B x) new-size h

  -- ---- who owns what
  own-inode : (b : ℕ) → Owns B v' (inode_of s) b → b ≡ get_or cs 0 0
  own-inode b w = sym w.1 ∙ new-number

  own-content : (k b : ℕ) → Owns B v' (content_of s k) b → (b ≡ get_or cs (suc k) 0) × (suc k < length cs)
  own-content k b w =
      (sym w.2 ∙ new-at k (needed k w.1) ∙ at-bs k, omega (arith, needed k w.1, length-cs))

  own_in : (o : Owner) (b : ℕ) → slot_in o ≡ s → Owns B v' o b → In b cs
  own_in (inode_of t) b e w =
      subst (λ (x : ℕ). In x cs) (sym (own-inode b (subst (λ (x : ℕ). Owns B v' (inode_of x) b) e w))) (at_in cs 0 (omega (arith, length-cs)))
  own_in (content_of t k) b e w =
      let c = own-content k b (subst (λ (x : ℕ). Owns B v' (content_of x k) b) e w) in
      subst (λ (x : ℕ). In x cs) (sym c.0) (at_in cs (suc k) c.1)

  in-own : (b : ℕ) → In b cs → Owned B v' b
  in-own b p = go (in-at cs b p)
    where
      go : (m : ℕ) × (m < length cs) × (get_or cs m 0 ≡ b) → Owned B v' b
      go m = by m.0 m.1 m.2
        where
          by : (m : ℕ) → m < length cs → get_or cs m 0 ≡ b → Owned B v' b
          by zero h e = (inode_of s, (new-file, new-number ∙ e))
          by (suc k) h e =
              let l : k < need B z = omega (arith, length-cs) in
              (content_of s k, (new-file, subst (λ (x : ℕ). k < need B x) (sym new-size) l, new-at k l ∙ at-bs k ∙ e))

  -- positions of the chosen blocks tell them apart
  pub same-position : (m j : ℕ) → m < length cs → j < length cs → get_or cs m 0 ≡ get_or cs j 0 → m ≡ j
  same-position m j hm hj e =
      elim (dec_lt m j) [
        | yes l ↦ absurd (omega (arith, rising m j l hj))
        | no l ↦ elim (dec_lt j m) [ yes k ↦ absurd (omega (arith, rising j m k hm)) | no k ↦ omega arith ]
      ]

  once-new : (b : ℕ) (o p : Owner) → slot_in o ≡ s → slot_in p ≡ s → Owns B v' o b → Owns B v' p b → o ≡ p
  once-new b (inode_of t) (inode_of u) e d w x = ap inode_of (e ∙ sym d)
  once-new b (inode_of t) (content_of u k) e d w x =
      let c = own-content k b (subst (λ (y : ℕ). Owns B v' (content_of y k) b) d x) in
      absurd (omega (arith, same-position 0 (suc k) (omega (arith, length-cs)) c.1 (sym (own-inode b (subst (λ (y : ℕ). Owns B v' (inode_of y) b) e w)) ∙ c.0)))
  once-new b (content_of t k) (inode_of u) e d w x =
      let c = own-content k b (subst (λ (y : ℕ). Owns B v' (content_of y k) b) e w) in
      absurd (omega (arith, same-position 0 (suc k) (omega (arith, length-cs)) c.1 (sym (own-inode b (subst (λ (y : ℕ). Owns B v' (inode_of y) b) d x)) ∙ c.0)))
  once-new b (content_of t k) (content_of u l) e d w x =
      let c = own-content k b (subst (λ (y : ℕ). Owns B v' (content_of y k) b) e w) in
      let f = own-content l b (subst (λ (y : ℕ). Owns B v' (content_of y l) b) d x) in
      let kl : k ≡ l = omega (arith, same-position (suc k) (suc l) c.1 f.1 (sym c.0 ∙ f.0)) in
      ap₂ content_of (e ∙ sym d) kl

  once' : (b : ℕ) (o p : Owner) → Owns B v' o b → Owns B v' p b → o ≡ p
  once' b o p w x =
      elim (ℕ_discrete (slot_in o) s) [
        | yes e ↦ elim (ℕ_discrete (slot_in p) s) [
          | yes d ↦ once-new b o p e d w x
          | no d ↦ absurd ((picked b (own_in o b e w)).unowned (p, owns-from B img new s frame p b d x))
        ]
        | no e ↦ elim (ℕ_discrete (slot_in p) s) [
          | yes d ↦ absurd ((picked b (own_in p b d x)).unowned (o, owns-from B img new s frame o b e w))
          | no d ↦ ok.sound.once b o p (owns-from B img new s frame o b e w) (owns-from B img new s frame p b d x)
        ]
      ]

  -- ---- the map
  pub bits_is : v'.map ≡ set_bits v.map 1 cs
  bits_is = view-map B new ∙ new-map ∙ ap (set_bits v.map 1) (sym cs-is)

  pub cs-mapped : Mapped (length v.map) cs
  cs-mapped = mapped-all cs (length v.map) (λ b p. omega (arith, map-inside B sz img b (picked b p).inside.high, length-map B img ok.long))

  pub bit_in : (b : ℕ) → In b cs → T (map_bit v'.map b)
  bit_in b p =
      subst T (sym (ap (λ (m : List ℕ). map_bit m b) bits_is ∙ bits-set 1 (omega arith) cs v.map cs-mapped b p)) tt

  pub bit-out : (b : ℕ) → (In b cs → ⊥) → map_bit v'.map b ≡ map_bit v.map b
  bit-out b d = ap (λ (m : List ℕ). map_bit m b) bits_is ∙ bits-kept 1 (omega arith) cs v.map cs-mapped b d

  -- an owner in the old volume is in another slot
  old-owner : (o : Owner) (b : ℕ) → Owns B v o b → slot_in o ≢ s
  old-owner o b w e = T_not (free v (slot_in o)) (owns-file B v b o w).taken (subst (λ (x : ℕ). T (free v x)) (sym e) (free-hit B v gr.slot))

  mapped' : (b : ℕ) → b < v'.n → T (map_bit v'.map b) ↔ ((b < 3) ⊎ Owned B v' b)
  mapped' b h =
      let hv : b < v.n = subst (λ (n : ℕ). b < n) (n-same B img new s frame) h in
      elim (in-dec b cs) [
        | yes p ↦ ((λ t. inr (in-own b p)), (λ w. bit_in b p))
        | no d ↦ (
          (λ t. ⊎_elim (λ l. inl l) (λ w. inr (w.0, owns-to B img new s frame w.0 b (old-owner w.0 b w.1) w.1)) ((ok.sound.mapped b hv).0 (subst T (bit-out b d) t))),
          (λ w. subst T (sym (bit-out b d)) ((ok.sound.mapped b hv).1 (⊎_elim (λ l. inl l) (λ o. inr (o.0, owns-from B img new s frame o.0 b (λ e. d (own_in o.0 b e o.1)) o.1)) w))),
        )
      ]

  -- ---- the new volume
  away : (t : ℕ) → t ≢ s → File B v' t → T (same_name (name v' t) nm) → ⊥
  away t d f e =
      slot-miss B v nm gr.fresh t (file-from B img new s frame t d f)
      (subst (λ (x : List ℕ). T (same_name x nm)) (name-same B img new s frame t f.slot d) e)

  pub apart' : (t u : ℕ) → File B v' t → File B v' u → T (same_name (name v' t) (name v' u)) → t ≡ u
  apart' t u ft fu e =
      elim (ℕ_discrete t s) [
        | yes a ↦ elim (ℕ_discrete u s) [
          | yes b ↦ a ∙ sym b
          | no b ↦ absurd (away u b fu (same-sym nm (name v' u) (subst (λ (x : List ℕ). T (same_name x (name v' u))) (ap (name v') a ∙ new-name) e)))
        ]
        | no a ↦ elim (ℕ_discrete u s) [
          | yes b ↦ absurd (away t a ft (subst (λ (x : List ℕ). T (same_name (name v' t) x)) (ap (name v') b ∙ new-name) e))
          | no b ↦ apart-to B img new s frame ok.sound t u a b ft fu e
        ]
      ]

  -- a fact of every file: of the new one, and of the others
  each : (P : ℕ → Type 0) → P s → ((t : ℕ) → t ≢ s → File B v' t → P t) → (t : ℕ) → File B v' t → P t
  each P here there t f = elim (ℕ_discrete t s) [ yes e ↦ subst P (sym e) here | no d ↦ there t d f ]

  pub sound' : Sound B v'
  sound' =
      record {
        formed = λ t h.
            (elim (ℕ_discrete t s) [
              | yes e ↦ inr (subst (λ (x : ℕ). T (used v' x)) (sym e) new-used)
              | no d ↦ formed-to B img new s frame ok.sound t d h
            ]);
        apart = apart';
        small = each (λ t. size v' t ≤ max_size B) (subst (λ (x : ℕ). x ≤ max_size B) (sym new-size) gr.small) (small-to B img new s frame ok.sound);
        inside = λ t k f.
            each (λ t. k < need B (size v' t) → Inside v' (number v' t k))
            (λ l.
            let p : Picked B v (get_or bs k 0) = at_b k (omega (arith, length-bs, needed k l)) in
            subst (Inside v') (sym (new-at k (needed k l))) (record { low = p.inside.low; high = subst (λ (n : ℕ). get_or bs k 0 < n) (sym (n-same B img new s frame)) p.inside.high }))
            (λ t d f. inside-to B img new s frame ok.sound t d f k) t f;
        rest = λ t k f.
            each (λ t. need B (size v' t) ≤ k → k < numbers B → number v' t k ≡ 0)
            (λ l h. new-rest k (subst (λ (x : ℕ). need B x ≤ k) new-size l))
            (λ t d f. rest-to B img new s frame ok.sound t d f k) t f;
        once = once';
        mapped = mapped';
      }

  pub create-consistent : Consistent B new
  create-consistent =
      consistent-to B sz img new ok long' (kept 0 (λ p. omega (arith, (picked 0 p).inside.low)) (λ e. omega arith) (λ e. omega arith)) sound'

  zero-byte : (m r : ℕ) → m < length bs → r < B → get_or new (get_or bs m 0 * B + r) 0 ≡ 0
  zero-byte m r h l =
      byte_at B new (get_or bs m 0) r l ∙ ap (λ (x : List ℕ). get_or x r 0) (new-zero m h) ∙ get_or-replicate {A = ℕ} B r 0 0 l

  -- "create's file is all zeros of the asked size"
  new-content : content B v' new s ≡ zeros z
  unfolding content place
  new-content =
      ap (λ (x : ℕ). table (λ p. get_or new (number v' s (p / B) * B + p % B) 0) 0 x) new-size
      ∙ table-cong (λ p. get_or new (number v' s (p / B) * B + p % B) 0) (λ _. 0) 0 z
      (λ p a l.
      let k : p / B < need B z = in-need B pos p z (omega arith) in
      ap (λ (b : ℕ). get_or new (b * B + p % B) 0) (new-at (p / B) k) ∙ zero-byte (p / B) (p % B) (omega (arith, length-bs)) (in_block B pos p))
      ∙ table_same 0 0 z

  pub create-contents : (j : List ℕ) → contents B new j ≡ change nm (λ old. some (zeros z)) (contents B img) j
  create-contents j =
      by-test (same_name j nm)
      (λ t.
      stands B new j s (slot_is B v' j apart' s new-file (subst (λ (x : List ℕ). T (same_name x j)) (sym new-name) (same-sym j nm t))) gr.slot
      ∙ ap some new-content ∙ sym (cond_yes (same_name j nm) (some (zeros z)) (contents B img j) t))
      (λ t.
      contents-other B img new s frame ok.sound pos sound' j
      (λ f e. T_not (free v s) f.taken (free-hit B v gr.slot))
      (λ f e. T_not (same_name j nm) t (same-sym nm j (subst (λ (x : List ℕ). T (same_name x j)) new-name e)))
      ∙ sym (cond_no (same_name j nm) (some (zeros z)) (contents B img j) t))
