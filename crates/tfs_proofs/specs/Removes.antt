-- Remove: the volume stays consistent, and exactly the removed name no longer stands.
use Rattle.std.specs.Prelude.{◌≡◌, refl, ◌≢◌, ◌⊎◌, ◌↔◌, false, ℕ, zero, suc, ◌+◌, ◌*◌, ◌≤◌, ◌<◌}
use Rattle.std.proofs.Common.{sym, ap, ◌∙◌, inl, inr, ⊎_elim, arith, T_not}
use Rattle.std.proofs.Math.Path.{subst}
use mathlib.Core.List.{List, [], ◌∷◌}
use Rattle.std.proofs.Math.Option.{none}
use Rattle.std.proofs.Math.Decide.{ℕ_discrete, dec_lt}
use Rattle.std.proofs.Math.ListN.{length}
use Rattle.std.proofs.Math.Dec.{T}
use Rattle.lists.specs.Lists.{zeros, In}
use Rattle.list_laws.specs.Test.{by-test, cond_yes, cond_no}
use Rattle.tfs_spec.specs.Layout.{BlockSize, slots, block, set_block, slot, set_slot, set_bits, map_bit, map_byte, same_name, slot_free, View, view, free, name, slot_of, contents}
use Rattle.tfs_spec.specs.Check.{file_claims}
use Rattle.tfs_spec.specs.Consistent.{File, Owner, Owns, Owned, Inside, Sound, Consistent}
use Rattle.tfs_facts.specs.Claims.{slot_in, owns-file}
use Rattle.tfs_facts.specs.CheckMeans.{owns-inside, same-sym}
use Rattle.tfs_spec.specs.Requests.{store, store_all, remove_stores}
use Rattle.tfs_facts.specs.Views.{view-n, view-map, view-dir, length-map, length-dir}
use Rattle.tfs_facts.specs.Slots.{zeros-free}
use Rattle.tfs_facts.specs.Stores.{Fits, length-store_all, stored-away, stored-first, block_same, length-set_block}
use Rattle.tfs_facts.specs.MapBits.{in_map, length-set_bits, in-dec, mapped-all, Mapped, bits-kept, bits-set}
use Rattle.tfs_proofs.specs.Frame.{Frame, n-same, name-same, file-from, owns-to, owns-from}
use Rattle.tfs_facts.specs.Names.{name-trans, slot-hit, length-set_slot, slot-set, slot-unset, claims-owner, owner-claims}
use Rattle.tfs_proofs.specs.Others.{consistent-to, stands-not, formed-to, apart-to, small-to, inside-to, rest-to, contents-other}
use Rattle.tfs_spec.specs.Effects.{change}

-- a volume of three blocks or more has blocks 0 to 2 inside the image
pub low-inside : (B : ℕ) (img : List ℕ) → 3 * B ≤ length img → (b : ℕ) → b < 3 → b * B + B ≤ length img
low-inside B img h zero l = omega arith
low-inside B img h (suc zero) l = omega arith
low-inside B img h (suc (suc zero)) l = omega arith
low-inside B img h (suc (suc (suc b))) l = absurd (omega arith)

-- the bits of owned blocks lie in the map
pub map-inside : (B : ℕ) → BlockSize B → (img : List ℕ) → (b : ℕ) → b < (view B img).n → map_byte b < B
unfolding Rattle.tfs_spec.specs.Layout.blocks
map-inside B sz img b h =
    in_map B b sz.whole (omega (arith, subst (λ (n : ℕ). b < n) (view-n B img) h))

module _ (B : ℕ) (sz : BlockSize B) (img : List ℕ) (ok : Consistent B img) (nm : List ℕ) (hit : slot_of B (view B img) nm < slots B) where
  abbrev pub v : View
  v = view B img

  abbrev pub s : ℕ
  s = slot_of B v nm

  abbrev pub new : List ℕ
  new = store_all B img (remove_stores B v nm)

  abbrev pub dir' : List ℕ
  dir' = set_slot v.dir s (zeros 20)

  abbrev pub map' : List ℕ
  map' = set_bits v.map 0 (file_claims B v s)

  the-file : File B v s
  the-file = (slot-hit B v nm hit).0

  pub fits : Fits B (length img) (store 2 dir' ∷ store 1 map' ∷ [])
  fits = (
    length-set_slot B v.dir s (zeros 20) (length-dir B img ok.long) hit refl,
    (
      low-inside B img ok.long 2 (omega arith),
      (length-set_bits (file_claims B v s) v.map 0 ∙ length-map B img ok.long, (low-inside B img ok.long 1 (omega arith), tt)),
    ),
  )

  long' : length new ≡ length img
  unfolding remove_stores
  long' = length-store_all B (store 2 dir' ∷ store 1 map' ∷ []) img fits

  pub kept : (b : ℕ) → b ≢ 1 → b ≢ 2 → block B new b ≡ block B img b
  unfolding remove_stores
  kept b d1 d2 = stored-away B (store 2 dir' ∷ store 1 map' ∷ []) img b fits (d2, (d1, tt))

  pub new-dir : block B new 2 ≡ dir'
  unfolding remove_stores
  new-dir = stored-first B (store 2 dir') (store 1 map' ∷ []) img fits ((λ e. omega arith), tt)

  pub new-map : block B new 1 ≡ map'
  unfolding remove_stores
  new-map =
      let l : length (set_block B img 2 dir') ≡ length img = length-set_block B img 2 dir' fits.0 fits.1.0 in
      block_same B (set_block B img 2 dir') 1 map' fits.1.1.0 (subst (λ (n : ℕ). 1 * B + B ≤ n) (sym l) fits.1.1.1.0)

  pub frame : Frame B img new s
  frame =
      record {
        long = long';
        slots_kept = λ t h d. (ap (λ (x : List ℕ). slot x t) new-dir ∙ slot-unset B v.dir s (zeros 20) (length-dir B img ok.long) hit refl t d ∙ ap (λ (x : List ℕ). slot x t) (view-dir B img));
        blocks-kept = λ o b d w. (let i : Inside v b = owns-inside B v ok.sound o b w in kept b (λ e. omega (arith, i.low)) (λ e. omega (arith, i.low)));
      }

  abbrev v' : View
  v' = view B new

  freed : T (free v' s)
  unfolding free
  freed =
      subst (λ (x : List ℕ). T (slot_free x))
      (sym (ap (λ (x : List ℕ). slot x s) (view-dir B new ∙ new-dir) ∙ slot-set B v.dir s (zeros 20) (length-dir B img ok.long) hit refl)) zeros-free

  -- no file of the new volume is in the slot
  pub other : (t : ℕ) → File B v' t → t ≢ s
  other t f e = T_not (free v' t) f.taken (subst (λ (x : ℕ). T (free v' x)) (sym e) freed)

  pub old : (t : ℕ) → File B v' t → File B v t
  old t f = file-from B img new s frame t (other t f) f

  other-owner : (o : Owner) (b : ℕ) → Owns B v' o b → slot_in o ≢ s
  other-owner o b w = other (slot_in o) (owns-file B v' b o w)

  -- ---- the map
  pub claims-mapped : Mapped (length v.map) (file_claims B v s)
  claims-mapped =
      mapped-all (file_claims B v s) (length v.map)
      (λ b i.
      let o = claims-owner B v s b the-file i in
      let j : Inside v b = owns-inside B v ok.sound o.0 b o.2 in
      omega (arith, map-inside B sz img b j.high, length-map B img ok.long))

  pub bit-out : (b : ℕ) → (In b (file_claims B v s) → ⊥) → map_bit v'.map b ≡ map_bit v.map b
  bit-out b d =
      ap (λ (m : List ℕ). map_bit m b) (view-map B new ∙ new-map) ∙ bits-kept 0 (omega arith) (file_claims B v s) v.map claims-mapped b d

  pub bit_in : (b : ℕ) → In b (file_claims B v s) → map_bit v'.map b ≡ false
  bit_in b i =
      ap (λ (m : List ℕ). map_bit m b) (view-map B new ∙ new-map) ∙ bits-set 0 (omega arith) (file_claims B v s) v.map claims-mapped b i

  -- an owner that is left is not the removed file
  owned-to : (b : ℕ) → (In b (file_claims B v s) → ⊥) → Owned B v b → Owned B v' b
  owned-to b d w =
      (w.0, owns-to B img new s frame w.0 b (λ e. d (subst (λ (x : ℕ). In b (file_claims B v x)) e (owner-claims B v w.0 b w.1))) w.1)

  owned-from : (b : ℕ) → Owned B v' b → Owned B v b
  owned-from b w = (w.0, owns-from B img new s frame w.0 b (other-owner w.0 b w.1) w.1)

  not-claimed : (b : ℕ) → Owned B v' b → In b (file_claims B v s) → ⊥
  not-claimed b w i =
      let o = claims-owner B v s b the-file i in
      other-owner w.0 b w.1
      (ap slot_in (ok.sound.once b w.0 o.0 (owns-from B img new s frame w.0 b (other-owner w.0 b w.1) w.1) o.2) ∙ o.1)

  mapped' : (b : ℕ) → b < v'.n → T (map_bit v'.map b) ↔ ((b < 3) ⊎ Owned B v' b)
  mapped' b h =
      let hv : b < v.n = subst (λ (n : ℕ). b < n) (n-same B img new s frame) h in
      elim (in-dec b (file_claims B v s)) [
        | yes i ↦ (
          (λ t. absurd (subst T (bit_in b i) t)),
          ⊎_elim
              (λ l. absurd (let o = claims-owner B v s b the-file i in let j : Inside v b = owns-inside B v ok.sound o.0 b o.2 in omega (arith, j.low)))
              (λ w. absurd (not-claimed b w i)),
        )
        | no d ↦ (
          (λ t. ⊎_elim (λ l. inl l) (λ w. inr (owned-to b d w)) ((ok.sound.mapped b hv).0 (subst T (bit-out b d) t))),
          (λ w. subst T (sym (bit-out b d)) ((ok.sound.mapped b hv).1 (⊎_elim (λ l. inl l) (λ o. inr (owned-from b o)) w))),
        )
      ]

  pub sound' : Sound B v'
  sound' =
      record {
        formed = λ t h.
            (elim (ℕ_discrete t s) [
              | yes e ↦ inl (subst (λ (x : ℕ). T (free v' x)) (sym e) freed)
              | no d ↦ formed-to B img new s frame ok.sound t d h
            ]);
        apart = λ t u ft fu e. apart-to B img new s frame ok.sound t u (other t ft) (other u fu) ft fu e;
        small = λ t f. small-to B img new s frame ok.sound t (other t f) f;
        inside = λ t k f l. inside-to B img new s frame ok.sound t (other t f) f k l;
        rest = λ t k f l h. rest-to B img new s frame ok.sound t (other t f) f k l h;
        once = λ b o p wo wp.
            ok.sound.once b o p (owns-from B img new s frame o b (other-owner o b wo) wo) (owns-from B img new s frame p b (other-owner p b wp) wp);
        mapped = mapped';
      }

  pub remove-consistent : Consistent B new
  remove-consistent = consistent-to B sz img new ok long' (kept 0 (λ e. omega arith) (λ e. omega arith)) sound'

  -- the name no longer stands
  gone-name : (j : List ℕ) → T (same_name j nm) → contents B new j ≡ none
  gone-name j e =
      elim (dec_lt (slot_of B v' j) (slots B)) [
        | yes h ↦ (
            let f = slot-hit B v' j h in
            let d : slot_of B v' j ≢ s = other (slot_of B v' j) f.0 in
            let a : T (same_name (name v (slot_of B v' j)) j) = subst (λ (x : List ℕ). T (same_name x j)) (name-same B img new s frame (slot_of B v' j) h d) f.1 in
            absurd (d (ok.sound.apart (slot_of B v' j) s (old (slot_of B v' j) f.0) the-file
            (name-trans (name v (slot_of B v' j)) j (name v s) a (name-trans j nm (name v s) e (same-sym (name v s) nm (slot-hit B v nm hit).1))))))
        | no h ↦ stands-not B new j (omega arith)
      ]

  pub remove-contents : (j : List ℕ) → contents B new j ≡ change nm (λ old. none) (contents B img) j
  remove-contents j =
      by-test (same_name j nm)
      (λ t. gone-name j t ∙ sym (cond_yes (same_name j nm) none (contents B img j) t))
      (λ t.
      contents-other B img new s frame ok.sound (omega (arith, sz.large)) sound' j
      (λ f e. T_not (same_name j nm) t (name-trans j (name v s) nm (same-sym (name v s) j e) (slot-hit B v nm hit).1))
      (λ f e. other s f refl)
      ∙ sym (cond_no (same_name j nm) none (contents B img j) t))
