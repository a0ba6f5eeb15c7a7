-- A view with another map, the stray bits of a map cleared, and the check of the volume that mend leaves.
use Rattle.std.specs.Prelude.{◌≡◌, ◌≢◌, Bool, true, not, cond, ◌&&◌, leb, ltb}
use Rattle.std.proofs.Math.Path.{refl, sym, ap, subst}
use Rattle.std.proofs.Common.{◌∙◌, ⊎_elim, arith, div-add-mod', mod-lt, ext_get_or, le→leb, ltb→lt, lt→ltb}
use Rattle.std.proofs.Math.Bool.{false}
use Prim.Native.Nat.{ℕ, zero, suc, ◌+◌, ◌*◌, ◌/◌, ◌%◌, ◌≤◌, ◌<◌, min}
use mathlib.Core.List.{List, [], ◌++◌}
use Rattle.std.proofs.Math.Decide.{ℕ_discrete}
use Rattle.std.proofs.Math.Arith.{le→nltb}
use Rattle.std.proofs.Math.ListN.{length, get_or}
use Rattle.std.proofs.Math.Dec.{T, eqb, leb→le, eqb→eq, not_T}
use Rattle.lists.specs.Lists.{table}
use Rattle.list_laws.specs.Test.{by-test, cond_yes, cond_no, and-of, and_l, and_r, no-and, iff-eq, eqb_of}
use Rattle.list_laws.specs.Table.{table-cong}
use Rattle.tfs_spec.specs.Layout.{BlockSize, slots, blocks, block, set_block, map_byte, map_bit, set_bit, slot, slot_inode, in_range, View, view, view_n, inode_at, free, inode, size, number}
use Rattle.tfs_spec.specs.Check.{Verdict, consistent, too_short, file_claims, claims_to, claims, times, stray, check}
use Rattle.tfs_spec.specs.Consistent.{File, Owner, inode_of, content_of, Owns, Inside, Consistent, Stray}
use Rattle.tfs_spec.specs.Requests.{Outcome, done, refuse, checked, clear_strays, mended, mend}
use Rattle.tfs_facts.specs.Stores.{block-other, block_same, block-byte, length-set_block}
use Rattle.tfs_facts.specs.Views.{view-n, view-map, length-map}
use Rattle.tfs_facts.specs.MapBits.{in_map, length-set_bit, bit-set, bit_kept, above-set}
use Rattle.tfs_facts.specs.CheckMeans.{in-range, check-means}
use Rattle.tfs_facts.specs.Claims.{owned-claimed, claimed-owned}

-- ---- a view with another map
abbrev pub with_map : View → List ℕ → View
with_map v m = record { n = v.n; head = v.head; map = m; dir = v.dir; inodes = v.inodes }

-- two images that agree but for the map in what a view takes
pub view-like : (B : ℕ) (img new : List ℕ) → length new ≡ length img → block B new 0 ≡ block B img 0 → block B new 2 ≡ block B img 2 → ((s : ℕ) → s < slots B → Inside (view B img) (inode (view B img) s) → block B new (inode (view B img) s) ≡ block B img (inode (view B img) s)) → view B new ≡ with_map (view B img) (block B new 1)
unfolding view view_n blocks inode inode_at
view-like B img new long head dir own =
    λ i. record { n = e i; head = head i; map = block B new 1; dir = dir i; inodes = listed i }
  where
    e : blocks B new ≡ blocks B img
    e = ap (λ (x : ℕ). min (8 * B) (x / B)) long

    at : (s : ℕ) → s < slots B → inode_at B (blocks B new) new s ≡ inode_at B (blocks B img) img s
    at s h =
        ap (λ (n : ℕ). inode_at B n new s) e
        ∙ ap (λ (d : List ℕ). cond (in_range (blocks B img) (slot_inode (slot d s))) (block B new (slot_inode (slot d s))) []) dir
        ∙ by-test (in_range (blocks B img) (slot_inode (slot (block B img 2) s)))
        (λ t. ap (λ (x : List ℕ). cond (in_range (blocks B img) (slot_inode (slot (block B img 2) s))) x []) (own s h (in-range (view B img) (slot_inode (slot (block B img 2) s)) t)))
        (λ t. cond_no (in_range (blocks B img) (slot_inode (slot (block B img 2) s))) _ [] t ∙ sym (cond_no (in_range (blocks B img) (slot_inode (slot (block B img 2) s))) _ [] t))

    listed : table (inode_at B (blocks B new) new) 0 (slots B) ≡ table (inode_at B (blocks B img) img) 0 (slots B)
    listed = table-cong (inode_at B (blocks B new) new) (inode_at B (blocks B img) img) 0 (slots B) (λ s a l. at s (omega arith))

-- files, owners and claims are those of the view
module _ (B : ℕ) (v : View) (m : List ℕ) where
  pub file-from : (s : ℕ) → File B (with_map v m) s → File B v s
  unfolding free
  file-from s f = record { slot = f.slot; taken = f.taken }

  pub file-to : (s : ℕ) → File B v s → File B (with_map v m) s
  unfolding free
  file-to s f = record { slot = f.slot; taken = f.taken }

  pub owns-from : (o : Owner) (b : ℕ) → Owns B (with_map v m) o b → Owns B v o b
  unfolding inode number size
  owns-from (inode_of s) b w = (file-from s w.0, w.1)
  owns-from (content_of s k) b w = (file-from s w.0, w.1, w.2)

  pub owns-to : (o : Owner) (b : ℕ) → Owns B v o b → Owns B (with_map v m) o b
  unfolding inode number size
  owns-to (inode_of s) b w = (file-to s w.0, w.1)
  owns-to (content_of s k) b w = (file-to s w.0, w.1, w.2)

  claims-with : (s : ℕ) → claims_to B (with_map v m) s ≡ claims_to B v s
  unfolding claims_to file_claims free inode number size
  claims-with zero = refl
  claims-with (suc s) = ap (λ (l : List ℕ). l ++ file_claims B v s) (claims-with s)

  pub claims-same : claims B (with_map v m) ≡ claims B v
  unfolding claims
  claims-same = claims-with (slots B)

-- ---- stray bits
-- the test, in plain facts
module _ (B : ℕ) (v : View) (b : ℕ) where
  pub stray-means : b < v.n → T (stray B v b) → Stray B v b
  unfolding stray
  stray-means h t =
      let r : T (map_bit v.map b && eqb (times b (claims B v)) 0) = and_r (leb 3 b) _ t in
      record {
        inside = record { low = leb→le 3 b (and_l (leb 3 b) _ t); high = h };
        set = and_l (map_bit v.map b) _ r;
        unowned = λ w. omega (arith, owned-claimed B v b w, eqb→eq (times b (claims B v)) 0 (and_r (map_bit v.map b) _ r));
      }

  stray-yes : Stray B v b → T (stray B v b)
  unfolding stray
  stray-yes w =
      and-of (leb 3 b) _ (le→leb 3 b w.inside.low)
      (and-of (map_bit v.map b) _ w.set (unclaimed (ℕ_discrete (times b (claims B v)) 0)))
    where
      unclaimed : Dec (times b (claims B v) ≡ 0) → T (eqb (times b (claims B v)) 0)
      unclaimed (yes e) = eqb_of e
      unclaimed (no d) = absurd (w.unowned (claimed-owned B v b (omega arith)))

-- ---- the stray bits below k cleared
none-and : (a b : Bool) → T (not b) → T (not (a && b))
none-and true b t = t
none-and false b t = tt

module _ (B : ℕ) (v : View) where
  pub length-clear : (k : ℕ) → length (clear_strays B v k) ≡ length v.map
  unfolding clear_strays
  length-clear zero = refl
  length-clear (suc b) =
      by-test (stray B v b)
      (λ t. ap length (cond_yes (stray B v b) _ _ t) ∙ length-set_bit (clear_strays B v b) b 0 ∙ length-clear b)
      (λ t. ap length (cond_no (stray B v b) _ _ t) ∙ length-clear b)

  -- what becomes of bit b
  abbrev after : ℕ → ℕ → Bool
  after k b = cond (ltb b k && stray B v b) false (map_bit v.map b)

  after_same : (k b : ℕ) → b ≢ k → after k b ≡ after (suc k) b
  after_same k b d =
      ap (λ (x : Bool). cond (x && stray B v b) false (map_bit v.map b))
      (iff-eq (ltb b k) (ltb b (suc k)) (λ t. lt→ltb b (suc k) (omega (arith, ltb→lt b k t))) (λ t. lt→ltb b k (omega (arith, ltb→lt b (suc k) t))))

  after_none : (k b : ℕ) → T (not (stray B v b)) → after k b ≡ map_bit v.map b
  after_none k b t = cond_no (ltb b k && stray B v b) false (map_bit v.map b) (none-and (ltb b k) (stray B v b) t)

  cleared-one : (k b : ℕ) → map_byte k < length (clear_strays B v k) → T (stray B v k) → map_bit (clear_strays B v k) b ≡ after k b → map_bit (set_bit (clear_strays B v k) k 0) b ≡ after (suc k) b
  cleared-one k b fits t old =
      elim (ℕ_discrete b k) [
        | yes e ↦ (ap (map_bit (set_bit (clear_strays B v k) k 0)) e ∙ bit-set (clear_strays B v k) k 0 fits (omega arith)
            ∙ sym (cond_yes (ltb b (suc k) && stray B v b) false (map_bit v.map b) (and-of (ltb b (suc k)) (stray B v b) (lt→ltb b (suc k) (omega arith)) (subst (λ (x : ℕ). T (stray B v x)) (sym e) t))))
        | no d ↦ bit_kept (clear_strays B v k) k 0 fits (omega arith) b d ∙ old ∙ after_same k b d
      ]

  cleared-none : (k b : ℕ) → T (not (stray B v k)) → after k b ≡ after (suc k) b
  cleared-none k b t =
      elim (ℕ_discrete b k) [
        | yes e ↦ (let u : T (not (stray B v b)) = subst (λ (x : ℕ). T (not (stray B v x))) (sym e) t in after_none k b u ∙ sym (after_none (suc k) b u))
        | no d ↦ after_same k b d
      ]

  clear-bit : (k : ℕ) → ((i : ℕ) → i < k → map_byte i < length v.map) → (b : ℕ) → map_bit (clear_strays B v k) b ≡ cond (ltb b k && stray B v b) false (map_bit v.map b)
  unfolding clear_strays
  clear-bit zero h b = sym (cond_no (ltb b 0 && stray B v b) false (map_bit v.map b) (no-and (ltb b 0) (stray B v b) (le→nltb b 0 (omega arith))))
  clear-bit (suc k) h b =
      let old : map_bit (clear_strays B v k) b ≡ after k b = clear-bit k (λ i l. h i (omega arith)) b in
      by-test (stray B v k)
      (λ t. ap (λ (m : List ℕ). map_bit m b) (cond_yes (stray B v k) _ _ t) ∙ cleared-one k b (omega (arith, h k (omega arith), length-clear k)) t old)
      (λ t. ap (λ (m : List ℕ). map_bit m b) (cond_no (stray B v k) _ _ t) ∙ old ∙ cleared-none k b t)

  -- what stands above the bits of a byte stays
  clear_above : (k : ℕ) → ((i : ℕ) → i < k → map_byte i < length v.map) → (i : ℕ) → get_or (clear_strays B v k) i 0 / 256 ≡ get_or v.map i 0 / 256
  unfolding clear_strays
  clear_above zero h i = refl
  clear_above (suc k) h i =
      let old : get_or (clear_strays B v k) i 0 / 256 ≡ get_or v.map i 0 / 256 = clear_above k (λ j l. h j (omega arith)) i in
      by-test (stray B v k)
      (λ t.
      ap (λ (m : List ℕ). get_or m i 0 / 256) (cond_yes (stray B v k) _ _ t)
      ∙ above-set (clear_strays B v k) k 0 (omega (arith, h k (omega arith), length-clear k)) (omega arith) i
      ∙ old)
      (λ t. ap (λ (m : List ℕ). get_or m i 0 / 256) (cond_no (stray B v k) _ _ t) ∙ old)

-- ---- what mend comes to, by what the check says of the mended image
abbrev pub granting : ℕ → List ℕ → Outcome
granting B img = record { answer = done; image = mended B img; buffer = [] }

pub mend-is : (B : ℕ) (img : List ℕ) (x : Verdict) → check B (mended B img) ≡ x → mend B img ≡ checked x (refuse img []) (granting B img)
unfolding mend
mend-is B img x e = ap (λ (y : Verdict). checked y (refuse img []) (granting B img)) e

pub short-same : (B : ℕ) (img : List ℕ) → length img < 3 * B → mended B img ≡ img
unfolding mended too_short
short-same B img l = cond_yes (ltb (length img) (3 * B)) img _ (lt→ltb (length img) (3 * B) l)

-- ---- the volume that mend leaves
module _ (B : ℕ) (sz : BlockSize B) (img : List ℕ) (long : 3 * B ≤ length img) where
  abbrev v : View
  v = view B img

  abbrev pub map' : List ℕ
  map' = clear_strays B v v.n

  inside : 1 * B + B ≤ length img
  inside = omega arith

  pub length-new : length map' ≡ B
  length-new = length-clear B v v.n ∙ length-map B img long

  pub mended-is : mended B img ≡ set_block B img 1 map'
  unfolding mended too_short
  mended-is = cond_no (ltb (length img) (3 * B)) _ _ (le→nltb (length img) (3 * B) long)

  pub mended-long : length (mended B img) ≡ length img
  mended-long = ap length mended-is ∙ length-set_block B img 1 map' length-new inside

  pub mended-map : block B (mended B img) 1 ≡ map'
  mended-map = ap (λ (x : List ℕ). block B x 1) mended-is ∙ block_same B img 1 map' length-new inside

  pub mended-other : (c : ℕ) → c ≢ 1 → block B (mended B img) c ≡ block B img c
  mended-other c d = ap (λ (x : List ℕ). block B x c) mended-is ∙ block-other B img 1 map' length-new inside c d

  pub mended-view : view B (mended B img) ≡ with_map v map'
  mended-view =
      view-like B img (mended B img) mended-long (mended-other 0 (λ e. omega arith)) (mended-other 2 (λ e. omega arith))
      (λ s h i. mended-other (inode v s) (λ e. omega (arith, i.low)))
      ∙ ap (with_map v) mended-map

  -- its bits
  bits_fit : (i : ℕ) → i < v.n → map_byte i < length v.map
  unfolding blocks
  bits_fit i h =
      omega (arith, length-map B img long, in_map B i sz.whole (omega (arith, subst (λ (n : ℕ). i < n) (view-n B img) h)))

  pub mended-bit : (b : ℕ) → map_bit map' b ≡ cond (ltb b v.n && stray B v b) false (map_bit v.map b)
  mended-bit = clear-bit B v v.n bits_fit

  pub mended-above : (i : ℕ) → get_or map' i 0 / 256 ≡ get_or v.map i 0 / 256
  mended-above = clear_above B v v.n bits_fit

  pub mended-clear : (b : ℕ) → Stray B v b → map_bit map' b ≡ false
  mended-clear b w =
      mended-bit b
      ∙ cond_yes (ltb b v.n && stray B v b) false _ (and-of (ltb b v.n) (stray B v b) (lt→ltb b v.n w.inside.high) (stray-yes B v b w))

  pub mended-kept : (b : ℕ) → (Stray B v b → ⊥) → map_bit map' b ≡ map_bit v.map b
  mended-kept b d =
      mended-bit b
      ∙ cond_no (ltb b v.n && stray B v b) false _ (not_T (ltb b v.n && stray B v b) (λ t. d (stray-means B v b (ltb→lt b v.n (and_l (ltb b v.n) _ t)) (and_r (ltb b v.n) _ t))))

-- ---- mend of a consistent volume
-- images with the same blocks are the same
pub same_blocks : (B : ℕ) → 0 < B → (a b : List ℕ) → length a ≡ length b → ((c : ℕ) → block B a c ≡ block B b c) → a ≡ b
same_blocks B pos a b e same =
    ext_get_or 0 a b e
    (λ q h.
    ap (λ (x : ℕ). get_or a x 0) (sym (div-add-mod' q B)) ∙ block-byte B a b (q / B) (q % B) (mod-lt q pos) (same (q / B)) ∙ ap (λ (x : ℕ). get_or b x 0) (div-add-mod' q B))

-- a map with no stray bit stays
none-cleared : (B : ℕ) (v : View) (k : ℕ) → ((b : ℕ) → b < k → T (stray B v b) → ⊥) → clear_strays B v k ≡ v.map
unfolding clear_strays
none-cleared B v zero h = refl
none-cleared B v (suc b) h = cond_no (stray B v b) _ _ (not_T (stray B v b) (h b (omega arith))) ∙ none-cleared B v b (λ c l. h c (omega arith))

module _ (B : ℕ) (sz : BlockSize B) (img : List ℕ) (ok : Consistent B img) where
  -- nothing is cleared
  sound-same : mended B img ≡ img
  sound-same =
      same_blocks B (omega (arith, sz.large)) (mended B img) img (mended-long B sz img ok.long)
      (λ c.
      elim (ℕ_discrete c 1) [
        | yes e ↦ (ap (block B (mended B img)) e ∙ mended-map B sz img ok.long ∙ none-cleared B (view B img) (view B img).n none ∙ view-map B img ∙ ap (block B img) (sym e))
        | no d ↦ mended-other B sz img ok.long c d
      ])
    where
      none : (b : ℕ) → b < (view B img).n → T (stray B (view B img) b) → ⊥
      none b h t =
          let s : Stray B (view B img) b = stray-means B (view B img) b h t in
          ⊎_elim (λ l. omega (arith, s.inside.low)) s.unowned ((ok.sound.mapped b h).0 s.set)

  pub sound-mend : mend B img ≡ record { answer = done; image = img; buffer = [] }
  sound-mend =
      mend-is B img consistent (ap (check B) sound-same ∙ (check-means B sz img).1 ok) ∙ ap (λ (x : List ℕ). record { answer = done; image = x; buffer = [] }) sound-same
