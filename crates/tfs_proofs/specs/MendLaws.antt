-- What mend does to an image.
use Rattle.std.specs.Prelude.{◌≡◌, refl, ◌≢◌, ◌⊎◌, ℕ, ◌*◌, ◌/◌, ◌%◌, ◌≤◌, ◌<◌, List, get_or, T}
use Rattle.std.proofs.Common.{sym, ◌∙◌, subst, inl, inr, arith, div-add-mod', mod-lt, div-lt_iff_lt-mul}
use Rattle.std.proofs.Math.Path.{ap}
use Rattle.std.proofs.Math.Decide.{dec_le}
use Rattle.std.proofs.Math.ListN.{length}
use Rattle.tfs_spec.specs.Layout.{BlockSize, block, map_bit, View, view, inode, contents}
use Rattle.tfs_spec.specs.Check.{Verdict, consistent, broken, check}
use Rattle.tfs_spec.specs.Consistent.{File, Inside, Consistent, Stray}
use Rattle.tfs_spec.specs.Requests.{granted, Outcome, mended, mend}
use Rattle.tfs_spec.specs.Cuts.{MendLaws}
use Rattle.tfs_facts.specs.Stores.{block-byte}
use Rattle.tfs_facts.specs.Views.{view-map}
use Rattle.tfs_facts.specs.CheckMeans.{owns-inside, check-means}
use Rattle.tfs_facts.specs.Mends.{with_map, file-from, mend-is, short-same, sound-mend, map', mended-long, mended-map, mended-other, mended-view, mended-clear, mended-kept}
use Rattle.tfs_proofs.specs.Mending.{mend-yes, mend-granted, mend-image}
use Rattle.tfs_proofs.specs.SameButMap.{SameButMap, files-same}

module _ (B : ℕ) (sz : BlockSize B) (img : List ℕ) where
  pos : 0 < B
  pos = omega (arith, sz.large)

  -- a mended image that is consistent is long
  long_of : Consistent B (mended B img) → 3 * B ≤ length img
  long_of ok =
      elim (dec_le (3 * B) (length img)) [
        | yes l ↦ l
        | no l ↦ absurd (let e : mended B img ≡ img = short-same B img (omega arith) in let k : 3 * B ≤ length img = subst (λ (x : List ℕ). 3 * B ≤ length x) e ok.long in omega arith)
      ]

  image-is : T (granted (mend B img).answer) → (mend B img).image ≡ mended B img
  image-is g = ap (λ (o : Outcome). o.image) (mend-yes B sz img (mend-granted B sz img g))

  pub mend-consistent : T (granted (mend B img).answer) → Consistent B (mend B img).image
  mend-consistent g = subst (Consistent B) (sym (image-is g)) (mend-granted B sz img g)

  -- a file of the volume that mend leaves was there before, with its number
  pub mend-file : T (granted (mend B img).answer) → (s : ℕ) → File B (view B (mend B img).image) s → File B (view B img) s × (inode (view B (mend B img).image) s ≡ inode (view B img) s)
  unfolding inode
  mend-file g s f =
      let long : 3 * B ≤ length img = long_of (mend-granted B sz img g) in
      let e : view B (mend B img).image ≡ with_map (view B img) (map' B sz img long) = ap (view B) (image-is g) ∙ mended-view B sz img long in
      (file-from B (view B img) (map' B sz img long) s (subst (λ (x : View). File B x s) e f), ap (λ (x : View). inode x s) e)

  pub mend-files : (nm : List ℕ) → contents B (mend B img).image nm ≡ contents B img nm
  mend-files nm =
      mend-image B sz img (λ x. contents B x nm ≡ contents B img nm) (λ ok. sym (files-same B pos (mended B img) img ok.sound (like ok) nm)) refl
    where
      like : Consistent B (mended B img) → SameButMap B (mended B img) img
      like ok =
          let long : 3 * B ≤ length img = long_of ok in
          record {
            long = sym (mended-long B sz img long);
            head = sym (mended-other B sz img long 0 (λ e. omega arith));
            dir = sym (mended-other B sz img long 2 (λ e. omega arith));
            owned = λ o b w. (let i : Inside (view B (mended B img)) b = owns-inside B (view B (mended B img)) ok.sound o b w in sym (mended-other B sz img long b (λ e. omega (arith, i.low))));
          }

  -- block c is not the map
  outside : (q : ℕ) → (q < B) ⊎ (2 * B ≤ q) → q / B ≢ 1
  outside q (inl l) e = omega (arith, (div-lt_iff_lt-mul {k = B} {x = q} {y = 1} pos).1 (omega arith))
  outside q (inr l) e = omega (arith, (div-lt_iff_lt-mul {k = B} {x = q} {y = 2} pos).0 (omega arith))

  pub mend-other : (c : ℕ) → c ≢ 1 → block B (mend B img).image c ≡ block B img c
  mend-other c d = mend-image B sz img (λ x. block B x c ≡ block B img c) (λ ok. mended-other B sz img (long_of ok) c d) refl

  mend-long : length (mend B img).image ≡ length img
  mend-long = mend-image B sz img (λ x. length x ≡ length img) (λ ok. mended-long B sz img (long_of ok)) refl

  pub mend-bit : (b : ℕ) → (Stray B (view B img) b → ⊥) → map_bit (block B (mend B img).image 1) b ≡ map_bit (block B img 1) b
  mend-bit b d =
      mend-image B sz img (λ x. map_bit (block B x 1) b ≡ map_bit (block B img 1) b)
      (λ ok. ap (λ (x : List ℕ). map_bit x b) (mended-map B sz img (long_of ok)) ∙ mended-kept B sz img (long_of ok) b d ∙ ap (λ (x : List ℕ). map_bit x b) (view-map B img)) refl

-- mend twice is mend once
mend-again : (B : ℕ) → BlockSize B → (img : List ℕ) → mend B (mend B img).image ≡ mend B img
mend-again B sz img = go (check B (mended B img)) refl
  where
    go : (x : Verdict) → check B (mended B img) ≡ x → mend B (mend B img).image ≡ mend B img
    go consistent e =
        let ok : Consistent B (mended B img) = (check-means B sz (mended B img)).0 e in
        ap (λ (o : Outcome). mend B o.image) (mend-yes B sz img ok) ∙ sound-mend B sz (mended B img) ok ∙ sym (mend-yes B sz img ok)
    go (broken num p) e = ap (λ (o : Outcome). mend B o.image) (mend-is B img (broken num p) e)

module _ (B : ℕ) (sz : BlockSize B) (img : List ℕ) where
  pub mend-law : MendLaws B img
  mend-law = record {
    cleared = λ g b s.
        (let long : 3 * B ≤ length img = long_of B sz img (mend-granted B sz img g) in
        ap (λ (x : List ℕ). map_bit (block B x 1) b) (image-is B sz img g) ∙ ap (λ (x : List ℕ). map_bit x b) (mended-map B sz img long) ∙ mended-clear B sz img long b s);
    bits = mend-bit B sz img;
    consistent = mend-consistent B sz img;
    bytes = λ q h. (
        ap (λ (x : ℕ). get_or (mend B img).image x 0) (sym (div-add-mod' q B))
        ∙ block-byte B (mend B img).image img (q / B) (q % B) (mod-lt q (pos B sz img)) (mend-other B sz img (q / B) (outside B sz img q h))
        ∙ ap (λ (x : ℕ). get_or img x 0) (div-add-mod' q B));
    files = mend-files B sz img;
    long = mend-long B sz img;
    sound = sound-mend B sz img;
    again = mend-again B sz img;
  }
