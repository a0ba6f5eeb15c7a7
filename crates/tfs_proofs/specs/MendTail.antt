-- Mend neither reads nor changes a byte past the last block of the volume.
use Rattle.std.specs.Prelude.{◌≡◌, refl, ℕ, ◌*◌, ◌≤◌, ◌<◌, List, [], ◌∷◌, length, get_or}
use Rattle.std.proofs.Common.{sym, ap, ◌∙◌, subst₂, inr, arith}
use Rattle.std.proofs.Math.Decide.{dec_le}
use Rattle.tfs_spec.specs.Layout.{BlockSize, blocks, set_block, View, view}
use Rattle.tfs_spec.specs.Check.{Verdict, consistent, broken, check}
use Rattle.tfs_spec.specs.Requests.{Outcome, refuse, checked, store, store_all, clear_strays, mended, mend}
use Rattle.tfs_spec.specs.Effects.{Beyond, SameVolume}
use Rattle.tfs_facts.specs.Sizes.{after_block}
use Rattle.tfs_facts.specs.Views.{length-map}
use Rattle.tfs_facts.specs.Mends.{granting, mend-is, short-same, map', length-clear, mended-is}
use Rattle.tfs_proofs.specs.Kept.{three}
use Rattle.tfs_proofs.specs.MendLaws.{mend-law}
use Rattle.tfs_proofs.specs.Tail.{same-stored, view-same, check-alike, long-enough}

pub mend-beyond : (B : ℕ) → BlockSize B → (img : List ℕ) → Beyond B img (mend B img).image
mend-beyond B sz img =
    record {
      long = (mend-law B sz img).long;
      bytes = λ q h.
          elim (dec_le (3 * B) (length img)) [
            | yes l ↦ (mend-law B sz img).bytes q (inr (omega (arith, after_block B 2 (blocks B img) (three B sz img l))))
            | no l ↦ ap (λ (x : List ℕ). get_or x q 0) (kept (omega arith))
          ];
    }
  where
    kept : length img < 3 * B → (mend B img).image ≡ img
    kept l = go (check B (mended B img)) refl
      where
        go : (x : Verdict) → check B (mended B img) ≡ x → (mend B img).image ≡ img
        go consistent e = ap (λ (o : Outcome). o.image) (mend-is B img consistent e) ∙ short-same B img l
        go (broken num p) e = ap (λ (o : Outcome). o.image) (mend-is B img (broken num p) e)

module _ (B : ℕ) (sz : BlockSize B) (a b : List ℕ) (same : SameVolume B a b) where
  mended-volume : SameVolume B (mended B a) (mended B b)
  mended-volume =
      elim (dec_le (3 * B) (length a)) [
        | yes la ↦
            (let lb : 3 * B ≤ length b = long-enough B sz a b same.n la in
            let m : List ℕ = map' B sz b lb in
            let e : mended B a ≡ store_all B a (store 1 (map' B sz b lb) ∷ []) = mended-is B sz a la ∙ ap (λ (v : View). set_block B a 1 (clear_strays B v v.n)) (view-same sz a b same la) in
            subst₂ (SameVolume B) (sym e) (sym (mended-is B sz b lb))
            (same-stored sz a b same (store 1 (map' B sz b lb) ∷ [])
            (length-clear B (view B b) (view B b).n ∙ length-map B b lb, (omega (arith, after_block B 1 (blocks B b) (omega (arith, three B sz b lb))), tt))))
        | no la ↦
            (let lb : length b < 3 * B = elim (dec_le (3 * B) (length b)) [ yes l ↦ absurd (omega (arith, long-enough B sz b a (sym same.n) l)) | no l ↦ omega arith ] in
            subst₂ (SameVolume B) (sym (short-same B a (omega arith))) (sym (short-same B b lb)) same)
      ]

  pub mend-unread : ((mend B a).answer ≡ (mend B b).answer) × ((mend B a).buffer ≡ (mend B b).buffer) × SameVolume B (mend B a).image (mend B b).image
  mend-unread =
      let check-same : check B (mended B a) ≡ check B (mended B b) = check-alike sz (mended B a) (mended B b) mended-volume in
      subst₂ Both (sym (mend-is B a (check B (mended B b)) check-same)) (sym (mend-is B b (check B (mended B b)) refl)) (go (check B (mended B b)))
    where
      Both : Outcome → Outcome → Type 0
      Both x y = (x.answer ≡ y.answer) × (x.buffer ≡ y.buffer) × SameVolume B x.image y.image

      go : (x : Verdict) → Both (checked x (refuse a []) (granting B a)) (checked x (refuse b []) (granting B b))
      go consistent = (refl, refl, mended-volume)
      go (broken num p) = (refl, refl, same)
