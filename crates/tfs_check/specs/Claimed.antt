-- The claims of the files in a volume whose slots and inodes are right, slot by slot.
use Rattle.std.specs.Prelude.{◌≡◌, Bool, true, false, ℕ, zero, suc, ◌+◌, ◌≤◌, ◌<◌, List, [], ◌∷◌, ◌++◌}
use Rattle.std.proofs.Math.Path.{refl, sym}
use Rattle.std.proofs.Common.{ap, arith}
use Rattle.std.proofs.Math.Numerals.{add-one}
use Rattle.tfs_spec.specs.Layout.{blocks, block, set_bits, View, view, free, inode}
use Rattle.tfs_spec.specs.Check.{file_claims, claims_to, claims}
use Rattle.tfs_map.specs.Bits.{bits-append}
use Rattle.tfs_inode.specs.Claims.{Within, claim_list, file-claims, claims-within}
use Rattle.tfs_check.specs.Doubled.{doubled, doubled-none, doubled-append}
use Rattle.tfs_check.specs.Files.{Sized, blocks-le, inode-over, inode-under, right-at, claims-at}

-- ---- a free slot claims nothing
module _ (v : View) (s : ℕ) (map : List ℕ) (e : free v s ≡ true) where
  pub none-marked : map ≡ set_bits map 1 (file_claims 512 v s)
  none-marked = rw (file-claims v s, e)

  pub none-doubled : (low : ℕ) → low ≡ doubled map (file_claims 512 v s) low
  none-doubled low = rw (file-claims v s, e) (sym (doubled-none map low))

-- ---- the claims of one slot more
module _ (v : View) (map : List ℕ) where
  pub marked-none : map ≡ set_bits map 1 (claims_to 512 v 0)
  unfolding claims_to
  marked-none = refl

  pub doubled-start : (low : ℕ) → low ≡ doubled map (claims_to 512 v 0) low
  unfolding claims_to
  doubled-start low = sym (doubled-none map low)

  pub marked_more : (s : ℕ) → set_bits (set_bits map 1 (claims_to 512 v s)) 1 (file_claims 512 v s) ≡ set_bits map 1 (claims_to 512 v (s + 1))
  unfolding claims_to
  marked_more s = rw add-one (sym (bits-append map 1 (claims_to 512 v s) (file_claims 512 v s)))

  pub doubled-more : (s low : ℕ) → doubled (set_bits map 1 (claims_to 512 v s)) (file_claims 512 v s) (doubled map (claims_to 512 v s) low) ≡ doubled map (claims_to 512 v (s + 1)) low
  unfolding claims_to
  doubled-more s low = rw add-one (sym (doubled-append map (claims_to 512 v s) (file_claims 512 v s) low))

pub claims-end : (v : View) (s : ℕ) → s ≡ 25 → claims_to 512 v s ≡ claims 512 v
unfolding claims
claims-end v s e = ap (claims_to 512 v) e

-- ---- all claims lie in 3..4095
within-append : (n : ℕ) (xs ys : List ℕ) → Within n xs → Within n ys → Within n (xs ++ ys)
within-append n [] ys u w i h = w i h
within-append n (x ∷ xs) ys u w zero h = u zero (omega arith)
within-append n (x ∷ xs) ys u w (suc i) h = within-append n xs ys (λ j l. u (suc j) (omega arith)) w i (omega arith)

file-within : (img : List ℕ) (s : ℕ) → Sized img → s < 25 → Within 4096 (file_claims 512 (view 512 img) s)
file-within img s w h = by (free (view 512 img) s) refl
  where
    by : (t : Bool) → free (view 512 img) s ≡ t → Within 4096 (file_claims 512 (view 512 img) s)
    by true e = rw (file-claims (view 512 img) s, e) (λ i l. absurd (omega arith))
    by false e =
        let b : ℕ = inode (view 512 img) s in
        let within : Within (blocks 512 img) (claim_list b (block 512 img b)) = claims-within (blocks 512 img) b (block 512 img b) (inode-over img s h w.slots e) (inode-under img s h w.slots e) (right-at img s h w.slots e w.inodes) in
        rw (claims-at img s h w.slots e) (λ i l. ((within i l).0, omega (arith, (within i l).1, blocks-le img)))

claims-to-within : (img : List ℕ) → Sized img → (s : ℕ) → s ≤ 25 → Within 4096 (claims_to 512 (view 512 img) s)
unfolding claims_to
claims-to-within img w zero h = λ i l. absurd (omega arith)
claims-to-within img w (suc s) h =
    within-append 4096 (claims_to 512 (view 512 img) s) (file_claims 512 (view 512 img) s) (claims-to-within img w s (omega arith)) (file-within img s w (omega arith))

pub claims-all-within : (img : List ℕ) → Sized img → Within 4096 (claims 512 (view 512 img))
unfolding claims
claims-all-within img w = claims-to-within img w 25 (omega arith)
