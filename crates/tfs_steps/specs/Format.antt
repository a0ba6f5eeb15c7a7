-- The blocks of a fresh volume.
use Rattle.std.specs.Prelude.{◌≡◌, ℕ, suc, ◌-◌, ◌≤◌, List, [], ◌∷◌, ◌++◌, length}
use Rattle.std.proofs.Common.{ap, arith}
use Rattle.lists.specs.Lists.{zeros, pad_to, bytes4, with_part}
use Rattle.tfs_spec.specs.Layout.{magic, set_bits}
use Rattle.tfs_dir.specs.Entry.{pad-with}

-- block 0: the magic number, then the label and zeros
unfoldable pub fresh_head : ℕ → List ℕ → List ℕ
fresh_head B label = bytes4 magic ++ pad_to (B - 4) label

-- block 1: the first three blocks are reserved
unfoldable pub fresh_map : ℕ → List ℕ
fresh_map B = set_bits (zeros B) 1 (0 ∷ 1 ∷ 2 ∷ [])

-- block 2: no slot is used
unfoldable pub fresh_dir : ℕ → List ℕ
fresh_dir B = zeros B

-- ---- block 0 as it is written, in 4 + m bytes
pub head-written : (m : ℕ) (a b last label : List ℕ) → length label ≤ m → a ≡ zeros (suc (suc (suc (suc m)))) → b ≡ with_part 0 4 (bytes4 magic) a → last ≡ label → with_part 4 (length label) last b ≡ fresh_head (suc (suc (suc (suc m)))) label
unfolding with_part fresh_head
head-written m a b last label h p q r =
    let e : suc (suc (suc (suc m))) - 4 ≡ m = omega arith in
    rw (e, r, q, p) (ap (λ (l : List ℕ). bytes4 magic ++ l) (pad-with label m h))
