-- The bits of a list of blocks, one after another.
use Rattle.std.specs.Prelude.{◌≡◌, refl, ℕ, ◌+◌, ◌<◌, List, [], ◌∷◌, ◌++◌, length, get_or, take}
use Rattle.std.proofs.Common.{add-one, take-suc}
use Rattle.tfs_spec.specs.Layout.{set_bit, set_bits}

pub bits-append : (map : List ℕ) (v : ℕ) (xs ys : List ℕ) → set_bits map v (xs ++ ys) ≡ set_bits (set_bits map v xs) v ys
bits-append map v [] ys = refl
bits-append map v (x ∷ xs) ys = bits-append (set_bit map x v) v xs ys

-- one block more
pub bits-more : (map : List ℕ) (v : ℕ) (bs : List ℕ) (b : ℕ) → set_bits map v (bs ++ (b ∷ [])) ≡ set_bit (set_bits map v bs) b v
bits-more map v bs b = bits-append map v bs (b ∷ [])

pub bits-take : (map : List ℕ) (v : ℕ) (bs : List ℕ) (i : ℕ) → i < length bs → set_bits map v (take (i + 1) bs) ≡ set_bit (set_bits map v (take i bs)) (get_or bs i 0) v
bits-take map v bs i h = rw (add-one, take-suc bs i 0 h) (bits-more map v (take i bs) (get_or bs i 0))
