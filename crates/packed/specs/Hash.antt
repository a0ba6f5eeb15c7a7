-- The 64-bit FNV-1a hash.
use Rattle.std.specs.Prelude.{◌≡◌, ℕ, ◌+◌, ◌*◌, ◌%◌, ◌≤◌, ◌<◌, List, [], ◌∷◌, length, get_or, drop}
use Rattle.std.proofs.Common.{add-one, drop_of_length-le, drop-cons}
use Rattle.std.specs.Int.Bits.{bit_xor}

unfoldable pub times : ℕ → ℕ
times x = x * 1099511628211 % 18446744073709551616

-- the hash behind one more byte
unfoldable pub hash_step : ℕ → ℕ → ℕ
hash_step h b = times (bit_xor h b)

-- behind more bytes
unfoldable pub hash_on : ℕ → List ℕ → ℕ
hash_on h [] = h
hash_on h (b ∷ l) = hash_on (hash_step h b) l

-- ---- the bytes from index i on
pub hash-more : (h : ℕ) (l : List ℕ) (i : ℕ) → i < length l → hash_on (hash_step h (get_or l i 0)) (drop (i + 1) l) ≡ hash_on h (drop i l)
unfolding hash_on
hash-more h l i lt = rw (add-one, drop-cons l i 0 lt)

pub hash-end : (h : ℕ) (l : List ℕ) (i : ℕ) → length l ≤ i → hash_on h (drop i l) ≡ h
unfolding hash_on
hash-end h l i le = rw (drop_of_length-le l le)
