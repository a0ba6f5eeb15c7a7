-- A block number by its two halves.
use Rattle.std.specs.Prelude.{◌≡◌, ℕ, ◌+◌, ◌*◌, ◌<◌, ◌≤◌, false, List, ◌≢◌, slice_index}
use Rattle.std.proofs.Common.{arith, le-leb, le-ltb}
use Rattle.std.proofs.Math.Decide.{dec_lt}
use Rattle.lists.specs.Lists.{word}
use Rattle.tfs_spec.specs.Layout.{in_range, inode_number}

-- the number of the two bytes at index p
unfoldable pub half_at : List ℕ → ℕ → ℕ
half_at l p = slice_index l p * 256 + slice_index l (p + 1)

number-halves : (ino : List ℕ) (k : ℕ) → inode_number ino k ≡ half_at ino (4 + 4 * k) * 65536 + half_at ino (6 + 4 * k)
unfolding inode_number word half_at
number-halves ino k =
    let c : 4 + 4 * k + 2 ≡ 6 + 4 * k = omega arith in
    let d : 4 + 4 * k + 3 ≡ 6 + 4 * k + 1 = omega arith in
    rw (c, d) (omega arith)

-- where the number is small or its high half is 0, it is the low half
pub low_small : (ino : List ℕ) (k : ℕ) → inode_number ino k < 4096 → half_at ino (6 + 4 * k) ≡ inode_number ino k
low_small ino k h = omega (arith, number-halves ino k)

pub low-is : (ino : List ℕ) (k : ℕ) → half_at ino (4 + 4 * k) ≡ 0 → half_at ino (6 + 4 * k) ≡ inode_number ino k
low-is ino k z = omega (arith, number-halves ino k)

-- else it is in no volume
pub high-out : (ino : List ℕ) (k n : ℕ) → n ≤ 4096 → (half_at ino (4 + 4 * k) ≢ 0) → in_range n (inode_number ino k) ≡ false
high-out ino k n h z =
    elim (dec_lt 0 (half_at ino (4 + 4 * k))) [
      | yes l ↦
          let big : 65536 ≤ inode_number ino k = omega (arith, number-halves ino k) in
          rw (le-leb 3 (inode_number ino k) (omega arith), le-ltb (inode_number ino k) n (omega arith))
      | no l ↦ absurd (z (omega arith))
    ]
