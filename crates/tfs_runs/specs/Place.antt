-- Where the bytes of a file lie, whose inode is ino.
use Rattle.std.specs.Prelude.{◌≡◌, refl, ℕ, ◌+◌, ◌-◌, ◌*◌, ◌/◌, ◌%◌, ◌≤◌, ◌<◌, List, [], get_or}
use Rattle.std.proofs.Common.{sym, ap, ◌∙◌, add-zero, arith}
use Rattle.std.proofs.Math.Decide.{dec_lt}
use Rattle.tfs_spec.specs.Layout.{inode_number, View, number, place}

-- the place in the image of position p
unfoldable pub at : List ℕ → ℕ → ℕ
at ino p = inode_number ino (p / 512) * 512 + p % 512

-- the numbers of the blocks that the first e bytes lie in are below 4,096
abbrev pub Small : List ℕ → ℕ → Type 0
Small ino e = (k : ℕ) → k * 512 < e → inode_number ino k < 4096

-- these blocks lie inside an image of len bytes
abbrev pub Inside : List ℕ → ℕ → ℕ → Type 0
Inside ino e len = (k : ℕ) → k * 512 < e → inode_number ino k * 512 + 512 ≤ len

-- b is the number of the block of position p, where p is before end
abbrev pub Numbered : List ℕ → ℕ → ℕ → ℕ → Type 0
Numbered ino p end b = p < end → b ≡ inode_number ino (p / 512)

-- n values of f, from that at i on, are one after another
abbrev pub Counts : (ℕ → ℕ) → ℕ → ℕ → Type 0
Counts f i n = (j : ℕ) → j < n → f (i + j) ≡ f i + j

-- r bytes from position p on lie one after another
abbrev pub Straight : List ℕ → ℕ → ℕ → Type 0
Straight ino p r = Counts (at ino) p r

pub alone : (f : ℕ → ℕ) (i : ℕ) → Counts f i 1
alone f i j h = let z : j ≡ 0 = omega arith in rw z (ap f (add-zero i) ∙ sym (add-zero (f i)))

pub one_more : (f : ℕ → ℕ) (i n : ℕ) → Counts f i n → f (i + n) ≡ f i + n → Counts f i (n + 1)
one_more f i n h e j l =
    elim (dec_lt j n) [
      | yes k ↦ h j k
      | no k ↦ let z : j ≡ n = omega arith in rw z e
    ]

-- the number at the start
pub numbered-start : (ino : List ℕ) (o end b : ℕ) → Numbered ino o end b → Numbered ino (o + 0) end b
numbered-start ino o end b h = rw add-zero h

-- the number behind d bytes and a run of r more, m being the rest of the n bytes behind the d
pub numbered_more : (ino : List ℕ) (o d r n m b : ℕ) → d + m ≡ n → Numbered ino (o + d + r) (o + d + m) b → Numbered ino (o + (d + r)) (o + n) b
numbered_more ino o d r n m b e h l =
    let same : o + (d + r) ≡ o + d + r = omega arith in
    rw same (h (omega arith))

-- the places of the file in slot s
pub at_place : (v : View) (s : ℕ) → at (get_or v.inodes s []) ≡ place 512 v s
unfolding at place number
at_place v s = refl

-- bytes in neighbouring blocks lie one after another
pub straight-in : (ino : List ℕ) (p n r : ℕ) → p % 512 + r ≤ n * 512 → Counts (inode_number ino) (p / 512) n → Straight ino p r
unfolding at
straight-in ino p n r h near i l =
    let j : ℕ = (p % 512 + i) / 512 in
    let e : (p + i) / 512 ≡ p / 512 + j = omega arith in
    rw e (omega (arith, near j (omega arith)))

-- a run lies inside the image, as its last byte does
pub run_inside : (ino : List ℕ) (e len p s r : ℕ) → Inside ino e len → s ≡ at ino p → 0 < r → p + r ≤ e → Straight ino p r → s + r ≤ len
unfolding at
run_inside ino e len p s r h is some l near = omega (arith, near (r - 1) (omega arith), h ((p + (r - 1)) / 512) (omega arith))
