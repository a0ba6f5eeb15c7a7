-- The stores of a write to the file in a slot, from what the code finds of its reach.
use Rattle.std.specs.Prelude.{◌≡◌, true, false, ◌||◌, ℕ, ◌+◌, ◌-◌, ◌*◌, ◌/◌, ◌≤◌, ◌<◌, min, List, ◌++◌, length, take, drop, ltb, eqb}
use Rattle.std.proofs.Common.{sym, ap, ◌∙◌, arith, length-take-le}
use Rattle.std.proofs.Math.Nat.{add-sub_cancel_left}
use Rattle.std.proofs.Math.Path.{ap₂}
use Rattle.lists.specs.Lists.{part, with_part}
use Rattle.tfs_spec.specs.Layout.{need, blocks, block, inode_number, view, size, number}
use Rattle.tfs_spec.specs.Check.{consistent, check}
use Rattle.tfs_spec.specs.Consistent.{File, Sound}
use Rattle.tfs_spec.specs.Requests.{granted, blocks_met, transfer_answer, store, write_stores, kth}
use Rattle.tfs_facts.specs.CheckMeans.{check-means}
use Rattle.tfs_facts.specs.Sizes.{size-512, in_image}
use Rattle.tfs_facts.specs.Views.{view-n}
use Rattle.tfs_facts.specs.Fetched.{given-when, overlaid, length-write, write_meets, write_store}
use Rattle.tfs_steps.specs.Ready.{number_is}
use Rattle.tfs_transfer.specs.declared.Reach.{Reach}
use Rattle.tfs_transfer.specs.Transfer.{Reaches, counted_is, reach, allowed}

-- bytes copied over a part of a block, as code takes the parts
pub overlay_is : (B p o : ℕ) (bs blk last : List ℕ) (lo skip hi : ℕ) → lo ≡ o - p → skip ≡ p - o → hi ≡ min B (o + length bs - p) → last ≡ take (skip + (hi - lo) - skip) (drop skip bs) → take lo blk ++ (last ++ drop (hi - lo) (drop lo blk)) ≡ overlaid B p o bs blk
unfolding overlaid with_part part
overlay_is B p o bs blk last lo skip hi a b c t = rw (t, add-sub_cancel_left, a, b, c)

-- a transfer of these bytes, of which a k-th of the q stores can be given, to a buffer of len bytes
pub record Asked (img : List ℕ) (s o : ℕ) (bytes : List ℕ) (r : Reach) (k q len : ℕ) : Type 0 where
  pub passed : check 512 img ≡ consistent
  pub file : File 512 (view 512 img) s
  pub reaches : Reaches img s o (length bytes) r
  pub met : q ≡ blocks_met 512 o r.count
  pub test : (eqb k 0 || (ltb q k || ltb len 512)) ≡ false

sound : (img : List ℕ) → check 512 img ≡ consistent → Sound 512 (view 512 img)
sound img passed = ((check-means 512 size-512 img).0 passed).sound

module _ (img : List ℕ) (passed : check 512 img ≡ consistent) (s : ℕ) (f : File 512 (view 512 img) s) (o : ℕ) (bytes : List ℕ) (r : Reach) (t : Reaches img s o (length bytes) r) where
  pub write_granted : granted (transfer_answer 512 (view 512 img) s o (length bytes)) ≡ true
  write_granted = ap granted (allowed t.moves)

  pub write_many : (q : ℕ) → q ≡ blocks_met 512 o r.count → q ≡ length (write_stores 512 (view 512 img) img s o bytes)
  write_many q e = e ∙ length-write 512 (omega arith) img (sound img passed) s f o r.count bytes (counted_is t.moves) (reach t.moves)

-- the k-th store: that of the i-th block of the file
module _ {img : List ℕ} {s o : ℕ} {bytes : List ℕ} {r : Reach} {k q len : ℕ} (a : Asked img s o bytes r k q len) where
  abbrev i : ℕ
  i = o / 512 + (k - 1)

  ok : Sound 512 (view 512 img)
  ok = sound img a.passed

  pub write_when : (1 ≤ k) × (512 ≤ len)
  write_when = let w = given-when k q len 512 a.test in (w.0, w.2)

  few : k ≤ blocks_met 512 o r.count
  few = omega (arith, a.met, (given-when k q len 512 a.test).1)

  meets : (o / 512 + (k - 1) < need 512 (size (view 512 img) s)) × (o < (o / 512 + (k - 1)) * 512 + 512) × ((o / 512 + (k - 1)) * 512 < o + r.count)
  meets =
      write_meets 512 (omega arith) img ok s a.file o r.count bytes (counted_is a.reaches.moves) (reach a.reaches.moves) k write_when.0 few

  pub write_index : o / 512 + (k - 1) < 127
  write_index = omega (arith, meets.2, a.reaches.ends)

  length_cut : length (take r.count bytes) ≡ r.count
  length_cut = length-take-le r.count bytes (omega (arith, a.reaches.moves.count))

  -- its number b, out of the inode
  module _ (ino : List ℕ) (b : ℕ) (is : ino ≡ block 512 img r.inode) (e : b ≡ inode_number ino (o / 512 + (k - 1))) where
    number_at : b ≡ number (view 512 img) s (o / 512 + (k - 1))
    number_at = e ∙ ap (λ (x : List ℕ). inode_number x i) (is ∙ ap (block 512 img) a.reaches.inode_at) ∙ sym (number_is img a.passed s a.file i)

    below : number (view 512 img) s (o / 512 + (k - 1)) < blocks 512 img
    below = omega (arith, (ok.inside s i a.file meets.0).high, view-n 512 img)

    pub write_ready : (b * 512 + 512 ≤ length img) × (o < (o / 512 + (k - 1)) * 512 + 512) × ((o / 512 + (k - 1)) * 512 < o + length (take r.count bytes)) × (o + length (take r.count bytes) < 4294967296)
    write_ready = (
      omega (arith, number_at, in_image 512 (number (view 512 img) s i) img below),
      meets.1,
      omega (arith, length_cut, meets.2),
      omega (arith, length_cut, a.reaches.ends),
    )

    pub write_one : (out : List ℕ) → out ≡ overlaid 512 ((o / 512 + (k - 1)) * 512) o (take r.count bytes) (block 512 img b) → store b out ≡ kth k (write_stores 512 (view 512 img) img s o bytes)
    write_one out p =
        let bytes_are : out ≡ overlaid 512 (i * 512) o (take r.count bytes) (block 512 img (number (view 512 img) s i)) = p ∙ ap (λ (x : ℕ). overlaid 512 (i * 512) o (take r.count bytes) (block 512 img x)) number_at in
        ap₂ store number_at bytes_are
        ∙ sym (write_store 512 (omega arith) img ok s a.file o r.count bytes (counted_is a.reaches.moves) (reach a.reaches.moves) k write_when.0 few)
