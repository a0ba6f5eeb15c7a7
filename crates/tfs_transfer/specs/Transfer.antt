-- What a transfer with the file in a slot comes to, from the numbers that the code has in hand.
use Rattle.std.specs.Prelude.{◌≡◌, List, ◌++◌, length, take}
use Rattle.std.proofs.Math.Path.{sym, ap}
use Rattle.std.proofs.Common.{◌∙◌, arith}
use Prim.Native.Nat.{ℕ, ◌+◌, ◌-◌, ◌*◌, ◌≤◌, ◌<◌, min}
use Rattle.std.proofs.Math.ListN.{get_or, drop}
use borrow.Author.Tests.{lt-ltb, le-ltb}
use Rattle.lists.specs.Lists.{table, store_bytes}
use Rattle.tfs_spec.specs.Layout.{block, View, view, inode, size, place}
use Rattle.tfs_spec.specs.Check.{consistent, check}
use Rattle.tfs_spec.specs.Consistent.{File}
use Rattle.tfs_spec.specs.Requests.{Answer, refused, transferred, counted, blocks_met, transfer_answer, read_buffer, read_file, write_image, write_file}
use Rattle.tfs_runs.specs.Place.{at, Small, Inside}
use Rattle.tfs_transfer.specs.declared.Reach.{Reach}
use Rattle.tfs_steps.specs.Ready.{size_small, file-ready, content-small, content-inside, place_is}

-- ---- c bytes are moved, from offset o on, for a buffer of len bytes
pub record Moves (v : View) (s o len c : ℕ) : Type 0 where
  pub starts : o ≤ size v s
  pub count : c ≡ min len (size v s - o)

-- the file's size is z
module _ (v : View) (s z o len : ℕ) (e : z ≡ size v s) where
  pub beyond : z < o → refused 15 0 ≡ transfer_answer 512 v s o len
  unfolding transfer_answer
  beyond g = rw (← e, lt-ltb z o g)

  pub moves : (c : ℕ) → o ≤ z → c ≡ min len (z - o) → Moves v s o len c
  moves c g m = record { starts = omega arith; count = omega arith }

module _ {v : View} {s o len c : ℕ} (a : Moves v s o len c) where
  pub counted_is : counted v s o len ≡ c
  unfolding counted
  counted_is = sym a.count

  pub reach : o + c ≤ size v s
  reach = omega (arith, a.starts, a.count)

  pub allowed : transfer_answer 512 v s o len ≡ transferred c (blocks_met 512 o c)
  unfolding transfer_answer
  allowed = rw (le-ltb (size v s) o a.starts, counted_is)

-- ---- what the code finds of a transfer from o on
abbrev pub reach_told : ℕ → Reach → Answer
reach_told o r = transferred r.count (blocks_met 512 o r.count)

-- the bytes are the file's, its inode is block r.inode, and they lie in the image where this inode says
pub record Reaches (img : List ℕ) (s o len : ℕ) (r : Reach) : Type 0 where
  pub moves : Moves (view 512 img) s o len r.count
  pub inode_at : r.inode ≡ inode (view 512 img) s
  pub within : r.inode * 512 + 512 ≤ length img
  pub ends : o + r.count ≤ 65024
  pub small : Small (block 512 img r.inode) (o + r.count)
  pub inside : Inside (block 512 img r.inode) (o + r.count) (length img)
  pub places : at (block 512 img r.inode) ≡ place 512 (view 512 img) s

pub reaches : (img : List ℕ) → check 512 img ≡ consistent → (s : ℕ) → File 512 (view 512 img) s → (o len : ℕ) (r : Reach) → Moves (view 512 img) s o len r.count → r.inode ≡ inode (view 512 img) s → Reaches img s o len r
reaches img passed s f o len r m e =
    record {
      moves = m;
      inode_at = e;
      within = (file-ready img passed s f r.inode e).0;
      ends = omega (arith, reach m, size_small img passed s f);
      small = rw e (content-small img passed s f (o + r.count) (reach m));
      inside = rw e (content-inside img passed s f (o + r.count) (reach m));
      places = ap (λ (b : ℕ). at (block 512 img b)) e ∙ place_is img passed s f;
    }

module _ {img : List ℕ} {s o len : ℕ} {r : Reach} (t : Reaches img s o len r) where
  -- so many as the buffer has, at most
  pub fits_buffer : r.count ≤ len
  fits_buffer = omega (arith, t.moves.count)

  -- ino is the file's inode
  module _ (ino : List ℕ) (e : ino ≡ block 512 img r.inode) where
    pub run_small : Small ino (o + r.count)
    run_small = rw e t.small

    pub run_inside : Inside ino (o + r.count) (length img)
    run_inside = rw e t.inside

    places_at : at ino ≡ place 512 (view 512 img) s
    places_at = ap at e ∙ t.places

    pub read_all : (buf last : List ℕ) → len ≡ length buf → last ≡ table (λ p. get_or img (at ino p) 0) o r.count ++ drop r.count buf → last ≡ (read_file 512 img s o buf).buffer
    unfolding read_buffer
    read_all buf last w g =
        rw (← w, allowed t.moves) (g ∙ ap (λ (h : ℕ → ℕ). table (λ p. get_or img (h p) 0) o r.count ++ drop r.count buf) places_at ∙ rw (counted_is t.moves))

    pub write_all : (buf last : List ℕ) → len ≡ length buf → last ≡ store_bytes (at ino) img o (take r.count buf) → last ≡ (write_file 512 img s o buf).image
    unfolding write_image
    write_all buf last w g = rw (← w, allowed t.moves) (rw (g, places_at, counted_is t.moves))
