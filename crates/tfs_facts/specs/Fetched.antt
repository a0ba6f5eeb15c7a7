-- The k-th store of a change: what is given of it, and the stores of create and write by their number.
use Rattle.std.specs.Prelude.{◌≡◌, refl, true, ◌||◌, take, ltb}
use Rattle.std.proofs.Math.Path.{sym, ap, ap₂}
use Rattle.std.proofs.Common.{◌∙◌, subst, le-div_iff_mul-le, mul-le-mul_right, ext_get_or}
use Rattle.std.proofs.Math.Bool.{false, cond}
use Prim.Native.Nat.{ℕ, zero, suc, ◌+◌, ◌-◌, ◌*◌, ◌/◌, ◌%◌, ◌≤◌, ◌<◌, min}
use mathlib.Core.List.{List, [], ◌∷◌, ◌++◌}
use native.Mathlib.Omega.{arith}
use Rattle.std.proofs.Math.Decide.{dec_lt}
use Rattle.std.proofs.Math.Nat.{div-add-mod', div-mul-le_self}
use Rattle.std.proofs.Math.Arith.{digits_div, digits_mod}
use Rattle.std.proofs.Math.ListN.{length, get_or, drop, length-append, get_or-append}
use Rattle.std.proofs.Math.Seq.{get_or-append-add, length-take-le}
use Rattle.std.proofs.Math.Dec.{eqb}
use borrow.Author.Tests.{ltb-false, eqb-false, ne_eqb}
use Rattle.lists.specs.Lists.{zeros, part, with_part, store_bytes}
use Rattle.list_laws.specs.Test.{or-no-l, or-no-r}
use Rattle.list_laws.specs.Part.{length_part, length-with, get_or-part, get_or-with-in, get_or-with-before, get_or-with-after}
use Rattle.list_laws.specs.Store.{length-store, store_at, store_other}
use Rattle.list_laws.specs.Table.{length-table, get_or-table}
use Rattle.tfs_spec.specs.Layout.{need, block, set_bits, set_slot, entry, inode_block, View, view, size, number, place}
use Rattle.tfs_spec.specs.Check.{consistent, check}
use Rattle.tfs_spec.specs.Consistent.{File, content_of, Sound}
use Rattle.tfs_spec.specs.Requests.{Answer, value, refused, granted, Outcome, Store, store, zero_stores, place_stores, create_stores, create_view, create, in_slot, denied, lookup, remove_stores, remove_view, remove, counted, blocks_met, transfer_answer, write_image, write, creates, removes, writes, perform, write_stores, kth, fetch_store, fetch}
use Rattle.tfs_facts.specs.Sizes.{split-block, split-offset, in-need, in_block, in_image}
use Rattle.tfs_facts.specs.Stores.{length-block, byte_at}
use Rattle.tfs_facts.specs.Views.{view-n}
use Rattle.tfs_facts.specs.Lookups.{lookup-file}

-- ---- the k-th of the stores xs of a change that is answered a
unfoldable pub given : ℕ → List ℕ → Answer → List Store → ℕ → List ℕ → Outcome
given B img a xs k buf = cond (granted a) (fetch_store B img xs k buf) (record { answer = a; image = img; buffer = buf })

module _ (B : ℕ) (img : List ℕ) (passed : check B img ≡ consistent) (nm : List ℕ) (k : ℕ) (buf : List ℕ) where
  pub fetch-create : (z : ℕ) → fetch B img (creates nm z) k buf ≡ given B img (create_view B (view B img) nm z) (create_stores B (view B img) nm z) k buf
  unfolding fetch perform create given
  fetch-create z = rw passed

  pub fetch-remove : fetch B img (removes nm) k buf ≡ given B img (remove_view B (view B img) nm) (remove_stores B (view B img) nm) k buf
  unfolding fetch perform remove given
  fetch-remove = rw passed

  module _ (o : ℕ) (bs : List ℕ) where
    pub fetch-denied : (num : ℕ) → lookup B (view B img) nm ≡ denied num → fetch B img (writes nm o bs) k buf ≡ given B img (refused num 0) [] k buf
    unfolding fetch perform write given
    fetch-denied num e = rw (passed, e)

    pub fetch-write : (s : ℕ) → lookup B (view B img) nm ≡ in_slot s → fetch B img (writes nm o bs) k buf ≡ given B img (transfer_answer B (view B img) s o (length bs)) (write_stores B (view B img) img s o bs) k buf
    unfolding fetch perform write given
    fetch-write s e = let slot = (lookup-file B (view B img) nm s e).1 in rw (passed, e, ← slot)

-- what is refused, and what is given
module _ (B : ℕ) (img : List ℕ) (a : Answer) (xs : List Store) (k : ℕ) (buf : List ℕ) where
  pub given-refused : (num : ℕ) → refused num 0 ≡ a → (refused num 0 ≡ (given B img a xs k buf).answer) × (buf ≡ (given B img a xs k buf).buffer)
  unfolding given
  given-refused num e = rw (← e) (refl, refl)

  module _ (n : ℕ) (many : n ≡ length xs) (g : granted a ≡ true) where
    pub given-none : (eqb k 0 || (ltb n k || ltb (length buf) B)) ≡ true → (refused 32 0 ≡ (given B img a xs k buf).answer) × (buf ≡ (given B img a xs k buf).buffer)
    unfolding given fetch_store
    given-none t = rw (g, ← many, t) (refl, refl)

    pub given-one : (eqb k 0 || (ltb n k || ltb (length buf) B)) ≡ false → (b : ℕ) (out : List ℕ) → b ≡ (kth k xs).at → out ≡ (kth k xs).bytes → (value b ≡ (given B img a xs k buf).answer) × (out ++ drop B buf ≡ (given B img a xs k buf).buffer)
    unfolding given fetch_store
    given-one t b out p q = rw (g, ← many, t) (ap value p, ap (λ (l : List ℕ). l ++ drop B buf) q)

pub given-when : (k n len B : ℕ) → (eqb k 0 || (ltb n k || ltb len B)) ≡ false → (1 ≤ k) × (k ≤ n) × (B ≤ len)
given-when k n len B t =
    let rest : (ltb n k || ltb len B) ≡ false = or-no-r (eqb k 0) (ltb n k || ltb len B) t in (
      some k (eqb-false k 0 (or-no-l (eqb k 0) (ltb n k || ltb len B) t)),
      ltb-false n k (or-no-l (ltb n k) (ltb len B) rest),
      ltb-false len B (or-no-r (ltb n k) (ltb len B) rest),
    )
  where
    some : (k : ℕ) → (k ≡ 0 → ⊥) → 1 ≤ k
    some zero h = absurd (h refl)
    some (suc k) h = omega arith

-- ---- the stores of create, in a slot s and blocks bs
length-zero : (B : ℕ) (bs : List ℕ) → length (zero_stores B bs) ≡ length bs
length-zero B [] = refl
length-zero B (b ∷ bs) = ap suc (length-zero B bs)

zero-store : (B : ℕ) (bs : List ℕ) (k : ℕ) → k < length bs → get_or (zero_stores B bs) k (store 0 []) ≡ store (get_or bs k 0) (zeros B)
zero-store B [] k h = absurd (omega arith)
zero-store B (b ∷ bs) zero h = refl
zero-store B (b ∷ bs) (suc k) h = zero-store B bs k (omega arith)

module _ (B : ℕ) (v : View) (s : ℕ) (nm : List ℕ) (z : ℕ) where
  -- those after the content
  abbrev last3 : ℕ → List ℕ → List Store
  last3 i bs = store i (inode_block B z bs) ∷ store 1 (set_bits v.map 1 (i ∷ bs)) ∷ store 2 (set_slot v.dir s (entry i nm)) ∷ []

  after-content : (i : ℕ) (bs : List ℕ) (j k : ℕ) → k ≡ length (i ∷ bs) + j → kth k (place_stores B v s nm z (i ∷ bs)) ≡ get_or (last3 i bs) j (store 0 [])
  unfolding place_stores
  after-content i bs j k e =
      let at : k - 1 ≡ length (zero_stores B bs) + j = omega (arith, length-zero B bs) in
      ap (λ (n : ℕ). get_or (zero_stores B bs ++ last3 i bs) n (store 0 [])) at ∙ get_or-append-add (zero_stores B bs) (last3 i bs) j (store 0 [])

  pub length-place : (bs : List ℕ) → 1 ≤ length bs → length bs + 2 ≡ length (place_stores B v s nm z bs)
  unfolding place_stores
  length-place [] h = absurd (omega arith)
  length-place (i ∷ bs) h = omega (arith, length-append (zero_stores B bs) (last3 i bs), length-zero B bs)

  -- content, inode, map, directory
  pub place-content : (bs : List ℕ) (k : ℕ) → 1 ≤ k → k < length bs → kth k (place_stores B v s nm z bs) ≡ store (get_or bs k 0) (zeros B)
  unfolding place_stores
  place-content [] k some h = absurd (omega arith)
  place-content (i ∷ bs) zero some h = absurd (omega arith)
  place-content (i ∷ bs) (suc k) some h =
      let at : suc k - 1 ≡ k = omega arith in
      ap (λ (n : ℕ). get_or (zero_stores B bs ++ last3 i bs) n (store 0 [])) at
      ∙ get_or-append (zero_stores B bs) (last3 i bs) (store 0 []) k (omega (arith, length-zero B bs))
      ∙ zero-store B bs k (omega arith)

  pub place-inode : (bs : List ℕ) (k : ℕ) → 1 ≤ length bs → k ≡ length bs → kth k (place_stores B v s nm z bs) ≡ store (get_or bs 0 0) (inode_block B z (drop 1 bs))
  place-inode [] k h e = absurd (omega arith)
  place-inode (i ∷ bs) k h e = after-content i bs 0 k (omega arith)

  pub place_map : (bs : List ℕ) (k : ℕ) → 1 ≤ length bs → k ≡ length bs + 1 → kth k (place_stores B v s nm z bs) ≡ store 1 (set_bits v.map 1 bs)
  place_map [] k h e = absurd (omega arith)
  place_map (i ∷ bs) k h e = after-content i bs 1 k e

  pub place-dir : (bs : List ℕ) (k : ℕ) → 1 ≤ length bs → k ≡ length bs + 2 → kth k (place_stores B v s nm z bs) ≡ store 2 (set_slot v.dir s (entry (get_or bs 0 0) nm))
  place-dir [] k h e = absurd (omega arith)
  place-dir (i ∷ bs) k h e = after-content i bs 2 k e

-- ---- the stores of write
-- a block whose first byte is position p of a file, with the bytes over it that are written from position o on
unfoldable pub overlaid : ℕ → ℕ → ℕ → List ℕ → List ℕ → List ℕ
overlaid B p o bs blk = with_part (o - p) (min B (o + length bs - p) - (o - p)) (part (p - o) (min B (o + length bs - p) - (o - p)) bs) blk

-- the index of a byte written, from its position
shift : (p o r : ℕ) → o ≤ p + r → p - o + (r - (o - p)) ≡ p + r - o
shift p o r h = omega arith

-- byte by byte, where some byte of the block is written
module _ (B p o : ℕ) (bs blk : List ℕ) (whole : length blk ≡ B) (starts : o < p + B) (ends : p < o + length bs) where
  abbrev n : ℕ
  n = min B (o + length bs - p) - (o - p)

  long : length (part (p - o) n bs) ≡ n
  long = length_part (p - o) n bs (omega arith)

  fits : o - p + n ≤ length blk
  fits = omega arith

  length-overlaid : length (overlaid B p o bs blk) ≡ B
  unfolding overlaid
  length-overlaid = length-with (o - p) n (part (p - o) n bs) blk long fits ∙ whole

  module _ (r : ℕ) where
    over-before : p + r < o → get_or (overlaid B p o bs blk) r 0 ≡ get_or blk r 0
    unfolding overlaid
    over-before h = get_or-with-before (o - p) n (part (p - o) n bs) blk long fits r (omega arith)

    over-after : o + length bs ≤ p + r → get_or (overlaid B p o bs blk) r 0 ≡ get_or blk r 0
    unfolding overlaid
    over-after h = get_or-with-after (o - p) n (part (p - o) n bs) blk long fits r (omega arith)

    over-in : r < B → o ≤ p + r → p + r < o + length bs → get_or (overlaid B p o bs blk) r 0 ≡ get_or bs (p + r - o) 0
    unfolding overlaid
    over-in l a h =
        let i : ℕ = r - (o - p) in
        let m : i < n = omega arith in
        let e : r ≡ o - p + i = omega arith in
        ap (λ (x : ℕ). get_or (with_part (o - p) n (part (p - o) n bs) blk) x 0) e
        ∙ get_or-with-in (o - p) n (part (p - o) n bs) blk long fits i m
        ∙ get_or-part (p - o) n bs i m
        ∙ ap (λ (x : ℕ). get_or bs x 0) (shift p o r a)

module _ (B : ℕ) (pos : 0 < B) (img : List ℕ) (ok : Sound B (view B img)) (s : ℕ) (f : File B (view B img) s) where
  abbrev v : View
  v = view B img

  inside : (i : ℕ) → i < need B (size v s) → number v s i * B + B ≤ length img
  inside i h =
      in_image B (number v s i) img (subst (λ (m : ℕ). number v s i < m) (view-n B img) (ok.inside s i f h).high)

  -- position r of content block i lies in no other place
  alone : (i r q : ℕ) → i < need B (size v s) → r < B → q < size v s → number v s i * B + r ≡ place B v s q → i * B + r ≡ q
  unfolding place
  alone i r q h l k e =
      let a : number v s i ≡ number v s (q / B) = split-block B pos (number v s i) (number v s (q / B)) r (q % B) l (in_block B pos q) e in
      let t : r ≡ q % B = split-offset B pos (number v s i) (number v s (q / B)) r (q % B) l (in_block B pos q) e in
      let same : content_of s i ≡ content_of s (q / B) = ok.once (number v s i) (content_of s i) (content_of s (q / B)) (f, h, refl) (f, in-need B pos q (size v s) k, sym a) in
      let d : i ≡ q / B = cc in
      ap₂ (λ (x y : ℕ). x * B + y) d t ∙ div-add-mod' q B

  here : (i r : ℕ) → r < B → place B v s (i * B + r) ≡ number v s i * B + r
  unfolding place
  here i r l = ap₂ (λ (x y : ℕ). number v s x * B + y) (digits_div i l) (digits_mod i l)

  -- a content block after bytes are stored through the places of the file
  module _ (o : ℕ) (bs : List ℕ) (within : o + length bs ≤ size v s) (i : ℕ) (listed : i < need B (size v s)) (starts : o < i * B + B) (ends : i * B < o + length bs) where
    abbrev new : List ℕ
    new = store_bytes (place B v s) img o bs

    abbrev blk : List ℕ
    blk = block B img (number v s i)

    whole : length blk ≡ B
    whole = length-block B img (number v s i) (inside i listed)

    abbrev over : List ℕ
    over = overlaid B (i * B) o bs blk

    kept : (r : ℕ) → r < B → ((q : ℕ) → o ≤ q → q < o + length bs → i * B + r ≡ q → ⊥) → get_or new (number v s i * B + r) 0 ≡ get_or blk r 0
    kept r l far =
        store_other (place B v s) bs img o (number v s i * B + r) (λ q a u e. far q a u (alone i r q listed l (omega arith) e))
        ∙ byte_at B img (number v s i) r l

    put : (r : ℕ) → r < B → o ≤ i * B + r → i * B + r < o + length bs → get_or new (number v s i * B + r) 0 ≡ get_or bs (i * B + r - o) 0
    put r l a u =
        let j : ℕ = i * B + r - o in
        let e : o + j ≡ i * B + r = omega arith in
        let at : place B v s (o + j) ≡ number v s i * B + r = ap (place B v s) e ∙ here i r l in
        ap (λ (x : ℕ). get_or new x 0) (sym at)
        ∙ store_at (place B v s) bs img o j (omega arith) (omega (arith, at, inside i listed))
        (λ q b h z. e ∙ alone i r q listed l (omega arith) (sym at ∙ z))

    byte : (r : ℕ) → r < B → get_or new (number v s i * B + r) 0 ≡ get_or over r 0
    byte r l =
        elim (dec_lt (i * B + r) o) [
          | yes h ↦ kept r l (λ q a u e. omega arith) ∙ sym (over-before B (i * B) o bs blk whole starts ends r h)
          | no h ↦ elim (dec_lt (i * B + r) (o + length bs)) [
            | yes k ↦ put r l (omega arith) k ∙ sym (over-in B (i * B) o bs blk whole starts ends r l (omega arith) k)
            | no k ↦ kept r l (λ q a u e. omega arith) ∙ sym (over-after B (i * B) o bs blk whole starts ends r (omega arith))
          ]
        ]

    written-block : block B (store_bytes (place B (view B img) s) img o bs) (number (view B img) s i) ≡ overlaid B (i * B) o bs (block B img (number (view B img) s i))
    written-block =
        let fits : number v s i * B + B ≤ length new = omega (arith, inside i listed, length-store (place B v s) bs img o) in
        let m : length (block B new (number v s i)) ≡ B = length-block B new (number v s i) fits in
        ext_get_or 0 (block B new (number v s i)) over (m ∙ sym (length-overlaid B (i * B) o bs blk whole starts ends))
        (λ r h. let l : r < B = omega arith in sym (byte_at B new (number v s i) r l) ∙ byte r l)

  -- ---- c bytes of buf are written, from o on
  module _ (o c : ℕ) (buf : List ℕ) (count : counted v s o (length buf) ≡ c) (within : o + c ≤ size v s) where
    pub length-write : blocks_met B o c ≡ length (write_stores B (view B img) img s o buf)
    unfolding write_stores
    length-write = sym (length-table _ (o / B) _ ∙ ap (blocks_met B o) count)

    module _ (k : ℕ) (some : 1 ≤ k) (few : k ≤ blocks_met B o c) where
      -- the block of the k-th store among those of the file
      abbrev i : ℕ
      i = o / B + (k - 1)

      upto : (1 ≤ c) × (o / B + (k - 1) ≤ (o + c - 1) / B)
      unfolding blocks_met
      upto = go c few
        where
          go : (c : ℕ) → k ≤ cond (eqb c 0) 0 ((o + c - 1) / B - o / B + 1) → (1 ≤ c) × (o / B + (k - 1) ≤ (o + c - 1) / B)
          go zero h = absurd (omega arith)
          go (suc c) h =
              let e : eqb (suc c) 0 ≡ false = ne_eqb (suc c) 0 (λ z. omega arith) in
              let l : k ≤ (o + suc c - 1) / B - o / B + 1 = rw e at h in
              let up : o / B ≤ (o + suc c - 1) / B = (le-div_iff_mul-le pos).1 (omega (arith, div-mul-le_self o B)) in
              (omega arith, omega arith)

      -- is listed, and some byte of it is written
      pub write_meets : (o / B + (k - 1) < need B (size (view B img) s)) × (o < (o / B + (k - 1)) * B + B) × ((o / B + (k - 1)) * B < o + c)
      write_meets =
          let last : (o + c - 1) / B < need B (size v s) = in-need B pos (o + c - 1) (size v s) (omega (arith, upto.0)) in
          let low : o / B * B ≤ i * B = mul-le-mul_right {m = o / B} {n = i} B (omega arith) in
          let high : i * B ≤ (o + c - 1) / B * B = mul-le-mul_right {m = i} {n = (o + c - 1) / B} B upto.1 in (
            omega (arith, upto.1),
            omega (arith, div-add-mod' o B, in_block B pos o),
            omega (arith, upto.0, div-mul-le_self (o + c - 1) B),
          )

      pub write_store : kth k (write_stores B (view B img) img s o buf) ≡ store (number (view B img) s (o / B + (k - 1))) (overlaid B ((o / B + (k - 1)) * B) o (take c buf) (block B img (number (view B img) s (o / B + (k - 1)))))
      unfolding write_stores write_image counted
      write_store =
          let short : length (take c buf) ≡ c = length-take-le c buf (omega arith) in
          let new : List ℕ = write_image B v img s o buf in
          let is : new ≡ store_bytes (place B v s) img o (take c buf) = ap (λ (n : ℕ). store_bytes (place B v s) img o (take n buf)) count in
          let m = write_meets in
          let met : ℕ = blocks_met B o (counted v s o (length buf)) in
          get_or-table (λ j. store (number v s j) (block B new (number v s j))) (o / B) met (k - 1) (store 0 []) (omega (arith, ap (blocks_met B o) count))
          ∙ ap (store (number v s i))
          (ap (λ (x : List ℕ). block B x (number v s i)) is
          ∙ written-block o (take c buf) (omega arith) i m.0 m.1 (omega (arith, m.2)))
