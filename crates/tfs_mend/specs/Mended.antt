-- What the check says of the mended volume, by the claims and the map.
use Rattle.std.specs.Prelude.{◌≡◌, Bool, true, ◌&&◌, ◌||◌, length, leb, ltb, eqb}
use Rattle.std.proofs.Math.Path.{refl, ap, ap₂}
use Rattle.std.proofs.Common.{sym, ◌∙◌, arith, lt→ltb, ltb→lt, nltb→le, le-leb, le-ltb, lt-ltb, ne_eqb}
use Rattle.std.proofs.Math.Bool.{false, not, cond}
use Rattle.std.specs.Bool.{beq}
use Prim.Native.Nat.{ℕ, zero, suc, ◌≤◌, ◌<◌}
use mathlib.Core.List.{List}
use Rattle.lists.specs.Lists.{least}
use Rattle.std.proofs.Math.Decide.{dec_le}
use Rattle.std.proofs.lemmas.Bool.{lt-leb}
use Rattle.list_laws.specs.Test.{by-test, to-true, no_false}
use Rattle.list_laws.specs.Least.{least-cong}
use Rattle.tfs_spec.specs.Layout.{blocks, block, set_block, map_bit, set_bit, set_bits, View, view, free, used, name, size, number}
use Rattle.tfs_spec.specs.Check.{Verdict, consistent, broken, found, bad_magic, bad_label, bad_slot, bad_number, bad_inode, repeats, claims, times, claimed_twice, bad_bit, stray, check}
use Rattle.tfs_spec.specs.Requests.{Outcome, clear_strays, mended, mend}
use Rattle.tfs_facts.specs.Sizes.{size-512}
use Rattle.tfs_facts.specs.Views.{view-n, view-map}
use Rattle.tfs_facts.specs.FreshMap.{format_map}
use Rattle.tfs_facts.specs.Mends.{mend-is, short-same, with_map, claims-same, map', mended-is, mended-long, mended-view, mended-bit}
use Rattle.tfs_check.specs.Files.{Sized, blocks-le}
use Rattle.tfs_check.specs.Owned.{Marks}
use Rattle.tfs_check.specs.Order.{twice_verdict, map_verdict, in_order, claims_verdict, then_rules, check-then, claims-kept, marks-at}
use Rattle.tfs_mend.specs.Missing.{is_missing}
use Rattle.tfs_mend.specs.Extra.{is_extra, clear_extra}

-- ---- bit by bit
under-three : (b : ℕ) → leb 3 b ≡ not (ltb b 3)
under-three b =
    by-test (ltb b 3)
    (λ t. lt-leb 3 b (ltb→lt b 3 t) ∙ ap not (sym (to-true (ltb b 3) t)))
    (λ t. le-leb 3 b (nltb→le b 3 t) ∙ ap not (sym (no_false (ltb b 3) t)))

unclaimed : (x : ℕ) → eqb x 0 ≡ not (leb 1 x)
unclaimed zero = refl
unclaimed (suc x) = ne_eqb (suc x) 0 (λ e. omega arith) ∙ ap not (sym (le-leb 1 (suc x) (omega arith)))

extra-by : (t p q : Bool) → (not p && (t && not q)) ≡ (t && not (p || q))
extra-by true true q = refl
extra-by true false q = refl
extra-by false true q = refl
extra-by false false q = refl

missing-by : (t o : Bool) → not (beq (cond (t && not o) false t) o) ≡ (not t && o)
missing-by true true = refl
missing-by true false = refl
missing-by false true = refl
missing-by false false = refl

module _ (v : View) (owned : List ℕ) (marks : Marks owned (claims 512 v)) where
  stray-is : (b : ℕ) → b < 4096 → stray 512 v b ≡ is_extra v.map owned b
  unfolding stray is_extra
  stray-is b h =
      (λ i. under-three b i && (map_bit v.map b && unclaimed (times b (claims 512 v)) i))
      ∙ extra-by (map_bit v.map b) (ltb b 3) (leb 1 (times b (claims 512 v)))
      ∙ ap (λ (x : Bool). map_bit v.map b && not x) (sym (marks b h))

  cleared-is : (k : ℕ) → k ≤ 4096 → clear_strays 512 v k ≡ clear_extra v.map owned k
  unfolding clear_strays clear_extra
  cleared-is zero h = refl
  cleared-is (suc b) h = λ i. cond (stray-is b (omega arith) i) (set_bit (cleared-is b (omega arith) i) b 0) (cleared-is b (omega arith) i)

  -- rule 7 of the map with these bits clear
  missing-is : (m : List ℕ) (b : ℕ) → b < 4096 → map_bit m b ≡ cond (stray 512 v b) false (map_bit v.map b) → bad_bit (with_map v m) (claims 512 v) b ≡ is_missing v.map owned b
  unfolding is_missing is_extra
  missing-is m b h e =
      (λ i. not (beq (e i) (sym (marks b h) i)))
      ∙ ap (λ (x : Bool). not (beq (cond x false (map_bit v.map b)) (map_bit owned b))) (stray-is b h)
      ∙ missing-by (map_bit v.map b) (map_bit owned b)

-- ---- rules 1 to 6 look at no bit
claims-with : (img new m : List ℕ) → length new ≡ length img → view 512 new ≡ with_map (view 512 img) m → claims_verdict new ≡ claims_verdict img
unfolding claims_verdict twice_verdict bad_magic bad_label bad_slot bad_inode bad_number repeats free used name size number
claims-with img new m l e =
    let v : View = view 512 img in
    let same : blocks 512 new ≡ blocks 512 img = sym (view-n 512 new) ∙ ap (λ (x : View). x.n) e ∙ view-n 512 img in
    ap₂ (λ (k : ℕ) (x : View). in_order (ltb k 1536) (bad_magic x) (bad_label x) (least (bad_slot x) 25) (least (bad_inode 512 x) 25) (twice_verdict (blocks 512 new) x)) l e
    ∙ ap₂ (λ (n : ℕ) (cs : List ℕ). in_order (ltb (length img) 1536) (bad_magic v) (bad_label v) (least (bad_slot v) 25) (least (bad_inode 512 v) 25) (found 6 n (least (claimed_twice cs) n) consistent)) same (claims-same 512 v m)

claims-mended : (img : List ℕ) → claims_verdict (mended 512 img) ≡ claims_verdict img
claims-mended img =
    elim (dec_le 1536 (length img)) [
      | yes long ↦ claims-with img (mended 512 img) (map' 512 size-512 img long) (mended-long 512 size-512 img long) (mended-view 512 size-512 img long)
      | no l ↦ ap claims_verdict (short-same 512 img (omega arith))
    ]

-- so the check of the mended volume is that of the volume, then rule 7 of the mended map
then_map : (img : List ℕ) (x : Verdict) → claims_verdict img ≡ x → check 512 (mended 512 img) ≡ then_rules x (map_verdict (blocks 512 (mended 512 img)) (view 512 (mended 512 img)))
then_map img x e = check-then (mended 512 img) ∙ ap (λ (y : Verdict). then_rules y (map_verdict (blocks 512 (mended 512 img)) (view 512 (mended 512 img)))) (claims-mended img ∙ e)

-- a mend that is refused leaves the image
refusal : (img : List ℕ) (num p : ℕ) → check 512 (mended 512 img) ≡ broken num p → (broken num p ≡ check 512 (mended 512 img)) × (img ≡ (mend 512 img).image)
refusal img num p c = (sym c, sym (ap (λ (o : Outcome). o.image) (mend-is 512 img (broken num p) c)))

-- ---- what mend does, by what was found: one of rules 1 to 6 is broken
broken-mended : (img : List ℕ) (num p : ℕ) → broken num p ≡ claims_verdict img → (broken num p ≡ check 512 (mended 512 img)) × (img ≡ (mend 512 img).image)
broken-mended img num p e = refusal img num p (then_map img (broken num p) (sym e))

pub broken_check : (img : List ℕ) (num p : ℕ) → broken num p ≡ claims_verdict img → check 512 (mended 512 img) ≡ broken num p
broken_check img num p e = sym (broken-mended img num p e).0

pub broken_image : (img : List ℕ) (num p : ℕ) → broken num p ≡ claims_verdict img → (mend 512 img).image ≡ img
broken_image img num p e = sym (broken-mended img num p e).1

-- or they are kept, and rule 7 decides, of which a set bit that nobody claims breaks nothing
module _ (img : List ℕ) (kept : claims_verdict img ≡ consistent) (owned : List ℕ) (is : owned ≡ set_bits (format_map 512) 1 (claims 512 (view 512 img))) where
  abbrev n : ℕ
  n = blocks 512 img

  abbrev v : View
  v = view 512 img

  w : Sized img
  w = claims-kept img kept

  marks : Marks owned (claims 512 v)
  marks = rw is (marks-at img w)

  abbrev m : List ℕ
  m = map' 512 size-512 img w.long

  bit_at : (b : ℕ) → b < v.n → map_bit m b ≡ cond (stray 512 v b) false (map_bit v.map b)
  bit_at b h =
      mended-bit 512 size-512 img w.long b ∙ ap (λ (x : Bool). cond (x && stray 512 v b) false (map_bit v.map b)) (to-true (ltb b v.n) (lt→ltb b v.n h))

  n-is : v.n ≡ n
  n-is = view-n 512 img

  check-mended : check 512 (mended 512 img) ≡ found 7 n (least (is_missing v.map owned) n) consistent
  unfolding map_verdict
  check-mended =
      then_map img consistent kept
      ∙ ap₂ map_verdict (sym (view-n 512 (mended 512 img)) ∙ ap (λ (x : View). x.n) (mended-view 512 size-512 img w.long) ∙ n-is) (mended-view 512 size-512 img w.long)
      ∙ ap (λ (cs : List ℕ). found 7 n (least (bad_bit (with_map v m) cs) n) consistent) (claims-same 512 v m)
      ∙ ap (λ (x : ℕ). found 7 n x consistent)
      (least-cong (bad_bit (with_map v m) (claims 512 v)) (is_missing v.map owned) n (λ b h. missing-is v owned marks m b (omega (arith, blocks-le img)) (bit_at b (omega (arith, n-is)))))

  -- the image that is left
  image-mended : mended 512 img ≡ set_block 512 img 1 (clear_extra (block 512 img 1) owned n)
  image-mended =
      mended-is 512 size-512 img w.long
      ∙ ap (set_block 512 img 1) (cleared-is v owned marks v.n (omega (arith, blocks-le img, n-is)) ∙ ap₂ (λ (x : List ℕ) (k : ℕ). clear_extra x owned k) (view-map 512 img) n-is)

  pub mend-missing : (b : ℕ) → b ≡ least (is_missing (view 512 img).map owned) n → b < n → (broken 7 b ≡ check 512 (mended 512 img)) × (img ≡ (mend 512 img).image)
  mend-missing b d l = refusal img 7 b (check-mended ∙ rw (← d, lt-ltb _ _ l))

  pub mend-done : (b : ℕ) → b ≡ least (is_missing (view 512 img).map owned) n → n ≤ b → (consistent ≡ check 512 (mended 512 img)) × (set_block 512 img 1 (clear_extra (block 512 img 1) owned n) ≡ (mend 512 img).image)
  mend-done b d l =
      let c : check 512 (mended 512 img) ≡ consistent = check-mended ∙ rw (← d, le-ltb _ _ l) in
      (sym c, sym image-mended ∙ sym (ap (λ (o : Outcome). o.image) (mend-is 512 img consistent c)))
