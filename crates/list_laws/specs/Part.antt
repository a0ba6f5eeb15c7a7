-- A part of an image, and an image with another part in its place.
use Rattle.std.specs.Prelude.{◌≡◌, ◌⊎◌, ℕ, zero, suc, ◌+◌, ◌-◌, ◌<◌, ◌≤◌, List, [], ◌∷◌, ◌++◌, length, take}
use Rattle.std.proofs.Common.{sym, ◌∙◌, ⊎_elim, zero-add, suc-add, length-append, length-take, length-drop, length-take-le, take_at, drop_at, ext_get_or, get_or-append-add, drop-drop, take-take}
use Rattle.std.proofs.Math.Path.{ap}
use native.Mathlib.Omega.{arith}
use Rattle.std.proofs.Math.ListN.{get_or, drop, get_or-append}
use Rattle.std.proofs.Math.Seq.{get_or-take, get_or-drop, drop-append-add, take-nil}
use Rattle.std.proofs.lemmas.List.{take-append-le, drop-append-le}
use Rattle.lists.specs.Lists.{part, with_part}

pub length_part : (s n : ℕ) (image : List ℕ) → s + n ≤ length image → length (part s n image) ≡ n
unfolding part
length_part s n image h = simp (length-take, length-drop) (omega arith)

-- parts of lists of one length have one length
pub part-long : (s n : ℕ) (a b : List ℕ) → length a ≡ length b → length (part s n a) ≡ length (part s n b)
unfolding part
part-long s n a b e = simp (length-take, length-drop) (omega arith)

pub length-with : (s n : ℕ) (p image : List ℕ) → length p ≡ n → s + n ≤ length image → length (with_part s n p image) ≡ length image
unfolding with_part
length-with s n p image e h = simp (length-append, length-take, length-drop) (omega arith)

-- the part that was put is read back
pub part-with : (s n : ℕ) (p image : List ℕ) → length p ≡ n → s ≤ length image → part s n (with_part s n p image) ≡ p
unfolding with_part part
part-with s n p image e h = rw (drop_at (take s image) _ s (length-take-le s image h), take_at p _ n e)

drop_past : (p q : List ℕ) (n t : ℕ) → length p ≡ n → n ≤ t → drop t (p ++ q) ≡ drop (t - n) q
drop_past p q n t e h = let k : length p + (t - n) ≡ t = omega arith in rw k at (drop-append-add p q (t - n))

pub drop-take : (t k : ℕ) (l : List ℕ) → drop t (take (t + k) l) ≡ take k (drop t l)
drop-take zero k l = rw zero-add
drop-take (suc t) k [] = rw (suc-add, take-nil)
drop-take (suc t) k (x ∷ l) = rw suc-add (drop-take t k l)

-- a part elsewhere stays
pub part-with-other : (s n : ℕ) (p image : List ℕ) (t m : ℕ) → length p ≡ n → s + n ≤ length image → (t + m ≤ s) ⊎ (s + n ≤ t) → part t m (with_part s n p image) ≡ part t m image
unfolding with_part part
part-with-other s n p image t m e h d = ⊎_elim before after d
  where
    ls : length (take s image) ≡ s
    ls = length-take-le s image (omega arith)

    before : t + m ≤ s → take m (drop t (take s image ++ (p ++ drop n (drop s image)))) ≡ take m (drop t image)
    before b =
        let q : t + (s - t) ≡ s = omega arith in
        rw (drop-append-le t (take s image) _ (omega (arith, ls)), take-append-le m (drop t (take s image)) _ (simp length-drop (omega (arith, ls))))
        (ap (take m) (rw q at (drop-take t (s - t) image)) ∙ take-take m (s - t) (drop t image) (omega arith))

    after : s + n ≤ t → take m (drop t (take s image ++ (p ++ drop n (drop s image)))) ≡ take m (drop t image)
    after b =
        let k : s + (n + (t - s - n)) ≡ t = omega arith in
        rw (drop_past (take s image) _ s t ls (omega arith), drop_past p _ n (t - s) e (omega arith), drop-drop, drop-drop, k)

-- ---- byte by byte
pub get_or-part : (s n : ℕ) (image : List ℕ) (i : ℕ) → i < n → get_or (part s n image) i 0 ≡ get_or image (s + i) 0
unfolding part
get_or-part s n image i h = get_or-take n (drop s image) i 0 h ∙ get_or-drop s image i 0

module _ (s n : ℕ) (p image : List ℕ) (e : length p ≡ n) (h : s + n ≤ length image) where
  front : length (take s image) ≡ s
  front = length-take-le s image (omega arith)

  pub get_or-with-in : (i : ℕ) → i < n → get_or (with_part s n p image) (s + i) 0 ≡ get_or p i 0
  unfolding with_part
  get_or-with-in i l =
      rw front at (get_or-append-add (take s image) (p ++ drop n (drop s image)) i 0)
      ∙ get_or-append p (drop n (drop s image)) 0 i (omega arith)

  pub get_or-with-before : (i : ℕ) → i < s → get_or (with_part s n p image) i 0 ≡ get_or image i 0
  unfolding with_part
  get_or-with-before i l =
      get_or-append (take s image) (p ++ drop n (drop s image)) 0 i (omega (arith, front)) ∙ get_or-take s image i 0 l

  pub get_or-with-after : (i : ℕ) → s + n ≤ i → get_or (with_part s n p image) i 0 ≡ get_or image i 0
  unfolding with_part
  get_or-with-after i l =
      let a : s + (n + (i - s - n)) ≡ i = omega arith in
      let b : s + n + (i - s - n) ≡ i = omega arith in
      ap (λ (x : ℕ). get_or (with_part s n p image) x 0) (sym a)
      ∙ rw front at (get_or-append-add (take s image) (p ++ drop n (drop s image)) (n + (i - s - n)) 0)
      ∙ rw e at (get_or-append-add p (drop n (drop s image)) (i - s - n) 0)
      ∙ rw (drop-drop, get_or-drop, b)

-- two images have the same part where their bytes are the same
pub part_ext : (s n : ℕ) (a b : List ℕ) → length a ≡ length b → ((i : ℕ) → i < n → get_or a (s + i) 0 ≡ get_or b (s + i) 0) → part s n a ≡ part s n b
unfolding part
part_ext s n a b e h =
    ext_get_or 0 (take n (drop s a)) (take n (drop s b)) (simp (length-take, length-drop) (omega arith))
    (λ i l.
    let k : i < n = omega (arith, length-take n (drop s a)) in
    rw (get_or-take n (drop s a) i 0 k, get_or-take n (drop s b) i 0 k, get_or-drop s a i 0, get_or-drop s b i 0) (h i k))
