-- Bytes put into a buffer, one run behind the other.
use Rattle.std.specs.Prelude.{◌≡◌, refl, ℕ, zero, suc, ◌+◌, ◌-◌, ◌/◌, ◌%◌, ◌≤◌, ◌<◌, List, [], ◌∷◌, ◌++◌, length, take, drop, set}
use Rattle.std.proofs.Common.{sym, ◌∙◌, arith, add-one, sub-one, append_assoc, lt-ltb, le-ltb, length-append, take-append-drop, length-take-le, take_at, drop_at, drop-drop}
use Rattle.std.proofs.lemmas.List.{set_split}
use Rattle.tfs_spec.specs.Traces.{groups}

-- the buffer s with the bytes x from position at on
unfoldable pub put : ℕ → List ℕ → List ℕ → List ℕ
put at x s = take at s ++ (x ++ drop (length x) (drop at s))

pub put_none : (at : ℕ) (s : List ℕ) → put at [] s ≡ s
unfolding put
put_none at s = take-append-drop at s

-- at the start of the buffer
pub put_start : (x s : List ℕ) → put 0 x s ≡ x ++ drop (length x) s
unfolding put
put_start x s = refl

-- a put behind another is one put of both
pub put-put : (at to : ℕ) (x y s : List ℕ) → at ≤ length s → to ≡ at + length x → put to y (put at x s) ≡ put at (x ++ y) s
unfolding put
put-put at to x y s h e =
    let n : length (take at s ++ x) ≡ to = length-append (take at s) x ∙ omega (arith, length-take-le at s h) in
    let rest : List ℕ = drop (length x) (drop at s) in
    let whole : take at s ++ (x ++ rest) ≡ (take at s ++ x) ++ rest = sym (append_assoc (take at s) x rest) in
    rw (whole, take_at (take at s ++ x) rest to n, drop_at (take at s ++ x) rest to n, drop-drop (length y) (length x) (drop at s), length-append) (simp append_assoc)

-- the same of buffers that a first put and a second one left
pub put_behind : (at to : ℕ) (x y s t u : List ℕ) → at ≤ length s → t ≡ put at x s → to ≡ at + length x → u ≡ put to y t → u ≡ put at (x ++ y) s
put_behind at to x y s t u h first e second = second ∙ rw first (put-put at to x y s h e)

-- one byte
pub put_one : (at b : ℕ) (s : List ℕ) → at < length s → set s at b ≡ put at (b ∷ []) s
unfolding put
put_one at b s h = set_split s at b h ∙ rw (drop-drop, add-one)

pub put-cons : (at b : ℕ) (x s : List ℕ) → at < length s → put (at + 1) x (set s at b) ≡ put at (b ∷ x) s
put-cons at b x s h = rw (put_one at b s h) (put-put at (at + 1) (b ∷ []) x s (omega arith) refl)

-- ---- groups, by what the number is
pub groups_none : (f n : ℕ) → f ≡ 0 → groups f n ≡ []
unfolding groups
groups_none zero n z = refl
groups_none (suc f) n z = absurd (omega arith)

pub groups_last : (f n : ℕ) → (f ≡ 0 → ⊥) → n < 128 → groups f n ≡ n ∷ []
unfolding groups
groups_last zero n z h = absurd (z refl)
groups_last (suc f) n z h = rw (lt-ltb _ _ h)

pub groups_more : (f n : ℕ) → (f ≡ 0 → ⊥) → 128 ≤ n → groups f n ≡ (n % 128 + 128) ∷ groups (f - 1) (n / 128)
unfolding groups
groups_more zero n z h = absurd (z refl)
groups_more (suc f) n z h = rw (le-ltb _ _ h, sub-one)

-- the last group, and a group before others
module _ (f n at b : ℕ) (s : List ℕ) (some : f ≡ 0 → ⊥) (room : at < length s) where
  pub put_last : n < 128 → b ≡ n % 128 + 0 → set s at b ≡ put at (groups f n) s
  put_last h e = let same : b ≡ n = omega arith in rw (groups_last f n some h, same) (put_one at n s room)

  pub put_more : 128 ≤ n → b ≡ n % 128 + 128 → put (at + 1) (groups (f - 1) (n / 128)) (set s at b) ≡ put at (groups f n) s
  put_more h e = rw (groups_more f n some h, e) (put-cons at (n % 128 + 128) (groups (f - 1) (n / 128)) s room)
