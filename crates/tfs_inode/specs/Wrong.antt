-- Rule 5 on one inode.
use Rattle.std.specs.Prelude.{◌≡◌, ℕ, zero, suc, ◌+◌, ◌-◌, ◌*◌, ◌/◌, ◌%◌, ◌<◌, ◌≤◌, Bool, true, false, cond, not, ◌&&◌, ◌||◌, T, List, [], length, get_or, take, drop, ◌==◌, nat_le, nat_lt, slice_index, slice_index_or, refl}
use Rattle.std.proofs.Math.Path.{sym, ap}
use Rattle.std.proofs.Common.{subst, ◌∙◌, add-zero, length-take, length-drop, get_or-take, get_or-drop, T_not, leb→le}
use native.Mathlib.Omega.{arith}
use Rattle.std.proofs.Math.Decide.{dec_lt}
use Rattle.std.proofs.lemmas.List.{length-replicate}
use Rattle.std.proofs.Math.Seq.{ext_get_or}
use Rattle.std.proofs.Math.Dec.{ltb→lt, eqb→eq}
use borrow.Author.Tests.{lt-ltb, le-ltb, le-leb, lt-leb, ltb-false, eq-eqb}
use Rattle.list_laws.specs.Test.{not-not, of-true, to-true, and_l, and_r, or_r, or-no-l, or-no-r, same-eq, same_refl, zeros-byte}
use Rattle.list_laws.specs.Least.{Below, least-none, none_found}
use Rattle.lists.specs.Lists.{word, least, same_list, zeros}
use Rattle.tfs_spec.specs.Layout.{numbers, max_size, need, in_range, inode_size, inode_number, View, free, size, number}
use Rattle.tfs_spec.specs.Check.{bad_number, bad_inode}

-- one of the first numbers is outside 3..n−1, or a later one is not 0
unfoldable pub number_wrong : ℕ → ℕ → List ℕ → ℕ → Bool
number_wrong B n ino k = cond (nat_lt k (need B (inode_size ino))) (not (in_range n (inode_number ino k))) (not (inode_number ino k == 0))

unfoldable pub inode_wrong : ℕ → ℕ → List ℕ → Bool
inode_wrong B n ino = nat_lt (max_size B) (inode_size ino) || nat_lt (least (number_wrong B n ino) (numbers B)) (numbers B)

-- the rule of a slot is that of its inode
pub bad-inode : (B : ℕ) (v : View) (s : ℕ) → bad_inode B v s ≡ (not (free v s) && inode_wrong B v.n (slice_index_or v.inodes s []))
unfolding bad_inode bad_number size number inode_wrong number_wrong
bad-inode B v s = refl

-- ---- the numbers that the size asks for, and those after them
module _ (n : ℕ) (ino : List ℕ) (k : ℕ) where
  pub listed-wrong : k < need 512 (inode_size ino) → not (in_range n (inode_number ino k)) ≡ number_wrong 512 n ino k
  unfolding number_wrong
  listed-wrong h = rw (lt-ltb k (need 512 (inode_size ino)) h)

  pub rest-wrong : need 512 (inode_size ino) ≤ k → not (inode_number ino k == 0) ≡ number_wrong 512 n ino k
  unfolding number_wrong
  rest-wrong h = rw (le-ltb k (need 512 (inode_size ino)) h)

  -- one that is wrong makes the inode wrong
  pub wrong-one : k < 127 → number_wrong 512 n ino k ≡ true → inode_wrong 512 n ino ≡ true
  unfolding inode_wrong
  wrong-one h e =
      let f : ℕ → Bool = number_wrong 512 n ino in
      let first : ℕ = least f 127 in
      elim (dec_lt first 127) [
        | yes l ↦ to-true _ (or_r (nat_lt 65024 (inode_size ino)) (nat_lt first 127) (of-true _ (lt-ltb first 127 l)))
        | no l ↦ absurd (T_not (f k) (least-none f 127 (omega arith) k h) (of-true (f k) e))
      ]

-- a number less 3, wrapped at 2^64
pub range-wrapped : (n b r : ℕ) → 3 ≤ n → n < 18446744073709551616 → r < 18446744073709551616 → (r + 3) % 18446744073709551616 ≡ b → nat_lt r (n - 3) ≡ in_range n b
range-wrapped n b r low high fits e =
    elim (dec_lt r (n - 3)) [
      | yes h ↦ rw (lt-ltb r (n - 3) h, le-leb 3 b (omega arith), lt-ltb b n (omega arith))
      | no h ↦ rw (le-ltb r (n - 3) (omega arith))
          (elim (dec_lt b 3) [
            | yes l ↦ rw (lt-leb 3 b l)
            | no l ↦ rw (le-leb 3 b (omega arith), le-ltb b n (omega arith))
          ])
    ]

-- in a volume of any number of blocks the inode is wrong, or no number after those that the size asks for is
abbrev pub Spare : List ℕ → Bool → Type 0
Spare ino true = (n : ℕ) → inode_wrong 512 n ino ≡ true
Spare ino false = (n k : ℕ) → need 512 (inode_size ino) ≤ k → k < 127 → number_wrong 512 n ino k ≡ false

-- ---- the numbers that the size does not ask for, by their bytes
word_byte : (l : List ℕ) (p j : ℕ) → j < 4 → word l p ≡ 0 → slice_index l (p + j) ≡ 0
unfolding word
word_byte l p zero h e = rw add-zero (omega (arith, e))
word_byte l p (suc zero) h e = omega (arith, e)
word_byte l p (suc (suc zero)) h e = omega (arith, e)
word_byte l p (suc (suc (suc zero))) h e = omega (arith, e)
word_byte l p (suc (suc (suc (suc j)))) h e = absurd (omega arith)

byte_word : (l : List ℕ) (p : ℕ) → ((j : ℕ) → j < 4 → slice_index l (p + j) ≡ 0) → word l p ≡ 0
unfolding word
byte_word l p h = let z : get_or l p 0 ≡ 0 = ap (λ (i : ℕ). slice_index l i) (sym (add-zero p)) ∙ h 0 (omega arith) in omega (arith, z, h 1 (omega arith), h 2 (omega arith), h 3 (omega arith))

module _ (ino : List ℕ) (count : ℕ) (long : length ino ≡ 512) (asked : count ≡ need 512 (inode_size ino)) (few : count ≤ 127) where
  abbrev rest : List ℕ
  rest = take (512 - (4 + 4 * count)) (drop (4 + 4 * count) ino)

  rest-long : length rest ≡ 512 - (4 + 4 * count)
  rest-long = simp (length-take, length-drop) (omega arith)

  rest-byte : (i : ℕ) → i < 512 - (4 + 4 * count) → slice_index rest i ≡ slice_index ino (4 + 4 * count + i)
  rest-byte i h = get_or-take (512 - (4 + 4 * count)) (drop (4 + 4 * count) ino) i 0 h ∙ get_or-drop (4 + 4 * count) ino i 0

  rest-none : rest ≡ zeros (length rest) → (n k : ℕ) → need 512 (inode_size ino) ≤ k → k < 127 → number_wrong 512 n ino k ≡ false
  unfolding inode_number
  rest-none e n k l h =
      sym (rest-wrong n ino k l)
      ∙ ap not
      (eq-eqb (word ino (4 + 4 * k)) 0
      (byte_word ino (4 + 4 * k) (λ j m.
      let i : ℕ = 4 * (k - count) + j in
      let at : 4 + 4 * k + j ≡ 4 + 4 * count + i = omega arith in
      ap (λ (x : ℕ). slice_index ino x) at ∙ sym (rest-byte i (omega arith)) ∙ ap (λ (x : List ℕ). slice_index x i) e ∙ zeros-byte (length rest) i)))

  rest_all : ((k : ℕ) → need 512 (inode_size ino) ≤ k → k < 127 → inode_number ino k ≡ 0) → rest ≡ zeros (length rest)
  unfolding inode_number
  rest_all z =
      ext_get_or 0 rest (zeros (length rest)) (sym (length-replicate {A = ℕ} (length rest) 0))
      (λ i h.
      let k : ℕ = count + i / 4 in
      let at : 4 + 4 * count + i ≡ 4 + 4 * k + i % 4 = omega arith in
      let l : i < 512 - (4 + 4 * count) = omega (arith, rest-long) in
      rest-byte i l
      ∙ ap (λ (x : ℕ). slice_index ino x) at
      ∙ word_byte ino (4 + 4 * k) (i % 4) (omega arith) (z k (omega arith) (omega arith))
      ∙ sym (zeros-byte (length rest) i))

  right_zero : (n : ℕ) → inode_wrong 512 n ino ≡ false → (k : ℕ) → need 512 (inode_size ino) ≤ k → k < 127 → inode_number ino k ≡ 0
  unfolding inode_wrong
  right_zero n right k l h =
      let last : ℕ = least (number_wrong 512 n ino) 127 in
      let none : 127 ≤ last = ltb-false last 127 (or-no-r (nat_lt 65024 (inode_size ino)) (nat_lt last 127) right) in
      let no : T (not (number_wrong 512 n ino k)) = least-none (number_wrong 512 n ino) 127 none k h in
      eqb→eq (inode_number ino k) 0 (not-not (inode_number ino k == 0) (subst (λ (t : Bool). T (not t)) (sym (rest-wrong n ino k l)) no))

  rest_some : same_list rest (zeros (length rest)) ≡ false → (n : ℕ) → inode_wrong 512 n ino ≡ true
  rest_some e n = by (inode_wrong 512 n ino) refl
    where
      by : (w : Bool) → inode_wrong 512 n ino ≡ w → inode_wrong 512 n ino ≡ true
      by true q = q
      by false q = absurd (subst T e (subst (λ (x : List ℕ). T (same_list rest x)) (rest_all (right_zero n q)) (same_refl rest)))

  pub spare-is : (r : Bool) → r ≡ same_list rest (zeros (length rest)) → Spare ino (not r)
  spare-is true e = rest-none (same-eq rest (zeros (length rest)) (of-true _ (sym e)))
  spare-is false e = rest_some (sym e)

-- ---- by its parts
pub wrong_size : (n : ℕ) (ino : List ℕ) → 65024 < inode_size ino → inode_wrong 512 n ino ≡ true
unfolding inode_wrong
wrong_size n ino h = rw (lt-ltb 65024 (inode_size ino) h)

pub right-inode : (n : ℕ) (ino : List ℕ) → inode_size ino ≤ 65024 → Below (number_wrong 512 n ino) (need 512 (inode_size ino)) → Spare ino false → inode_wrong 512 n ino ≡ false
unfolding inode_wrong
right-inode n ino small listed spare =
    rw (le-ltb 65024 (inode_size ino) small, ← none_found (number_wrong 512 n ino) 127 127 (omega arith) (omega arith) all)
  where
    all : Below (number_wrong 512 n ino) 127
    all k h =
        elim (dec_lt k (need 512 (inode_size ino))) [
          | yes l ↦ listed k l
          | no l ↦ spare n k (omega arith) h
        ]

-- ---- what an inode that is not wrong says
pub need-small : (size : ℕ) → size ≤ 65024 → need 512 size ≤ 127
unfolding need
need-small size h = omega arith

module _ (n : ℕ) (ino : List ℕ) (right : inode_wrong 512 n ino ≡ false) where
  pub right-size : inode_size ino ≤ 65024
  unfolding inode_wrong
  right-size = ltb-false 65024 (inode_size ino) (or-no-l (nat_lt 65024 (inode_size ino)) (nat_lt (least (number_wrong 512 n ino) 127) 127) right)

  right-need : need 512 (inode_size ino) ≤ 127
  right-need = need-small (inode_size ino) right-size

  pub right-number : (k : ℕ) → k < need 512 (inode_size ino) → (3 ≤ inode_number ino k) × (inode_number ino k < n)
  unfolding inode_wrong number_wrong
  right-number k h =
      let last : ℕ = least (number_wrong 512 n ino) 127 in
      let none : 127 ≤ last = ltb-false last 127 (or-no-r (nat_lt 65024 (inode_size ino)) (nat_lt last 127) right) in
      let no : T (not (number_wrong 512 n ino k)) = least-none (number_wrong 512 n ino) 127 none k (omega (arith, right-need)) in
      let x : ℕ = inode_number ino k in
      let within : T (in_range n x) = not-not (in_range n x) (rw (lt-ltb k (need 512 (inode_size ino)) h) at no) in
      (leb→le 3 x (and_l (nat_le 3 x) (nat_lt x n) within), ltb→lt x n (and_r (nat_le 3 x) (nat_lt x n) within))
