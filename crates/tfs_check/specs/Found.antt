-- What claims of blocks find, by the code's answers.
use Rattle.std.specs.Prelude.{◌≡◌, Bool, true, false, not, List, T, leb, ltb, Option, Some, None}
use Rattle.std.proofs.Common.{sym, subst, ◌∙◌, arith, leb→le, lt-ltb, le-ltb, le-leb, ltb-false}
use Prim.Native.Nat.{ℕ, ◌≤◌, ◌<◌}
use Rattle.std.proofs.Math.Dec.{ltb→lt}
use Rattle.lists.specs.Lists.{least}
use Rattle.list_laws.specs.Test.{of-true, to-true, no_false, not-not, and_l, and_r}
use Rattle.list_laws.specs.Least.{Below, found, none_found, least-hit, least-none}
use Rattle.tfs_spec.specs.Layout.{map_bit, set_bit, set_bits, need, in_range, inode_size, inode_number, View, free}
use Rattle.tfs_spec.specs.Check.{file_claims, bad_inode}
use Rattle.tfs_inode.specs.Wrong.{number_wrong, inode_wrong, bad-inode, listed-wrong, wrong-one, Spare, right-inode, need-small}
use Rattle.tfs_inode.specs.Claims.{claim_list}
use Rattle.tfs_check.specs.Doubled.{lower_of, doubled, numbers_to, marked_all, twice-all}
use Rattle.tfs_check.specs.Claimed.{none-marked, none-doubled}

-- of the claims of a list of blocks in a map: something is wrong; or all are marked, and r is the lowest of low and the blocks claimed twice
abbrev pub Claimed : Bool → List ℕ → List ℕ → ℕ → List ℕ → Option ℕ → Type 0
Claimed wrong list map low after None = wrong ≡ true
Claimed wrong list map low after (Some r) = (wrong ≡ false) × (after ≡ set_bits map 1 list) × (r ≡ doubled map list low)

-- ---- a number in range, by the code's test
pub range-right : (n b : ℕ) (t : Bool) → t ≡ in_range n b → not t ≡ false → (3 ≤ b) × (b < n)
range-right n b t e f =
    let r : T (in_range n b) = subst T e (not-not t (subst (λ (x : Bool). T (not x)) (sym f) tt)) in
    (leb→le 3 b (and_l (leb 3 b) (ltb b n) r), ltb→lt b n (and_r (leb 3 b) (ltb b n) r))

pub number-right : (n : ℕ) (ino : List ℕ) (k : ℕ) → k < need 512 (inode_size ino) → (3 ≤ inode_number ino k) × (inode_number ino k < n) → number_wrong 512 n ino k ≡ false
number-right n ino k h (low, high) = sym (listed-wrong n ino k h) ∙ rw (le-leb 3 (inode_number ino k) low, lt-ltb (inode_number ino k) n high)

-- ---- one of the first `count` numbers is wrong
unfoldable pub listed_wrong : ℕ → List ℕ → ℕ → Bool
listed_wrong n ino count = ltb (least (number_wrong 512 n ino) count) count

module _ (n : ℕ) (ino : List ℕ) (count : ℕ) where
  pub listed_found : (k : ℕ) → k < count → Below (number_wrong 512 n ino) k → number_wrong 512 n ino k ≡ true → listed_wrong n ino count ≡ true
  unfolding listed_wrong
  listed_found k h b e = rw (← found (number_wrong 512 n ino) count k h b e) (lt-ltb k count h)

  pub listed-none : (k : ℕ) → k ≤ count → count ≤ k → Below (number_wrong 512 n ino) k → listed_wrong n ino count ≡ false
  unfolding listed_wrong
  listed-none k h l b = rw (← none_found (number_wrong 512 n ino) count k h l b) (le-ltb count count (omega arith))

  pub listed-wrong-inode : count ≤ 127 → listed_wrong n ino count ≡ true → inode_wrong 512 n ino ≡ true
  unfolding listed_wrong
  listed-wrong-inode few e =
      let first : ℕ = least (number_wrong 512 n ino) count in
      let h : first < count = ltb→lt first count (of-true (ltb first count) e) in
      wrong-one n ino first (omega arith) (to-true (number_wrong 512 n ino first) (least-hit (number_wrong 512 n ino) count h))

  pub listed-right : listed_wrong n ino count ≡ false → Below (number_wrong 512 n ino) count
  unfolding listed_wrong
  listed-right e k h =
      no_false (number_wrong 512 n ino k) (least-none (number_wrong 512 n ino) count (ltb-false (least (number_wrong 512 n ino) count) count e) k h)

-- ---- a file: its inode's own block, then its numbers
pub file-claimed : (n : ℕ) (ino : List ℕ) (count b : ℕ) (map : List ℕ) (low : ℕ) (after : List ℕ) (r : Option ℕ) → count ≡ need 512 (inode_size ino) → inode_size ino ≤ 65024 → Spare ino false → Claimed (listed_wrong n ino count) (numbers_to ino count) (set_bit map b 1) (lower_of (map_bit map b) b low) after r → Claimed (inode_wrong 512 n ino) (claim_list b ino) map low after r
file-claimed n ino count b map low after None e small spare wrong = listed-wrong-inode n ino count (omega (arith, need-small (inode_size ino) small)) wrong
file-claimed n ino count b map low after (Some r) e small spare (right, marked, twice) = (
  right-inode n ino small (λ k h. listed-right n ino count right k (omega arith)) spare,
  marked ∙ marked_all map ino b count e,
  twice ∙ twice-all map ino b count low e,
)

-- ---- a free slot claims nothing
pub free-claimed : (v : View) (s : ℕ) (map : List ℕ) (low : ℕ) → free v s ≡ true → Claimed (bad_inode 512 v s) (file_claims 512 v s) map low map (Some low)
free-claimed v s map low e = (rw (bad-inode 512 v s, e), none-marked v s map e, none-doubled v s map e low)
