-- The check: rules 1 to 7, each over the whole volume before the next, the lowest place of the first broken one.
use Rattle.std.specs.Prelude.{Bool, not, cond, ◌&&◌, ◌||◌, ℕ, zero, suc, ◌+◌, ◌*◌, List, [], ◌∷◌, ◌++◌, length, leb, ltb, eqb}
use Rattle.std.specs.Bool.{beq}
use Rattle.lists.specs.Lists.{least, first_zero, table, word}
use Rattle.tfs_spec.specs.Layout.{slots, numbers, max_size, need, magic, volume_name, in_range, map_bit, same_name, View, view, free, used, inode, name, size, number}

pub data Verdict : Type 0 where
  consistent : Verdict
  -- the rule's number, and the place of the fault
  broken : ℕ → ℕ → Verdict

-- rule num is broken at a place below n, or what the later rules say
abbrev pub found : ℕ → ℕ → ℕ → Verdict → Verdict
found num n place rest = cond (ltb place n) (broken num place) rest

-- 1: "image under 1,536 bytes"
unfoldable pub too_short : ℕ → List ℕ → Bool
too_short B img = ltb (length img) (3 * B)

-- 2: "magic differs"
unfoldable pub bad_magic : View → Bool
bad_magic v = not (eqb (word v.head 0) magic)

-- 3: "no zero in the 16 volume name bytes"
unfoldable pub bad_label : View → Bool
bad_label v = leb 16 (first_zero (volume_name v.head))

-- 4: "a slot is neither free nor used, or repeats the name of a lower slot"
unfoldable pub repeats : View → ℕ → Bool
repeats v s = ltb (least (λ t. not (free v t) && same_name (name v t) (name v s)) s) s

unfoldable pub bad_slot : View → ℕ → Bool
bad_slot v s = not (free v s) && (not (used v s) || repeats v s)

-- 5: "a used slot's inode has size over 65,024, one of its first ⌈size/512⌉ numbers outside 3..N−1, or a later number not 0"
unfoldable pub bad_number : ℕ → View → ℕ → ℕ → Bool
bad_number B v s k = cond (ltb k (need B (size v s))) (not (in_range v.n (number v s k))) (not (eqb (number v s k) 0))

unfoldable pub bad_inode : ℕ → View → ℕ → Bool
bad_inode B v s = not (free v s) && (ltb (max_size B) (size v s) || ltb (least (bad_number B v s) (numbers B)) (numbers B))

-- the blocks that a slot claims, as inode and content; those of the slots below s; and all
unfoldable pub file_claims : ℕ → View → ℕ → List ℕ
file_claims B v s = cond (free v s) [] (inode v s ∷ table (number v s) 0 (need B (size v s)))

unfoldable pub claims_to : ℕ → View → ℕ → List ℕ
claims_to B v zero = []
claims_to B v (suc s) = claims_to B v s ++ file_claims B v s

unfoldable pub claims : ℕ → View → List ℕ
claims B v = claims_to B v (slots B)

-- how often b stands in a list
abbrev pub times : ℕ → List ℕ → ℕ
times b [] = 0
times b (x ∷ xs) = cond (eqb x b) 1 0 + times b xs

-- 6: "a block is claimed twice, as inode or content, by one file or two"
abbrev pub claimed_twice : List ℕ → ℕ → Bool
claimed_twice cs b = leb 2 (times b cs)

-- 7: "bit b differs from 'b is below 3 or claimed'"
abbrev pub bad_bit : View → List ℕ → ℕ → Bool
bad_bit v cs b = not (beq (map_bit v.map b) (ltb b 3 || leb 1 (times b cs)))

-- "set bits that nobody claims": those of blocks 0 to 2, which are no fault, are not among them
unfoldable pub stray : ℕ → View → ℕ → Bool
stray B v b = leb 3 b && (map_bit v.map b && eqb (times b (claims B v)) 0)

unfoldable pub check_view : ℕ → View → Verdict
check_view B v =
    let cs : List ℕ = claims B v in
    let r7 : Verdict = found 7 v.n (least (bad_bit v cs) v.n) consistent in
    let r6 : Verdict = found 6 v.n (least (claimed_twice cs) v.n) r7 in
    let r5 : Verdict = found 5 (slots B) (least (bad_inode B v) (slots B)) r6 in
    let r4 : Verdict = found 4 (slots B) (least (bad_slot v) (slots B)) r5 in
    let r3 : Verdict = cond (bad_label v) (broken 3 0) r4 in
    cond (bad_magic v) (broken 2 0) r3

unfoldable pub check : ℕ → List ℕ → Verdict
check B img = cond (too_short B img) (broken 1 0) (check_view B (view B img))
