-- The fields of a slot as parts of the directory.
use Rattle.std.specs.Prelude.{◌≡◌, Bool, ◌||◌, List, drop, ltb}
use Rattle.std.proofs.Common.{sym, ◌∙◌, add-zero, arith, take-take, drop-drop, length-take-le, get_or-take}
use Rattle.std.proofs.Math.Path.{ap}
use Rattle.std.proofs.Math.Bool.{false}
use Prim.Native.Nat.{ℕ, ◌+◌, ◌*◌, ◌-◌, ◌≤◌, ◌<◌}
use Rattle.std.proofs.Math.Nat.{add-sub_cancel_left}
use Rattle.std.proofs.Math.ListN.{length, get_or, take}
use Rattle.std.proofs.Math.Dec.{eqb}
use borrow.Author.Tests.{ltb-false, eqb-false}
use Rattle.list_laws.specs.Least.{least-le}
use Rattle.lists.specs.Lists.{zero_at, first_zero, up_to_zero, part, same_list}
use Rattle.list_laws.specs.Part.{length_part, get_or-part, drop-take}
use Rattle.list_laws.specs.Test.{same-eq, to-false, or-no-l, or-no-r}
use Rattle.tfs_spec.specs.Layout.{slot, slot_name, same_name}

-- the first byte of the name field
pub first_byte : (e : List ℕ) → get_or (part 4 16 e) 0 0 ≡ get_or e 4 0
first_byte e = get_or-part 4 16 e 0 (omega arith)

pub zero-le : (l : List ℕ) → first_zero l ≤ length l
unfolding first_zero
zero-le l = least-le (zero_at l) (length l)

-- a slot of the directory has 20 bytes
pub length-slot : (dir : List ℕ) (s : ℕ) → length dir ≡ 512 → s < 25 → length (slot dir s) ≡ 20
unfolding slot
length-slot dir s h b = length_part (s * 20) 20 dir (omega arith)

module _ (e : List ℕ) (h : length e ≡ 20) where
  pub length-field : length (part 4 16 e) ≡ 16
  length-field = length_part 4 16 e (omega arith)

  -- the name ends at the first zero of its field
  pub length-name : length (slot_name e) ≡ first_zero (part 4 16 e)
  unfolding slot_name up_to_zero
  length-name = length-take-le (first_zero (part 4 16 e)) (part 4 16 e) (zero-le (part 4 16 e))

  pub name-le : length (slot_name e) ≤ 16
  name-le = omega (arith, length-name, length-field, zero-le (part 4 16 e))

  -- the k bytes from the field's start on are the name, where k is its length
  pub name-cut : (k : ℕ) → k ≡ length (slot_name e) → take (4 + k - 4) (drop 4 e) ≡ slot_name e
  unfolding part slot_name up_to_zero
  name-cut k l =
      let z : k ≡ first_zero (part 4 16 e) = l ∙ length-name in
      let short : k ≤ 16 = omega (arith, l, name-le) in
      rw add-sub_cancel_left (sym (take-take k 16 (drop 4 e) short) ∙ ap (λ (n : ℕ). take n (part 4 16 e)) z)

-- ---- the last byte of a name
-- whether it stands in the slot at its place, or there is no such place
unfoldable pub last_same : List ℕ → List ℕ → Bool
last_same e name = ltb (length name) 1 || (ltb 16 (length name) || eqb (get_or e (4 + (length name - 1)) 0) (get_or name (length name - 1) 0))

-- where it does not, the slot has another name
module _ (e name : List ℕ) (h : length e ≡ 20) where
  last-is : slot_name e ≡ name → 1 ≤ length name → get_or e (4 + (length name - 1)) 0 ≡ get_or name (length name - 1) 0
  unfolding slot_name up_to_zero
  last-is q l =
      let field : List ℕ = part 4 16 e in
      let z : first_zero field ≡ length name = sym (length-name e h) ∙ ap length q in
      let short : length name ≤ 16 = omega (arith, ap length q, name-le e h) in
      sym
      (ap (λ (x : List ℕ). get_or x (length name - 1) 0) (sym q)
      ∙ get_or-take (first_zero field) field (length name - 1) 0 (omega arith)
      ∙ get_or-part 4 16 e (length name - 1) (omega arith))

  pub last_not : last_same e name ≡ false → same_name (slot_name e) name ≡ false
  unfolding last_same same_name
  last_not q =
      let k : ℕ = length name in
      let x : ℕ = get_or e (4 + (k - 1)) 0 in
      let y : ℕ = get_or name (k - 1) 0 in
      let rest : (ltb 16 k || eqb x y) ≡ false = or-no-r (ltb k 1) (ltb 16 k || eqb x y) q in
      let some : 1 ≤ k = ltb-false k 1 (or-no-l (ltb k 1) (ltb 16 k || eqb x y) q) in
      to-false (same_list (slot_name e) name)
      (λ t. eqb-false x y (or-no-r (ltb 16 k) (eqb x y) rest) (last-is (same-eq (slot_name e) name t) some))
