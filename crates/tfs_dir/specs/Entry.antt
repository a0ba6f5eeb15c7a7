-- The bytes of a slot as they are written.
use Rattle.std.specs.Prelude.{◌≡◌, ℕ, zero, suc, ◌-◌, ◌≤◌, List, [], ◌++◌, length, drop}
use Rattle.std.proofs.Common.{sym, ap, ◌∙◌, arith, length-drop, drop_of_length-le, take_all}
use Rattle.std.proofs.Math.Nat.{zero-sub, sub-zero, suc-sub-suc}
use Rattle.lists.specs.Lists.{pad_to, zeros, bytes4, with_part}
use Rattle.tfs_spec.specs.Layout.{entry}

drop-zeros : (k n : ℕ) → drop k (zeros n) ≡ zeros (n - k)
drop-zeros zero n = ap zeros (sym (sub-zero n))
drop-zeros (suc k) zero = ap zeros (sym (zero-sub (suc k)))
drop-zeros (suc k) (suc n) = drop-zeros k n ∙ ap zeros (sym (suc-sub-suc n k))

-- l and then the zeros that are left of n is l padded to n
pub pad-with : (l : List ℕ) (n : ℕ) → length l ≤ n → l ++ drop (length l) (zeros n) ≡ pad_to n l
pad-with l n h = rw (drop-zeros (length l) n, take_all n l h)

-- the number, then zeros, then the name over them, is a slot's entry
pub entry-written : (inode : ℕ) (name e : List ℕ) → length name ≤ 16 → length e ≡ 20 → with_part 4 (length name) name (with_part 4 16 (zeros 16) (with_part 0 4 (bytes4 inode) e)) ≡ entry inode name
unfolding with_part entry
entry-written inode name e h k =
    let none : drop 16 (drop 4 e) ≡ [] = drop_of_length-le (drop 4 e) {i = 16} (simp length-drop (omega arith)) in
    rw none (ap (λ (l : List ℕ). bytes4 inode ++ l) (pad-with name 16 h))
