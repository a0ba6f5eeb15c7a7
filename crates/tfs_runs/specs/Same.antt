-- Bytes compared by runs.
use Rattle.std.specs.Prelude.{◌≡◌, Bool, true, ◌&&◌, ℕ, ◌+◌, ◌-◌, ◌≤◌, List, ◌++◌, length, get_or, take, drop}
use Rattle.std.proofs.Common.{sym, ap, ◌∙◌, arith, add-zero, length-drop, take-append-drop, drop_of_length-le, drop-drop, length-take-le}
use Rattle.std.proofs.Math.Nat.{sub-zero}
use Rattle.lists.specs.Lists.{same_list, table}
use Rattle.list_laws.specs.Table.{length-table}
use Rattle.spans.specs.Same.{same-append}
use Rattle.tfs_runs.specs.Place.{at, Straight}
use Rattle.tfs_runs.specs.Read.{table-join, table-run}

-- the rest behind d bytes: its first r, then the rest behind those
abbrev pub SameFrom : (ℕ → ℕ) → ℕ → List ℕ → ℕ → Bool
SameFrom f o bytes d = same_list (drop d bytes) (table f (o + d) (length bytes - d))

pub same_turn : (img ino bytes : List ℕ) (o d s r n m : ℕ) (t : Bool) → s ≡ at ino (o + d) → Straight ino (o + d) r → s + r ≤ length img → d + r ≤ length bytes → n ≡ r → m ≡ r → t ≡ same_list (take n (drop d bytes)) (take m (drop s img)) → SameFrom (λ p. get_or img (at ino p) 0) o bytes d ≡ (t && SameFrom (λ p. get_or img (at ino p) 0) o bytes (d + r))
same_turn img ino bytes o d s r n m t e near l h en em q =
    let short : length (take r (drop d bytes)) ≡ r = length-take-le r (drop d bytes) (simp length-drop (omega arith)) in
    let a : o + (d + r) ≡ o + d + r = omega arith in
    let b : r + (length bytes - (d + r)) ≡ length bytes - d = omega arith in
    let tables : table f (o + d) r ++ table f (o + (d + r)) (length bytes - (d + r)) ≡ table f (o + d) (length bytes - d) =
    rw a (table-join f (o + d) r (length bytes - (d + r)) ∙ ap (table f (o + d)) b) in
    let part : take r (drop s img) ≡ table f (o + d) r = rw e (sym (table-run img ino (o + d) r near (rw e at l))) in
    rw (q, en, em, part)
    (ap (λ (l : List ℕ). same_list l (table f (o + d) (length bytes - d))) (sym (take-append-drop r (drop d bytes)))
    ∙ ap (same_list (take r (drop d bytes) ++ drop r (drop d bytes))) (sym tables)
    ∙ same-append (take r (drop d bytes)) (drop r (drop d bytes)) (table f (o + d) r) (table f (o + (d + r)) (length bytes - (d + r))) (short ∙ sym (length-table f (o + d) r))
    ∙ ap (λ (l : List ℕ). same_list (take r (drop d bytes)) (table f (o + d) r) && same_list l (table f (o + (d + r)) (length bytes - (d + r)))) (drop-drop r d bytes))
  where
    f : ℕ → ℕ
    f p = get_or img (at ino p) 0

-- all of it, and nothing left
pub same_start : (f : ℕ → ℕ) (o : ℕ) (bytes : List ℕ) → SameFrom f o bytes 0 ≡ same_list bytes (table f o (length bytes))
same_start f o bytes = rw (add-zero, sub-zero)

pub same_end : (f : ℕ → ℕ) (o d : ℕ) (bytes : List ℕ) → length bytes ≤ d → true ≡ SameFrom f o bytes d
same_end f o d bytes h =
    let none : length bytes - d ≡ 0 = omega arith in
    rw (none, drop_of_length-le bytes h)
