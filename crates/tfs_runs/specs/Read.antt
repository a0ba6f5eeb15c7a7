-- Bytes read by runs.
use Rattle.std.specs.Prelude.{◌≡◌, ℕ, zero, suc, ◌+◌, ◌-◌, ◌≤◌, ◌<◌, List, [], ◌∷◌, ◌++◌, length, get_or, take, drop}
use Rattle.std.proofs.Common.{sym, ap, ◌∙◌, append_assoc, append-nil, arith, add-zero, zero-add, length-take, length-drop, drop_of_length-le, ext_get_or, get_or-take, get_or-drop, take_at, drop_at, take_all, drop-drop}
use Rattle.std.proofs.Math.Nat.{sub-zero}
use Rattle.lists.specs.Lists.{table}
use Rattle.list_laws.specs.Table.{length-table, get_or-table}
use Rattle.tfs_runs.specs.Place.{at, Straight}

-- one table after another
pub table-join : (f : ℕ → ℕ) (k d e : ℕ) → table f k d ++ table f (k + d) e ≡ table f k (d + e)
table-join f k zero e = rw (add-zero, zero-add)
table-join f k (suc d) e =
    let a : k + suc d ≡ suc k + d = omega arith in
    let b : suc d + e ≡ suc (d + e) = omega arith in
    rw (a, b) (ap (λ (l : List ℕ). f k ∷ l) (table-join f (suc k) d e))

-- a run is a part of the image
pub table-run : (img ino : List ℕ) (p r : ℕ) → Straight ino p r → at ino p + r ≤ length img → table (λ q. get_or img (at ino q) 0) p r ≡ take r (drop (at ino p) img)
table-run img ino p r near l =
    ext_get_or 0 (table f p r) (take r (drop (at ino p) img))
    (length-table f p r ∙ sym (simp (length-take, length-drop) (omega arith)))
    (λ i k.
    let m : i < r = omega (arith, length-table f p r) in
    get_or-table f p r i 0 m
    ∙ ap (λ (x : ℕ). get_or img x 0) (near i m)
    ∙ sym (get_or-take r (drop (at ino p) img) i 0 m ∙ get_or-drop (at ino p) img i 0))
  where
    f : ℕ → ℕ
    f q = get_or img (at ino q) 0

-- one run at the front of the buffer
pub read-run : (img ino buf last : List ℕ) (p s r n : ℕ) → s ≡ at ino p → Straight ino p r → s + r ≤ length img → n ≡ r → last ≡ take n (drop s img) → last ++ drop (r - 0) buf ≡ table (λ q. get_or img (at ino q) 0) p r ++ drop r buf
read-run img ino buf last p s r n e near l m t =
    let part : last ≡ table (λ q. get_or img (at ino q) 0) p r = rw (t, m, e) (sym (table-run img ino p r near (rw e at l))) in
    rw (sub-zero, part)

-- one more run behind the d bytes that buf has, n being the rest of its length
pub read_more : (f : ℕ → ℕ) (o d r n : ℕ) (old buf last : List ℕ) → d ≤ length old → length old - d ≤ n → buf ≡ table f o d ++ drop d old → last ≡ table f (o + d) r ++ drop r (take n (drop d buf)) → take d buf ++ (last ++ drop n (drop d buf)) ≡ table f o (d + r) ++ drop (d + r) old
read_more f o d r n old buf last h k e t =
    let front : take d buf ≡ table f o d = rw e (take_at (table f o d) (drop d old) d (length-table f o d)) in
    let back : drop d buf ≡ drop d old = rw e (drop_at (table f o d) (drop d old) d (length-table f o d)) in
    let short : length (drop d old) ≤ n = simp length-drop (omega arith) in
    let all : take n (drop d old) ≡ drop d old = take_all n (drop d old) short in
    let none : drop n (drop d old) ≡ [] = drop_of_length-le (drop d old) short in
    rw (t, front, back, all, none, append-nil, drop-drop, ← append_assoc, table-join)
