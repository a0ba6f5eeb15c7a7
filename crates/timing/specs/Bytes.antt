-- The file's bytes put and read one after another.
use Rattle.std.specs.Prelude.{◌≡◌, refl, ℕ, suc, ◌+◌, ◌*◌, ◌<◌, List, [], ◌∷◌, ◌++◌, length, get_or, take, set}
use Rattle.std.proofs.Common.{sym, ap, ◌∙◌, append_assoc, arith, zero-add, take-suc, take-suc-set, take_all}
use Rattle.lists.specs.Lists.{table, bytes4}
use Rattle.list_laws.specs.Table.{table_more}
use Rattle.timing_spec.specs.Timing.{bytes2, pairs, timing_bytes, pair_at, timing_of}
use Rattle.timing.specs.Told.{timing}

-- one byte put behind those that stand
put-behind : (front l : List ℕ) (at next v : ℕ) → next ≡ suc at → at < length l → take at l ≡ front → take next (set l at v) ≡ front ++ (v ∷ [])
put-behind front l at next v n h e = ap (λ (k : ℕ). take k (set l at v)) n ∙ take-suc-set l at v h ∙ ap (λ (x : List ℕ). x ++ (v ∷ [])) e

-- one value more
pairs-behind : (xs ys : List ℕ) → pairs (xs ++ ys) ≡ pairs xs ++ pairs ys
pairs-behind [] ys = refl
pairs-behind (x ∷ xs) ys = ap (λ (l : List ℕ). bytes2 x ++ l) (pairs-behind xs ys)

pub value-more : (front vs new : List ℕ) (i at : ℕ) → at ≡ 8 + 2 * i → i < length vs → take (at + 2) new ≡ (front ++ pairs (take i vs)) ++ bytes2 (get_or vs i 0) → take (8 + 2 * (i + 1)) new ≡ front ++ pairs (take (i + 1) vs)
value-more front vs new i at place h e =
    let k : 8 + 2 * (i + 1) ≡ at + 2 = omega arith in
    let j : i + 1 ≡ suc i = omega arith in
    ap (λ (n : ℕ). take n new) k ∙ e ∙ append_assoc front (pairs (take i vs)) (bytes2 (get_or vs i 0))
    ∙ ap (λ (l : List ℕ). front ++ l) (sym (pairs-behind (take i vs) (get_or vs i 0 ∷ [])) ∙ ap pairs (sym (take-suc vs i 0 h) ∙ ap (λ (n : ℕ). take n vs) (sym j)))

-- all of them
pub values-all : (board maker : ℕ) (vs bytes : List ℕ) (i : ℕ) → i ≡ 28 → length vs ≡ 28 → length bytes ≡ 64 → take (8 + 2 * i) bytes ≡ (bytes4 board ++ bytes4 maker) ++ pairs (take i vs) → bytes ≡ timing_bytes (timing board maker vs)
unfolding timing_bytes
values-all board maker vs bytes i all many long e =
    let k : 8 + 2 * i ≡ 64 = omega arith in
    sym (take_all 64 bytes (omega arith)) ∙ ap (λ (n : ℕ). take n bytes) (sym k) ∙ e
    ∙ ap (λ (l : List ℕ). (bytes4 board ++ bytes4 maker) ++ pairs l) (take_all i vs (omega arith))
    ∙ append_assoc (bytes4 board) (bytes4 maker) (pairs vs)

-- ---- read
pub read_more : (bytes values : List ℕ) (i v : ℕ) → i < length values → v ≡ pair_at bytes (8 + 2 * i) → take i values ≡ table (λ j. pair_at bytes (8 + 2 * j)) 0 i → take (i + 1) (set values i v) ≡ table (λ j. pair_at bytes (8 + 2 * j)) 0 (i + 1)
read_more bytes values i v h e f =
    let n : i + 1 ≡ suc i = omega arith in
    let g : ℕ → ℕ = λ j. pair_at bytes (8 + 2 * j) in
    put-behind (table g 0 i) values i (i + 1) v n h f
    ∙ ap (λ (x : ℕ). table g 0 i ++ (x ∷ [])) (e ∙ ap g (sym (zero-add i)))
    ∙ sym (table_more g 0 i)
    ∙ ap (table g 0) (sym n)

pub read_all : (bytes values : List ℕ) (i : ℕ) → i ≡ 28 → length values ≡ 28 → take i values ≡ table (λ j. pair_at bytes (8 + 2 * j)) 0 i → values ≡ (timing_of bytes).values
unfolding timing_of
read_all bytes values i all many e = sym (take_all i values (omega arith)) ∙ e ∙ ap (table (λ j. pair_at bytes (8 + 2 * j)) 0) all
