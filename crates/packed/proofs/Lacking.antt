-- Bytes that are lacking count as zeros.
use Rattle.std.proofs.Common.{◌≡◌, ℕ, zero, suc, ◌+◌, ◌*◌, ◌<◌, List, [], ◌∷◌, ◌++◌, None, Some, length, get_or, take, drop, replicate, refl, sym, ap, ◌∙◌, arith, rules, append_assoc, length-take, length-drop, take-append-drop}
use Rattle.std.proofs.lemmas.List.{drop_all}
use Rattle.std.specs.Prelude.{Option}
use Rattle.std.specs.Int.{w32, w64, from_be_bytes}
use Rattle.lists.specs.Lists.{word, zeros}
use Rattle.packed.specs.Input.{Loses}

get_or-zeros : (k i : ℕ) → get_or {A = ℕ} (replicate k 0) i 0 ≡ 0
get_or-zeros zero i = refl
get_or-zeros (suc k) zero = refl
get_or-zeros (suc k) (suc i) = get_or-zeros k i

pub get_or-padded : (l : List ℕ) (k i : ℕ) → get_or (l ++ zeros k) i 0 ≡ get_or l i 0
get_or-padded [] k i = get_or-zeros k i
get_or-padded (x ∷ l) k zero = refl
get_or-padded (x ∷ l) k (suc i) = get_or-padded l k i

pub word_padded : (bs w : List ℕ) (k : ℕ) → w ≡ bs ++ zeros k → from_be_bytes w32 w ≡ word bs 0
unfolding word
word_padded bs w k e =
    let at : (i : ℕ) → get_or w i 0 ≡ get_or bs i 0 = λ i. ap (λ l. get_or l i 0) e ∙ get_or-padded bs k i in
    rw (at 0, at 1, at 2, at 3) (omega arith)

get_or-drop_four : (l : List ℕ) (i : ℕ) → get_or (drop 4 l) i 0 ≡ get_or l (4 + i) 0
get_or-drop_four l i = grind arith

get_or-take_four : (l : List ℕ) (i : ℕ) → i < 4 → get_or (take 4 l) i 0 ≡ get_or l i 0
get_or-take_four l i lt = grind arith

pub long_padded : (bs w : List ℕ) (k : ℕ) → w ≡ bs ++ zeros k → from_be_bytes w64 w ≡ word (take 4 bs) 0 * 4294967296 + word (drop 4 bs) 0
unfolding word
long_padded bs w k e =
    let at : (i : ℕ) → get_or w i 0 ≡ get_or bs i 0 = λ i. ap (λ l. get_or l i 0) e ∙ get_or-padded bs k i in
    rw (at 0, at 1, at 2, at 3, at 4, at 5, at 6, at 7, get_or-take_four bs 0 (search rules), get_or-take_four bs 1 (search rules), get_or-take_four bs 2 (search rules), get_or-take_four bs 3 (search rules), get_or-drop_four bs 0, get_or-drop_four bs 1, get_or-drop_four bs 2, get_or-drop_four bs 3) (omega arith)

-- ---- eight bytes are lost as four and four
pub lost_twice : (old new : Option (List ℕ)) (bs : List ℕ) → Loses old new 8 bs → (mid : Option (List ℕ)) × Loses old mid 4 (take 4 bs) × Loses mid new 4 (drop 4 bs)
lost_twice None new bs (p, fits, end) =
    (None, (tt, omega (arith, length-take 4 bs), λ _. tt), (tt, omega (arith, length-drop 4 bs), λ lt. end (omega (arith, length-drop 4 bs))))
lost_twice (Some xs) None bs (p, fits, end) = absurd p
lost_twice (Some xs) (Some ys) bs (p, fits, end) =
    let left = drop 4 bs ++ ys in
    let split : xs ≡ take 4 bs ++ left = p ∙ ap (λ l. l ++ ys) (sym (take-append-drop 4 bs)) ∙ append_assoc (take 4 bs) (drop 4 bs) ys in
    let none : length (take 4 bs) < 4 → left ≡ [] =
    λ lt. let short : length bs < 4 = omega (arith, length-take 4 bs) in
    ap (λ l. l ++ ys) (drop_all 4 bs (omega arith)) ∙ end (omega arith) in
    (Some left, (split, omega (arith, length-take 4 bs), none), (refl, omega (arith, length-drop 4 bs), λ lt. end (omega (arith, length-drop 4 bs))))
