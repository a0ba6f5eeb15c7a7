-- Two lists compared byte by byte.
use Rattle.std.specs.Prelude.{◌≡◌, refl, Bool, ◌&&◌, ℕ, ◌+◌, ◌≤◌, List, [], ◌∷◌, ◌++◌, eqb, length, take, drop}
use Rattle.std.proofs.Common.{sym, ap, ap₂, ◌∙◌, arith, length-drop, take-append-drop, drop-drop, length-take-le}
use Rattle.std.proofs.Math.Bool.{and_assoc}
use Rattle.std.specs.List.{list_all}
use Rattle.lists.specs.Lists.{same_list, zeros}

-- every byte is zero
pub all_zeros : (p : List ℕ) → same_list p (zeros (length p)) ≡ list_all (λ x. eqb x 0) p
all_zeros [] = refl
all_zeros (x ∷ p) = ap (λ (t : Bool). eqb x 0 && t) (all_zeros p)

-- ---- part by part
pub same-append : (a b c d : List ℕ) → length a ≡ length c → same_list (a ++ b) (c ++ d) ≡ (same_list a c && same_list b d)
same-append [] b [] d e = refl
same-append [] b (y ∷ c) d e = absurd (omega (arith, e))
same-append (x ∷ a) b [] d e = absurd (omega (arith, e))
same-append (x ∷ a) b (y ∷ c) d e =
    ap (λ (t : Bool). eqb x y && t) (same-append a b c d (omega (arith, e))) ∙ sym (and_assoc (eqb x y) (same_list a c) (same_list b d))

-- from index i on: the next n bytes, then those behind them
module _ (a b : List ℕ) (i n m : ℕ) (t : Bool) (e : m ≡ n) (found : t ≡ same_list (take m (drop i a)) (take m (drop i b))) where
  pub same_next : i + n ≤ length a → i + n ≤ length b → (t && same_list (drop (i + n) a) (drop (i + n) b)) ≡ same_list (drop i a) (drop i b)
  same_next h k =
      let x : length (take n (drop i a)) ≡ n = length-take-le n (drop i a) (simp length-drop (omega arith)) in
      let y : length (take n (drop i b)) ≡ n = length-take-le n (drop i b) (simp length-drop (omega arith)) in
      rw (found, e, ← drop-drop n i a, ← drop-drop n i b)
      (sym (same-append (take n (drop i a)) (drop n (drop i a)) (take n (drop i b)) (drop n (drop i b)) (x ∙ sym y)) ∙ ap₂ same_list (take-append-drop n (drop i a)) (take-append-drop n (drop i b)))
