-- Two lists of bytes compared word by word.
use Rattle.std.specs.Prelude.{◌≡◌, Bool, true, false, not, ◌&&◌, ℕ, zero, suc, ◌+◌, ◌*◌, ◌<◌, List, get_or, take, T, eqb}
use Rattle.std.proofs.Common.{sym, ap, ◌∙◌, subst, arith, get_or-take, eqb→eq}
use Rattle.list_laws.specs.Test.{and-of, and_l, and_r, not-not, of-true, to-true, iff-eq, eqb_of, same-eq}
use Rattle.list_laws.specs.Least.{Below}
use Rattle.lists.specs.Lists.{word_of, same_list}

-- whether four bytes are the same as four others
abbrev pub same_four : ℕ → ℕ → ℕ → ℕ → ℕ → ℕ → ℕ → ℕ → Bool
same_four a b c d e f g h = eqb a e && (eqb b f && (eqb c g && eqb d h))

-- whether the four bytes of word k of p are all v
unfoldable pub word_is : List ℕ → ℕ → ℕ → Bool
word_is p k v = same_four (get_or p (4 * k) 0) (get_or p (4 * k + 1) 0) (get_or p (4 * k + 2) 0) (get_or p (4 * k + 3) 0) v v v v

-- whether the four bytes of word k are the same in p and q
unfoldable pub word_same : List ℕ → List ℕ → ℕ → Bool
word_same p q k = same_four (get_or p (4 * k) 0) (get_or p (4 * k + 1) 0) (get_or p (4 * k + 2) 0) (get_or p (4 * k + 3) 0) (get_or q (4 * k) 0) (get_or q (4 * k + 1) 0) (get_or q (4 * k + 2) 0) (get_or q (4 * k + 3) 0)

unfoldable pub word_differs : List ℕ → List ℕ → ℕ → Bool
word_differs p q k = not (word_same p q k)

-- four bytes are the same where their words are
module _ (a b c d e f g h : ℕ) where
  four-parts : T (same_four a b c d e f g h) → (a ≡ e) × (b ≡ f) × (c ≡ g) × (d ≡ h)
  four-parts t =
      let u : T (eqb b f && (eqb c g && eqb d h)) = and_r (eqb a e) (eqb b f && (eqb c g && eqb d h)) t in
      let w : T (eqb c g && eqb d h) = and_r (eqb b f) (eqb c g && eqb d h) u in
      (eqb→eq a e (and_l (eqb a e) (eqb b f && (eqb c g && eqb d h)) t), eqb→eq b f (and_l (eqb b f) (eqb c g && eqb d h) u), eqb→eq c g (and_l (eqb c g) (eqb d h) w), eqb→eq d h (and_r (eqb c g) (eqb d h) w))

  four-of : a ≡ e → b ≡ f → c ≡ g → d ≡ h → T (same_four a b c d e f g h)
  four-of p q r s =
      and-of (eqb a e) (eqb b f && (eqb c g && eqb d h)) (eqb_of p)
      (and-of (eqb b f) (eqb c g && eqb d h) (eqb_of q) (and-of (eqb c g) (eqb d h) (eqb_of r) (eqb_of s)))

  pub four_same : b < 256 → c < 256 → d < 256 → f < 256 → g < 256 → h < 256 → eqb (word_of a b c d) (word_of e f g h) ≡ same_four a b c d e f g h
  four_same lb lc ld lf lg lh =
      iff-eq (eqb (word_of a b c d) (word_of e f g h)) (same_four a b c d e f g h)
      (λ t. let w : word_of a b c d ≡ word_of e f g h = eqb→eq (word_of a b c d) (word_of e f g h) t in four-of (omega arith) (omega arith) (omega arith) (omega arith))
      (λ t. let p = four-parts t in eqb_of {a = word_of a b c d} {b = word_of e f g h} (omega (arith, p.0, p.1, p.2, p.3)))

-- one of four
among : (f g : ℕ → ℕ) (at j : ℕ) → f at ≡ g at → f (at + 1) ≡ g (at + 1) → f (at + 2) ≡ g (at + 2) → f (at + 3) ≡ g (at + 3) → j < 4 → f (at + j) ≡ g (at + j)
among f g at zero a b c d h = let z : at + 0 ≡ at = omega arith in rw z a
among f g at (suc zero) a b c d h = b
among f g at (suc (suc zero)) a b c d h = c
among f g at (suc (suc (suc zero))) a b c d h = d
among f g at (suc (suc (suc (suc j)))) a b c d h = absurd (omega arith)

-- the bytes of a word that is the same
pub word_bytes : (p q : List ℕ) (k j : ℕ) → word_differs p q k ≡ false → j < 4 → get_or p (4 * k + j) 0 ≡ get_or q (4 * k + j) 0
unfolding word_differs word_same
word_bytes p q k j e h =
    let all = four-parts (get_or p (4 * k) 0) (get_or p (4 * k + 1) 0) (get_or p (4 * k + 2) 0) (get_or p (4 * k + 3) 0) (get_or q (4 * k) 0) (get_or q (4 * k + 1) 0) (get_or q (4 * k + 2) 0) (get_or q (4 * k + 3) 0) (not-not (word_same p q k) (subst (λ (t : Bool). T (not t)) (sym e) tt)) in
    among (λ i. get_or p i 0) (λ i. get_or q i 0) (4 * k) j all.0 all.1 all.2 all.3 h

-- and of a word of one byte
pub word-filled : (p : List ℕ) (k v j : ℕ) → word_is p k v ≡ true → j < 4 → get_or p (4 * k + j) 0 ≡ v
unfolding word_is
word-filled p k v j e h =
    let all = four-parts (get_or p (4 * k) 0) (get_or p (4 * k + 1) 0) (get_or p (4 * k + 2) 0) (get_or p (4 * k + 3) 0) v v v v (of-true (word_is p k v) e) in
    among (λ i. get_or p i 0) (λ _. v) (4 * k) j all.0 all.1 all.2 all.3 h

-- the words of lists with the same first bytes
pub words_same : (p q : List ℕ) (n m : ℕ) → m ≡ 4 * n → same_list (take m p) (take m q) ≡ true → Below (word_differs p q) n
unfolding word_differs word_same
words_same p q n m e t k h =
    let same : take m p ≡ take m q = same-eq (take m p) (take m q) (of-true (same_list (take m p) (take m q)) t) in
    let byte : (i : ℕ) → i < m → get_or p i 0 ≡ get_or q i 0 = λ i l. sym (get_or-take m p i 0 l) ∙ ap (λ (x : List ℕ). get_or x i 0) same ∙ get_or-take m q i 0 l in
    ap not
    (to-true (word_same p q k)
    (four-of (get_or p (4 * k) 0) (get_or p (4 * k + 1) 0) (get_or p (4 * k + 2) 0) (get_or p (4 * k + 3) 0) (get_or q (4 * k) 0) (get_or q (4 * k + 1) 0) (get_or q (4 * k + 2) 0) (get_or q (4 * k + 3) 0)
    (byte (4 * k) (omega arith)) (byte (4 * k + 1) (omega arith)) (byte (4 * k + 2) (omega arith)) (byte (4 * k + 3) (omega arith))))
