-- The blocks that a transfer meets: their number, and that it is that of the blocks that hold its bytes.
use Rattle.std.specs.Prelude.{◌≡◌, refl, ◌↔◌, Bool, ℕ, zero, suc, ◌+◌, ◌-◌, ◌*◌, ◌/◌, ◌≤◌, ◌<◌, T, ltb, eqb}
use Rattle.std.proofs.Common.{sym, ap, ◌∙◌, arith, div-add-mod', mod-lt, le-div_iff_mul-le, div-lt_iff_lt-mul, div-mul-le_self, suc-mul, add-mul, T_not, eqb→eq, ltb→lt, nltb→le}
use Rattle.std.proofs.Math.Decide.{ℕ_discrete}
use Rattle.std.proofs.Math.Nat.{add-mul-div_right}
use Rattle.std.proofs.Math.Arith.{lt_of_le-ne, digits_div}
use Rattle.lists.specs.Lists.{least, count}
use Rattle.list_laws.specs.Test.{by-test, cond_yes, cond_no, eqb_of, neqb-of}
use Rattle.list_laws.specs.Least.{least-hit, least-none}
use Rattle.list_laws.specs.Sum.{count-image}
use Rattle.tfs_spec.specs.Layout.{need, View, size, number, place}
use Rattle.tfs_spec.specs.Consistent.{content_of, File, Sound}
use Rattle.tfs_spec.specs.Requests.{blocks_met}
use Rattle.tfs_spec.specs.Answers.{BlocksMetLaws, holds_part, Meets, Nth}
use Rattle.tfs_facts.specs.Sizes.{after_block, in-need, in_block}

-- ---- the number
met-none : (B o c : ℕ) → c ≡ 0 → blocks_met B o c ≡ 0
unfolding blocks_met
met-none B o c h = cond_yes (eqb c 0) 0 _ (eqb_of h)

met_some : (B o c : ℕ) → 1 ≤ c → blocks_met B o c ≡ (o + c - 1) / B - o / B + 1
unfolding blocks_met
met_some B o c h = cond_no (eqb c 0) 0 _ (neqb-of c 0 (λ e. omega arith))

met-zero : (B o c : ℕ) → (blocks_met B o c ≡ 0) ↔ (c ≡ 0)
met-zero B o zero = ((λ _. refl), λ _. met-none B o 0 refl)
met-zero B o (suc c) = ((λ e. absurd (omega (arith, met_some B o (suc c) (omega arith)))), λ e. absurd (omega arith))

module _ (B : ℕ) (pos : 0 < B) where
  -- x lies behind the start of its block, and before its end
  starts : (x : ℕ) → x / B * B ≤ x
  starts x = div-mul-le_self x B

  ends : (x : ℕ) → x < x / B * B + B
  ends x = omega (arith, div-add-mod' x B, mod-lt x pos)

  rising : (x y : ℕ) → x ≤ y → x / B ≤ y / B
  rising x y h = (le-div_iff_mul-le pos).1 (omega (arith, starts x))

  -- the positions from o on lie in the blocks met, and each of these has one
  pub within : (o c p : ℕ) → o ≤ p → p < o + c → (o / B ≤ p / B) × (p / B < o / B + blocks_met B o c)
  within o c p l h =
      (rising o p l, omega (arith, met_some B o c (omega arith), rising o p l, rising p (o + c - 1) (omega arith)))

  held : (o c k : ℕ) → o / B ≤ k → k < o / B + blocks_met B o c → (p : ℕ) × (o ≤ p) × (p < o + c) × (p / B ≡ k)
  held o zero k l h = absurd (omega (arith, met-none B o 0 refl))
  held o (suc c) k l h =
      elim (ℕ_discrete (o / B) k) [
        | yes e ↦ (o, omega arith, omega arith, e)
        | no e ↦
            let last : k ≤ (o + suc c - 1) / B = omega (arith, met_some B o (suc c) (omega arith), rising o (o + suc c - 1) (omega arith)) in
            let low : o / B * B + B ≤ k * B = after_block B (o / B) k (lt_of_le-ne l e) in
            let high : k * B ≤ o + suc c - 1 = (le-div_iff_mul-le pos).0 last in
            (k * B + 0, omega (arith, ends o), omega arith, digits_div k pos)
      ]

  bound : (o n : ℕ) → 1 ≤ n → blocks_met B o n ≤ (n + B - 2) / B + 1
  bound o n h =
      let q : ℕ = (n + B - 2) / B in
      let split : (o / B + q) * B ≡ o / B * B + q * B = add-mul (o / B) q B in
      let fits : (o + n - 1) / B < suc (o / B + q) = (div-lt_iff_lt-mul {k = B} {x = o + n - 1} {y = suc (o / B + q)} pos).1 (omega (arith, suc-mul (o / B + q) B, ends o, ends (n + B - 2))) in
      omega (arith, met_some B o n h)

  exact : (k n : ℕ) → 1 ≤ n → blocks_met B (k * B + (B - 1)) n ≡ (n + B - 2) / B + 1
  exact k n h =
      let first : (k * B + (B - 1)) / B ≡ k = digits_div k (omega arith) in
      let same : k * B + (B - 1) + n - 1 ≡ n + B - 2 + k * B = omega arith in
      let last : (k * B + (B - 1) + n - 1) / B ≡ (n + B - 2) / B + k = ap (λ (x : ℕ). x / B) same ∙ add-mul-div_right (n + B - 2) k pos in
      omega (arith, met_some B (k * B + (B - 1)) n h)

  -- up to a block from the start of a file
  pub met-first : (n : ℕ) → 1 ≤ n → n ≤ B → blocks_met B 0 n ≡ 1
  met-first n h l =
      let low : (0 + n - 1) / B < 1 = (div-lt_iff_lt-mul {k = B} {x = 0 + n - 1} {y = 1} pos).1 (omega arith) in
      omega (arith, met_some B 0 n h)

-- ---- the blocks
holds-means : (B : ℕ) (at : ℕ → ℕ) (o c b : ℕ) → T (holds_part B at o c b) ↔ ((p : ℕ) × (o ≤ p) × (p < o + c) × (at p / B ≡ b))
unfolding holds_part
holds-means B at o c b = (
  (λ t.
      let l : least f c < c = ltb→lt (least f c) c t in
      (o + least f c, omega arith, omega arith, eqb→eq _ _ (least-hit f c l))),
  λ w.
      let e : o + (w.0 - o) ≡ w.0 = omega (arith, w.1) in
      let hit : T (f (w.0 - o)) = eqb_of (ap (λ (x : ℕ). at x / B) e ∙ w.3) in
      by-test (ltb (least f c) c) (λ t. t)
      (λ t. absurd (T_not (f (w.0 - o)) (least-none f c (nltb→le (least f c) c t) (w.0 - o) (omega (arith, w.1, w.2))) hit)),
)
  where
    f : ℕ → Bool
    f = λ i. eqb (at (o + i) / B) b

-- positions in the blocks f 0, f 1, ..: these from that of o on, as many as are met, hold one of them
module _ (B : ℕ) (pos : 0 < B) (at f : ℕ → ℕ) (lies : (p : ℕ) → at p / B ≡ f (p / B)) (o c : ℕ) where
  holds_at : (b : ℕ) → T (holds_part B at o c b) ↔ ((k : ℕ) × (k < blocks_met B o c) × (f (o / B + k) ≡ b))
  holds_at b = (
    (λ t.
        let w = (holds-means B at o c b).0 t in
        let i = within B pos o c w.0 w.1 w.2 in
        let e : o / B + (w.0 / B - o / B) ≡ w.0 / B = omega (arith, i.0) in
        (w.0 / B - o / B, omega (arith, i.0, i.1), ap f e ∙ sym (lies w.0) ∙ w.3)),
    λ k.
        let w = held B pos o c (o / B + k.0) (omega arith) (omega (arith, k.1)) in
        (holds-means B at o c b).1 (w.0, w.1, w.2, lies w.0 ∙ ap f w.3 ∙ k.2),
  )

  -- the last of them is that of a position before o + c
  met-below : (n : ℕ) → ((p : ℕ) → p < o + c → p / B < n) → (k : ℕ) → k < blocks_met B o c → o / B + k < n
  met-below n low k l =
      let w = held B pos o c (o / B + k) (omega arith) (omega arith) in omega (arith, low w.0 w.2, w.3)

-- of n blocks one after another
counts : (B : ℕ) → 0 < B → (o c n : ℕ) → o + c ≤ n * B → count (holds_part B (λ p. p) o c) n ≡ blocks_met B o c
counts B pos o c n h =
    count-image (λ k. o / B + k) (blocks_met B o c) n
    (met-below B pos (λ p. p) (λ k. k) (λ p. refl) o c n (λ p l. (div-lt_iff_lt-mul {k = B} {x = p} {y = n} pos).1 (omega arith)))
    (λ j k l i e. omega arith)
    (holds_part B (λ p. p) o c)
    (λ b l. holds_at B pos (λ p. p) (λ k. k) (λ p. refl) o c b)

pub blocks-met-law : BlocksMetLaws
blocks-met-law = record {
  holds = holds-means;
  counts = counts;
  none = met-zero;
  most-512 = λ o n h. let z : blocks_met 512 o n ≤ (n + 512 - 2) / 512 + 1 = bound 512 (omega arith) o n h in omega arith;
  most = bound;
  reached = exact;
}

-- of a file
module _ (B : ℕ) (pos : 0 < B) (v : View) (ok : Sound B v) (s o c : ℕ) (f : File B v s) (fits : o + c ≤ size v s) where
  abbrev met : ℕ
  met = blocks_met B o c

  -- no other owns a block that the file lists
  pub once : (j k : ℕ) → j < need B (size v s) → k < need B (size v s) → number v s j ≡ number v s k → j ≡ k
  once j k l h e =
      let same : content_of s j ≡ content_of s k = ok.once (number v s k) (content_of s j) (content_of s k) (f, l, e) (f, h, refl) in cc

  in-number : (p : ℕ) → place B v s p / B ≡ number v s (p / B)
  unfolding place
  in-number p = digits_div (number v s (p / B)) (in_block B pos p)

  -- the blocks met are listed
  pub listed : (k : ℕ) → k < met → o / B + k < need B (size v s)
  listed = met-below B pos (place B v s) (number v s) in-number o c (need B (size v s)) (λ p l. in-need B pos p (size v s) (omega arith))

  holds : (b : ℕ) → T (holds_part B (place B v s) o c b) ↔ ((k : ℕ) × (k < met) × (number v s (o / B + k) ≡ b))
  holds = holds_at B pos (place B v s) (number v s) in-number o c

  pub meets : Meets B v s o c (blocks_met B o c)
  meets = record {
    distinct =
        count-image (λ k. number v s (o / B + k)) met v.n
        (λ k l. (ok.inside s (o / B + k) f (listed k l)).high)
        (λ j k l h e. let same : o / B + j ≡ o / B + k = once (o / B + j) (o / B + k) (listed j l) (listed k h) e in omega arith)
        (holds_part B (place B v s) o c)
        (λ b l. holds b);
    listed =
        count-image (λ k. o / B + k) met (need B (size v s))
        listed
        (λ j k l h e. omega arith)
        (λ k. holds_part B (place B v s) o c (number v s k))
        (λ k l. (
          (λ t. let j = (holds (number v s k)).0 t in (j.0, j.1, once (o / B + j.0) k (listed j.0 j.1) l j.2)),
          λ j. (holds (number v s k)).1 (j.0, j.1, ap (number v s) j.2),
        ));
  }

  -- the i-th of them, from 0, is the file's block o / B + i
  pub nth-met : (i : ℕ) → i < met → Nth (λ k. holds_part B (place B v s) o c (number v s k)) i (o / B + i)
  nth-met i h = record {
    holds = (holds (number v s (o / B + i))).1 (i, h, refl);
    before =
        count-image (λ k. o / B + k) i (o / B + i)
        (λ k l. omega arith)
        (λ j k l m e. omega arith)
        (λ k. holds_part B (place B v s) o c (number v s k))
        (λ b l. (
          (λ t.
              let j = (holds (number v s b)).0 t in
              let same : o / B + j.0 ≡ b = once (o / B + j.0) b (listed j.0 j.1) (omega (arith, listed i h)) j.2 in
              (j.0, omega arith, same)),
          λ k. (holds (number v s b)).1 (k.0, omega (arith, k.1), ap (number v s) k.2),
        ));
  }
