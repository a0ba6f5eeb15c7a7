-- Claims and owners: a block is claimed as often as it has owners.
use Rattle.std.specs.Prelude.{◌≡◌, refl, ◌⊎◌, ◌≢◌, Bool, true, false, not, cond, ℕ, zero, suc, ◌+◌, ◌≤◌, ◌<◌, T, eqb}
use Rattle.std.proofs.Common.{sym, ap₂, ◌∙◌, subst, inl, inr, ⊎_elim, zero-add, arith, eqb→eq}
use Rattle.std.proofs.Math.Path.{ap}
use mathlib.Core.List.{List, [], ◌∷◌, ◌++◌}
use Rattle.std.proofs.Math.Decide.{dec_le, dec_lt, ℕ_discrete}
use Rattle.list_laws.specs.Test.{by-test, cond_yes, cond_no, eqb_of}
use Rattle.lists.specs.Lists.{sum, count, table}
use Rattle.list_laws.specs.Sum.{sum_one, sum-two, count-one, count-two, one-yes}
use Rattle.list_laws.specs.Table.{table_more}
use Rattle.tfs_spec.specs.Layout.{slots, need, View, free, inode, size, number}
use Rattle.tfs_spec.specs.Check.{file_claims, claims_to, claims, times}
use Rattle.tfs_spec.specs.Consistent.{File, Owner, inode_of, content_of, Owns, Owned}

-- ---- sums: two different terms, and terms that are not 0
pub sum-apart : (f : ℕ → ℕ) (n i j : ℕ) → i ≢ j → i < n → j < n → f i + f j ≤ sum f n
sum-apart f n i j d h k =
    elim (dec_lt i j) [
      | yes l ↦ sum-two f n i j l k
      | no l ↦ omega (arith, sum-two f n j i (omega arith) h)
    ]

pub count-apart : (f : ℕ → Bool) (n i j : ℕ) → i ≢ j → i < n → j < n → T (f i) → T (f j) → 2 ≤ count f n
count-apart f n i j d h k t u =
    elim (dec_lt i j) [ yes l ↦ count-two f n i j l k t u | no l ↦ count-two f n j i (omega arith) h u t ]

pub sum-some : (f : ℕ → ℕ) (n : ℕ) → 1 ≤ sum f n → (i : ℕ) × (i < n) × (1 ≤ f i)
unfolding sum
sum-some f zero h = absurd (omega arith)
sum-some f (suc n) h =
    elim (dec_le 1 (f n)) [
      | yes l ↦ (n, omega arith, l)
      | no l ↦ let r = sum-some f n (omega arith) in (r.0, omega (arith, r.1), r.2)
    ]

-- a sum over 1 has a term over 1, or two terms that are not 0
pub sum_more : (f : ℕ → ℕ) (n : ℕ) → 2 ≤ sum f n → ((i : ℕ) × (i < n) × (2 ≤ f i)) ⊎ ((i : ℕ) × (j : ℕ) × (i < j) × (j < n) × (1 ≤ f i) × (1 ≤ f j))
unfolding sum
sum_more f zero h = absurd (omega arith)
sum_more f (suc n) h =
    elim (dec_le 2 (sum f n)) [
      | yes l ↦
          ⊎_elim (λ r. inl (r.0, omega (arith, r.1), r.2))
          (λ r. inr (r.0, r.1, r.2, omega (arith, r.3), r.4, r.5))
          (sum_more f n l)
      | no l ↦
          elim (dec_le 2 (f n)) [
            | yes k ↦ inl (n, omega arith, k)
            | no k ↦ let r = sum-some f n (omega arith) in inr (r.0, n, r.1, omega arith, r.2, omega arith)
          ]
    ]

ticked : (b : Bool) → 1 ≤ cond {A = ℕ} b 1 0 → T b
ticked true h = tt
ticked false h = absurd (omega arith)

tick-small : (b : Bool) → cond {A = ℕ} b 1 0 ≤ 1
tick-small true = omega arith
tick-small false = omega arith

pub count-some : (f : ℕ → Bool) (n : ℕ) → 1 ≤ count f n → (i : ℕ) × (i < n) × T (f i)
count-some f n h = let r = sum-some (λ i. cond (f i) 1 0) n h in (r.0, r.1, ticked (f r.0) r.2)

pub count-more : (f : ℕ → Bool) (n : ℕ) → 2 ≤ count f n → (i : ℕ) × (j : ℕ) × (i < j) × (j < n) × T (f i) × T (f j)
count-more f n h =
    ⊎_elim (λ r. absurd (omega (arith, r.2, tick-small (f r.0))))
    (λ r. (r.0, r.1, r.2, r.3, ticked (f r.0) r.4, ticked (f r.1) r.5))
    (sum_more (λ i. cond (f i) 1 0) n h)

-- ---- how often a block is claimed, as sums
pub times-append : (b : ℕ) (xs ys : List ℕ) → times b (xs ++ ys) ≡ times b xs + times b ys
times-append b [] ys = omega arith
times-append b (x ∷ xs) ys = rw (times-append b xs ys) (omega arith)

pub times-table : (b : ℕ) (f : ℕ → ℕ) (d : ℕ) → times b (table f 0 d) ≡ count (λ k. eqb (f k) b) d
unfolding sum
times-table b f zero = refl
times-table b f (suc d) =
    ap (times b) (table_more f 0 d) ∙ times-append b (table f 0 d) (f (0 + d) ∷ []) ∙ rw (times-table b f d, zero-add) (omega arith)

pub times-claims_to : (B : ℕ) (v : View) (b s : ℕ) → times b (claims_to B v s) ≡ sum (λ t. times b (file_claims B v t)) s
unfolding sum claims_to
times-claims_to B v b zero = refl
times-claims_to B v b (suc s) = times-append b (claims_to B v s) (file_claims B v s) ∙ rw (times-claims_to B v b s)

pub times-claims : (B : ℕ) (v : View) (b : ℕ) → times b (claims B v) ≡ sum (λ s. times b (file_claims B v s)) (slots B)
unfolding claims
times-claims B v b = times-claims_to B v b (slots B)

module _ (B : ℕ) (v : View) (b s : ℕ) where
  pub times-free : T (free v s) → times b (file_claims B v s) ≡ 0
  unfolding file_claims
  times-free t = ap (times b) (cond_yes (free v s) [] _ t)

  pub times-file : T (not (free v s)) → times b (file_claims B v s) ≡ cond (eqb (inode v s) b) 1 0 + count (λ k. eqb (number v s k) b) (need B (size v s))
  unfolding file_claims
  times-file t = ap (times b) (cond_no (free v s) [] _ t) ∙ rw (times-table b (number v s) (need B (size v s)))

  pub times-taken : 1 ≤ times b (file_claims B v s) → T (not (free v s))
  times-taken h = by-test (free v s) (λ t. absurd (omega (arith, times-free t))) (λ t. t)

-- ---- owners
-- the slot of an owner
abbrev pub slot_in : Owner → ℕ
slot_in (inode_of s) = s
slot_in (content_of s k) = s

pub owns-file : (B : ℕ) (v : View) (b : ℕ) (o : Owner) → Owns B v o b → File B v (slot_in o)
owns-file B v b (inode_of s) h = h.0
owns-file B v b (content_of s k) h = h.0

-- an owner's file claims the block
pub owns-claims : (B : ℕ) (v : View) (b : ℕ) (o : Owner) → Owns B v o b → 1 ≤ times b (file_claims B v (slot_in o))
owns-claims B v b (inode_of s) h = omega (arith, times-file B v b s h.0.taken, one-yes (inode v s) b h.1)
owns-claims B v b (content_of s k) h =
    omega (arith, times-file B v b s h.0.taken, count-one (λ j. eqb (number v s j) b) (need B (size v s)) k h.1 (eqb_of h.2))

-- two owners in one file: it claims the block twice
inode-content : (B : ℕ) (v : View) (b s k : ℕ) → Owns B v (inode_of s) b → Owns B v (content_of s k) b → 2 ≤ times b (file_claims B v s)
inode-content B v b s k h g =
    omega (arith, times-file B v b s h.0.taken, one-yes (inode v s) b h.1, count-one (λ j. eqb (number v s j) b) (need B (size v s)) k g.1 (eqb_of g.2))

content-content : (B : ℕ) (v : View) (b s j k : ℕ) → j ≢ k → Owns B v (content_of s j) b → Owns B v (content_of s k) b → 2 ≤ times b (file_claims B v s)
content-content B v b s j k d h g =
    omega (arith, times-file B v b s h.0.taken, count-apart (λ i. eqb (number v s i) b) (need B (size v s)) j k d h.1 g.1 (eqb_of h.2) (eqb_of g.2))

one-file : (B : ℕ) (v : View) (b : ℕ) (o p : Owner) → slot_in o ≡ slot_in p → o ≢ p → Owns B v o b → Owns B v p b → 2 ≤ times b (file_claims B v (slot_in o))
one-file B v b (inode_of s) (inode_of t) e d h g = absurd (d (ap inode_of e))
one-file B v b (inode_of s) (content_of t k) e d h g = inode-content B v b s k h (subst (λ (x : ℕ). Owns B v (content_of x k) b) (sym e) g)
one-file B v b (content_of s k) (inode_of t) e d h g = inode-content B v b s k (subst (λ (x : ℕ). Owns B v (inode_of x) b) (sym e) g) h
one-file B v b (content_of s j) (content_of t k) e d h g =
    content-content B v b s j k (λ i. d (ap₂ content_of e i)) h (subst (λ (x : ℕ). Owns B v (content_of x k) b) (sym e) g)

module _ (B : ℕ) (v : View) (b : ℕ) where
  -- an owned block is claimed
  pub owned-claimed : Owned B v b → 1 ≤ times b (claims B v)
  owned-claimed w =
      omega (arith, times-claims B v b, owns-claims B v b w.0 w.1, sum_one (λ s. times b (file_claims B v s)) (slots B) (slot_in w.0) (owns-file B v b w.0 w.1).slot)

  -- a block with two owners is claimed twice
  pub owners-twice : (o p : Owner) → o ≢ p → Owns B v o b → Owns B v p b → 2 ≤ times b (claims B v)
  owners-twice o p d h g =
      let f : ℕ → ℕ = λ s. times b (file_claims B v s) in
      elim (ℕ_discrete (slot_in o) (slot_in p)) [
        | yes e ↦ omega (arith, times-claims B v b, one-file B v b o p e d h g, sum_one f (slots B) (slot_in o) (owns-file B v b o h).slot)
        | no e ↦
            omega (arith, times-claims B v b, owns-claims B v b o h, owns-claims B v b p g, sum-apart f (slots B) (slot_in o) (slot_in p) e (owns-file B v b o h).slot (owns-file B v b p g).slot)
      ]

  -- the file in slot s, where it claims b
  file-in : (s : ℕ) → s < slots B → 1 ≤ times b (file_claims B v s) → File B v s
  file-in s l h = record { slot = l; taken = times-taken B v b s h }

  -- a claim in slot s has an owner there, two claims have two
  claim-owner : (s : ℕ) → File B v s → 1 ≤ times b (file_claims B v s) → (o : Owner) × (slot_in o ≡ s) × Owns B v o b
  claim-owner s w h =
      by-test (eqb (inode v s) b)
      (λ t. (inode_of s, refl, (w, eqb→eq (inode v s) b t)))
      (λ t.
      let r = count-some (λ k. eqb (number v s k) b) (need B (size v s)) (omega (arith, times-file B v b s w.taken, cond_no {X = ℕ} (eqb (inode v s) b) 1 0 t)) in
      (content_of s r.0, refl, (w, r.1, eqb→eq (number v s r.0) b r.2)))

  claim-owners : (s : ℕ) → File B v s → 2 ≤ times b (file_claims B v s) → (o : Owner) × (p : Owner) × (o ≢ p) × Owns B v o b × Owns B v p b
  claim-owners s w h =
      by-test (eqb (inode v s) b)
      (λ t.
      let r = count-some (λ k. eqb (number v s k) b) (need B (size v s)) (omega (arith, times-file B v b s w.taken, cond_yes {X = ℕ} (eqb (inode v s) b) 1 0 t)) in
      (inode_of s, content_of s r.0, (λ e. let z : ◌≡◌ {A = ℕ} 0 1 = cc in omega arith), (w, eqb→eq (inode v s) b t), (w, r.1, eqb→eq (number v s r.0) b r.2)))
      (λ t.
      let r = count-more (λ k. eqb (number v s k) b) (need B (size v s)) (omega (arith, times-file B v b s w.taken, cond_no {X = ℕ} (eqb (inode v s) b) 1 0 t)) in
      (content_of s r.0, content_of s r.1, (λ e. let z : r.0 ≡ r.1 = cc in omega (arith, r.2)), (w, omega (arith, r.2, r.3), eqb→eq (number v s r.0) b r.4), (w, r.3, eqb→eq (number v s r.1) b r.5)))

  -- a claimed block is owned
  pub claimed-owned : 1 ≤ times b (claims B v) → Owned B v b
  claimed-owned h =
      let r = sum-some (λ s. times b (file_claims B v s)) (slots B) (omega (arith, times-claims B v b)) in
      let o = claim-owner r.0 (file-in r.0 r.1 r.2) r.2 in
      (o.0, o.2)

  -- a block that is claimed twice has two owners
  pub twice-owners : 2 ≤ times b (claims B v) → (o : Owner) × (p : Owner) × (o ≢ p) × Owns B v o b × Owns B v p b
  twice-owners h =
      ⊎_elim (λ r. claim-owners r.0 (file-in r.0 r.1 (omega (arith, r.2))) r.2)
      (λ r.
      let o = claim-owner r.0 (file-in r.0 (omega (arith, r.2, r.3)) r.4) r.4 in
      let p = claim-owner r.1 (file-in r.1 r.3 r.5) r.5 in
      (o.0, p.0, (λ e. omega (arith, r.2, o.1, p.1, ap slot_in e)), o.2, p.2))
      (sum_more (λ s. times b (file_claims B v s)) (slots B) (omega (arith, times-claims B v b)))
