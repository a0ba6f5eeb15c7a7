-- Blocks 0 to 2, inodes, content blocks and free blocks add up to N.
use Rattle.std.specs.Prelude.{◌≡◌, refl, ◌⊎◌, Bool, true, false, not, List, [], ◌∷◌, length, T, ltb, eqb}
use Rattle.std.proofs.Common.{ap₂, ◌∙◌, inl, inr, ⊎_elim, le-div_iff_mul-le, arith, length-append, ltb→lt, nltb→le}
use Rattle.std.proofs.Math.Bool.{cond}
use Prim.Native.Nat.{ℕ, zero, suc, ◌+◌, ◌*◌, ◌≤◌, ◌<◌, min}
use Rattle.std.proofs.Math.Decide.{dec_le}
use Rattle.std.proofs.Math.Dec.{not_T}
use Rattle.list_laws.specs.Test.{by-test, cond_yes, cond_no, yes-yes}
use Rattle.lists.specs.Lists.{sum, table}
use Rattle.list_laws.specs.Sum.{sum-cong, sum-zero, sum_ones, sum-add, sum-delta, one-yes}
use Rattle.list_laws.specs.Table.{length-table}
use Rattle.tfs_spec.specs.Layout.{BlockSize, slots, need, blocks, map_bit, View, view_n, view, free, inode, size, number, free_blocks}
use Rattle.tfs_spec.specs.Check.{file_claims, claims_to, claims, times}
use Rattle.tfs_spec.specs.Consistent.{Inside, Sound, Consistent}
use Rattle.tfs_spec.specs.Effects.{inode_count, content_count}
use Rattle.tfs_facts.specs.Claims.{claimed-owned, owned-claimed, twice-owners}
use Rattle.tfs_facts.specs.CheckMeans.{owns-inside}

-- ---- the claims, counted by block and by file
sum-times : (xs : List ℕ) (n : ℕ) → ((x : ℕ) → 1 ≤ times x xs → x < n) → sum (λ b. times b xs) n ≡ length xs
sum-times [] n h = sum-zero n
sum-times (x ∷ xs) n h =
    sum-add (λ b. cond (eqb x b) 1 0) (λ b. times b xs) n
    ∙ ap₂ ◌+◌ (sum-delta x n (h x (omega (arith, one-yes x x refl)))) (sum-times xs n (λ y l. h y (omega arith)))
    ∙ omega arith

length-file : (B : ℕ) (v : View) (s : ℕ) → length (file_claims B v s) ≡ cond (free v s) 0 1 + cond (free v s) 0 (need B (size v s))
unfolding file_claims
length-file B v s = go (free v s)
  where
    go : (b : Bool) → length (cond b [] (inode v s ∷ table (number v s) 0 (need B (size v s)))) ≡ cond b 0 1 + cond b 0 (need B (size v s))
    go true = refl
    go false = omega (arith, length-table (number v s) 0 (need B (size v s)))

length-claims : (B : ℕ) (v : View) (s : ℕ) → length (claims_to B v s) ≡ sum (λ t. cond (free v t) 0 1) s + sum (λ t. cond (free v t) 0 (need B (size v t))) s
unfolding claims_to sum
length-claims B v zero = refl
length-claims B v (suc s) = length-append (claims_to B v s) (file_claims B v s) ∙ omega (arith, length-claims B v s, length-file B v s)

-- ---- each block below N is one of 0 to 2, or claimed once, or free
each-core : (m : Bool) (b c : ℕ) → (T m → (b < 3) ⊎ (1 ≤ c)) → ((b < 3) ⊎ (1 ≤ c) → T m) → c ≤ 1 → (1 ≤ c → 3 ≤ b) → cond (ltb b 3) 1 0 + c + cond (not m) 1 0 ≡ 1
each-core m b c f g h z =
    by-test (ltb b 3)
    (λ t.
    let l : b < 3 = ltb→lt b 3 t in
    elim (dec_le 1 c) [
      | yes k ↦ absurd (omega (arith, z k))
      | no k ↦ omega (arith, cond_yes {X = ℕ} (ltb b 3) 1 0 t, marked (inl l))
    ])
    (λ t.
    let l : 3 ≤ b = nltb→le b 3 t in
    elim (dec_le 1 c) [
      | yes k ↦ omega (arith, cond_no {X = ℕ} (ltb b 3) 1 0 t, marked (inr k))
      | no k ↦ omega (arith, cond_no {X = ℕ} (ltb b 3) 1 0 t, cond_yes {X = ℕ} (not m) 1 0 (not_T m (λ u. ⊎_elim (λ x. omega arith) (λ x. omega arith) (f u))))
    ])
  where
    marked : (b < 3) ⊎ (1 ≤ c) → cond {A = ℕ} (not m) 1 0 ≡ 0
    marked w = cond_no {X = ℕ} (not m) 1 0 (yes-yes m (g w))

-- blocks 0 to 2
sum_low : (n : ℕ) → sum (λ b. cond (ltb b 3) 1 0) n ≡ min n 3
unfolding sum
sum_low zero = refl
sum_low (suc n) =
    by-test (ltb n 3)
    (λ t. omega (arith, sum_low n, cond_yes {X = ℕ} (ltb n 3) 1 0 t, ltb→lt n 3 t))
    (λ t. omega (arith, sum_low n, cond_no {X = ℕ} (ltb n 3) 1 0 t, nltb→le n 3 t))

module _ (B : ℕ) (v : View) (ok : Sound B v) where
  pub claim-inside : (b : ℕ) → 1 ≤ times b (claims B v) → Inside v b
  claim-inside b h = let o = claimed-owned B v b h in owns-inside B v ok o.0 b o.1

  pub claim-once : (b : ℕ) → times b (claims B v) ≤ 1
  claim-once b =
      elim (dec_le 2 (times b (claims B v))) [
        | yes h ↦ (let r = twice-owners B v b h in absurd (r.2 (ok.once b r.0 r.1 r.3 r.4)))
        | no h ↦ omega arith
      ]

  sum-claims : sum (λ b. times b (claims B v)) v.n ≡ inode_count B v + content_count B v
  unfolding claims
  sum-claims = sum-times (claims B v) v.n (λ x h. (claim-inside x h).high) ∙ length-claims B v (slots B)

  each : (b : ℕ) → b < v.n → cond (ltb b 3) 1 0 + times b (claims B v) + cond (not (map_bit v.map b)) 1 0 ≡ 1
  each b l =
      each-core (map_bit v.map b) b (times b (claims B v))
      (λ t. ⊎_elim inl (λ w. inr (owned-claimed B v b w)) ((ok.mapped b l).0 t))
      (λ w. (ok.mapped b l).1 (⊎_elim inl (λ h. inr (claimed-owned B v b h)) w))
      (claim-once b) (λ h. (claim-inside b h).low)

  pub sound-adds-up : 3 ≤ v.n → 3 + inode_count B v + content_count B v + free_blocks v ≡ v.n
  unfolding free_blocks
  sound-adds-up h =
      let low : ℕ → ℕ = λ b. cond (ltb b 3) 1 0 in
      let claimed : ℕ → ℕ = λ b. times b (claims B v) in
      let clear : ℕ → ℕ = λ b. cond (not (map_bit v.map b)) 1 0 in
      let all : sum (λ b. low b + claimed b + clear b) v.n ≡ v.n = sum-cong (λ b. low b + claimed b + clear b) (λ _. 1) v.n each ∙ sum_ones v.n in
      omega (arith, all, sum-add (λ b. low b + claimed b) clear v.n, sum-add low claimed v.n, sum_low v.n, sum-claims)

-- a volume that is not too short has blocks 0 to 2
pub three-blocks : (B : ℕ) → BlockSize B → (img : List ℕ) → 3 * B ≤ length img → 3 ≤ (view B img).n
unfolding view view_n blocks
three-blocks B sz img h = omega (arith, sz.large, (le-div_iff_mul-le {k = B} {x = 3} {y = length img} (omega (arith, sz.large))).1 h)

-- "Blocks 0 to 2, inodes, content blocks and free blocks add up to N"
pub adds-up : (B : ℕ) → BlockSize B → (img : List ℕ) → Consistent B img → 3 + inode_count B (view B img) + content_count B (view B img) + free_blocks (view B img) ≡ (view B img).n
adds-up B sz img c = sound-adds-up B (view B img) c.sound (three-blocks B sz img c.long)
