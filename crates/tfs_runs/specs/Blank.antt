-- Whole blocks made zero one after another, neighbours at once.
use Rattle.std.specs.Prelude.{◌≡◌, refl, length, take, drop, replicate}
use Rattle.std.proofs.Math.Path.{sym, ap}
use Rattle.std.proofs.Common.{◌∙◌, add-zero, add-one, length-take, length-drop, length-append, take-append-drop, take-suc}
use Prim.Native.Nat.{ℕ, zero, suc, ◌+◌, ◌*◌, ◌≤◌, ◌<◌}
use mathlib.Core.List.{List, [], ◌∷◌, ◌++◌}
use Rattle.std.proofs.Math.Nat.{zero-mul, suc-mul, add-mul}
use native.Mathlib.Omega.{arith}
use Rattle.std.proofs.Math.ListN.{get_or}
use Rattle.std.proofs.lemmas.List.{length-replicate, replicate-append-replicate}
use Rattle.lists.specs.Lists.{zeros, with_part, store_bytes}
use Rattle.list_laws.specs.Part.{length-with}
use Rattle.list_laws.specs.Store.{store-join}
use Rattle.tfs_spec.specs.Layout.{set_block}
use Rattle.tfs_spec.specs.Requests.{Store, store, store_all, zero_stores}
use Rattle.tfs_facts.specs.Stores.{store_all-append}
use Rattle.tfs_runs.specs.Place.{Counts}
use Rattle.tfs_runs.specs.Write.{store-run}

pub zero-append : (B : ℕ) (xs ys : List ℕ) → zero_stores B (xs ++ ys) ≡ zero_stores B xs ++ zero_stores B ys
zero-append B [] ys = refl
zero-append B (x ∷ xs) ys = ap (λ (l : List Store). store x (zeros B) ∷ l) (zero-append B xs ys)

-- every block lies inside an image of len bytes
abbrev pub AllInside : List ℕ → ℕ → Type 0
AllInside bs len = (i : ℕ) → i < length bs → get_or bs i 0 * 512 + 512 ≤ len

-- ---- neighbouring blocks
-- n listed blocks, from place i of the list on, stand one after another
abbrev pub Neighbours : List ℕ → ℕ → ℕ → Type 0
Neighbours bs i n = Counts (λ k. get_or bs k 0) i n

-- two parts put, one behind the other, are one
part_join : (img p q : List ℕ) (s : ℕ) → s + length p + length q ≤ length img → with_part (s + length p) (length q) q (with_part s (length p) p img) ≡ with_part s (length (p ++ q)) (p ++ q) img
part_join img p q s h =
    let one = store-run (λ x. x) p img s s (λ i l. refl) (omega arith) in
    let long : length (store_bytes (λ x. x) img s p) ≡ length img = ap length one ∙ length-with s (length p) p img refl (omega arith) in
    let two = store-run (λ x. x) q (store_bytes (λ x. x) img s p) (s + length p) (s + length p) (λ i l. refl) (omega (arith, long)) in
    ap (with_part (s + length p) (length q) q) (sym one)
    ∙ sym two
    ∙ store-join (λ x. x) p q img s
    ∙ store-run (λ x. x) (p ++ q) img s s (λ i l. refl) (simp length-append (omega arith))

-- the same of zeros
zeros-join : (img : List ℕ) (s m n : ℕ) → s + m + n ≤ length img → with_part (s + m) n (zeros n) (with_part s m (zeros m) img) ≡ with_part s (m + n) (zeros (m + n)) img
zeros-join img s m n h =
    let a : length (zeros m) ≡ m = length-replicate {A = ℕ} m 0 in
    let b : length (zeros n) ≡ n = length-replicate {A = ℕ} n 0 in
    let c : zeros m ++ zeros n ≡ zeros (m + n) = replicate-append-replicate m n 0 in
    rw (a, b, c, length-replicate {A = ℕ} (m + n) 0) at (part_join img (zeros m) (zeros n) s (omega (arith, a, b)))

-- a part made zero
pub zero-put : (img last : List ℕ) (s n m : ℕ) → m ≡ n → s + n ≤ length img → last ≡ replicate (length (take m (drop s img))) 0 → take s img ++ (last ++ drop m (drop s img)) ≡ with_part s n (zeros n) img
unfolding with_part
zero-put img last s n m e h t =
    let long : length (take m (drop s img)) ≡ n = simp (length-take, length-drop) (omega arith) in
    rw (t, long, e)

-- one more block
zero_more : (B : ℕ) (img bs : List ℕ) (i : ℕ) → i < length bs → store_all B img (zero_stores B (take (i + 1) bs)) ≡ set_block B (store_all B img (zero_stores B (take i bs))) (get_or bs i 0) (zeros B)
zero_more B img bs i h = rw (add-one, take-suc bs i 0 h, zero-append, store_all-append)

nothing : (img : List ℕ) (s : ℕ) → with_part s 0 (zeros 0) img ≡ img
unfolding with_part
nothing img s = take-append-drop s img

-- neighbours made zero are one part made zero
module _ (B : ℕ) (img bs : List ℕ) (i : ℕ) where
  abbrev so_far : ℕ → List ℕ
  so_far k = store_all B img (zero_stores B (take k bs))

  pub zero-span : (n : ℕ) → Neighbours bs i n → i + n ≤ length bs → (get_or bs i 0 + n) * B ≤ length (so_far i) → so_far (i + n) ≡ with_part (get_or bs i 0 * B) (n * B) (zeros (n * B)) (so_far i)
  unfolding set_block
  zero-span zero h l k = let z : 0 * B ≡ 0 = zero-mul B in rw z (ap so_far (add-zero i) ∙ sym (nothing (so_far i) (get_or bs i 0 * B)))
  zero-span (suc n) h l k =
      let b : ℕ = get_or bs i 0 in
      let place : get_or bs (i + n) 0 * B ≡ b * B + n * B = ap (λ (x : ℕ). x * B) (h n (omega arith)) ∙ add-mul b n B in
      let more : suc n * B ≡ n * B + B = suc-mul n B in
      let all : (b + suc n) * B ≡ b * B + (n * B + B) = add-mul b (suc n) B ∙ ap (λ (x : ℕ). b * B + x) more in
      let rest = zero-span n (λ j m. h j (omega arith)) (omega arith) (omega (arith, add-mul b n B)) in
      let index : i + suc n ≡ i + n + 1 = omega arith in
      ap so_far index
      ∙ zero_more B img bs (i + n) (omega arith)
      ∙ ap (λ (m : List ℕ). with_part (get_or bs (i + n) 0 * B) B (zeros B) m) rest
      ∙ ap (λ (x : ℕ). with_part x B (zeros B) (with_part (b * B) (n * B) (zeros (n * B)) (so_far i))) place
      ∙ zeros-join (so_far i) (b * B) (n * B) B (omega arith)
      ∙ ap (λ (x : ℕ). with_part (b * B) x (zeros x) (so_far i)) (sym more)

pub zero_turn : (B : ℕ) (img bs old last : List ℕ) (i n b : ℕ) → i + n ≤ length bs → Neighbours bs i n → (b + n) * B ≤ length old → old ≡ store_all B img (zero_stores B (take i bs)) → b ≡ get_or bs i 0 → last ≡ with_part (b * B) (n * B) (zeros (n * B)) old → last ≡ store_all B img (zero_stores B (take (i + n) bs))
zero_turn B img bs old last i n b h near k e f t = rw (t, e, f) (sym (zero-span B img bs i n near h (rw (e, f) at k)))
