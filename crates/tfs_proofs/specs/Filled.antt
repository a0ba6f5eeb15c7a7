-- A write of up to a block into a file just created has one store: its bytes, and zeros behind them.
use Rattle.std.specs.Prelude.{◌≡◌, refl, ℕ, ◌+◌, ◌-◌, ◌*◌, ◌/◌, ◌≤◌, ◌<◌, min, List, [], ◌∷◌, ◌++◌, length, get_or, T}
use Rattle.std.proofs.Common.{sym, ◌∙◌, arith, zero-mul, take_all, drop_at}
use Rattle.std.proofs.Math.Path.{ap}
use Rattle.std.proofs.Math.Nat.{zero-div}
use Rattle.std.proofs.lemmas.List.{length-replicate, replicate-append-replicate}
use Rattle.lists.specs.Lists.{zeros, part, with_part}
use Rattle.tfs_spec.specs.Layout.{BlockSize, need, block, View, view, size, number, free_slot}
use Rattle.tfs_spec.specs.Consistent.{Consistent}
use Rattle.tfs_spec.specs.Requests.{granted, Store, store, store_all, chosen, create_stores, create, counted, blocks_met, creates, writes, write_stores, stores_of, kth}
use Rattle.tfs_facts.specs.CheckMeans.{check-means}
use Rattle.tfs_facts.specs.Chosen.{CreateGrant, choice}
use Rattle.tfs_facts.specs.Fetched.{place-content, overlaid, length-write, write_store}
use Rattle.tfs_facts.specs.Sizes.{in-need}
use Rattle.tfs_proofs.specs.Meets.{met-first}
use Rattle.tfs_proofs.specs.Creates as made
use Rattle.tfs_proofs.specs.Changes.{Passed, create-granted, create-image}
use Rattle.tfs_proofs.specs.CreateRemove.{at_slot}

one_store : (xs : List Store) → length xs ≡ 1 → xs ≡ kth 1 xs ∷ []
one_store [] e = absurd (omega arith)
one_store (x ∷ []) e = refl
one_store (x ∷ y ∷ xs) e = absurd (omega arith)

-- bytes laid over the start of a block of zeros
over_zeros : (B : ℕ) (bs : List ℕ) → length bs ≤ B → overlaid B 0 0 bs (zeros B) ≡ bs ++ zeros (B - length bs)
unfolding overlaid with_part part
over_zeros B bs h =
    let n : min B (0 + length bs - 0) - 0 ≡ length bs = omega arith in
    let all : length bs + (B - length bs) ≡ B = omega arith in
    let split : zeros B ≡ zeros (length bs) ++ zeros (B - length bs) = ap zeros (sym all) ∙ sym (replicate-append-replicate (length bs) (B - length bs) 0) in
    rw (n, take_all (length bs) bs (omega arith), split, drop_at (zeros (length bs)) (zeros (B - length bs)) (length bs) (length-replicate (length bs) 0))

module _ (B : ℕ) (sz : BlockSize B) (img : List ℕ) (ok : Consistent B img) (nm : List ℕ) (z : ℕ) (g : T (granted (create B img nm z).answer)) where
  pos : 0 < B
  pos = omega (arith, sz.large)

  passed : Passed B img
  passed = (check-means B sz img).1 ok

  gr : CreateGrant B (view B img) nm z
  gr = create-granted B img passed nm z g

  abbrev mid : List ℕ
  mid = store_all B img (create_stores B (view B img) nm z)

  ok-mid : Consistent B mid
  ok-mid = made.create-consistent B sz img ok nm z gr

  abbrev v' : View
  v' = view B mid

  abbrev s : ℕ
  s = free_slot B (view B img)

  -- the file's first block, the one that the create stores first
  abbrev b : ℕ
  b = get_or (made.bs B sz img ok nm z gr) 0 0

  pub blank : (k : ℕ) → 1 ≤ k → k ≤ need B z → (kth k (stores_of B img (creates nm z))).bytes ≡ zeros B
  unfolding create_stores
  blank k h l =
      ap (λ (x : Store). x.bytes) (place-content B (view B img) s nm z (chosen B (view B img) z) k h (omega (arith, l, (choice B (view B img) ok.sound z gr.room).length-cs)))

  module _ (some : 1 ≤ z) where
    needed : 0 < need B z
    needed = omega (arith, in-need B pos 0 z (omega arith))

    first_store : kth 1 (stores_of B img (creates nm z)) ≡ store b (zeros B)
    unfolding create_stores
    first_store =
        place-content B (view B img) s nm z (chosen B (view B img) z) 1 (omega arith) (omega (arith, needed, (choice B (view B img) ok.sound z gr.room).length-cs))
        ∙ ap (λ (x : ℕ). store x (zeros B)) (sym (made.at-bs B sz img ok nm z gr 0))

    first-number : number v' s 0 ≡ b
    first-number = made.new-at B sz img ok nm z gr 0 needed

    first-zero : block B mid b ≡ zeros B
    first-zero = made.new-zero B sz img ok nm z gr 0 (omega (arith, needed, made.length-bs B sz img ok nm z gr))

  module _ (bs : List ℕ) (some : 1 ≤ length bs) (inside : length bs ≤ z) (short : length bs ≤ B) where
    abbrev xs : List Store
    xs = write_stores B v' mid s 0 bs

    count : counted v' s 0 (length bs) ≡ length bs
    unfolding counted
    count = omega (arith, made.new-size B sz img ok nm z gr)

    within : 0 + length bs ≤ size v' s
    within = omega (arith, made.new-size B sz img ok nm z gr)

    met : blocks_met B 0 (length bs) ≡ 1
    met = met-first B pos (length bs) some short

    length-xs : length xs ≡ 1
    length-xs = sym (length-write B pos mid ok-mid.sound s (made.new-file B sz img ok nm z gr) 0 (length bs) bs count within) ∙ met

    xs-store : kth 1 xs ≡ store b (bs ++ zeros (B - length bs))
    xs-store =
        let first : 0 / B + 0 ≡ 0 = omega (arith, zero-div B) in
        let start : 0 * B ≡ 0 = zero-mul B in
        write_store B pos mid ok-mid.sound s (made.new-file B sz img ok nm z gr) 0 (length bs) bs count within 1 (omega arith) (omega (arith, met))
        ∙ rw (first, start, take_all (length bs) bs (omega arith), first-number (omega arith), first-zero (omega arith)) (ap (store b) (over_zeros B bs short))

    pub filled : stores_of B (create B img nm z).image (writes nm 0 bs) ≡ store (kth 1 (stores_of B img (creates nm z))).at (bs ++ zeros (B - length bs)) ∷ []
    filled =
        ap (λ (x : List ℕ). stores_of B x (writes nm 0 bs)) (create-image B img passed nm z g)
        ∙ ap (λ (t : ℕ). write_stores B v' mid t 0 bs) (at_slot B sz img ok nm z g)
        ∙ one_store xs length-xs
        ∙ ap (λ (x : Store). x ∷ []) (xs-store ∙ ap (λ (x : Store). store x.at (bs ++ zeros (B - length bs))) (sym (first_store (omega arith))))
