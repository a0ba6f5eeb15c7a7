-- The stores of a write: the first j of them are a write of the bytes that lie in their blocks.
use Rattle.std.specs.Prelude.{◌≡◌, ◌≢◌, Bool, true, false, not, cond, ◌&&◌, List, [], ◌∷◌, get_or, take, T, ltb, leb, eqb}
use Rattle.std.proofs.Math.Path.{refl, sym, ap}
use Rattle.std.proofs.Common.{◌∙◌, subst, arith, div-lt_iff_lt-mul, get_or-take, eqb→eq, leb→le, ltb→lt, lt→ltb, T_not}
use Prim.Native.Nat.{ℕ, zero, suc, ◌+◌, ◌-◌, ◌*◌, ◌/◌, ◌%◌, ◌≤◌, ◌<◌, min}
use Rattle.std.proofs.Math.Nat.{div-add-mod'}
use Rattle.std.proofs.Math.Decide.{dec_lt, dec_le}
use Rattle.std.proofs.Math.Arith.{digits_div, digits_mod}
use Rattle.std.proofs.Math.ListN.{length, length-take}
use Rattle.lists.specs.Lists.{least, store_bytes}
use Rattle.list_laws.specs.Test.{by-test, iff-eq, eqb_of}
use Rattle.list_laws.specs.Least.{least-hit, least-none}
use Rattle.list_laws.specs.Table.{length-table, get_or-table}
use Rattle.list_laws.specs.Part.{part_ext}
use Rattle.list_laws.specs.Store.{store_other}
use Rattle.tfs_spec.specs.Layout.{need, block, View, view, size, number, place}
use Rattle.tfs_spec.specs.Consistent.{File, Sound}
use Rattle.tfs_spec.specs.Requests.{Store, store, store_all, counted, blocks_met, write_image, write_stores}
use Rattle.tfs_facts.specs.Sizes.{split-block, split-offset, in-need, in_block, in_image}
use Rattle.tfs_facts.specs.Stores.{Fits, length-block}
use Rattle.tfs_facts.specs.Views.{view-n}
use Rattle.tfs_facts.specs.Mends.{same_blocks}
use Rattle.tfs_proofs.specs.Meets.{within, once, listed}
use Rattle.tfs_proofs.specs.Writes.{put, effect, step, length-step, step-byte, step_other}
use Rattle.tfs_proofs.specs.WriteContents as contents
use Rattle.tfs_proofs.specs.WriteLists.{take_min}
use Rattle.tfs_proofs.specs.Places.{files_of, laid}
use Rattle.tfs_proofs.specs.Prefixes.{Apart, nth, fits_all, apart-all, away-all, prefix-new, prefix-away, prefix-long}

-- an element of the first j of a list
nth-take : (j : ℕ) (xs : List Store) (i : ℕ) → i < j → nth (take j xs) i ≡ nth xs i
nth-take zero xs i l = absurd (omega arith)
nth-take (suc j) [] i l = refl
nth-take (suc j) (x ∷ xs) zero l = refl
nth-take (suc j) (x ∷ xs) (suc i) l = nth-take j xs i (omega arith)

length-stores : (j : ℕ) (xs : List Store) → length (take j xs) ≡ min j (length xs)
length-stores zero xs = omega arith
length-stores (suc j) [] = omega arith
length-stores (suc j) (x ∷ xs) = omega (arith, length-stores j xs)

module _ (B : ℕ) (pos : 0 < B) (img : List ℕ) (ok : Sound B (view B img)) (s : ℕ) (f : File B (view B img) s) (o : ℕ) (bs : List ℕ) (reach : o ≤ size (view B img) s) where
  abbrev v : View
  v = view B img

  abbrev c : ℕ
  c = counted v s o (length bs)

  abbrev met : ℕ
  met = blocks_met B o c

  abbrev after : List ℕ
  after = write_image B v img s o bs

  abbrev pub xs : List Store
  xs = write_stores B v img s o bs

  c-is : c ≡ min (length bs) (size v s - o)
  unfolding counted
  c-is = refl

  after_is : after ≡ step (files_of B v) img (put s o bs)
  unfolding write_image counted
  after_is = ap (store_bytes (place B v s) img o) (take_min (size v s - o) bs)

  length-after : length after ≡ length img
  length-after = ap length after_is ∙ length-step (files_of B v) img (put s o bs)

  pub length-xs : length xs ≡ met
  unfolding write_stores
  length-xs = length-table (λ k. store (number v s k) (block B after (number v s k))) (o / B) met

  pub nth-xs : (i : ℕ) → i < met → nth xs i ≡ store (number v s (o / B + i)) (block B after (number v s (o / B + i)))
  unfolding write_stores
  nth-xs i h = get_or-table (λ k. store (number v s k) (block B after (number v s k))) (o / B) met i (store 0 []) h

  fits-c : o + c ≤ size v s
  fits-c = omega (arith, c-is)

  pub met-listed : (i : ℕ) → i < met → o / B + i < need B (size v s)
  met-listed i h = listed B pos v ok s o c f fits-c i h

  same_index : (j k : ℕ) → j < need B (size v s) → k < need B (size v s) → number v s j ≡ number v s k → j ≡ k
  same_index = once B pos v ok s o c f fits-c

  number_in : (k : ℕ) → k < need B (size v s) → number v s k * B + B ≤ length img
  number_in k h = in_image B (number v s k) img (subst (λ (n : ℕ). number v s k < n) (view-n B img) (ok.inside s k f h).high)

  pub fits : Fits B (length img) xs
  fits =
      fits_all B (length img) xs
      (λ i h.
      let l : i < met = omega (arith, length-xs) in
      let k : number v s (o / B + i) * B + B ≤ length img = number_in (o / B + i) (met-listed i l) in (
        ap (λ (x : Store). length x.bytes) (nth-xs i l) ∙ length-block B after (number v s (o / B + i)) (omega (arith, length-after)),
        subst (λ (x : Store). x.at * B + B ≤ length img) (sym (nth-xs i l)) k,
      ))

  pub apart : Apart xs
  apart =
      apart-all xs
      (λ i k l h e.
      let a : k < met = omega (arith, length-xs) in
      let b : i < met = omega arith in
      let same : number v s (o / B + i) ≡ number v s (o / B + k) = ap (λ (x : Store). x.at) (sym (nth-xs i b)) ∙ e ∙ ap (λ (x : Store). x.at) (nth-xs k a) in
      omega (arith, same_index (o / B + i) (o / B + k) (met-listed i b) (met-listed k a) same))

  -- ---- a cut behind j stores
  module _ (j : ℕ) where
    -- how many bytes lie before the end of the j-th block
    abbrev pub n : ℕ
    n = (o / B + j) * B - o

    abbrev pub part : List ℕ
    part = step (files_of B v) img (put s o (take n bs))

    length_part : length part ≡ length img
    length_part = length-step (files_of B v) img (put s o (take n bs))

    -- in a stored block the shorter write and the whole one agree
    module _ (i : ℕ) (l : i < j) (h : i < met) (r : ℕ) (q : r < B) where
      abbrev k : ℕ
      k = o / B + i

      abbrev p : ℕ
      p = k * B + r

      p-div : p / B ≡ k
      p-div = digits_div k q

      p-mod : p % B ≡ r
      p-mod = digits_mod k q

      near : p < o + n
      near =
          let a : k * B + B ≤ (o / B + j) * B = Rattle.tfs_facts.specs.Sizes.after_block B k (o / B + j) (omega arith) in
          omega arith

      at_p : place B v s p ≡ number v s k * B + r
      unfolding place
      at_p = λ t. number v s (p-div t) * B + p-mod t

      inside-file : p < size v s → get_or part (number v s k * B + r) 0 ≡ get_or after (number v s k * B + r) 0
      inside-file z =
          ap (λ (x : ℕ). get_or part x 0) (sym at_p)
          ∙ step-byte (files_of B v) s p z img (put s o (take n bs)) (laid B pos img ok)
          ∙ ap (λ (x : Bool). cond x (get_or (take n bs) (p - o) 0) (get_or img (place B v s p) 0)) (contents.covers-within B pos img ok s f o (take n bs) p z ∙ same_test)
          ∙ same_byte
          ∙ sym (ap (λ (x : Bool). cond x (get_or bs (p - o) 0) (get_or img (place B v s p) 0)) (contents.covers-within B pos img ok s f o bs p z))
          ∙ sym (step-byte (files_of B v) s p z img (put s o bs) (laid B pos img ok))
          ∙ ap (λ (x : List ℕ). get_or x (place B v s p) 0) (sym after_is)
          ∙ ap (λ (x : ℕ). get_or after x 0) at_p
        where
          len : length (take n bs) ≡ min n (length bs)
          len = length-take n bs

          same_test : (leb o p && ltb p (o + length (take n bs))) ≡ (leb o p && ltb p (o + length bs))
          same_test =
              ap (λ (x : Bool). leb o p && x)
              (iff-eq (ltb p (o + length (take n bs))) (ltb p (o + length bs))
              (λ t. lt→ltb p (o + length bs) (omega (arith, len, ltb→lt p (o + length (take n bs)) t)))
              (λ t. lt→ltb p (o + length (take n bs)) (omega (arith, len, near, ltb→lt p (o + length bs) t))))

          same_byte : cond (leb o p && ltb p (o + length bs)) (get_or (take n bs) (p - o) 0) (get_or img (place B v s p) 0) ≡ cond (leb o p && ltb p (o + length bs)) (get_or bs (p - o) 0) (get_or img (place B v s p) 0)
          same_byte =
              elim (dec_le o p) [
                | yes low ↦ ap (λ (x : ℕ). cond (leb o p && ltb p (o + length bs)) x (get_or img (place B v s p) 0)) (get_or-take n bs (p - o) 0 (omega (arith, near)))
                | no low ↦ by-test (leb o p) (λ t. absurd (low (leb→le o p t))) (λ t. off (leb o p) t)
              ]
            where
              off : (b : Bool) → T (not b) → cond (b && ltb p (o + length bs)) (get_or (take n bs) (p - o) 0) (get_or img (place B v s p) 0) ≡ cond (b && ltb p (o + length bs)) (get_or bs (p - o) 0) (get_or img (place B v s p) 0)
              off true t = absurd t
              off false t = refl

      -- behind the file's end no write comes
      behind : size v s ≤ p → (w : List ℕ) → get_or (step (files_of B v) img (put s o w)) (number v s k * B + r) 0 ≡ get_or img (number v s k * B + r) 0
      unfolding place
      behind z w =
          step_other (files_of B v) img (put s o w) (number v s k * B + r)
          (λ x m e.
          let a : number v s k ≡ number v s (x / B) = split-block B pos (number v s k) (number v s (x / B)) r (x % B) q (in_block B pos x) e in
          let d : r ≡ x % B = split-offset B pos (number v s k) (number v s (x / B)) r (x % B) q (in_block B pos x) e in
          let same : k ≡ x / B = same_index k (x / B) (met-listed i h) (in-need B pos x (size v s) m) a in
          let whole : x / B * B + x % B ≡ x = div-add-mod' x B in
          let again : p ≡ x / B * B + x % B = λ t. same t * B + d t in
          omega arith)

      in-block-same : get_or part (number v s k * B + r) 0 ≡ get_or after (number v s k * B + r) 0
      in-block-same =
          elim (dec_lt p (size v s)) [
            | yes z ↦ inside-file z
            | no z ↦ (behind (omega arith) (take n bs) ∙ sym (behind (omega arith) bs) ∙ ap (λ (x : List ℕ). get_or x (number v s k * B + r) 0) (sym after_is))
          ]

    stored : (i : ℕ) → i < j → i < met → block B part (number v s (o / B + i)) ≡ block B after (number v s (o / B + i))
    unfolding block
    stored i l h = part_ext (number v s (o / B + i) * B) B part after (length_part ∙ sym length-after) (λ r q. in-block-same i l h r q)

    -- no byte of another block is written
    unstored : (b : ℕ) → ((i : ℕ) → i < j → i < met → b ≢ number v s (o / B + i)) → block B part b ≡ block B img b
    unfolding block place
    unstored b far =
        part_ext (b * B) B part img length_part
        (λ r q.
        store_other (place B v s) (effect (files_of B v) (put s o (take n bs))) img o (b * B + r)
        (λ x low high e.
        let len : length (effect (files_of B v) (put s o (take n bs))) ≡ min (size v s - o) (length (take n bs)) = length-take (size v s - o) (take n bs) in
        let less : length (take n bs) ≡ min n (length bs) = length-take n bs in
        let w = within B pos o c x low (omega (arith, c-is)) in
        let upto : x / B < o / B + j = (div-lt_iff_lt-mul {k = B} {x = x} {y = o / B + j} pos).1 (omega arith) in
        let i : x / B ≡ o / B + (x / B - o / B) = omega (arith, w.0) in
        far (x / B - o / B) (omega (arith, w.0)) (omega (arith, w.0, w.1))
        (split-block B pos b (number v s (x / B)) r (x % B) q (in_block B pos x) e ∙ ap (number v s) i)))

    -- the first j stores are the shorter write
    pub cut-is : store_all B img (take j xs) ≡ part
    cut-is =
        same_blocks B pos (store_all B img (take j xs)) part (prefix-long B xs img j fits ∙ sym length_part)
        (λ b.
        let g : ℕ → Bool = λ i. eqb b (number v s (o / B + i)) in
        let m : ℕ = min j met in
        elim (dec_lt (least g m) m) [ yes l ↦ yes-one b l | no l ↦ no_one b l ])
      where
        yes-one : (b : ℕ) → least (λ i. eqb b (number v s (o / B + i))) (min j met) < min j met → block B (store_all B img (take j xs)) b ≡ block B part b
        yes-one b l =
            let i : ℕ = least (λ i. eqb b (number v s (o / B + i))) (min j met) in
            let h : i < met = omega arith in
            let e : b ≡ number v s (o / B + i) = eqb→eq b (number v s (o / B + i)) (least-hit (λ i. eqb b (number v s (o / B + i))) (min j met) l) in
            ap (block B (store_all B img (take j xs))) (e ∙ ap (λ (x : Store). x.at) (sym (nth-xs i h)))
            ∙ prefix-new B xs img j i fits apart (omega arith) (omega (arith, length-xs))
            ∙ ap (λ (x : Store). x.bytes) (nth-xs i h)
            ∙ sym (stored i (omega arith) h) ∙ ap (block B part) (sym e)

        no_one : (b : ℕ) → (least (λ i. eqb b (number v s (o / B + i))) (min j met) < min j met → ⊥) → block B (store_all B img (take j xs)) b ≡ block B part b
        no_one b l =
            let far : (i : ℕ) → i < j → i < met → b ≢ number v s (o / B + i) = λ i a h e. T_not (eqb b (number v s (o / B + i))) (least-none (λ i. eqb b (number v s (o / B + i))) (min j met) (omega arith) i (omega arith)) (eqb_of e) in
            prefix-away B xs img j b fits
            (away-all b (take j xs) (λ i h e.
            let a : i < j = omega (arith, length-stores j xs) in
            let m : i < met = omega (arith, length-stores j xs, length-xs) in
            far i a m (e ∙ ap (λ (x : Store). x.at) (nth-take j xs i a ∙ nth-xs i m))))
            ∙ sym (unstored b far)
