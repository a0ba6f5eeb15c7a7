-- The k-th store of a request: which block it is, and which answer its fetch gives.
use Rattle.std.specs.Prelude.{◌≡◌, ◌⊎◌, ◌↔◌, Bool, not, cond, ◌||◌, List, ◌++◌, ltb, eqb}
use Rattle.std.proofs.Math.Path.{refl, sym, ap, subst}
use Rattle.std.proofs.Common.{◌∙◌, inl, inr, arith, lt→ltb}
use Prim.Native.Nat.{ℕ, zero, suc, ◌+◌, ◌-◌, ◌/◌, ◌≤◌, ◌<◌, min}
use Rattle.std.proofs.Math.Decide.{dec_lt}
use Rattle.std.proofs.Math.ListN.{length, get_or}
use Rattle.std.proofs.Math.Seq.{get_or-take}
use Rattle.std.proofs.Math.Dec.{T}
use Rattle.lists.specs.Lists.{sum, count}
use Rattle.list_laws.specs.Test.{by-test, cond_yes, cond_no, or_l, or_r, eqb_of}
use Rattle.tfs_spec.specs.Layout.{BlockSize, need, map_bit, View, view, name, size, number, place, slot_of}
use Rattle.tfs_spec.specs.Consistent.{File, Consistent}
use Rattle.tfs_spec.specs.Requests.{Answer, done, value, transferred, unused, file, refused, granted, met_of, Outcome, Store, zero_stores, free_from, chosen, remove_stores, counted, blocks_met, Change, creates, removes, writes, perform, stores_of, kth, fetch}
use Rattle.tfs_spec.specs.Answers.{ChangeRule, holds_part, Nth, KthBlock, content-block, inode-block, map-block, directory-block, directory-first, map-second, met-block, store_count, FetchRule, own, unfetched, fetched}
use Rattle.tfs_facts.specs.Room.{free-before, free-member, free-count}
use Rattle.tfs_facts.specs.CheckMeans.{check-means, same-means}
use Rattle.tfs_facts.specs.Names.{slot-hit, slot_is}
use Rattle.tfs_facts.specs.Chosen.{CreateGrant, choice}
use Rattle.tfs_proofs.specs.Meets.{nth-met}
use Rattle.tfs_proofs.specs.Creates as made
use Rattle.tfs_proofs.specs.Changes.{Passed, create-granted}
use Rattle.tfs_proofs.specs.Prefixes.{nth}
use Rattle.tfs_proofs.specs.WriteStores as pieces
use Rattle.tfs_proofs.specs.Storing.{stored, create-stores, length-zero, nth-zero, nth_left, nth_right, WriteGrant, write-grant, missing, none-missing, why-missing, not-missing, fetch-none, fetch-some}

-- ---- the k-th number at which a test holds is one
count-step : (f : ℕ → Bool) (n : ℕ) → T (f n) → count f (suc n) ≡ count f n + 1
unfolding sum
count-step f n t = ap (λ (x : ℕ). sum (λ i. cond (f i) 1 0) n + x) (cond_yes {X = ℕ} (f n) 1 0 t)

count_none : (f : ℕ → Bool) → count f 0 ≡ 0
unfolding sum
count_none f = refl

count-up : (f : ℕ → Bool) (a d : ℕ) → count f a ≤ count f (a + d)
unfolding sum
count-up f a zero = let e : a + 0 ≡ a = omega arith in subst (λ (x : ℕ). count f a ≤ count f x) (sym e) (omega arith)
count-up f a (suc d) =
    let e : a + suc d ≡ suc (a + d) = omega arith in
    subst (λ (x : ℕ). count f a ≤ count f x) (sym e) (omega (arith, count-up f a d))

nth-less : (f : ℕ → Bool) (k a b : ℕ) → Nth f k a → Nth f k b → a < b → ⊥
nth-less f k a b x y l =
    let e : suc a + (b - suc a) ≡ b = omega arith in
    let h : count f (suc a) ≤ count f b = subst (λ (z : ℕ). count f (suc a) ≤ count f z) e (count-up f (suc a) (b - suc a)) in
    omega (arith, count-step f a x.holds, x.before, y.before)

nth-one : (f : ℕ → Bool) (k a b : ℕ) → Nth f k a → Nth f k b → a ≡ b
nth-one f k a b x y =
    elim (dec_lt a b) [
      | yes l ↦ absurd (nth-less f k a b x y l)
      | no l ↦ elim (dec_lt b a) [ yes m ↦ absurd (nth-less f k b a y x m) | no m ↦ omega arith ]
    ]

-- ---- which block the k-th store is to
module _ (B : ℕ) (sz : BlockSize B) (img : List ℕ) (ok : Consistent B img) where
  abbrev v : View
  v = view B img

  pos : 0 < B
  pos = omega (arith, sz.large)

  passed : Passed B img
  passed = (check-means B sz img).1 ok

  abbrev unmarked : ℕ → Bool
  unmarked i = not (map_bit v.map i)

  -- create
  module _ (nm : List ℕ) (z : ℕ) (g : T (granted (perform B img (creates nm z)).answer)) where
    gr : CreateGrant B v nm z
    unfolding perform
    gr = create-granted B img passed nm z g

    abbrev cs : List ℕ
    cs = chosen B v z

    abbrev bs : List ℕ
    bs = made.bs B sz img ok nm z gr

    abbrev ls : List Store
    ls = made.lasts B sz img ok nm z gr

    length-cs : length cs ≡ 1 + need B z
    length-cs = (choice B v ok.sound z gr.room).length-cs

    chosen-nth : (m : ℕ) → m < 1 + need B z → (get_or cs m 0 < v.n) × Nth unmarked m (get_or cs m 0)
    unfolding chosen
    chosen-nth m h =
        let l : m < length (free_from v.map 0 v.n) = omega (arith, free-count v, gr.room) in
        let e : get_or cs m 0 ≡ get_or (free_from v.map 0 v.n) m 0 = get_or-take (1 + need B z) (free_from v.map 0 v.n) m 0 h in
        let f = free-member v.map 0 v.n m l in (
          subst (λ (x : ℕ). x < v.n) (sym e) (omega (arith, f.high)),
          record {
            holds = subst (λ (x : ℕ). T (not (map_bit v.map x))) (sym e) (subst (λ (x : Bool). T (not x)) (sym f.clear) tt);
            before = ap (count unmarked) e ∙ free-before v.map 0 v.n m l ∙ zero-count;
          },
        )
      where
        zero-count : count unmarked 0 + m ≡ m
        zero-count = omega (arith, count_none unmarked)

    at-content : (k : ℕ) → 1 ≤ k → k ≤ need B z → (kth k (stores_of B img (creates nm z))).at ≡ get_or cs k 0
    at-content k l h =
        let i : k - 1 < length bs = omega (arith, made.length-bs B sz img ok nm z gr) in
        let e : suc (k - 1) ≡ k = omega arith in
        ap (λ (x : List Store). (nth x (k - 1)).at) (create-stores B sz img ok nm z gr)
        ∙ ap (λ (x : Store). x.at) (nth_left (zero_stores B bs) ls (k - 1) (omega (arith, length-zero B bs)))
        ∙ nth-zero B bs (k - 1) i ∙ made.at-bs B sz img ok nm z gr (k - 1) ∙ ap (λ (x : ℕ). get_or cs x 0) e

    at_last : (m : ℕ) → (kth (need B z + 1 + m) (stores_of B img (creates nm z))).at ≡ (nth ls m).at
    at_last m =
        let e : need B z + 1 + m - 1 ≡ length (zero_stores B bs) + m = omega (arith, length-zero B bs, made.length-bs B sz img ok nm z gr) in
        ap (λ (x : List Store). (nth x (need B z + 1 + m - 1)).at) (create-stores B sz img ok nm z gr)
        ∙ ap (λ (x : ℕ). (nth (zero_stores B bs ++ ls) x).at) e
        ∙ ap (λ (x : Store). x.at) (nth_right (zero_stores B bs) ls m)

    last-at : (k m : ℕ) → need B z + 1 + m ≡ k → (kth k (stores_of B img (creates nm z))).at ≡ (nth ls m).at
    last-at k m e = ap (λ (x : ℕ). (kth x (stores_of B img (creates nm z))).at) (sym e) ∙ at_last m

    create-kth : (k : ℕ) → 1 ≤ k → k ≤ need B z + 3 → KthBlock B v (creates nm z) k (kth k (stores_of B img (creates nm z))).at
    create-kth k l h =
        elim (dec_lt (need B z) k) [
          | no m ↦ (let c = chosen-nth k (omega arith) in
              subst (KthBlock B v (creates nm z) k) (sym (at-content k l (omega arith))) (content-block nm z k (get_or cs k 0) l (omega arith) c.0 c.1))
          | yes m ↦ tail (k - (need B z + 1)) (omega arith) (omega arith)
        ]
      where
        tail : (m : ℕ) → m < 3 → need B z + 1 + m ≡ k → KthBlock B v (creates nm z) k (kth k (stores_of B img (creates nm z))).at
        tail zero b e =
            let c = chosen-nth 0 (omega arith) in
            let same : need B z + 1 ≡ k = omega arith in
            subst (λ (x : ℕ). KthBlock B v (creates nm z) x (kth x (stores_of B img (creates nm z))).at) same (subst (KthBlock B v (creates nm z) (need B z + 1)) (sym (last-at (need B z + 1) 0 (omega arith))) (inode-block nm z (get_or cs 0 0) c.0 c.1))
        tail (suc zero) b e =
            let same : need B z + 2 ≡ k = omega arith in
            subst (λ (x : ℕ). KthBlock B v (creates nm z) x (kth x (stores_of B img (creates nm z))).at) same (subst (KthBlock B v (creates nm z) (need B z + 2)) (sym (last-at (need B z + 2) 1 (omega arith))) (map-block nm z))
        tail (suc (suc zero)) b e =
            let same : need B z + 3 ≡ k = omega arith in
            subst (λ (x : ℕ). KthBlock B v (creates nm z) x (kth x (stores_of B img (creates nm z))).at) same (subst (KthBlock B v (creates nm z) (need B z + 3)) (sym (last-at (need B z + 3) 2 (omega arith))) (directory-block nm z))
        tail (suc (suc (suc m))) b e = absurd (omega arith)

  -- write
  module _ (nm : List ℕ) (o : ℕ) (bs : List ℕ) (g : T (granted (perform B img (writes nm o bs)).answer)) where
    wg : WriteGrant B img nm o bs
    unfolding perform
    wg = write-grant B img passed nm o bs g

    abbrev s : ℕ
    s = slot_of B v nm

    f : File B v s
    f = (slot-hit B v nm wg.low).0

    abbrev c : ℕ
    c = counted v s o (length bs)

    c-is : c ≡ min (length bs) (size v s - o)
    unfolding counted
    c-is = refl

    met-nth : (k : ℕ) → 1 ≤ k → k ≤ blocks_met B o c → ((kth k (stores_of B img (writes nm o bs))).at ≡ number v s (o / B + (k - 1))) × (o / B + (k - 1) < need B (size v s)) × Nth (λ j. holds_part B (place B v s) o c (number v s j)) (k - 1) (o / B + (k - 1))
    met-nth k l h = (
      ap (λ (x : Store). x.at) (pieces.nth-xs B pos img ok.sound s f o bs wg.reach (k - 1) (omega arith)),
      pieces.met-listed B pos img ok.sound s f o bs wg.reach (k - 1) (omega arith),
      nth-met B pos v ok.sound s o c f (omega (arith, c-is, wg.reach)) (k - 1) (omega arith),
    )

    met-count : met_of (perform B img (writes nm o bs)).answer ≡ blocks_met B o c
    unfolding perform
    met-count = ap met_of wg.answer

  -- a block is the k-th's
  pub kth-block : (c : Change) → T (granted (perform B img c).answer) → (k : ℕ) → 1 ≤ k → k ≤ store_count B c (perform B img c).answer → KthBlock B v c k (kth k (stores_of B img c)).at
  unfolding remove_stores
  kth-block (creates nm z) g k l h = create-kth nm z g k l h
  kth-block (removes nm) g zero l h = absurd (omega arith)
  kth-block (removes nm) g (suc zero) l h = directory-first nm
  kth-block (removes nm) g (suc (suc zero)) l h = map-second nm
  kth-block (removes nm) g (suc (suc (suc k))) l h = absurd (omega arith)
  kth-block (writes nm o bs) g k l h =
      let m = met-nth nm o bs g k l (omega (arith, met-count nm o bs g)) in
      let w : WriteGrant B img nm o bs = wg nm o bs g in
      let hit = slot-hit B v nm w.low in
      subst (KthBlock B v (writes nm o bs) k) (sym m.0)
      (met-block nm o bs (slot_of B v nm) (counted v (slot_of B v nm) o (length bs)) (o / B + (k - 1)) k (record { file = hit.0; named = (same-means (name v (slot_of B v nm)) nm).0 hit.1 }) (c-is nm o bs g) l m.1 m.2)

  -- and no other is
  pub kth-is : (c : Change) (k b : ℕ) → KthBlock B v c k b → T (granted (perform B img c).answer) → k ≤ store_count B c (perform B img c).answer → (kth k (stores_of B img c)).at ≡ b
  unfolding remove_stores
  kth-is _ _ _ (content-block nm z k b l h low n) g q =
      at-content nm z g k l h ∙ nth-one (unmarked) k (get_or (chosen B v z) k 0) b (chosen-nth nm z g k (omega arith)).1 n
  kth-is _ _ _ (inode-block nm z b low n) g q =
      last-at nm z g (need B z + 1) 0 (omega arith) ∙ nth-one (unmarked) 0 (get_or (chosen B v z) 0 0) b (chosen-nth nm z g 0 (omega arith)).1 n
  kth-is _ _ _ (map-block nm z) g q = last-at nm z g (need B z + 2) 1 (omega arith)
  kth-is _ _ _ (directory-block nm z) g q = last-at nm z g (need B z + 3) 2 (omega arith)
  kth-is _ _ _ (directory-first nm) g q = refl
  kth-is _ _ _ (map-second nm) g q = refl
  kth-is _ _ _ (met-block nm o bs s c i k st e l h n) g q =
      let m = met-nth nm o bs g k l (omega (arith, met-count nm o bs g)) in
      let at : slot_of B v nm ≡ s = slot_is B v nm ok.sound.apart s st.file ((same-means (name v s) nm).1 st.named) in
      let same-c : c ≡ counted v (slot_of B v nm) o (length bs) = e ∙ ap (λ (x : ℕ). min (length bs) (size v x - o)) (sym at) ∙ sym (c-is nm o bs g) in
      let n' : Nth (λ j. holds_part B (place B v (slot_of B v nm)) o (counted v (slot_of B v nm) o (length bs)) (number v (slot_of B v nm) j)) (k - 1) i = subst (λ (x : ℕ). Nth (λ j. holds_part B (place B v (slot_of B v nm)) o x (number v (slot_of B v nm) j)) (k - 1) i) same-c (subst (λ (x : ℕ). Nth (λ j. holds_part B (place B v x) o c (number v x j)) (k - 1) i) (sym at) n) in
      m.0 ∙ ap (number v (slot_of B v nm)) (nth-one _ (k - 1) (o / B + (k - 1)) i m.2 n') ∙ ap (λ (x : ℕ). number v x i) at

-- ---- the answer of a fetch
refusal-of : (a : Answer) → T (not (granted a)) → (num : ℕ) × (p : ℕ) × (a ≡ refused num p)
refusal-of done t = absurd t
refusal-of (value x) t = absurd t
refusal-of (transferred c m) t = absurd t
refusal-of unused t = absurd t
refusal-of (file nm i z) t = absurd t
refusal-of (refused num p) t = (num, p, refl)

module _ (B : ℕ) (sz : BlockSize B) (img : List ℕ) (ok : Consistent B img) (c : Change) (k : ℕ) (buf : List ℕ) (rule : (a : Answer) → ((perform B img c).answer ≡ a) ↔ ChangeRule B (view B img) c a) where
  abbrev answer : Answer
  answer = (perform B img c).answer

  abbrev stores : ℕ
  stores = length (stores_of B img c)

  refused-answer : T (not (granted answer)) → (fetch B img c k buf).answer ≡ answer
  unfolding fetch
  refused-answer t = ap (λ (o : Outcome). o.answer) (cond_no (granted answer) _ _ t)

  is-missing : (k ≡ 0) ⊎ ((stores < k) ⊎ (length buf < B)) → T (eqb k 0 || (ltb stores k || ltb (length buf) B))
  is-missing (inl e) = or_l (eqb k 0) _ (eqb_of e)
  is-missing (inr (inl l)) = or_r (eqb k 0) _ (or_l (ltb stores k) _ (lt→ltb stores k l))
  is-missing (inr (inr l)) = or_r (eqb k 0) _ (or_r (ltb stores k) _ (lt→ltb (length buf) B l))

  fetch-holds : FetchRule B (view B img) c k buf (fetch B img c k buf).answer
  fetch-holds =
      by-test (granted answer)
      (λ g.
      let n : stores ≡ store_count B c answer = (stored B sz img ok c g).number in
      by-test (missing B img c g k buf)
      (λ t.
      subst (λ (o : Outcome). FetchRule B (view B img) c k buf o.answer) (sym (fetch-none B img c g k buf t))
      (unfetched answer ((rule answer).0 refl) g (subst (λ (x : ℕ). (k ≡ 0) ⊎ ((x < k) ⊎ (length buf < B))) n (why-missing k stores (length buf) B t))))
      (λ t.
      let i = none-missing k stores (length buf) B t in
      let h : k ≤ store_count B c answer = subst (λ (x : ℕ). k ≤ x) n i.1 in
      subst (λ (o : Outcome). FetchRule B (view B img) c k buf o.answer) (sym (fetch-some B img c g k buf t))
      (fetched answer (kth k (stores_of B img c)).at ((rule answer).0 refl) g i.0 h i.2 (kth-block B sz img ok c g k i.0 h))))
      (λ t.
      let r = refusal-of answer t in
      subst (FetchRule B (view B img) c k buf) (sym (refused-answer t ∙ r.2)) (own r.0 r.1 ((rule (refused r.0 r.1)).0 r.2)))

  fetch-only : (a : Answer) → FetchRule B (view B img) c k buf a → (fetch B img c k buf).answer ≡ a
  fetch-only _ (own num p r) =
      let e : answer ≡ refused num p = (rule (refused num p)).1 r in
      refused-answer (subst (λ (x : Answer). T (not (granted x))) (sym e) tt) ∙ e
  fetch-only _ (unfetched a r g why) =
      let e : answer ≡ a = (rule a).1 r in
      let g' : T (granted answer) = subst (λ (x : Answer). T (granted x)) (sym e) g in
      let n : stores ≡ store_count B c a = (stored B sz img ok c g').number ∙ ap (store_count B c) e in
      ap (λ (o : Outcome). o.answer) (fetch-none B img c g' k buf (is-missing (subst (λ (x : ℕ). (k ≡ 0) ⊎ ((x < k) ⊎ (length buf < B))) (sym n) why)))
  fetch-only _ (fetched a b r g l h room kb) =
      let e : answer ≡ a = (rule a).1 r in
      let g' : T (granted answer) = subst (λ (x : Answer). T (granted x)) (sym e) g in
      let n : stores ≡ store_count B c a = (stored B sz img ok c g').number ∙ ap (store_count B c) e in
      let there : T (not (missing B img c g' k buf)) = not-missing k stores (length buf) B l (subst (λ (x : ℕ). k ≤ x) (sym n) h) room in
      ap (λ (o : Outcome). o.answer) (fetch-some B img c g' k buf there)
      ∙ ap value (kth-is B sz img ok c k b kb g' (subst (λ (x : Answer). k ≤ store_count B c x) (sym e) h))

  pub fetch-rule : (a : Answer) → ((fetch B img c k buf).answer ≡ a) ↔ FetchRule B (view B img) c k buf a
  fetch-rule a = ((λ e. subst (FetchRule B (view B img) c k buf) e fetch-holds), fetch-only a)
