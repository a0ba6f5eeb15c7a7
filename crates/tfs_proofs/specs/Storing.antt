-- The stores of a granted create, remove or write: whole blocks of the volume, no block twice, all together the request.
use Rattle.std.specs.Prelude.{◌≡◌, refl, ◌≢◌, ◌⊎◌, Bool, not, ◌||◌, get_or, take, drop, T, ltb, eqb}
use Rattle.std.proofs.Math.Path.{sym, ap, subst}
use Rattle.std.proofs.Common.{◌∙◌, inl, inr, ⊎_elim, arith, div-add-mod', mod-lt, add-mul, suc-mul, le-div_iff_mul-le, length-append, take_all, eqb→eq, ltb→lt, nltb→le, T_not}
use Prim.Native.Nat.{ℕ, zero, suc, ◌+◌, ◌-◌, ◌*◌, ◌/◌, ◌%◌, ◌≤◌, ◌<◌}
use mathlib.Core.List.{List, [], ◌∷◌, ◌++◌}
use Rattle.std.proofs.Math.Decide.{dec_lt}
use Rattle.std.proofs.Math.ListN.{length}
use Rattle.std.proofs.Math.Dec.{not_T}
use Rattle.list_laws.specs.Test.{by-test, cond_yes, cond_no, or_l, or_r, or-second}
use Rattle.tfs_spec.specs.Layout.{BlockSize, slots, need, blocks, block, View, view, size, number, slot_of, free_slot}
use Rattle.tfs_spec.specs.Consistent.{File, Consistent}
use Rattle.tfs_spec.specs.Requests.{Answer, value, transferred, refused, granted, met_of, Outcome, Store, store_all, zero_stores, place_stores, create_stores, remove_stores, Lookup, looked, counted, blocks_met, transfer_answer, write, Change, creates, removes, writes, perform, stores_of, kth, fetch_store, fetch, cut}
use Rattle.tfs_spec.specs.Answers.{store_count}
use Rattle.tfs_spec.specs.Cuts.{StoreLaws}
use Rattle.tfs_facts.specs.Lookups.{lookup-there}
use Rattle.tfs_facts.specs.Names.{slot-hit}
use Rattle.tfs_facts.specs.CheckMeans.{check-means}
use Rattle.tfs_facts.specs.Chosen.{CreateGrant, choice}
use Rattle.tfs_facts.specs.Stores.{Fits, Away, fits-append, block-byte}
use Rattle.tfs_facts.specs.Views.{view-n}
use Rattle.tfs_spec.specs.Laws.{request}
use Rattle.tfs_proofs.specs.Writes.{put, step}
use Rattle.tfs_proofs.specs.Places.{files_of}
use Rattle.tfs_proofs.specs.Transfers.{slot_for, slot_for-hit, transfer_view, write-answer}
use Rattle.tfs_proofs.specs.WriteLists.{wr, put_of, request-image}
use Rattle.tfs_proofs.specs.Creates as made
use Rattle.tfs_proofs.specs.Removes as removed
use Rattle.tfs_proofs.specs.WriteStores as pieces
use Rattle.tfs_proofs.specs.Changes.{Passed, create-granted, create-image, remove-granted, remove-image, write_granted}
use Rattle.tfs_proofs.specs.Prefixes.{Apart, nth, away-all, apart-all, apart-append, apart-nth, prefix-new, prefix-old, prefix-away, prefix-long, away-take}

-- what is known of the stores of a request
pub record Stored (B : ℕ) (img : List ℕ) (c : Change) : Type 0 where
  pub fits : Fits B (length img) (stores_of B img c)
  pub apart : Apart (stores_of B img c)
  pub inside : (i : ℕ) → i < length (stores_of B img c) → (nth (stores_of B img c) i).at < blocks B img
  pub all : store_all B img (stores_of B img c) ≡ (perform B img c).image
  pub number : length (stores_of B img c) ≡ store_count B c (perform B img c).answer

pub length-zero : (B : ℕ) (bs : List ℕ) → length (zero_stores B bs) ≡ length bs
length-zero B [] = refl
length-zero B (b ∷ bs) = ap suc (length-zero B bs)

pub nth-zero : (B : ℕ) (bs : List ℕ) (i : ℕ) → i < length bs → (nth (zero_stores B bs) i).at ≡ get_or bs i 0
nth-zero B [] i h = absurd (omega arith)
nth-zero B (b ∷ bs) zero h = refl
nth-zero B (b ∷ bs) (suc i) h = nth-zero B bs i (omega arith)

pub nth_left : (xs ys : List Store) (i : ℕ) → i < length xs → nth (xs ++ ys) i ≡ nth xs i
nth_left [] ys i h = absurd (omega arith)
nth_left (x ∷ xs) ys zero h = refl
nth_left (x ∷ xs) ys (suc i) h = nth_left xs ys i (omega arith)

pub nth_right : (xs ys : List Store) (i : ℕ) → nth (xs ++ ys) (length xs + i) ≡ nth ys i
nth_right [] ys i = ap (nth ys) (omega arith)
nth_right (x ∷ xs) ys i = let e : length (x ∷ xs) + i ≡ suc (length xs + i) = omega arith in ap (nth ((x ∷ xs) ++ ys)) e ∙ nth_right xs ys i

-- ---- create
module _ (B : ℕ) (sz : BlockSize B) (img : List ℕ) (ok : Consistent B img) (nm : List ℕ) (z : ℕ) (gr : CreateGrant B (view B img) nm z) where
  abbrev bs : List ℕ
  bs = made.bs B sz img ok nm z gr

  abbrev zs : List Store
  zs = zero_stores B bs

  abbrev ls : List Store
  ls = made.lasts B sz img ok nm z gr

  pub create-stores : create_stores B (view B img) nm z ≡ zero_stores B (made.bs B sz img ok nm z gr) ++ made.lasts B sz img ok nm z gr
  unfolding create_stores place_stores
  create-stores = ap (place_stores B (view B img) (free_slot B (view B img)) nm z) (made.cs-is B sz img ok nm z gr)

  rising : (m j : ℕ) → m < j → j < length bs → get_or bs m 0 ≢ get_or bs j 0
  rising m j l h e =
      omega (arith, (choice B (view B img) ok.sound z gr.room).rising (suc m) (suc j) (omega arith) (omega (arith, (choice B (view B img) ok.sound z gr.room).length-cs, made.length-bs B sz img ok nm z gr)), made.at-bs B sz img ok nm z gr m, made.at-bs B sz img ok nm z gr j)

  low : (m : ℕ) → m < length bs → 3 ≤ get_or bs m 0
  low m h = (made.at_b B sz img ok nm z gr m h).inside.low

  first-low : 3 ≤ made.i B sz img ok nm z gr
  first-low = (made.first B sz img ok nm z gr).inside.low

  away-first : (m : ℕ) → m < length bs → get_or bs m 0 ≢ made.i B sz img ok nm z gr
  away-first m h e =
      omega (arith, (choice B (view B img) ok.sound z gr.room).rising 0 (suc m) (omega arith) (omega (arith, (choice B (view B img) ok.sound z gr.room).length-cs, made.length-bs B sz img ok nm z gr)), made.at-bs B sz img ok nm z gr m)

  at_zero : (m : ℕ) → m < length zs → (nth zs m).at ≡ get_or bs m 0
  at_zero m h = nth-zero B bs m (omega (arith, length-zero B bs))

  create-apart : Apart (zs ++ ls)
  create-apart =
      apart-append zs ls
      (apart-all zs (λ i k l h e. rising i k l (omega (arith, length-zero B bs)) (sym (at_zero i (omega arith)) ∙ e ∙ at_zero k h)))
      (((λ e. omega (arith, first-low)), ((λ e. omega (arith, first-low)), tt)), (((λ e. omega arith), tt), (tt, tt)))
      (λ i h.
      let k : i < length bs = omega (arith, length-zero B bs) in
      ((λ e. away-first i k (sym (at_zero i h) ∙ e)), ((λ e. omega (arith, low i k, at_zero i h)), ((λ e. omega (arith, low i k, at_zero i h)), tt))))

  create-length : length (create_stores B (view B img) nm z) ≡ need B z + 3
  create-length =
      ap length create-stores ∙ length-append zs ls ∙ omega (arith, length-zero B bs, made.length-bs B sz img ok nm z gr)

  create-inside : (i : ℕ) → i < length (zs ++ ls) → (nth (zs ++ ls) i).at < blocks B img
  create-inside i h =
      elim (dec_lt i (length zs)) [
        | yes l ↦ (let k : i < length bs = omega (arith, length-zero B bs) in
            subst (λ (x : ℕ). x < blocks B img) (sym (ap (λ (x : Store). x.at) (nth_left zs ls i l) ∙ at_zero i l))
            (subst (λ (n : ℕ). get_or bs i 0 < n) (view-n B img) (made.at_b B sz img ok nm z gr i k).inside.high))
        | no l ↦
            let e : length zs + (i - length zs) ≡ i = omega arith in
            subst (λ (x : ℕ). (nth (zs ++ ls) x).at < blocks B img) e
            (subst (λ (x : Store). x.at < blocks B img) (sym (nth_right zs ls (i - length zs))) (last (i - length zs) (omega (arith, length-append zs ls))))
      ]
    where
      three : 3 ≤ blocks B img
      three = omega (arith, first-low, subst (λ (n : ℕ). made.i B sz img ok nm z gr < n) (view-n B img) (made.first B sz img ok nm z gr).inside.high)

      last : (i : ℕ) → i < 3 → (nth ls i).at < blocks B img
      last zero l = subst (λ (n : ℕ). made.i B sz img ok nm z gr < n) (view-n B img) (made.first B sz img ok nm z gr).inside.high
      last (suc zero) l = omega (arith, three)
      last (suc (suc zero)) l = omega (arith, three)
      last (suc (suc (suc i))) l = absurd (omega arith)

-- a consistent volume has three blocks
three-blocks : (B : ℕ) → 0 < B → (img : List ℕ) → Consistent B img → 3 ≤ blocks B img
unfolding blocks
three-blocks B pos img ok =
    let k : 3 ≤ length img / B = (le-div_iff_mul-le pos).1 ok.long in omega arith

mul-more : (n B : ℕ) → 0 < B → n ≤ n * B
mul-more zero B pos = omega arith
mul-more (suc n) B pos = omega (arith, suc-mul n B, mul-more n B pos)

-- blocks enough for n bytes
long-enough : (B : ℕ) → 0 < B → (o m n : ℕ) → n ≤ (o / B + (m + n + 1)) * B - o
long-enough B pos o m n =
    let split : (o / B + (m + n + 1)) * B ≡ o / B * B + (m + n + 1) * B = add-mul (o / B) (m + n + 1) B in
    let one : m + n + 1 ≡ suc (m + n) = omega arith in
    let more : (m + n + 1) * B ≡ (m + n) * B + B = ap (λ (x : ℕ). x * B) one ∙ suc-mul (m + n) B in
    let each : m + n ≤ (m + n) * B = mul-more (m + n) B pos in
    omega (arith, div-add-mod' o B, mod-lt o pos)

-- ---- a granted write
pub record WriteGrant (B : ℕ) (img nm : List ℕ) (o : ℕ) (bs : List ℕ) : Type 0 where
  pub low : slot_of B (view B img) nm < slots B
  pub reach : o ≤ size (view B img) (slot_of B (view B img) nm)
  pub answer : (write B img nm o bs).answer ≡ transferred (counted (view B img) (slot_of B (view B img) nm) o (length bs)) (blocks_met B o (counted (view B img) (slot_of B (view B img) nm) o (length bs)))
  -- the image of any write of that name
  pub image : (w : List ℕ) → (write B img nm o w).image ≡ step (files_of B (view B img)) img (put (slot_of B (view B img) nm) o w)

pub write-grant : (B : ℕ) (img : List ℕ) → Passed B img → (nm : List ℕ) (o : ℕ) (bs : List ℕ) → T (granted (write B img nm o bs).answer) → WriteGrant B img nm o bs
unfolding request put_of transfer_view transfer_answer
write-grant B img p nm o bs g =
    let v : View = view B img in
    let h : slot_for B (view B img) nm < slots B = write_granted B img p nm o bs g in
    let hit = slot_for-hit B (view B img) nm h in
    let s : ℕ = slot_of B (view B img) nm in
    let l : slot_of B (view B img) nm < slots B = subst (λ (x : ℕ). x < slots B) hit.1 h in
    let t : (write B img nm o bs).answer ≡ transfer_answer B (view B img) (slot_of B (view B img) nm) o (length bs) = write-answer B img nm o bs p ∙ ap (λ (x : Lookup). looked x refused (λ s. transfer_answer B (view B img) s o (length bs))) (lookup-there B (view B img) nm hit.0 l) in
    let r : T (not (ltb (size (view B img) (slot_of B (view B img) nm)) o)) = by-test (ltb (size (view B img) (slot_of B (view B img) nm)) o) (λ u. absurd (subst (λ (a : Answer). T (granted a)) (t ∙ cond_yes (ltb (size (view B img) (slot_of B (view B img) nm)) o) (refused 15 0) _ u) g)) (λ u. u) in
    record {
      low = l;
      reach = nltb→le (size (view B img) (slot_of B (view B img) nm)) o r;
      answer = t ∙ cond_no (ltb (size (view B img) (slot_of B (view B img) nm)) o) (refused 15 0) _ r;
      image = λ w. (request-image B img p (wr nm o w) ∙ ap (λ (x : ℕ). step (files_of B (view B img)) img (put x o w)) hit.1);
    }

-- ---- the three requests
module _ (B : ℕ) (sz : BlockSize B) (img : List ℕ) (ok : Consistent B img) where
  pos : 0 < B
  pos = omega (arith, sz.large)

  passed : Passed B img
  passed = (check-means B sz img).1 ok

  pub stored : (c : Change) → T (granted (perform B img c).answer) → Stored B img c
  unfolding perform remove_stores
  stored (creates nm z) g =
      let gr : CreateGrant B (view B img) nm z = create-granted B img passed nm z g in
      let e = create-stores B sz img ok nm z gr in
      record {
        fits = subst (Fits B (length img)) (sym e) (fits-append B (length img) (zero_stores B (made.bs B sz img ok nm z gr)) (made.lasts B sz img ok nm z gr) (made.fits0 B sz img ok nm z gr) (made.fits1 B sz img ok nm z gr));
        apart = subst Apart (sym e) (create-apart B sz img ok nm z gr);
        inside = subst (λ (xs : List Store). (i : ℕ) → i < length xs → (nth xs i).at < blocks B img) (sym e) (create-inside B sz img ok nm z gr);
        all = sym (create-image B img passed nm z g);
        number = create-length B sz img ok nm z gr;
      }
  stored (removes nm) g =
      let hit : slot_of B (view B img) nm < slots B = remove-granted B img passed nm g in
      record {
        fits = removed.fits B sz img ok nm hit;
        apart = (((λ e. omega arith), tt), (tt, tt));
        inside = two;
        all = sym (remove-image B img passed nm g);
        number = refl;
      }
    where
      two : (i : ℕ) → i < 2 → (nth (remove_stores B (view B img) nm) i).at < blocks B img
      two zero l = omega (arith, three-blocks B pos img ok)
      two (suc zero) l = omega (arith, three-blocks B pos img ok)
      two (suc (suc i)) l = absurd (omega arith)
  stored (writes nm o bs) g =
      let w : WriteGrant B img nm o bs = write-grant B img passed nm o bs g in
      let s : ℕ = slot_of B (view B img) nm in
      let f : File B (view B img) (slot_of B (view B img) nm) = (slot-hit B (view B img) nm w.low).0 in
      record {
        fits = pieces.fits B pos img ok.sound s f o bs w.reach;
        apart = pieces.apart B pos img ok.sound s f o bs w.reach;
        inside = λ i h.
            (let l : i < blocks_met B o (counted (view B img) (slot_of B (view B img) nm) o (length bs)) = omega (arith, pieces.length-xs B pos img ok.sound s f o bs w.reach) in
            subst (λ (x : Store). x.at < blocks B img) (sym (pieces.nth-xs B pos img ok.sound s f o bs w.reach i l))
            (subst (λ (n : ℕ). number (view B img) s (o / B + i) < n) (view-n B img) (ok.sound.inside s (o / B + i) f (pieces.met-listed B pos img ok.sound s f o bs w.reach i l)).high));
        all = whole w f;
        number = pieces.length-xs B pos img ok.sound s f o bs w.reach ∙ sym (ap met_of w.answer);
      }
    where
      whole : (w : WriteGrant B img nm o bs) → File B (view B img) (slot_of B (view B img) nm) → store_all B img (stores_of B img (writes nm o bs)) ≡ (write B img nm o bs).image
      whole w f =
          let s : ℕ = slot_of B (view B img) nm in
          let j : ℕ = length (stores_of B img (writes nm o bs)) + length bs + 1 in
          ap (store_all B img) (sym (take_all (length (stores_of B img (writes nm o bs)) + length bs + 1) (stores_of B img (writes nm o bs)) (omega arith)))
          ∙ pieces.cut-is B pos img ok.sound s f o bs w.reach (length (stores_of B img (writes nm o bs)) + length bs + 1)
          ∙ ap (λ (x : List ℕ). step (files_of B (view B img)) img (put s o x)) (take_all ((o / B + (length (stores_of B img (writes nm o bs)) + length bs + 1)) * B - o) bs (long-enough B pos o (length (stores_of B img (writes nm o bs))) (length bs)))
          ∙ sym (w.image bs)

-- ---- what a fetch gives
abbrev pub lacks : ℕ → ℕ → ℕ → ℕ → Bool
lacks k n len B = eqb k 0 || (ltb n k || ltb len B)

-- the image stays
pub fetch-image : (B : ℕ) (img : List ℕ) (c : Change) (k : ℕ) (buf : List ℕ) → (fetch B img c k buf).image ≡ img
unfolding fetch fetch_store
fetch-image B img c k buf =
    by-test (granted (perform B img c).answer)
    (λ g.
    ap (λ (o : Outcome). o.image) (cond_yes (granted (perform B img c).answer) _ _ g)
    ∙ by-test (eqb k 0 || (ltb (length (stores_of B img c)) k || ltb (length buf) B))
    (λ t. ap (λ (o : Outcome). o.image) (cond_yes (eqb k 0 || (ltb (length (stores_of B img c)) k || ltb (length buf) B)) _ _ t))
    (λ t. ap (λ (o : Outcome). o.image) (cond_no (eqb k 0 || (ltb (length (stores_of B img c)) k || ltb (length buf) B)) _ _ t)))
    (λ g. ap (λ (o : Outcome). o.image) (cond_no (granted (perform B img c).answer) _ _ g))

module _ (B : ℕ) (img : List ℕ) (c : Change) (g : T (granted (perform B img c).answer)) (k : ℕ) (buf : List ℕ) where
  fetch-is : fetch B img c k buf ≡ fetch_store B img (stores_of B img c) k buf
  unfolding fetch
  fetch-is = cond_yes (granted (perform B img c).answer) _ _ g

  abbrev pub missing : Bool
  missing = lacks k (length (stores_of B img c)) (length buf) B

  pub fetch-none : T missing → fetch B img c k buf ≡ record { answer = refused 32 0; image = img; buffer = buf }
  unfolding fetch_store
  fetch-none t = fetch-is ∙ cond_yes missing _ _ t

  pub fetch-some : T (not missing) → fetch B img c k buf ≡ record { answer = value (kth k (stores_of B img c)).at; image = img; buffer = (kth k (stores_of B img c)).bytes ++ drop B buf }
  unfolding fetch_store
  fetch-some t = fetch-is ∙ cond_no missing _ _ t

pub none-missing : (k n len B : ℕ) → T (not (eqb k 0 || (ltb n k || ltb len B))) → (1 ≤ k) × (k ≤ n) × (B ≤ len)
none-missing k n len B t =
    by-test (eqb k 0) (λ a. absurd (T_not (eqb k 0 || (ltb n k || ltb len B)) t (or_l (eqb k 0) _ a)))
    (λ a.
    by-test (ltb n k) (λ b. absurd (T_not (eqb k 0 || (ltb n k || ltb len B)) t (or_r (eqb k 0) _ (or_l (ltb n k) _ b))))
    (λ b.
    by-test (ltb len B) (λ d. absurd (T_not (eqb k 0 || (ltb n k || ltb len B)) t (or_r (eqb k 0) _ (or_r (ltb n k) _ d))))
    (λ d. (positive k a, nltb→le n k b, nltb→le len B d))))
  where
    positive : (k : ℕ) → T (not (eqb k 0)) → 1 ≤ k
    positive zero t = absurd t
    positive (suc k) t = omega arith

pub why-missing : (k n len B : ℕ) → T (eqb k 0 || (ltb n k || ltb len B)) → (k ≡ 0) ⊎ ((n < k) ⊎ (len < B))
why-missing k n len B t =
    by-test (eqb k 0) (λ a. inl (eqb→eq k 0 a))
    (λ a.
    let r : T (ltb n k || ltb len B) = or-second (eqb k 0) _ a t in
    by-test (ltb n k) (λ b. inr (inl (ltb→lt n k b))) (λ b. inr (inr (ltb→lt len B (or-second (ltb n k) _ b r)))))

pub not-missing : (k n len B : ℕ) → 1 ≤ k → k ≤ n → B ≤ len → T (not (eqb k 0 || (ltb n k || ltb len B)))
not-missing k n len B l h r =
    not_T (eqb k 0 || (ltb n k || ltb len B)) (λ t. ⊎_elim (λ x. omega arith) (λ w. ⊎_elim (λ x. omega arith) (λ x. omega arith) w) (why-missing k n len B t))

-- each is a whole block
full-nth : (B len : ℕ) (xs : List Store) → Fits B len xs → (i : ℕ) → i < length xs → length (nth xs i).bytes ≡ B
full-nth B len [] f i h = absurd (omega arith)
full-nth B len (x ∷ xs) f zero h = f.0
full-nth B len (x ∷ xs) f (suc i) h = full-nth B len xs f.1.1 i (omega arith)

-- ---- the statement
module _ (B : ℕ) (sz : BlockSize B) (img : List ℕ) (ok : Consistent B img) (c : Change) (g : T (granted (perform B img c).answer)) where
  abbrev xs : List Store
  xs = stores_of B img c

  known : Stored B img c
  known = stored B sz img ok c g

  pub cut-granted : (j : ℕ) → cut B img c j ≡ store_all B img (take j (stores_of B img c))
  unfolding cut
  cut-granted j = cond_yes (granted (perform B img c).answer) _ _ g

  block_new : (k : ℕ) → 1 ≤ k → k ≤ length xs → (kth k xs).bytes ≡ block B (perform B img c).image (kth k xs).at
  block_new k l h =
      sym (prefix-new B xs img (length xs) (k - 1) known.fits known.apart (omega arith) (omega arith))
      ∙ ap (λ (x : List ℕ). block B x (kth k xs).at) (ap (store_all B img) (take_all (length xs) xs (omega arith)) ∙ known.all)

  -- the buffer after a fetch that grants
  pub fetch-buffer : (k : ℕ) (buf : List ℕ) → T (not (missing B img c g k buf)) → (fetch B img c k buf).buffer ≡ block B (perform B img c).image (kth k xs).at ++ drop B buf
  fetch-buffer k buf t =
      let i = none-missing k (length xs) (length buf) B t in
      ap (λ (o : Outcome). o.buffer) (fetch-some B img c g k buf t) ∙ ap (λ (x : List ℕ). x ++ drop B buf) (block_new k i.0 i.1)

  far : (q : ℕ) → ((k : ℕ) → 1 ≤ k → k ≤ length xs → q / B ≢ (kth k xs).at) → Away (q / B) xs
  far q h = away-all (q / B) xs (λ i l e. h (suc i) (omega arith) (omega arith) (e ∙ ap (λ (x : ℕ). (nth xs x).at) (omega arith)))

  pub store-law : StoreLaws B img c
  store-law = record {
    all = known.all;
    number = known.number;
    inside = λ k l h. known.inside (k - 1) (omega arith);
    once = λ i k l m h. apart-nth xs known.apart (i - 1) (k - 1) (omega arith) (omega arith);
    full = λ k l h. full-nth B (length img) xs known.fits (k - 1) (omega arith);
    bytes = block_new;
    fetched = λ k buf l h r. fetch-some B img c g k buf (not-missing k (length xs) (length buf) B l h r);
    new = λ j k l m h. (ap (λ (x : List ℕ). block B x (kth k xs).at) (cut-granted j) ∙ prefix-new B xs img j (k - 1) known.fits known.apart (omega arith) (omega arith) ∙ block_new k l h);
    old = λ j k m h. (ap (λ (x : List ℕ). block B x (kth k xs).at) (cut-granted j) ∙ prefix-old B xs img j (k - 1) known.fits known.apart (omega arith) (omega arith));
    others = λ j q h. (
        ap (λ (x : ℕ). get_or (cut B img c j) x 0) (sym (div-add-mod' q B))
        ∙ block-byte B (cut B img c j) img (q / B) (q % B) (mod-lt q (omega (arith, sz.large)))
        (ap (λ (x : List ℕ). block B x (q / B)) (cut-granted j) ∙ prefix-away B xs img j (q / B) known.fits (away-take (q / B) xs j (far q h)))
        ∙ ap (λ (x : ℕ). get_or img x 0) (div-add-mod' q B));
    long = λ j. (ap length (cut-granted j) ∙ prefix-long B xs img j known.fits);
  }
