-- The stores of a store and of an opening: what is fetched of them, a chip driven with it, and its cuts.
use Rattle.std.specs.Prelude.{◌≡◌, refl, ◌≢◌, ◌⊎◌, Bool, true, false, not, ◌||◌, ℕ, zero, suc, ◌+◌, ◌-◌, ◌≤◌, ◌<◌, length, get_or, take, drop, T, ltb, eqb}
use Rattle.std.proofs.Common.{sym, subst, ◌∙◌, inl, inr, arith, length-append, take_all, take_at, take-suc, get_or-append-add, lt→ltb, ltb→lt, eqb→eq}
use Rattle.std.proofs.Math.Path.{ap}
use mathlib.Core.List.{List, [], ◌∷◌, ◌++◌, append-nil}
use Rattle.std.proofs.Math.Option.{Option, none, some}
use Rattle.std.proofs.Math.Decide.{dec_lt}
use Rattle.std.proofs.lemmas.List.{length-replicate}
use Rattle.std.proofs.Math.ListN.{get_or-append}
use Rattle.std.proofs.Math.Dec.{not_T}
use Rattle.lists.specs.Lists.{zeros}
use Rattle.list_laws.specs.Test.{cond_yes, cond_no, or_l, or_r, eqb_of}
use Rattle.tfs_spec.specs.Layout.{BlockSize, blocks, set_block}
use Rattle.tfs_spec.specs.Consistent.{Consistent}
use Rattle.tfs_spec.specs.Requests.{Answer, value, granted, count_of, Outcome, Store, store, store_all, create, Change, creates, writes, perform, stores_of, kth}
use Rattle.tfs_spec.specs.Laws.{Statements}
use Rattle.timing_spec.specs.Timing as file
use Rattle.timing_spec.specs.Timing.{TIMING, Timing, Fits, timing_bytes, standing, after_changes, made, all_stores, fetched, cut_behind, store_answer, store_changes, store_block, store_cut, open_answer, open_changes, open_lid, open_lid_block, open_lid_cut}
use Rattle.timing_spec.specs.Laws.{driven, Series, PowerLaws}
use Rattle.timing_proofs.specs.Form as form
use Rattle.timing_proofs.specs.Rules.{none-some}
use Rattle.timing_proofs.specs.Changes.{write_granted}
use Rattle.timing_proofs.specs.Effects.{Way, replaces, makes, way, open-found}
use Rattle.timing_proofs.specs.Power.{all-behind, create-four, open-again, store-whole-by, store-one-by, store-five-by, lid-alone, lid-whole, lid-one, store-mended, store-left, store-boots, store-again, open-mended, open-boots}
use Rattle.timing_proofs.specs.Blocks.{missing, fetch-missing, fetch-some, filled-block}

none_of : (a b c : Bool) → (T a → ⊥) → (T b → ⊥) → (T c → ⊥) → T (a || (b || c)) → ⊥
none_of true b c f g h t = f t
none_of false true c f g h t = g t
none_of false false c f g h t = h t

-- whole blocks of the volume
abbrev Whole : ℕ → List ℕ → List Store → Type 0
Whole B img xs = (k : ℕ) → 1 ≤ k → k ≤ length xs → ((kth k xs).at < blocks B img) × (length (kth k xs).bytes ≡ B)

-- ---- any series
module _ (B : ℕ) (img : List ℕ) (a : Answer) (cs : List Change) where
  abbrev xs : List Store
  xs = all_stores B img cs

  is-missing : (k : ℕ) (buf : List ℕ) → (k ≡ 0) ⊎ ((length xs < k) ⊎ (length buf < B)) → T (missing B (length xs) k buf)
  is-missing k buf (inl e) = or_l (eqb k 0) _ (eqb_of e)
  is-missing k buf (inr (inl h)) = or_r (eqb k 0) _ (or_l (ltb (length xs) k) _ (lt→ltb (length xs) k h))
  is-missing k buf (inr (inr h)) = or_r (eqb k 0) _ (or_r (ltb (length xs) k) _ (lt→ltb (length buf) B h))

  not-missing : (k : ℕ) (buf : List ℕ) → 1 ≤ k → k ≤ length xs → B ≤ length buf → T (not (missing B (length xs) k buf))
  not-missing k buf l h r = not_T (missing B (length xs) k buf) (λ t. none_of (eqb k 0) (ltb (length xs) k) (ltb (length buf) B) (λ u. omega (arith, eqb→eq k 0 u, l)) (λ u. omega (arith, ltb→lt (length xs) k u, h)) (λ u. omega (arith, ltb→lt (length buf) B u, r)) t)

  -- the first j and one more
  stored_next : (j : ℕ) → j < length xs → store_all B img (take (suc j) xs) ≡ set_block B (store_all B img (take j xs)) (kth (suc j) xs).at (kth (suc j) xs).bytes
  stored_next j h =
      let place : suc j - 1 ≡ j = omega arith in
      ap (store_all B img) (take-suc xs j (store 0 []) h)
      ∙ all-behind B (take j xs) (get_or xs j (store 0 []) ∷ []) img
      ∙ ap (λ (n : ℕ). set_block B (store_all B img (take j xs)) (get_or xs n (store 0 [])).at (get_or xs n (store 0 [])).bytes) (sym place)

  module _ (g : T (granted a)) (full : (k : ℕ) → 1 ≤ k → k ≤ length xs → length (kth k xs).bytes ≡ B) where
    given : (k : ℕ) (buf : List ℕ) → 1 ≤ k → k ≤ length xs → B ≤ length buf → fetched B img a cs k buf ≡ record { answer = value (kth k xs).at; image = img; buffer = (kth k xs).bytes ++ drop B buf }
    given k buf l h r = cond_yes (granted a) _ _ g ∙ fetch-some B img xs k buf (not-missing k buf l h r)

    chip-holds : (buf : ℕ → List ℕ) → ((k : ℕ) → B ≤ length (buf k)) → (j : ℕ) → j ≤ length xs → driven B img (λ k. fetched B img a cs k (buf k)) j ≡ cut_behind B img a cs j
    chip-holds buf r zero h = sym (cond_yes (granted a) _ _ g)
    chip-holds buf r (suc j) h =
        let o : fetched B img a cs (suc j) (buf (suc j)) ≡ _ = given (suc j) (buf (suc j)) (omega arith) h (r (suc j)) in
        ap (λ (x : List ℕ). set_block B x (count_of (fetched B img a cs (suc j) (buf (suc j))).answer) (take B (fetched B img a cs (suc j) (buf (suc j))).buffer)) (chip-holds buf r j (omega arith) ∙ cond_yes (granted a) _ _ g)
        ∙ ap (λ (x : Outcome). set_block B (store_all B img (take j xs)) (count_of x.answer) (take B x.buffer)) o
        ∙ ap (λ (l : List ℕ). set_block B (store_all B img (take j xs)) (kth (suc j) xs).at l) (take_at (kth (suc j) xs).bytes (drop B (buf (suc j))) B (full (suc j) (omega arith) h))
        ∙ sym (stored_next j (omega arith))
        ∙ sym (cond_yes (granted a) _ _ g)

  series-law : (T (granted a) → store_all B img xs ≡ after_changes B img cs) → (T (granted a) → Whole B img xs) → Series B img a (made B img a cs).image xs (fetched B img a cs) (cut_behind B img a cs)
  series-law all w = record {
    refused = λ f k buf. cond_no (granted a) _ _ (not_T (granted a) f);
    uncut = λ f j. cond_no (granted a) _ _ (not_T (granted a) f);
    unfetched = λ g k buf v. (cond_yes (granted a) _ _ g ∙ fetch-missing B img xs k buf (is-missing k buf v));
    fetched = λ g. given g (λ k l h. (w g k l h).1);
    inside = λ g k l h. (w g k l h).0;
    full = λ g k l h. (w g k l h).1;
    chip = λ g. chip-holds g (λ k l h. (w g k l h).1);
    whole = λ g j h. (cond_yes (granted a) _ _ g ∙ ap (store_all B img) (take_all j xs h) ∙ all g ∙ sym (cond_yes (granted a) _ _ g));
  }

-- ---- whole blocks
module _ (book : Statements) (B : ℕ) (sz : BlockSize B) (img : List ℕ) (ok : Consistent B img) where
  change-whole : (c : Change) → T (granted (perform B img c).answer) → Whole B img (stores_of B img c)
  change-whole c g k l h = let law = book.store-laws B sz img ok c g in (law.inside k l h, law.full k l h)

  -- one more store to a block of the volume
  more-whole : (xs : List Store) (b : ℕ) (bytes : List ℕ) → Whole B img xs → b < blocks B img → length bytes ≡ B → Whole B img (xs ++ (store b bytes ∷ []))
  more-whole xs b bytes w inside full k l h =
      elim (dec_lt (length xs) k) [
        | yes m ↦ (
            let place : k - 1 ≡ length xs + 0 = omega (arith, m, h, length-append xs (store b bytes ∷ [])) in
            let last : kth k (xs ++ (store b bytes ∷ [])) ≡ store b bytes = ap (λ (n : ℕ). get_or (xs ++ (store b bytes ∷ [])) n (store 0 [])) place ∙ get_or-append-add xs (store b bytes ∷ []) 0 (store 0 []) in
            (subst (λ (x : Store). x.at < blocks B img) (sym last) inside, ap (λ (x : Store). length x.bytes) last ∙ full))
        | no m ↦ (
            let same : kth k (xs ++ (store b bytes ∷ [])) ≡ kth k xs = get_or-append xs (store b bytes ∷ []) (store 0 []) (k - 1) (omega arith) in
            let here = w k l (omega arith) in
            (subst (λ (x : Store). x.at < blocks B img) (sym same) here.0, ap (λ (x : Store). length x.bytes) same ∙ here.1))
      ]

  create-grant : T (granted (create B img TIMING 64).answer) → T (granted (perform B img (creates TIMING 64)).answer)
  unfolding perform
  create-grant c = c

  module _ (t : Timing) (fits : Fits t) where
    abbrev bs : List ℕ
    bs = timing_bytes t

    abbrev put : List Store
    put = all_stores B img (store_changes (standing B img) t)

    big : length bs ≡ 64
    big = form.long book t fits

    over_by : (old : Option (List ℕ)) → standing B img ≡ old → standing B img ≢ none → put ≡ stores_of B img (writes TIMING 0 bs)
    over_by none e f = absurd (f e)
    over_by (some old) e f = ap (λ (o : Option (List ℕ)). all_stores B img (store_changes o t)) e ∙ append-nil (stores_of B img (writes TIMING 0 bs))

    store-over : standing B img ≢ none → put ≡ stores_of B img (writes TIMING 0 bs)
    store-over f = over_by (standing B img) refl f

    new_by : standing B img ≡ none → T (granted (create B img TIMING 64).answer) → put ≡ stores_of B img (creates TIMING 64) ++ (store (kth 1 (stores_of B img (creates TIMING 64))).at (bs ++ zeros (B - 64)) ∷ [])
    unfolding perform
    new_by e c =
        ap (λ (o : Option (List ℕ)). all_stores B img (store_changes o t)) e
        ∙ ap (λ (l : List Store). stores_of B img (creates TIMING 64) ++ l) (filled-block book B sz img ok bs big c)

    module _ (g : T (granted (file.store B img t).answer)) where
      by_way : {P : Type 0} → Way book B sz img → ((old : List ℕ) → standing B img ≡ some old → P) → (standing B img ≡ none → T (granted (create B img TIMING 64).answer) → P) → P
      by_way (replaces old e z) f h = f old e
      by_way (makes e c) f h = h e c

      store-new : standing B img ≡ none → put ≡ stores_of B img (creates TIMING 64) ++ (store (kth 1 (stores_of B img (creates TIMING 64))).at (bs ++ zeros (B - 64)) ∷ [])
      store-new e = by_way (way book B sz img t g) (λ old f. absurd (none-some (sym e ∙ f))) new_by

      store-whole : Whole B img put
      store-whole =
          by_way (way book B sz img t g)
          (λ old e. subst (Whole B img) (sym (store-over (λ n. none-some (sym n ∙ e)))) (change-whole (writes TIMING 0 bs) (write_granted book B sz img ok old e bs)))
          (λ e c.
          let first = book.store-laws B sz img ok (creates TIMING 64) (create-grant c) in
          let all : length (bs ++ zeros (B - 64)) ≡ B = length-append bs (zeros (B - 64)) ∙ omega (arith, big, length-replicate {A = ℕ} (B - 64) 0, sz.large) in
          subst (Whole B img) (sym (new_by e c))
          (more-whole (stores_of B img (creates TIMING 64)) (kth 1 (stores_of B img (creates TIMING 64))).at (bs ++ zeros (B - 64)) (change-whole (creates TIMING 64) (create-grant c))
          (first.inside 1 (omega arith) (omega (arith, create-four book B sz img ok e c))) all))

  lid-stores-whole : T (granted (open_lid B img).answer) → Whole B img (all_stores B img open_changes)
  lid-stores-whole g =
      subst (Whole B img) (sym (lid-alone book B sz img ok g))
      (change-whole (writes TIMING 0 (zeros 4)) (write_granted book B sz img ok (open-found book B sz img g).0 (open-found book B sz img g).1 (zeros 4)))

  -- ---- the two
  store-series : (t : Timing) → Fits t → Series B img (file.store B img t).answer (file.store B img t).image (all_stores B img (store_changes (standing B img) t)) (store_block B img t) (store_cut B img t)
  unfolding file.store store_block store_cut
  store-series t fits =
      series-law B img (store_answer B img t.board) (store_changes (standing B img) t)
      (λ g. store-whole-by book B sz img ok t g fits (way book B sz img t g) ∙ cond_yes (granted (store_answer B img t.board)) _ _ g) (λ g. store-whole t fits g)

  open-series : Series B img (open_lid B img).answer (open_lid B img).image (all_stores B img open_changes) (open_lid_block B img) (open_lid_cut B img)
  unfolding open_lid open_lid_block open_lid_cut
  open-series = series-law B img (open_answer B img) open_changes (λ g. lid-whole book B sz img ok g ∙ cond_yes (granted (open_answer B img)) _ _ g) lid-stores-whole

  pub power-law : PowerLaws B img
  power-law = record {
    store-series = store-series;
    store-over = store-over;
    store-new = store-new;
    store-one = λ t fits g some-file. store-one-by book B sz img ok t g fits some-file (way book B sz img t g);
    store-five = λ t fits g no-file. store-five-by book B sz img ok t g fits no-file (way book B sz img t g);
    open-series = open-series;
    open-over = append-nil (stores_of B img (writes TIMING 0 (zeros 4)));
    open-one = lid-one book B sz img ok;
    store-mended = store-mended book B sz img ok;
    open-mended = open-mended book B sz img ok;
    store-leaves = store-left book B sz img ok;
    store-boots = store-boots book B sz img ok;
    open-boots = open-boots book B sz img ok;
    open-again = open-again book B sz img ok;
    store-again = store-again book B sz img ok;
  }
