-- Power taken in a store or an opening.
use Rattle.std.specs.Prelude.{◌≡◌, refl, ◌≢◌, ◌⊎◌, not, take, drop, T, ltb}
use Rattle.std.proofs.Math.Path.{sym, ap, subst}
use Rattle.std.proofs.Common.{◌∙◌, inl, inr, arith, zero-mul, zero-add, suc-mul, length-append, length-drop, take_all, lt→ltb, T_not}
use Rattle.std.proofs.Math.Bool.{Bool, cond}
use Prim.Native.Nat.{ℕ, zero, suc, ◌+◌, ◌-◌, ◌*◌, ◌/◌, ◌≤◌, ◌<◌, min}
use mathlib.Core.List.{List, [], ◌∷◌, ◌++◌, append-nil}
use Rattle.std.proofs.Math.Option.{Option, none, some, map}
use Rattle.std.proofs.Math.Decide.{dec_lt}
use Rattle.std.proofs.Math.Nat.{zero-div}
use Rattle.std.proofs.Math.ListN.{length}
use Rattle.std.proofs.lemmas.List.{take-append-le}
use Rattle.std.proofs.Math.Seq.{take-append-add}
use Rattle.std.proofs.Math.Dec.{ltb→lt, not_T}
use Rattle.lists.specs.Lists.{zeros, sum}
use Rattle.list_laws.specs.Test.{by-test, cond_yes, cond_no}
use Rattle.tfs_spec.specs.Layout.{BlockSize, need, same_name, View, view, contents}
use Rattle.tfs_spec.specs.Consistent.{Consistent}
use Rattle.tfs_spec.specs.Requests.{done, granted, met_of, Outcome, Store, store_all, create, blocks_met, Change, creates, writes, perform, stores_of, cut, mend, changes, Operation, requests, after_all}
use Rattle.tfs_spec.specs.Answers.{holds_part}
use Rattle.tfs_spec.specs.Cuts.{SameFiles, Leaves, reached}
use Rattle.tfs_spec.specs.Laws.{Statements}
use Rattle.timing_spec.specs.Timing.{TIMING, Timing, Fits, timing_bytes, standing, all_stores, store_answer, store_changes, store, store_cut, open_answer, open_changes, open_lid, open_lid_cut, boot_on, boot}
use Rattle.timing_spec.specs.Laws as rule
use Rattle.timing_spec.specs.Laws.{StoreRule, NoValues, Unset, Mended, Left}
use Rattle.timing_proofs.specs.Form as form
use Rattle.timing_proofs.specs.Verdicts.{boot-by}
use Rattle.timing_proofs.specs.Rules.{none-some, rule-law, granted-done, granted-by}
use Rattle.timing_proofs.specs.Changes.{made-consistent, create-stands, create-stays, under, write-answer, write_granted, write-lays}
use Rattle.timing_proofs.specs.Effects.{Way, replaces, makes, way, board-set, store_keeps, store-image, stored, open-found, open-image, opened}
use Rattle.timing_proofs.specs.Unset.{unset-zeros, unset-after-opening, unset-boots}

pub by_side : {P Q R : Type 0} → P ⊎ Q → (P → R) → (Q → R) → R
by_side (inl x) f g = f x
by_side (inr x) f g = g x

-- ---- what is refused has no stores
module _ (B : ℕ) (img : List ℕ) where
  pub refused-cut : (t : Timing) (j : ℕ) → T (not (granted (store B img t).answer)) → store_cut B img t j ≡ img
  unfolding store store_cut
  refused-cut t j n = cond_no (granted (store_answer B img t.board)) _ _ n

  pub lid-refused : (j : ℕ) → T (not (granted (open_lid B img).answer)) → open_lid_cut B img j ≡ img
  unfolding open_lid open_lid_cut
  lid-refused j n = cond_no (granted (open_answer B img)) _ _ n

-- ---- stores one after another
pub all-behind : (B : ℕ) (xs ys : List Store) (img : List ℕ) → store_all B img (xs ++ ys) ≡ store_all B (store_all B img xs) ys
all-behind B [] ys img = refl
all-behind B (x ∷ xs) ys img = all-behind B xs ys _

module _ (book : Statements) (B : ℕ) (sz : BlockSize B) where
  -- bytes from the start of a block on, no more than it has, lie in one
  met-one : (c : ℕ) → 1 ≤ c → c ≤ B → blocks_met B 0 c ≡ 1
  unfolding sum
  met-one c h k =
      let f : ℕ → Bool = holds_part B (λ p. p) 0 c in
      let all : 0 + cond (f 0) 1 0 ≡ blocks_met B 0 c = book.blocks-met-laws.counts B (omega (arith, sz.large)) 0 c 1 (omega arith) in
      by-test (f 0) (λ t. sym all ∙ ap (λ (n : ℕ). 0 + n) (cond_yes (f 0) 1 0 t))
      (λ t. absurd (let e : c ≡ 0 = (book.blocks-met-laws.none B 0 c).0 (sym all ∙ ap (λ (n : ℕ). 0 + n) (cond_no (f 0) 1 0 t)) in omega (arith, e, h)))

  -- new, left by a cut and then mended, is consistent and has the files of old
  pub record Comes (new old : List ℕ) : Type 0 where
    pub mends : (mend B new).answer ≡ done
    pub consistent : Consistent B (mend B new).image
    pub files : SameFiles B (mend B new).image old

  comes-by : {new middle old : List ℕ} → Leaves B new middle → SameFiles B middle old → Comes new old
  comes-by l f = record { mends = l.mends; consistent = l.mended; files = λ nm. l.mended-files nm ∙ f nm }

  -- ---- a write of TIMING from its start on, of at most a block
  module _ (img : List ℕ) (ok : Consistent B img) (old : List ℕ) (at : standing B img ≡ some old) (bs : List ℕ) (small : length bs ≤ B) (fit : length bs ≤ length old) where
    abbrev w : Change
    w = writes TIMING 0 bs

    -- how many of its bytes are in the first j stores
    abbrev far : ℕ → ℕ
    far j = (0 / B + j) * B - 0

    pub write-cut : (j : ℕ) → store_all B img (take j (stores_of B img w)) ≡ cut B img w j
    unfolding cut
    write-cut j = sym (cond_yes (granted (perform B img w).answer) _ _ (write_granted book B sz img ok old at bs))

    write-leaves : (j : ℕ) → Leaves B (cut B img w j) (perform B img (writes TIMING 0 (take (far j) bs))).image
    unfolding after_all
    write-leaves j = (book.cut-laws B sz img ok).leaves [] w j

    far_none : far 0 ≡ 0
    far_none = ap (λ (x : ℕ). (x + 0) * B - 0) (zero-div B) ∙ ap (λ (x : ℕ). x - 0) (zero-mul B)

    far-all : (j : ℕ) → length bs ≤ far (suc j)
    far-all j = let e : (0 / B + suc j) * B ≡ j * B + B = ap (λ (x : ℕ). (x + suc j) * B) (zero-div B) ∙ ap (λ (x : ℕ). x * B) (zero-add (suc j)) ∙ suc-mul j B in omega (arith, e, small)

    -- cut before its store
    pub cut-first : Comes (store_all B img []) img
    cut-first =
        subst (λ (x : List ℕ). Comes x img) (sym (write-cut 0))
        (comes-by (write-leaves 0)
        (λ nm.
        ap (λ (n : ℕ). contents B (perform B img (writes TIMING 0 (take n bs))).image nm) far_none
        ∙ write-lays book B sz img ok old at [] (omega arith) nm
        ∙ by-test (same_name nm TIMING)
        (λ same. cond_yes (same_name nm TIMING) _ _ same ∙ sym (under book B sz img ok nm same ∙ at))
        (λ other. cond_no (same_name nm TIMING) _ _ other)))

    -- cut behind it
    pub cut-last : (j : ℕ) → Comes (store_all B img (take (suc j) (stores_of B img w))) (perform B img w).image
    cut-last j =
        subst (λ (x : List ℕ). Comes x (perform B img w).image) (sym (write-cut (suc j)))
        (comes-by (write-leaves (suc j)) (λ nm. ap (λ (l : List ℕ). contents B (perform B img (writes TIMING 0 l)).image nm) (take_all (far (suc j)) bs (far-all j))))

    -- its stores together, and that it is one
    pub write-whole : store_all B img (stores_of B img w) ≡ (perform B img w).image
    write-whole = (book.store-laws B sz img ok w (write_granted book B sz img ok old at bs)).all

    pub write-one : 1 ≤ length bs → length (stores_of B img w) ≡ 1
    unfolding perform
    write-one h =
        let c : ℕ = min (length bs) (length old - 0) in
        (book.store-laws B sz img ok w (write_granted book B sz img ok old at bs)).number
        ∙ ap met_of (write-answer book B sz img ok old at bs ∙ cond_no (ltb (length old) 0) _ _ (not_T (ltb (length old) 0) (λ t. omega (arith, ltb→lt (length old) 0 t))))
        ∙ met-one c (omega arith) (omega arith)

  -- ---- the series of a create and then of a write
  module _ (img : List ℕ) (ok : Consistent B img) (e : standing B img ≡ none) (g : T (granted (create B img TIMING 64).answer)) where
    abbrev c : Change
    c = creates TIMING 64

    abbrev new : List ℕ
    new = (create B img TIMING 64).image

    create-granted : T (granted (perform B img c).answer)
    unfolding perform
    create-granted = g

    pub created-at : standing B new ≡ some (zeros 64)
    created-at = create-stands book B sz img ok g TIMING ∙ cond_yes (same_name TIMING TIMING) _ _ (book.name-laws.itself TIMING)

    create-whole : store_all B img (stores_of B img c) ≡ new
    unfolding perform
    create-whole = (book.store-laws B sz img ok c create-granted).all

    pub create-four : length (stores_of B img c) ≡ 4
    create-four = (book.store-laws B sz img ok c create-granted).number ∙ ap (λ (n : ℕ). n + 3) (book.number-laws.one B sz 64 (omega arith) (omega (arith, sz.large))).0

    -- cut in the create: nothing, or from the last store on a file of zeros
    create-leaves : (j : ℕ) → Leaves B (store_all B img (take j (stores_of B img c))) (after_all B img (reached B c j))
    unfolding cut after_all
    create-leaves j =
        subst (λ (x : List ℕ). Leaves B x (after_all B img (reached B c j))) (cond_yes (granted (perform B img c).answer) _ _ create-granted) ((book.cut-laws B sz img ok).leaves [] c j)

    cut-early : (j : ℕ) → j < 4 → Comes (store_all B img (take j (stores_of B img c))) img
    unfolding after_all
    cut-early j h =
        let n : need B 64 ≡ 1 = (book.number-laws.one B sz 64 (omega arith) (omega (arith, sz.large))).0 in
        comes-by (create-leaves j) (λ nm. ap (λ (xs : List Operation). contents B (after_all B img xs) nm) (cond_yes (ltb j (need B 64 + 3)) [] _ (lt→ltb j (need B 64 + 3) (omega (arith, n, h)))))

    -- and then a volume like the old one
    early-view : (j : ℕ) → j < 4 → view B (mend B (store_all B img (take j (stores_of B img c)))).image ≡ view B img
    unfolding after_all
    early-view j h =
        let n : need B 64 ≡ 1 = (book.number-laws.one B sz 64 (omega arith) (omega (arith, sz.large))).0 in
        (create-leaves j).mended-view ∙ ap (λ (xs : List Operation). view B (after_all B img xs)) (cond_yes (ltb j (need B 64 + 3)) [] _ (lt→ltb j (need B 64 + 3) (omega (arith, n, h))))

    cut-created : (j : ℕ) → 4 ≤ j → Comes (store_all B img (take j (stores_of B img c))) new
    unfolding after_all perform
    cut-created j h =
        let n : need B 64 ≡ 1 = (book.number-laws.one B sz 64 (omega arith) (omega (arith, sz.large))).0 in
        comes-by (create-leaves j)
        (λ nm. ap (λ (xs : List Operation). contents B (after_all B img xs) nm) (cond_no (ltb j (need B 64 + 3)) [] (requests (changes c) ∷ []) (not_T (ltb j (need B 64 + 3)) (λ t. omega (arith, n, h, ltb→lt j (need B 64 + 3) t)))))

    -- cut anywhere in the two
    module _ (bs : List ℕ) (long : length bs ≡ 64) where
      abbrev xs : List Store
      xs = stores_of B img c

      abbrev ys : List Store
      ys = stores_of B new (writes TIMING 0 bs)

      both-whole : store_all B img (xs ++ ys) ≡ (perform B new (writes TIMING 0 bs)).image
      both-whole =
          all-behind B xs ys img ∙ ap (λ (x : List ℕ). store_all B x ys) create-whole
          ∙ write-whole new (create-stays book B sz img ok) (zeros 64) created-at bs (omega (arith, long, sz.large)) (omega (arith, long))

      both-five : length (xs ++ ys) ≡ 5
      both-five =
          let one : length ys ≡ 1 = write-one new (create-stays book B sz img ok) (zeros 64) created-at bs (omega (arith, long, sz.large)) (omega (arith, long)) (omega (arith, long)) in
          length-append xs ys ∙ omega (arith, create-four, one)

      cut-late : (j : ℕ) → Comes (store_all B img (take (4 + suc j) (xs ++ ys))) (perform B new (writes TIMING 0 bs)).image
      cut-late j =
          let split : take (4 + suc j) (xs ++ ys) ≡ xs ++ take (suc j) ys = ap (λ (n : ℕ). take (n + suc j) (xs ++ ys)) (sym create-four) ∙ take-append-add xs ys (suc j) in
          let image : store_all B img (take (4 + suc j) (xs ++ ys)) ≡ store_all B new (take (suc j) ys) =
          ap (store_all B img) split ∙ all-behind B xs (take (suc j) ys) img ∙ ap (λ (x : List ℕ). store_all B x (take (suc j) ys)) create-whole in
          subst (λ (x : List ℕ). Comes x (perform B new (writes TIMING 0 bs)).image) (sym image)
          (cut-last new (create-stays book B sz img ok) (zeros 64) created-at bs (omega (arith, long, sz.large)) (omega (arith, long)) j)

      in-create : (j : ℕ) → j ≤ 4 → store_all B img (take j (xs ++ ys)) ≡ store_all B img (take j xs)
      in-create j h = ap (store_all B img) (take-append-le j xs ys (omega (arith, create-four, h)))

  -- ---- a store and an opening
  module _ (img : List ℕ) (ok : Consistent B img) where
    -- a refused request has no stores
    unmoved : Comes img img
    unmoved =
        let sound : mend B img ≡ _ = (book.mend-laws B sz img).sound ok in
        let image : (mend B img).image ≡ img = ap (λ (o : Outcome). o.image) sound in
        record { mends = ap (λ (o : Outcome). o.answer) sound; consistent = subst (Consistent B) (sym image) ok; files = λ nm. ap (λ (x : List ℕ). contents B x nm) image }

    abbrev put : Timing → List Store
    put t = all_stores B img (store_changes (standing B img) t)

    module _ (t : Timing) where
      -- where its cut leads: before it, behind it, or to a file of zeros
      pub data AfterCut (new : List ℕ) : Type 0 where
        before : Comes new img → (standing B img ≡ none → view B (mend B new).image ≡ view B img) → AfterCut new
        behind : T (granted (store B img t).answer) → Comes new (store B img t).image → AfterCut new
        blank : standing B img ≡ none → T (granted (create B img TIMING 64).answer) → Comes new (create B img TIMING 64).image → AfterCut new

      module _ (g : T (granted (store B img t).answer)) where
        cut-put : (j : ℕ) (old : Option (List ℕ)) → standing B img ≡ old → store_cut B img t j ≡ store_all B img (take j (all_stores B img (store_changes old t)))
        unfolding store store_cut
        cut-put j old e = cond_yes (granted (store_answer B img t.board)) _ _ g ∙ ap (λ (o : Option (List ℕ)). store_all B img (take j (all_stores B img (store_changes o t)))) e

        module _ (fits : Fits t) where
          abbrev bs : List ℕ
          bs = timing_bytes t

          big : length bs ≡ 64
          big = form.long book t fits

          module _ (old : List ℕ) (e : standing B img ≡ some old) (z : length old ≡ 64) where
            pub alone : all_stores B img (store_changes (some old) t) ≡ stores_of B img (writes TIMING 0 bs)
            alone = append-nil (stores_of B img (writes TIMING 0 bs))

            replaced-cut : (j : ℕ) → AfterCut (store_cut B img t j)
            replaced-cut zero = before (subst (λ (x : List ℕ). Comes x img) (sym (cut-put 0 (some old) e)) (cut-first img ok old e bs (omega (arith, big, sz.large)) (omega (arith, big, z)))) (λ n. absurd (none-some (sym n ∙ e)))
            replaced-cut (suc j) =
                behind g
                (subst (λ (x : List ℕ). Comes x (store B img t).image) (sym (cut-put (suc j) (some old) e ∙ ap (λ (l : List Store). store_all B img (take (suc j) l)) alone))
                (subst (Comes (store_all B img (take (suc j) (stores_of B img (writes TIMING 0 bs))))) (sym (store-image book B sz img t g (some old) e))
                (cut-last img ok old e bs (omega (arith, big, sz.large)) (omega (arith, big, z)) j)))

          module _ (e : standing B img ≡ none) (c : T (granted (create B img TIMING 64).answer)) where
            abbrev first : List ℕ
            first = (create B img TIMING 64).image

            pub two : all_stores B img (store_changes none t) ≡ stores_of B img (creates TIMING 64) ++ stores_of B first (writes TIMING 0 bs)
            unfolding perform
            two = ap (λ (l : List Store). stores_of B img (creates TIMING 64) ++ l) (append-nil (stores_of B first (writes TIMING 0 bs)))

            cut-two : (j : ℕ) → store_cut B img t j ≡ store_all B img (take j (stores_of B img (creates TIMING 64) ++ stores_of B first (writes TIMING 0 bs)))
            cut-two j = cut-put j none e ∙ ap (λ (l : List Store). store_all B img (take j l)) two

            new-image : (store B img t).image ≡ (perform B first (writes TIMING 0 bs)).image
            unfolding perform
            new-image = store-image book B sz img t g none e

            created-cut : (j : ℕ) → AfterCut (store_cut B img t j)
            created-cut j =
                elim (dec_lt j 4) [
                  | yes h ↦ (
                      before (subst (λ (x : List ℕ). Comes x img) (sym (cut-two j ∙ in-create img ok e c bs big j (omega arith))) (cut-early img ok e c j h))
                      (λ n. ap (λ (x : List ℕ). view B (mend B x).image) (cut-two j ∙ in-create img ok e c bs big j (omega arith)) ∙ early-view img ok e c j h))
                  | no h ↦ (
                      elim (dec_lt 4 j) [
                        | yes l ↦ (
                            let k : 4 + suc (j - 5) ≡ j = omega arith in
                            behind g
                            (subst (λ (x : List ℕ). Comes x (store B img t).image) (ap (λ (n : ℕ). store_all B img (take n (stores_of B img (creates TIMING 64) ++ stores_of B first (writes TIMING 0 bs)))) k ∙ sym (cut-two j))
                            (subst (Comes (store_all B img (take (4 + suc (j - 5)) (stores_of B img (creates TIMING 64) ++ stores_of B first (writes TIMING 0 bs))))) (sym new-image) (cut-late img ok e c bs big (j - 5)))))
                        | no l ↦ blank e c (subst (λ (x : List ℕ). Comes x first) (sym (cut-two j ∙ in-create img ok e c bs big j (omega arith))) (cut-created img ok e c j (omega arith)))
                      ])
                ]

          granted-cut : Way book B sz img → (j : ℕ) → AfterCut (store_cut B img t j)
          granted-cut (replaces old e z) j = replaced-cut old e z j
          granted-cut (makes e c) j = created-cut e c j

      pub after-cut : Fits t → (j : ℕ) → AfterCut (store_cut B img t j)
      after-cut fits j =
          by-test (granted (store B img t).answer) (λ g. granted-cut g fits (way book B sz img t g) j)
          (λ n. before (subst (λ (x : List ℕ). Comes x img) (sym (refused-cut B img t j n)) unmoved) (λ e. ap (λ (x : List ℕ). view B (mend B x).image) (refused-cut B img t j n) ∙ ap (λ (o : Outcome). view B o.image) ((book.mend-laws B sz img).sound ok)))

    store-made : (t : Timing) → Consistent B (store B img t).image
    unfolding store
    store-made t = made-consistent book B sz img (store_answer B img t.board) (store_changes (standing B img) t) ok

    -- boot goes by the files
    boots-as : {new like : List ℕ} → Comes new like → Consistent B like → (board maker : ℕ) → boot B (mend B new).image board maker ≡ boot B like board maker
    boots-as {new} {like} x sound board maker =
        boot-by book B sz (mend B new).image x.consistent board maker
        ∙ ap (λ (o : Option (List ℕ)). boot_on o board maker) (x.files TIMING)
        ∙ sym (boot-by book B sz like sound board maker)

    boots-none : {new like : List ℕ} → Comes new like → Unset (standing B like) → (board maker : ℕ) → NoValues (boot B (mend B new).image board maker)
    boots-none {new} x d board maker = unset-boots book B sz (mend B new).image (subst Unset (sym (x.files TIMING)) d) board maker

    mended-as : {new like : List ℕ} → Comes new like → ((nm : List ℕ) → (T (same_name nm TIMING) → ⊥) → contents B like nm ≡ contents B img nm) → Mended B img new
    mended-as x same = record { mends = x.mends; consistent = x.consistent; others = λ nm other. x.files nm ∙ same nm other }

    -- ---- store
    module _ (t : Timing) (fits : Fits t) where
      -- a granted and a refused store leave the other names
      store-others : (nm : List ℕ) → (T (same_name nm TIMING) → ⊥) → contents B (store B img t).image nm ≡ contents B img nm
      store-others nm other =
          by-test (granted (store B img t).answer) (λ g. stored book B sz img t g fits nm ∙ cond_no (same_name nm TIMING) _ _ (not_T (same_name nm TIMING) other))
          (λ n. ap (λ (x : List ℕ). contents B x nm) (store_keeps book B sz img t (T_not (granted (store B img t).answer) n)))

      cut-mended : {new : List ℕ} → AfterCut t new → Mended B img new
      cut-mended (before x v) = mended-as x (λ nm other. refl)
      cut-mended (behind g x) = mended-as x store-others
      cut-mended (blank e c x) = mended-as x (λ nm other. create-stands book B sz img ok c nm ∙ cond_no (same_name nm TIMING) _ _ (not_T (same_name nm TIMING) other))

      pub cut-consistent : {new : List ℕ} → AfterCut t new → Consistent B (mend B new).image
      cut-consistent (before x v) = x.consistent
      cut-consistent (behind g x) = x.consistent
      cut-consistent (blank e c x) = x.consistent

      store-stands : T (granted (store B img t).answer) → standing B (store B img t).image ≡ some (timing_bytes t)
      store-stands g = stored book B sz img t g fits TIMING ∙ cond_yes (same_name TIMING TIMING) _ _ (book.name-laws.itself TIMING)

      cut_left : {new : List ℕ} → AfterCut t new → Left B img t (standing B (mend B new).image)
      cut_left (before x v) = subst (Left B img t) (sym (x.files TIMING)) rule.old
      cut_left (behind g x) = subst (Left B img t) (sym (x.files TIMING ∙ store-stands g)) rule.new
      cut_left (blank e c x) = subst (Left B img t) (sym (x.files TIMING ∙ created-at img ok e c)) (rule.blank e)

      cut-boots : {new : List ℕ} → AfterCut t new → (board maker : ℕ) → (boot B (mend B new).image board maker ≡ boot B img board maker) ⊎ ((boot B (mend B new).image board maker ≡ boot B (store B img t).image board maker) ⊎ NoValues (boot B (mend B new).image board maker))
      cut-boots (before x v) board maker = inl (boots-as x ok board maker)
      cut-boots (behind g x) board maker = inr (inl (boots-as x (store-made t) board maker))
      cut-boots (blank e c x) board maker = inr (inr (boots-none x (subst Unset (sym (created-at img ok e c)) (unset-zeros 64)) board maker))

      -- and the store is granted again
      module _ (g : T (granted (store B img t).answer)) where
        old-rule : StoreRule B (view B img) (standing B img) t.board done
        old-rule = let r = ((rule-law book B sz img ok).storing t (store B img t).answer).0 refl in subst (StoreRule B (view B img) (standing B img) t.board) (granted-done _ r g) r

        again-into : (new : List ℕ) {bytes : List ℕ} → Consistent B (mend B new).image → standing B (mend B new).image ≡ some bytes → length bytes ≡ 64 → T (granted (store B (mend B new).image t).answer)
        again-into new {bytes} sound at long = granted-by (((rule-law book B sz (mend B new).image sound).storing t done).1 (rule.replaced bytes (board-set book B sz img t g) at long))

        again_by : {new : List ℕ} → Comes new img → (standing B img ≡ none → view B (mend B new).image ≡ view B img) → Way book B sz img → T (granted (store B (mend B new).image t).answer)
        again_by {new} x v (replaces old e z) = again-into new x.consistent (x.files TIMING ∙ e) z
        again_by {new} x v (makes e c) =
            granted-by (((rule-law book B sz (mend B new).image x.consistent).storing t done).1
            (subst (λ (o : Option (List ℕ)). StoreRule B (view B (mend B new).image) o t.board done) (sym (x.files TIMING))
            (subst (λ (w : View). StoreRule B w (standing B img) t.board done) (sym (v e)) old-rule)))

        cut_again : {new : List ℕ} → AfterCut t new → T (granted (store B (mend B new).image t).answer)
        cut_again (before x v) = again_by x v (way book B sz img t g)
        cut_again {new} (behind g x) = again-into new x.consistent (x.files TIMING ∙ store-stands g) (form.long book t fits)
        cut_again {new} (blank e c x) = again-into new x.consistent (x.files TIMING ∙ created-at img ok e c) refl

    pub store-whole-by : (t : Timing) (g : T (granted (store B img t).answer)) → Fits t → Way book B sz img → store_all B img (put t) ≡ (store B img t).image
    unfolding perform
    store-whole-by t g fits (replaces old e z) =
        let big : length (timing_bytes t) ≡ 64 = form.long book t fits in
        ap (λ (o : Option (List ℕ)). store_all B img (all_stores B img (store_changes o t))) e ∙ ap (store_all B img) (alone t g fits old e z)
        ∙ write-whole img ok old e (timing_bytes t) (omega (arith, big, sz.large)) (omega (arith, big, z)) ∙ sym (store-image book B sz img t g (some old) e)
    store-whole-by t g fits (makes e c) =
        ap (λ (o : Option (List ℕ)). store_all B img (all_stores B img (store_changes o t))) e ∙ ap (store_all B img) (two t g fits e c)
        ∙ both-whole img ok e c (timing_bytes t) (form.long book t fits) ∙ sym (store-image book B sz img t g none e)

    pub store-one-by : (t : Timing) (g : T (granted (store B img t).answer)) → Fits t → standing B img ≢ none → Way book B sz img → length (put t) ≡ 1
    store-one-by t g fits some-file (replaces old e z) =
        let big : length (timing_bytes t) ≡ 64 = form.long book t fits in
        ap (λ (o : Option (List ℕ)). length (all_stores B img (store_changes o t))) e ∙ ap length (alone t g fits old e z)
        ∙ write-one img ok old e (timing_bytes t) (omega (arith, big, sz.large)) (omega (arith, big, z)) (omega (arith, big))
    store-one-by t g fits some-file (makes e c) = absurd (some-file e)

    pub store-five-by : (t : Timing) (g : T (granted (store B img t).answer)) → Fits t → standing B img ≡ none → Way book B sz img → length (put t) ≡ 5
    store-five-by t g fits no-file (replaces old e z) = absurd (none-some (sym no-file ∙ e))
    store-five-by t g fits no-file (makes e c) =
        ap (λ (o : Option (List ℕ)). length (all_stores B img (store_changes o t))) e ∙ ap length (two t g fits e c) ∙ both-five img ok e c (timing_bytes t) (form.long book t fits)

    -- ---- opening
    module _ (g : T (granted (open_lid B img).answer)) where
      abbrev old : List ℕ
      old = (open-found book B sz img g).0

      abbrev is : standing B img ≡ some old
      is = (open-found book B sz img g).1

      lid-small : length (zeros 4) ≤ B
      lid-small = omega (arith, sz.large)

      lid-fits : length (zeros 4) ≤ length old
      lid-fits = omega (arith, (open-found book B sz img g).2)

      pub lid-alone : all_stores B img open_changes ≡ stores_of B img (writes TIMING 0 (zeros 4))
      lid-alone = append-nil (stores_of B img (writes TIMING 0 (zeros 4)))

      lid-cut : (j : ℕ) → open_lid_cut B img j ≡ store_all B img (take j (stores_of B img (writes TIMING 0 (zeros 4))))
      unfolding open_lid open_lid_cut
      lid-cut j = cond_yes (granted (open_answer B img)) _ _ g ∙ ap (λ (l : List Store). store_all B img (take j l)) lid-alone

      lid-after : (j : ℕ) → Comes (open_lid_cut B img j) img ⊎ Comes (open_lid_cut B img j) (open_lid B img).image
      lid-after zero = inl (subst (λ (x : List ℕ). Comes x img) (sym (lid-cut 0)) (cut-first img ok old is (zeros 4) lid-small lid-fits))
      lid-after (suc j) =
          inr
          (subst (λ (x : List ℕ). Comes x (open_lid B img).image) (sym (lid-cut (suc j)))
          (subst (Comes (store_all B img (take (suc j) (stores_of B img (writes TIMING 0 (zeros 4)))))) (sym (open-image book B sz img g)) (cut-last img ok old is (zeros 4) lid-small lid-fits j)))

      pub lid-whole : store_all B img (all_stores B img open_changes) ≡ (open_lid B img).image
      lid-whole = ap (store_all B img) lid-alone ∙ write-whole img ok old is (zeros 4) lid-small lid-fits ∙ sym (open-image book B sz img g)

      pub lid-one : length (all_stores B img open_changes) ≡ 1
      lid-one = ap length lid-alone ∙ write-one img ok old is (zeros 4) lid-small lid-fits (omega arith)

    lid-others : T (granted (open_lid B img).answer) → (nm : List ℕ) → (T (same_name nm TIMING) → ⊥) → contents B (open_lid B img).image nm ≡ contents B img nm
    lid-others g nm other = opened book B sz img g nm ∙ cond_no (same_name nm TIMING) _ _ (not_T (same_name nm TIMING) other)

    -- cut before it, or behind it where it is granted
    lid-way : {P : List ℕ → Type 0} (j : ℕ) → ((new : List ℕ) → Comes new img → P new) → (T (granted (open_lid B img).answer) → (new : List ℕ) → Comes new (open_lid B img).image → P new) → P (open_lid_cut B img j)
    lid-way {P} j f h =
        by-test (granted (open_lid B img).answer)
        (λ g. by_side (lid-after g j) (f (open_lid_cut B img j)) (h g (open_lid_cut B img j)))
        (λ n. subst P (sym (lid-refused B img j n)) (f img unmoved))

    -- ---- what the statement is made of
    pub store-mended : (t : Timing) → Fits t → (j : ℕ) → Mended B img (store_cut B img t j)
    store-mended t fits j = cut-mended t fits (after-cut t fits j)

    pub store-comes : (t : Timing) → Fits t → (j : ℕ) → Consistent B (mend B (store_cut B img t j)).image
    store-comes t fits j = cut-consistent t fits (after-cut t fits j)

    pub store-left : (t : Timing) → Fits t → (j : ℕ) → Left B img t (standing B (mend B (store_cut B img t j)).image)
    store-left t fits j = cut_left t fits (after-cut t fits j)

    pub store-boots : (t : Timing) → Fits t → (j board maker : ℕ) → (boot B (mend B (store_cut B img t j)).image board maker ≡ boot B img board maker) ⊎ ((boot B (mend B (store_cut B img t j)).image board maker ≡ boot B (store B img t).image board maker) ⊎ NoValues (boot B (mend B (store_cut B img t j)).image board maker))
    store-boots t fits j = cut-boots t fits (after-cut t fits j)

    pub store-again : (t : Timing) → Fits t → T (granted (store B img t).answer) → (j : ℕ) → T (granted (store B (mend B (store_cut B img t j)).image t).answer)
    store-again t fits g j = cut_again t fits g (after-cut t fits j)

    pub open-mended : (j : ℕ) → Mended B img (open_lid_cut B img j)
    open-mended j = lid-way {P = Mended B img} j (λ new x. mended-as x (λ nm other. refl)) (λ g new x. mended-as x (lid-others g))

    pub open-comes : (j : ℕ) → Consistent B (mend B (open_lid_cut B img j)).image
    open-comes j = lid-way {P = λ new. Consistent B (mend B new).image} j (λ new x. x.consistent) (λ g new x. x.consistent)

    -- and the opening is granted again
    pub open-again : T (granted (open_lid B img).answer) → (j : ℕ) → T (granted (open_lid B (mend B (open_lid_cut B img j)).image).answer)
    open-again g j =
        let old : List ℕ = (open-found book B sz img g).0 in
        let at : standing B img ≡ some old = (open-found book B sz img g).1 in
        let long : length old ≡ 64 = (open-found book B sz img g).2 in
        let again : (new bytes : List ℕ) → Consistent B (mend B new).image → standing B (mend B new).image ≡ some bytes → length bytes ≡ 64 → T (granted (open_lid B (mend B new).image).answer) =
        λ new bytes sound e z. granted-by (((rule-law book B sz (mend B new).image sound).opening done).1 (rule.opened bytes e z)) in
        let opened-at : standing B (open_lid B img).image ≡ some (zeros 4 ++ drop 4 old) =
        opened book B sz img g TIMING ∙ cond_yes (same_name TIMING TIMING) _ _ (book.name-laws.itself TIMING) ∙ ap (map (λ o. zeros 4 ++ drop 4 o)) at in
        lid-way {P = λ new. T (granted (open_lid B (mend B new).image).answer)} j (λ new x. again new old x.consistent (x.files TIMING ∙ at) long)
        (λ h new x. again new (zeros 4 ++ drop 4 old) x.consistent (x.files TIMING ∙ opened-at) (length-append (zeros 4) (drop 4 old) ∙ omega (arith, long, length-drop 4 old)))

    -- no values before, none after
    pub open-unset : (j : ℕ) → Unset (standing B img) → Unset (standing B (mend B (open_lid_cut B img j)).image)
    open-unset j d =
        lid-way {P = λ new. Unset (standing B (mend B new).image)} j (λ new x. subst Unset (sym (x.files TIMING)) d)
        (λ g new x. subst Unset (sym (x.files TIMING)) (unset-after-opening book B sz img g))

    pub open-boots : (j board maker : ℕ) → (boot B (mend B (open_lid_cut B img j)).image board maker ≡ boot B img board maker) ⊎ NoValues (boot B (mend B (open_lid_cut B img j)).image board maker)
    open-boots j board maker =
        lid-way {P = λ new. (boot B (mend B new).image board maker ≡ boot B img board maker) ⊎ NoValues (boot B (mend B new).image board maker)} j
        (λ new x. inl (boots-as x ok board maker)) (λ g new x. inr (boots-none x (unset-after-opening book B sz img g) board maker))
