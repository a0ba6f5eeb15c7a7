-- Boots after any list of requests.
use Rattle.std.specs.Prelude.{◌≡◌, ◌≢◌, ◌⊎◌, Bool, true, false, not, cond, ◌&&◌, ◌||◌, ℕ, ◌+◌, length, ltb, eqb}
use Rattle.std.proofs.Math.Path.{refl, ap, subst}
use Rattle.std.proofs.Common.{sym, ◌∙◌, T_not}
use Rattle.std.proofs.Math.Logic.{inl, inr}
use mathlib.Core.List.{List, [], ◌∷◌}
use Rattle.std.proofs.Math.Option.{Option, none, some}
use Rattle.std.proofs.Math.Dec.{T, not_T}
use Rattle.lists.specs.Lists.{zeros}
use Rattle.list_laws.specs.Test.{by-test, cond_yes, cond_no, and_l, and_r}
use Rattle.tfs_spec.specs.Layout.{BlockSize, need, same_name}
use Rattle.tfs_spec.specs.Consistent.{Consistent, FirstBroken, number_at}
use Rattle.tfs_spec.specs.Requests.{Answer, granted, Outcome, format, create, remove, write, fetch_store, Change, creates, removes, writes, perform, cut, mend, changes, fetches, checks, reads, lists, counts, Operation, formats, mends, requests, operate, after_all}
use Rattle.tfs_spec.specs.Effects.{name_on}
use Rattle.tfs_spec.specs.Histories.{Never, ChangesName, changed, emptied, effect_on, effect_on_all}
use Rattle.tfs_spec.specs.Cuts.{reached}
use Rattle.tfs_spec.specs.Laws.{Statements}
use Rattle.timing_spec.specs.Timing.{TIMING, Timing, Fits, timing_bytes, standing, all_stores, fetched, store_answer, store_changes, store, store_block, open_answer, open_changes, open_lid, open_lid_block, booted, boot_on, boot}
use Rattle.timing_spec.specs.Histories.{Event, stores, opens, boots, fetches-store, fetches-opening, operates, replays, cuts, cuts-store, cuts-opening, leaves, after_events, Each, ran_by, WritesName, written, NotFilled, NotChanged}
use Rattle.timing_spec.specs.Laws.{NoValues, Unset, ListLaws}
use Rattle.timing_proofs.specs.Form as form
use Rattle.timing_proofs.specs.Verdicts.{by-check, boot-by}
use Rattle.timing_proofs.specs.Rules.{by_number, other-board, other-maker, both}
use Rattle.timing_proofs.specs.Changes.{made-consistent}
use Rattle.timing_proofs.specs.Unset.{unset-zeros, unset-if, unset-boots, unset-after-opening}
use Rattle.timing_proofs.specs.Power.{store-comes, open-comes, open-unset, by_side, refused-cut, lid-refused}
use Rattle.timing_proofs.specs.Effects.{store_keeps, store-consistent, board-set, stored, open-keeps, open-consistent}

neither : {a b c d : ℕ} → (a ≢ b) ⊎ (c ≢ d) → a ≡ b → c ≡ d → ⊥
neither (inl f) e g = f e
neither (inr f) e g = f g

-- ---- requests that leave the image
kept_by : (b : Bool) (x y : Outcome) (img : List ℕ) → x.image ≡ img → y.image ≡ img → (cond b x y).image ≡ img
kept_by b x y img f g = by-test b (λ t. ap (λ (o : Outcome). o.image) (cond_yes b x y t) ∙ f) (λ t. ap (λ (o : Outcome). o.image) (cond_no b x y t) ∙ g)

fetched-image : (B : ℕ) (img : List ℕ) (a : Answer) (cs : List Change) (k : ℕ) (buf : List ℕ) → (fetched B img a cs k buf).image ≡ img
unfolding fetch_store
fetched-image B img a cs k buf =
    kept_by (granted a) _ _ img (kept_by (eqb k 0 || (ltb (length (all_stores B img cs)) k || ltb (length buf) B)) _ _ img refl refl) refl

module _ (B : ℕ) (img : List ℕ) where
  pub store-block-image : (t : Timing) (k : ℕ) (buf : List ℕ) → (store_block B img t k buf).image ≡ img
  unfolding store_block
  store-block-image t k buf = fetched-image B img (store_answer B img t.board) (store_changes (standing B img) t) k buf

  pub open-block-image : (k : ℕ) (buf : List ℕ) → (open_lid_block B img k buf).image ≡ img
  unfolding open_lid_block
  open-block-image k buf = fetched-image B img (open_answer B img) open_changes k buf

-- ---- what a cut request comes to, and the names in it
abbrev IsWrite : Operation → Type 0
IsWrite (formats label) = ⊥
IsWrite mends = ⊥
IsWrite (requests (changes (creates k z))) = ⊥
IsWrite (requests (changes (removes k))) = ⊥
IsWrite (requests (changes (writes k o bs))) = T (same_name TIMING k)
IsWrite (requests (fetches c k buf)) = ⊥
IsWrite (requests checks) = ⊥
IsWrite (requests (reads k o buf)) = ⊥
IsWrite (requests (lists s)) = ⊥
IsWrite (requests counts) = ⊥

is-write : {B : ℕ} {img : List ℕ} {x : Operation} → WritesName B TIMING img x → IsWrite x
is-write (written k o bs same g) = same

abbrev OnName : Operation → Type 0
OnName (formats label) = Unit {0}
OnName mends = Unit {0}
OnName (requests (changes c)) = T (same_name TIMING (name_on c))
OnName (requests (fetches c k buf)) = Unit {0}
OnName (requests checks) = Unit {0}
OnName (requests (reads k o buf)) = Unit {0}
OnName (requests (lists s)) = Unit {0}
OnName (requests counts) = Unit {0}

on-name : {B : ℕ} {img : List ℕ} {x : Operation} → ChangesName B TIMING img x → OnName x
on-name (changed c same g) = same
on-name (emptied label g) = tt

never-if : (B : ℕ) (such : List ℕ → Operation → Type 0) (img : List ℕ) (b : Bool) (x : Operation) → (such img x → ⊥) → Never B such img (cond b [] (x ∷ []))
never-if B such img true x f = tt
never-if B such img false x f = (f, tt)

module _ (B : ℕ) where
  reached-unfilled : (img : List ℕ) (c : Change) (j : ℕ) → T (granted (perform B img c).answer) → NotFilled B img (cuts c j) → Never B (WritesName B TIMING) img (reached B c j)
  unfolding perform
  reached-unfilled img (creates nm z) j g away = never-if B (WritesName B TIMING) img (ltb j (need B z + 3)) (requests (changes (creates nm z))) (λ w. is-write w)
  reached-unfilled img (removes nm) j g away = never-if B (WritesName B TIMING) img (eqb j 0) (requests (changes (removes nm))) (λ w. is-write w)
  reached-unfilled img (writes nm o bs) j g away = ((λ w. away (is-write w) g), tt)

  reached-unchanged : (img : List ℕ) (c : Change) (j : ℕ) → (T (same_name TIMING (name_on c)) → ⊥) → Never B (ChangesName B TIMING) img (reached B c j)
  reached-unchanged img (creates nm z) j away = never-if B (ChangesName B TIMING) img (ltb j (need B z + 3)) (requests (changes (creates nm z))) (λ w. away (on-name w))
  reached-unchanged img (removes nm) j away = never-if B (ChangesName B TIMING) img (eqb j 0) (requests (changes (removes nm))) (λ w. away (on-name w))
  reached-unchanged img (writes nm o bs) j away = ((λ w. away (on-name w)), tt)

module _ (book : Statements) (B : ℕ) (sz : BlockSize B) where
  -- ---- what is refused has no stores
  refused_none : (img : List ℕ) (c : Change) (j num p : ℕ) → FirstBroken B img num p → cut B img c j ≡ img
  unfolding cut
  refused_none img c j num p fault =
      cond_no (granted (perform B img c).answer) _ _ (subst (λ (o : Outcome). T (not (granted o.answer))) (sym ((book.check-laws B sz img).refused-by-all num p fault (changes c))) tt)

  pub event-consistent : (img : List ℕ) → Consistent B img → (x : Event) → Consistent B (leaves B img x)
  unfolding store open_lid after_all
  event-consistent img ok (stores t) = made-consistent book B sz img (store_answer B img t.board) (store_changes (standing B img) t) ok
  event-consistent img ok opens = made-consistent book B sz img (open_answer B img) open_changes ok
  event-consistent img ok (boots board maker) = ok
  event-consistent img ok (fetches-store t k buf) = subst (Consistent B) (sym (store-block-image B img t k buf)) ok
  event-consistent img ok (fetches-opening k buf) = subst (Consistent B) (sym (open-block-image B img k buf)) ok
  event-consistent img ok (operates x) = (book.history-laws B sz img).consistent ok (x ∷ [])
  event-consistent img ok (replays t) = (book.replay-laws B sz img).stays ok t
  event-consistent img ok (cuts c j) = ((book.cut-laws B sz img ok).leaves [] c j).mended
  event-consistent img ok (cuts-store t fits j) = store-comes book B sz img ok t fits j
  event-consistent img ok (cuts-opening j) = open-comes book B sz img ok j

  pub events-consistent : (xs : List Event) (img : List ℕ) → Consistent B img → Consistent B (after_events B img xs)
  unfolding after_events
  events-consistent [] img ok = ok
  events-consistent (x ∷ xs) img ok = events-consistent xs (leaves B img x) (event-consistent img ok x)

  -- ---- what gives no values goes on giving none
  unset-effect : (img : List ℕ) (x : Operation) (old : Option (List ℕ)) → (WritesName B TIMING img x → ⊥) → Unset old → Unset (effect_on B TIMING img x old)
  unfolding perform
  unset-effect img (formats label) old away d = unset-if (granted (format B img label).answer) none old (λ t. tt) (λ t. d)
  unset-effect img mends old away d = d
  unset-effect img (requests (changes (creates k z))) old away d = unset-if (same_name TIMING k && granted (create B img k z).answer) (some (zeros z)) old (λ t. unset-zeros z) (λ t. d)
  unset-effect img (requests (changes (removes k))) old away d = unset-if (same_name TIMING k && granted (remove B img k).answer) none old (λ t. tt) (λ t. d)
  unset-effect img (requests (changes (writes k o bs))) old away d =
      unset-if (same_name TIMING k && granted (write B img k o bs).answer) _ old
      (λ t. absurd (away (written k o bs (and_l (same_name TIMING k) _ t) (and_r (same_name TIMING k) _ t)))) (λ t. d)
  unset-effect img (requests (fetches c k buf)) old away d = d
  unset-effect img (requests checks) old away d = d
  unset-effect img (requests (reads k o buf)) old away d = d
  unset-effect img (requests (lists s)) old away d = d
  unset-effect img (requests counts) old away d = d

  unset-operation : (img : List ℕ) (x : Operation) → (WritesName B TIMING img x → ⊥) → Unset (standing B img) → Unset (standing B (operate B img x).image)
  unfolding after_all effect_on_all
  unset-operation img x away d = subst Unset (sym ((book.history-laws B sz img).stands (x ∷ []) TIMING)) (unset-effect img x (standing B img) away d)

  unset-operations : (xs : List Operation) (img : List ℕ) → Never B (WritesName B TIMING) img xs → Unset (standing B img) → Unset (standing B (after_all B img xs))
  unfolding after_all
  unset-operations [] img away d = d
  unset-operations (x ∷ xs) img away d = unset-operations xs (operate B img x).image away.1 (unset-operation img x away.0 d)

  -- ---- power cuts
  -- a cut and a mend: what stands is what the request comes to, on a volume that is not consistent what stood
  cut_stands : (img : List ℕ) (c : Change) (j : ℕ) → (standing B (mend B (cut B img c j)).image ≡ standing B (after_all B img (reached B c j))) ⊎ (standing B (mend B (cut B img c j)).image ≡ standing B img)
  unfolding after_all
  cut_stands img c j =
      by-check book B sz img (λ ok. inl (((book.cut-laws B sz img ok).leaves [] c j).mended-files TIMING))
      (λ num p fault. inr (ap (λ (x : List ℕ). standing B (mend B x).image) (refused_none img c j num p fault) ∙ (book.mend-laws B sz img).files TIMING))

  -- a refused one leaves what stands
  refused-stands : (img : List ℕ) (c : Change) (j : ℕ) → T (not (granted (perform B img c).answer)) → standing B (mend B (cut B img c j)).image ≡ standing B img
  unfolding cut
  refused-stands img c j n = ap (λ (x : List ℕ). standing B (mend B x).image) (cond_no (granted (perform B img c).answer) _ _ n) ∙ (book.mend-laws B sz img).files TIMING

  unset-cut : (img : List ℕ) (c : Change) (j : ℕ) → NotFilled B img (cuts c j) → Unset (standing B img) → Unset (standing B (mend B (cut B img c j)).image)
  unset-cut img c j away d =
      by-test (granted (perform B img c).answer)
      (λ g. by_side (cut_stands img c j) (λ e. subst Unset (sym e) (unset-operations (reached B c j) img (reached-unfilled B img c j g away) d)) (λ e. subst Unset (sym e) d))
      (λ n. subst Unset (sym (refused-stands img c j n)) d)

  unset-event : (img : List ℕ) (x : Event) → NotFilled B img x → Unset (standing B img) → Unset (standing B (leaves B img x))
  unset-event img (stores t) away d = subst (λ (i : List ℕ). Unset (standing B i)) (sym (store_keeps book B sz img t away)) d
  unset-event img opens away d =
      by-test (granted (open_lid B img).answer) (unset-after-opening book B sz img)
      (λ t. subst (λ (i : List ℕ). Unset (standing B i)) (sym (open-keeps book B sz img (T_not (granted (open_lid B img).answer) t))) d)
  unset-event img (boots board maker) away d = d
  unset-event img (fetches-store t k buf) away d = subst (λ (i : List ℕ). Unset (standing B i)) (sym (store-block-image B img t k buf)) d
  unset-event img (fetches-opening k buf) away d = subst (λ (i : List ℕ). Unset (standing B i)) (sym (open-block-image B img k buf)) d
  unset-event img (operates x) away d = unset-operation img x away d
  unset-event img (replays t) away d = subst (λ (i : List ℕ). Unset (standing B i)) (sym ((book.replay-laws B sz img).runs t)) (unset-operations (ran_by B img t) img away d)
  unset-event img (cuts c j) away d = unset-cut img c j away d
  unset-event img (cuts-store t fits j) away d =
      subst Unset (sym (ap (λ (x : List ℕ). standing B (mend B x).image) (refused-cut B img t j (not_T (granted (store B img t).answer) away)) ∙ (book.mend-laws B sz img).files TIMING)) d
  unset-event img (cuts-opening j) away d =
      by-test (granted (open_lid B img).answer) (λ g. open-unset book B sz img (open-consistent book B sz img g) j d)
      (λ n. subst Unset (sym (ap (λ (x : List ℕ). standing B (mend B x).image) (lid-refused B img j n) ∙ (book.mend-laws B sz img).files TIMING)) d)

  unset-events : (xs : List Event) (img : List ℕ) → Each B (NotFilled B) img xs → Unset (standing B img) → Unset (standing B (after_events B img xs))
  unfolding after_events
  unset-events [] img away d = d
  unset-events (x ∷ xs) img away d = unset-events xs (leaves B img x) away.1 (unset-event img x away.0 d)

  -- ---- what stands goes on standing
  same-event : (img : List ℕ) (x : Event) → NotChanged B img x → standing B (leaves B img x) ≡ standing B img
  unfolding after_all
  same-event img (stores t) away = ap (standing B) (store_keeps book B sz img t away)
  same-event img opens away = ap (standing B) (open-keeps book B sz img away)
  same-event img (boots board maker) away = refl
  same-event img (fetches-store t k buf) away = ap (standing B) (store-block-image B img t k buf)
  same-event img (fetches-opening k buf) away = ap (standing B) (open-block-image B img k buf)
  same-event img (operates x) away = (book.history-laws B sz img).others (x ∷ []) TIMING (away, tt)
  same-event img (replays t) away = ap (standing B) ((book.replay-laws B sz img).runs t) ∙ (book.history-laws B sz img).others (ran_by B img t) TIMING away
  same-event img (cuts c j) away =
      by-test (granted (perform B img c).answer)
      (λ g. by_side (cut_stands img c j) (λ e. e ∙ (book.history-laws B sz img).others (reached B c j) TIMING (reached-unchanged B img c j (λ same. away same g))) (λ e. e))
      (refused-stands img c j)
  same-event img (cuts-store t fits j) away = ap (λ (x : List ℕ). standing B (mend B x).image) (refused-cut B img t j (not_T (granted (store B img t).answer) away)) ∙ (book.mend-laws B sz img).files TIMING
  same-event img (cuts-opening j) away = ap (λ (x : List ℕ). standing B (mend B x).image) (lid-refused B img j (not_T (granted (open_lid B img).answer) away)) ∙ (book.mend-laws B sz img).files TIMING

  same-events : (xs : List Event) (img : List ℕ) → Each B (NotChanged B) img xs → standing B (after_events B img xs) ≡ standing B img
  unfolding after_events
  same-events [] img away = refl
  same-events (x ∷ xs) img away = same-events xs (leaves B img x) away.1 ∙ same-event img x away.0

  module _ (img : List ℕ) (t : Timing) (fits : Fits t) (g : T (granted (store B img t).answer)) where
    abbrev bytes : List ℕ
    bytes = timing_bytes t

    -- after a granted store, and requests that leave its file, boot goes by its bytes
    module _ (xs : List Event) (away : Each B (NotChanged B) (store B img t).image xs) (board maker : ℕ) where
      abbrev last : List ℕ
      last = after_events B (store B img t).image xs

      stands-still : standing B last ≡ some bytes
      stands-still = same-events xs (store B img t).image away ∙ stored book B sz img t g fits TIMING ∙ cond_yes (same_name TIMING TIMING) _ _ (book.name-laws.itself TIMING)

      boots-on : boot B last board maker ≡ boot_on (some bytes) board maker
      boots-on =
          boot-by book B sz last (events-consistent xs (store B img t).image (event-consistent img (store-consistent book B sz img t g) (stores t))) board maker
          ∙ ap (λ (o : Option (List ℕ)). boot_on o board maker) stands-still

    set : number_at bytes 0 ≢ 0
    set e = board-set book B sz img t g (sym (form.board book t fits) ∙ e)

    pub boots-stored : (xs : List Event) → Each B (NotChanged B) (store B img t).image xs → boot B (after_events B (store B img t).image xs) t.board t.maker ≡ booted t.values
    boots-stored xs away =
        boots-on xs away t.board t.maker
        ∙ both bytes t.board t.maker (form.long book t fits) set (form.board book t fits) (form.maker book t fits)
        ∙ ap (λ (x : Timing). booted x.values) (form.back book t fits)

    pub boots-others : (xs : List Event) → Each B (NotChanged B) (store B img t).image xs → (board maker : ℕ) → (board ≢ t.board) ⊎ (maker ≢ t.maker) → NoValues (boot B (after_events B (store B img t).image xs) board maker)
    boots-others xs away board maker other =
        let long : length bytes ≡ 64 = form.long book t fits in
        by_number (number_at bytes 0) board
        (λ same. (37, 0, boots-on xs away board maker ∙ other-maker bytes board maker long set same (λ m. neither other (sym same ∙ form.board book t fits) (sym m ∙ form.maker book t fits))))
        (λ f. (36, 0, boots-on xs away board maker ∙ other-board bytes board maker long set f))

  pub list_law : (img : List ℕ) → ListLaws B img
  list_law img = record {
    consistent = λ ok xs. events-consistent xs img ok;
    unset = λ d xs away board maker. unset-boots book B sz (after_events B img xs) (unset-events xs img away d) board maker;
    opened = λ g xs away board maker. unset-boots book B sz (after_events B (open_lid B img).image xs) (unset-events xs (open_lid B img).image away (unset-after-opening book B sz img g)) board maker;
    same = λ xs. same-events xs img;
    stored = boots-stored img;
    others = boots-others img;
  }
