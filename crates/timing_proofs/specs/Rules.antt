-- Which answer each request gives, in plain facts.
use Rattle.std.specs.Prelude.{◌≡◌, ◌≢◌, not, ℕ, ◌+◌, ◌*◌, ◌<◌, ◌≤◌, List, length, T, eqb}
use Rattle.std.proofs.Math.Path.{refl, sym, ap, subst}
use Rattle.std.proofs.Common.{◌∙◌, arith, zero-add, eqb→eq, T_not}
use Rattle.std.proofs.Math.Bool.{cond}
use Rattle.std.proofs.Math.Option.{Option, none, some}
use Rattle.std.proofs.Math.ListN.{get_or}
use Rattle.std.proofs.Math.Seq.{ext_get_or}
use Rattle.list_laws.specs.Table.{length-table, get_or-table}
use Rattle.list_laws.specs.Test.{by-test, cond_yes, cond_no, yes-yes, eqb_of, neqb-of}
use Rattle.tfs_spec.specs.Layout.{BlockSize, max_size, need, View, view, free_blocks}
use Rattle.tfs_spec.specs.Consistent.{Consistent, number_at}
use Rattle.tfs_spec.specs.Requests.{Answer, done, refused, granted, create, creates, perform, changes}
use Rattle.tfs_spec.specs.Answers.{Fresh, Vacant, CreateRule, unnamed, oversized, standing, full, cramped, created}
use Rattle.tfs_spec.specs.Laws.{Statements}
use Rattle.timing_spec.specs.Timing as file
use Rattle.timing_spec.specs.Timing.{TIMING, Timing, timing_of, pair_at, sized, store_room, store_answer, store, open_room, open_lid, Booted, not_booted, booted, boot_on}
use Rattle.timing_spec.specs.Laws as rule
use Rattle.timing_spec.specs.Laws.{StoreRule, OpenRule, BootRule, RuleLaws}
use Rattle.timing_proofs.specs.Form.{word_number}
use Rattle.timing_proofs.specs.Verdicts.{named, store-answer, open-answer, boot-by}

-- ---- choices by a test on numbers
pub by_number {ℓ} : {P : Type ℓ} (a b : ℕ) → (a ≡ b → P) → (a ≢ b → P) → P
by_number a b f g = by-test (eqb a b) (λ t. f (eqb→eq a b t)) (λ t. g (λ e. T_not (eqb a b) t (eqb_of e)))

module _ {ℓ} {X : Type ℓ} (a b : ℕ) (x y : X) where
  pub if-same : a ≡ b → cond (eqb a b) x y ≡ x
  if-same e = cond_yes (eqb a b) x y (eqb_of e)

  pub if-other : a ≢ b → cond (eqb a b) x y ≡ y
  if-other e = cond_no (eqb a b) x y (neqb-of a b e)

  pub unless-same : a ≡ b → cond (not (eqb a b)) x y ≡ y
  unless-same e = cond_no (not (eqb a b)) x y (yes-yes (eqb a b) (eqb_of e))

  pub unless-other : a ≢ b → cond (not (eqb a b)) x y ≡ x
  unless-other e = cond_yes (not (eqb a b)) x y (neqb-of a b e)

-- ---- boot, by what stands
module _ (bytes : List ℕ) (board maker : ℕ) where
  abbrev t : Timing
  t = timing_of bytes

  board-is : t.board ≡ number_at bytes 0
  unfolding timing_of
  board-is = word_number bytes 0

  maker-is : t.maker ≡ number_at bytes 4
  unfolding timing_of
  maker-is = word_number bytes 4

  values-are : (i : ℕ) → i < 28 → get_or t.values i 0 ≡ get_or bytes (8 + 2 * i) 0 * 256 + get_or bytes (9 + 2 * i) 0
  unfolding timing_of
  values-are i h =
      let next : get_or bytes (8 + 2 * i + 1) 0 ≡ get_or bytes (9 + 2 * i) 0 = ap (λ (j : ℕ). get_or bytes j 0) (omega arith) in
      get_or-table (λ i. pair_at bytes (8 + 2 * i)) 0 28 i 0 h ∙ ap (λ (j : ℕ). pair_at bytes (8 + 2 * j)) (zero-add i) ∙ ap (λ (n : ℕ). get_or bytes (8 + 2 * i) 0 * 256 + n) next

  many : length t.values ≡ 28
  unfolding timing_of
  many = length-table (λ i. pair_at bytes (8 + 2 * i)) 0 28

  module _ (long : length bytes ≡ 64) where
    sized-boot : boot_on (some bytes) board maker ≡ cond (eqb t.board 0) (not_booted 34 0) (cond (not (eqb t.board board)) (not_booted 36 0) (cond (not (eqb t.maker maker)) (not_booted 37 0) (booted t.values)))
    unfolding boot_on
    sized-boot = unless-same (length bytes) 64 _ _ long

    pub no-board : number_at bytes 0 ≡ 0 → boot_on (some bytes) board maker ≡ not_booted 34 0
    no-board e = sized-boot ∙ if-same t.board 0 _ _ (board-is ∙ e)

    module _ (set : number_at bytes 0 ≢ 0) where
      set-boot : boot_on (some bytes) board maker ≡ cond (not (eqb t.board board)) (not_booted 36 0) (cond (not (eqb t.maker maker)) (not_booted 37 0) (booted t.values))
      set-boot = sized-boot ∙ if-other t.board 0 _ _ (λ e. set (sym board-is ∙ e))

      pub other-board : number_at bytes 0 ≢ board → boot_on (some bytes) board maker ≡ not_booted 36 0
      other-board f = set-boot ∙ unless-other t.board board _ _ (λ e. f (sym board-is ∙ e))

      module _ (same : number_at bytes 0 ≡ board) where
        pub other-maker : number_at bytes 4 ≢ maker → boot_on (some bytes) board maker ≡ not_booted 37 0
        other-maker f = set-boot ∙ unless-same t.board board _ _ (board-is ∙ same) ∙ unless-other t.maker maker _ _ (λ e. f (sym maker-is ∙ e))

        pub both : number_at bytes 4 ≡ maker → boot_on (some bytes) board maker ≡ booted t.values
        both e = set-boot ∙ unless-same t.board board _ _ (board-is ∙ same) ∙ unless-same t.maker maker _ _ (maker-is ∙ e)

  pub other-size : length bytes ≢ 64 → boot_on (some bytes) board maker ≡ not_booted 35 0
  unfolding boot_on
  other-size f = unless-other (length bytes) 64 _ _ f

  -- the case that holds
  so : {x : Booted} → boot_on (some bytes) board maker ≡ x → BootRule (some bytes) board maker x → BootRule (some bytes) board maker (boot_on (some bytes) board maker)
  so e r = subst (BootRule (some bytes) board maker) (sym e) r

  some-rule : BootRule (some bytes) board maker (boot_on (some bytes) board maker)
  some-rule =
      by_number (length bytes) 64
      (λ long. by_number (number_at bytes 0) 0
      (λ e. so (no-board long e) (rule.no-board bytes refl long e))
      (λ set. by_number (number_at bytes 0) board
      (λ same. by_number (number_at bytes 4) maker
      (λ e. so (both long set same e) (rule.both bytes t.values refl long set same e many values-are))
      (λ f. so (other-maker long set same f) (rule.other-maker bytes refl long set same f)))
      (λ f. so (other-board long set f) (rule.other-board bytes refl long set f))))
      (λ f. so (other-size f) (rule.other-size bytes refl f))

boot-rule : (old : Option (List ℕ)) (board maker : ℕ) → BootRule old board maker (boot_on old board maker)
unfolding boot_on
boot-rule none board maker = rule.absent refl
boot-rule (some bytes) board maker = some-rule bytes board maker

module _ (old : Option (List ℕ)) (board maker : ℕ) where
  by_old : {y : Option (List ℕ)} {x : Booted} → old ≡ y → boot_on y board maker ≡ x → boot_on old board maker ≡ x
  by_old e f = ap (λ (o : Option (List ℕ)). boot_on o board maker) e ∙ f

  rule-boot : (x : Booted) → BootRule old board maker x → boot_on old board maker ≡ x
  unfolding boot_on
  rule-boot _ (rule.absent e) = by_old e refl
  rule-boot _ (rule.other-size bytes e f) = by_old e (other-size bytes board maker f)
  rule-boot _ (rule.no-board bytes e long z) = by_old e (no-board bytes board maker long z)
  rule-boot _ (rule.other-board bytes e long set f) = by_old e (other-board bytes board maker long set f)
  rule-boot _ (rule.other-maker bytes e long set same f) = by_old e (other-maker bytes board maker long set same f)
  rule-boot _ (rule.both bytes values e long set same m k are) =
      let equal : (timing_of bytes).values ≡ values =
      ext_get_or 0 (timing_of bytes).values values (many bytes board maker ∙ sym k)
      (λ i h. let l : i < 28 = omega (arith, many bytes board maker) in values-are bytes board maker i l ∙ sym (are i l)) in
      by_old e (both bytes board maker long set same m ∙ ap booted equal)

-- ---- store and opening
-- a grant of store is `done`
pub granted-done : {B : ℕ} {v : View} {old : Option (List ℕ)} {board : ℕ} (a : Answer) → StoreRule B v old board a → T (granted a) → a ≡ done
granted-done _ (rule.no-board e) g = absurd g
granted-done _ (rule.other-size bytes set e f) g = absurd g
granted-done _ (rule.no_slot set e f) g = absurd g
granted-done _ (rule.no_room s set e f h) g = absurd g
granted-done _ (rule.replaced bytes set e long) g = refl
granted-done _ (rule.created s set e f h) g = refl

pub granted-by : {a : Answer} → a ≡ done → T (granted a)
granted-by e = subst (λ (a : Answer). T (granted a)) (sym e) tt

pub none-some : {bytes : List ℕ} → none ≡ some bytes → ⊥
none-some e = let z : ◌≡◌ {A = ℕ} 0 1 = cc in omega (arith, z)

module _ (book : Statements) (B : ℕ) (sz : BlockSize B) (img : List ℕ) (ok : Consistent B img) where
  abbrev v : View
  v = view B img

  -- nothing stands under the name exactly if no slot has it
  pub nowhere : file.standing B img ≡ none → Fresh B v TIMING
  nowhere e s st = let bad : none ≡ some _ = sym e ∙ (book.content-laws B sz img ok).named TIMING s st in none-some bad

  -- what create answers, by its table
  pub create-rule : CreateRule B v TIMING 64 (create B img TIMING 64).answer
  unfolding perform
  create-rule = ((book.grant-laws B sz img).answers ok (changes (creates TIMING 64)) (create B img TIMING 64).answer).0 refl

  small : 64 ≤ max_size B
  small = (book.number-laws.one B sz 64 (omega arith) (omega (arith, sz.large))).1

  module _ (board : ℕ) (set : board ≢ 0) where
    -- of a file to be created
    new-rule : (a : Answer) → CreateRule B v TIMING 64 a → file.standing B img ≡ none → StoreRule B v none board (cond (granted a) done a)
    new-rule _ (unnamed f) e = absurd (f named)
    new-rule _ (oversized n h) e = absurd (omega (arith, small, h))
    new-rule _ (standing s n h st) e = absurd (nowhere e s st)
    new-rule _ (full n h f none_free) e = rule.no_slot set refl none_free
    new-rule _ (cramped s n h f free few) e = rule.no_room s set refl free few
    new-rule _ (created s i n h f free room low) e = rule.created s set refl free room

    old-rule : (bytes : List ℕ) → StoreRule B v (some bytes) board (sized bytes)
    old-rule bytes = by_number (length bytes) 64
        (λ e. subst (StoreRule B v (some bytes) board) (sym (if-same (length bytes) 64 _ _ e)) (rule.replaced bytes set refl e))
        (λ f. subst (StoreRule B v (some bytes) board) (sym (if-other (length bytes) 64 _ _ f)) (rule.other-size bytes set refl f))

    room-rule : (old : Option (List ℕ)) → file.standing B img ≡ old → StoreRule B v old board (store_room B img old)
    room-rule none e = new-rule (create B img TIMING 64).answer create-rule e
    room-rule (some bytes) e = old-rule bytes

    -- there is a slot and room, so create is granted
    grants : (s : ℕ) → file.standing B img ≡ none → Vacant B v s → 1 + need B 64 ≤ free_blocks v → (a : Answer) → CreateRule B v TIMING 64 a → cond (granted a) done a ≡ done
    grants s e free room _ (unnamed f) = absurd (f named)
    grants s e free room _ (oversized n h) = absurd (omega (arith, small, h))
    grants s e free room _ (standing t n h st) = absurd (nowhere e t st)
    grants s e free room _ (full n h f none_free) = absurd (none_free s free)
    grants s e free room _ (cramped t n h f free-t few) = absurd (omega (arith, room, few))
    grants s e free room _ (created t i n h f free-t room-t low) = refl

    by-room : (old : Option (List ℕ)) (a : Answer) → file.standing B img ≡ old → store_room B img old ≡ a → store_answer B img board ≡ a
    by-room old a e f = store-answer book B sz img ok board ∙ if-other board 0 _ _ set ∙ ap (store_room B img) e ∙ f

    -- create's refusal is store's
    by-create : (num : ℕ) → file.standing B img ≡ none → CreateRule B v TIMING 64 (refused num 0) → store_answer B img board ≡ refused num 0
    unfolding perform
    by-create num e r =
        by-room none (refused num 0) e
        (ap (λ (a : Answer). cond (granted a) done a) (((book.grant-laws B sz img).answers ok (changes (creates TIMING 64)) (refused num 0)).1 r))

  store_rule : (board : ℕ) → StoreRule B v (file.standing B img) board (store_answer B img board)
  store_rule board =
      subst (StoreRule B v (file.standing B img) board) (sym (store-answer book B sz img ok board))
      (by_number board 0
      (λ e. subst (StoreRule B v (file.standing B img) board) (sym (if-same board 0 _ _ e)) (rule.no-board e))
      (λ set. subst (StoreRule B v (file.standing B img) board) (sym (if-other board 0 _ _ set)) (room-rule board set (file.standing B img) refl)))

  rule-store : (board : ℕ) (a : Answer) → StoreRule B v (file.standing B img) board a → store_answer B img board ≡ a
  rule-store board _ (rule.no-board e) = store-answer book B sz img ok board ∙ if-same board 0 _ _ e
  rule-store board _ (rule.other-size bytes set e f) = by-room board set (some bytes) (refused 35 0) e (if-other (length bytes) 64 _ _ f)
  rule-store board _ (rule.no_slot set e none_free) = by-create board set 11 e (full named small (nowhere e) none_free)
  rule-store board _ (rule.no_room s set e free few) = by-create board set 12 e (cramped s named small (nowhere e) free few)
  rule-store board _ (rule.replaced bytes set e long) = by-room board set (some bytes) done e (if-same (length bytes) 64 _ _ long)
  rule-store board _ (rule.created s set e free room) = by-room board set none done e (grants board set s e free room (create B img TIMING 64).answer create-rule)

  open-rule : (old : Option (List ℕ)) → OpenRule old (open_room old)
  open-rule none = rule.absent refl
  open-rule (some bytes) =
      by_number (length bytes) 64
      (λ e. subst (OpenRule (some bytes)) (sym (if-same (length bytes) 64 _ _ e)) (rule.opened bytes refl e))
      (λ f. subst (OpenRule (some bytes)) (sym (if-other (length bytes) 64 _ _ f)) (rule.other-size bytes refl f))

  rule-open : (old : Option (List ℕ)) (a : Answer) → OpenRule old a → open_room old ≡ a
  rule-open old _ (rule.absent e) = ap open_room e
  rule-open old _ (rule.other-size bytes e f) = ap open_room e ∙ if-other (length bytes) 64 _ _ f
  rule-open old _ (rule.opened bytes e long) = ap open_room e ∙ if-same (length bytes) 64 _ _ long

  pub rule-law : RuleLaws B img
  unfolding store open_lid
  rule-law = record {
    storing = λ t a. ((λ e. subst (StoreRule B v (file.standing B img) t.board) e (store_rule t.board)), rule-store t.board a);
    opening = λ a. (
      (λ e. subst (OpenRule (file.standing B img)) (sym (open-answer book B sz img ok) ∙ e) (open-rule (file.standing B img))),
      λ r. open-answer book B sz img ok ∙ rule-open (file.standing B img) a r,
    );
    booting = λ board maker x. (
      (λ e. subst (BootRule (file.standing B img) board maker) (sym (boot-by book B sz img ok board maker) ∙ e) (boot-rule (file.standing B img) board maker)),
      λ r. boot-by book B sz img ok board maker ∙ rule-boot (file.standing B img) board maker x r,
    );
  }
