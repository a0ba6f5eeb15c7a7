-- What the requests come to, by what a look at the file has found.
use Rattle.std.specs.Prelude.{◌≡◌, ◌≢◌, ℕ, List, [], ◌∷◌, length}
use Rattle.std.proofs.Math.Path.{refl, sym, ap}
use Rattle.std.proofs.Common.{subst, ◌∙◌}
use Rattle.std.proofs.Math.Option.{Option, none, some}
use Rattle.std.proofs.Math.Dec.{T, not_T}
use Rattle.lists.specs.Lists.{zeros, word}
use Rattle.list_laws.specs.Test.{cond_yes, cond_no}
use Rattle.tfs_spec.specs.Check.{consistent, check}
use Rattle.tfs_spec.specs.Requests.{Answer, done, refused, granted, Outcome, create, write, creates, writes, perform, changes, fetch}
use Rattle.tfs_proofs.specs.Proved.{statements}
use Rattle.timing_spec.specs.Timing.{TIMING, Timing, timing_bytes, timing_of, standing, sized, made, fetched, store_room, store_answer, store_changes, store, store_block, open_room, open_answer, open_lid, open_lid_block, not_booted, booted, boot_on, boot}
use Rattle.timing_proofs.specs.Form.{word_number}
use Rattle.timing_proofs.specs.Verdicts.{by-check, open-answer, boot-by, fault-law}
use Rattle.timing_proofs.specs.Rules.{by_number, if-same, if-other, other-size}
use Rattle.timing_proofs.specs.Rules as rules
use Rattle.timing_proofs.specs.Blocks.{write-block}
use Rattle.timing.specs.Rooms.{sound, stores-by}

-- ---- boot, by the bytes
module _ (bytes : List ℕ) (board maker : ℕ) (long : length bytes ≡ 64) where
  pub zero-board : word bytes 0 ≡ 0 → not_booted 34 0 ≡ boot_on (some bytes) board maker
  zero-board e = sym (rules.no-board bytes board maker long (sym (word_number bytes 0) ∙ e))

  module _ (set : word bytes 0 ≢ 0) where
    pub another-board : word bytes 0 ≢ board → not_booted 36 0 ≡ boot_on (some bytes) board maker
    another-board f = sym (rules.other-board bytes board maker long (λ e. set (word_number bytes 0 ∙ e)) (λ e. f (word_number bytes 0 ∙ e)))

    module _ (same : word bytes 0 ≡ board) where
      pub another-maker : word bytes 4 ≢ maker → not_booted 37 0 ≡ boot_on (some bytes) board maker
      another-maker f = sym (rules.other-maker bytes board maker long (λ e. set (word_number bytes 0 ∙ e)) (sym (word_number bytes 0) ∙ same) (λ e. f (word_number bytes 4 ∙ e)))

      pub both-same : word bytes 4 ≡ maker → booted (timing_of bytes).values ≡ boot_on (some bytes) board maker
      both-same e = sym (rules.both bytes board maker long (λ e. set (word_number bytes 0 ∙ e)) (sym (word_number bytes 0) ∙ same) (sym (word_number bytes 4) ∙ e))

-- ---- by the look
module _ (img : List ℕ) where
  pub boot-seen : (bytes : List ℕ) → check 512 img ≡ consistent → standing 512 img ≡ some bytes → (board maker : ℕ) → boot_on (some bytes) board maker ≡ boot 512 img board maker
  boot-seen bytes e at board maker = sym (boot-by statements 512 statements.number-laws.base img (sound img e) board maker ∙ ap (λ (o : Option (List ℕ)). boot_on o board maker) at)

  -- what refuses an opening refuses a boot
  refused-boot : (a : Answer) (old : Option (List ℕ)) → a ≡ open_room old → (T (granted a) → ⊥) → (board maker : ℕ) → record { answer = a; values = zeros 28 } ≡ boot_on old board maker
  unfolding boot_on
  refused-boot a none e away board maker = ap (λ (x : Answer). record { answer = x; values = zeros 28 }) e
  refused-boot a (some bytes) e away board maker =
      by_number (length bytes) 64
      (λ z. absurd (away (subst (λ (x : Answer). T (granted x)) (sym (e ∙ if-same (length bytes) 64 done (refused 35 0) z)) tt)))
      (λ f. ap (λ (x : Answer). record { answer = x; values = zeros 28 }) (e ∙ if-other (length bytes) 64 done (refused 35 0) f) ∙ sym (other-size bytes board maker f))

  pub boot-refused : (a : Answer) → a ≡ open_answer 512 img → (T (granted a) → ⊥) → (board maker : ℕ) → record { answer = a; values = zeros 28 } ≡ boot 512 img board maker
  unfolding open_lid
  boot-refused a e away board maker =
      by-check statements 512 statements.number-laws.base img
      (λ ok. refused-boot a (standing 512 img) (e ∙ open-answer statements 512 statements.number-laws.base img ok) away board maker ∙ sym (boot-by statements 512 statements.number-laws.base img ok board maker))
      (λ num p fault.
      let law = fault-law statements 512 statements.number-laws.base img num p fault in
      ap (λ (x : Answer). record { answer = x; values = zeros 28 }) (e ∙ ap (λ (o : Outcome). o.answer) law.open-lid) ∙ sym (law.boot board maker))

  -- ---- opening
  pub open-put : done ≡ open_answer 512 img → (write 512 img TIMING 0 (zeros 4)).image ≡ (open_lid 512 img).image
  unfolding open_lid perform
  open-put e = sym (cond_yes (granted (open_answer 512 img)) _ _ (subst (λ (a : Answer). T (granted a)) e tt))

  pub open-says : open_answer 512 img ≡ (open_lid 512 img).answer
  unfolding open_lid
  open-says = refl

  pub open_stays : (a : Answer) → a ≡ open_answer 512 img → (T (granted a) → ⊥) → img ≡ (open_lid 512 img).image
  unfolding open_lid
  open_stays a e away = sym (cond_no (granted (open_answer 512 img)) _ _ (not_T (granted (open_answer 512 img)) (λ t. away (subst (λ (x : Answer). T (granted x)) (sym e) t))))

  -- ---- store
  module _ (t : Timing) where
    pub store-says : store_answer 512 img t.board ≡ (store 512 img t).answer
    unfolding store
    store-says = refl

    pub store-stays : (a : Answer) → a ≡ store_answer 512 img t.board → (T (granted a) → ⊥) → img ≡ (store 512 img t).image
    unfolding store
    store-stays a e away = sym (cond_no (granted (store_answer 512 img t.board)) _ _ (not_T (granted (store_answer 512 img t.board)) (λ g. away (subst (λ (x : Answer). T (granted x)) (sym e) g))))

    module _ (passed : check 512 img ≡ consistent) (set : t.board ≢ 0) where
      by-room : (old : Option (List ℕ)) → standing 512 img ≡ old → store_room 512 img old ≡ store_answer 512 img t.board
      by-room old at = sym (stores-by img (sound img passed) t.board set old at)

      by_old : (old : Option (List ℕ)) → standing 512 img ≡ old → (made 512 img (store_room 512 img old) (store_changes old t)).image ≡ (store 512 img t).image
      unfolding store
      by_old old at =
          ap (λ (a : Answer). (made 512 img a (store_changes old t)).image) (by-room old at) ∙ ap (λ (o : Option (List ℕ)). (made 512 img (store_answer 512 img t.board) (store_changes o t)).image) (sym at)

      -- into the file that stands
      module _ (old : List ℕ) (at : standing 512 img ≡ some old) (long : length old ≡ 64) where
        pub stands-says : done ≡ store_answer 512 img t.board
        stands-says = sym (if-same (length old) 64 done (refused 35 0) long) ∙ by-room (some old) at

        pub stands-put : (write 512 img TIMING 0 (timing_bytes t)).image ≡ (store 512 img t).image
        unfolding perform
        stands-put = sym (cond_yes (granted (sized old)) _ _ (subst (λ (a : Answer). T (granted a)) (sym (if-same (length old) 64 done (refused 35 0) long)) tt)) ∙ by_old (some old) at

      -- into one that is created
      module _ (at : standing 512 img ≡ none) where
        pub absent-says : store_room 512 img none ≡ store_answer 512 img t.board
        absent-says = by-room none at

        pub absent-put : (made 512 img (store_room 512 img none) (creates TIMING 64 ∷ writes TIMING 0 (timing_bytes t) ∷ [])).image ≡ (store 512 img t).image
        absent-put = by_old none at

  -- ---- create and write
  abbrev made-answer : Answer
  made-answer = (create 512 img TIMING 64).answer

  pub create-granted : T (granted made-answer) → done ≡ store_room 512 img none
  create-granted g = sym (cond_yes (granted made-answer) done made-answer g)

  pub create-put : (bytes : List ℕ) → T (granted made-answer) → (write 512 (create 512 img TIMING 64).image TIMING 0 bytes).image ≡ (made 512 img (store_room 512 img none) (creates TIMING 64 ∷ writes TIMING 0 bytes ∷ [])).image
  unfolding perform
  create-put bytes g = sym (cond_yes (granted (store_room 512 img none)) _ img (subst (λ (a : Answer). T (granted a)) (create-granted g) tt))

  pub create-refused : (a : Answer) → a ≡ made-answer → (T (granted a) → ⊥) → a ≡ store_room 512 img none
  create-refused a e away = e ∙ sym (cond_no (granted made-answer) done made-answer (not_T (granted made-answer) (λ t. away (subst (λ (x : Answer). T (granted x)) (sym e) t))))

  pub create-stays : (bytes : List ℕ) (a : Answer) → a ≡ made-answer → (T (granted a) → ⊥) → (create 512 img TIMING 64).image ≡ (made 512 img (store_room 512 img none) (creates TIMING 64 ∷ writes TIMING 0 bytes ∷ [])).image
  unfolding perform
  create-stays bytes a e away =
      let no-grant : T (granted made-answer) → ⊥ = λ t. away (subst (λ (x : Answer). T (granted x)) (sym e) t) in
      ((statements.refusal-laws 512 statements.number-laws.base img).keeps (changes (creates TIMING 64)) (not_T (granted made-answer) no-grant)).0
      ∙ sym (cond_no (granted (store_room 512 img none)) _ img (not_T (granted (store_room 512 img none)) (λ t. away (subst (λ (x : Answer). T (granted x)) (sym (create-refused a e away)) t))))

-- ---- the k-th store
module _ (img : List ℕ) (t : Timing) (k : ℕ) (buf : List ℕ) where
  block-by : (old : Option (List ℕ)) → standing 512 img ≡ old → fetched 512 img (store_answer 512 img t.board) (store_changes old t) k buf ≡ store_block 512 img t k buf
  unfolding store_block
  block-by old at = ap (λ (o : Option (List ℕ)). fetched 512 img (store_answer 512 img t.board) (store_changes o t) k buf) (sym at)

  pub block_refused : (a : Answer) → a ≡ store_answer 512 img t.board → (T (granted a) → ⊥) → record { answer = a; image = img; buffer = buf } ≡ store_block 512 img t k buf
  unfolding store_block
  block_refused a e away =
      ap (λ (x : Answer). record { answer = x; image = img; buffer = buf }) e
      ∙ sym (cond_no (granted (store_answer 512 img t.board)) _ _ (not_T (granted (store_answer 512 img t.board)) (λ g. away (subst (λ (x : Answer). T (granted x)) (sym e) g))))

  module _ (passed : check 512 img ≡ consistent) (set : t.board ≢ 0) where
    pub block-stands : (old : List ℕ) → standing 512 img ≡ some old → length old ≡ 64 → fetch 512 img (writes TIMING 0 (timing_bytes t)) k buf ≡ store_block 512 img t k buf
    block-stands old at long =
        write-block statements 512 statements.number-laws.base img (sound img passed) buf old (timing_bytes t) at (store_answer 512 img t.board) (subst (λ (a : Answer). T (granted a)) (stands-says img t passed set old at long) tt) k
        ∙ block-by (some old) at

    pub block-absent : standing 512 img ≡ none → fetched 512 img (store_room 512 img none) (creates TIMING 64 ∷ writes TIMING 0 (timing_bytes t) ∷ []) k buf ≡ store_block 512 img t k buf
    block-absent at = ap (λ (a : Answer). fetched 512 img a (creates TIMING 64 ∷ writes TIMING 0 (timing_bytes t) ∷ []) k buf) (absent-says img t passed set at) ∙ block-by none at

module _ (img : List ℕ) (k : ℕ) (buf : List ℕ) where
  pub lid-refused : (a : Answer) → a ≡ open_answer 512 img → (T (granted a) → ⊥) → record { answer = a; image = img; buffer = buf } ≡ open_lid_block 512 img k buf
  unfolding open_lid_block
  lid-refused a e away =
      ap (λ (x : Answer). record { answer = x; image = img; buffer = buf }) e
      ∙ sym (cond_no (granted (open_answer 512 img)) _ _ (not_T (granted (open_answer 512 img)) (λ g. away (subst (λ (x : Answer). T (granted x)) (sym e) g))))

  pub lid-block : (old : List ℕ) → check 512 img ≡ consistent → standing 512 img ≡ some old → done ≡ open_answer 512 img → fetch 512 img (writes TIMING 0 (zeros 4)) k buf ≡ open_lid_block 512 img k buf
  unfolding open_lid_block
  lid-block old passed at e =
      write-block statements 512 statements.number-laws.base img (sound img passed) buf old (zeros 4) at (open_answer 512 img) (subst (λ (a : Answer). T (granted a)) e tt) k
