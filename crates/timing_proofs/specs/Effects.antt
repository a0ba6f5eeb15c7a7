-- What a granted store and a granted opening leave under each name.
use Rattle.std.specs.Prelude.{◌≡◌, ◌≢◌, cond, length, get_or, eqb}
use Rattle.std.proofs.Math.Path.{refl, sym, ap, subst}
use Rattle.std.proofs.Common.{◌∙◌, arith, drop_of_length-le, T_not}
use Prim.Native.Nat.{ℕ, ◌≤◌}
use mathlib.Core.List.{List, ◌++◌, append-nil}
use Rattle.std.proofs.Math.Option.{Option, none, some, map}
use Rattle.std.proofs.Math.ListN.{drop}
use Rattle.std.proofs.Math.Dec.{T, not_T}
use Rattle.lists.specs.Lists.{zeros}
use Rattle.list_laws.specs.Test.{by-test, cond_yes, cond_no, zeros-byte}
use Rattle.tfs_spec.specs.Layout.{BlockSize, same_name, contents}
use Rattle.tfs_spec.specs.Consistent.{Consistent}
use Rattle.tfs_spec.specs.Requests.{Answer, done, refused, granted, Outcome, create, writes, perform}
use Rattle.tfs_spec.specs.Effects.{change}
use Rattle.tfs_spec.specs.Laws.{Statements}
use Rattle.timing_spec.specs.Timing.{TIMING, Timing, Fits, timing_bytes, standing, sized, after_changes, store_room, store_answer, store_changes, store, open_room, open_answer, open_lid, Booted, boot}
use Rattle.timing_spec.specs.Laws as rule
use Rattle.timing_spec.specs.Laws.{BootRule, EffectLaws}
use Rattle.timing_proofs.specs.Form.{long}
use Rattle.timing_proofs.specs.Verdicts.{by-check, fault-law, store-answer, open-answer}
use Rattle.timing_proofs.specs.Rules.{by_number, if-same, if-other, rule-law}
use Rattle.timing_proofs.specs.Changes.{create-stands, create-stays, write-lays}

-- bytes laid over as many
pub laid-all : (bs old : List ℕ) → length old ≤ length bs → bs ++ drop (length bs) old ≡ bs
laid-all bs old h = ap (λ (l : List ℕ). bs ++ l) (drop_of_length-le old h) ∙ append-nil bs

pub sized-64 : (bytes : List ℕ) → T (granted (sized bytes)) → length bytes ≡ 64
sized-64 bytes g = by_number (length bytes) 64 (λ e. e) (λ f. absurd (subst (λ (a : Answer). T (granted a)) (if-other (length bytes) 64 done (refused 35 0) f) g))

module _ (book : Statements) (B : ℕ) (sz : BlockSize B) (img : List ℕ) where
  -- ---- store
  -- a granted one writes over a file of 64 bytes, or into one that it creates
  pub data Way : Type 0 where
    replaces : (old : List ℕ) → standing B img ≡ some old → length old ≡ 64 → Way
    makes : standing B img ≡ none → T (granted (create B img TIMING 64).answer) → Way

  way_in : (old : Option (List ℕ)) → standing B img ≡ old → T (granted (store_room B img old)) → Way
  way_in none e g =
      by-test (granted (create B img TIMING 64).answer) (λ yes. makes e yes)
      (λ no. absurd (T_not (granted (create B img TIMING 64).answer) no (subst (λ (a : Answer). T (granted a)) (cond_no (granted (create B img TIMING 64).answer) done (create B img TIMING 64).answer no) g)))
  way_in (some old) e g = replaces old e (sized-64 old g)

  module _ (t : Timing) where
    pub store_keeps : (T (granted (store B img t).answer) → ⊥) → (store B img t).image ≡ img
    unfolding store
    store_keeps f = cond_no (granted (store_answer B img t.board)) _ _ (not_T (granted (store_answer B img t.board)) f)

    module _ (g : T (granted (store B img t).answer)) where
      pub store-consistent : Consistent B img
      store-consistent = by-check book B sz img (λ ok. ok) (λ num p fault. absurd (subst (λ (o : Outcome). T (granted o.answer)) ((fault-law book B sz img num p fault).store t) g))

      granted-answer : T (granted (cond (eqb t.board 0) (refused 34 0) (store_room B img (standing B img))))
      unfolding store
      granted-answer = subst (λ (a : Answer). T (granted a)) (store-answer book B sz img store-consistent t.board) g

      pub board-set : t.board ≢ 0
      board-set e = subst (λ (a : Answer). T (granted a)) (if-same t.board 0 (refused 34 0) (store_room B img (standing B img)) e) granted-answer

      pub way : Way
      way = way_in (standing B img) refl (subst (λ (a : Answer). T (granted a)) (if-other t.board 0 (refused 34 0) (store_room B img (standing B img)) board-set) granted-answer)

      pub store-image : (old : Option (List ℕ)) → standing B img ≡ old → (store B img t).image ≡ after_changes B img (store_changes old t)
      unfolding store
      store-image old e = cond_yes (granted (store_answer B img t.board)) _ _ g ∙ ap (λ (o : Option (List ℕ)). after_changes B img (store_changes o t)) e

      module _ (fits : Fits t) (j : List ℕ) where
        replaced : (old : List ℕ) → standing B img ≡ some old → length old ≡ 64 → contents B (store B img t).image j ≡ change TIMING (λ c. some (timing_bytes t)) (contents B img) j
        replaced old e z =
            ap (λ (x : List ℕ). contents B x j) (store-image (some old) e)
            ∙ write-lays book B sz img store-consistent old e (timing_bytes t) (omega (arith, z, long book t fits)) j
            ∙ ap (λ (l : List ℕ). change TIMING (λ c. some l) (contents B img) j) (laid-all (timing_bytes t) old (omega (arith, z, long book t fits)))

        made : standing B img ≡ none → T (granted (create B img TIMING 64).answer) → contents B (store B img t).image j ≡ change TIMING (λ c. some (timing_bytes t)) (contents B img) j
        unfolding perform
        made e c =
            let new : List ℕ = (create B img TIMING 64).image in
            let ok : Consistent B img = store-consistent in
            let at : standing B new ≡ some (zeros 64) = create-stands book B sz img ok c TIMING ∙ cond_yes (same_name TIMING TIMING) _ _ (book.name-laws.itself TIMING) in
            let full : timing_bytes t ++ drop (length (timing_bytes t)) (zeros 64) ≡ timing_bytes t = laid-all (timing_bytes t) (zeros 64) (omega (arith, long book t fits)) in
            ap (λ (x : List ℕ). contents B x j) (store-image none e)
            ∙ write-lays book B sz new (create-stays book B sz img ok) (zeros 64) at (timing_bytes t) (omega (arith, long book t fits)) j
            ∙ by-test (same_name j TIMING)
            (λ same. cond_yes (same_name j TIMING) _ _ same ∙ ap (λ (l : List ℕ). some l) full ∙ sym (cond_yes (same_name j TIMING) _ _ same))
            (λ other. cond_no (same_name j TIMING) _ _ other ∙ create-stands book B sz img ok c j ∙ cond_no (same_name j TIMING) _ _ other ∙ sym (cond_no (same_name j TIMING) _ _ other))

        by_way : Way → contents B (store B img t).image j ≡ change TIMING (λ c. some (timing_bytes t)) (contents B img) j
        by_way (replaces old e z) = replaced old e z
        by_way (makes e c) = made e c

        pub stored : contents B (store B img t).image j ≡ change TIMING (λ c. some (timing_bytes t)) (contents B img) j
        stored = by_way way

  -- ---- opening
  pub open-keeps : (T (granted (open_lid B img).answer) → ⊥) → (open_lid B img).image ≡ img
  unfolding open_lid
  open-keeps f = cond_no (granted (open_answer B img)) _ _ (not_T (granted (open_answer B img)) f)

  module _ (g : T (granted (open_lid B img).answer)) where
    pub open-consistent : Consistent B img
    open-consistent = by-check book B sz img (λ ok. ok) (λ num p fault. absurd (subst (λ (o : Outcome). T (granted o.answer)) (fault-law book B sz img num p fault).open-lid g))

    found : (old : Option (List ℕ)) → standing B img ≡ old → T (granted (open_room old)) → (old : List ℕ) × (standing B img ≡ some old) × (length old ≡ 64)
    found none e x = absurd x
    found (some old) e x = (old, e, sized-64 old x)

    -- the file that stands, of 64 bytes
    pub open-found : (old : List ℕ) × (standing B img ≡ some old) × (length old ≡ 64)
    unfolding open_lid
    open-found = found (standing B img) refl (subst (λ (a : Answer). T (granted a)) (open-answer book B sz img open-consistent) g)

    pub open-image : (open_lid B img).image ≡ (perform B img (writes TIMING 0 (zeros 4))).image
    unfolding open_lid
    open-image = cond_yes (granted (open_answer B img)) _ _ g

    pub opened : (j : List ℕ) → contents B (open_lid B img).image j ≡ change TIMING (map (λ old. zeros 4 ++ drop 4 old)) (contents B img) j
    opened j =
        let old : List ℕ = open-found.0 in
        let at : standing B img ≡ some old = open-found.1 in
        ap (λ (x : List ℕ). contents B x j) open-image
        ∙ write-lays book B sz img open-consistent old at (zeros 4) (omega (arith, open-found.2)) j
        ∙ by-test (same_name j TIMING)
        (λ same.
        cond_yes (same_name j TIMING) _ _ same
        ∙ sym (ap (map (λ old. zeros 4 ++ drop 4 old)) (book.name-laws.alike j TIMING same B img ∙ at))
        ∙ sym (cond_yes (same_name j TIMING) _ _ same))
        (λ other. cond_no (same_name j TIMING) _ _ other ∙ sym (cond_no (same_name j TIMING) _ _ other))

  -- ---- boot
  -- 28 zeros
  abbrev Zeros : Booted → Type 0
  Zeros x = (length x.values ≡ 28) × ((i : ℕ) → get_or x.values i 0 ≡ 0)

  rule-zeros : {old : Option (List ℕ)} {board maker : ℕ} (x : Booted) → BootRule old board maker x → (T (granted x.answer) → ⊥) → Zeros x
  rule-zeros _ (rule.absent e) f = (refl, zeros-byte 28)
  rule-zeros _ (rule.other-size bytes e h) f = (refl, zeros-byte 28)
  rule-zeros _ (rule.no-board bytes e long z) f = (refl, zeros-byte 28)
  rule-zeros _ (rule.other-board bytes e long set h) f = (refl, zeros-byte 28)
  rule-zeros _ (rule.other-maker bytes e long set same h) f = (refl, zeros-byte 28)
  rule-zeros _ (rule.both bytes values e long set same m k are) f = absurd (f tt)

  boot-zeros : (board maker : ℕ) → (T (granted (boot B img board maker).answer) → ⊥) → Zeros (boot B img board maker)
  boot-zeros board maker f =
      by-check book B sz img (λ ok. rule-zeros (boot B img board maker) (((rule-law book B sz img ok).booting board maker (boot B img board maker)).0 refl) f)
      (λ num p fault. subst Zeros (sym ((fault-law book B sz img num p fault).boot board maker)) (refl, zeros-byte 28))

  pub effect-law : EffectLaws B img
  effect-law = record { store_keeps = store_keeps; open-keeps = open-keeps; boot-zeros = boot-zeros; stored = λ t fits g j. stored t g fits j; opened = opened }
