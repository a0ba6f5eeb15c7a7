-- What a create and a write of TIMING leave, by the library's laws.
use Rattle.std.specs.Prelude.{◌≡◌, Bool, true, false, not, cond, ◌&&◌, ℕ, ◌+◌, ◌-◌, ◌≤◌, ◌<◌, List, [], ◌∷◌, ◌++◌, length, get_or, drop, leb, ltb}
use Rattle.std.proofs.Common.{sym, ap, ◌∙◌, arith, zero-add, length-append, length-drop, ext_get_or, get_or-append-add, get_or-drop, lt→ltb, le→leb}
use Rattle.std.proofs.Math.Path.{subst}
use Rattle.std.proofs.Math.Option.{Option, some, map}
use Rattle.std.proofs.Math.Decide.{dec_lt}
use Rattle.std.proofs.Math.ListN.{get_or-append}
use Rattle.std.proofs.Math.Dec.{T, ltb→lt, not_T}
use Rattle.lists.specs.Lists.{zeros}
use Rattle.list_laws.specs.Table.{length-table, get_or-table}
use Rattle.list_laws.specs.Test.{by-test, cond_yes, cond_no, and-of}
use Rattle.tfs_spec.specs.Layout.{BlockSize, same_name, contents}
use Rattle.tfs_spec.specs.Consistent.{Consistent}
use Rattle.tfs_spec.specs.Requests.{Answer, granted, create, write, Change, creates, writes, perform}
use Rattle.tfs_spec.specs.Effects.{over, change, transfer_on}
use Rattle.tfs_spec.specs.Laws.{Statements}
use Rattle.timing_spec.specs.Timing.{TIMING, standing, after_changes}
use Rattle.timing_proofs.specs.Verdicts.{named}

no_second : (a b : Bool) → T (not b) → T (not (a && b))
no_second true b t = t
no_second false b t = tt

-- ---- bytes laid over the front of others
over-at : (bs old : List ℕ) (p : ℕ) → p < length old → get_or (over 0 bs old) p 0 ≡ get_or (bs ++ drop (length bs) old) p 0
over-at bs old p k =
    let f : ℕ → ℕ = λ q. cond (leb 0 q && ltb q (0 + length bs)) (get_or bs (q - 0) 0) (get_or old q 0) in
    get_or-table f 0 (length old) p 0 k ∙ ap f (zero-add p)
    ∙ elim (dec_lt p (length bs)) [
      | yes h ↦ (
          cond_yes (leb 0 p && ltb p (0 + length bs)) (get_or bs (p - 0) 0) (get_or old p 0) (and-of (leb 0 p) (ltb p (0 + length bs)) (le→leb 0 p (omega arith)) (lt→ltb p (0 + length bs) (omega arith)))
          ∙ ap (λ (q : ℕ). get_or bs q 0) (omega arith)
          ∙ sym (get_or-append bs (drop (length bs) old) 0 p h))
      | no h ↦ (
          let q : p ≡ length bs + (p - length bs) = omega arith in
          cond_no (leb 0 p && ltb p (0 + length bs)) (get_or bs (p - 0) 0) (get_or old p 0) (no_second (leb 0 p) (ltb p (0 + length bs)) (not_T (ltb p (0 + length bs)) (λ t. h (omega (arith, ltb→lt p (0 + length bs) t)))))
          ∙ ap (λ (q : ℕ). get_or old q 0) q
          ∙ sym (get_or-drop (length bs) old (p - length bs) 0)
          ∙ sym (get_or-append-add bs (drop (length bs) old) (p - length bs) 0)
          ∙ ap (λ (q : ℕ). get_or (bs ++ drop (length bs) old) q 0) (sym q))
    ]

pub over-front : (bs old : List ℕ) → length bs ≤ length old → over 0 bs old ≡ bs ++ drop (length bs) old
over-front bs old h =
    let n : length (over 0 bs old) ≡ length old = length-table _ 0 (length old) in
    let m : length (bs ++ drop (length bs) old) ≡ length old = omega (arith, length-append bs (drop (length bs) old), length-drop (length bs) old) in
    ext_get_or 0 (over 0 bs old) (bs ++ drop (length bs) old) (n ∙ sym m) (λ p k. over-at bs old p (omega (arith, n)))

-- ---- of a consistent volume
module _ (book : Statements) (B : ℕ) (sz : BlockSize B) (img : List ℕ) (ok : Consistent B img) where
  -- under the same name stands the same
  pub under : (j : List ℕ) → T (same_name j TIMING) → contents B img j ≡ standing B img
  under j same = book.name-laws.alike j TIMING same B img

  pub create-stands : T (granted (create B img TIMING 64).answer) → (j : List ℕ) → contents B (create B img TIMING 64).image j ≡ change TIMING (λ old. some (zeros 64)) (contents B img) j
  unfolding perform
  create-stands g j = (book.change-laws B sz img ok).changes (creates TIMING 64) g j

  pub create-stays : Consistent B (create B img TIMING 64).image
  unfolding perform
  create-stays = (book.change-laws B sz img ok).stays (creates TIMING 64)

  module _ (old : List ℕ) (at : standing B img ≡ some old) (bs : List ℕ) where
    -- a write from the start on is granted
    pub write-answer : (write B img TIMING 0 bs).answer ≡ transfer_on B (some old) 0 (length bs)
    write-answer = (book.transfer-laws B sz img ok).writes TIMING named 0 bs ∙ ap (λ (c : Option (List ℕ)). transfer_on B c 0 (length bs)) at

    pub write_granted : T (granted (perform B img (writes TIMING 0 bs)).answer)
    unfolding perform
    write_granted = subst (λ (a : Answer). T (granted a)) (sym (write-answer ∙ cond_no (ltb (length old) 0) _ _ (not_T (ltb (length old) 0) (λ t. omega (arith, ltb→lt (length old) 0 t))))) tt

    pub write-lays : length bs ≤ length old → (j : List ℕ) → contents B (perform B img (writes TIMING 0 bs)).image j ≡ change TIMING (λ c. some (bs ++ drop (length bs) old)) (contents B img) j
    write-lays h j =
        (book.change-laws B sz img ok).changes (writes TIMING 0 bs) write_granted j
        ∙ by-test (same_name j TIMING)
        (λ same.
        cond_yes (same_name j TIMING) _ _ same
        ∙ ap (map (over 0 bs)) (under j same ∙ at)
        ∙ ap (λ (l : List ℕ). some l) (over-front bs old h)
        ∙ sym (cond_yes (same_name j TIMING) _ _ same))
        (λ other. cond_no (same_name j TIMING) _ _ other ∙ sym (cond_no (same_name j TIMING) _ _ other))

-- ---- a volume stays consistent
module _ (book : Statements) (B : ℕ) (sz : BlockSize B) where
  changes-consistent : (cs : List Change) (img : List ℕ) → Consistent B img → Consistent B (after_changes B img cs)
  changes-consistent [] img ok = ok
  changes-consistent (c ∷ cs) img ok = changes-consistent cs (perform B img c).image ((book.change-laws B sz img ok).stays c)

  pub made-consistent : (img : List ℕ) (a : Answer) (cs : List Change) → Consistent B img → Consistent B (cond (granted a) (after_changes B img cs) img)
  made-consistent img a cs ok =
      by-test (granted a) (λ t. subst (Consistent B) (sym (cond_yes (granted a) (after_changes B img cs) img t)) (changes-consistent cs img ok))
      (λ t. subst (Consistent B) (sym (cond_no (granted a) (after_changes B img cs) img t)) ok)
