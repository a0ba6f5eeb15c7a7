-- A read of the file into a buffer of 65 bytes tells whether it stands with 64.
use Rattle.std.specs.Prelude.{◌≡◌, refl, ◌≢◌, ℕ, ◌-◌, min, List, ◌++◌, length, take, drop, T, ltb}
use Rattle.std.proofs.Common.{sym, ap, subst, ◌∙◌, arith, take_all, take_at, ltb→lt}
use Rattle.std.proofs.Math.Option.{Option, none, some}
use Rattle.std.proofs.Math.Dec.{not_T}
use Rattle.list_laws.specs.Test.{cond_no}
use Rattle.tfs_spec.specs.Check.{consistent, check}
use Rattle.tfs_spec.specs.Consistent.{Consistent, FirstBroken}
use Rattle.tfs_spec.specs.Requests.{Answer, done, transferred, refused, granted, count_of, Outcome, blocks_met, refuse, read, reads}
use Rattle.tfs_spec.specs.Effects.{read_by}
use Rattle.tfs_proofs.specs.Proved.{statements}
use Rattle.timing_spec.specs.Timing.{TIMING, standing, open_answer}
use Rattle.timing_proofs.specs.Verdicts.{named, by-check}
use Rattle.timing_proofs.specs.Rules.{if-same, if-other}
use Rattle.timing.specs.Rooms.{fault-open, opens_by}

module _ (img buf : List ℕ) (long : length buf ≡ 65) where
  abbrev seen : Outcome
  seen = read 512 img TIMING 0 buf

  -- ---- on a volume that is not consistent
  module _ (num p : ℕ) (fault : FirstBroken 512 img num p) where
    fault-read : seen ≡ refuse img buf num p
    fault-read = (statements.check-laws 512 statements.number-laws.base img).refused-by-all num p fault (reads TIMING 0 buf)

  -- ---- on a consistent one
  module _ (ok : Consistent 512 img) where
    reads-by : (old : Option (List ℕ)) → standing 512 img ≡ old → seen ≡ read_by 512 old img 0 buf
    reads-by old e = (statements.transfer-laws 512 statements.number-laws.base img ok).reads TIMING named 0 buf ∙ ap (λ (o : Option (List ℕ)). read_by 512 o img 0 buf) e

    granted-read : (bytes : List ℕ) → standing 512 img ≡ some bytes → seen.answer ≡ transferred (min (length buf) (length bytes - 0)) (blocks_met 512 0 (min (length buf) (length bytes - 0)))
    granted-read bytes e = ap (λ (o : Outcome). o.answer) (reads-by (some bytes) e) ∙ cond_no (ltb (length bytes) 0) _ _ (not_T (ltb (length bytes) 0) (λ t. omega (arith, ltb→lt (length bytes) 0 t)))

    refused-by : (old : Option (List ℕ)) → standing 512 img ≡ old → (a : Answer) → a ≡ seen.answer → (T (granted a) → ⊥) → a ≡ open_answer 512 img
    refused-by none e a f away = f ∙ ap (λ (o : Outcome). o.answer) (reads-by none e) ∙ sym (opens_by img ok none e)
    refused-by (some bytes) e a f away = absurd (away (subst (λ (x : Answer). T (granted x)) (sym (f ∙ granted-read bytes e)) tt))

    -- what a granted read tells of the file
    found-by : {P : Type 0} (old : Option (List ℕ)) → standing 512 img ≡ old → (c m : ℕ) → transferred c m ≡ seen.answer → ((bytes : List ℕ) → standing 512 img ≡ some bytes → c ≡ min 65 (length bytes) → P) → P
    found-by none e c m f use-it = absurd (subst (λ (x : Answer). T (granted x)) (f ∙ ap (λ (o : Outcome). o.answer) (reads-by none e)) tt)
    found-by (some bytes) e c m f use-it = use-it bytes e (let n : c ≡ min (length buf) (length bytes - 0) = ap count_of (f ∙ granted-read bytes e) in omega arith)

    bytes_read : (bytes : List ℕ) → standing 512 img ≡ some bytes → length bytes ≡ 64 → take 64 seen.buffer ≡ bytes
    bytes_read bytes e n =
        let got : take (length buf) (drop 0 bytes) ≡ bytes = take_all (length buf) bytes (omega (arith, long, n)) in
        ap (λ (o : Outcome). take 64 o.buffer) (reads-by (some bytes) e)
        ∙ ap (λ (l : List ℕ). take 64 (l ++ drop (length l) buf)) got
        ∙ take_at bytes (drop (length bytes) buf) 64 n

  pub look-refused : (a : Answer) → a ≡ seen.answer → (T (granted a) → ⊥) → a ≡ open_answer 512 img
  look-refused a e away =
      by-check statements 512 statements.number-laws.base img (λ ok. refused-by ok (standing 512 img) refl a e away)
      (λ num p fault. e ∙ ap (λ (o : Outcome). o.answer) (fault-read num p fault) ∙ sym (fault-open img num p fault))

  -- a granted read passed the check
  sound : (c m : ℕ) → transferred c m ≡ seen.answer → Consistent 512 img
  sound c m e =
      by-check statements 512 statements.number-laws.base img (λ ok. ok)
      (λ num p fault. absurd (subst (λ (a : Answer). T (granted a)) (e ∙ ap (λ (o : Outcome). o.answer) (fault-read num p fault)) tt))

  pub look-missized : (c m : ℕ) → transferred c m ≡ seen.answer → c ≢ 64 → refused 35 0 ≡ open_answer 512 img
  look-missized c m e other =
      found-by (sound c m e) (standing 512 img) refl c m e
      (λ bytes at n. sym (opens_by img (sound c m e) (some bytes) at ∙ if-other (length bytes) 64 done (refused 35 0) (λ z. other (omega (arith, n, z)))))

  pub look-found : (c m : ℕ) → transferred c m ≡ seen.answer → c ≡ 64 → (done ≡ open_answer 512 img) × (check 512 img ≡ consistent) × (standing 512 img ≡ some (take 64 seen.buffer))
  look-found c m e all =
      let ok : Consistent 512 img = sound c m e in
      found-by ok (standing 512 img) refl c m e
      (λ bytes at n.
      let z : length bytes ≡ 64 = omega (arith, n, all) in
      (sym (opens_by img ok (some bytes) at ∙ if-same (length bytes) 64 done (refused 35 0) z), (statements.check-laws 512 statements.number-laws.base img).passes.1 ok, at ∙ ap (λ (l : List ℕ). some l) (sym (bytes_read ok bytes at z))))
