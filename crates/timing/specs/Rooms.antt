-- Where a store goes, by what a look at the file tells.
use Rattle.std.specs.Prelude.{◌≡◌, refl, ◌≢◌, cond, ℕ, ◌≤◌, List, length, T, eqb}
use Rattle.std.proofs.Common.{sym, subst, ◌∙◌, arith}
use Rattle.std.proofs.Math.Path.{ap}
use Rattle.std.proofs.Math.Option.{Option, none, some}
use Rattle.tfs_spec.specs.Check.{Verdict, consistent, broken, check}
use Rattle.tfs_spec.specs.Consistent.{Consistent, Broken, short, unmagical, unlabelled, malformed, repeated, oversized, misnumbered, twice, unmarked, stray, FirstBroken}
use Rattle.tfs_spec.specs.Requests.{Answer, done, refused, granted, refusal_of, Outcome, checked}
use Rattle.tfs_proofs.specs.Proved.{statements}
use Rattle.tfs_refusal.specs.declared.Fault.{Fault}
use Rattle.tfs_refusal.specs.declared.Fault.TheVariants.{ImageTooShort, BadMagic, BadLabel, BadSlot, BadInode, BlockTwice, MapWrong}
use Rattle.tfs_refusal.specs.declared.Refusal.{Refusal}
use Rattle.tfs_refusal.specs.declared.Refusal.TheVariants.{NameNotAllowed, SizeTooLarge, NameExists, NoFreeSlot, NoRoom, NoSuchName, NoSuchSlot, OffsetPastEnd, NoSuchStore}
use Rattle.tfs_refusal.specs.Refusal.{rule, number}
use Rattle.timing.specs.declared.error.Error.{Error}
use Rattle.timing.specs.declared.error.Error.TheVariants.{Inconsistent, Refused, NoBoard, WrongSize, OtherBoard, OtherMaker}
use Rattle.timing.specs.Told.{error_number}
use Rattle.timing_spec.specs.Timing.{standing, sized, store_room, store_answer, open_room, open_answer, open_lid}
use Rattle.timing_proofs.specs.Verdicts.{by-check, store-answer, open-answer, fault-law}
use Rattle.timing_proofs.specs.Rules.{by_number, if-same, if-other}
use Rattle.timing_proofs.specs.Effects.{sized-64}

-- a fault's number is below those of requests
fault-low : {B : ℕ} {img : List ℕ} {num p : ℕ} → Broken B img num p → num ≤ 7
fault-low (short h) = omega arith
fault-low (unmagical h) = omega arith
fault-low (unlabelled h) = omega arith
fault-low (malformed s f h) = omega arith
fault-low (repeated s t f g h e) = omega arith
fault-low (oversized s f h) = omega arith
fault-low (misnumbered s k f h w) = omega arith
fault-low (twice b o q h e f g) = omega arith
fault-low (unmarked b h f g) = omega arith
fault-low (stray b h f g) = omega arith

-- and so are those that the code tells
pub fault-number : (f : Fault) → rule f ≤ 7
fault-number ImageTooShort = omega arith
fault-number BadMagic = omega arith
fault-number BadLabel = omega arith
fault-number (BadSlot s) = omega arith
fault-number (BadInode s) = omega arith
fault-number (BlockTwice b) = omega arith
fault-number (MapWrong b) = omega arith

-- the refusal of a name that no file has is the only one of its number
rule-other : (f : Fault) → rule f ≢ 13
rule-other f e = omega (arith, e, fault-number f)

refusal-other : (r : Refusal) → r ≢ NoSuchName → number r ≢ 13
refusal-other NameNotAllowed other e = omega (arith, e)
refusal-other SizeTooLarge other e = omega (arith, e)
refusal-other NameExists other e = omega (arith, e)
refusal-other NoFreeSlot other e = omega (arith, e)
refusal-other NoRoom other e = omega (arith, e)
refusal-other NoSuchName other e = absurd (other refl)
refusal-other NoSuchSlot other e = omega (arith, e)
refusal-other OffsetPastEnd other e = omega (arith, e)
refusal-other NoSuchStore other e = omega (arith, e)

pub error-other : (e : Error) → e ≢ Refused NoSuchName → error_number e ≢ 13
error-other (Inconsistent f) other e = rule-other f e
error-other (Refused r) other e = refusal-other r (λ q. other (ap Refused q)) e
error-other NoBoard other e = omega (arith, e)
error-other WrongSize other e = omega (arith, e)
error-other OtherBoard other e = omega (arith, e)
error-other OtherMaker other e = omega (arith, e)

module _ (img : List ℕ) where
  pub sound : check 512 img ≡ consistent → Consistent 512 img
  sound e = (statements.check-laws 512 statements.number-laws.base img).passes.0 e

  -- ---- without a look
  pub no-board-passed : check 512 img ≡ consistent → refused 34 0 ≡ store_answer 512 img 0
  no-board-passed e = sym (store-answer statements 512 statements.number-laws.base img (sound e) 0)

  pub no-board-fault : (num p board : ℕ) → broken num p ≡ check 512 img → refused num p ≡ store_answer 512 img board
  unfolding store_answer
  no-board-fault num p board e = ap (λ (v : Verdict). checked v refused (cond (eqb board 0) (refused 34 0) (store_room 512 img (standing 512 img)))) e

  -- ---- after one
  module _ (num p : ℕ) (fault : FirstBroken 512 img num p) where
    fault-store : (board : ℕ) → store_answer 512 img board ≡ refused num p
    fault-store board = sym (no-board-fault num p board (sym (((statements.check-laws 512 statements.number-laws.base img).breaks num p).1 fault)))

    pub fault-open : open_answer 512 img ≡ refused num p
    unfolding open_lid
    fault-open = ap (λ (o : Outcome). o.answer) (fault-law statements 512 statements.number-laws.base img num p fault).open-lid

  module _ (ok : Consistent 512 img) where
    pub opens_by : (old : Option (List ℕ)) → standing 512 img ≡ old → open_answer 512 img ≡ open_room old
    opens_by old e = open-answer statements 512 statements.number-laws.base img ok ∙ ap open_room e

    pub stores-by : (board : ℕ) → board ≢ 0 → (old : Option (List ℕ)) → standing 512 img ≡ old → store_answer 512 img board ≡ store_room 512 img old
    stores-by board set old e = store-answer statements 512 statements.number-laws.base img ok board ∙ if-other board 0 _ _ set ∙ ap (store_room 512 img) e

    none-by : (old : Option (List ℕ)) → standing 512 img ≡ old → refused 13 0 ≡ open_answer 512 img → standing 512 img ≡ none
    none-by none e f = e
    none-by (some bytes) e f =
        let number : 13 ≡ refusal_of (sized bytes) = ap refusal_of (f ∙ opens_by (some bytes) e) in
        absurd (by_number (length bytes) 64
        (λ z. let n : 13 ≡ 0 = number ∙ ap refusal_of (if-same (length bytes) 64 done (refused 35 0) z) in omega (arith, n))
        (λ z. let n : 13 ≡ 35 = number ∙ ap refusal_of (if-other (length bytes) 64 done (refused 35 0) z) in omega (arith, n)))

    refused-by : (board : ℕ) → board ≢ 0 → (old : Option (List ℕ)) → standing 512 img ≡ old → (a : Answer) → a ≡ open_answer 512 img → refusal_of a ≢ 13 → a ≡ store_answer 512 img board
    refused-by board set none e a f other = absurd (other (ap refusal_of (f ∙ opens_by none e)))
    refused-by board set (some bytes) e a f other = f ∙ opens_by (some bytes) e ∙ sym (stores-by board set (some bytes) e)

  pub room-absent : refused 13 0 ≡ open_answer 512 img → (check 512 img ≡ consistent) × (standing 512 img ≡ none)
  room-absent e =
      by-check statements 512 statements.number-laws.base img
      (λ ok. ((statements.check-laws 512 statements.number-laws.base img).passes.1 ok, none-by ok (standing 512 img) refl e))
      (λ num p fault. absurd (let n : 13 ≡ num = ap refusal_of (e ∙ fault-open num p fault) in omega (arith, n, fault-low fault.here)))

  pub room-refused : (board : ℕ) → board ≢ 0 → (a : Answer) → a ≡ open_answer 512 img → refusal_of a ≢ 13 → a ≡ store_answer 512 img board
  room-refused board set a e other =
      by-check statements 512 statements.number-laws.base img (λ ok. refused-by ok board set (standing 512 img) refl a e other)
      (λ num p fault. e ∙ fault-open num p fault ∙ sym (fault-store num p fault board))

  pub room-stands : (bytes : List ℕ) → check 512 img ≡ consistent → done ≡ open_answer 512 img → standing 512 img ≡ some bytes → length bytes ≡ 64
  room-stands bytes e d at = sized-64 bytes (subst (λ (a : Answer). T (granted a)) (d ∙ opens_by (sound e) (some bytes) at) tt)
