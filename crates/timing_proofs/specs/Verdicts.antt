-- The check's two outcomes, and what the pump's requests come to by each.
use Rattle.std.specs.Prelude.{◌≡◌, refl, ◌≢◌, cond, ℕ, zero, suc, ◌<◌, List, get_or, eqb}
use Rattle.std.proofs.Math.Path.{ap}
use Rattle.std.proofs.Common.{arith}
use Rattle.tfs_spec.specs.Layout.{BlockSize}
use Rattle.tfs_spec.specs.Check.{Verdict, consistent, broken, check}
use Rattle.tfs_spec.specs.Consistent.{Consistent, FirstBroken}
use Rattle.tfs_spec.specs.Requests.{refused, checked}
use Rattle.tfs_spec.specs.Answers.{NameRule}
use Rattle.tfs_spec.specs.Laws.{Statements}
use Rattle.timing_spec.specs.Timing.{TIMING, standing, made, fetched, store_room, store_answer, store_changes, store, store_block, open_room, open_answer, open_changes, open_lid, open_lid_block, not_booted, boot_on, boot}
use Rattle.timing_spec.specs.Laws.{FaultLaws}

-- TIMING is a name that requests take
letters : (i : ℕ) → i < 6 → get_or TIMING i 0 ≢ 0
letters zero h e = omega (arith, e)
letters (suc zero) h e = omega (arith, e)
letters (suc (suc zero)) h e = omega (arith, e)
letters (suc (suc (suc zero))) h e = omega (arith, e)
letters (suc (suc (suc (suc zero)))) h e = omega (arith, e)
letters (suc (suc (suc (suc (suc zero))))) h e = omega (arith, e)
letters (suc (suc (suc (suc (suc (suc i)))))) h e = omega (arith, h)

pub named : NameRule TIMING
named = (omega arith, (omega arith, letters))

-- a volume is consistent or not
by-verdict {ℓ} : {P : Type ℓ} (v : Verdict) → (v ≡ consistent → P) → ((num p : ℕ) → v ≡ broken num p → P) → P
by-verdict consistent f g = f refl
by-verdict (broken num p) f g = g num p refl

module _ (book : Statements) (B : ℕ) (sz : BlockSize B) (img : List ℕ) where
  pub by-check {ℓ} : {P : Type ℓ} → (Consistent B img → P) → ((num p : ℕ) → FirstBroken B img num p → P) → P
  by-check f g = by-verdict (check B img) (λ e. f ((book.check-laws B sz img).passes.0 e)) (λ num p e. g num p (((book.check-laws B sz img).breaks num p).0 e))

  -- ---- on a volume that is not consistent
  module _ (num p : ℕ) (fault : FirstBroken B img num p) where
    fails : check B img ≡ broken num p
    fails = ((book.check-laws B sz img).breaks num p).1 fault

    pub fault-law : FaultLaws B img num p
    unfolding store store_answer store_block open_lid open_answer open_lid_block boot
    fault-law = record {
      store = λ t. ap (λ (v : Verdict). made B img (checked v refused (cond (eqb t.board 0) (refused 34 0) (store_room B img (standing B img)))) (store_changes (standing B img) t)) fails;
      open-lid = ap (λ (v : Verdict). made B img (checked v refused (open_room (standing B img))) open_changes) fails;
      boot = λ board maker. ap (λ (v : Verdict). checked v not_booted (boot_on (standing B img) board maker)) fails;
      store-block = λ t k buf. ap (λ (v : Verdict). fetched B img (checked v refused (cond (eqb t.board 0) (refused 34 0) (store_room B img (standing B img)))) (store_changes (standing B img) t) k buf) fails;
      open-lid-block = λ k buf. ap (λ (v : Verdict). fetched B img (checked v refused (open_room (standing B img))) open_changes k buf) fails;
    }

  -- ---- on a consistent one
  module _ (ok : Consistent B img) where
    passes : check B img ≡ consistent
    passes = (book.check-laws B sz img).passes.1 ok

    pub store-answer : (board : ℕ) → store_answer B img board ≡ cond (eqb board 0) (refused 34 0) (store_room B img (standing B img))
    unfolding store_answer
    store-answer board = ap (λ (v : Verdict). checked v refused (cond (eqb board 0) (refused 34 0) (store_room B img (standing B img)))) passes

    pub open-answer : open_answer B img ≡ open_room (standing B img)
    unfolding open_answer
    open-answer = ap (λ (v : Verdict). checked v refused (open_room (standing B img))) passes

    pub boot-by : (board maker : ℕ) → boot B img board maker ≡ boot_on (standing B img) board maker
    unfolding boot
    boot-by board maker = ap (λ (v : Verdict). checked v not_booted (boot_on (standing B img) board maker)) passes
