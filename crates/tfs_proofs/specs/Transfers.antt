-- Read and write by the slot that the lookup of their name gives.
use Rattle.std.specs.Prelude.{◌≡◌, ℕ, ◌<◌, length}
use Rattle.std.proofs.Math.Path.{refl, ap}
use Rattle.std.proofs.Common.{◌∙◌, arith}
use Rattle.std.proofs.Math.Bool.{cond}
use mathlib.Core.List.{List, []}
use Rattle.std.proofs.Math.Dec.{T}
use Rattle.tfs_spec.specs.Layout.{slots, name_allowed, View, view, slot_of}
use Rattle.tfs_spec.specs.Check.{Verdict, consistent, broken, check}
use Rattle.tfs_spec.specs.Requests.{Answer, refused, granted, Outcome, refuse, checked, Lookup, in_slot, denied, lookup, looked, transfer_answer, read_buffer, read_file, read, write_image, write_file, write}
use Rattle.tfs_facts.specs.Lookups.{by-lookup}

-- the slot that a lookup gives, past the last where it is refused
abbrev pub slot_given : ℕ → Lookup → ℕ
slot_given B (in_slot s) = s
slot_given B (denied num) = slots B

unfoldable pub slot_for : ℕ → View → List ℕ → ℕ
slot_for B v nm = slot_given B (lookup B v nm)

-- what read and write answer on a consistent volume
unfoldable pub transfer_view : ℕ → View → List ℕ → ℕ → ℕ → Answer
transfer_view B v nm o len = looked (lookup B v nm) refused (λ s. transfer_answer B v s o len)

module _ (B : ℕ) (v : View) (nm : List ℕ) where
  -- below the last slot it is that of a name that requests take
  pub slot_for-hit : slot_for B v nm < slots B → T (name_allowed nm) × (slot_for B v nm ≡ slot_of B v nm)
  unfolding slot_for
  slot_for-hit h =
      by-lookup B v nm (λ (x : Lookup). slot_given B x < slots B → T (name_allowed nm) × (slot_given B x ≡ slot_of B v nm)) (λ t l. absurd (omega arith)) (λ t m l. absurd (omega arith)) (λ t m l. (t, refl)) h

-- ---- answer and effect apart, of an image with a verdict and a view
abbrev pub filled : ℕ → List ℕ → ℕ → List ℕ → List ℕ → Verdict → View → Outcome
filled B nm o buf img x v =
    checked x (refuse img buf)
    (record { answer = transfer_view B v nm o (length buf); image = img; buffer = cond (granted (transfer_view B v nm o (length buf))) (read_buffer B v img (slot_for B v nm) o buf) buf })

abbrev pub written : ℕ → List ℕ → ℕ → List ℕ → List ℕ → Verdict → View → Outcome
written B nm o buf img x v =
    checked x (refuse img [])
    (record { answer = transfer_view B v nm o (length buf); image = cond (granted (transfer_view B v nm o (length buf))) (write_image B v img (slot_for B v nm) o buf) img; buffer = [] })

module _ (B : ℕ) (img nm : List ℕ) (o : ℕ) (buf : List ℕ) where
  pub read_as : read B img nm o buf ≡ filled B nm o buf img (check B img) (view B img)
  unfolding read transfer_view slot_for
  read_as = ap (checked (check B img) (refuse img buf)) (go (lookup B (view B img) nm))
    where
      go : (x : Lookup) → looked x (refuse img buf) (λ s. read_file B img s o buf) ≡ record { answer = looked x refused (λ s. transfer_answer B (view B img) s o (length buf)); image = img; buffer = cond (granted (looked x refused (λ s. transfer_answer B (view B img) s o (length buf)))) (read_buffer B (view B img) img (slot_given B x) o buf) buf }
      go (in_slot s) = refl
      go (denied num) = refl

  pub write_as : write B img nm o buf ≡ written B nm o buf img (check B img) (view B img)
  unfolding write transfer_view slot_for
  write_as = ap (checked (check B img) (refuse img [])) (go (lookup B (view B img) nm))
    where
      go : (x : Lookup) → looked x (refuse img []) (λ s. write_file B img s o buf) ≡ record { answer = looked x refused (λ s. transfer_answer B (view B img) s o (length buf)); image = cond (granted (looked x refused (λ s. transfer_answer B (view B img) s o (length buf)))) (write_image B (view B img) img (slot_given B x) o buf) img; buffer = [] }
      go (in_slot s) = refl
      go (denied num) = refl

  pub read-image : (read B img nm o buf).image ≡ img
  read-image = ap (λ (x : Outcome). x.image) read_as ∙ go (check B img)
    where
      go : (x : Verdict) → (filled B nm o buf img x (view B img)).image ≡ img
      go consistent = refl
      go (broken num p) = refl

  -- on a consistent volume
  module _ (passed : check B img ≡ consistent) where
    pub read_answer : (read B img nm o buf).answer ≡ transfer_view B (view B img) nm o (length buf)
    read_answer = ap (λ (x : Outcome). x.answer) read_as ∙ rw passed

    pub write-answer : (write B img nm o buf).answer ≡ transfer_view B (view B img) nm o (length buf)
    write-answer = ap (λ (x : Outcome). x.answer) write_as ∙ rw passed
