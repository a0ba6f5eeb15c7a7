-- Drafts stand for records that a trace can hold, and for all of them.
use Rattle.std.specs.Prelude.{◌≡◌, refl, Bool, true, false, cond, ℕ, List, [], eqb}
use Rattle.std.proofs.Common.{ne_eqb}
use Rattle.std.proofs.lemmas.Bool.{eqb-false}
use Rattle.tfs_spec.specs.Traces.{Call, creating, removing, reading, writing, counting, Expected, refusal, record_of, Fitting, of-create, of-remove, of-read, of-write, of-count, of-refusal}
use Rattle.tfs_trace_write.specs.declared.Draft.{Draft}
use Rattle.tfs_trace_write.specs.declared.Draft.TheVariants as draft
use Rattle.tfs_trace_write.specs.Drafts.{draft_call, draft_result, draft_expected, draft_told}

result_fits : (d : Draft) (nm bs : List ℕ) (v : ℕ) → Fitting (draft_call d nm bs) (draft_result d bs v)
result_fits (draft.Create z) nm bs v = of-create nm z
result_fits draft.Remove nm bs v = of-remove nm
result_fits (draft.Read o len) nm bs v = of-read nm o len bs
result_fits (draft.Write o) nm bs v = of-write nm o bs v
result_fits draft.Free nm bs v = of-count v

-- what a draft expects is always a result of its kind, or a refusal that is not 0
pub draft-fits : (d : Draft) (nm bs : List ℕ) (num v : ℕ) → Fitting (draft_call d nm bs) (draft_expected d bs num v)
draft-fits d nm bs num v = go (eqb num 0) refl
  where
    go : (b : Bool) → eqb num 0 ≡ b → Fitting (draft_call d nm bs) (cond b (draft_result d bs v) (refusal num))
    go true e = result_fits d nm bs v
    go false e = of-refusal (draft_call d nm bs) num (eqb-false num 0 e)

-- the draft, name and bytes of a call
record Drafted (c : Call) : Type 0 where
  draft : Draft
  name : List ℕ
  bytes : List ℕ
  is : draft_call draft name bytes ≡ c

drafted : (c : Call) → Drafted c
drafted (creating nm z) = record { draft = draft.Create z; name = nm; bytes = []; is = refl }
drafted (removing nm) = record { draft = draft.Remove; name = nm; bytes = []; is = refl }
drafted (reading nm o len) = record { draft = draft.Read o len; name = nm; bytes = []; is = refl }
drafted (writing nm o bs) = record { draft = draft.Write o; name = nm; bytes = bs; is = refl }
drafted counting = record { draft = draft.Free; name = []; bytes = []; is = refl }

-- every record that a trace can hold is written from some draft
pub draft-all : (c : Call) (e : Expected) → Fitting c e → (d : Draft) × (nm : List ℕ) × (bs : List ℕ) × (num : ℕ) × (v : ℕ) × (draft_told d nm bs num v ≡ record_of c e)
draft-all _ _ (of-create nm z) = (draft.Create z, nm, [], 0, 0, refl)
draft-all _ _ (of-remove nm) = (draft.Remove, nm, [], 0, 0, refl)
draft-all _ _ (of-read nm o len bs) = (draft.Read o len, nm, bs, 0, 0, refl)
draft-all _ _ (of-write nm o bs n) = (draft.Write o, nm, bs, 0, n, refl)
draft-all _ _ (of-count n) = (draft.Free, [], [], 0, n, refl)
draft-all _ _ (of-refusal c n z) =
    let w = drafted c in
    (w.draft, w.name, w.bytes, n, 0, rw (ne_eqb n 0 z, w.is))
