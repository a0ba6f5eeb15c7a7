-- A record run on a consistent volume, by the kind of its request.
use Rattle.std.specs.Prelude.{◌≡◌, refl, Bool, ◌&&◌, ℕ, Result, Ok, Err, MatchResult, IsOkAnd, List}
use Rattle.std.proofs.Common.{sym, ap, ◌∙◌, subst}
use Rattle.lists.specs.Lists.{same_list, zeros}
use Rattle.tfs_spec.specs.Layout.{view}
use Rattle.tfs_spec.specs.Check.{consistent, check}
use Rattle.tfs_spec.specs.Requests.{Answer, value, granted, refusal_of, count_of, Outcome, Lookup, in_slot, denied, looked, lookup, create_step, create, remove_step, remove, refuse, read_file, read_step, read, write_step, write, free_step, free_answer, Change, perform, tell}
use Rattle.tfs_spec.specs.Traces as rules
use Rattle.tfs_spec.specs.Replays.{run, agrees, read_bytes}
use Rattle.tfs_facts.specs.CheckMeans.{check-means}
use Rattle.tfs_facts.specs.Sizes.{size-512}
use Rattle.tfs_proofs.specs.Changes.{stays-consistent}
use Rattle.tfs_refusal.specs.declared.Refusal.{Refusal}
use Rattle.tfs_refusal.specs.Told.{step_told}
use Rattle.tfs_transfer.specs.Compare.{compared_refusal, compared_same}
use Rattle.tfs_trace.specs.Told.{span_of, call_of, expected_of, InsideRecord}
use Rattle.tfs_trace.specs.declared.Span.{Span}
use Rattle.tfs_trace.specs.declared.Record.{Record}
use Rattle.tfs_trace.specs.declared.Call.{Call}
use Rattle.tfs_trace.specs.declared.Call.TheVariants.{Create, Remove, Read, Write, Free}
use Rattle.tfs_replay.specs.Agree.{answer_agrees, read_agrees, wanted, Expects, expects, Stands, settles, agrees_told, remove-agrees, read_told}

module _ (img : List ℕ) (passed : check 512 img ≡ consistent) where
  -- ---- the check is passed, so that a request is its step
  run-create : (nm : List ℕ) (z : ℕ) → run 512 img (rules.creating nm z) ≡ create_step 512 img nm z
  unfolding perform create
  run-create nm z = rw passed

  run-remove : (nm : List ℕ) → run 512 img (rules.removing nm) ≡ remove_step 512 img nm
  unfolding perform remove
  run-remove nm = rw passed

  run-read : (nm : List ℕ) (o len : ℕ) → run 512 img (rules.reading nm o len) ≡ read_step 512 img nm o (zeros len)
  unfolding read
  run-read nm o len = rw passed

  run-write : (nm : List ℕ) (o : ℕ) (bs : List ℕ) → run 512 img (rules.writing nm o bs) ≡ write_step 512 img nm o bs
  unfolding perform write
  run-write nm o bs = rw passed

  run-count : run 512 img rules.counting ≡ tell img (free_step 512 img)
  unfolding free_answer
  run-count = rw passed

  -- ---- "The volume stays consistent"
  changed : (c : Change) → check 512 (perform 512 img c).image ≡ consistent
  changed c = (check-means 512 size-512 (perform 512 img c).image).1 (stays-consistent 512 size-512 img ((check-means 512 size-512 img).0 passed) c)

  -- a read leaves the image
  left : (l : Lookup) (buf : List ℕ) (o : ℕ) → (looked l (refuse img buf) (λ s. read_file 512 img s o buf)).image ≡ img
  left (in_slot s) buf o = refl
  left (denied num) buf o = refl

  pub run-read-image : (nm : List ℕ) (o len : ℕ) → (run 512 img (rules.reading nm o len)).image ≡ img
  run-read-image nm o len = ap (λ (x : Outcome). x.image) (run-read nm o len) ∙ left (lookup 512 (view 512 img) nm) (zeros len) o

  stays : (c : rules.Call) → check 512 (run 512 img c).image ≡ consistent
  stays (rules.creating nm z) = changed _
  stays (rules.removing nm) = changed _
  stays (rules.reading nm o len) = ap (check 512) (run-read-image nm o len) ∙ passed
  stays (rules.writing nm o bs) = changed _
  stays rules.counting = passed

-- what a step has told
pub stands : (r : Result ℕ Refusal) (x : Answer) → step_told value r ≡ x → Stands r x
stands (Ok y) x e = (ap granted (sym e), ap refusal_of (sym e), ap count_of (sym e))
stands (Err y) x e = (ap granted (sym e), ap refusal_of (sym e))

-- the same of a step that is granted with more or less than the number which the code goes on with
pub stands_by : {T : Type 0} (f : T → Answer) (g : T → ℕ) → ((y : T) → Stands (Ok (g y)) (f y)) → (P : T → ℕ → Type 0) → ((y : T) (n : ℕ) → P y n → n ≡ g y) → (r : Result T Refusal) (a : Result ℕ Refusal) (x : Answer)
    → MatchResult r (λ y. IsOkAnd a (P y)) (λ e. a ≡ Err e) → step_told f r ≡ x → Stands a x
stands_by f g h P p (Ok y) (Ok n) x m e = rw (p y n m) (subst (Stands (Ok (g y))) e (h y))
stands_by f g h P p (Ok y) (Err n) x m e = absurd m
stands_by f g h P p (Err y) a x m e = rw m (ap granted (sym e), ap refusal_of (sym e))

-- what the code has when a record of the trace t is run: whether the answer agrees, and the image after
pub record Ran (img t : List ℕ) (item : Record) (b : Bool) (new : List ℕ) : Type 0 where
  pub agrees : b ≡ agrees (run 512 img (call_of t item.call)) (expected_of t item.expected)
  pub image : new ≡ (run 512 img (call_of t item.call)).image
  pub stays : check 512 new ≡ consistent

module _ (img t : List ℕ) (item : Record) (passed : check 512 img ≡ consistent) (inside : InsideRecord t item) where
  may : (c : Call) → item.call ≡ c → Expects (call_of t c) (expected_of t item.expected)
  may c e = subst (λ (x : Call). Expects (call_of t x) (expected_of t item.expected)) e (expects inside.2)

  -- the request comes to o
  ran : (o : Outcome) (b : Bool) (new : List ℕ) → run 512 img (call_of t item.call) ≡ o → b ≡ agrees o (expected_of t item.expected) → new ≡ o.image → Ran img t item b new
  ran o b new e a n =
      let same : new ≡ (run 512 img (call_of t item.call)).image = n ∙ ap (λ (x : Outcome). x.image) (sym e) in
      record { agrees = rw e a; image = same; stays = ap (check 512) same ∙ stays img passed (call_of t item.call) }

  module _ (a : Result ℕ Refusal) (b : Bool) (new nm : List ℕ) (said : b ≡ answer_agrees a item.expected) where
    pub ran_create : (n : Span) (z : ℕ) → item.call ≡ Create n z → nm ≡ span_of t n → Stands a (create_step 512 img nm z).answer → new ≡ (create_step 512 img nm z).image → Ran img t item b new
    ran_create n z e name told image =
        ran (create_step 512 img nm z) b new
        (rw (e, ← name) (run-create img passed nm z))
        (said ∙ agrees_told t a (create_step 512 img nm z) item.expected (may (Create n z) e) told)
        image

    pub ran_remove : (n : Span) → item.call ≡ Remove n → nm ≡ span_of t n → Stands a (remove_step 512 img nm).answer → new ≡ (remove_step 512 img nm).image → Ran img t item b new
    ran_remove n e name told image =
        ran (remove_step 512 img nm) b new
        (rw (e, ← name) (run-remove img passed nm))
        (said ∙ remove-agrees t a (remove_step 512 img nm) item.expected (may (Remove n) e) (settles a (remove_step 512 img nm).answer told))
        image

    pub ran_write : (n s : Span) (o : ℕ) (bs : List ℕ) → item.call ≡ Write n o s → nm ≡ span_of t n → bs ≡ span_of t s → Stands a (write_step 512 img nm o bs).answer → new ≡ (write_step 512 img nm o bs).image → Ran img t item b new
    ran_write n s o bs e name bytes told image =
        ran (write_step 512 img nm o bs) b new
        (rw (e, ← name, ← bytes) (run-write img passed nm o bs))
        (said ∙ agrees_told t a (write_step 512 img nm o bs) item.expected (may (Write n o s) e) told)
        image

    pub ran_count : item.call ≡ Free → Stands a (free_step 512 img) → new ≡ img → Ran img t item b new
    ran_count e told image =
        ran (tell img (free_step 512 img)) b new
        (rw e (run-count img passed))
        (said ∙ agrees_told t a (tell img (free_step 512 img)) item.expected (may Free e) told)
        image

  pub ran_read : (r : Result Bool Refusal) (b : Bool) (nm bs : List ℕ) → b ≡ read_agrees r item.expected → (n : Span) (o len : ℕ) → item.call ≡ Read n o len → nm ≡ span_of t n → bs ≡ wanted t item.expected
      → compared_refusal r ≡ refusal_of (read_step 512 img nm o (zeros len)).answer
      → compared_same r ≡ (granted (read_step 512 img nm o (zeros len)).answer && same_list bs (read_bytes (read_step 512 img nm o (zeros len)))) → Ran img t item b img
  ran_read r b nm bs said n o len e name bytes refusal same =
      ran (read_step 512 img nm o (zeros len)) b img
      (rw (e, ← name) (run-read img passed nm o len))
      (said ∙ read_told t r (read_step 512 img nm o (zeros len)) item.expected (may (Read n o len) e) refusal (rw bytes at same))
      (sym (left img passed (lookup 512 (view 512 img) nm) (zeros len) o))
