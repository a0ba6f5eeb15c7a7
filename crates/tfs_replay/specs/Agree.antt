-- An answer against the one that a record expects, by their cases.
use Rattle.std.specs.Prelude.{◌≡◌, Bool, true, false, ◌&&◌, ℕ, Result, Ok, Err, List, []}
use Rattle.std.proofs.Common.{sym}
use Rattle.std.proofs.Math.Dec.{eqb}
use Rattle.lists.specs.Lists.{same_list}
use Rattle.tfs_spec.specs.Requests.{Answer, granted, refusal_of, count_of, Outcome}
use Rattle.tfs_spec.specs.Traces as rules
use Rattle.tfs_spec.specs.Replays.{agrees, read_bytes}
use Rattle.tfs_refusal.specs.declared.Refusal.{Refusal}
use Rattle.tfs_refusal.specs.Refusal.{number}
use Rattle.tfs_transfer.specs.Compare.{compared_refusal, compared_same}
use Rattle.tfs_trace.specs.Told.{span_of, expected_of}
use Rattle.tfs_trace.specs.declared.Expected.{Expected}
use Rattle.tfs_trace.specs.declared.Expected.TheVariants as expected

-- ---- as the code compares them
-- of any request but a read, which expects no bytes
abbrev pub answer_agrees : Result ℕ Refusal → Expected → Bool
answer_agrees (Ok x) expected.Nothing = true
answer_agrees (Ok x) (expected.Bytes s) = false
answer_agrees (Ok x) (expected.Amount n) = eqb x n
answer_agrees (Ok x) (expected.Refusal n) = eqb 0 n
answer_agrees (Err r) expected.Nothing = false
answer_agrees (Err r) (expected.Bytes s) = false
answer_agrees (Err r) (expected.Amount n) = false
answer_agrees (Err r) (expected.Refusal n) = eqb (number r) n

-- of a read, which expects bytes or a refusal
abbrev pub read_agrees : Result Bool Refusal → Expected → Bool
read_agrees (Ok same) expected.Nothing = false
read_agrees (Ok same) (expected.Bytes s) = same
read_agrees (Ok same) (expected.Amount n) = false
read_agrees (Ok same) (expected.Refusal n) = eqb 0 n
read_agrees (Err r) expected.Nothing = false
read_agrees (Err r) (expected.Bytes s) = false
read_agrees (Err r) (expected.Amount n) = false
read_agrees (Err r) (expected.Refusal n) = eqb (number r) n

-- the bytes that are expected
abbrev pub wanted : List ℕ → Expected → List ℕ
wanted t expected.Nothing = []
wanted t (expected.Bytes s) = span_of t s
wanted t (expected.Amount n) = []
wanted t (expected.Refusal n) = []

-- ---- and as the rules do, of what its request may expect
abbrev pub OnlyNothing : rules.Expected → Type 0
OnlyNothing rules.nothing = Unit {0}
OnlyNothing (rules.bytes bs) = ⊥
OnlyNothing (rules.amount n) = ⊥
OnlyNothing (rules.refusal n) = Unit {0}

abbrev pub OnlyBytes : rules.Expected → Type 0
OnlyBytes rules.nothing = ⊥
OnlyBytes (rules.bytes bs) = Unit {0}
OnlyBytes (rules.amount n) = ⊥
OnlyBytes (rules.refusal n) = Unit {0}

abbrev pub NoBytes : rules.Expected → Type 0
NoBytes rules.nothing = Unit {0}
NoBytes (rules.bytes bs) = ⊥
NoBytes (rules.amount n) = Unit {0}
NoBytes (rules.refusal n) = Unit {0}

abbrev pub Expects : rules.Call → rules.Expected → Type 0
Expects (rules.creating nm z) e = NoBytes e
Expects (rules.removing nm) e = OnlyNothing e
Expects (rules.reading nm o len) e = OnlyBytes e
Expects (rules.writing nm o bs) e = NoBytes e
Expects rules.counting e = NoBytes e

expects-refusal : (c : rules.Call) (n : ℕ) → Expects c (rules.refusal n)
expects-refusal (rules.creating nm z) n = tt
expects-refusal (rules.removing nm) n = tt
expects-refusal (rules.reading nm o len) n = tt
expects-refusal (rules.writing nm o bs) n = tt
expects-refusal rules.counting n = tt

pub expects : {c : rules.Call} {e : rules.Expected} → rules.Fitting c e → Expects c e
expects (rules.of-create nm z) = tt
expects (rules.of-remove nm) = tt
expects (rules.of-read nm o len bs) = tt
expects (rules.of-write nm o bs n) = tt
expects (rules.of-count n) = tt
expects (rules.of-refusal c n h) = expects-refusal c n

-- what the code has of an answer of the rules
abbrev pub Stands : Result ℕ Refusal → Answer → Type 0
Stands (Ok x) a = (granted a ≡ true) × (refusal_of a ≡ 0) × (count_of a ≡ x)
Stands (Err r) a = (granted a ≡ false) × (refusal_of a ≡ number r)

-- the same but for the number that it is granted with
abbrev pub Settles : Result ℕ Refusal → Answer → Type 0
Settles (Ok x) a = (granted a ≡ true) × (refusal_of a ≡ 0)
Settles (Err r) a = (granted a ≡ false) × (refusal_of a ≡ number r)

pub settles : (a : Result ℕ Refusal) (x : Answer) → Stands a x → Settles a x
settles (Ok n) x s = (s.0, s.1)
settles (Err r) x s = s

module _ (t : List ℕ) where
  pub agrees_told : (a : Result ℕ Refusal) (o : Outcome) (e : Expected) → NoBytes (expected_of t e) → Stands a o.answer → answer_agrees a e ≡ agrees o (expected_of t e)
  unfolding agrees
  agrees_told (Ok x) o expected.Nothing h s = sym s.0
  agrees_told (Ok x) o (expected.Bytes b) h s = absurd h
  agrees_told (Ok x) o (expected.Amount n) h s = rw (s.0, s.2)
  agrees_told (Ok x) o (expected.Refusal n) h s = rw s.1
  agrees_told (Err r) o expected.Nothing h s = sym s.0
  agrees_told (Err r) o (expected.Bytes b) h s = absurd h
  agrees_told (Err r) o (expected.Amount n) h s = rw s.0
  agrees_told (Err r) o (expected.Refusal n) h s = rw s.1

  pub remove-agrees : (a : Result ℕ Refusal) (o : Outcome) (e : Expected) → OnlyNothing (expected_of t e) → Settles a o.answer → answer_agrees a e ≡ agrees o (expected_of t e)
  unfolding agrees
  remove-agrees (Ok x) o expected.Nothing h s = sym s.0
  remove-agrees (Ok x) o (expected.Bytes b) h s = absurd h
  remove-agrees (Ok x) o (expected.Amount n) h s = absurd h
  remove-agrees (Ok x) o (expected.Refusal n) h s = rw s.1
  remove-agrees (Err r) o expected.Nothing h s = sym s.0
  remove-agrees (Err r) o (expected.Bytes b) h s = absurd h
  remove-agrees (Err r) o (expected.Amount n) h s = absurd h
  remove-agrees (Err r) o (expected.Refusal n) h s = rw s.1

  pub read_told : (r : Result Bool Refusal) (o : Outcome) (e : Expected) → OnlyBytes (expected_of t e) → compared_refusal r ≡ refusal_of o.answer → compared_same r ≡ (granted o.answer && same_list (wanted t e) (read_bytes o)) → read_agrees r e ≡ agrees o (expected_of t e)
  unfolding agrees
  read_told (Ok same) o expected.Nothing h f s = absurd h
  read_told (Ok same) o (expected.Bytes b) h f s = s
  read_told (Ok same) o (expected.Amount n) h f s = absurd h
  read_told (Ok same) o (expected.Refusal n) h f s = rw (← f)
  read_told (Err r) o expected.Nothing h f s = absurd h
  read_told (Err r) o (expected.Bytes b) h f s = s
  read_told (Err r) o (expected.Amount n) h f s = absurd h
  read_told (Err r) o (expected.Refusal n) h f s = rw (← f)
