-- Find, entry and content: each answer is given exactly when the rules say, in plain facts.
use Rattle.std.specs.Prelude.{ℕ, ◌+◌, ◌≡◌, refl, ◌≢◌, ◌↔◌, Bool, true, false, cond, ◌&&◌, List, []}
use Rattle.std.proofs.Math.Path.{sym, ap}
use Rattle.std.proofs.Common.{subst, ◌∙◌, arith}
use Rattle.std.proofs.Math.Logic.{inl, inr, ⊎_elim}
use Rattle.std.proofs.Math.Decide.{ℕ_discrete, dec_lt}
use borrow.Author.Tests.{eq-eqb, ne_eqb, eqb-true}
use Rattle.std.proofs.Math.ListN.{length}
use Rattle.std.proofs.Math.Dec.{eqb}
use Rattle.lists.specs.Lists.{part}
use Rattle.list_laws.specs.Part.{length_part}
use Rattle.romfs_spec.specs.Layout.{full_size, first_root, name_length, name_ends, type_of_file, size, content_at, has_data}
use Rattle.romfs_spec.specs.Check.{accepted, is_reached, check}
use Rattle.romfs_spec.specs.Requests.{Answer, granted, refused, checked, first_of, match_in, is_directory, find_step, find, Entry, entry_at, entry_step, entry, content_step, content_length, content, content_start}
use Rattle.romfs_spec.specs.Accepted.{full, ZeroAfter, size_at, IsReached, Accepted}
use Rattle.romfs_spec.specs.Statements as statements
use Rattle.romfs_spec.specs.Statements.{Answered, refusal, at31, fits, Directory, FirstGiven, InList, FirstMatch, Finds, FindSays, EntryIs, EntrySays, HasContent, ContentIs, ContentSays}
use Rattle.romfs_facts.specs.Tested as test
use Rattle.romfs_facts.specs.Facts.{both, either, or_yes, and-yes-l, and-yes-r, true-false}
use Rattle.romfs_facts.specs.Lowest.{Out, fine, fails, out, yes-no}
use Rattle.romfs_facts.specs.Walked.{Volume, volume-of, full-to, sound}
use Rattle.romfs_facts.specs.Seek.{reached-iff}
use Rattle.romfs_facts.specs.Theorems.{check-parts}
use Rattle.romfs_facts.specs.Given.{first-info, first-reached, data-type, Content, content-in}
use Rattle.romfs_facts.specs.Find as walk
use Rattle.romfs_facts.specs.Find.{find_first}
use Rattle.romfs_proofs.specs.Plain.{full_is, type-is, executable-is, next-is, info-is, size_is, length-is, is-length, content-is, named-of, of-named}
use Rattle.romfs_proofs.specs.Checked.{root-first, root_is, volume-named, test-ends, reach, unreach, check-accepted, check-refused}

-- ---- a request that makes the test t of its offset and then answers x
no_test : {P : Type 0} (t : Bool) → (t ≡ true → P) → (P → ⊥) → t ≡ false
no_test true f h = absurd (h (f refl))
no_test false f h = refl

module _ {A : Type 0} (s : List ℕ) (Fits : Type 0) (Says : Answer A → Type 0) (t : Bool) (x : Answer A)
    (tests : check s ≡ accepted → (t ≡ true) ↔ Fits)
    (says : check s ≡ accepted → t ≡ true → Says x)
    (once : (a : Answer A) → Says a → Says x → x ≡ a) where
  answered-by : Out (check s) → Answered s Fits Says (checked (check s) (cond t x (refused 31 0)))
  answered-by (fine e) =
      let a : Accepted s = (check-accepted s).0 e in
      ⊎_elim (λ (y : t ≡ true). rw (e, y) (fits a ((tests e).0 y) (says e y)))
      (λ (n : t ≡ false). rw (e, n) (at31 a (λ k. true-false ((tests e).1 k) n)))
      (yes-no t)
  answered-by (fails n q e) = rw e (refusal ((check-refused s n q).0 e))

  is-answer : {a : Answer A} → Answered s Fits Says a → checked (check s) (cond t x (refused 31 0)) ≡ a
  is-answer (refusal {num = n} {p = q} r) = rw ((check-refused s n q).1 r)
  is-answer (at31 a h) = let e : check s ≡ accepted = (check-accepted s).1 a in rw (e, no_test t (tests e).0 h)
  is-answer (fits {a = b} a k o) =
      let e : check s ≡ accepted = (check-accepted s).1 a in
      let y : t ≡ true = (tests e).1 k in
      rw (e, y) (once b o (says e y))

  answered : (a : Answer A) → (checked (check s) (cond t x (refused 31 0)) ≡ a) ↔ Answered s Fits Says a
  answered a = (λ e. subst (Answered s Fits Says) e (answered-by (out (check s))), is-answer)

-- ---- an image that the check accepts
module _ (s : List ℕ) (e : check s ≡ accepted) where
  volume : Volume s
  volume = volume-of s (check-parts s e).0

  ends : (p b d : ℕ) → test.Reached s p b d → name_ends s (p + 16) ≡ true
  ends = test-ends s volume (λ p b d r. sound s volume (check-parts s e).1 r)

  -- the name of a reached header
  reached-name : (p : ℕ) → test.IsReached s p → ZeroAfter s (p + 16) (name_length s (p + 16))
  reached-name p r = is-length s (p + 16) (ends p r.bound r.depth r.reached)

  reached-test : (p : ℕ) → (is_reached s p ≡ true) ↔ IsReached s p
  reached-test p =
      let f = reached-iff s p volume (check-parts s e).1 in
      (λ t. reach s volume ends p (f.0 t), λ r. f.1 (unreach s volume ends p r))

  content-test : (p : ℕ) → ((is_reached s p && has_data (type_of_file s p)) ≡ true) ↔ HasContent s p
  content-test p = (
    λ h. (
      (reached-test p).0 (and-yes-l (is_reached s p) (has_data (type_of_file s p)) h),
      rw (type-is s p) at ((data-type (type_of_file s p)).0 (and-yes-r (is_reached s p) (has_data (type_of_file s p)) h)),
    ),
    λ h. both (is_reached s p) (has_data (type_of_file s p)) ((reached-test p).1 h.0) ((data-type (type_of_file s p)).1 (rw (type-is s p) h.1)),
  )

  directory-test : (dir : ℕ) → (is_directory s dir ≡ true) ↔ Directory s dir
  unfolding is_directory
  directory-test dir = (
    λ h.
        ⊎_elim (λ z. inl (eqb-true dir 0 z))
        (λ r.
        inr ((reached-test dir).0 (and-yes-l (is_reached s dir) (eqb (type_of_file s dir) 1) r), sym (type-is s dir) ∙ eqb-true (type_of_file s dir) 1 (and-yes-r (is_reached s dir) (eqb (type_of_file s dir) 1) r)))
        (or_yes (eqb dir 0) (is_reached s dir && eqb (type_of_file s dir) 1) h),
    λ h.
        either (eqb dir 0) (is_reached s dir && eqb (type_of_file s dir) 1)
        (⊎_elim (λ z. inl (eq-eqb dir 0 z))
        (λ r. inr (both (is_reached s dir) (eqb (type_of_file s dir) 1) ((reached-test dir).1 r.0) (eq-eqb (type_of_file s dir) 1 (type-is s dir ∙ r.1))))
        h),
  )

-- ---- entry
entry-is : (s : List ℕ) (p : ℕ) → ZeroAfter s (p + 16) (name_length s (p + 16)) → EntryIs s p (entry_at s p)
unfolding entry_at
entry-is s p z = record {
  type_of_file = type-is s p;
  executable = executable-is s p;
  info = info-is s p;
  size = size_is s p;
  next = next-is s p;
  name_length = z;
}

entry-once : (s : List ℕ) (p : ℕ) (a : Answer Entry) → EntrySays s p a → granted (entry_at s p) ≡ a
unfolding entry_at
entry-once s p (granted e) h = λ i.
    granted (record {
      type_of_file = (type-is s p ∙ sym h.type_of_file) i;
      executable = (executable-is s p ∙ sym h.executable) i;
      info = (info-is s p ∙ sym h.info) i;
      size = (size_is s p ∙ sym h.size) i;
      next = (next-is s p ∙ sym h.next) i;
      name_length = length-is s (p + 16) e.name_length h.name_length i;
    })
entry-once s p (refused n q) h = absurd h

pub entry-given : (s : List ℕ) (p : ℕ) (a : Answer Entry) → (entry s p ≡ a) ↔ Answered s (IsReached s p) (EntrySays s p) a
unfolding entry entry_step
entry-given s p a =
    answered s (IsReached s p) (EntrySays s p) (is_reached s p) (granted (entry_at s p)) (λ e. reached-test s e p)
    (λ e y. entry-is s p (reached-name s e p (unreach s (volume s e) (ends s e) p ((reached-test s e p).0 y))))
    (λ b o r. entry-once s p b o)
    a

-- ---- content
pub length-given : (s : List ℕ) (p : ℕ) (a : Answer ℕ) → (content_length s p ≡ a) ↔ Answered s (HasContent s p) (λ b. b ≡ granted (size_at s p)) a
unfolding content_length content_step
length-given s p a =
    answered s (HasContent s p) (λ b. b ≡ granted (size_at s p)) (is_reached s p && has_data (type_of_file s p)) (granted (size s p)) (λ e. content-test s e p)
    (λ e y. ap granted (size_is s p))
    (λ b o r. r ∙ sym o)
    a

module _ (s : List ℕ) (p : ℕ) where
  granted-start : (n : ℕ) → content_length s p ≡ granted n → content_start s p ≡ content_at s p
  unfolding content_start
  granted-start n e = rw e

  granted-part : (n : ℕ) → content_length s p ≡ granted n → content s p ≡ part (content_at s p) n s
  unfolding content
  granted-part n e = rw e

  content-granted : (n : ℕ) → content_length s p ≡ granted n → ContentIs s p n
  unfolding part
  content-granted n e =
      let c : Content s p n = content-in s p n e in
      let z : ZeroAfter s (p + 16) (name_length s (p + 16)) = reached-name s c.sound p c.reached in
      let at : content_start s p ≡ content_at s p = granted-start n e in
      let is : content s p ≡ part (content_at s p) n s = granted-part n e in
      record {
        name_length = name_length s (p + 16);
        named = z;
        start = at ∙ content-is s p (name_length s (p + 16)) z;
        bytes = is ∙ ap (λ (x : ℕ). part x n s) (sym at);
        long = ap length is ∙ length_part (content_at s p) n s (omega (arith, c.inside, c.full));
        inside = omega (arith, c.inside, full_is s);
        whole = omega (arith, c.full, full_is s);
      }

  content-refused : (n q : ℕ) → content_length s p ≡ refused n q → (content s p ≡ []) × (content_start s p ≡ 0)
  unfolding content content_start
  content-refused n q e = (rw e, rw e)

  pub content-given : ContentSays s p (content_length s p)
  content-given = go (content_length s p) refl
    where
      go : (a : Answer ℕ) → content_length s p ≡ a → ContentSays s p a
      go (granted n) e = content-granted n e
      go (refused n q) e = content-refused n q e

-- ---- find: where the list begins
first-of : (s : List ℕ) (dir : ℕ) → check s ≡ accepted → FirstGiven s dir (first_of s dir)
unfolding first_of
first-of s dir a =
    let f = root-first s (volume-named s (volume s a)) in
    elim (ℕ_discrete dir 0) [
      | yes z ↦ elim (ℕ_discrete (first_root s) (full_size s)) [
        | yes e ↦ rw (eq-eqb dir 0 z, eq-eqb (first_root s) (full_size s) e) (statements.empty z (rw (e, full_is s) at f))
        | no e ↦ rw (eq-eqb dir 0 z, ne_eqb (first_root s) (full_size s) e) (statements.root z f (λ y. e (y ∙ sym (full_is s))))
      ]
      | no z ↦ rw (ne_eqb dir 0 z, info-is s dir) (statements.word z)
    ]

is-first : {s : List ℕ} {dir first : ℕ} → FirstGiven s dir first → first_of s dir ≡ first
unfolding first_of
is-first {s} {dir} (statements.empty z e) = rw (eq-eqb dir 0 z, eq-eqb (first_root s) (full_size s) (root_is s (full s) e ∙ sym (full_is s)))
is-first {s} {dir} (statements.root {p = p} z f e) = rw (eq-eqb dir 0 z, ne_eqb (first_root s) (full_size s) (λ y. e (sym (root_is s p f) ∙ y ∙ full_is s))) (root_is s p f)
is-first {s} {dir} (statements.word z) = first-info s dir z ∙ info-is s dir

-- ---- find: the list
in_list : {s : List ℕ} {p q : ℕ} → walk.InList s p q → InList s p q
in_list walk.here = statements.here
in_list {s} {p} (walk.on {q = q} l z) = subst (InList s p) (sym (next-is s q)) (statements.on (in_list l) (λ y. z (next-is s q ∙ y)))

list-in : {s : List ℕ} {p q : ℕ} → InList s p q → walk.InList s p q
list-in statements.here = walk.here
list-in {s} {p} (statements.on {q = q} l z) = subst (walk.InList s p) (next-is s q) (walk.on (list-in l) (λ y. z (sym (next-is s q) ∙ y)))

finds-is : (s want : List ℕ) (first : ℕ) → check s ≡ accepted → (first ≢ 0 → test.IsReached s first) → (a : Answer ℕ) → walk.Finds s want first a → Finds s want first a
finds-is s want first e r (granted p) f =
    let v : Volume s = volume s e in
    let m = f.1 in
    let at : test.IsReached s p = (walk.rises s v (check-parts s e).1 first (r f.0) m.entry).1 in (
      f.0,
      record {
        entry = in_list m.entry;
        named = named-of s (full-to s v) p want (ends s e p at.bound at.depth at.reached) m.named;
        lower = λ q l k n. m.lower q (list-in l) k (of-named s (full-to s v) q want n);
      },
    )
finds-is s want first e r (refused n q) f = (f.0, f.1, λ p z l k. f.2 p z (list-in l) (of-named s (full-to s (volume s e)) p want k))

-- a list has one first match
match-once : (s want : List ℕ) (first p q : ℕ) → FirstMatch s want first p → FirstMatch s want first q → p ≡ q
match-once s want first p q f g =
    elim (dec_lt p q) [
      | yes l ↦ absurd (g.lower p f.entry l f.named)
      | no l ↦ elim (dec_lt q p) [ yes k ↦ absurd (f.lower q g.entry k g.named) | no k ↦ omega arith ]
    ]

finds-once : (s want : List ℕ) (first : ℕ) (a b : Answer ℕ) → Finds s want first a → Finds s want first b → b ≡ a
finds-once s want first (granted p) (granted q) f g = ap granted (match-once s want first q p g.1 f.1)
finds-once s want first (granted p) (refused n q) f g = absurd (g.2 p f.0 f.1.entry f.1.named)
finds-once s want first (refused n q) (granted p) f g = absurd (f.2 p g.0 g.1.entry g.1.named)
finds-once s want first (refused n q) (refused m r) f g = cc

says-once : (s : List ℕ) (dir : ℕ) (want : List ℕ) (a b : Answer ℕ) → FindSays s dir want a → FindSays s dir want b → b ≡ a
says-once s dir want a b f g =
    let e : g.first ≡ f.first = sym (is-first g.begins) ∙ is-first f.begins in
    finds-once s want f.first a b f.finds (subst (λ (x : ℕ). Finds s want x b) e g.finds)

pub find-given : (s : List ℕ) (dir : ℕ) (want : List ℕ) (a : Answer ℕ) → (find s dir want ≡ a) ↔ Answered s (Directory s dir) (FindSays s dir want) a
unfolding find find_step
find-given s dir want a =
    let at : ℕ = match_in s want (first_of s dir) in
    answered s (Directory s dir) (FindSays s dir want) (is_directory s dir) (cond (eqb at 0) (refused 30 0) (granted at)) (λ e. directory-test s e dir)
    (λ e y. record {
      first = first_of s dir;
      begins = first-of s dir e;
      finds = finds-is s want (first_of s dir) e (first-reached s dir e y) (cond (eqb at 0) (refused 30 0) (granted at)) (rw (e, y) at (find_first s dir want e y));
    })
    (λ b o r. says-once s dir want b _ o r)
    a
