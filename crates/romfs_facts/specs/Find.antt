-- Find gives the first entry of that name in the list, or 30 where the list has none.
use Rattle.std.specs.Prelude.{ℕ, zero, suc, ◌-◌, ◌≤◌, ◌<◌, ◌≡◌, refl, ◌≢◌, true, false, cond, List, T, eqb}
use Rattle.std.proofs.Common.{sym, ap, subst, ◌∙◌, ⊎_elim, arith, sub-one, eq-eqb, ne_eqb}
use Rattle.std.proofs.Math.Decide.{ℕ_discrete}
use Rattle.lists.specs.Lists.{same_list}
use Rattle.list_laws.specs.Test.{same-eq, same_refl, of-true, to-true}
use Rattle.romfs_spec.specs.Layout.{full_size, next, name}
use Rattle.romfs_spec.specs.Check.{accepted, walk, check}
use Rattle.romfs_facts.specs.Tested.{along, IsReached}
use Rattle.romfs_spec.specs.Requests.{Answer, granted, refused, first_of, match_from, match_in, is_directory, find_step, find}
use Rattle.romfs_facts.specs.Facts.{true-false, room, next-from}
use Rattle.romfs_facts.specs.Lowest.{yes-no}
use Rattle.romfs_facts.specs.Walked.{Volume, volume-of, sound, reached-room}
use Rattle.romfs_facts.specs.Theorems.{check-parts}
use Rattle.romfs_facts.specs.Given.{first-reached}

-- q is an entry of the list from p on
pub data InList (s : List ℕ) (p : ℕ) : ℕ → Type 0 where
  here : InList s p p
  on : {q : ℕ} → InList s p q → next s q ≢ 0 → InList s p (next s q)

-- the first entry of the name want in a list: no lower one has that name (the offsets of a list rise: rises, below)
pub record FirstMatch (s want : List ℕ) (first p : ℕ) : Type 0 where
  pub entry : InList s first p
  pub named : name s p ≡ want
  pub lower : (q : ℕ) → InList s first q → q < p → name s q ≢ want

-- what an answer of find says of the list from first on, where first 0 is the empty list
abbrev pub Finds : List ℕ → List ℕ → ℕ → Answer ℕ → Type 0
Finds s want first (granted p) = (first ≢ 0) × FirstMatch s want first p
Finds s want first (refused n q) = (n ≡ 30) × (q ≡ 0) × ((p : ℕ) → first ≢ 0 → InList s first p → name s p ≢ want)

-- ---- the same by the first step
data Way (s : List ℕ) (p q : ℕ) : Type 0 where
  same : q ≡ p → Way s p q
  later : next s p ≢ 0 → InList s (next s p) q → Way s p q

way_on : {s : List ℕ} {p q : ℕ} → Way s p q → next s q ≢ 0 → Way s p (next s q)
way_on {s} {p} {q} (same e) z = later (λ y. z (ap (next s) e ∙ y)) (subst (λ (x : ℕ). InList s (next s p) x) (ap (next s) (sym e)) here)
way_on (later y l) z = later y (on l z)

way : {s : List ℕ} {p q : ℕ} → InList s p q → Way s p q
way here = same refl
way (on l z) = way_on (way l) z

from_next : {s : List ℕ} {p q : ℕ} → next s p ≢ 0 → InList s (next s p) q → InList s p q
from_next z here = on here z
from_next z (on l y) = on (from_next z l) y

-- ---- one law for each way through the matching
pub match-yes : (s want : List ℕ) (f p : ℕ) → 0 < f → same_list (name s p) want ≡ true → match_from s want f p ≡ p
unfolding match_from
match-yes s want zero p h t = absurd (omega arith)
match-yes s want (suc f) p h t = rw t

pub match-end : (s want : List ℕ) (f p : ℕ) → 0 < f → same_list (name s p) want ≡ false → next s p ≡ 0 → match_from s want f p ≡ 0
unfolding match_from
match-end s want zero p h t z = absurd (omega arith)
match-end s want (suc f) p h t z = rw (t, eq-eqb (next s p) 0 z)

pub match-next : (s want : List ℕ) (f p : ℕ) → 0 < f → same_list (name s p) want ≡ false → next s p ≢ 0 → match_from s want f p ≡ match_from s want (f - 1) (next s p)
unfolding match_from
match-next s want zero p h t z = absurd (omega arith)
match-next s want (suc f) p h t z = rw (t, ne_eqb (next s p) 0 z, sub-one)

-- ---- along a list of reached headers
data Result (s want : List ℕ) (p r : ℕ) : Type 0 where
  none : r ≡ 0 → ((q : ℕ) → InList s p q → name s q ≢ want) → Result s want p r
  some : FirstMatch s want p r → Result s want p r

module _ (s : List ℕ) (v : Volume s) (w : walk s ≡ accepted) where
  step : (p : ℕ) → IsReached s p → next s p ≢ 0 → IsReached s (next s p)
  step p r z = record { bound = r.bound; depth = r.depth; reached = along r.reached z }

  -- the next entry of a list lies further on
  pub further : (p : ℕ) → IsReached s p → next s p ≢ 0 → p < next s p
  further p r z = omega (arith, room s p, next-from s p r.bound r.depth (sound s v w r.reached) z)

  -- The offsets of a list rise: no entry from p on lies below p. So the lowest match is the first in the list.
  pub rises : (p : ℕ) {q : ℕ} → IsReached s p → InList s p q → (p ≤ q) × IsReached s q
  rises p r here = (omega arith, r)
  rises p r (on {q = x} l z) = let k = rises p r l in (omega (arith, k.0, further x k.1 z), step x k.1 z)

  other : (a b : List ℕ) → same_list a b ≡ false → a ≢ b
  other a b f e = true-false (to-true (same_list a b) (subst (λ (x : List ℕ). T (same_list a x)) e (same_refl a))) f

  none-way : (want : List ℕ) (p q : ℕ) → same_list (name s p) want ≡ false → (next s p ≢ 0 → InList s (next s p) q → name s q ≢ want) → Way s p q → name s q ≢ want
  none-way want p q f rest (same e) = λ y. other (name s p) want f (ap (name s) (sym e) ∙ y)
  none-way want p q f rest (later z l) = rest z l

  on-result : (want : List ℕ) (p r : ℕ) → same_list (name s p) want ≡ false → next s p ≢ 0 → Result s want (next s p) r → Result s want p r
  on-result want p r f z (none e h) = none e (λ q l. none-way want p q f (λ y k. h q k) (way l))
  on-result want p r f z (some m) = some (record { entry = from_next z m.entry; named = m.named; lower = λ q l k. none-way want p q f (λ y i. m.lower q i k) (way l) })

  result : (want : List ℕ) (fuel p : ℕ) → IsReached s p → full_size s - p ≤ fuel → Result s want p (match_from s want fuel p)
  result want zero p r h = absurd (omega (arith, reached-room s v w p r.bound r.depth r.reached))
  result want (suc fuel) p r h =
      ⊎_elim
      (λ t.
      subst (Result s want p) (sym (match-yes s want (suc fuel) p (omega arith) t))
      (some (record { entry = here; named = same-eq (name s p) want (of-true (same_list (name s p) want) t); lower = λ q l k. absurd (omega (arith, (rises p r l).0)) })))
      (λ f.
      elim (ℕ_discrete (next s p) 0) [
        | yes z ↦ subst (Result s want p) (sym (match-end s want (suc fuel) p (omega arith) f z)) (none refl (λ q l. none-way want p q f (λ y k. absurd (y z)) (way l)))
        | no z ↦
            subst (Result s want p) (sym (rw sub-one at (match-next s want (suc fuel) p (omega arith) f z)))
            (on-result want p (match_from s want fuel (next s p)) f z (result want fuel (next s p) (step p r z) (omega (arith, further p r z, reached-room s v w p r.bound r.depth r.reached))))
      ])
      (yes-no (same_list (name s p) want))

-- ---- find
found-by : (s want : List ℕ) (first at : ℕ) → first ≢ 0 → ((q : ℕ) → InList s first q → q ≢ 0) → Result s want first at → Finds s want first (cond (eqb at 0) (refused 30 0) (granted at))
found-by s want first at z some-header (none e h) = rw (eq-eqb at 0 e) (refl, refl, λ p y l. h p l)
found-by s want first at z some-header (some m) = rw (ne_eqb at 0 (some-header at m.entry)) (z, m)

pub find_first : (s : List ℕ) (dir : ℕ) (want : List ℕ) → check s ≡ accepted → is_directory s dir ≡ true → Finds s want (first_of s dir) (find s dir want)
unfolding find find_step match_in
find_first s dir want a d =
    let parts = check-parts s a in
    let v = volume-of s parts.0 in
    elim (ℕ_discrete (first_of s dir) 0) [
      | yes z ↦ rw (a, d, eq-eqb (first_of s dir) 0 z) (refl, refl, λ p y l. absurd (y z))
      | no z ↦
          let r : IsReached s (first_of s dir) = first-reached s dir a d z in
          rw (a, d, ne_eqb (first_of s dir) 0 z)
          (found-by s want (first_of s dir) (match_from s want (full_size s) (first_of s dir)) z
          (λ q l. let k = rises s v parts.1 (first_of s dir) r l in omega (arith, k.0))
          (result s v parts.1 want (full_size s) (first_of s dir) r (omega arith)))
    ]
