-- Laws of the walks, one for each way that the code takes.
use Prim.Native.Nat.{ℕ, suc, ◌+◌, ◌-◌, ◌≤◌, ◌<◌}
use mathlib.Core.Path.{◌≡◌, refl, sym, ap, subst, ◌∙◌}
use mathlib.Core.Bool.{true, false}
use mathlib.Core.List.{List}
use native.Mathlib.Omega.{arith}
use Rattle.romfs_spec.specs.Layout.{full_size, first_root, next, info, own, has_list}
use Rattle.romfs_spec.specs.Check.{Verdict, accepted, broken, fault, and_then, visit_list, visit_entry, visit_all}
use Rattle.romfs_facts.specs.Tested.{Reached, root, along, inside, Sound}
use Rattle.romfs_facts.specs.Facts.{room, ends, own-to, first_to, depth-to, fault-sound, list-descends, list-first}
use Rattle.romfs_facts.specs.Visit.{list-refused, list-last, list-next, entry-refused, entry-leaf, entry-list, entry-test}
use Rattle.romfs_facts.specs.Walked.{Volume, root-to, visit-none, visit-root}
use Rattle.romfs_check.specs.Known.{Here}
use Rattle.romfs_links.specs.Facts.{sound-next}

-- ---- the walk
-- the list from at on is what is left of it from p on, at some fuel that is enough
pub record Rest (s : List ℕ) (test : ℕ → ℕ → ℕ → Verdict) (left bound at p : ℕ) : Type 0 where
  pub fuel : ℕ
  pub enough : bound - p ≤ fuel
  pub same : visit_list s (visit_entry s test left bound) (bound - at) at ≡ visit_list s (visit_entry s test left bound) fuel p

pub rest_all : (s : List ℕ) (test : ℕ → ℕ → ℕ → Verdict) (left bound at : ℕ) → Rest s test left bound at at
rest_all s test left bound at = record { fuel = bound - at; enough = omega arith; same = refl }

module _ (s : List ℕ) (test : ℕ → ℕ → ℕ → Verdict) (left bound at p : ℕ) (r : Rest s test left bound at p) (h : p < bound) where
  pub rest-fault : (n q : ℕ) → broken n q ≡ visit_entry s test left bound p → broken n q ≡ visit_list s (visit_entry s test left bound) (bound - at) at
  rest-fault n q e = sym (r.same ∙ list-refused s (visit_entry s test left bound) r.fuel p n q (omega (arith, r.enough)) (sym e))

  pub rest-last : accepted ≡ visit_entry s test left bound p → next s p ≡ 0 → accepted ≡ visit_list s (visit_entry s test left bound) (bound - at) at
  rest-last e z = sym (r.same ∙ list-last s (visit_entry s test left bound) r.fuel p (omega (arith, r.enough)) (sym e) z)

  pub rest-next : accepted ≡ visit_entry s test left bound p → (q : ℕ) → q ≡ next s p → (q ≡ 0 → ⊥) → p < q → Rest s test left bound at q
  rest-next e q f z l = record {
    fuel = r.fuel - 1;
    enough = omega (arith, r.enough);
    same = r.same ∙ list-next s (visit_entry s test left bound) r.fuel p (omega (arith, r.enough)) (sym e) (λ y. z (f ∙ y)) ∙ ap (visit_list s (visit_entry s test left bound) (r.fuel - 1)) (sym f);
  }

-- the next of a reached header is reached
pub reached-next : (s : List ℕ) (bound depth p : ℕ) → Reached s p bound depth → (q : ℕ) → q ≡ next s p → (q ≡ 0 → ⊥) → Reached s q bound depth
reached-next s bound depth p r q e z = subst (λ (x : ℕ). Reached s x bound depth) (sym e) (along r (λ y. z (e ∙ y)))

-- the list of a reached header is reached
pub reached-below : (s : List ℕ) (bound left p : ℕ) → left ≤ 7 → 1 ≤ left → Reached s p bound (8 - left) → (f o : ℕ) → has_list s p ≡ true → f ≡ info s p → o ≡ own s bound p → Reached s f o (8 - (left - 1))
reached-below s bound left p l m r f o t e g =
    let d : 8 - (left - 1) ≡ suc (8 - left) = omega arith in
    rw (d, e, g) (inside r (list-descends s p t) (list-first s p t))

-- ---- a step
module _ (s : List ℕ) (full p bound left : ℕ) (h : Here s full p bound left) where
  pub step-broken : (n q : ℕ) → broken n q ≡ fault s bound (8 - left) p → broken n q ≡ visit_entry s (fault s) left bound p
  step-broken n q e = sym (entry-refused s (fault s) bound p left (8 - left) n q (omega (arith, h.deep)) (sym e))

  -- an entry without a fault
  module _ (e : accepted ≡ fault s bound (8 - left) p) where
    pub step-leaf : has_list s p ≡ false → accepted ≡ visit_entry s (fault s) left bound p
    step-leaf t = sym (entry-leaf s (fault s) bound p left (8 - left) (omega (arith, h.deep)) (sym e) t)

    -- the list of an entry
    module _ (first own₂ : ℕ) (t : has_list s p ≡ true) (f : first ≡ info s p) (o : own₂ ≡ own s bound p) where
      here-sound : Sound s p bound (8 - left)
      here-sound = fault-sound s p bound (8 - left) (sym e)

      pub some_left : 1 ≤ left
      some_left = omega (arith, depth-to s p bound (8 - left) here-sound t)

      pub step-below : Here s full first own₂ (left - 1)
      step-below = record {
        whole = h.whole;
        before = omega (arith, first_to s p bound (8 - left) here-sound t, f, o);
        within = omega (arith, own-to s p bound (8 - left) here-sound, o, h.within);
        deep = omega (arith, h.deep);
        reached = reached-below s bound left p h.deep some_left h.reached first own₂ t f o;
      }

      pub step-list : visit_list s (visit_entry s (fault s) (left - 1) own₂) (own₂ - first) first ≡ visit_entry s (fault s) left bound p
      step-list =
          let k = some_left in
          rw (f, o) (sym (entry-list s (fault s) bound p left (8 - left) (omega (arith, h.deep)) (omega arith) (sym e) t))

  -- an accepted entry
  module _ (e : accepted ≡ visit_entry s (fault s) left bound p) where
    visited-sound : Sound s p bound (8 - left)
    visited-sound = fault-sound s p bound (8 - left) (entry-test s (fault s) bound p left (8 - left) (omega (arith, h.deep)) (sym e))

    pub visited-room : p + 32 ≤ bound
    visited-room = omega (arith, room s p, ends s p bound (8 - left) visited-sound)

    pub visited-next : (q : ℕ) → q ≡ next s p → (q ≡ 0 → ⊥) → (p < q) × Here s full q bound left
    visited-next q f z =
        let k = sound-next s bound (8 - left) p q visited-sound f z in
        (k.0, record { whole = h.whole; before = k.1; within = h.within; deep = h.deep; reached = reached-next s bound (8 - left) p h.reached q f z })

-- ---- the root list
module _ (s : List ℕ) (test : ℕ → ℕ → ℕ → Verdict) (first full : ℕ) (e : first ≡ first_root s) (f : full ≡ full_size s) where
  pub root_none : first ≡ full → accepted ≡ visit_all s test
  root_none z = sym (visit-none s test (sym e ∙ z ∙ f))

  pub root-some : (first ≡ full → ⊥) → visit_list s (visit_entry s test 7 full) (full - first) first ≡ visit_all s test
  root-some z = rw (e, f) (sym (visit-root s test (λ y. z (e ∙ y ∙ sym f))))

pub root-in-full : (s : List ℕ) (first full : ℕ) → Volume s → first ≡ first_root s → full ≡ full_size s → (first ≡ full → ⊥) → first < full
root-in-full s first full v e f z = omega (arith, root-to s v)

-- the root's list
pub root-reached : (s : List ℕ) (first full : ℕ) → first ≡ first_root s → full ≡ full_size s → (first ≡ full → ⊥) → Reached s first full 1
root-reached s first full e f z = rw (e, f) (root (λ y. z (e ∙ y ∙ sym f)))

-- ---- the check
-- a refusal goes on
pub broken-on : (n p : ℕ) (a b : Verdict) → broken n p ≡ a → broken n p ≡ and_then a b
broken-on n p a b e = rw (← e)

pub accepted-on : (a b v : Verdict) → accepted ≡ a → v ≡ b → v ≡ and_then a b
accepted-on a b v e f = rw (← e) f
