-- What the lookup of a name says.
use Rattle.std.specs.Prelude.{◌≡◌, not, ℕ, ◌≤◌, ◌<◌, List, T, ltb}
use Rattle.std.proofs.Common.{sym, ◌∙◌, subst, arith, lt→ltb, ltb→lt, nltb→le}
use Rattle.std.proofs.Math.Arith.{le→nltb}
use Rattle.list_laws.specs.Test.{by-test, cond_yes, cond_no, yes-yes}
use Rattle.tfs_spec.specs.Layout.{slots, name_allowed, View, slot_of}
use Rattle.tfs_spec.specs.Consistent.{File}
use Rattle.tfs_spec.specs.Requests.{Lookup, in_slot, denied, lookup}
use Rattle.tfs_facts.specs.Names.{slot-hit}

module _ (B : ℕ) (v : View) (nm : List ℕ) where
  pub lookup-misnamed : T (not (name_allowed nm)) → lookup B v nm ≡ denied 8
  unfolding lookup
  lookup-misnamed t = cond_yes (not (name_allowed nm)) (denied 8) _ t

  module _ (named : T (name_allowed nm)) where
    pub lookup_absent : slots B ≤ slot_of B v nm → lookup B v nm ≡ denied 13
    unfolding lookup
    lookup_absent h =
        cond_no (not (name_allowed nm)) (denied 8) _ (yes-yes (name_allowed nm) named)
        ∙ cond_yes (not (ltb (slot_of B v nm) (slots B))) (denied 13) _ (le→nltb (slot_of B v nm) (slots B) h)

    pub lookup-there : slot_of B v nm < slots B → lookup B v nm ≡ in_slot (slot_of B v nm)
    unfolding lookup
    lookup-there h =
        cond_no (not (name_allowed nm)) (denied 8) _ (yes-yes (name_allowed nm) named)
        ∙ cond_no (not (ltb (slot_of B v nm) (slots B))) (denied 13) _ (yes-yes (ltb (slot_of B v nm) (slots B)) (lt→ltb (slot_of B v nm) (slots B) h))

  -- one of these
  pub by-lookup {ℓ} : (P : Lookup → Type ℓ) → (T (not (name_allowed nm)) → P (denied 8)) → (T (name_allowed nm) → slots B ≤ slot_of B v nm → P (denied 13)) → (T (name_allowed nm) → slot_of B v nm < slots B → P (in_slot (slot_of B v nm))) → P (lookup B v nm)
  by-lookup P f g h =
      by-test (name_allowed nm)
      (λ t.
      by-test (ltb (slot_of B v nm) (slots B))
      (λ u. let l : slot_of B v nm < slots B = ltb→lt (slot_of B v nm) (slots B) u in subst P (sym (lookup-there t l)) (h t l))
      (λ u. let l : slots B ≤ slot_of B v nm = nltb→le (slot_of B v nm) (slots B) u in subst P (sym (lookup_absent t l)) (g t l)))
      (λ t. subst P (sym (lookup-misnamed t)) (f t))

  -- a slot that the lookup gives is that of a file with the name
  pub lookup-file : (s : ℕ) → lookup B v nm ≡ in_slot s → File B v s × (s ≡ slot_of B v nm) × T (name_allowed nm)
  lookup-file s e =
      by-lookup (λ (x : Lookup). x ≡ in_slot s → File B v s × (s ≡ slot_of B v nm) × T (name_allowed nm)) (λ t d. absurd (let z : ◌≡◌ {A = ℕ} 0 1 = cc in omega arith)) (λ t l d. absurd (let z : ◌≡◌ {A = ℕ} 0 1 = cc in omega arith))
      (λ t l d.
      let same : s ≡ slot_of B v nm = cc in
      (subst (File B v) (sym same) (slot-hit B v nm l).0, same, t)) e

  -- a refusal of it has a number of its own
  pub lookup-number : (num : ℕ) → lookup B v nm ≡ denied num → 8 ≤ num
  lookup-number num e =
      by-lookup (λ (x : Lookup). x ≡ denied num → 8 ≤ num) (λ t d. let same : num ≡ 8 = cc in omega arith) (λ t l d. let same : num ≡ 13 = cc in omega arith)
      (λ t l d. absurd (let z : ◌≡◌ {A = ℕ} 0 1 = cc in omega arith)) e
