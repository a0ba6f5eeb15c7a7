-- The slot of a name, the slots of a changed directory, and the blocks that a file claims.
use Rattle.std.specs.Prelude.{◌≡◌, refl, ◌≢◌, ◌&&◌, List, [], ◌∷◌, length}
use Rattle.std.proofs.Common.{sym, ap, ◌∙◌, subst, inl, inr, ⊎_elim, arith, zero-add}
use Rattle.std.proofs.Math.Bool.{Bool, not}
use Prim.Native.Nat.{ℕ, ◌+◌, ◌*◌, ◌≤◌, ◌<◌}
use Rattle.std.proofs.Math.Dec.{T, T_not, not_T}
use Rattle.lists.specs.Lists.{same_list, least, table, In}
use Rattle.list_laws.specs.Test.{same-eq, same_refl, cond_no, and-of, and_l, and_r}
use Rattle.list_laws.specs.Least.{least-hit, least-none, least-is}
use Rattle.list_laws.specs.Table.{length-table, get_or-table}
use Rattle.list_laws.specs.Part.{length-with, part-with, part-with-other}
use Rattle.tfs_spec.specs.Layout.{slots, need, slot, set_slot, same_name, View, free, inode, name, size, number, slot_of, free_slot}
use Rattle.tfs_spec.specs.Check.{file_claims}
use Rattle.tfs_spec.specs.Consistent.{File, Owner, inode_of, content_of, Owns}
use Rattle.tfs_facts.specs.Claims.{slot_in}
use Rattle.tfs_facts.specs.CheckMeans.{same-sym}
use Rattle.tfs_facts.specs.Sizes.{apart-blocks}
use Rattle.tfs_facts.specs.MapBits.{in-at, at_in}

-- ---- the same name
pub name-refl : (a : List ℕ) → T (same_name a a)
unfolding same_name
name-refl a = same_refl a

pub name-trans : (a b c : List ℕ) → T (same_name a b) → T (same_name b c) → T (same_name a c)
unfolding same_name
name-trans a b c p q = subst (λ (x : List ℕ). T (same_list x c)) (sym (same-eq a b p)) q

-- ---- the slot of a name
module _ (B : ℕ) (v : View) (nm : List ℕ) where
  pub slot-hit : slot_of B v nm < slots B → File B v (slot_of B v nm) × T (same_name (name v (slot_of B v nm)) nm)
  unfolding slot_of
  slot-hit h =
      let f : ℕ → Bool = λ s. not (free v s) && same_name (name v s) nm in
      let t : T (f (least f (slots B))) = least-hit f (slots B) h in
      (record { slot = h; taken = and_l (not (free v (least f (slots B)))) _ t }, and_r (not (free v (least f (slots B)))) _ t)

  pub slot-miss : slots B ≤ slot_of B v nm → (t : ℕ) → File B v t → T (same_name (name v t) nm) → ⊥
  unfolding slot_of
  slot-miss h t f e =
      let g : ℕ → Bool = λ s. not (free v s) && same_name (name v s) nm in
      T_not (g t) (least-none g (slots B) h t f.slot) (and-of (not (free v t)) (same_name (name v t) nm) f.taken e)

  pub slot_is : ((s t : ℕ) → File B v s → File B v t → T (same_name (name v s) (name v t)) → s ≡ t) → (s : ℕ) → File B v s → T (same_name (name v s) nm) → slot_of B v nm ≡ s
  unfolding slot_of
  slot_is apart s f e =
      let g : ℕ → Bool = λ t. not (free v t) && same_name (name v t) nm in
      least-is g (slots B) s f.slot (and-of (not (free v s)) (same_name (name v s) nm) f.taken e)
      (λ i l. not_T (g i) (λ t.
      let fi : File B v i = record { slot = omega (arith, f.slot); taken = and_l (not (free v i)) _ t } in
      let z : i ≡ s = apart i s fi f (name-trans (name v i) nm (name v s) (and_r (not (free v i)) _ t) (same-sym (name v s) nm e)) in
      omega arith))

-- ---- the lowest free slot
pub free-hit : (B : ℕ) (v : View) → free_slot B v < slots B → T (free v (free_slot B v))
unfolding free_slot
free-hit B v h = least-hit (free v) (slots B) h

-- ---- a directory with one slot changed
module _ (B : ℕ) (dir : List ℕ) (s : ℕ) (e : List ℕ) (ld : length dir ≡ B) (hs : s < slots B) (le : length e ≡ 20) where
  inside : s * 20 + 20 ≤ length dir
  inside = omega arith

  pub length-set_slot : length (set_slot dir s e) ≡ B
  unfolding set_slot
  length-set_slot = length-with (s * 20) 20 e dir le inside ∙ ld

  pub slot-set : slot (set_slot dir s e) s ≡ e
  unfolding set_slot slot
  slot-set = part-with (s * 20) 20 e dir le (omega (arith, inside))

  pub slot-unset : (t : ℕ) → t ≢ s → slot (set_slot dir s e) t ≡ slot dir t
  unfolding set_slot slot
  slot-unset t d = part-with-other (s * 20) 20 e dir (t * 20) 20 le inside (apart-blocks 20 s t (λ x. d (sym x)))

-- ---- the blocks that a file claims are those that it owns
in_table : (f : ℕ → ℕ) (d b : ℕ) → In b (table f 0 d) → (k : ℕ) × (k < d) × (f k ≡ b)
in_table f d b i =
    let r = in-at (table f 0 d) b i in
    let l : r.0 < d = omega (arith, r.1, length-table f 0 d) in
    (r.0, l, ap f (sym (zero-add r.0)) ∙ sym (get_or-table f 0 d r.0 0 l) ∙ r.2)

table-in : (f : ℕ → ℕ) (d k : ℕ) → k < d → In (f k) (table f 0 d)
table-in f d k h =
    subst (λ (x : ℕ). In x (table f 0 d)) (get_or-table f 0 d k 0 h ∙ ap f (zero-add k)) (at_in (table f 0 d) k (omega (arith, length-table f 0 d)))

pub claims-is : (B : ℕ) (v : View) (s : ℕ) → File B v s → file_claims B v s ≡ inode v s ∷ table (number v s) 0 (need B (size v s))
unfolding file_claims
claims-is B v s f = cond_no {X = List ℕ} (free v s) [] (inode v s ∷ table (number v s) 0 (need B (size v s))) f.taken

pub claims-owner : (B : ℕ) (v : View) (s b : ℕ) → File B v s → In b (file_claims B v s) → (o : Owner) × (slot_in o ≡ s) × Owns B v o b
claims-owner B v s b f i =
    ⊎_elim (λ e. (inode_of s, refl, (f, sym e)))
    (λ j. let r = in_table (number v s) (need B (size v s)) b j in (content_of s r.0, refl, (f, r.1, r.2)))
    (subst (λ (l : List ℕ). In b l) (claims-is B v s f) i)

pub owner-claims : (B : ℕ) (v : View) (o : Owner) (b : ℕ) → Owns B v o b → In b (file_claims B v (slot_in o))
owner-claims B v (inode_of s) b w = subst (λ (l : List ℕ). In b l) (sym (claims-is B v s w.0)) (inl (sym w.1))
owner-claims B v (content_of s k) b w =
    subst (λ (l : List ℕ). In b l) (sym (claims-is B v s w.0))
    (inr (subst (λ (x : ℕ). In x (table (number v s) 0 (need B (size v s)))) w.2 (table-in (number v s) (need B (size v s)) k w.1)))
