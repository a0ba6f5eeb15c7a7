-- Leftovers, the old bytes behind the first zero of a slot's name bytes: they are ignored, and kept with all bytes of their slot.
use Rattle.std.specs.Prelude.{◌≡◌, refl, ◌≢◌, ◌⊎◌, not, ℕ, ◌+◌, ◌*◌, ◌≤◌, ◌<◌, List, [], ◌∷◌, length, get_or, drop, T}
use Rattle.std.proofs.Math.Path.{sym}
use Rattle.std.proofs.Common.{ap, ◌∙◌, subst, inr, ⊎_elim, arith, mul-le-mul_right, T_not}
use Rattle.std.proofs.Math.Logic.{inl}
use Rattle.std.proofs.Math.Decide.{ℕ_discrete}
use Rattle.std.proofs.Math.ListN.{length-take}
use Rattle.lists.specs.Lists.{part, first_zero}
use Rattle.list_laws.specs.Test.{by-test}
use Rattle.list_laws.specs.Part.{part-long}
use Rattle.list_laws.specs.Word.{word-cong}
use Rattle.tfs_spec.specs.Layout.{BlockSize, slots, block, slot, slot_inode, slot_name, slot_free, name_field, same_name, map_bit, View, view, view_n, free, inode, name, slot_of, free_slot}
use Rattle.tfs_spec.specs.Consistent.{slot_at, Consistent}
use Rattle.tfs_spec.specs.Requests.{granted, format, create, remove, Change, creates, removes, writes, perform, changes, fetches, checks, reads, lists, counts, Operation, formats, mends, requests, operate, after_all}
use Rattle.tfs_spec.specs.Answers.{Stands, Vacant}
use Rattle.tfs_spec.specs.Effects.{Leftover, behind, SameBytes, SameSlot, SameRead}
use Rattle.tfs_spec.specs.Histories.{Never, EndsName, removed, formatted, TakesSlot, filled, wiped, SlotLaws}
use Rattle.tfs_spec.specs.Laws.{request}
use Rattle.tfs_facts.specs.CheckMeans.{check-means}
use Rattle.tfs_facts.specs.Names.{name-refl}
use Rattle.tfs_facts.specs.Slots.{bytes-before, same_names}
use Rattle.tfs_proofs.specs.SlotBytes.{slot-byte, field-byte, slot_kept, dir-long}
use Rattle.tfs_proofs.specs.Transfers.{read-image}
use Rattle.tfs_proofs.specs.MendLaws.{mend-other}
use Rattle.tfs_proofs.specs.Storing.{fetch-image}
use Rattle.tfs_proofs.specs.WriteLists.{wr, request-view}
use Rattle.tfs_proofs.specs.Changes.{refused-keeps, remove-granted}
use Rattle.tfs_proofs.specs.Formats.{format-refused}
use Rattle.tfs_proofs.specs.Grants.{stands-hit}
use Rattle.tfs_proofs.specs.Kept.{granted-passed}
use Rattle.tfs_proofs.specs.Touches.{remove-touches, created-touch}
use Rattle.tfs_proofs.specs.CreateRemove.{created-stands}
use Rattle.tfs_proofs.specs.IgnoredSteps.{block-ext}

-- ---- ignored: two images of one length that have all other bytes in common
module _ (B : ℕ) (sz : BlockSize B) (a b : List ℕ) (long : length a ≡ length b) (others : (q : ℕ) → (Leftover B a q → ⊥) → get_or a q 0 ≡ get_or b q 0) where
  -- bytes outside the directory
  outside : (q : ℕ) → (q < 2 * B) ⊎ (3 * B ≤ q) → Leftover B a q → ⊥
  outside _ o (behind s i j h l m z) = ⊎_elim (λ k. omega arith) (λ k. omega arith) o

  -- the bytes of a slot's inode number, and its name bytes up to the zero
  number-byte : (s r q : ℕ) → r < 4 → q ≡ slot_at B s + r → Leftover B a q → ⊥
  number-byte s r _ k e (behind t i j h l m z) = omega arith

  name-byte : (s r q : ℕ) → r < 16 → q ≡ slot_at B s + 4 + r → ((i : ℕ) → i < r → get_or a (slot_at B s + 4 + i) 0 ≢ 0) → Leftover B a q → ⊥
  name-byte s r _ k e whole (behind t i j h l m z) =
      let same : t ≡ s = omega arith in
      let here : i < r = omega arith in
      whole i here (ap (λ (x : ℕ). get_or a (slot_at B x + 4 + i) 0) (sym same) ∙ z)

  abbrev field_of : List ℕ → ℕ → List ℕ
  field_of img s = name_field (slot (block B img 2) s)

  module _ (s : ℕ) (low : s < slots B) where
    field-long : length (field_of a s) ≡ length (field_of b s)
    unfolding slot block
    field-long = part-long 4 16 (slot (block B a 2) s) (slot (block B b 2) s) (part-long (s * 20) 20 (block B a 2) (block B b 2) (part-long (2 * B) B a b long))

    field-short : length (field_of a s) ≤ 16
    unfolding part
    field-short = omega (arith, length-take 16 (drop 4 (slot (block B a 2) s)))

    name-bytes : (i : ℕ) → i ≤ first_zero (field_of a s) → i < length (field_of a s) → get_or (field_of a s) i 0 ≡ get_or (field_of b s) i 0
    name-bytes i h l =
        let m : i < 16 = omega (arith, field-short) in
        field-byte B a s i low m
        ∙ others (slot_at B s + 4 + i) (name-byte s i (slot_at B s + 4 + i) m refl (λ k n z. bytes-before (field_of a s) k (omega arith) (field-byte B a s k low (omega arith) ∙ z)))
        ∙ sym (field-byte B b s i low m)

    slot-alike : SameSlot B a b s
    unfolding inode name view view_n slot_inode slot_name
    slot-alike = (
      word-cong (slot (block B a 2) s) (slot (block B b 2) s) 0 0
          (λ j k. (slot-byte B a s (0 + j) low (omega arith) ∙ others (slot_at B s + (0 + j)) (number-byte s (0 + j) (slot_at B s + (0 + j)) (omega arith) refl) ∙ sym (slot-byte B b s (0 + j) low (omega arith)))),
      same_names (field_of a s) (field_of b s) field-long name-bytes,
    )

  block-alike : (i : ℕ) → (i < 2) ⊎ (3 ≤ i) → block B a i ≡ block B b i
  block-alike i o = block-ext B a b i long (λ r h. others (i * B + r) (outside (i * B + r) (place r h o)))
    where
      place : (r : ℕ) → r < B → (i < 2) ⊎ (3 ≤ i) → (i * B + r < 2 * B) ⊎ (3 * B ≤ i * B + r)
      place r h (inl l) = inl (omega (arith, mul-le-mul_right {m = i} {n = 1} B (omega arith)))
      place r h (inr l) = inr (omega (arith, mul-le-mul_right {m = 3} {n = i} B l))

  pub leftovers-ignored : SameRead B a b
  leftovers-ignored =
      record {
        long = long;
        head = ap (part 0 20) (block-alike 0 (inl (omega arith)));
        bits = λ i h. ap (λ (m : List ℕ). map_bit m i) (block-alike 1 (inl (omega arith)));
        slots_same = slot-alike;
        rest = λ i h l. block-alike i (inr h);
      }

-- ---- kept
-- a request that sets slot s
data Sets (B s : ℕ) (img : List ℕ) : Operation → Type 0 where
  creating : (k : List ℕ) (z : ℕ) → T (granted (create B img k z).answer) → Vacant B (view B img) s → Stands B (view B (create B img k z).image) k s → Sets B s img (requests (changes (creates k z)))
  removing : (k : List ℕ) → T (granted (remove B img k).answer) → Stands B (view B img) k s → Sets B s img (requests (changes (removes k)))
  formatting : (label : List ℕ) → T (granted (format B img label).answer) → Sets B s img (formats label)

same-image : (B s : ℕ) (new img : List ℕ) → new ≡ img → SameBytes B new img s
same-image B s new img e = ap (λ (x : List ℕ). slot (block B x 2) s) e

module _ (B : ℕ) (sz : BlockSize B) (s : ℕ) (img : List ℕ) where
  create-sets : (k : List ℕ) (z : ℕ) → T (granted (create B img k z).answer) → Consistent B img → SameBytes B (create B img k z).image img s ⊎ Sets B s img (requests (changes (creates k z)))
  create-sets k z g ok =
      let t = created-touch B sz img ok k z g in
      let f : ℕ = free_slot B (view B img) in
      elim (ℕ_discrete s f) [
        | yes e ↦ inr (creating k z g (subst (Vacant B (view B img)) (sym e) t.vacant) (subst (Stands B (view B (create B img k z).image) k) (sym e) (created-stands B sz img ok k z g)))
        | no d ↦ inl (slot_kept f s (block B (create B img k z).image 2) (block B img 2) (dir-long B (create B img k z).image img ok.long t.long) d t.entries)
      ]

  remove-sets : (k : List ℕ) → T (granted (remove B img k).answer) → Consistent B img → SameBytes B (remove B img k).image img s ⊎ Sets B s img (requests (changes (removes k)))
  remove-sets k g ok =
      let f : ℕ = slot_of B (view B img) k in
      let st : Stands B (view B img) k f = stands-hit B (view B img) k (remove-granted B img ((check-means B sz img).1 ok) k g) in
      let t = remove-touches B sz img ok k f st in
      elim (ℕ_discrete s f) [
        | yes e ↦ inr (removing k g (subst (Stands B (view B img) k) (sym e) st))
        | no d ↦ inl (slot_kept f s (block B (remove B img k).image 2) (block B img 2) (dir-long B (remove B img k).image img ok.long t.long) d t.entries)
      ]

  granted-sets : (c : Change) → T (granted (perform B img c).answer) → Consistent B img → SameBytes B (perform B img c).image img s ⊎ Sets B s img (requests (changes c))
  unfolding perform request view view_n
  granted-sets (creates k z) g ok = create-sets k z g ok
  granted-sets (removes k) g ok = remove-sets k g ok
  granted-sets (writes k o bs) g ok =
      inl (ap (λ (x : View). slot x.dir s) (request-view B (omega (arith, sz.large)) img ((check-means B sz img).1 ok) ok.sound (wr k o bs)))

  -- any request leaves the bytes of slot s, or sets them
  kept-or-set : (x : Operation) → SameBytes B (operate B img x).image img s ⊎ Sets B s img x
  kept-or-set (formats label) =
      by-test (granted (format B img label).answer) (λ g. inr (formatting label g)) (λ r. inl (same-image B s _ img (format-refused B img label r)))
  kept-or-set (requests (changes c)) =
      by-test (granted (perform B img c).answer) (λ g. granted-sets c g ((check-means B sz img).0 (granted-passed B img c g)))
      (λ r. inl (same-image B s _ img (refused-keeps B img c r)))
  kept-or-set mends = inl (ap (λ (d : List ℕ). slot d s) (mend-other B sz img 2 (λ e. omega arith)))
  kept-or-set (requests (fetches c k buf)) = inl (same-image B s _ img (fetch-image B img c k buf))
  kept-or-set (requests checks) = inl refl
  kept-or-set (requests (reads k o buf)) = inl (same-image B s _ img (read-image B img k o buf))
  kept-or-set (requests (lists t)) = inl refl
  kept-or-set (requests counts) = inl refl

  -- the slot of a file is set only where the file ends
  file-step : (nm : List ℕ) → Stands B (view B img) nm s → (x : Operation) → (EndsName B nm img x → ⊥) → SameBytes B (operate B img x).image img s
  file-step nm st x d = ⊎_elim (λ e. e) (λ set. absurd (d (ends x set))) (kept-or-set x)
    where
      ends : (x : Operation) → Sets B s img x → EndsName B nm img x
      ends _ (creating k z g va new) = absurd (T_not (free (view B img) s) st.file.taken va.free)
      ends _ (removing k g old) = removed k (subst (λ (j : List ℕ). T (same_name j k)) (sym old.named ∙ st.named) (name-refl k)) g
      ends _ (formatting label g) = formatted label g

  -- a free slot only where it is taken
  free_step : Vacant B (view B img) s → (x : Operation) → (TakesSlot B s img x → ⊥) → SameBytes B (operate B img x).image img s
  free_step va x d = ⊎_elim (λ e. e) (λ set. absurd (d (takes x set))) (kept-or-set x)
    where
      takes : (x : Operation) → Sets B s img x → TakesSlot B s img x
      takes _ (creating k z g free new) = filled k z g new
      takes _ (removing k g old) = absurd (T_not (free (view B img) s) old.file.taken va.free)
      takes _ (formatting label g) = wiped label g

-- a slot with the bytes that it had is what it was
stands_same : (B s : ℕ) (new img nm : List ℕ) → SameBytes B new img s → Stands B (view B img) nm s → Stands B (view B new) nm s
unfolding free name view view_n
stands_same B s new img nm e st = record {
  file = record { slot = st.file.slot; taken = subst (λ (x : List ℕ). T (not (slot_free x))) (sym e) st.file.taken };
  named = ap slot_name e ∙ st.named;
}

vacant-same : (B s : ℕ) (new img : List ℕ) → SameBytes B new img s → Vacant B (view B img) s → Vacant B (view B new) s
unfolding free view view_n
vacant-same B s new img e va = record { slot = va.slot; free = subst (λ (x : List ℕ). T (slot_free x)) (sym e) va.free }

file-kept : (B : ℕ) → BlockSize B → (nm : List ℕ) (s : ℕ) (img : List ℕ) → Stands B (view B img) nm s → (xs : List Operation) → Never B (EndsName B nm) img xs → SameBytes B (after_all B img xs) img s
unfolding after_all
file-kept B sz nm s img st [] n = refl
file-kept B sz nm s img st (x ∷ xs) n =
    let e : SameBytes B (operate B img x).image img s = file-step B sz s img nm st x n.0 in
    file-kept B sz nm s (operate B img x).image (stands_same B s (operate B img x).image img nm e st) xs n.1 ∙ e

free-kept : (B : ℕ) → BlockSize B → (s : ℕ) (img : List ℕ) → Vacant B (view B img) s → (xs : List Operation) → Never B (TakesSlot B s) img xs → SameBytes B (after_all B img xs) img s
unfolding after_all
free-kept B sz s img va [] n = refl
free-kept B sz s img va (x ∷ xs) n =
    let e : SameBytes B (operate B img x).image img s = free_step B sz s img va x n.0 in
    free-kept B sz s (operate B img x).image (vacant-same B s (operate B img x).image img e va) xs n.1 ∙ e

pub slot-law : (B : ℕ) → BlockSize B → (img : List ℕ) → SlotLaws B img
slot-law B sz img = record { file-kept = λ nm s. file-kept B sz nm s img; free-kept = λ s. free-kept B sz s img }
