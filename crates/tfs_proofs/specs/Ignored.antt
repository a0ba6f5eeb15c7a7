-- What the rules ignore has no say: the rest of block 0, map bits from N on, leftovers in slots, the bytes of block 2 behind the slots, the bytes past the last block.
use Rattle.std.specs.Prelude.{◌≡◌, Bool, ◌&&◌, ◌||◌, length, get_or, take, drop}
use Rattle.std.proofs.Math.Path.{refl, sym, ap, ap₂}
use Rattle.std.proofs.Common.{◌∙◌, subst, subst₂, arith, zero-add, leb→le}
use Rattle.std.proofs.Math.Bool.{not, cond}
use Rattle.std.specs.Bool.{beq}
use Prim.Native.Nat.{ℕ, zero, suc, ◌+◌, ◌-◌, ◌*◌, ◌/◌, ◌%◌, ◌≤◌, ◌<◌, min}
use mathlib.Core.List.{List, [], ◌∷◌, ◌++◌}
use Rattle.std.proofs.Math.Dec.{leb, ltb, eqb, ltb→lt}
use Rattle.list_laws.specs.Test.{by-test, cond_yes, cond_no, and_l, and_r}
use Rattle.lists.specs.Lists.{least, sum, first_zero, table, word}
use Rattle.list_laws.specs.Least.{least-cong}
use Rattle.list_laws.specs.Sum.{sum-cong}
use Rattle.list_laws.specs.Table.{table-cong}
use Rattle.list_laws.specs.Word.{word-cong}
use Rattle.list_laws.specs.Part.{part-long, get_or-part, part_ext}
use Rattle.tfs_spec.specs.Layout.{BlockSize, slots, numbers, max_size, need, blocks, block, slot, slot_inode, slot_used, in_range, same_name, map_bit, magic, volume_name, name_allowed, inode_size, inode_number, View, view, view_n, inode_at, free, used, inode, name, size, number, slot_of, free_slot, place, free_blocks}
use Rattle.tfs_spec.specs.Check.{Verdict, consistent, broken, found, too_short, bad_magic, bad_label, repeats, bad_slot, bad_number, bad_inode, file_claims, claims_to, claims, claimed_twice, bad_bit, stray, check_view, check, times}
use Rattle.tfs_spec.specs.Requests.{Answer, value, transferred, refused, unused, file, granted, checked, Outcome, read_buffer, Lookup, in_slot, denied, lookup, looked, free_from, chosen, create_view, create, remove_view, remove, counted, transfer_answer, read, write, list_view, list_answer, free_answer, refuse, blocks_met}
use Rattle.tfs_facts.specs.Views.{view-n, view-head, view-map}
use Rattle.tfs_spec.specs.Consistent.{Inside, Sound}
use Rattle.tfs_spec.specs.Effects.{SameRead}
use Rattle.tfs_facts.specs.CheckMeans.{check-means}
use Rattle.tfs_facts.specs.Slots.{same-free, same-used}
use Rattle.tfs_facts.specs.Sizes.{in_block}
use Rattle.tfs_proofs.specs.Places.{blocks-eq, position}
use Rattle.tfs_proofs.specs.Transfers.{slot_given, slot_for, transfer_view, filled, read_as, write_as}
use Rattle.tfs_facts.specs.Stores.{block-byte}

-- two views that differ at most so
pub record Alike (B : ℕ) (v w : View) : Type 0 where
  pub n : v.n ≡ w.n
  pub magic-word : word v.head 0 ≡ word w.head 0
  pub label : volume_name v.head ≡ volume_name w.head
  pub bits : (i : ℕ) → i < v.n → map_bit v.map i ≡ map_bit w.map i
  pub inode-same : (t : ℕ) → t < slots B → inode v t ≡ inode w t
  pub name-same : (t : ℕ) → t < slots B → name v t ≡ name w t
  pub inodes : v.inodes ≡ w.inodes

module _ (B : ℕ) (v w : View) (al : Alike B v w) where
  pub size-alike : (s : ℕ) → size v s ≡ size w s
  unfolding size
  size-alike s = ap (λ (x : List (List ℕ)). inode_size (get_or x s [])) al.inodes

  pub number-alike : (s k : ℕ) → number v s k ≡ number w s k
  unfolding number
  number-alike s k = ap (λ (x : List (List ℕ)). inode_number (get_or x s []) k) al.inodes

  module _ (t : ℕ) (h : t < slots B) where
    pub inode-alike : inode v t ≡ inode w t
    inode-alike = al.inode-same t h

    pub name-alike : name v t ≡ name w t
    name-alike = al.name-same t h

    pub free-alike : free v t ≡ free w t
    unfolding free inode name
    free-alike = same-free (slot v.dir t) (slot w.dir t) inode-alike name-alike

    used-alike : used v t ≡ used w t
    unfolding used inode name
    used-alike = ap (λ (n : ℕ). slot_used n (slot v.dir t)) al.n ∙ same-used (slot v.dir t) (slot w.dir t) inode-alike name-alike w.n

  repeats-alike : (s : ℕ) → s < slots B → repeats v s ≡ repeats w s
  unfolding repeats
  repeats-alike s h =
      ap (λ (x : ℕ). ltb x s)
      (least-cong (λ t. not (free v t) && same_name (name v t) (name v s)) (λ t. not (free w t) && same_name (name w t) (name w s)) s
      (λ t l i. not (free-alike t (omega arith) i) && same_name (name-alike t (omega arith) i) (name-alike s h i)))

  bad-slot-alike : (s : ℕ) → s < slots B → bad_slot v s ≡ bad_slot w s
  unfolding bad_slot
  bad-slot-alike s h = λ i. not (free-alike s h i) && (not (used-alike s h i) || repeats-alike s h i)

  bad-number-alike : (s k : ℕ) → bad_number B v s k ≡ bad_number B w s k
  unfolding bad_number
  bad-number-alike s k = λ i.
      cond (ltb k (need B (size-alike s i))) (not (in_range (al.n i) (number-alike s k i))) (not (eqb (number-alike s k i) 0))

  bad-inode-alike : (s : ℕ) → s < slots B → bad_inode B v s ≡ bad_inode B w s
  unfolding bad_inode
  bad-inode-alike s h = λ i.
      not (free-alike s h i)
      && (ltb (max_size B) (size-alike s i) || ltb (least-cong (bad_number B v s) (bad_number B w s) (numbers B) (λ k l. bad-number-alike s k) i) (numbers B))

  claims-alike : (s : ℕ) → s < slots B → file_claims B v s ≡ file_claims B w s
  unfolding file_claims
  claims-alike s h =
      (λ i. cond (free-alike s h i) [] (inode-alike s h i ∷ table (number v s) 0 (need B (size-alike s i))))
      ∙ ap (λ (x : List ℕ). cond (free w s) [] (inode w s ∷ x)) (table-cong (number v s) (number w s) 0 (need B (size w s)) (λ k a l. number-alike s k))

  all-claims : (s : ℕ) → s ≤ slots B → claims_to B v s ≡ claims_to B w s
  unfolding claims_to
  all-claims zero h = refl
  all-claims (suc s) h = ap₂ (λ (x y : List ℕ). x ++ y) (all-claims s (omega arith)) (claims-alike s (omega arith))

  check-alike : check_view B v ≡ check_view B w
  unfolding check_view bad_magic bad_label claims
  check-alike =
      let cs : claims_to B v (slots B) ≡ claims_to B w (slots B) = all-claims (slots B) (omega arith) in
      let p7 : least (bad_bit v (claims_to B v (slots B))) v.n ≡ least (bad_bit w (claims_to B w (slots B))) v.n =
      least-cong (bad_bit v (claims_to B v (slots B))) (bad_bit w (claims_to B w (slots B))) v.n
      (λ b l i. not (beq (al.bits b l i) (ltb b 3 || leb 1 (times b (cs i)))))
      in
      let p6 : least (claimed_twice (claims_to B v (slots B))) v.n ≡ least (claimed_twice (claims_to B w (slots B))) v.n =
      ap (λ (x : List ℕ). least (claimed_twice x) v.n) cs
      in
      let p5 : least (bad_inode B v) (slots B) ≡ least (bad_inode B w) (slots B) = least-cong (bad_inode B v) (bad_inode B w) (slots B) bad-inode-alike in
      let p4 : least (bad_slot v) (slots B) ≡ least (bad_slot w) (slots B) = least-cong (bad_slot v) (bad_slot w) (slots B) bad-slot-alike in
      (λ i.
      cond (not (eqb (al.magic-word i) magic)) (broken 2 0)
      (cond (leb 16 (first_zero (al.label i))) (broken 3 0)
      (found 4 (slots B) (p4 i) (found 5 (slots B) (p5 i) (found 6 v.n (p6 i) (found 7 v.n (p7 i) consistent))))))
      ∙ ap (λ (n : ℕ).
      cond (not (eqb (word w.head 0) magic)) (broken 2 0)
      (cond (leb 16 (first_zero (volume_name w.head))) (broken 3 0)
      (found 4 (slots B) (least (bad_slot w) (slots B)) (found 5 (slots B) (least (bad_inode B w) (slots B)) (found 6 n (least (claimed_twice (claims_to B w (slots B))) n) (found 7 n (least (bad_bit w (claims_to B w (slots B))) n) consistent)))))) al.n

  pub stray-alike : (b : ℕ) → b < v.n → stray B v b ≡ stray B w b
  unfolding stray claims
  stray-alike b h = λ i. leb 3 b && (al.bits b h i && eqb (times b (all-claims (slots B) (omega arith) i)) 0)

  pub slot-of-alike : (nm : List ℕ) → slot_of B v nm ≡ slot_of B w nm
  unfolding slot_of
  slot-of-alike nm =
      least-cong (λ s. not (free v s) && same_name (name v s) nm) (λ s. not (free w s) && same_name (name w s) nm) (slots B)
      (λ s h i. not (free-alike s h i) && same_name (name-alike s h i) nm)

  lookup-alike : (nm : List ℕ) → lookup B v nm ≡ lookup B w nm
  unfolding lookup
  lookup-alike nm =
      ap (λ (s : ℕ). cond (not (name_allowed nm)) (denied 8) (cond (not (ltb s (slots B))) (denied 13) (in_slot s))) (slot-of-alike nm)

  pub slot-for-alike : (nm : List ℕ) → slot_for B v nm ≡ slot_for B w nm
  unfolding slot_for
  slot-for-alike nm = ap (slot_given B) (lookup-alike nm)

  pub free-slot-alike : free_slot B v ≡ free_slot B w
  unfolding free_slot
  free-slot-alike = least-cong (free v) (free w) (slots B) free-alike

  room-alike : free_blocks v ≡ free_blocks w
  unfolding free_blocks
  room-alike =
      sum-cong (λ b. cond (not (map_bit v.map b)) 1 0) (λ b. cond (not (map_bit w.map b)) 1 0) v.n (λ b l. ap (λ (x : Bool). cond (not x) 1 0) (al.bits b l))
      ∙ ap (sum (λ b. cond (not (map_bit w.map b)) 1 0)) al.n

  free-from-alike : (d k : ℕ) → k + d ≤ v.n → free_from v.map k d ≡ free_from w.map k d
  unfolding free_from
  free-from-alike zero k h = refl
  free-from-alike (suc d) k h = λ i.
      cond (al.bits k (omega arith) i) (free-from-alike d (suc k) (omega arith) i) (k ∷ free-from-alike d (suc k) (omega arith) i)

  pub chosen-alike : (z : ℕ) → chosen B v z ≡ chosen B w z
  unfolding chosen
  chosen-alike z =
      ap (take (1 + need B z)) (free-from-alike v.n 0 (omega arith) ∙ ap (free_from w.map 0) al.n)

  create-alike : (nm : List ℕ) (z : ℕ) → create_view B v nm z ≡ create_view B w nm z
  unfolding create_view
  create-alike nm z = λ i.
      cond (not (name_allowed nm)) (refused 8 0)
      (cond (ltb (max_size B) z) (refused 9 0)
      (cond (ltb (slot-of-alike nm i) (slots B)) (refused 10 0)
      (cond (not (ltb (free-slot-alike i) (slots B))) (refused 11 0)
      (cond (ltb (room-alike i) (1 + need B z)) (refused 12 0) (value (get_or (chosen-alike z i) 0 0))))))

  remove-alike : (nm : List ℕ) → remove_view B v nm ≡ remove_view B w nm
  unfolding remove_view
  remove-alike nm = ap (λ (x : Lookup). looked x refused (λ s. Answer.done)) (lookup-alike nm)

  transfer-alike : (nm : List ℕ) (o len : ℕ) → transfer_view B v nm o len ≡ transfer_view B w nm o len
  unfolding transfer_view transfer_answer counted
  transfer-alike nm o len = λ i.
      looked (lookup-alike nm i) refused (λ s. cond (ltb (size-alike s i) o) (refused 15 0) (transferred (min len (size-alike s i - o)) (blocks_met B o (min len (size-alike s i - o)))))

  -- an answer that looks at a slot looks at one of the slots
  at_slot : (s : ℕ) (x y : ℕ → Answer) (else : Answer) → ((t : ℕ) → t < slots B → x t ≡ y t) → cond (not (ltb s (slots B))) else (x s) ≡ cond (not (ltb s (slots B))) else (y s)
  at_slot s x y else e =
      by-test (ltb s (slots B))
      (λ t. ap (cond (not (ltb s (slots B))) else) (e s (ltb→lt s (slots B) t)))
      (λ t. cond_yes (not (ltb s (slots B))) else (x s) t ∙ sym (cond_yes (not (ltb s (slots B))) else (y s) t))

  list-alike : (s : ℕ) → list_view B v s ≡ list_view B w s
  unfolding list_view
  list-alike s =
      at_slot s (λ t. cond (free v t) unused (file (name v t) (inode v t) (size v t))) (λ t. cond (free w t) unused (file (name w t) (inode w t) (size w t))) (refused 14 0)
      (λ t h i. cond (free-alike t h i) unused (file (name-alike t h i) (inode-alike t h i) (size-alike t i)))

-- ---- images
module _ (B : ℕ) (Size-ok : BlockSize B) (a b : List ℕ) (same : SameRead B a b) where
  length-alike : length (block B a 0) ≡ length (block B b 0)
  unfolding block
  length-alike = part-long (0 * B) B a b same.long

  n-alike : blocks B a ≡ blocks B b
  n-alike = blocks-eq B a b same.long

  inode-at-alike : (s : ℕ) → s < slots B → inode_at B (blocks B a) a s ≡ inode_at B (blocks B b) b s
  unfolding inode_at inode view view_n
  inode-at-alike s h =
      let i : ℕ = slot_inode (slot (block B b 2) s) in
      ap₂ (λ (m j : ℕ). cond (in_range m j) (block B a j) []) n-alike (same.slots_same s h).0
      ∙ by-test (in_range (blocks B b) i)
      (λ t.
      ap (λ (x : List ℕ). cond (in_range (blocks B b) i) x [])
      (same.rest i (leb→le 3 i (and_l (leb 3 i) _ t)) (omega (arith, n-alike, ltb→lt i (blocks B b) (and_r (leb 3 i) _ t)))))
      (λ t. cond_no {X = List ℕ} (in_range (blocks B b) i) (block B a i) [] t ∙ sym (cond_no {X = List ℕ} (in_range (blocks B b) i) (block B b i) [] t))

  inodes-same : (view B a).inodes ≡ (view B b).inodes
  unfolding view view_n
  inodes-same =
      table-cong (inode_at B (blocks B a) a) (inode_at B (blocks B b) b) 0 (slots B) (λ s h l. inode-at-alike s (omega arith))

  pub alike : Alike B (view B a) (view B b)
  alike =
      record {
        n = view-n B a ∙ n-alike ∙ sym (view-n B b);
        magic-word =
            (ap (λ (x : List ℕ). word x 0) (view-head B a)
            ∙ word-cong (block B a 0) (block B b 0) 0 0 (λ j h. head_byte (0 + j) (omega arith))
            ∙ ap (λ (x : List ℕ). word x 0) (sym (view-head B b)));
        label = ap volume_name (view-head B a) ∙ label_same ∙ ap volume_name (sym (view-head B b));
        bits = λ i h.
            (ap (λ (x : List ℕ). map_bit x i) (view-map B a) ∙ same.bits i (subst (λ (n : ℕ). i < n) (view-n B a) h) ∙ ap (λ (x : List ℕ). map_bit x i) (sym (view-map B b)));
        inode-same = λ t h. (same.slots_same t h).0;
        name-same = λ t h. (same.slots_same t h).1;
        inodes = inodes-same;
      }
    where
      head_byte : (i : ℕ) → i < 20 → get_or (block B a 0) i 0 ≡ get_or (block B b 0) i 0
      head_byte i h =
          ap (λ (x : ℕ). get_or (block B a 0) x 0) (sym (zero-add i))
          ∙ sym (get_or-part 0 20 (block B a 0) i h)
          ∙ ap (λ (x : List ℕ). get_or x i 0) same.head
          ∙ get_or-part 0 20 (block B b 0) i h
          ∙ ap (λ (x : ℕ). get_or (block B b 0) x 0) (zero-add i)

      label_same : volume_name (block B a 0) ≡ volume_name (block B b 0)
      label_same =
          part_ext 4 16 (block B a 0) (block B b 0) length-alike (λ i h. head_byte (4 + i) (omega arith))

check-of : (B : ℕ) (a b : List ℕ) → length a ≡ length b → check_view B (view B a) ≡ check_view B (view B b) → check B a ≡ check B b
unfolding check too_short
check-of B a b l e = λ i. cond (ltb (l i) (3 * B)) (broken 1 0) (e i)

-- two outcomes with one answer and one buffer
abbrev pub SameFill : Outcome → Outcome → Type 0
SameFill x y = (x.answer ≡ y.answer) × (x.buffer ≡ y.buffer)

-- what the rules say of either image
pub record IgnoredLaw (B : ℕ) (a b : List ℕ) : Type 0 where
  pub check-same : check B a ≡ check B b
  pub create-same : (nm : List ℕ) (z : ℕ) → (create B a nm z).answer ≡ (create B b nm z).answer
  pub remove-same : (nm : List ℕ) → (remove B a nm).answer ≡ (remove B b nm).answer
  pub read_same : (nm : List ℕ) (o : ℕ) (buf : List ℕ) → SameFill (read B a nm o buf) (read B b nm o buf)
  pub write_same : (nm : List ℕ) (o : ℕ) (buf : List ℕ) → (write B a nm o buf).answer ≡ (write B b nm o buf).answer
  pub list_same : (s : ℕ) → list_answer B a s ≡ list_answer B b s
  pub free-same : free_answer B a ≡ free_answer B b

outcome-answer : (f : Verdict) (img new : List ℕ) (x : Answer) → (checked f (refuse img []) (record { answer = x; image = cond (granted x) new img; buffer = [] })).answer ≡ checked f refused x
outcome-answer consistent img new x = refl
outcome-answer (broken num p) img new x = refl

-- the bytes read lie in blocks of files, which are the same
read_alike : (B : ℕ) → BlockSize B → (a b : List ℕ) → SameRead B a b → Alike B (view B a) (view B b) → check B a ≡ check B b → (nm : List ℕ) (o : ℕ) (buf : List ℕ) → SameFill (read B a nm o buf) (read B b nm o buf)
unfolding read_buffer counted place
read_alike B Size-ok a b same al ch nm o buf =
    subst₂ SameFill (sym (read_as B a nm o buf ∙ ap (λ (f : Verdict). filled B nm o buf a f v) ch)) (sym (read_as B b nm o buf)) (go (check B b) refl)
  where
    v : View
    v = view B a

    w : View
    w = view B b

    ta : transfer_view B v nm o (length buf) ≡ transfer_view B w nm o (length buf)
    ta = transfer-alike B v w al nm o (length buf)

    same_bytes : Sound B w → (s : ℕ) → read_buffer B v a s o buf ≡ read_buffer B w b s o buf
    same_bytes ok s =
        ap (λ (z : ℕ). table (λ p. get_or a (number v s (p / B) * B + p % B) 0) o (min (length buf) (z - o)) ++ drop (min (length buf) (z - o)) buf) (size-alike B v w al s)
        ∙ ap (λ (x : List ℕ). x ++ drop (min (length buf) (size w s - o)) buf)
        (table-cong (λ p. get_or a (number v s (p / B) * B + p % B) 0) (λ p. get_or b (number w s (p / B) * B + p % B) 0) o (min (length buf) (size w s - o))
        (λ p l u.
        let c : Inside w (number w s (p / B)) = position B (omega (arith, Size-ok.large)) b ok s p (omega arith) in
        ap (λ (k : ℕ). get_or a (k * B + p % B) 0) (number-alike B v w al s (p / B))
        ∙ block-byte B a b (number w s (p / B)) (p % B) (in_block B (omega (arith, Size-ok.large)) p) (same.rest (number w s (p / B)) c.low (omega (arith, c.high, view-n B b, blocks-eq B a b same.long)))))

    go : (x : Verdict) → check B b ≡ x → SameFill (filled B nm o buf a x v) (filled B nm o buf b x w)
    go consistent e = (
      ta,
      λ i. cond (granted (ta i)) ((ap (λ (s : ℕ). read_buffer B v a s o buf) (slot-for-alike B v w al nm) ∙ same_bytes ((check-means B Size-ok b).0 e).sound (slot_for B w nm)) i) buf,
    )
    go (broken num p) e = (refl, refl)

pub ignored : (B : ℕ) → BlockSize B → (a b : List ℕ) → SameRead B a b → IgnoredLaw B a b
unfolding create remove list_answer free_answer
ignored B Size-ok a b same =
    record {
      check-same = ch;
      create-same = λ nm z.
          (outcome-answer (check B a) a _ (create_view B (view B a) nm z) ∙ ap₂ (λ (f : Verdict) (x : Answer). checked f refused x) ch (create-alike B (view B a) (view B b) al nm z) ∙ sym (outcome-answer (check B b) b _ (create_view B (view B b) nm z)));
      remove-same = λ nm.
          (outcome-answer (check B a) a _ (remove_view B (view B a) nm) ∙ ap₂ (λ (f : Verdict) (x : Answer). checked f refused x) ch (remove-alike B (view B a) (view B b) al nm) ∙ sym (outcome-answer (check B b) b _ (remove_view B (view B b) nm)));
      read_same = read_alike B Size-ok a b same al ch;
      write_same = λ nm o buf.
          (ap (λ (x : Outcome). x.answer) (write_as B a nm o buf)
          ∙ outcome-answer (check B a) a _ (transfer_view B (view B a) nm o (length buf))
          ∙ ap₂ (λ (f : Verdict) (x : Answer). checked f refused x) ch (transfer-alike B (view B a) (view B b) al nm o (length buf))
          ∙ sym (outcome-answer (check B b) b _ (transfer_view B (view B b) nm o (length buf)))
          ∙ sym (ap (λ (x : Outcome). x.answer) (write_as B b nm o buf)));
      list_same = λ s. ap₂ (λ (f : Verdict) (x : Answer). checked f refused x) ch (list-alike B (view B a) (view B b) al s);
      free-same = ap₂ (λ (f : Verdict) (x : Answer). checked f refused x) ch (ap (λ (x : ℕ). value (B * x)) (room-alike B (view B a) (view B b) al));
    }
  where
    al : Alike B (view B a) (view B b)
    al = alike B Size-ok a b same

    ch : check B a ≡ check B b
    ch = check-of B a b same.long (check-alike B (view B a) (view B b) al)
