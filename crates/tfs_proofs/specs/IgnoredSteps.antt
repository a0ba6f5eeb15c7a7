-- Two images that differ at most in what the rules ignore differ in no more after any request, nor after any number of them.
use Rattle.std.specs.Prelude.{◌≡◌, refl, ◌≢◌, ◌⊎◌, false, not, cond, ◌&&◌, length, set, take}
use Rattle.std.proofs.Math.Path.{sym, ap, subst₂}
use Rattle.std.proofs.Common.{◌∙◌, subst, inl, ⊎_elim, arith, mul-le-mul_right, length-set, get_or-set_same, get_or-set_other}
use Rattle.std.proofs.Math.Logic.{inr}
use Prim.Native.Nat.{ℕ, zero, suc, ◌+◌, ◌-◌, ◌*◌, ◌/◌, ◌%◌, ◌≤◌, ◌<◌}
use mathlib.Core.List.{List, [], ◌∷◌}
use Rattle.std.proofs.Math.Decide.{ℕ_discrete, dec_lt, dec_le}
use Rattle.std.proofs.Math.ListN.{get_or}
use Rattle.std.proofs.Math.Seq.{set_out}
use Rattle.std.proofs.Math.Arith.{digits_div}
use Rattle.std.proofs.Math.Dec.{T, ltb}
use Rattle.list_laws.specs.Test.{by-test}
use Rattle.lists.specs.Lists.{store_bytes, part, In}
use Rattle.list_laws.specs.Part.{part_ext}
use Rattle.tfs_spec.specs.Layout.{BlockSize, slots, need, blocks, block, slot, map_bit, View, view, size, slot_of, free_slot, place}
use Rattle.tfs_spec.specs.Check.{Verdict, check, consistent, broken, stray, file_claims, too_short}
use Rattle.tfs_spec.specs.Consistent.{File, Consistent}
use Rattle.tfs_facts.specs.CheckMeans.{check-means}
use Rattle.tfs_spec.specs.Requests.{Answer, granted, format, chosen, create, remove, write, Change, creates, removes, writes, perform, Outcome, refuse, checked, mended, mend, changes, fetches, checks, reads, lists, counts, Operation, formats, mends, requests, operate, after_all}
use Rattle.tfs_facts.specs.Mends.{granting, mend-is, short-same, mended-long, mended-map, mended-other, mended-bit}
use Rattle.tfs_facts.specs.Views.{view-n, view-head, view-map, view-dir}
use Rattle.tfs_facts.specs.Stores.{block-byte}
use Rattle.tfs_facts.specs.MapBits.{in-dec, in-at}
use Rattle.tfs_proofs.specs.SlotBytes.{slot-ext, slot_kept, dir-long, same-slot}
use Rattle.tfs_proofs.specs.Writes.{step}
use Rattle.tfs_proofs.specs.Transfers.{slot_for, read-image}
use Rattle.tfs_proofs.specs.Places.{files_of, blocks-eq}
use Rattle.tfs_proofs.specs.WriteLists.{wr, put_of, request-image, request-view, request-length}
use Rattle.tfs_spec.specs.Laws.{request}
use Rattle.tfs_proofs.specs.Changes.{refused-keeps, remove-granted}
use Rattle.tfs_spec.specs.Effects.{Kept, SameBytes, SameSlot, SameRead, BlockOf, RemoveTouch, CreateTouch}
use Rattle.tfs_proofs.specs.Kept.{create-kept, remove-kept, granted-passed}
use Rattle.tfs_proofs.specs.Ignored.{Alike, alike, size-alike, number-alike, inode-alike, stray-alike, slot-of-alike, slot-for-alike, free-slot-alike, chosen-alike, ignored}
use Rattle.tfs_proofs.specs.Storing.{fetch-image}
use Rattle.tfs_proofs.specs.Formats.{format-refused, format-past, format-length, format-head, format-map, format-directory}
use Rattle.tfs_proofs.specs.Tail.{format-answer}
use Rattle.tfs_spec.specs.Answers.{Stands}
use Rattle.tfs_proofs.specs.Grants.{stands-hit}
use Rattle.tfs_proofs.specs.Touches.{block-claimed, claimed-block, remove-touches, created-touch}

-- ---- a byte that two images have in common they have after the same stores
set_same : (a b : List ℕ) (j x q : ℕ) → length a ≡ length b → get_or a q 0 ≡ get_or b q 0 → get_or (set a j x) q 0 ≡ get_or (set b j x) q 0
set_same a b j x q l e =
    elim (ℕ_discrete q j) [
      | yes d ↦ elim (dec_lt j (length a)) [
        | yes h ↦
            subst (λ (k : ℕ). get_or (set a j x) k 0 ≡ get_or (set b j x) k 0) (sym d)
            (get_or-set_same a j x 0 h ∙ sym (get_or-set_same b j x 0 (omega arith)))
        | no h ↦ (ap (λ (y : List ℕ). get_or y q 0) (set_out a j x (omega arith)) ∙ e ∙ sym (ap (λ (y : List ℕ). get_or y q 0) (set_out b j x (omega arith))))
      ]
      | no d ↦ get_or-set_other a j q x 0 d ∙ e ∙ sym (get_or-set_other b j q x 0 d)
    ]

store_same : (at : ℕ → ℕ) (bs a b : List ℕ) (o q : ℕ) → length a ≡ length b → get_or a q 0 ≡ get_or b q 0 → get_or (store_bytes at a o bs) q 0 ≡ get_or (store_bytes at b o bs) q 0
store_same at [] a b o q l e = e
store_same at (x ∷ bs) a b o q l e =
    store_same at bs (set a (at o) x) (set b (at o) x) (suc o) q (length-set a (at o) x ∙ l ∙ sym (length-set b (at o) x)) (set_same a b (at o) x q l e)

-- ---- a block of which each byte is the same
pub block-ext : (B : ℕ) (x y : List ℕ) (i : ℕ) → length x ≡ length y → ((r : ℕ) → r < B → get_or x (i * B + r) 0 ≡ get_or y (i * B + r) 0) → block B x i ≡ block B y i
unfolding block
block-ext B x y i l h = part_ext (i * B) B x y l h

-- ---- what becomes of two images
-- slot t is set alike in both, or stays in both
abbrev Fate : ℕ → List ℕ → List ℕ → List ℕ → List ℕ → ℕ → Type 0
Fate B a b na nb t = SameBytes B na nb t ⊎ (SameBytes B na a t × SameBytes B nb b t)

-- SameRead of the images na and nb that were a and b, with what became of each slot
record After (B : ℕ) (a b na nb : List ℕ) : Type 0 where
  long : length na ≡ length nb
  head : part 0 20 (block B na 0) ≡ part 0 20 (block B nb 0)
  bits : (i : ℕ) → i < blocks B na → map_bit (block B na 1) i ≡ map_bit (block B nb 1) i
  fate : (t : ℕ) → t < slots B → Fate B a b na nb t
  rest : (i : ℕ) → 3 ≤ i → i < blocks B na → block B na i ≡ block B nb i

-- slots with the same bytes still have the same bytes, slots with one inode number and one name still have one
fate-bytes : (B : ℕ) (a b na nb : List ℕ) (t : ℕ) → Fate B a b na nb t → SameBytes B a b t → SameBytes B na nb t
fate-bytes B a b na nb t (inl e) s = e
fate-bytes B a b na nb t (inr k) s = k.0 ∙ s ∙ sym k.1

fate-slot : (B : ℕ) (a b na nb : List ℕ) (t : ℕ) → Fate B a b na nb t → SameSlot B a b t → SameSlot B na nb t
fate-slot B a b na nb t (inl e) s = same-slot B na nb t e
fate-slot B a b na nb t (inr k) s =
    let x : SameSlot B na a t = same-slot B na a t k.0 in
    let y : SameSlot B nb b t = same-slot B nb b t k.1 in
    (x.0 ∙ s.0 ∙ sym y.0, x.1 ∙ s.1 ∙ sym y.1)

read-after : (B : ℕ) (a b na nb : List ℕ) → SameRead B a b → After B a b na nb → SameRead B na nb
read-after B a b na nb same r = record {
  long = r.long;
  head = r.head;
  bits = r.bits;
  slots_same = λ t l. fate-slot B a b na nb t (r.fate t l) (same.slots_same t l);
  rest = r.rest;
}

-- ---- two images that are alike
module _ (B : ℕ) (sz : BlockSize B) (a b : List ℕ) (same : SameRead B a b) (oka : Consistent B a) (okb : Consistent B b) where
  abbrev v : View
  v = view B a

  abbrev w : View
  w = view B b

  al : Alike B v w
  al = alike B sz a b same

  pos : 0 < B
  pos = omega (arith, sz.large)

  -- what both requests leave is alike where it was set alike, and where both left it
  module _ (na nb : List ℕ) (la : length na ≡ length a) (lb : length nb ≡ length b) (ka : Kept B a na) (kb : Kept B b nb) where
    long_after : length na ≡ length nb
    long_after = la ∙ same.long ∙ sym lb

    head-after : part 0 20 (block B na 0) ≡ part 0 20 (block B nb 0)
    head-after = ap (part 0 20) ka.head ∙ same.head ∙ sym (ap (part 0 20) kb.head)

    low : (i : ℕ) → i < blocks B na → i < blocks B a
    low i h = subst (λ (n : ℕ). i < n) (blocks-eq B na a la) h

    bit-after : (i : ℕ) → i < blocks B na → map_bit (block B na 1) i ≡ map_bit (block B a 1) i → map_bit (block B nb 1) i ≡ map_bit (block B b 1) i → map_bit (block B na 1) i ≡ map_bit (block B nb 1) i
    bit-after i h p q = p ∙ same.bits i (low i h) ∙ sym q

    slot-after : (s t : ℕ) → t < slots B → t ≢ s → ((i : ℕ) → (i < s * 20) ⊎ (s * 20 + 20 ≤ i) → get_or (block B na 2) i 0 ≡ get_or (block B a 2) i 0) → ((i : ℕ) → (i < s * 20) ⊎ (s * 20 + 20 ≤ i) → get_or (block B nb 2) i 0 ≡ get_or (block B b 2) i 0) → Fate B a b na nb t
    slot-after s t h d p q = inr (
      slot_kept s t (block B na 2) (block B a 2) (dir-long B na a oka.long la) d p,
      slot_kept s t (block B nb 2) (block B b 2) (dir-long B nb b okb.long lb) d q,
    )

    block-after : (i : ℕ) → 3 ≤ i → i < blocks B na → ((r : ℕ) → r < B → get_or na (i * B + r) 0 ≡ get_or a (i * B + r) 0) → ((r : ℕ) → r < B → get_or nb (i * B + r) 0 ≡ get_or b (i * B + r) 0) → block B na i ≡ block B nb i
    block-after i h m p q = block-ext B na a i la p ∙ same.rest i h (low i m) ∙ sym (block-ext B nb b i lb q)

    past : (i r : ℕ) → 3 ≤ i → 3 * B ≤ i * B + r
    past i r h = omega (arith, mul-le-mul_right {m = 3} {n = i} B h)

    -- create
    create-alike : (nm : List ℕ) (z h s : ℕ) (cs : List ℕ) → CreateTouch B a na nm z h s cs → CreateTouch B b nb nm z h s cs → After B a b na nb
    create-alike nm z h s cs ta tb =
        record {
          long = long_after;
          head = head-after;
          bits = λ i l.
              elim (in-dec i cs) [ yes p ↦ ta.marked i p ∙ sym (tb.marked i p) | no d ↦ bit-after i l (ta.bits i d) (tb.bits i d) ];
          fate = λ t l.
              elim (ℕ_discrete t s) [
                | yes e ↦ inl (subst (SameBytes B na nb) (sym e) (ta.entry ∙ sym tb.entry))
                | no d ↦ slot-after s t l d ta.entries tb.entries
              ];
          rest = λ i l m.
              elim (in-dec i cs) [
                | yes p ↦ let c = in-at cs i p in subst (λ (x : ℕ). block B na x ≡ block B nb x) c.2 (own c.0 c.1)
                | no d ↦ block-after i l m (λ r k. ta.bytes (i * B + r) (inr (past i r l)) (λ p. d (inside i r k p))) (λ r k. tb.bytes (i * B + r) (inr (past i r l)) (λ p. d (inside i r k p)))
              ];
        }
      where
        inside : (i r : ℕ) → r < B → In ((i * B + r) / B) cs → In i cs
        inside i r k p = subst (λ (x : ℕ). In x cs) (digits_div i k) p

        own : (m : ℕ) → m < length cs → block B na (get_or cs m 0) ≡ block B nb (get_or cs m 0)
        own zero k = subst (λ (x : ℕ). block B na x ≡ block B nb x) (sym ta.number) (ta.inode ∙ sym tb.inode)
        own (suc m) k =
            let l : m < need B z = omega (arith, ta.blocks.long) in
            ta.zeroed m l ∙ sym (tb.zeroed m l)

    -- remove
    remove-alike : (s : ℕ) → File B v s → ((i : ℕ) → BlockOf B v s i → BlockOf B w s i) → ((i : ℕ) → BlockOf B w s i → BlockOf B v s i) → RemoveTouch B a na s → RemoveTouch B b nb s → After B a b na nb
    remove-alike s f to from ta tb =
        record {
          long = long_after;
          head = head-after;
          bits = λ i l.
              elim (in-dec i (file_claims B v s)) [
                | yes p ↦ (let o : BlockOf B v s i = claimed-block B v s i f p in ta.cleared i o ∙ sym (tb.cleared i (to i o)))
                | no d ↦ bit-after i l (ta.bits i (λ o. d (block-claimed B v s i f o))) (tb.bits i (λ o. d (block-claimed B v s i f (from i o))))
              ];
          fate = λ t l.
              elim (ℕ_discrete t s) [
                | yes e ↦ inl (subst (SameBytes B na nb) (sym e) zeroed)
                | no d ↦ slot-after s t l d ta.entries tb.entries
              ];
          rest = λ i l m. block-after i l m (λ r k. ta.bytes (i * B + r) (inr (past i r l))) (λ r k. tb.bytes (i * B + r) (inr (past i r l)));
        }
      where
        zeroed : slot (block B na 2) s ≡ slot (block B nb 2) s
        zeroed =
            slot-ext s (block B na 2) (block B nb 2)
            (dir-long B na nb (subst (λ (n : ℕ). 3 * B ≤ n) (sym lb) okb.long) long_after)
            (λ i k. ta.zeroed i k ∙ sym (tb.zeroed i k))

  -- a granted create
  created-alike : (nm : List ℕ) (z : ℕ) → T (granted (create B a nm z).answer) → T (granted (create B b nm z).answer) → After B a b (create B a nm z).image (create B b nm z).image
  created-alike nm z ga gb =
      let ta = created-touch B sz a oka nm z ga in
      let tb = created-touch B sz b okb nm z gb in
      create-alike (create B a nm z).image (create B b nm z).image ta.long tb.long (create-kept sz a nm z) (create-kept sz b nm z) nm z (get_or (chosen B v z) 0 0) (free_slot B v) (chosen B v z) ta
      (subst₂ (λ (s : ℕ) (cs : List ℕ). CreateTouch B b (create B b nm z).image nm z (get_or cs 0 0) s cs) (sym (free-slot-alike B v w al)) (sym (chosen-alike B v w al z)) tb)

  -- a granted remove
  removed-alike : (nm : List ℕ) → T (granted (remove B a nm).answer) → T (granted (remove B b nm).answer) → After B a b (remove B a nm).image (remove B b nm).image
  removed-alike nm ga gb =
      remove-alike (remove B a nm).image (remove B b nm).image ta.long tb.long (remove-kept sz a nm) (remove-kept sz b nm) s sta.file to from ta tb
    where
      s : ℕ
      s = slot_of B v nm

      hit : slot_of B v nm < slots B
      hit = remove-granted B a ((check-means B sz a).1 oka) nm ga

      sta : Stands B v nm s
      sta = stands-hit B v nm hit

      stb : Stands B w nm s
      stb = subst (Stands B w nm) (sym (slot-of-alike B v w al nm)) (stands-hit B w nm (remove-granted B b ((check-means B sz b).1 okb) nm gb))

      ta : RemoveTouch B a (remove B a nm).image s
      ta = remove-touches B sz a oka nm s sta

      tb : RemoveTouch B b (remove B b nm).image s
      tb = remove-touches B sz b okb nm s stb

      to : (i : ℕ) → BlockOf B v s i → BlockOf B w s i
      to i o =
          ⊎_elim (λ e. inl (sym (inode-alike B v w al s hit) ∙ e))
          (λ k. inr (k.0, subst (λ (z : ℕ). k.0 < need B z) (size-alike B v w al s) k.1, sym (number-alike B v w al s k.0) ∙ k.2)) o

      from : (i : ℕ) → BlockOf B w s i → BlockOf B v s i
      from i o =
          ⊎_elim (λ e. inl (inode-alike B v w al s hit ∙ e))
          (λ k. inr (k.0, subst (λ (z : ℕ). k.0 < need B z) (sym (size-alike B v w al s)) k.1, number-alike B v w al s k.0 ∙ k.2)) o

  -- a write, granted or refused
  write_moves : (x : List ℕ) (nm : List ℕ) (o : ℕ) (bs : List ℕ) → step (files_of B v) x (put_of B v (wr nm o bs)) ≡ step (files_of B w) x (put_of B w (wr nm o bs))
  unfolding put_of place
  write_moves x nm o bs = λ i.
      store_bytes (λ p. number-alike B v w al (slot-for-alike B v w al nm i) (p / B) i * B + p % B) x o
      (take (size-alike B v w al (slot-for-alike B v w al nm i) i - o) bs)

  written-alike : (nm : List ℕ) (o : ℕ) (bs : List ℕ) → After B a b (write B a nm o bs).image (write B b nm o bs).image
  unfolding request put_of
  written-alike nm o bs =
      record {
        long = la ∙ same.long ∙ sym lb;
        head = ap (part 0 20) (sym (view-head B na) ∙ ap (λ (x : View). x.head) va ∙ view-head B a) ∙ same.head ∙ sym (ap (part 0 20) (sym (view-head B nb) ∙ ap (λ (x : View). x.head) vb ∙ view-head B b));
        bits = λ i l.
            (ap (λ (m : List ℕ). map_bit m i) (sym (view-map B na) ∙ ap (λ (x : View). x.map) va ∙ view-map B a)
            ∙ same.bits i (subst (λ (n : ℕ). i < n) (blocks-eq B na a la) l)
            ∙ sym (ap (λ (m : List ℕ). map_bit m i) (sym (view-map B nb) ∙ ap (λ (x : View). x.map) vb ∙ view-map B b)));
        fate = λ t l.
            inr (ap (λ (d : List ℕ). slot d t) (sym (view-dir B na) ∙ ap (λ (x : View). x.dir) va ∙ view-dir B a), ap (λ (d : List ℕ). slot d t) (sym (view-dir B nb) ∙ ap (λ (x : View). x.dir) vb ∙ view-dir B b));
        rest = λ i l m.
            block-ext B na nb i (la ∙ same.long ∙ sym lb)
            (λ r k.
            ap (λ (x : List ℕ). get_or x (i * B + r) 0) (request-image B a pa (wr nm o bs) ∙ write_moves a nm o bs)
            ∙ store_same (place B w (slot_for B w nm)) (take (size w (slot_for B w nm) - o) bs) a b o (i * B + r) same.long (block-byte B a b i r k (same.rest i l (subst (λ (n : ℕ). i < n) (blocks-eq B na a la) m)))
            ∙ sym (ap (λ (x : List ℕ). get_or x (i * B + r) 0) (request-image B b pb (wr nm o bs))));
      }
    where
      na : List ℕ
      na = (write B a nm o bs).image

      nb : List ℕ
      nb = (write B b nm o bs).image

      pa : check B a ≡ consistent
      pa = (check-means B sz a).1 oka

      pb : check B b ≡ consistent
      pb = (check-means B sz b).1 okb

      la : length na ≡ length a
      la = request-length B pos a pa oka.sound (wr nm o bs)

      lb : length nb ≡ length b
      lb = request-length B pos b pb okb.sound (wr nm o bs)

      va : view B na ≡ view B a
      va = request-view B pos a pa oka.sound (wr nm o bs)

      vb : view B nb ≡ view B b
      vb = request-view B pos b pb okb.sound (wr nm o bs)

-- ---- one request, granted or refused
module _ (B : ℕ) (sz : BlockSize B) (a b : List ℕ) (same : SameRead B a b) where
  -- its answer is the same on both
  answer-same : (c : Change) → (perform B a c).answer ≡ (perform B b c).answer
  unfolding perform
  answer-same (creates nm z) = (ignored B sz a b same).create-same nm z
  answer-same (removes nm) = (ignored B sz a b same).remove-same nm
  answer-same (writes nm o bs) = (ignored B sz a b same).write_same nm o bs

  granted-alike : (c : Change) → Consistent B a → Consistent B b → T (granted (perform B a c).answer) → T (granted (perform B b c).answer) → After B a b (perform B a c).image (perform B b c).image
  unfolding perform
  granted-alike (creates nm z) oka okb ga gb = created-alike B sz a b same oka okb nm z ga gb
  granted-alike (removes nm) oka okb ga gb = removed-alike B sz a b same oka okb nm ga gb
  granted-alike (writes nm o bs) oka okb ga gb = written-alike B sz a b same oka okb nm o bs

  -- the images that it leaves differ at most in what the rules ignore
  stay : After B a b a b
  stay = record { long = same.long; head = same.head; bits = same.bits; fate = λ t l. inr (refl, refl); rest = same.rest }

  same_after : (c : Change) → After B a b (perform B a c).image (perform B b c).image
  same_after c =
      by-test (granted (perform B a c).answer)
      (λ ga.
      let gb : T (granted (perform B b c).answer) = subst (λ (x : Answer). T (granted x)) (answer-same c) ga in
      granted-alike c ((check-means B sz a).0 (granted-passed B a c ga)) ((check-means B sz b).0 (granted-passed B b c gb)) ga gb)
      (λ ra.
      let rb = subst (λ (x : Answer). T (not (granted x))) (answer-same c) ra in
      subst₂ (After B a b) (sym (refused-keeps B a c ra)) (sym (refused-keeps B b c rb)) stay)

  -- nor do those that a format leaves
  format-after : (label : List ℕ) → After B a b (format B a label).image (format B b label).image
  unfolding too_short
  format-after label =
      by-test (granted (format B a label).answer) formatted (λ ra. subst₂ (After B a b) (sym (format-refused B a label ra)) (sym (format-refused B b label (subst (λ (x : Answer). T (not (granted x))) answers ra))) stay)
    where
      answers : (format B a label).answer ≡ (format B b label).answer
      answers = format-answer B a b label (ap (λ (n : ℕ). ltb n (3 * B)) same.long)

      formatted : T (granted (format B a label).answer) → After B a b (format B a label).image (format B b label).image
      formatted ga =
          let gb : T (granted (format B b label).answer) = subst (λ (x : Answer). T (granted x)) answers ga in
          let la : length (format B a label).image ≡ length a = format-length sz a label in
          let long : length (format B a label).image ≡ length (format B b label).image = la ∙ same.long ∙ sym (format-length sz b label) in
          record {
            long = long;
            head = ap (part 0 20) (format-head sz a label ga ∙ sym (format-head sz b label gb));
            bits = λ i l. ap (λ (m : List ℕ). map_bit m i) (format-map sz a label ga ∙ sym (format-map sz b label gb));
            fate = λ t l. inl (ap (λ (d : List ℕ). slot d t) (format-directory sz a label ga ∙ sym (format-directory sz b label gb)));
            rest = λ i l m.
                block-ext B (format B a label).image (format B b label).image i long
                (λ r k.
                let past : 3 * B ≤ i * B + r = omega (arith, mul-le-mul_right {m = 3} {n = i} B l) in
                format-past sz a label (i * B + r) past
                ∙ block-byte B a b i r k (same.rest i l (subst (λ (n : ℕ). i < n) (blocks-eq B (format B a label).image a la) m))
                ∙ sym (format-past sz b label (i * B + r) past));
          }

  -- nor those that mend leaves
  mended-after : After B a b (mended B a) (mended B b)
  mended-after =
      elim (dec_le (3 * B) (length a)) [
        | yes la ↦ (let lb : 3 * B ≤ length b = subst (λ (n : ℕ). 3 * B ≤ n) same.long la in
            record {
              long = mended-long B sz a la ∙ same.long ∙ sym (mended-long B sz b lb);
              head = ap (part 0 20) (mended-other B sz a la 0 (λ e. omega arith)) ∙ same.head ∙ sym (ap (part 0 20) (mended-other B sz b lb 0 (λ e. omega arith)));
              bits = λ i h. (ap (λ (m : List ℕ). map_bit m i) (mended-map B sz a la) ∙ mended-bit B sz a la i ∙ bit-same i (omega (arith, h, view-n B a, blocks-eq B (mended B a) a (mended-long B sz a la))) ∙ sym (mended-bit B sz b lb i) ∙ sym (ap (λ (m : List ℕ). map_bit m i) (mended-map B sz b lb)));
              fate = λ t l. inr (ap (λ (d : List ℕ). slot d t) (mended-other B sz a la 2 (λ e. omega arith)), ap (λ (d : List ℕ). slot d t) (mended-other B sz b lb 2 (λ e. omega arith)));
              rest = λ i l h. (mended-other B sz a la i (λ e. omega arith) ∙ same.rest i l (omega (arith, h, blocks-eq B (mended B a) a (mended-long B sz a la))) ∙ sym (mended-other B sz b lb i (λ e. omega arith)));
            })
        | no la ↦ subst₂ (After B a b) (sym (short-same B a (omega arith))) (sym (short-same B b (omega (arith, same.long)))) stay
      ]
    where
      al : Alike B (view B a) (view B b)
      al = alike B sz a b same

      bit-same : (i : ℕ) → i < (view B a).n → cond (ltb i (view B a).n && stray B (view B a) i) false (map_bit (view B a).map i) ≡ cond (ltb i (view B b).n && stray B (view B b) i) false (map_bit (view B b).map i)
      bit-same i h = λ t. cond (ltb i (al.n t) && stray-alike B (view B a) (view B b) al i h t) false (al.bits i h t)

  mended-check : check B (mended B a) ≡ check B (mended B b)
  mended-check = (ignored B sz (mended B a) (mended B b) (read-after B a b (mended B a) (mended B b) same mended-after)).check-same

  pub mend-answer : (mend B a).answer ≡ (mend B b).answer
  mend-answer =
      ap (λ (o : Outcome). o.answer) (mend-is B a (check B (mended B b)) mended-check) ∙ go (check B (mended B b)) ∙ sym (ap (λ (o : Outcome). o.answer) (mend-is B b (check B (mended B b)) refl))
    where
      go : (x : Verdict) → (checked x (refuse a []) (granting B a)).answer ≡ (checked x (refuse b []) (granting B b)).answer
      go consistent = refl
      go (broken num p) = refl

  mend-after : After B a b (mend B a).image (mend B b).image
  mend-after =
      subst₂ (λ (x y : Outcome). After B a b x.image y.image) (sym (mend-is B a (check B (mended B b)) mended-check)) (sym (mend-is B b (check B (mended B b)) refl)) (go (check B (mended B b)))
    where
      go : (x : Verdict) → After B a b (checked x (refuse a []) (granting B a)).image (checked x (refuse b []) (granting B b)).image
      go consistent = mended-after
      go (broken num p) = stay

  after_any : (x : Operation) → After B a b (operate B a x).image (operate B b x).image
  after_any (formats label) = format-after label
  after_any (requests (changes c)) = same_after c
  after_any mends = mend-after
  after_any (requests (fetches c k buf)) = subst₂ (After B a b) (sym (fetch-image B a c k buf)) (sym (fetch-image B b c k buf)) stay
  after_any (requests checks) = stay
  after_any (requests (reads nm o buf)) = subst₂ (After B a b) (sym (read-image B a nm o buf)) (sym (read-image B b nm o buf)) stay
  after_any (requests (lists s)) = stay
  after_any (requests counts) = stay

  same-after-any : (x : Operation) → SameRead B (operate B a x).image (operate B b x).image
  same-after-any x = read-after B a b (operate B a x).image (operate B b x).image same (after_any x)

-- ---- any number of requests
pub same-after-all : (B : ℕ) → BlockSize B → (a b : List ℕ) → SameRead B a b → (xs : List Operation) → SameRead B (after_all B a xs) (after_all B b xs)
unfolding after_all
same-after-all B sz a b same [] = same
same-after-all B sz a b same (x ∷ xs) = same-after-all B sz (operate B a x).image (operate B b x).image (same-after-any B sz a b same x) xs

pub bytes-after-all : (B : ℕ) → BlockSize B → (a b : List ℕ) → SameRead B a b → (t : ℕ) → t < slots B → SameBytes B a b t → (xs : List Operation) → SameBytes B (after_all B a xs) (after_all B b xs) t
unfolding after_all
bytes-after-all B sz a b same t l e [] = e
bytes-after-all B sz a b same t l e (x ∷ xs) =
    let na : List ℕ = (operate B a x).image in
    let nb : List ℕ = (operate B b x).image in
    bytes-after-all B sz na nb (same-after-any B sz a b same x) t l (fate-bytes B a b na nb t ((after_any B sz a b same x).fate t l) e) xs
