-- Which answer each request gives, in plain facts: one table for each request, with a line for each of its answers.
-- Each table holds of an answer exactly when the request gives it. The check comes first, so the volume is consistent; of format it is any image.
use Rattle.std.specs.Prelude.{◌≡◌, ◌≢◌, ◌↔◌, Bool, true, false, not, cond, ℕ, ◌+◌, ◌-◌, ◌*◌, ◌≤◌, ◌<◌, min, T, leb, ltb}
use Rattle.std.proofs.Math.Path.{refl, ap, subst}
use Rattle.std.proofs.Common.{sym, ◌∙◌, ⊎_elim, arith, leb→le, le→leb, lt→ltb, eqb→eq}
use mathlib.Core.List.{List, []}
use Rattle.std.proofs.Math.Decide.{dec_lt}
use Rattle.std.proofs.Math.ListN.{length, get_or}
use Rattle.std.proofs.Math.Seq.{get_or-take}
use Rattle.std.proofs.Math.Arith.{le→nltb}
use Rattle.std.proofs.Math.Dec.{ltb→lt, nltb→le, T_not, not_T}
use Rattle.list_laws.specs.Test.{cond_yes, cond_no, and-of, and_l, and_r, not-not, yes-yes, no_false, to-true, eqb_of, neqb-of}
use Rattle.lists.specs.Lists.{least, zero_at, first_zero}
use Rattle.list_laws.specs.Least.{least-hit, least-none, least-below, least-all}
use Rattle.tfs_spec.specs.Layout.{BlockSize, slots, max_size, need, map_bit, slot, label_allowed, name_allowed, View, view, free, used, name, size, slot_of, free_slot, free_blocks}
use Rattle.tfs_spec.specs.Check.{consistent, check, too_short}
use Rattle.tfs_spec.specs.Consistent.{File, Sound, Consistent}
use Rattle.tfs_facts.specs.Claims.{count-some}
use Rattle.tfs_facts.specs.CheckMeans.{check-means, same-means}
use Rattle.tfs_facts.specs.Slots.{used-short, used-named, name-whole}
use Rattle.tfs_facts.specs.Room.{free-cursor}
use Rattle.tfs_spec.specs.Requests.{Request, changes, fetches, checks, reads, lists, counts, Change, creates, removes, writes, perform, reply, check_answer, free_answer, Answer, done, value, transferred, unused, refused, granted, Outcome, refuse, Lookup, lookup, looked, free_from, chosen, create_view, create, remove_view, remove, counted, transfer_answer, read, write, list_view, list_answer, format, blocks_met}
use Rattle.tfs_spec.specs.Answers.{LabelRule, NameRule, Stands, Fresh, Vacant, LowestBlock, FindRule, misnamed, absent, found, CreateRule, unnamed, oversized, standing, full, cramped, created, TransferRule, beyond, moved, ListRule, outside, vacant, holds, FormatRule, ChangeRule, short, unlabelled, formatted, Rule}
use Rattle.tfs_facts.specs.Names.{slot-hit, slot-miss, slot_is, free-hit}
use Rattle.tfs_proofs.specs.Fetching.{fetch-rule}
use Rattle.tfs_proofs.specs.Meets.{meets}
use Rattle.tfs_proofs.specs.Changes.{create-is, remove-is}
use Rattle.tfs_facts.specs.Lookups.{lookup-misnamed, lookup_absent, lookup-there, by-lookup}
use Rattle.tfs_proofs.specs.Transfers.{transfer_view, read_answer, write-answer}

-- a list with no zero byte has its first zero at its end
no_zero : (l : List ℕ) → ((i : ℕ) → i < length l → get_or l i 0 ≢ 0) → first_zero l ≡ length l
unfolding first_zero zero_at
no_zero l h = least-all (zero_at l) (length l) (λ i k. neqb-of (get_or l i 0) 0 (h i k))

zero-free : (l : List ℕ) → first_zero l ≡ length l → (i : ℕ) → i < length l → get_or l i 0 ≢ 0
unfolding first_zero zero_at
zero-free l e i h z = T_not (zero_at l i) (least-below (zero_at l) (length l) i (omega arith)) (eqb_of z)

pub label-allowed : (l : List ℕ) → T (label_allowed l) ↔ LabelRule l
unfolding label_allowed
label-allowed l = (
  (λ t.
      let s : length l < 16 = ltb→lt (length l) 16 (and_l (ltb (length l) 16) _ t) in
      (omega arith, zero-free l (eqb→eq (first_zero l) (length l) (and_r (ltb (length l) 16) _ t)))),
  λ r. and-of (ltb (length l) 16) _ (lt→ltb (length l) 16 (omega (arith, r.0))) (eqb_of (no_zero l r.1)),
)

pub name-allowed : (nm : List ℕ) → T (name_allowed nm) ↔ NameRule nm
unfolding name_allowed
name-allowed nm = (
  (λ t. (leb→le 1 (length nm) (and_l (leb 1 (length nm)) _ t), (label-allowed nm).0 (and_r (leb 1 (length nm)) _ t))),
  λ r. and-of (leb 1 (length nm)) _ (le→leb 1 (length nm) r.0) ((label-allowed nm).1 r.1),
)

module _ (B : ℕ) (v : View) (nm : List ℕ) where
  pub stands-hit : slot_of B v nm < slots B → Stands B v nm (slot_of B v nm)
  stands-hit h =
      let f = slot-hit B v nm h in
      record { file = f.0; named = (same-means (name v (slot_of B v nm)) nm).0 f.1 }

  pub stands-miss : slots B ≤ slot_of B v nm → Fresh B v nm
  stands-miss h s st = slot-miss B v nm h s st.file ((same-means (name v s) nm).1 st.named)

  pub stands_at : Sound B v → (s : ℕ) → Stands B v nm s → slot_of B v nm ≡ s
  stands_at ok s st = slot_is B v nm ok.apart s st.file ((same-means (name v s) nm).1 st.named)

  pub stands-low : Sound B v → (s : ℕ) → Stands B v nm s → slot_of B v nm < slots B
  stands-low ok s st = subst (λ (x : ℕ). x < slots B) (sym (stands_at ok s st)) st.file.slot

  pub fresh-high : Fresh B v nm → slots B ≤ slot_of B v nm
  fresh-high none = elim (dec_lt (slot_of B v nm) (slots B)) [ yes h ↦ absurd (none (slot_of B v nm) (stands-hit h)) | no h ↦ omega arith ]

module _ (B : ℕ) (v : View) where
  pub vacant-hit : free_slot B v < slots B → Vacant B v (free_slot B v)
  vacant-hit h = record { slot = h; free = free-hit B v h }

  pub vacant-low : (s : ℕ) → Vacant B v s → free_slot B v < slots B
  unfolding free_slot
  vacant-low s f =
      elim (dec_lt (least (free v) (slots B)) (slots B)) [
        | yes h ↦ h
        | no h ↦ absurd (T_not (free v s) (least-none (free v) (slots B) (omega arith) s f.slot) f.free)
      ]

  -- the lowest free block comes first among the free ones
  lowest-first : (h : ℕ) → LowestBlock v h → (z : ℕ) → get_or (chosen B v z) 0 0 ≡ h
  unfolding chosen
  lowest-first h l z =
      get_or-take (1 + need B z) (free_from v.map 0 v.n) 0 0 (omega arith)
      ∙ ap (λ (x : List ℕ). get_or x 0 0)
      (free-cursor v.map 0 v.n h (record { low = omega arith; high = omega (arith, l.below); clear = l.clear }) (λ i _ k. l.marked i k))

-- where there is room there is a lowest free block
pub lowest-block : (v : View) → 1 ≤ free_blocks v → (h : ℕ) × LowestBlock v h
unfolding free_blocks
lowest-block v room =
    let f : ℕ → Bool = λ b. not (map_bit v.map b) in
    let some = count-some f v.n room in
    let l : least f v.n < v.n =
    elim (dec_lt (least f v.n) v.n) [
      | yes h ↦ h
      | no h ↦ absurd (T_not (f some.0) (least-none f v.n (omega arith) some.0 some.1) some.2)
    ]
    in (
      least f v.n,
      record {
        below = l;
        clear = no_false (map_bit v.map (least f v.n)) (least-hit f v.n l);
        marked = λ i k. to-true (map_bit v.map i) (not-not (map_bit v.map i) (least-below f v.n i k));
      },
    )

-- ---- one choice of an answer
by-choice {ℓ} : {X : Type ℓ} (b : Bool) (x y : X) (P : X → Type 0) → (T b → P x) → (T (not b) → P y) → P (cond b x y)
by-choice true x y P f g = f tt
by-choice false x y P f g = g tt

-- past the test of the name
past-name : (nm : List ℕ) → NameRule nm → (x : Answer) → cond (not (name_allowed nm)) (refused 8 0) x ≡ x
past-name nm r x = cond_no (not (name_allowed nm)) (refused 8 0) x (yes-yes (name_allowed nm) ((name-allowed nm).1 r))

-- remove, read and write: the lookup, then a step whose own table holds of its answer and of no other
module _ (B : ℕ) (v : View) (ok : Sound B v) (nm : List ℕ) (own : ℕ → Answer → Type 0) (step : ℕ → Answer) (holds : (s : ℕ) → File B v s → own s (step s)) (only : (s : ℕ) (a : Answer) → File B v s → own s a → step s ≡ a) where
  find-holds : FindRule B v nm own (looked (lookup B v nm) refused step)
  find-holds =
      by-lookup B v nm (λ (x : Lookup). FindRule B v nm own (looked x refused step)) (λ t. misnamed (λ r. T_not (name_allowed nm) t ((name-allowed nm).1 r))) (λ t l. absent ((name-allowed nm).0 t) (stands-miss B v nm l))
      (λ t l. found (slot_of B v nm) (step (slot_of B v nm)) ((name-allowed nm).0 t) (stands-hit B v nm l) (holds (slot_of B v nm) (stands-hit B v nm l).file))

  find-only : (a : Answer) → FindRule B v nm own a → looked (lookup B v nm) refused step ≡ a
  find-only _ (misnamed h) =
      ap (λ (x : Lookup). looked x refused step) (lookup-misnamed B v nm (not_T (name_allowed nm) (λ t. h ((name-allowed nm).0 t))))
  find-only _ (absent r none) =
      ap (λ (x : Lookup). looked x refused step) (lookup_absent B v nm ((name-allowed nm).1 r) (fresh-high B v nm none))
  find-only _ (found s a r st w) =
      ap (λ (x : Lookup). looked x refused step) (lookup-there B v nm ((name-allowed nm).1 r) (stands-low B v nm ok s st))
      ∙ ap step (stands_at B v nm ok s st)
      ∙ only s a st.file w

  find-rule : (a : Answer) → (looked (lookup B v nm) refused step ≡ a) ↔ FindRule B v nm own a
  find-rule a = ((λ e. subst (FindRule B v nm own) e find-holds), find-only a)

module _ (B : ℕ) (v : View) (ok : Sound B v) (nm : List ℕ) (z : ℕ) where
  create-holds : CreateRule B v nm z (create_view B v nm z)
  unfolding create_view
  create-holds =
      by-choice (not (name_allowed nm)) _ _ (CreateRule B v nm z)
      (λ t. unnamed (λ r. T_not (name_allowed nm) t ((name-allowed nm).1 r)))
      (λ t.
      let r : NameRule nm = (name-allowed nm).0 (not-not (name_allowed nm) t) in
      by-choice (ltb (max_size B) z) _ _ (CreateRule B v nm z)
      (λ t. oversized r (ltb→lt (max_size B) z t))
      (λ t.
      let small : z ≤ max_size B = nltb→le (max_size B) z t in
      by-choice (ltb (slot_of B v nm) (slots B)) _ _ (CreateRule B v nm z)
      (λ t. standing (slot_of B v nm) r small (stands-hit B v nm (ltb→lt (slot_of B v nm) (slots B) t)))
      (λ t.
      let fresh : Fresh B v nm = stands-miss B v nm (nltb→le (slot_of B v nm) (slots B) t) in
      by-choice (not (ltb (free_slot B v) (slots B))) _ _ (CreateRule B v nm z)
      (λ t. full r small fresh (λ s f. omega (arith, vacant-low B v s f, nltb→le (free_slot B v) (slots B) t)))
      (λ t.
      let slot : Vacant B v (free_slot B v) = vacant-hit B v (ltb→lt (free_slot B v) (slots B) (not-not (ltb (free_slot B v) (slots B)) t)) in
      by-choice (ltb (free_blocks v) (1 + need B z)) _ _ (CreateRule B v nm z)
      (λ t. cramped (free_slot B v) r small fresh slot (ltb→lt (free_blocks v) (1 + need B z) t))
      (λ t.
      let room : 1 + need B z ≤ free_blocks v = nltb→le (free_blocks v) (1 + need B z) t in
      let low = lowest-block v (omega arith) in
      subst (λ (h : ℕ). CreateRule B v nm z (value h)) (sym (lowest-first B v low.0 low.1 z)) (created (free_slot B v) low.0 r small fresh slot room low.1))))))

  -- past the other tests
  past-size : z ≤ max_size B → (x : Answer) → cond (ltb (max_size B) z) (refused 9 0) x ≡ x
  past-size h x = cond_no (ltb (max_size B) z) (refused 9 0) x (le→nltb (max_size B) z h)

  past-fresh : Fresh B v nm → (x : Answer) → cond (ltb (slot_of B v nm) (slots B)) (refused 10 0) x ≡ x
  past-fresh h x = cond_no (ltb (slot_of B v nm) (slots B)) (refused 10 0) x (le→nltb (slot_of B v nm) (slots B) (fresh-high B v nm h))

  past-slot : (s : ℕ) → Vacant B v s → (x : Answer) → cond (not (ltb (free_slot B v) (slots B))) (refused 11 0) x ≡ x
  past-slot s h x = cond_no (not (ltb (free_slot B v) (slots B))) (refused 11 0) x (yes-yes (ltb (free_slot B v) (slots B)) (lt→ltb (free_slot B v) (slots B) (vacant-low B v s h)))

  create-only : (a : Answer) → CreateRule B v nm z a → create_view B v nm z ≡ a
  unfolding create_view
  create-only _ (unnamed h) = cond_yes (not (name_allowed nm)) (refused 8 0) _ (not_T (name_allowed nm) (λ t. h ((name-allowed nm).0 t)))
  create-only _ (oversized r h) = past-name nm r _ ∙ cond_yes (ltb (max_size B) z) (refused 9 0) _ (lt→ltb (max_size B) z h)
  create-only _ (standing s r k st) =
      past-name nm r _ ∙ past-size k _ ∙ cond_yes (ltb (slot_of B v nm) (slots B)) (refused 10 0) _ (lt→ltb (slot_of B v nm) (slots B) (stands-low B v nm ok s st))
  create-only _ (full r k f none) =
      past-name nm r _
      ∙ past-size k _
      ∙ past-fresh f _
      ∙ cond_yes (not (ltb (free_slot B v) (slots B))) (refused 11 0) _ (not_T (ltb (free_slot B v) (slots B)) (λ t. none (free_slot B v) (vacant-hit B v (ltb→lt (free_slot B v) (slots B) t))))
  create-only _ (cramped s r k f w h) =
      past-name nm r _
      ∙ past-size k _
      ∙ past-fresh f _
      ∙ past-slot s w _
      ∙ cond_yes (ltb (free_blocks v) (1 + need B z)) (refused 12 0) _ (lt→ltb (free_blocks v) (1 + need B z) h)
  create-only _ (created s h r k f w room low) =
      past-name nm r _
      ∙ past-size k _
      ∙ past-fresh f _
      ∙ past-slot s w _
      ∙ cond_no (ltb (free_blocks v) (1 + need B z)) (refused 12 0) _ (le→nltb (free_blocks v) (1 + need B z) room)
      ∙ ap value (lowest-first B v h low z)

  create-rule : (a : Answer) → (create_view B v nm z ≡ a) ↔ CreateRule B v nm z a
  create-rule a = ((λ e. subst (CreateRule B v nm z) e create-holds), create-only a)

module _ (B : ℕ) (pos : 0 < B) (v : View) (ok : Sound B v) (o len s : ℕ) (f : File B v s) where
  -- so many bytes lie in the file
  fits : (c : ℕ) → o ≤ size v s → c ≡ min len (size v s - o) → o + c ≤ size v s
  fits c l e = omega arith

  transfer-holds : TransferRule B v o len s (transfer_answer B v s o len)
  unfolding transfer_answer counted
  transfer-holds =
      by-choice (ltb (size v s) o) _ _ (TransferRule B v o len s) (λ u. beyond (ltb→lt (size v s) o u))
      (λ u.
      let l : o ≤ size v s = nltb→le (size v s) o u in
      moved _ _ l refl (meets B pos v ok s o (min len (size v s - o)) f (fits (min len (size v s - o)) l refl)))

  transfer-only : (a : Answer) → TransferRule B v o len s a → transfer_answer B v s o len ≡ a
  unfolding transfer_answer counted
  transfer-only _ (beyond l) = cond_yes (ltb (size v s) o) (refused 15 0) _ (lt→ltb (size v s) o l)
  transfer-only _ (moved c m l e w) =
      cond_no (ltb (size v s) o) (refused 15 0) _ (le→nltb (size v s) o l)
      ∙ ap (λ (n : ℕ). transferred n (blocks_met B o n)) (sym e)
      ∙ ap (transferred c) (sym (meets B pos v ok s o c f (fits c l e)).distinct ∙ w.distinct)

module _ (B : ℕ) (v : View) (s : ℕ) where
  list-holds : ListRule B v s (list_view B v s)
  unfolding list_view
  list-holds =
      by-choice (not (ltb s (slots B))) _ _ (ListRule B v s) (λ t. outside (nltb→le s (slots B) t))
      (λ t.
      let l : s < slots B = ltb→lt s (slots B) (not-not (ltb s (slots B)) t) in
      by-choice (free v s) _ _ (ListRule B v s) (λ u. vacant (record { slot = l; free = u })) (λ u. holds (record { slot = l; taken = u })))

  past-slots : s < slots B → (x : Answer) → cond (not (ltb s (slots B))) (refused 14 0) x ≡ x
  past-slots l x = cond_no (not (ltb s (slots B))) (refused 14 0) x (yes-yes (ltb s (slots B)) (lt→ltb s (slots B) l))

  list-only : (a : Answer) → ListRule B v s a → list_view B v s ≡ a
  unfolding list_view
  list-only _ (outside l) = cond_yes (not (ltb s (slots B))) (refused 14 0) _ (le→nltb s (slots B) l)
  list-only _ (vacant f) = past-slots f.slot _ ∙ cond_yes (free v s) unused _ f.free
  list-only _ (holds f) = past-slots f.slot _ ∙ cond_no (free v s) unused _ f.taken

  list-rule : (a : Answer) → (list_view B v s ≡ a) ↔ ListRule B v s a
  list-rule a = ((λ e. subst (ListRule B v s) e list-holds), list-only a)

module _ (B : ℕ) (img label : List ℕ) where
  format-holds : FormatRule B img label (format B img label).answer
  unfolding format too_short
  format-holds =
      by-choice (ltb (length img) (3 * B)) _ _ (λ (o : Outcome). FormatRule B img label o.answer) (λ t. short (ltb→lt (length img) (3 * B) t))
      (λ t.
      let l : 3 * B ≤ length img = nltb→le (length img) (3 * B) t in
      by-choice (not (label_allowed label)) _ _ (λ (o : Outcome). FormatRule B img label o.answer)
      (λ u. unlabelled l (λ r. T_not (label_allowed label) u ((label-allowed label).1 r)))
      (λ u. formatted l ((label-allowed label).0 (not-not (label_allowed label) u))))

  past-short : 3 * B ≤ length img → (x : Outcome) → (cond (ltb (length img) (3 * B)) (refuse img [] 1 0) x).answer ≡ x.answer
  past-short l x = ap (λ (o : Outcome). o.answer) (cond_no (ltb (length img) (3 * B)) (refuse img [] 1 0) x (le→nltb (length img) (3 * B) l))

  format-only : (a : Answer) → FormatRule B img label a → (format B img label).answer ≡ a
  unfolding format too_short
  format-only _ (short l) = ap (λ (o : Outcome). o.answer) (cond_yes (ltb (length img) (3 * B)) (refuse img [] 1 0) _ (lt→ltb (length img) (3 * B) l))
  format-only _ (unlabelled l h) =
      past-short l _ ∙ ap (λ (o : Outcome). o.answer) (cond_yes (not (label_allowed label)) (refuse img [] 8 0) _ (not_T (label_allowed label) (λ t. h ((label-allowed label).0 t))))
  format-only _ (formatted l r) =
      past-short l _ ∙ ap (λ (o : Outcome). o.answer) (cond_no (not (label_allowed label)) (refuse img [] 8 0) _ (yes-yes (label_allowed label) ((label-allowed label).1 r)))

  pub format-rule : (a : Answer) → ((format B img label).answer ≡ a) ↔ FormatRule B img label a
  format-rule a = ((λ e. subst (FormatRule B img label) e format-holds), format-only a)

-- ---- the requests on a consistent volume
iff-at : (x y a : Answer) (P : Type 0) → x ≡ y → ((y ≡ a) ↔ P) → ((x ≡ a) ↔ P)
iff-at x y a P e h = ((λ d. h.0 (sym e ∙ d)), λ p. e ∙ h.1 p)

module _ (B : ℕ) (sz : BlockSize B) (img : List ℕ) (ok : Consistent B img) where
  abbrev w : View
  w = view B img

  passed : check B img ≡ consistent
  passed = (check-means B sz img).1 ok

  pos : 0 < B
  pos = omega (arith, sz.large)

  transfer-rule : (nm : List ℕ) (o len : ℕ) (a : Answer) → (transfer_view B w nm o len ≡ a) ↔ FindRule B w nm (TransferRule B w o len) a
  unfolding transfer_view
  transfer-rule nm o len =
      find-rule B w ok.sound nm (TransferRule B w o len) (λ s. transfer_answer B w s o len) (λ s f. transfer-holds B pos w ok.sound o len s f) (λ s a f r. transfer-only B pos w ok.sound o len s f a r)

  -- an answer is given exactly in its case of the request's table
  change-reply : (c : Change) (a : Answer) → ((perform B img c).answer ≡ a) ↔ ChangeRule B (view B img) c a
  unfolding perform remove_view
  change-reply (creates nm z) a =
      iff-at (create B img nm z).answer (create_view B w nm z) a _ (ap (λ (o : Outcome). o.answer) (create-is B img passed nm z)) (create-rule B w ok.sound nm z a)
  change-reply (removes nm) a =
      iff-at (remove B img nm).answer (remove_view B w nm) a _ (ap (λ (o : Outcome). o.answer) (remove-is B img passed nm)) (find-rule B w ok.sound nm (λ s b. done ≡ b) (λ s. done) (λ s _. refl) (λ s b _ e. e) a)
  change-reply (writes nm o bs) a =
      iff-at (write B img nm o bs).answer (transfer_view B w nm o (length bs)) a _ (write-answer B img nm o bs passed) (transfer-rule nm o (length bs) a)

  pub rule-reply : (r : Request) (a : Answer) → ((reply B img r).answer ≡ a) ↔ Rule B (view B img) r a
  unfolding list_answer check_answer free_answer
  rule-reply (changes c) a = change-reply c a
  rule-reply (fetches c k buf) a = fetch-rule B sz img ok c k buf (change-reply c) a
  rule-reply checks a = iff-at (check_answer B img) done a _ (rw passed) ((λ e. e), λ e. e)
  rule-reply (reads nm o buf) a =
      iff-at (read B img nm o buf).answer (transfer_view B w nm o (length buf)) a _ (read_answer B img nm o buf passed) (transfer-rule nm o (length buf) a)
  rule-reply (lists s) a = iff-at (list_answer B img s) (list_view B w s) a _ (rw passed) (list-rule B w s a)
  rule-reply counts a = iff-at (free_answer B img) (value (B * free_blocks w)) a _ (rw passed) ((λ e. e), λ e. e)

  pub create-answers : (nm : List ℕ) (z : ℕ) (a : Answer) → ((create B img nm z).answer ≡ a) ↔ CreateRule B (view B img) nm z a
  unfolding perform
  create-answers nm z a = change-reply (creates nm z) a

  pub remove-answers : (nm : List ℕ) (a : Answer) → ((remove B img nm).answer ≡ a) ↔ FindRule B (view B img) nm (λ s b. done ≡ b) a
  unfolding perform
  remove-answers nm a = change-reply (removes nm) a

-- every name that stands is one that requests take
pub stands-named : (B : ℕ) (img : List ℕ) → Consistent B img → (nm : List ℕ) (s : ℕ) → Stands B (view B img) nm s → NameRule nm
unfolding used name
stands-named B img ok nm s st =
    let e : List ℕ = slot (view B img).dir s in
    let formed : T (used (view B img) s) = ⊎_elim (λ t. absurd (T_not (free (view B img) s) st.file.taken t)) (λ t. t) (ok.sound.formed s st.file.slot) in
    subst NameRule st.named (used-named e (view B img).n formed, (omega (arith, used-short e (view B img).n formed), name-whole e))

-- so a remove of it is granted
pub stands-removed : (B : ℕ) → BlockSize B → (img : List ℕ) → Consistent B img → (nm : List ℕ) (s : ℕ) → Stands B (view B img) nm s → T (granted (remove B img nm).answer)
stands-removed B sz img ok nm s st =
    subst (λ (a : Answer). T (granted a)) (sym ((remove-answers B sz img ok nm done).1 (found s done (stands-named B img ok nm s st) st refl))) tt
