-- Lists of writes on a consistent volume: every answer, every byte of every file, and every other byte; and pieces against the joined write.
use Rattle.std.specs.Prelude.{◌≡◌, cond, ◌&&◌, get_or, take, eqb}
use Rattle.std.proofs.Math.Path.{refl, sym, ap, ap₂, fun_ext, subst}
use Rattle.std.proofs.Common.{◌∙◌, arith, length-append, take_all, leb→le, ltb→lt}
use Rattle.std.proofs.Math.Bool.{Bool}
use Prim.Native.Nat.{ℕ, ◌+◌, ◌-◌, ◌*◌, ◌<◌, min}
use mathlib.Core.List.{List, [], ◌∷◌, ◌++◌, map}
use Rattle.std.proofs.Math.Decide.{dec_le}
use Rattle.std.proofs.Math.ListN.{length, length-take}
use Rattle.std.proofs.Math.Seq.{take-nil}
use Rattle.std.proofs.Math.Dec.{T, leb, ltb, eqb→eq}
use Rattle.list_laws.specs.Test.{by-test, cond_yes, cond_no, and-of, and_l, and_r, eqb_of, iff-eq}
use Rattle.lists.specs.Lists.{store_bytes, table, joined}
use Rattle.tfs_spec.specs.Layout.{slots, inode_size, same_name, View, view, name, size, slot_of, place}
use Rattle.std.proofs.Math.Option
use Rattle.tfs_spec.specs.Check.{consistent, broken, check, check_view, too_short}
use Rattle.tfs_spec.specs.Consistent.{File, Sound}
use Rattle.tfs_spec.specs.Requests.{count_of, Answer, transferred, refused, granted, refuse, Lookup, in_slot, denied, lookup, looked, counted, transfer_answer, write_image, write_file, write}
use Rattle.tfs_spec.specs.Laws.{Write, request, after, answers, covers_at, last_at, WritesLaw, pieces_image, pieces_count, PiecesLaw}
use Rattle.tfs_facts.specs.Views.{inodes-out, has}
use Rattle.tfs_proofs.specs.Content.{contents-at, contents-in, standing-map, content-by}
use Rattle.tfs_proofs.specs.Writes.{Put, put, Files, effect, step, run, covers, last_of, last-write, rest-kept, length-step, step-join}
use Rattle.tfs_proofs.specs.Places.{files_of, laid, view-kept}
use Rattle.tfs_proofs.specs.Transfers.{slot_given, slot_for, transfer_view, slot_for-hit, write-answer}
use Rattle.tfs_facts.specs.CheckMeans.{same-sym}
use Rattle.tfs_facts.specs.Names.{slot-hit, slot_is, name-refl, name-trans}

abbrev pub wr : List ℕ → ℕ → List ℕ → Write
wr nm o bs = record { name = nm; offset = o; bytes = bs }

-- ---- a write by name is a write to a slot; refused, it writes nothing
unfoldable pub put_of : ℕ → View → Write → Put
put_of B v w = put (slot_for B v w.name) w.offset w.bytes

-- the check is a function of length and view
pub check-same : (B : ℕ) (a b : List ℕ) → length a ≡ length b → view B a ≡ view B b → check B a ≡ check B b
unfolding check too_short
check-same B a b l e = ap₂ (λ (n : ℕ) (v : View). cond (ltb n (3 * B)) (broken 1 0) (check_view B v)) l e

pub take_min : (k : ℕ) (l : List ℕ) → take (min (length l) k) l ≡ take k l
take_min k l =
    elim (dec_le (length l) k) [
      | yes h ↦ (let e : min (length l) k ≡ length l = omega arith in rw e (take_all (length l) l (omega arith)) ∙ sym (take_all k l h))
      | no h ↦ let e : min (length l) k ≡ k = omega arith in rw e
    ]

-- what a transfer moves is what lies between offset and size
transfer-core : (size o m : ℕ) (bs : List ℕ) → count_of (cond (ltb size o) (refused 15 0) (transferred (min (length bs) (size - o)) m)) ≡ length (take (size - o) bs)
transfer-core size o m bs =
    by-test (ltb size o)
    (λ u.
    ap count_of (cond_yes (ltb size o) (refused 15 0) (transferred (min (length bs) (size - o)) m) u)
    ∙ omega (arith, length-take (size - o) bs, ltb→lt size o u))
    (λ u. ap count_of (cond_no (ltb size o) (refused 15 0) (transferred (min (length bs) (size - o)) m) u) ∙ omega (arith, length-take (size - o) bs))

image-core : (size o m : ℕ) (a : ℕ → ℕ) (img bs : List ℕ) → cond (granted (cond (ltb size o) (refused 15 0) (transferred (min (length bs) (size - o)) m))) (store_bytes a img o (take (min (length bs) (size - o)) bs)) img ≡ store_bytes a img o (take (size - o) bs)
image-core size o m a img bs =
    let full : List ℕ = store_bytes a img o (take (min (length bs) (size - o)) bs) in
    by-test (ltb size o)
    (λ u.
    ap (λ (x : Answer). cond (granted x) full img) (cond_yes (ltb size o) (refused 15 0) (transferred (min (length bs) (size - o)) m) u)
    ∙ (let z : size - o ≡ 0 = omega (arith, ltb→lt size o u) in rw z))
    (λ u.
    ap (λ (x : Answer). cond (granted x) full img) (cond_no (ltb size o) (refused 15 0) (transferred (min (length bs) (size - o)) m) u)
    ∙ ap (store_bytes a img o) (take_min (size - o) bs))

-- there is no file past the last slot
pub no-file : (B : ℕ) (img : List ℕ) (s : ℕ) → s ≡ slots B → size (view B img) s ≡ 0
unfolding size inode_size Rattle.lists.specs.Lists.word
no-file B img s e = ap inode_size (inodes-out B img s (omega arith))

module _ (B : ℕ) (img : List ℕ) (passed : check B img ≡ consistent) (w : Write) where
  pub request-answer : (request B img w).answer ≡ transfer_view B (view B img) w.name w.offset (length w.bytes)
  unfolding request
  request-answer = write-answer B img w.name w.offset w.bytes passed

  pub request-count : count_of (request B img w).answer ≡ length (effect (files_of B (view B img)) (put_of B (view B img) w))
  unfolding transfer_view transfer_answer put_of counted slot_for
  request-count = ap count_of request-answer ∙ go (lookup B (view B img) w.name)
    where
      go : (x : Lookup) → count_of (looked x refused (λ s. transfer_answer B (view B img) s w.offset (length w.bytes))) ≡ length (take (size (view B img) (slot_given B x) - w.offset) w.bytes)
      go (in_slot s) = transfer-core (size (view B img) s) w.offset _ w.bytes
      go (denied num) =
          omega (arith, no-file B img (slots B) refl, length-take (size (view B img) (slots B) - w.offset) w.bytes)

  pub request-image : (request B img w).image ≡ step (files_of B (view B img)) img (put_of B (view B img) w)
  unfolding request write transfer_answer put_of write_image counted slot_for
  request-image = rw passed (go (lookup B (view B img) w.name))
    where
      go : (x : Lookup) → (looked x (refuse img []) (λ s. write_file B img s w.offset w.bytes)).image ≡ store_bytes (place B (view B img) (slot_given B x)) img w.offset (take (size (view B img) (slot_given B x) - w.offset) w.bytes)
      go (in_slot s) = image-core (size (view B img) s) w.offset _ (place B (view B img) s) img w.bytes
      go (denied num) =
          let z : size (view B img) (slots B) - w.offset ≡ 0 = omega (arith, no-file B img (slots B) refl) in
          rw z

module _ (B : ℕ) (pos : 0 < B) where
  module _ (img : List ℕ) (passed : check B img ≡ consistent) (ok : Sound B (view B img)) (w : Write) where
    pub request-length : length (request B img w).image ≡ length img
    request-length =
        ap length (request-image B img passed w) ∙ length-step (files_of B (view B img)) img (put_of B (view B img) w)

    pub request-view : view B (request B img w).image ≡ view B img
    request-view = ap (view B) (request-image B img passed w) ∙ view-kept B pos img ok (put_of B (view B img) w)

    pub request-check : check B (request B img w).image ≡ consistent
    request-check = check-same B (request B img w).image img request-length request-view ∙ passed

    pub request-sound : Sound B (view B (request B img w).image)
    request-sound = rw request-view ok

  -- each write gets the answer that the rules give it on the volume before the list
  answers-fixed : (ws : List Write) (img : List ℕ) → check B img ≡ consistent → Sound B (view B img) → answers B img ws ≡ map (λ w. (request B img w).answer) ws
  unfolding answers
  answers-fixed [] img passed ok = refl
  answers-fixed (w ∷ ws) img passed ok = λ i.
      (request B img w).answer
      ∷ (answers-fixed ws (request B img w).image (request-check img passed ok w) (request-sound img passed ok w) ∙ later) i
    where
      new : List ℕ
      new = (request B img w).image

      same : (u : Write) → (request B new u).answer ≡ (request B img u).answer
      same u =
          request-answer B new (request-check img passed ok w) u
          ∙ ap (λ (x : View). transfer_view B x u.name u.offset (length u.bytes)) (request-view img passed ok w)
          ∙ sym (request-answer B img passed u)

      later : map (λ u. (request B new u).answer) ws ≡ map (λ u. (request B img u).answer) ws
      later = ap (λ (f : Write → Answer). map f ws) (fun_ext same)

  -- writes by name are writes to slots
  after_is : (ws : List Write) (img : List ℕ) → check B img ≡ consistent → Sound B (view B img) → after B img ws ≡ run (files_of B (view B img)) img (map (put_of B (view B img)) ws)
  unfolding after
  after_is [] img passed ok = refl
  after_is (w ∷ ws) img passed ok =
      after_is ws (request B img w).image (request-check img passed ok w) (request-sound img passed ok w)
      ∙ ap₂ (λ (x : View) (y : List ℕ). run (files_of B x) y (map (put_of B x) ws)) (request-view img passed ok w) (request-image B img passed w)

  module _ (img : List ℕ) (passed : check B img ≡ consistent) where
    abbrev v : View
    v = view B img

    -- a write covers bytes of a name exactly where it covers those of the file that has it
    covers-is : (ok : Sound B (view B img)) (w : Write) (nm : List ℕ) (s p : ℕ) → File B v s → T (same_name (name v s) nm) → covers_at B img w nm p ≡ covers (files_of B v) (put_of B v w) s p
    unfolding covers_at put_of
    covers-is ok w nm s p f same =
        ap (λ (c : ℕ). same_name w.name nm && (leb w.offset p && ltb p (w.offset + c))) (request-count B img passed w)
        ∙ iff-eq (same_name w.name nm && within) (eqb (slot_for B v w.name) s && within)
        (λ t.
        let u : T within = and_r (same_name w.name nm) within t in
        let hit : File B v (slot_for B v w.name) = has B img (slot_for B v w.name) p (reaches u) in
        let at : slot_of B v w.name ≡ s = slot_is B v w.name ok.apart s f (name-trans (name v s) nm w.name same (same-sym w.name nm (and_l (same_name w.name nm) within t))) in
        and-of (eqb (slot_for B v w.name) s) within (eqb_of ((slot_for-hit B v w.name hit.slot).1 ∙ at)) u)
        (λ t.
        let e : slot_for B v w.name ≡ s = eqb→eq (slot_for B v w.name) s (and_l (eqb (slot_for B v w.name) s) within t) in
        let at : slot_of B v w.name ≡ s = sym (slot_for-hit B v w.name (subst (λ (x : ℕ). x < slots B) (sym e) f.slot)).1 ∙ e in
        let named : T (same_name (name v s) w.name) = subst (λ (x : ℕ). T (same_name (name v x) w.name)) at (slot-hit B v w.name (subst (λ (x : ℕ). x < slots B) (sym at) f.slot)).1 in
        and-of (same_name w.name nm) within (name-trans w.name (name v s) nm (same-sym (name v s) w.name named) same) (and_r (eqb (slot_for B v w.name) s) within t))
      where
        within : Bool
        within = leb w.offset p && ltb p (w.offset + length (effect (files_of B v) (put_of B v w)))

        reaches : T within → p < size v (slot_for B v w.name)
        reaches u =
            omega (arith, leb→le w.offset p (and_l (leb w.offset p) _ u), ltb→lt p _ (and_r (leb w.offset p) _ u), length-take (size v (slot_for B v w.name) - w.offset) w.bytes)

    last-is : (ok : Sound B (view B img)) (ws : List Write) (nm : List ℕ) (s p old : ℕ) → File B v s → T (same_name (name v s) nm) → last_at B img ws nm p old ≡ last_of (files_of B v) (map (put_of B v) ws) s p old
    unfolding last_at put_of
    last-is ok [] nm s p old f same = refl
    last-is ok (w ∷ ws) nm s p old f same =
        last-is ok ws nm s p (cond (covers_at B img w nm p) (get_or w.bytes (p - w.offset) 0) old) f same
        ∙ ap (λ (c : Bool). last_of (files_of B v) (map (put_of B v) ws) s p (cond c (get_or w.bytes (p - w.offset) 0) old)) (covers-is ok w nm s p f same)

  after-view : (ws : List Write) (img : List ℕ) → check B img ≡ consistent → Sound B (view B img) → view B (after B img ws) ≡ view B img
  unfolding after
  after-view [] img passed ok = refl
  after-view (w ∷ ws) img passed ok =
      after-view ws (request B img w).image (request-check img passed ok w) (request-sound img passed ok w) ∙ request-view img passed ok w

  after-length : (ws : List Write) (img : List ℕ) → check B img ≡ consistent → Sound B (view B img) → length (after B img ws) ≡ length img
  unfolding after
  after-length [] img passed ok = refl
  after-length (w ∷ ws) img passed ok =
      after-length ws (request B img w).image (request-check img passed ok w) (request-sound img passed ok w) ∙ request-length img passed ok w

module _ (B : ℕ) (pos : 0 < B) (img : List ℕ) (passed : check B img ≡ consistent) (ok : Sound B (view B img)) where
  -- at a position of the file in slot s, by any name that is the same as its own
  writes_bytes : (ws : List Write) (nm : List ℕ) (s p : ℕ) → T (same_name (name (view B img) s) nm) → p < size (view B img) s → get_or (after B img ws) (place B (view B img) s p) 0 ≡ last_at B img ws nm p (get_or img (place B (view B img) s p) 0)
  writes_bytes ws nm s p same l =
      ap (λ (x : List ℕ). get_or x (place B (view B img) s p) 0) (after_is B pos ws img passed ok)
      ∙ last-write (files_of B (view B img)) s p l (map (put_of B (view B img)) ws) img (laid B pos img ok)
      ∙ sym (last-is B pos img passed ok ws nm s p (get_or img (place B (view B img) s p) 0) (has B img s p l) same)

  pub writes-law : (ws : List Write) → WritesLaw B img ws
  writes-law ws =
      record {
        answered = answers-fixed B pos ws img passed ok;
        kept = after-view B pos ws img passed ok;
        bytes = λ s p l. writes_bytes ws (name (view B img) s) s p (name-refl (name (view B img) s)) l;
        others = λ q far.
            (ap (λ (x : List ℕ). get_or x q 0) (after_is B pos ws img passed ok) ∙ rest-kept (files_of B (view B img)) (map (put_of B (view B img)) ws) img q (λ s p l. far s p (has B img s p l) l));
        long = after-length B pos ws img passed ok;
        named = λ nm.
            (contents-in B (after B img ws) img nm (after-view B pos ws img passed ok)
            ∙ standing-map B (view B img) (after B img ws) img (slot_of B (view B img) nm) (laid_over nm)
            (content-by B (view B img) (after B img ws) img (slot_of B (view B img) nm) (λ p x. last_at B img ws nm p x)
            (λ p l. writes_bytes ws nm (slot_of B (view B img) nm) p (slot-hit B (view B img) nm (has B img (slot_of B (view B img) nm) p l).slot).1 l))
            ∙ ap (Option.map (laid_over nm)) (sym (contents-at B img nm)));
      }
    where
      laid_over : List ℕ → List ℕ → List ℕ
      laid_over nm old = table (λ p. last_at B img ws nm p (get_or old p 0)) 0 (length old)

-- two pieces have together the count of both joined
pieces-core : (size o : ℕ) (b c : List ℕ) → length (take (size - o) b) + length (take (size - (o + length (take (size - o) b))) c) ≡ length (take (size - o) (b ++ c))
pieces-core size o b c =
    omega (arith, length-take (size - o) b, length-take (size - (o + length (take (size - o) b))) c, length-take (size - o) (b ++ c), length-append b c)

module _ (B : ℕ) (pos : 0 < B) (h : List ℕ) where
  module _ (img : List ℕ) (passed : check B img ≡ consistent) (ok : Sound B (view B img)) (o : ℕ) (b : List ℕ) where
    abbrev F : Files
    F = files_of B (view B img)

    abbrev s : ℕ
    s = slot_for B (view B img) h

    abbrev img1 : List ℕ
    img1 = (request B img (wr h o b)).image

    count1 : count_of (request B img (wr h o b)).answer ≡ length (effect F (put s o b))
    unfolding put_of
    count1 = request-count B img passed (wr h o b)

    second-image : (c : List ℕ) (o1 : ℕ) → o1 ≡ o + length (effect F (put s o b)) → (request B img1 (wr h o1 c)).image ≡ (request B img (wr h o (b ++ c))).image
    unfolding put_of
    second-image c o1 e =
        request-image B img1 (request-check B pos img passed ok (wr h o b)) (wr h o1 c)
        ∙ ap (λ (x : View). step (files_of B x) img1 (put (slot_for B x h) o1 c)) (request-view B pos img passed ok (wr h o b))
        ∙ ap₂ (λ (x : List ℕ) (q : ℕ). step F x (put s q c)) (request-image B img passed (wr h o b)) e
        ∙ step-join F s o b c img
        ∙ sym (request-image B img passed (wr h o (b ++ c)))

    second-count : (c : List ℕ) (o1 : ℕ) → o1 ≡ o + length (effect F (put s o b)) → count_of (request B img (wr h o b)).answer + count_of (request B img1 (wr h o1 c)).answer ≡ count_of (request B img (wr h o (b ++ c))).answer
    unfolding put_of
    second-count c o1 e =
        ap₂ ◌+◌ count1
        (request-count B img1 (request-check B pos img passed ok (wr h o b)) (wr h o1 c)
        ∙ ap (λ (x : View). length (effect (files_of B x) (put (slot_for B x h) o1 c))) (request-view B pos img passed ok (wr h o b))
        ∙ ap (λ (q : ℕ). length (effect F (put s q c))) e)
        ∙ pieces-core (size (view B img) s) o b c
        ∙ sym (request-count B img passed (wr h o (b ++ c)))

  pub pieces-law : (bs : List (List ℕ)) (o : ℕ) (img : List ℕ) → check B img ≡ consistent → Sound B (view B img) → PiecesLaw B img h o bs
  unfolding pieces_image pieces_count put_of request
  pieces-law [] o img passed ok =
      record {
        image = sym (request-image B img passed (wr h o []) ∙ ap (λ (x : List ℕ). store_bytes (λ p. place B (view B img) (slot_for B (view B img) h) p) img o x) (take-nil (size (view B img) (slot_for B (view B img) h) - o)));
        count = sym (request-count B img passed (wr h o []) ∙ ap length (take-nil (size (view B img) (slot_for B (view B img) h) - o)));
      }
  pieces-law (b ∷ bs) o img passed ok =
      let new : List ℕ = (request B img (wr h o b)).image in
      let o1 : ℕ = o + count_of (request B img (wr h o b)).answer in
      let e : o1 ≡ o + length (effect (files_of B (view B img)) (put (slot_for B (view B img) h) o b)) = ap (λ (x : ℕ). o + x) (count1 img passed ok o b) in
      let r : PiecesLaw B new h o1 bs = pieces-law bs o1 new (request-check B pos img passed ok (wr h o b)) (request-sound B pos img passed ok (wr h o b)) in
      record {
        image = r.image ∙ second-image img passed ok o b (joined bs) o1 e;
        count = ap (λ (x : ℕ). count_of (request B img (wr h o b)).answer + x) r.count ∙ second-count img passed ok o b (joined bs) o1 e;
      }
