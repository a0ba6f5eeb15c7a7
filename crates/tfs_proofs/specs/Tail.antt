-- Bytes past the last block of the volume are never read and never changed.
use Rattle.std.specs.Prelude.{◌≡◌, refl, Bool, true, false, not, set, leb, ltb}
use Rattle.std.proofs.Math.Path.{sym, ap, ap₂, subst}
use Rattle.std.proofs.Common.{◌∙◌, subst₂, arith, length-set, get_or-set_same, get_or-set_other, T_not, ltb→lt}
use Rattle.std.proofs.Math.Bool.{cond}
use Prim.Native.Nat.{ℕ, suc, ◌+◌, ◌-◌, ◌*◌, ◌/◌, ◌≤◌, ◌<◌, min}
use mathlib.Core.List.{List, [], ◌∷◌, ◌++◌}
use Rattle.std.proofs.Math.Decide.{dec_le, dec_lt, ℕ_discrete}
use Rattle.std.proofs.Math.ListN.{length, get_or, take, drop, length-take}
use Rattle.std.proofs.Math.Seq.{ext_get_or}
use Rattle.std.proofs.Math.Dec.{T, lt→ltb}
use Rattle.list_laws.specs.Test.{by-test, and_r, cond_yes, cond_no, iff-eq}
use Rattle.lists.specs.Lists.{table, store_bytes, with_part}
use Rattle.list_laws.specs.Table.{table-cong}
use Rattle.list_laws.specs.Store.{length-store}
use Rattle.list_laws.specs.Part.{get_or-part, get_or-with-in, get_or-with-before, get_or-with-after}
use Rattle.tfs_spec.specs.Layout.{BlockSize, slots, blocks, block, set_block, slot, slot_inode, in_range, label_allowed, View, view, view_n, inode_at, size as file_size, number, place, free_blocks}
use Rattle.tfs_spec.specs.Check.{Verdict, consistent, broken, check, check_view, too_short}
use Rattle.tfs_spec.specs.Consistent.{Sound}
use Rattle.tfs_facts.specs.CheckMeans.{check-means}
use Rattle.tfs_spec.specs.Requests.{Answer, done, value, granted, Outcome, checked, refuse, Store, stored, store_all, format_stores, format, check_answer, create_stores, create_view, create, remove_stores, remove_view, remove, counted, read_buffer, read, write_image, write, list_view, list_answer, free_answer, refused}
use Rattle.tfs_facts.specs.Sizes.{after_block, in_image, in_block}
use Rattle.tfs_facts.specs.Views.{view-n}
use Rattle.tfs_proofs.specs.Ignored.{SameFill}
use Rattle.tfs_proofs.specs.Transfers.{slot_for, transfer_view, filled, written, read_as, write_as}
use Rattle.tfs_proofs.specs.Places.{blocks-eq, files_of, position}
use Rattle.tfs_proofs.specs.Writes.{step_other}
use Rattle.tfs_proofs.specs.WriteLists.{wr, request-image, request-length, put_of}
use Rattle.tfs_spec.specs.Laws.{request}
use Rattle.tfs_spec.specs.Effects.{Beyond, SameVolume}
use Rattle.tfs_facts.specs.Stores.{Fits, length-set_block, length-block, length-store_all, fits-up, stored_past}
use Rattle.tfs_proofs.specs.Formats.{format-fits, by-format, formatted-past, formatted-length}
use Rattle.tfs_proofs.specs.Creates.{create-grant}
use Rattle.tfs_proofs.specs.Changes.{remove-is, remove-granted}
use Rattle.tfs_proofs.specs.Kept.{volume-end, three, by-create, by-remove, by-write, create-fits, remove-fits}

-- a byte of a file lies inside the volume
place_inside : (B : ℕ) → 0 < B → (img : List ℕ) → Sound B (view B img) → (s p : ℕ) → p < file_size (view B img) s → place B (view B img) s p < blocks B img * B
unfolding place
place_inside B pos img ok s p l =
    let b : ℕ = number (view B img) s (p / B) in
    let h : b < blocks B img = subst (λ (n : ℕ). b < n) (view-n B img) (position B pos img ok s p l).high in
    omega (arith, after_block B b (blocks B img) h, in_block B pos p)

-- "Bytes from 512·N on are never .. changed", whatever the request and its answer
pub record TailKept (B : ℕ) (img : List ℕ) : Type 0 where
  pub formatted : (label : List ℕ) → Beyond B img (format B img label).image
  pub created : (nm : List ℕ) (sz : ℕ) → Beyond B img (create B img nm sz).image
  pub removed : (nm : List ℕ) → Beyond B img (remove B img nm).image
  pub written : (nm : List ℕ) (o : ℕ) (buf : List ℕ) → Beyond B img (write B img nm o buf).image

module _ (B : ℕ) (img : List ℕ) where
  beyond-same : Beyond B img img
  beyond-same = record { long = refl; bytes = λ q h. refl }

  beyond-stored : (xs : List Store) → Fits B (blocks B img * B) xs → Beyond B img (store_all B img xs)
  beyond-stored xs f =
      record {
        long = length-store_all B xs img (fits-up B (blocks B img * B) (length img) (volume-end B img) xs f);
        bytes = λ q h. stored_past B (blocks B img * B) xs img q f (volume-end B img) h;
      }

module _ {B : ℕ} (size : BlockSize B) (img : List ℕ) where
  pos : 0 < B
  pos = omega (arith, size.large)

  low_end : 3 * B ≤ length img → 3 * B ≤ blocks B img * B
  low_end h = omega (arith, after_block B 2 (blocks B img) (three B size img h))

  write-beyond : (nm : List ℕ) (o : ℕ) (buf : List ℕ) → check B img ≡ consistent → Beyond B img (write B img nm o buf).image
  unfolding request put_of
  write-beyond nm o buf e =
      let ok : Sound B (view B img) = ((check-means B size img).0 e).sound in
      record {
        long = request-length B pos img e ok (wr nm o buf);
        bytes = λ q l.
            (ap (λ (x : List ℕ). get_or x q 0) (request-image B img e (wr nm o buf))
            ∙ step_other (files_of B (view B img)) img (put_of B (view B img) (wr nm o buf)) q
            (λ p k d. omega (arith, place_inside B pos img ok (slot_for B (view B img) nm) p k)));
      }

  -- on every image, consistent or not
  pub tail-kept : TailKept B img
  tail-kept =
      record {
        formatted = λ label.
            by-format B img label (λ o. Beyond B img o.image) (λ _. beyond-same B img) (λ _. beyond-same B img)
            (λ h t. record { long = formatted-length B size img label h; bytes = λ q l. formatted-past B size img label h q (omega (arith, low_end h)) });
        created = λ nm sz.
            by-create B img nm sz (Beyond B img) (beyond-same B img) (λ e l. beyond-stored B img (create_stores B (view B img) nm sz) (create-fits size img nm sz e l));
        removed = λ nm.
            by-remove B img nm (Beyond B img) (beyond-same B img) (λ e l. beyond-stored B img (remove_stores B (view B img) nm) (remove-fits B size img ((check-means B size img).0 e) nm l));
        written = λ nm o buf. by-write B img nm o buf (Beyond B img) (beyond-same B img) (write-beyond nm o buf);
      }

-- "Bytes from 512·N on are never read": no answer, no buffer and no byte that a request leaves in the volume depends on them
pub record TailLaw (B : ℕ) (a b : List ℕ) : Type 0 where
  pub format-answer : (label : List ℕ) → (format B a label).answer ≡ (format B b label).answer
  pub check-answer : check_answer B a ≡ check_answer B b
  pub create-answer : (nm : List ℕ) (sz : ℕ) → (create B a nm sz).answer ≡ (create B b nm sz).answer
  pub remove-answer : (nm : List ℕ) → (remove B a nm).answer ≡ (remove B b nm).answer
  pub write-answer : (nm : List ℕ) (o : ℕ) (buf : List ℕ) → (write B a nm o buf).answer ≡ (write B b nm o buf).answer
  pub list-answer : (s : ℕ) → list_answer B a s ≡ list_answer B b s
  pub free-answer : free_answer B a ≡ free_answer B b
  -- answer and buffer
  pub read-outcome : (nm : List ℕ) (o : ℕ) (buf : List ℕ) → SameFill (read B a nm o buf) (read B b nm o buf)
  pub formatted : (label : List ℕ) → SameVolume B (format B a label).image (format B b label).image
  pub created : (nm : List ℕ) (sz : ℕ) → SameVolume B (create B a nm sz).image (create B b nm sz).image
  pub removed : (nm : List ℕ) → SameVolume B (remove B a nm).image (remove B b nm).image
  pub written : (nm : List ℕ) (o : ℕ) (buf : List ℕ) → SameVolume B (write B a nm o buf).image (write B b nm o buf).image

-- the blocks of a view decide it
view_n-same : (B n : ℕ) (a b : List ℕ) → 3 ≤ n → ((i : ℕ) → i < n → block B a i ≡ block B b i) → view_n B n a ≡ view_n B n b
unfolding view_n inode_at
view_n-same B n a b three same =
    λ i. record { n = n; head = same 0 (omega arith) i; map = same 1 (omega arith) i; dir = same 2 (omega arith) i; inodes = inodes i }
  where
    at : (s : ℕ) → inode_at B n a s ≡ inode_at B n b s
    at s =
        let i : ℕ = slot_inode (slot (block B b 2) s) in
        ap (λ (d : List ℕ). cond (in_range n (slot_inode (slot d s))) (block B a (slot_inode (slot d s))) []) (same 2 (omega arith))
        ∙ by-test (in_range n i)
        (λ t. ap (λ (x : List ℕ). cond (in_range n i) x []) (same i (ltb→lt i n (and_r (leb 3 i) (ltb i n) t))))
        (λ t. cond_no {X = List ℕ} (in_range n i) (block B a i) [] t ∙ sym (cond_no {X = List ℕ} (in_range n i) (block B b i) [] t))

    inodes : table (inode_at B n a) 0 (slots B) ≡ table (inode_at B n b) 0 (slots B)
    inodes = table-cong (inode_at B n a) (inode_at B n b) 0 (slots B) (λ s h l. at s)

-- ---- stores to two images
-- the bytes below an end are the same
abbrev Agree : ℕ → List ℕ → List ℕ → Type 0
Agree end a b = (i : ℕ) → i < end → get_or a i 0 ≡ get_or b i 0

agree-block : (B end : ℕ) (a b : List ℕ) (c : ℕ) (bs : List ℕ) → length bs ≡ B → c * B + B ≤ end → end ≤ length a → end ≤ length b → Agree end a b → Agree end (set_block B a c bs) (set_block B b c bs)
unfolding set_block
agree-block B end a b c bs e h la lb same i l =
    elim (dec_lt i (c * B)) [
      | yes k ↦ get_or-with-before (c * B) B bs a e (omega arith) i k ∙ same i l ∙ sym (get_or-with-before (c * B) B bs b e (omega arith) i k)
      | no k ↦
          elim (dec_lt i (c * B + B)) [
            | yes m ↦
                let at : c * B + (i - c * B) ≡ i = omega arith in
                subst (λ (j : ℕ). get_or (with_part (c * B) B bs a) j 0 ≡ get_or (with_part (c * B) B bs b) j 0) at
                (get_or-with-in (c * B) B bs a e (omega arith) (i - c * B) (omega arith) ∙ sym (get_or-with-in (c * B) B bs b e (omega arith) (i - c * B) (omega arith)))
            | no m ↦
                get_or-with-after (c * B) B bs a e (omega arith) i (omega arith) ∙ same i l ∙ sym (get_or-with-after (c * B) B bs b e (omega arith) i (omega arith))
          ]
    ]

agree-stores : (B end : ℕ) (xs : List Store) (a b : List ℕ) → Fits B end xs → end ≤ length a → end ≤ length b → Agree end a b → Agree end (store_all B a xs) (store_all B b xs)
agree-stores B end [] a b f la lb same = same
agree-stores B end (x ∷ xs) a b f la lb same =
    agree-stores B end xs (set_block B a x.at x.bytes) (set_block B b x.at x.bytes) f.1.1
    (omega (arith, f.1.0, length-set_block B a x.at x.bytes f.0 (omega (arith, f.1.0))))
    (omega (arith, f.1.0, length-set_block B b x.at x.bytes f.0 (omega (arith, f.1.0))))
    (agree-block B end a b x.at x.bytes f.0 f.1.0 la lb same)

agree-set : (end : ℕ) (a b : List ℕ) (j x : ℕ) → j < end → end ≤ length a → end ≤ length b → Agree end a b → Agree end (set a j x) (set b j x)
agree-set end a b j x h la lb same i l =
    elim (ℕ_discrete i j) [
      | yes e ↦
          subst (λ (k : ℕ). get_or (set a j x) k 0 ≡ get_or (set b j x) k 0) (sym e)
          (get_or-set_same a j x 0 (omega arith) ∙ sym (get_or-set_same b j x 0 (omega arith)))
      | no e ↦ get_or-set_other a j i x 0 e ∙ same i l ∙ sym (get_or-set_other b j i x 0 e)
    ]

agree-bytes : (at : ℕ → ℕ) (end : ℕ) (bs a b : List ℕ) (o : ℕ) → ((p : ℕ) → o ≤ p → p < o + length bs → at p < end) → end ≤ length a → end ≤ length b → Agree end a b → Agree end (store_bytes at a o bs) (store_bytes at b o bs)
agree-bytes at end [] a b o low la lb same = same
agree-bytes at end (x ∷ bs) a b o low la lb same =
    agree-bytes at end bs (set a (at o) x) (set b (at o) x) (suc o) (λ p h l. low p (omega arith) (omega arith))
    (rw length-set la) (rw length-set lb) (agree-set end a b (at o) x (low o (omega arith) (omega arith)) la lb same)

-- an answer does not tell the image
-- what format answers is told by length and label
pub format-answer : (B : ℕ) (a b label : List ℕ) → too_short B a ≡ too_short B b → (format B a label).answer ≡ (format B b label).answer
unfolding format
format-answer B a b label e =
    ap (λ (x : Bool). (cond x (refuse a [] 1 0) (cond (not (label_allowed label)) (refuse a [] 8 0) (after a))).answer) e ∙ still (too_short B b) (not (label_allowed label))
  where
    after : List ℕ → Outcome
    after img = record { answer = done; image = store_all B img (format_stores B label); buffer = [] }

    still : (x y : Bool) → (cond x (refuse a [] 1 0) (cond y (refuse a [] 8 0) (after a))).answer ≡ (cond x (refuse b [] 1 0) (cond y (refuse b [] 8 0) (after b))).answer
    still true y = refl
    still false true = refl
    still false false = refl

outcome-answer : (x : Verdict) (img : List ℕ) (o : Outcome) → (checked x (refuse img []) o).answer ≡ checked x refused o.answer
outcome-answer consistent img o = refl
outcome-answer (broken num p) img o = refl

-- as many blocks, and three or more, is long enough
pub long-enough : (B : ℕ) → BlockSize B → (a b : List ℕ) → blocks B a ≡ blocks B b → 3 * B ≤ length a → 3 * B ≤ length b
long-enough B size a b e h = omega (arith, in_image B 2 b (omega (arith, three B size a h)))

module _ {B : ℕ} (size : BlockSize B) (a b : List ℕ) (same : SameVolume B a b) where
  pub block_same : (i : ℕ) → i < blocks B a → block B a i ≡ block B b i
  unfolding block
  block_same i h =
      let la : length (block B a i) ≡ B = length-block B a i (in_image B i a h) in
      let lb : length (block B b i) ≡ B = length-block B b i (in_image B i b (subst (λ (n : ℕ). i < n) same.n h)) in
      ext_get_or 0 (block B a i) (block B b i) (la ∙ sym lb)
      (λ j l.
      get_or-part (i * B) B a j (omega arith)
      ∙ same.bytes (i * B + j) (omega (arith, after_block B i (blocks B a) h))
      ∙ sym (get_or-part (i * B) B b j (omega arith)))

  -- every block that a view holds lies below N
  pub view-same : 3 * B ≤ length a → view B a ≡ view B b
  unfolding view
  view-same h = view_n-same B (blocks B a) a b (three B size a h) block_same ∙ ap (λ (n : ℕ). view_n B n b) same.n

  -- N tells whether an image is too short
  pub short-alike : too_short B a ≡ too_short B b
  unfolding too_short
  short-alike =
      iff-eq (ltb (length a) (3 * B)) (ltb (length b) (3 * B))
      (λ t. short b a (sym same.n) (ltb→lt (length a) (3 * B) t))
      (λ t. short a b same.n (ltb→lt (length b) (3 * B) t))
    where
      short : (x y : List ℕ) → blocks B x ≡ blocks B y → length y < 3 * B → T (ltb (length x) (3 * B))
      short x y e h =
          elim (dec_le (3 * B) (length x)) [ yes l ↦ absurd (omega (arith, long-enough B size x y e l)) | no l ↦ lt→ltb (length x) (3 * B) (omega arith) ]

  -- one volume, one verdict
  pub check-alike : check B a ≡ check B b
  unfolding check too_short
  check-alike =
      elim (dec_le (3 * B) (length a)) [
        | yes h ↦ ap₂ (λ (x : Bool) (v : View). cond x (broken 1 0) (check_view B v)) short-alike (view-same h)
        | no h ↦
            cond_yes (too_short B a) (broken 1 0) (check_view B (view B a)) (is-short h)
            ∙ sym (cond_yes (too_short B b) (broken 1 0) (check_view B (view B b)) (subst T short-alike (is-short h)))
      ]
    where
      is-short : (3 * B ≤ length a → ⊥) → T (too_short B a)
      is-short h = lt→ltb (length a) (3 * B) (omega arith)

  -- what is made of verdict and view, and after a refusal of the verdict alone
  alike {ℓ} : {X : Type ℓ} (g : Verdict → View → X) → ((num p : ℕ) (v w : View) → g (broken num p) v ≡ g (broken num p) w) → g (check B a) (view B a) ≡ g (check B b) (view B b)
  alike g still = go (check B a) refl
    where
      go : (verdict : Verdict) → check B a ≡ verdict → g (check B a) (view B a) ≡ g (check B b) (view B b)
      go consistent e = ap₂ g check-alike (view-same ((check-means B size a).0 e).long)
      go (broken num p) e =
          ap (λ (x : Verdict). g x (view B a)) e ∙ still num p (view B a) (view B b) ∙ ap (λ (x : Verdict). g x (view B b)) (sym e ∙ check-alike)

  abbrev pub end : ℕ
  end = blocks B b * B

  end-a : end ≤ length a
  end-a = rw (← same.n) (volume-end B a)

  agree : Agree end a b
  agree i h = same.bytes i (rw same.n h)

  -- two images after
  same_after : (a' b' : List ℕ) → length a' ≡ length a → length b' ≡ length b → Agree end a' b' → SameVolume B a' b'
  same_after a' b' la lb g =
      let n : blocks B a' ≡ blocks B b = blocks-eq B a' a la ∙ same.n in
      record { n = n ∙ sym (blocks-eq B b' b lb); bytes = λ i h. g i (rw n at h) }

  pub same-stored : (xs : List Store) → Fits B end xs → SameVolume B (store_all B a xs) (store_all B b xs)
  same-stored xs f =
      same_after (store_all B a xs) (store_all B b xs)
      (length-store_all B xs a (fits-up B end (length a) end-a xs f)) (length-store_all B xs b (fits-up B end (length b) (volume-end B b) xs f))
      (agree-stores B end xs a b f end-a (volume-end B b) agree)

  same_outcome : (verdict : Verdict) (x : Answer) (xs : List Store) → (verdict ≡ consistent → T (granted x) → Fits B end xs) → SameVolume B (checked verdict (refuse a []) (stored B a x xs)).image (checked verdict (refuse b []) (stored B b x xs)).image
  same_outcome consistent x xs f = go (granted x) (λ e. f refl e)
    where
      go : (g : Bool) → (T g → Fits B end xs) → SameVolume B (cond g (store_all B a xs) a) (cond g (store_all B b xs) b)
      go true f = same-stored xs (f tt)
      go false f = same
  same_outcome (broken num p) x xs f = same

  format-same : (label : List ℕ) → SameVolume B (format B a label).image (format B b label).image
  format-same label =
      by-format B a label (λ o. SameVolume B o.image (format B b label).image)
      (λ s. by-format B b label (λ o. SameVolume B a o.image) (λ _. same) (λ _. same) (λ h t. absurd (omega (arith, long-enough B size b a (sym same.n) h))))
      (λ u. by-format B b label (λ o. SameVolume B a o.image) (λ _. same) (λ _. same) (λ h t. absurd (T_not (label_allowed label) u t)))
      (λ h t.
      by-format B b label (λ o. SameVolume B (store_all B a (format_stores B label)) o.image) (λ s. absurd (omega (arith, long-enough B size a b same.n h))) (λ u. absurd (T_not (label_allowed label) u t))
      (λ k _. same-stored (format_stores B label) (fits-up B (3 * B) end (low_end size b k) (format_stores B label) (format-fits B size label))))

  create-same : (nm : List ℕ) (sz : ℕ) → SameVolume B (create B a nm sz).image (create B b nm sz).image
  unfolding create
  create-same nm sz =
      subst (λ (x : List ℕ). SameVolume B x (create B b nm sz).image)
      (sym (alike (λ (x : Verdict) (v : View). (checked x (refuse a []) (stored B a (create_view B v nm sz) (create_stores B v nm sz))).image) (λ num p v w. refl)))
      (same_outcome (check B b) (create_view B (view B b) nm sz) (create_stores B (view B b) nm sz)
      (λ e g. create-fits size b nm sz e (create-grant B (view B b) nm sz g)))

  remove-same : (nm : List ℕ) → SameVolume B (remove B a nm).image (remove B b nm).image
  unfolding remove
  remove-same nm =
      subst (λ (x : List ℕ). SameVolume B x (remove B b nm).image)
      (sym (alike (λ (x : Verdict) (v : View). (checked x (refuse a []) (stored B a (remove_view B v nm) (remove_stores B v nm))).image) (λ num p v w. refl)))
      (same_outcome (check B b) (remove_view B (view B b) nm) (remove_stores B (view B b) nm)
      (λ e g. remove-fits B size b ((check-means B size b).0 e) nm (remove-granted B b e nm (subst (λ (o : Outcome). T (granted o.answer)) (sym (remove-is B b e nm)) g))))

  module _ (nm : List ℕ) (o : ℕ) (buf : List ℕ) where
    -- a position that a transfer reaches is one of its file
    reached : Sound B (view B b) → (s c p : ℕ) → c ≤ file_size (view B b) s - o → o ≤ p → p < o + c → place B (view B b) s p < end
    reached ok s c p k l m = place_inside B (pos size b) b ok s p (omega arith)

    same_write : Sound B (view B b) → (s : ℕ) → SameVolume B (write_image B (view B b) a s o buf) (write_image B (view B b) b s o buf)
    unfolding write_image counted
    same_write ok s =
        let bs : List ℕ = take (min (length buf) (file_size (view B b) s - o)) buf in
        same_after (store_bytes (place B (view B b) s) a o bs) (store_bytes (place B (view B b) s) b o bs)
        (length-store (place B (view B b) s) bs a o) (length-store (place B (view B b) s) bs b o)
        (agree-bytes (place B (view B b) s) end bs a b o
        (λ p l m. reached ok s (length bs) p (omega (arith, length-take (min (length buf) (file_size (view B b) s - o)) buf)) l m)
        end-a (volume-end B b) agree)

    same_read : Sound B (view B b) → (s : ℕ) → read_buffer B (view B b) a s o buf ≡ read_buffer B (view B b) b s o buf
    unfolding read_buffer counted
    same_read ok s =
        let c : ℕ = min (length buf) (file_size (view B b) s - o) in
        ap (λ (x : List ℕ). x ++ drop c buf)
        (table-cong (λ p. get_or a (place B (view B b) s p) 0) (λ p. get_or b (place B (view B b) s p) 0) o c
        (λ p l m. agree (place B (view B b) s p) (reached ok s c p (omega arith) l m)))

    write_same : SameVolume B (write B a nm o buf).image (write B b nm o buf).image
    write_same =
        subst₂ (λ (x y : Outcome). SameVolume B x.image y.image) (sym (write_as B a nm o buf)) (sym (write_as B b nm o buf))
        (subst (λ (x : List ℕ). SameVolume B x (written B nm o buf b (check B b) (view B b)).image) (sym (alike (λ (x : Verdict) (v : View). (written B nm o buf a x v).image) (λ num p v w. refl)))
        (go (check B b) refl))
      where
        put : Sound B (view B b) → (g : Bool) → SameVolume B (cond g (write_image B (view B b) a (slot_for B (view B b) nm) o buf) a) (cond g (write_image B (view B b) b (slot_for B (view B b) nm) o buf) b)
        put ok true = same_write ok (slot_for B (view B b) nm)
        put ok false = same

        go : (x : Verdict) → check B b ≡ x → SameVolume B (written B nm o buf a x (view B b)).image (written B nm o buf b x (view B b)).image
        go consistent e = put ((check-means B size b).0 e).sound (granted (transfer_view B (view B b) nm o (length buf)))
        go (broken num p) e = same

    read_same : SameFill (read B a nm o buf) (read B b nm o buf)
    read_same =
        subst₂ SameFill (sym (read_as B a nm o buf ∙ alike (filled B nm o buf a) (λ num p v w. refl))) (sym (read_as B b nm o buf)) (go (check B b) refl)
      where
        go : (x : Verdict) → check B b ≡ x → SameFill (filled B nm o buf a x (view B b)) (filled B nm o buf b x (view B b))
        go consistent e =
            (refl, ap (λ (x : List ℕ). cond (granted (transfer_view B (view B b) nm o (length buf))) x buf) (same_read ((check-means B size b).0 e).sound (slot_for B (view B b) nm)))
        go (broken num p) e = (refl, refl)

  -- on every two images with one volume, consistent or not
  pub tail-unread : TailLaw B a b
  unfolding check_answer create remove list_answer free_answer
  tail-unread =
      record {
        format-answer = λ label. format-answer B a b label short-alike;
        check-answer = alike (λ (x : Verdict) (v : View). checked x refused done) (λ num p v w. refl);
        create-answer = λ nm sz.
            (outcome-answer (check B a) a (stored B a (create_view B (view B a) nm sz) (create_stores B (view B a) nm sz))
            ∙ alike (λ (x : Verdict) (v : View). checked x refused (create_view B v nm sz)) (λ num p v w. refl)
            ∙ sym (outcome-answer (check B b) b (stored B b (create_view B (view B b) nm sz) (create_stores B (view B b) nm sz))));
        remove-answer = λ nm.
            (outcome-answer (check B a) a (stored B a (remove_view B (view B a) nm) (remove_stores B (view B a) nm))
            ∙ alike (λ (x : Verdict) (v : View). checked x refused (remove_view B v nm)) (λ num p v w. refl)
            ∙ sym (outcome-answer (check B b) b (stored B b (remove_view B (view B b) nm) (remove_stores B (view B b) nm))));
        write-answer = λ nm o buf.
            (ap (λ (x : Outcome). x.answer) (write_as B a nm o buf)
            ∙ outcome-answer (check B a) a _
            ∙ alike (λ (x : Verdict) (v : View). checked x refused (transfer_view B v nm o (length buf))) (λ num p v w. refl)
            ∙ sym (outcome-answer (check B b) b _)
            ∙ sym (ap (λ (x : Outcome). x.answer) (write_as B b nm o buf)));
        list-answer = λ s. alike (λ (x : Verdict) (v : View). checked x refused (list_view B v s)) (λ num p v w. refl);
        free-answer = alike (λ (x : Verdict) (v : View). checked x refused (value (B * free_blocks v))) (λ num p v w. refl);
        read-outcome = read_same;
        formatted = format-same;
        created = create-same;
        removed = remove-same;
        written = write_same;
      }
