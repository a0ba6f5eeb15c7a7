-- The stores of one request on two images: of images that differ in what is ignored they have the same numbers, of images with one volume the same bytes too.
use Rattle.std.specs.Prelude.{◌≡◌, Bool, not, cond, length, get_or, drop, T}
use Rattle.std.proofs.Common.{sym, ap, ◌∙◌, arith}
use Rattle.std.proofs.Math.Path.{subst}
use Prim.Native.Nat.{ℕ, ◌+◌, ◌-◌, ◌*◌, ◌/◌, ◌%◌, ◌<◌}
use mathlib.Core.List.{List, [], ◌++◌}
use Rattle.list_laws.specs.Test.{by-test, cond_no}
use Rattle.list_laws.specs.Sum.{sum-cong}
use Rattle.tfs_spec.specs.Layout.{BlockSize, need, block, map_bit, View, view, inode_number, number, place}
use Rattle.tfs_spec.specs.Consistent.{Consistent}
use Rattle.tfs_spec.specs.Requests.{Answer, value, granted, Outcome, Change, writes, perform, stores_of, kth, fetch}
use Rattle.tfs_spec.specs.Answers.{Stands, holds_part, Nth, KthBlock, content-block, inode-block, map-block, directory-block, directory-first, map-second, met-block, store_count}
use Rattle.tfs_spec.specs.Effects.{SameRead, SameVolume}
use Rattle.tfs_facts.specs.CheckMeans.{check-means}
use Rattle.tfs_facts.specs.Views.{view-n}
use Rattle.tfs_proofs.specs.Storing.{stored, lacks, missing, none-missing, fetch-none, fetch-some, fetch-buffer, store-law}
use Rattle.tfs_proofs.specs.Fetching.{kth-block, kth-is}
use Rattle.tfs_proofs.specs.Kept.{granted-passed}
use Rattle.tfs_proofs.specs.Places.{blocks-eq}
use Rattle.tfs_proofs.specs.Ignored.{Alike, alike, free-alike, name-alike, size-alike, number-alike}
use Rattle.tfs_proofs.specs.Tail.{view-same, block_same}

-- ---- two views that differ at most in what is ignored
module _ (B : ℕ) (v w : View) (al : Alike B v w) where
  nth-to : (k b : ℕ) → b < v.n → Nth (λ i. not (map_bit v.map i)) k b → Nth (λ i. not (map_bit w.map i)) k b
  nth-to k b h n = record {
    holds = subst (λ (x : Bool). T (not x)) (al.bits b h) n.holds;
    before = sym (sum-cong (λ i. cond (not (map_bit v.map i)) 1 0) (λ i. cond (not (map_bit w.map i)) 1 0) b (λ i l. ap (λ (x : Bool). cond (not x) 1 0) (al.bits i (omega arith)))) ∙ n.before;
  }

  stands-to : (nm : List ℕ) (s : ℕ) → Stands B v nm s → Stands B w nm s
  stands-to nm s st = record {
    file = record { slot = st.file.slot; taken = subst (λ (x : Bool). T (not x)) (free-alike B v w al s st.file.slot) st.file.taken };
    named = sym (name-alike B v w al s st.file.slot) ∙ st.named;
  }

  held_to : (s o c k i : ℕ) → Nth (λ j. holds_part B (place B v s) o c (number v s j)) k i → Nth (λ j. holds_part B (place B w s) o c (number w s j)) k i
  unfolding place number
  held_to s o c k i n =
      subst (λ (x : List (List ℕ)). Nth (λ j. holds_part B (λ p. inode_number (get_or x s []) (p / B) * B + p % B) o c (inode_number (get_or x s []) j)) k i) al.inodes n

  kth-to : (c : Change) (k b : ℕ) → KthBlock B v c k b → KthBlock B w c k b
  kth-to _ _ _ (content-block nm z k b l h low n) = content-block nm z k b l h (subst (λ (x : ℕ). b < x) al.n low) (nth-to k b low n)
  kth-to _ _ _ (inode-block nm z b low n) = inode-block nm z b (subst (λ (x : ℕ). b < x) al.n low) (nth-to 0 b low n)
  kth-to _ _ _ (map-block nm z) = map-block nm z
  kth-to _ _ _ (directory-block nm z) = directory-block nm z
  kth-to _ _ _ (directory-first nm) = directory-first nm
  kth-to _ _ _ (map-second nm) = map-second nm
  kth-to _ _ _ (met-block nm o bs s c i k st e l h n) =
      subst (KthBlock B w (writes nm o bs) k) (sym (number-alike B v w al s i))
      (met-block nm o bs s c i k (stands-to nm s st) (e ∙ ap (λ (z : ℕ). Prim.Native.Nat.min (length bs) (z - o)) (size-alike B v w al s)) l (subst (λ (z : ℕ). i < need B z) (size-alike B v w al s) h) (held_to s o c (k - 1) i n))

-- ---- answers
pub fetch-refused : (B : ℕ) (img : List ℕ) (c : Change) (k : ℕ) (buf : List ℕ) → T (not (granted (perform B img c).answer)) → fetch B img c k buf ≡ record { answer = (perform B img c).answer; image = img; buffer = buf }
unfolding fetch
fetch-refused B img c k buf t = cond_no (granted (perform B img c).answer) _ _ t

-- a refused fetch keeps the buffer
pub fetch-kept : (B : ℕ) (img : List ℕ) (c : Change) (k : ℕ) (buf : List ℕ) → T (not (granted (fetch B img c k buf).answer)) → (fetch B img c k buf).buffer ≡ buf
fetch-kept B img c k buf r =
    by-test (granted (perform B img c).answer)
    (λ g.
    by-test (missing B img c g k buf)
    (λ t. ap (λ (o : Outcome). o.buffer) (fetch-none B img c g k buf t))
    (λ t. absurd (subst (λ (o : Outcome). T (not (granted o.answer))) (fetch-some B img c g k buf t) r)))
    (λ t. ap (λ (o : Outcome). o.buffer) (fetch-refused B img c k buf t))

module _ (B : ℕ) (sz : BlockSize B) (a b : List ℕ) (c : Change) (same : (perform B a c).answer ≡ (perform B b c).answer) (to : Consistent B a → (k x : ℕ) → KthBlock B (view B a) c k x → KthBlock B (view B b) c k x) (k : ℕ) (buf : List ℕ) where
  module _ (ga : T (granted (perform B a c).answer)) where
    gb : T (granted (perform B b c).answer)
    gb = subst (λ (x : Answer). T (granted x)) same ga

    oka : Consistent B a
    oka = (check-means B sz a).0 (granted-passed B a c ga)

    okb : Consistent B b
    okb = (check-means B sz b).0 (granted-passed B b c gb)

    counts_same : length (stores_of B a c) ≡ length (stores_of B b c)
    counts_same = (stored B sz a oka c ga).number ∙ ap (store_count B c) same ∙ sym (stored B sz b okb c gb).number

    missing-same : missing B a c ga k buf ≡ missing B b c gb k buf
    missing-same = ap (λ (n : ℕ). lacks k n (length buf) B) counts_same

    at_same : T (not (missing B a c ga k buf)) → (kth k (stores_of B a c)).at ≡ (kth k (stores_of B b c)).at
    at_same t =
        let i = none-missing k (length (stores_of B a c)) (length buf) B t in
        let n : length (stores_of B a c) ≡ store_count B c (perform B a c).answer = (stored B sz a oka c ga).number in
        let m : length (stores_of B b c) ≡ store_count B c (perform B b c).answer = (stored B sz b okb c gb).number in
        sym (kth-is B sz b okb c k (kth k (stores_of B a c)).at (to oka k (kth k (stores_of B a c)).at (kth-block B sz a oka c ga k i.0 (omega (arith, i.1, n)))) gb (omega (arith, i.1, counts_same, m)))

  answers-same : (fetch B a c k buf).answer ≡ (fetch B b c k buf).answer
  answers-same =
      by-test (granted (perform B a c).answer)
      (λ g.
      by-test (missing B a c g k buf)
      (λ t.
      ap (λ (o : Outcome). o.answer) (fetch-none B a c g k buf t) ∙ sym (ap (λ (o : Outcome). o.answer) (fetch-none B b c (gb g) k buf (subst T (missing-same g) t))))
      (λ t.
      ap (λ (o : Outcome). o.answer) (fetch-some B a c g k buf t) ∙ ap value (at_same g t) ∙ sym (ap (λ (o : Outcome). o.answer) (fetch-some B b c (gb g) k buf (subst (λ (x : Bool). T (not x)) (missing-same g) t)))))
      (λ t.
      ap (λ (o : Outcome). o.answer) (fetch-refused B a c k buf t) ∙ same ∙ sym (ap (λ (o : Outcome). o.answer) (fetch-refused B b c k buf (subst (λ (x : Answer). T (not (granted x))) same t))))

  -- where the blocks after the request are the same, so is the buffer
  buffers-same : ((x : ℕ) → Consistent B a → x < (view B a).n → block B (perform B a c).image x ≡ block B (perform B b c).image x) → (fetch B a c k buf).buffer ≡ (fetch B b c k buf).buffer
  buffers-same blocks-same =
      by-test (granted (perform B a c).answer)
      (λ g.
      by-test (missing B a c g k buf)
      (λ t. ap (λ (o : Outcome). o.buffer) (fetch-none B a c g k buf t) ∙ sym (ap (λ (o : Outcome). o.buffer) (fetch-none B b c (gb g) k buf (subst T (missing-same g) t))))
      (λ t.
      let i = none-missing k (length (stores_of B a c)) (length buf) B t in
      fetch-buffer B sz a (oka g) c g k buf t
      ∙ ap (λ (y : List ℕ). y ++ drop B buf)
      (blocks-same (kth k (stores_of B a c)).at (oka g) (subst (λ (n : ℕ). (kth k (stores_of B a c)).at < n) (sym (view-n B a)) ((store-law B sz a (oka g) c g).inside k i.0 i.1))
      ∙ ap (block B (perform B b c).image) (at_same g t))
      ∙ sym (fetch-buffer B sz b (okb g) c (gb g) k buf (subst (λ (x : Bool). T (not x)) (missing-same g) t))))
      (λ t. ap (λ (o : Outcome). o.buffer) (fetch-refused B a c k buf t) ∙ sym (ap (λ (o : Outcome). o.buffer) (fetch-refused B b c k buf (subst (λ (x : Answer). T (not (granted x))) same t))))

-- ---- the two kinds of pairs of images
pub fetch-ignored : (B : ℕ) → BlockSize B → (a b : List ℕ) → SameRead B a b → (c : Change) → (perform B a c).answer ≡ (perform B b c).answer → (k : ℕ) (buf : List ℕ) → (fetch B a c k buf).answer ≡ (fetch B b c k buf).answer
fetch-ignored B sz a b same c e k buf = answers-same B sz a b c e (λ ok. kth-to B (view B a) (view B b) (alike B sz a b same) c) k buf

module _ (B : ℕ) (sz : BlockSize B) (a b : List ℕ) (same : SameVolume B a b) (c : Change) (e : (perform B a c).answer ≡ (perform B b c).answer) (k : ℕ) (buf : List ℕ) where
  to-volume : Consistent B a → (k x : ℕ) → KthBlock B (view B a) c k x → KthBlock B (view B b) c k x
  to-volume ok k x h = subst (λ (v : View). KthBlock B v c k x) (view-same sz a b same ok.long) h

  pub fetch-unread : SameVolume B (perform B a c).image (perform B b c).image → length (perform B a c).image ≡ length a → ((fetch B a c k buf).answer ≡ (fetch B b c k buf).answer) × ((fetch B a c k buf).buffer ≡ (fetch B b c k buf).buffer)
  fetch-unread after long = (
    answers-same B sz a b c e to-volume k buf,
    buffers-same B sz a b c e to-volume k buf (λ x ok l. block_same sz (perform B a c).image (perform B b c).image after x (subst (λ (n : ℕ). x < n) (view-n B a ∙ sym (blocks-eq B (perform B a c).image a long)) l)),
  )
