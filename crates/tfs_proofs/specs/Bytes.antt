-- Requests leave bytes where they find bytes.
use Rattle.std.specs.Prelude.{◌≡◌, Bool, true, false, cond, length, set}
use Rattle.std.proofs.Common.{sym, arith, mul-le-mul_right}
use Rattle.std.proofs.Math.Path.{subst}
use Prim.Native.Nat.{ℕ, zero, suc, ◌-◌, ◌*◌, ◌/◌, ◌%◌, ◌≤◌, ◌<◌}
use mathlib.Core.List.{List, [], ◌∷◌, ◌++◌}
use Rattle.std.proofs.Math.ListN.{get_or, take, drop, get_or-eq_default}
use Rattle.lists.specs.Lists.{table, zeros, pad_to, bytes4, words, part, with_part, store_bytes}
use Rattle.list_laws.specs.Bits.{with-lt}
use Rattle.list_laws.specs.Test.{by-test, cond_yes, cond_no}
use Rattle.tfs_spec.specs.Layout.{BlockSize, max_size, blocks, block, set_block, magic, set_bit, set_bits, set_slot, entry, inode_block, View, view, size, slot_of, free_slot, place}
use Rattle.tfs_spec.specs.Check.{Verdict, consistent, broken, too_short, stray, check, file_claims}
use Rattle.tfs_spec.specs.Requests.{Answer, Outcome, counted, granted, refuse, checked, Store, store_all, format, format_stores, zero_stores, place_stores, create_stores, chosen, create, remove_stores, remove, read_buffer, read, write, Change, creates, removes, writes, perform, stores_of, kth, fetch, clear_strays, mended, mend}
use Rattle.tfs_spec.specs.Consistent.{Bytes}
use Rattle.tfs_spec.specs.Effects.{ByteRequest}
use Rattle.tfs_facts.specs.CheckMeans.{check-means}
use Rattle.tfs_facts.specs.Views.{view-n, view-map, view-dir}
use Rattle.tfs_facts.specs.Chosen.{CreateGrant, Choice, choice}
use Rattle.tfs_proofs.specs.Mending.{mend-image}
use Rattle.tfs_proofs.specs.Storing.{fetch-none, fetch-buffer, missing}
use Rattle.tfs_proofs.specs.FetchSame.{fetch-refused}
use Rattle.tfs_proofs.specs.Transfers.{slot_for, transfer_view, read_as}
use Rattle.tfs_proofs.specs.Numbers.{four_bytes}
use Rattle.tfs_proofs.specs.Formats.{by-format}
use Rattle.tfs_proofs.specs.Kept.{granted-passed, by-create, by-remove, by-write}
use Rattle.tfs_proofs.specs.WriteLists.{wr, put_of, request-image}
use Rattle.tfs_spec.specs.Laws.{request}

-- ---- lists of bytes
abbrev All : List ℕ → Type 0
All [] = Unit {0}
All (x ∷ xs) = (x < 256) × All xs

all_of : (l : List ℕ) → Bytes l → All l
all_of [] h = tt
all_of (x ∷ xs) h = (h 0, all_of xs (λ i. h (suc i)))

of-all : (l : List ℕ) → All l → Bytes l
of-all [] a i = omega (arith, get_or-eq_default {A = ℕ} [] 0 {n = i} (omega arith))
of-all (x ∷ xs) a zero = a.0
of-all (x ∷ xs) a (suc i) = of-all xs a.1 i

all_append : (a b : List ℕ) → All a → All b → All (a ++ b)
all_append [] b h k = k
all_append (x ∷ xs) b h k = (h.0, all_append xs b h.1 k)

all_take : (n : ℕ) (l : List ℕ) → All l → All (take n l)
all_take zero l h = tt
all_take (suc n) [] h = tt
all_take (suc n) (x ∷ xs) h = (h.0, all_take n xs h.1)

all_drop : (n : ℕ) (l : List ℕ) → All l → All (drop n l)
all_drop zero l h = h
all_drop (suc n) [] h = tt
all_drop (suc n) (x ∷ xs) h = all_drop n xs h.1

all_set : (l : List ℕ) (i x : ℕ) → x < 256 → All l → All (set l i x)
all_set [] i x h k = k
all_set (y ∷ ys) zero x h k = (h, k.1)
all_set (y ∷ ys) (suc i) x h k = (k.0, all_set ys i x h k.1)

all-zeros : (n : ℕ) → All (zeros n)
all-zeros zero = tt
all-zeros (suc n) = (omega arith, all-zeros n)

all-pad : (n : ℕ) (l : List ℕ) → All l → All (pad_to n l)
all-pad n l h = all_append (take n l) (zeros (n - length l)) (all_take n l h) (all-zeros (n - length l))

all-table : (f : ℕ → ℕ) (k d : ℕ) → ((p : ℕ) → f p < 256) → All (table f k d)
all-table f k zero h = tt
all-table f k (suc d) h = (h k, all-table f (suc k) d h)

all-part : (s n : ℕ) (l : List ℕ) → All l → All (part s n l)
unfolding part
all-part s n l h = all_take n (drop s l) (all_drop s l h)

all-with : (s n : ℕ) (p l : List ℕ) → All p → All l → All (with_part s n p l)
unfolding with_part
all-with s n p l h k = all_append (take s l) (p ++ drop n (drop s l)) (all_take s l k) (all_append p (drop n (drop s l)) h (all_drop n (drop s l) (all_drop s l k)))

all-store : (a : ℕ → ℕ) (bs img : List ℕ) (o : ℕ) → All bs → All img → All (store_bytes a img o bs)
all-store a [] img o h k = k
all-store a (b ∷ bs) img o h k = all-store a bs (set img (a o) b) (suc o) h.1 (all_set img (a o) b h.0 k)

-- ---- numbers
abbrev Small : List ℕ → Type 0
Small [] = Unit {0}
Small (n ∷ ns) = (n < 4294967296) × Small ns

small_of : (l : List ℕ) → ((j : ℕ) → j < length l → get_or l j 0 < 4294967296) → Small l
small_of [] h = tt
small_of (x ∷ xs) h = (h 0 (omega arith), small_of xs (λ j k. h (suc j) (omega arith)))

all-bytes4 : (n : ℕ) → n < 4294967296 → All (bytes4 n)
all-bytes4 n h = all_of (bytes4 n) (four_bytes n h).0

all_words : (ns : List ℕ) → Small ns → All (words ns)
all_words [] h = tt
all_words (n ∷ ns) h = all_append (bytes4 n) (words ns) (all-bytes4 n h.0) (all_words ns h.1)

-- ---- bits
all-bits : (map : List ℕ) (v : ℕ) (bs : List ℕ) → v < 2 → All map → All (set_bits map v bs)
unfolding set_bit
all-bits map v [] h k = k
all-bits map v (b ∷ bs) h k =
    all-bits (set_bit map b v) v bs h (all_set map _ _ (with-lt (get_or map _ 0) (b % 8) 8 v h (omega arith) (of-all map k _)) k)

-- ---- stores
abbrev AllStores : List Store → Type 0
AllStores [] = Unit {0}
AllStores (x ∷ xs) = All x.bytes × AllStores xs

stores-append : (xs ys : List Store) → AllStores xs → AllStores ys → AllStores (xs ++ ys)
stores-append [] ys h k = k
stores-append (x ∷ xs) ys h k = (h.0, stores-append xs ys h.1 k)

all-stored : (B : ℕ) (xs : List Store) (img : List ℕ) → AllStores xs → All img → All (store_all B img xs)
unfolding set_block
all-stored B [] img h k = k
all-stored B (x ∷ xs) img h k =
    all-stored B xs (set_block B img x.at x.bytes) h.1 (all-with (x.at * B) B x.bytes img h.0 k)

zero-stores : (B : ℕ) (bs : List ℕ) → AllStores (zero_stores B bs)
zero-stores B [] = tt
zero-stores B (b ∷ bs) = (all-zeros B, zero-stores B bs)

placed : (B : ℕ) (v : View) (s : ℕ) (nm : List ℕ) (sz : ℕ) (cs : List ℕ) → All v.map → All v.dir → All nm → sz < 4294967296 → Small cs → AllStores (place_stores B v s nm sz cs)
unfolding place_stores inode_block set_slot entry
placed B v s nm sz [] m d n z c = tt
placed B v s nm sz (i ∷ bs) m d n z c =
    stores-append (zero_stores B bs) _ (zero-stores B bs) (
      all-pad B (words (sz ∷ bs)) (all_words (sz ∷ bs) (z, c.1)),
      (
        all-bits v.map 1 (i ∷ bs) (omega arith) m,
        (all-with (s * 20) 20 (bytes4 i ++ pad_to 16 nm) v.dir (all_append (bytes4 i) (pad_to 16 nm) (all-bytes4 i c.0) (all-pad 16 nm n)) d, tt),
      ),
    )

-- ---- the requests
-- a refused read leaves the buffer
by_read : (v : Verdict) (a : Answer) (img full buf : List ℕ) (P : List ℕ → Type 0) → P buf → P full → P (checked v (refuse img buf) (record { answer = a; image = img; buffer = cond (granted a) full buf })).buffer
by_read consistent a img full buf P k f = go (granted a)
  where
    go : (b : Bool) → P (cond b full buf)
    go true = f
    go false = k
by_read (broken num p) a img full buf P k f = k

module _ (B : ℕ) (sz : BlockSize B) (img : List ℕ) (bytes : Bytes img) where
  img-all : All img
  img-all = all_of img bytes

  map-all : All (view B img).map
  unfolding block
  map-all = subst All (sym (view-map B img)) (all-part (1 * B) B img img-all)

  dir-all : All (view B img).dir
  unfolding block
  dir-all = subst All (sym (view-dir B img)) (all-part (2 * B) B img img-all)

  pub format-bytes : (label : List ℕ) → Bytes label → Bytes (format B img label).image
  unfolding format_stores
  format-bytes label h =
      by-format B img label (λ o. Bytes o.image) (λ _. bytes) (λ _. bytes)
      (λ l t.
      of-all (store_all B img (format_stores B label))
      (all-stored B (format_stores B label) img (
        all_append (bytes4 magic) (pad_to (B - 4) label) (all-bytes4 magic (omega arith)) (all-pad (B - 4) label (all_of label h)),
        (all-bits (zeros B) 1 (0 ∷ 1 ∷ 2 ∷ []) (omega arith) (all-zeros B), (all-zeros B, tt)),
      ) img-all))

  pub remove-bytes : (nm : List ℕ) → Bytes (remove B img nm).image
  unfolding remove_stores set_slot
  remove-bytes nm =
      by-remove B img nm Bytes bytes
      (λ e l.
      of-all (store_all B img (remove_stores B (view B img) nm))
      (all-stored B (remove_stores B (view B img) nm) img (
        all-with (slot_of B (view B img) nm * 20) 20 (zeros 20) (view B img).dir (all-zeros 20) dir-all,
        (all-bits (view B img).map 0 (file_claims B (view B img) (slot_of B (view B img) nm)) (omega arith) map-all, tt),
      ) img-all))

  pub write_bytes : (nm : List ℕ) (o : ℕ) (bs : List ℕ) → Bytes bs → Bytes (write B img nm o bs).image
  unfolding request put_of
  write_bytes nm o bs k =
      let v : View = view B img in
      let s : ℕ = slot_for B v nm in
      let put : List ℕ = take (size v s - o) bs in
      by-write B img nm o bs Bytes bytes
      (λ e. subst Bytes (sym (request-image B img e (wr nm o bs))) (of-all (store_bytes (place B v s) img o put) (all-store (place B v s) put img o (all_take (size v s - o) bs (all_of bs k)) img-all)))

  all-cleared : (k : ℕ) → All (clear_strays B (view B img) k)
  unfolding clear_strays set_bit
  all-cleared zero = map-all
  all-cleared (suc b) =
      by-test (stray B (view B img) b)
      (λ t. subst All (sym (cond_yes (stray B (view B img) b) _ _ t)) (all-bits (clear_strays B (view B img) b) 0 (b ∷ []) (omega arith) (all-cleared b)))
      (λ t. subst All (sym (cond_no (stray B (view B img) b) _ _ t)) (all-cleared b))

  pub mend-bytes : Bytes (mend B img).image
  unfolding mended set_block
  mend-bytes =
      mend-image B sz img Bytes
      (λ ok.
      by-test (too_short B img)
      (λ t. subst Bytes (sym (cond_yes (too_short B img) img _ t)) bytes)
      (λ t. subst Bytes (sym (cond_no (too_short B img) img _ t)) (of-all (with_part (1 * B) B (clear_strays B (view B img) (view B img).n) img) (all-with (1 * B) B (clear_strays B (view B img) (view B img).n) img (all-cleared (view B img).n) img-all))))
      bytes

  pub read-bytes : (nm : List ℕ) (o : ℕ) (buf : List ℕ) → Bytes buf → Bytes (read B img nm o buf).buffer
  unfolding read_buffer
  read-bytes nm o buf k =
      let v : View = view B img in
      let s : ℕ = slot_for B v nm in
      let c : ℕ = counted v s o (length buf) in
      let got : List ℕ = table (λ p. get_or img (place B v s p) 0) o c in
      subst (λ (x : Outcome). Bytes x.buffer) (sym (read_as B img nm o buf))
      (by_read (check B img) (transfer_view B v nm o (length buf)) img (got ++ drop c buf) buf Bytes k
      (of-all (got ++ drop c buf) (all_append got (drop c buf) (all-table (λ p. get_or img (place B v s p) 0) o c (λ p. bytes (place B v s p))) (all_drop c buf (all_of buf k)))))

-- sizes fit into four bytes
max-small : (B : ℕ) → B ≤ 65536 → max_size B < 4294967296
max-small B h = omega (arith, mul-le-mul_right {m = B / 4 - 1} {n = 16384} B (omega arith))

module _ (B : ℕ) (sz : BlockSize B) (few : B ≤ 65536) (img : List ℕ) (bytes : Bytes img) where
  -- chosen blocks are below N
  blocks-small : (nm : List ℕ) (z : ℕ) → check B img ≡ consistent → CreateGrant B (view B img) nm z → Small (chosen B (view B img) z)
  unfolding blocks
  blocks-small nm z e gr =
      let c : Choice B (view B img) z = choice B (view B img) ((check-means B sz img).0 e).sound z gr.room in
      let high : (view B img).n ≤ 8 * B = omega (arith, view-n B img) in
      small_of (chosen B (view B img) z) (λ j l. omega (arith, (c.at-cs j l).inside.high))

  pub create-bytes : (nm : List ℕ) (z : ℕ) → Bytes nm → Bytes (create B img nm z).image
  unfolding create_stores
  create-bytes nm z k =
      by-create B img nm z Bytes bytes
      (λ e gr.
      of-all (store_all B img (create_stores B (view B img) nm z))
      (all-stored B (create_stores B (view B img) nm z) img
      (placed B (view B img) (free_slot B (view B img)) nm z (chosen B (view B img) z) (map-all B sz img bytes) (dir-all B sz img bytes) (all_of nm k) (omega (arith, max-small B few, gr.small)) (blocks-small nm z e gr))
      (img-all B sz img bytes)))

  -- a fetched block is one of the image after the request
  change-bytes : (c : Change) → ByteRequest c → Bytes (perform B img c).image
  unfolding perform
  change-bytes (creates nm z) k = create-bytes nm z k
  change-bytes (removes nm) k = remove-bytes B sz img bytes nm
  change-bytes (writes nm o bs) k = write_bytes B sz img bytes nm o bs k

  pub fetch-bytes : (c : Change) (k : ℕ) (buf : List ℕ) → ByteRequest c → Bytes buf → Bytes (fetch B img c k buf).buffer
  unfolding block
  fetch-bytes c k buf given h =
      by-test (granted (perform B img c).answer)
      (λ g.
      by-test (missing B img c g k buf)
      (λ t. subst (λ (o : Outcome). Bytes o.buffer) (sym (fetch-none B img c g k buf t)) h)
      (λ t.
      subst Bytes (sym (fetch-buffer B sz img ((check-means B sz img).0 (granted-passed B img c g)) c g k buf t))
      (let b : ℕ = (kth k (stores_of B img c)).at in
      of-all (part (b * B) B (perform B img c).image ++ drop B buf)
      (all_append (part (b * B) B (perform B img c).image) (drop B buf) (all-part (b * B) B (perform B img c).image (all_of (perform B img c).image (change-bytes c given))) (all_drop B buf (all_of buf h))))))
      (λ t. subst (λ (o : Outcome). Bytes o.buffer) (sym (fetch-refused B img c k buf t)) h)
