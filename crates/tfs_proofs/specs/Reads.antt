-- What read and write come to, by what stands under their name and nothing else; and what a write covers.
use Rattle.std.specs.Prelude.{◌≡◌, ◌↔◌, Bool, true, false, not, T, ltb, leb}
use Rattle.std.proofs.Math.Path.{refl, sym, ap}
use Rattle.std.proofs.Common.{subst, ◌∙◌, zero-add, T_not, ltb→lt, lt→ltb, leb→le, le→leb}
use Rattle.std.proofs.Math.Bool.{cond}
use Prim.Native.Nat.{ℕ, zero, suc, ◌+◌, ◌-◌, ◌≤◌, ◌<◌, min}
use mathlib.Core.List.{List, [], ◌∷◌, ◌++◌}
use Rattle.std.proofs.Math.Option.{Option, some}
use native.Mathlib.Omega.{arith}
use Rattle.std.proofs.Math.ListN.{length, get_or, take, drop, length-drop}
use Rattle.std.proofs.Math.Dec.{not_T}
use Rattle.list_laws.specs.Test.{by-test, cond_yes, cond_no, and-of, and_l, and_r}
use Rattle.lists.specs.Lists.{table}
use Rattle.list_laws.specs.Table.{length-table}
use Rattle.tfs_spec.specs.Layout.{BlockSize, name_allowed, same_name, View, view, size, slot_of, place, content, contents}
use Rattle.tfs_spec.specs.Check.{Verdict, consistent, broken, check}
use Rattle.tfs_spec.specs.Consistent.{Consistent}
use Rattle.tfs_spec.specs.Answers.{NameRule}
use Rattle.tfs_spec.specs.Effects.{transfer_on, read_on, read_by, TransferLaws}
use Rattle.tfs_spec.specs.Laws.{Write, request, covers_at}
use Rattle.tfs_spec.specs.Requests.{count_of, Answer, transferred, refused, granted, Outcome, refuse, checked, Lookup, lookup, looked, counted, blocks_met, transfer_answer, read_buffer, read_file, read_step, read, write_file, write_step, write}
use Rattle.tfs_facts.specs.CheckMeans.{check-means}
use Rattle.tfs_facts.specs.Lookups.{by-lookup, lookup-misnamed}
use Rattle.tfs_proofs.specs.Content.{length-content}
use Rattle.tfs_proofs.specs.Meets.{meets}
use Rattle.tfs_proofs.specs.Others.{stands, stands-not}
use Rattle.tfs_proofs.specs.Transfers.{transfer_view, filled, read_as, write-answer}
use Rattle.tfs_proofs.specs.WriteLists.{take_min}
use Rattle.tfs_proofs.specs.Grants.{name-allowed}

-- ---- a stretch of a table
-- of a table, the elements from o on, the first c, and c of them from o on
table_at : (f : ℕ → ℕ) (k j d e : ℕ) → k ≡ j → d ≡ e → table f k d ≡ table f j e
table_at f k j d e p q = λ i. table f (p i) (q i)

drop-table : (f : ℕ → ℕ) (o k d : ℕ) → drop o (table f k d) ≡ table f (k + o) (d - o)
drop-table f zero k d = table_at f k (k + 0) d (d - 0) (omega arith) (omega arith)
drop-table f (suc o) k zero = table_at f (k + suc o) (k + suc o) 0 (0 - suc o) refl (omega arith)
drop-table f (suc o) k (suc d) = drop-table f o (suc k) d ∙ table_at f (suc k + o) (k + suc o) (d - o) (suc d - suc o) (omega arith) (omega arith)

take-table : (f : ℕ → ℕ) (c k d : ℕ) → c ≤ d → take c (table f k d) ≡ table f k c
take-table f zero k d h = refl
take-table f (suc c) k zero h = absurd (omega arith)
take-table f (suc c) k (suc d) h = ap (λ (l : List ℕ). f k ∷ l) (take-table f c (suc k) d (omega arith))

table-stretch : (f : ℕ → ℕ) (o c d : ℕ) → c ≤ d - o → table f o c ≡ take c (drop o (table f 0 d))
table-stretch f o c d h = sym (ap (take c) (drop-table f o 0 d ∙ ap (λ (j : ℕ). table f j (d - o)) (zero-add o)) ∙ take-table f c o (d - o) h)

-- ---- "A refusal leaves .. lent buffers unchanged"
pub read-refused : (B : ℕ) (img nm : List ℕ) (o : ℕ) (buf : List ℕ) → T (not (granted (read B img nm o buf).answer)) → (read B img nm o buf).buffer ≡ buf
read-refused B img nm o buf t =
    ap (λ (x : Outcome). x.buffer) (read_as B img nm o buf)
    ∙ go (check B img) (subst (λ (x : Outcome). T (not (granted x.answer))) (read_as B img nm o buf) t)
  where
    go : (x : Verdict) → T (not (granted (filled B nm o buf img x (view B img)).answer)) → (filled B nm o buf img x (view B img)).buffer ≡ buf
    go consistent u = cond_no (granted (transfer_view B (view B img) nm o (length buf))) _ buf u
    go (broken num p) u = refl

-- ---- of the file in slot s
module _ (B : ℕ) (img : List ℕ) (s o : ℕ) (buf : List ℕ) where
  abbrev v : View
  v = view B img

  abbrev bytes : List ℕ
  bytes = content B (view B img) img s

  abbrev c : ℕ
  c = min (length buf) (size (view B img) s - o)

  -- what read puts into the buffer is a stretch of the content
  got : table (λ p. get_or img (place B v s p) 0) o c ≡ take (length buf) (drop o bytes)
  unfolding content
  got =
      let left : length (drop o bytes) ≡ size v s - o = length-drop o bytes ∙ ap (λ (n : ℕ). n - o) (length-content B v img s) in
      let e : min (length (drop o bytes)) (length buf) ≡ c = omega arith in
      table-stretch (λ p. get_or img (place B v s p) 0) o c (size v s) (omega arith)
      ∙ ap (λ (n : ℕ). take n (drop o bytes)) (sym e)
      ∙ take_min (length buf) (drop o bytes)

  buffer-is : read_buffer B v img s o buf ≡ read_on (some bytes) o buf
  unfolding read_buffer counted
  buffer-is =
      let long : length (take (length buf) (drop o bytes)) ≡ c = ap length (sym got) ∙ length-table (λ p. get_or img (place B v s p) 0) o c in
      ap (λ (x : List ℕ). x ++ drop c buf) got ∙ ap (λ (n : ℕ). take (length buf) (drop o bytes) ++ drop n buf) (sym long)

  -- refused, it would put nothing
  nothing : size v s < o → read_buffer B v img s o buf ≡ buf
  unfolding read_buffer counted
  nothing l = let e : c ≡ 0 = omega arith in ap (λ (n : ℕ). table (λ p. get_or img (place B v s p) 0) o n ++ drop n buf) e

  filled_is : cond (granted (transfer_answer B v s o (length buf))) (read_buffer B v img s o buf) buf ≡ read_buffer B v img s o buf
  unfolding transfer_answer
  filled_is =
      by-test (ltb (size v s) o)
      (λ t. ap (λ (a : Answer). cond (granted a) (read_buffer B v img s o buf) buf) (cond_yes (ltb (size v s) o) (refused 15 0) _ t) ∙ sym (nothing (ltb→lt (size v s) o t)))
      (λ t. ap (λ (a : Answer). cond (granted a) (read_buffer B v img s o buf) buf) (cond_no (ltb (size v s) o) (refused 15 0) _ t))

  pub answer-is : (len : ℕ) → transfer_answer B v s o len ≡ transfer_on B (some bytes) o len
  unfolding transfer_answer counted
  answer-is len =
      ap (λ (n : ℕ). cond (ltb n o) (refused 15 0) (transferred (min len (n - o)) (blocks_met B o (min len (n - o))))) (sym (length-content B v img s))

  pub file-is : read_file B img s o buf ≡ read_by B (some bytes) img o buf
  file-is = λ i. record { answer = answer-is (length buf) i; image = img; buffer = (filled_is ∙ buffer-is) i }

-- ---- by name
module _ (B : ℕ) (sz : BlockSize B) (img : List ℕ) (ok : Consistent B img) where
  abbrev w : View
  w = view B img

  passed : check B img ≡ consistent
  passed = (check-means B sz img).1 ok

  module _ (nm : List ℕ) (named : NameRule nm) where
    -- a lookup by what stands under the name
    by-standing : (P : Lookup → Option (List ℕ) → Type 0) → P (Lookup.denied 13) Option.none → ((s : ℕ) → P (Lookup.in_slot s) (some (content B w img s))) → P (lookup B w nm) (contents B img nm)
    by-standing P none there =
        by-lookup B w nm (λ (x : Lookup). P x (contents B img nm)) (λ t. absurd (T_not (name_allowed nm) t ((name-allowed nm).1 named)))
        (λ t l. subst (P (Lookup.denied 13)) (sym (stands-not B img nm l)) none)
        (λ t l. subst (P (Lookup.in_slot (slot_of B w nm))) (sym (stands B img nm (slot_of B w nm) refl l)) (there (slot_of B w nm)))

    pub read-by : (o : ℕ) (buf : List ℕ) → read B img nm o buf ≡ read_by B (contents B img nm) img o buf
    unfolding read
    read-by o buf =
        ap (λ (x : Verdict). checked x (refuse img buf) (read_step B img nm o buf)) passed
        ∙ by-standing (λ (x : Lookup) (c : Option (List ℕ)). looked x (refuse img buf) (λ s. read_file B img s o buf) ≡ read_by B c img o buf) refl (λ s. file-is B img s o buf)

    pub write-by : (o : ℕ) (bs : List ℕ) → (write B img nm o bs).answer ≡ transfer_on B (contents B img nm) o (length bs)
    unfolding transfer_view
    write-by o bs =
        write-answer B img nm o bs passed
        ∙ by-standing (λ (x : Lookup) (c : Option (List ℕ)). looked x refused (λ s. transfer_answer B w s o (length bs)) ≡ transfer_on B c o (length bs)) refl (λ s. answer-is B img s o bs (length bs))

  misnamed : (nm : List ℕ) → (NameRule nm → ⊥) → (o : ℕ) (buf : List ℕ) → (read B img nm o buf ≡ refuse img buf 8 0) × (write B img nm o buf ≡ refuse img [] 8 0)
  unfolding read write
  misnamed nm bad o buf =
      let e = lookup-misnamed B w nm (not_T (name_allowed nm) (λ t. bad ((name-allowed nm).0 t))) in (
        ap (λ (x : Verdict). checked x (refuse img buf) (read_step B img nm o buf)) passed ∙ ap (λ (x : Lookup). looked x (refuse img buf) (λ s. read_file B img s o buf)) e,
        ap (λ (x : Verdict). checked x (refuse img []) (write_step B img nm o buf)) passed ∙ ap (λ (x : Lookup). looked x (refuse img []) (λ s. write_file B img s o buf)) e,
      )

  pub transfer-law : TransferLaws B img
  transfer-law = record {
    misnamed = misnamed;
    reads = read-by;
    meets = λ s o c f h. meets B (omega (arith, sz.large)) w ok.sound s o c f h;
    writes = write-by;
  }

-- ---- what a write covers
-- a is a granted transfer with its count
abbrev Transfers : Answer → Type 0
Transfers a = (m : ℕ) × (a ≡ transferred (count_of a) m)

counts_some : (B : ℕ) (img : List ℕ) (w : Write) → 1 ≤ count_of (request B img w).answer → Transfers (request B img w).answer
unfolding request write transfer_answer
counts_some B img w = go (check B img) (lookup B (view B img) w.name)
  where
    step : (b : Bool) (c m : ℕ) → 1 ≤ count_of (cond b (refused 15 0) (transferred c m)) → Transfers (cond b (refused 15 0) (transferred c m))
    step true c m h = absurd (omega arith)
    step false c m h = (m, refl)

    go : (f : Verdict) (x : Lookup) → 1 ≤ count_of (checked f (refuse img []) (looked x (refuse img []) (λ s. write_file B img s w.offset w.bytes))).answer → Transfers (checked f (refuse img []) (looked x (refuse img []) (λ s. write_file B img s w.offset w.bytes))).answer
    go (broken num p) x h = absurd (omega arith)
    go consistent (Lookup.denied num) h = absurd (omega arith)
    go consistent (Lookup.in_slot s) h = step (ltb (size (view B img) s) w.offset) _ _ h

pub covers : (B : ℕ) (img : List ℕ) (w : Write) (nm : List ℕ) (p : ℕ) → T (covers_at B img w nm p) ↔ (T (same_name w.name nm) × (c : ℕ) × (m : ℕ) × ((request B img w).answer ≡ transferred c m) × (w.offset ≤ p) × (p < w.offset + c))
unfolding covers_at
covers B img w nm p = (
  (λ t.
      let u = and_r (same_name w.name nm) _ t in
      let from : w.offset ≤ p = leb→le w.offset p (and_l (leb w.offset p) _ u) in
      let upto : p < w.offset + count_of (request B img w).answer = ltb→lt p _ (and_r (leb w.offset p) _ u) in
      let some = counts_some B img w (omega arith) in
      (and_l (same_name w.name nm) _ t, count_of (request B img w).answer, some.0, some.1, from, upto)),
  λ g.
      let n : count_of (request B img w).answer ≡ g.1 = ap count_of g.3 in
      and-of (same_name w.name nm) _ g.0
      (and-of (leb w.offset p) _ (le→leb w.offset p g.4) (lt→ltb p _ (omega (arith, g.5, n)))),
)
