-- What stands under a name after any list of requests, format and refused ones included.
use Rattle.std.proofs.Math.Path.{◌≡◌, refl, sym, ap}
use Rattle.std.proofs.Common.{subst, ◌∙◌}
use Rattle.std.specs.Prelude.{Bool, true, false, not, cond, ◌&&◌, length}
use Prim.Native.Nat.{ℕ}
use mathlib.Core.List.{List, [], ◌∷◌}
use Rattle.std.proofs.Math.Option.{Option, none, some}
use native.Mathlib.Omega.{arith}
use Rattle.std.proofs.Math.Decide.{dec_lt}
use Rattle.std.proofs.Math.Dec.{T}
use Rattle.list_laws.specs.Test.{by-test, cond_yes, cond_no, and_l, and_r}
use Rattle.lists.specs.Lists.{zeros}
use Rattle.tfs_spec.specs.Layout.{BlockSize, slots, same_name, View, view, slot_of, contents}
use Rattle.tfs_spec.specs.Consistent.{Consistent}
use Rattle.tfs_spec.specs.Requests.{Answer, refused, granted, refuse, format, create, remove, read, write, Change, creates, removes, writes, perform, changes, fetches, checks, reads, lists, counts, Operation, formats, mends, requests, operate, after_all}
use Rattle.tfs_spec.specs.Answers.{NameRule}
use Rattle.tfs_spec.specs.Effects.{over, effect_of, name_on, transfer_on, read_by}
use Rattle.tfs_spec.specs.Histories.{Never, CreatesName, created, EndsName, removed, formatted, ChangesName, changed as changed-by, emptied, effect_on, effect_on_all, put_by, put_by_all, HistoryLaws}
use Rattle.tfs_facts.specs.CheckMeans.{check-means}
use Rattle.tfs_facts.specs.Names.{name-refl, name-trans, slot-hit, slot_is}
use Rattle.tfs_proofs.specs.Others.{stands-not}
use Rattle.tfs_proofs.specs.Mending.{mend-image}
use Rattle.tfs_proofs.specs.MendLaws.{mend-files}
use Rattle.tfs_proofs.specs.Storing.{fetch-image}
use Rattle.tfs_proofs.specs.Changes.{create-granted, refused-keeps, changed, stays-consistent}
use Rattle.tfs_proofs.specs.Kept.{granted-passed}
use Rattle.tfs_proofs.specs.Replies.{keeps}
use Rattle.tfs_proofs.specs.Formats.{format-refused, format-consistent, format-empty}
use Rattle.tfs_proofs.specs.Transfers.{read-image}
use Rattle.tfs_proofs.specs.Reads.{read-by, write-by}
use Rattle.tfs_proofs.specs.Grants.{name-allowed}

-- ---- choices of which one side is known
cond_same {ℓ} : {X : Type ℓ} (b : Bool) (x : X) → cond b x x ≡ x
cond_same true x = refl
cond_same false x = refl

cond-and {ℓ} : {X : Type ℓ} (a b : Bool) (x y : X) → T b → cond a x y ≡ cond (a && b) x y
cond-and true true x y t = refl
cond-and true false x y t = absurd t
cond-and false b x y t = refl

cond-not-and {ℓ} : {X : Type ℓ} (a b : Bool) (x y : X) → T (not b) → y ≡ cond (a && b) x y
cond-not-and true true x y t = absurd t
cond-not-and true false x y t = refl
cond-not-and false b x y t = refl

cond-some : (b : Bool) (x y : List ℕ) → cond b (some x) (some y) ≡ some (cond b x y)
cond-some true x y = refl
cond-some false x y = refl

-- ---- one request
module _ (B : ℕ) (sz : BlockSize B) (img : List ℕ) where
  abbrev v : View
  v = view B img

  pub any-consistent : Consistent B img → (x : Operation) → Consistent B (operate B img x).image
  any-consistent ok (formats label) =
      by-test (granted (format B img label).answer) (format-consistent sz img label) (λ t. subst (Consistent B) (sym (format-refused B img label t)) ok)
  any-consistent ok (requests (changes c)) = stays-consistent B sz img ok c
  any-consistent ok mends = mend-image B sz img (Consistent B) (λ new. new) ok
  any-consistent ok (requests (fetches c k buf)) = subst (Consistent B) (sym (fetch-image B img c k buf)) ok
  any-consistent ok (requests checks) = ok
  any-consistent ok (requests (reads nm o buf)) = subst (Consistent B) (sym (read-image B img nm o buf)) ok
  any-consistent ok (requests (lists s)) = ok
  any-consistent ok (requests counts) = ok

  -- a granted change passed the check
  pub granted-consistent : (c : Change) → T (granted (perform B img c).answer) → Consistent B img
  granted-consistent c g = (check-means B sz img).0 (granted-passed B img c g)

  module _ (nm : List ℕ) where
    abbrev old : Option (List ℕ)
    old = contents B img nm

    any-stands : (x : Operation) → contents B (operate B img x).image nm ≡ effect_on B nm img x (contents B img nm)
    any-stands (formats label) =
        by-test (granted (format B img label).answer)
        (λ t. format-empty sz img label t nm ∙ sym (cond_yes (granted (format B img label).answer) none old t))
        (λ t. ap (λ (x : List ℕ). contents B x nm) (format-refused B img label t) ∙ sym (cond_no (granted (format B img label).answer) none old t))
    any-stands (requests (changes c)) =
        by-test (granted (perform B img c).answer)
        (λ t. (changed B sz img (granted-consistent c t) c t).contents nm ∙ cond-and (same_name nm (name_on c)) (granted (perform B img c).answer) (effect_of c old) old t)
        (λ t. ap (λ (x : List ℕ). contents B x nm) (refused-keeps B img c t) ∙ cond-not-and (same_name nm (name_on c)) (granted (perform B img c).answer) (effect_of c old) old t)
    any-stands mends = mend-files B sz img nm
    any-stands (requests (fetches c k buf)) = ap (λ (x : List ℕ). contents B x nm) (fetch-image B img c k buf)
    any-stands (requests checks) = refl
    any-stands (requests (reads k o buf)) = ap (λ (x : List ℕ). contents B x nm) (read-image B img k o buf)
    any-stands (requests (lists s)) = refl
    any-stands (requests counts) = refl

    -- what no change names stays
    effect-other : (x : Operation) → (ChangesName B nm img x → ⊥) → effect_on B nm img x old ≡ old
    effect-other (formats label) away =
        by-test (granted (format B img label).answer) (λ t. absurd (away (emptied label t))) (λ t. cond_no (granted (format B img label).answer) none old t)
    effect-other (requests (changes c)) away =
        by-test (same_name nm (name_on c) && granted (perform B img c).answer)
        (λ t. absurd (away (changed-by c (and_l (same_name nm (name_on c)) _ t) (and_r (same_name nm (name_on c)) _ t))))
        (λ t. cond_no (same_name nm (name_on c) && granted (perform B img c).answer) (effect_of c old) old t)
    effect-other mends away = refl
    effect-other (requests (fetches c k buf)) away = refl
    effect-other (requests checks) away = refl
    effect-other (requests (reads k o buf)) away = refl
    effect-other (requests (lists s)) away = refl
    effect-other (requests counts) away = refl

    -- where nothing stands, only a create makes something stand
    effect-none : (x : Operation) → (CreatesName B nm img x → ⊥) → effect_on B nm img x none ≡ none
    unfolding perform
    effect-none (formats label) away = cond_same (granted (format B img label).answer) none
    effect-none (requests (changes (creates k z))) away =
        by-test (same_name nm k && granted (perform B img (creates k z)).answer)
        (λ t. absurd (away (created k z (and_l (same_name nm k) _ t) (and_r (same_name nm k) _ t))))
        (λ t. cond_no (same_name nm k && granted (perform B img (creates k z)).answer) (some (zeros z)) none t)
    effect-none (requests (changes (removes k))) away = cond_same (same_name nm k && granted (perform B img (removes k)).answer) none
    effect-none (requests (changes (writes k o bs))) away = cond_same (same_name nm k && granted (perform B img (writes k o bs)).answer) none
    effect-none mends away = refl
    effect-none (requests (fetches c k buf)) away = refl
    effect-none (requests checks) away = refl
    effect-none (requests (reads k o buf)) away = refl
    effect-none (requests (lists s)) away = refl
    effect-none (requests counts) away = refl

    -- a name under which something stands is not created
    stands-kept : (bytes : List ℕ) → contents B img nm ≡ some bytes → (k : List ℕ) (z : ℕ) → T (same_name nm k) → T (granted (create B img k z).answer) → ⊥
    unfolding perform
    stands-kept bytes e k z same g =
        let ok : Consistent B img = granted-consistent (creates k z) g in
        elim (dec_lt (slot_of B v nm) (slots B)) [
          | yes l ↦ (
              let f = slot-hit B v nm l in
              let at : slot_of B v k ≡ slot_of B v nm = slot_is B v k ok.sound.apart (slot_of B v nm) f.0 (name-trans _ nm k f.1 same) in
              omega (arith, (create-granted B img ((check-means B sz img).1 ok) k z g).fresh))
          | no l ↦ let none-some : none ≡ some bytes = sym (stands-not B img nm (omega arith)) ∙ e in let z : ◌≡◌ {A = ℕ} 0 1 = cc in omega arith
        ]

    -- where something stands, only writes by the name change it, until it ends
    effect-some : (bytes : List ℕ) → contents B img nm ≡ some bytes → (x : Operation) → (EndsName B nm img x → ⊥) → effect_on B nm img x (some bytes) ≡ some (put_by B nm img x bytes)
    unfolding perform
    effect-some bytes e (formats label) stays =
        by-test (granted (format B img label).answer) (λ t. absurd (stays (formatted label t))) (λ t. cond_no (granted (format B img label).answer) none (some bytes) t)
    effect-some bytes e (requests (changes (creates k z))) stays =
        by-test (same_name nm k && granted (create B img k z).answer)
        (λ t. absurd (stands-kept bytes e k z (and_l (same_name nm k) _ t) (and_r (same_name nm k) _ t)))
        (λ t. cond_no (same_name nm k && granted (create B img k z).answer) (some (zeros z)) (some bytes) t)
    effect-some bytes e (requests (changes (removes k))) stays =
        by-test (same_name nm k && granted (remove B img k).answer)
        (λ t. absurd (stays (removed k (and_l (same_name nm k) _ t) (and_r (same_name nm k) _ t))))
        (λ t. cond_no (same_name nm k && granted (remove B img k).answer) none (some bytes) t)
    effect-some bytes e (requests (changes (writes k o bs))) stays = cond-some (same_name nm k && granted (write B img k o bs).answer) (over o bs bytes) bytes
    effect-some bytes e mends stays = refl
    effect-some bytes e (requests (fetches c k buf)) stays = refl
    effect-some bytes e (requests checks) stays = refl
    effect-some bytes e (requests (reads k o buf)) stays = refl
    effect-some bytes e (requests (lists s)) stays = refl
    effect-some bytes e (requests counts) stays = refl

-- ---- any list of them
module _ (B : ℕ) (sz : BlockSize B) where
  pub all-consistent : (xs : List Operation) (img : List ℕ) → Consistent B img → Consistent B (after_all B img xs)
  unfolding after_all
  all-consistent [] img ok = ok
  all-consistent (x ∷ xs) img ok = all-consistent xs (operate B img x).image (any-consistent B sz img ok x)

  all-stands : (nm : List ℕ) (xs : List Operation) (img : List ℕ) → contents B (after_all B img xs) nm ≡ effect_on_all B nm img xs (contents B img nm)
  unfolding after_all effect_on_all
  all-stands nm [] img = refl
  all-stands nm (x ∷ xs) img =
      all-stands nm xs (operate B img x).image ∙ ap (effect_on_all B nm (operate B img x).image xs) (any-stands B sz img nm x)

  others-after : (nm : List ℕ) (xs : List Operation) (img : List ℕ) → Never B (ChangesName B nm) img xs → contents B (after_all B img xs) nm ≡ contents B img nm
  unfolding after_all
  others-after nm [] img away = refl
  others-after nm (x ∷ xs) img away =
      others-after nm xs (operate B img x).image away.1 ∙ any-stands B sz img nm x ∙ effect-other B sz img nm x away.0

  none_after : (nm : List ℕ) (xs : List Operation) (img : List ℕ) → contents B img nm ≡ none → Never B (CreatesName B nm) img xs → contents B (after_all B img xs) nm ≡ none
  unfolding after_all
  none_after nm [] img e away = e
  none_after nm (x ∷ xs) img e away =
      none_after nm xs (operate B img x).image (any-stands B sz img nm x ∙ ap (effect_on B nm img x) e ∙ effect-none B sz img nm x away.0) away.1

  some_after : (nm : List ℕ) (xs : List Operation) (img bytes : List ℕ) → contents B img nm ≡ some bytes → Never B (EndsName B nm) img xs → contents B (after_all B img xs) nm ≡ some (put_by_all B nm img xs bytes)
  unfolding after_all put_by_all
  some_after nm [] img bytes e stays = e
  some_after nm (x ∷ xs) img bytes e stays =
      some_after nm xs (operate B img x).image (put_by B nm img x bytes)
      (any-stands B sz img nm x ∙ ap (effect_on B nm img x) e ∙ effect-some B sz img nm bytes e x stays.0) stays.1

  -- where nothing stands under a name, reads and writes of it are refused 13
  refuses : (img : List ℕ) → Consistent B img → (nm : List ℕ) → NameRule nm → contents B img nm ≡ none → (o : ℕ) (buf : List ℕ) → (read B img nm o buf ≡ refuse img buf 13 0) × (write B img nm o buf ≡ refuse img [] 13 0)
  unfolding perform
  refuses img ok nm named e o buf =
      let a : (write B img nm o buf).answer ≡ refused 13 0 = write-by B sz img ok nm named o buf ∙ ap (λ (c : Option (List ℕ)). transfer_on B c o (length buf)) e in
      let k = keeps B img (changes (writes nm o buf)) (subst (λ (x : Answer). T (not (granted x))) (sym a) tt) in
      (read-by B sz img ok nm named o buf ∙ ap (λ (c : Option (List ℕ)). read_by B c img o buf) e, λ i. record { answer = a i; image = k.0 i; buffer = k.1 i })

-- ---- after the end of a name, and after a granted create
module _ (B : ℕ) (sz : BlockSize B) (img : List ℕ) (nm : List ℕ) where
  -- what stands under the name right after a granted change of it
  right-after : (c : Change) (k : List ℕ) → name_on c ≡ k → T (same_name nm k) → T (granted (perform B img c).answer) → contents B (perform B img c).image nm ≡ effect_of c (contents B img nm)
  right-after c k e same g =
      (changed B sz img (granted-consistent B sz img c g) c g).contents nm ∙ cond_yes (same_name nm (name_on c)) (effect_of c (contents B img nm)) (contents B img nm) (subst (λ (k : List ℕ). T (same_name nm k)) (sym e) same)

  -- an end leaves a consistent volume where the name does not stand
  over-with : (x : Operation) → EndsName B nm img x → Consistent B (operate B img x).image × (contents B (operate B img x).image nm ≡ none)
  unfolding perform
  over-with _ (removed k same g) = (stays-consistent B sz img (granted-consistent B sz img (removes k) g) (removes k), right-after (removes k) k refl same g)
  over-with _ (formatted label g) = (format-consistent sz img label g, format-empty sz img label g nm)

  gone : NameRule nm → (x : Operation) → EndsName B nm img x → (xs : List Operation) → Never B (CreatesName B nm) (operate B img x).image xs → (o : ℕ) (buf : List ℕ) → (read B (after_all B (operate B img x).image xs) nm o buf ≡ refuse (after_all B (operate B img x).image xs) buf 13 0) × (write B (after_all B (operate B img x).image xs) nm o buf ≡ refuse (after_all B (operate B img x).image xs) [] 13 0)
  gone named x ends xs away =
      let w = over-with x ends in
      refuses B sz (after_all B (operate B img x).image xs) (all-consistent B sz xs (operate B img x).image w.0) nm named (none_after B sz nm xs (operate B img x).image w.1 away)

  born : (z : ℕ) → T (granted (create B img nm z).answer) → (xs : List Operation) → Never B (EndsName B nm) (create B img nm z).image xs → (o : ℕ) (buf : List ℕ) → read B (after_all B (create B img nm z).image xs) nm o buf ≡ read_by B (some (put_by_all B nm (create B img nm z).image xs (zeros z))) (after_all B (create B img nm z).image xs) o buf
  unfolding perform
  born z g xs stays o buf =
      let ok : Consistent B img = granted-consistent B sz img (creates nm z) g in
      let end : List ℕ = after_all B (create B img nm z).image xs in
      let e : contents B (after_all B (create B img nm z).image xs) nm ≡ some (put_by_all B nm (create B img nm z).image xs (zeros z)) =
      some_after B sz nm xs (create B img nm z).image (zeros z) (right-after (creates nm z) nm refl (name-refl nm) g) stays
      in
      read-by B sz end (all-consistent B sz xs (create B img nm z).image (stays-consistent B sz img ok (creates nm z))) nm ((name-allowed nm).0 (create-granted B img ((check-means B sz img).1 ok) nm z g).named) o buf
      ∙ ap (λ (c : Option (List ℕ)). read_by B c end o buf) e

pub history-law : (B : ℕ) → BlockSize B → (img : List ℕ) → HistoryLaws B img
history-law B sz img =
    record {
      consistent = λ ok xs. all-consistent B sz xs img ok;
      stands = λ xs nm. all-stands B sz nm xs img;
      others = λ xs nm. others-after B sz nm xs img;
      reads = λ xs ok nm named o buf.
          (read-by B sz (after_all B img xs) ok nm named o buf ∙ ap (λ (c : Option (List ℕ)). read_by B c (after_all B img xs) o buf) (all-stands B sz nm xs img));
      ended = gone B sz img;
      created = born B sz img;
    }
