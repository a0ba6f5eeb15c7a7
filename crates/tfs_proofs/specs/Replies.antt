-- What holds of every request, request by request.
use Rattle.std.specs.Prelude.{◌≡◌, refl, ◌≢◌, ◌↔◌, ◌⊎◌, not, ℕ, ◌≤◌, ◌*◌, List, [], length, get_or, T, ltb}
use Rattle.std.proofs.Common.{sym, ◌∙◌, ap, ap₂, subst, arith}
use Rattle.tfs_spec.specs.Layout.{BlockSize, View, view}
use Rattle.tfs_spec.specs.Check.{Verdict, consistent, broken, check, too_short}
use Rattle.tfs_spec.specs.Consistent.{Consistent, FirstBroken}
use Rattle.tfs_spec.specs.Requests.{Answer, done, value, transferred, unused, file, refused, granted, Outcome, refuse, checked, format, check_answer, create, remove, read, write, list_answer, free_answer, Change, creates, removes, writes, perform, mend, Request, changes, fetches, checks, reads, lists, counts, lent, reply, Operation, formats, mends, requests, operate, after_all}
use Rattle.tfs_spec.specs.Answers.{ChangeRule, Rule}
use Rattle.tfs_spec.specs.Effects.{SameRead, Beyond, SameVolume, Kept}
use Rattle.tfs_facts.specs.CheckMeans.{check-means, check-breaks}
use Rattle.tfs_proofs.specs.Changes.{refused-keeps}
use Rattle.tfs_proofs.specs.Formats.{by-format}
use Rattle.tfs_proofs.specs.Transfers.{read-image, write_as}
use Rattle.tfs_proofs.specs.Reads.{read-refused}
use Rattle.tfs_proofs.specs.Grants.{rule-reply}
use Rattle.tfs_proofs.specs.Answers.{Numbered, Other, ListTold, Stored, other-numbered, stored-numbered, stored-14, broken-other, find-other, create-other, transfer-other, list-told, fetch-stored}
use Rattle.tfs_proofs.specs.Kept.{create-kept, remove-kept, write_kept}
use Rattle.tfs_proofs.specs.Ignored.{ignored}
use Rattle.tfs_proofs.specs.Tail.{tail-kept, tail-unread, format-answer}
use Rattle.tfs_proofs.specs.IgnoredSteps.{same-after-all, mend-answer}
use Rattle.tfs_proofs.specs.Storing.{fetch-image}
use Rattle.tfs_proofs.specs.FetchSame.{fetch-refused, fetch-kept, fetch-ignored, fetch-unread}
use Rattle.tfs_proofs.specs.MendLaws.{mend-other, mend-bit}
use Rattle.tfs_facts.specs.Views.{view-n}
use Rattle.tfs_proofs.specs.MendTail.{mend-beyond, mend-unread}

-- ---- the check's answer tells the verdict
pub told-done : (x : Verdict) → (checked x refused done ≡ done) ↔ (x ≡ consistent)
told-done consistent = ((λ _. refl), λ _. refl)
told-done (broken num p) =
    ((λ e. absurd (let z : ◌≡◌ {A = ℕ} 0 1 = cc in omega arith)), λ e. absurd (let z : ◌≡◌ {A = ℕ} 0 1 = cc in omega arith))

pub told-broken : (x : Verdict) (num p : ℕ) → (checked x refused done ≡ refused num p) ↔ (x ≡ broken num p)
told-broken consistent num p =
    ((λ e. absurd (let z : ◌≡◌ {A = ℕ} 0 1 = cc in omega arith)), λ e. absurd (let z : ◌≡◌ {A = ℕ} 0 1 = cc in omega arith))
told-broken (broken m q) num p = ((λ e. ap₂ broken (cc) (cc)), λ e. ap₂ refused (cc) (cc))

-- an answer that is no refusal is a grant
pub granted-or-refused : (a : Answer) → T (granted a) ↔ ((num p : ℕ) → a ≢ refused num p)
granted-or-refused done = ((λ t num p e. absurd (let z : ◌≡◌ {A = ℕ} 0 1 = cc in omega arith)), λ f. tt)
granted-or-refused (value x) = ((λ t num p e. absurd (let z : ◌≡◌ {A = ℕ} 0 1 = cc in omega arith)), λ f. tt)
granted-or-refused (transferred c m) = ((λ t num p e. absurd (let z : ◌≡◌ {A = ℕ} 0 1 = cc in omega arith)), λ f. tt)
granted-or-refused unused = ((λ t num p e. absurd (let z : ◌≡◌ {A = ℕ} 0 1 = cc in omega arith)), λ f. tt)
granted-or-refused (file nm i z) = ((λ t num p e. absurd (let z : ◌≡◌ {A = ℕ} 0 1 = cc in omega arith)), λ f. tt)
granted-or-refused (refused m q) = ((λ t. absurd t), λ f. f m q refl)

-- ---- a volume that breaks a rule
pub faulty : (B : ℕ) → BlockSize B → (img : List ℕ) → (Consistent B img → ⊥) → (num : ℕ) × (p : ℕ) × FirstBroken B img num p
faulty B sz img bad = go (check B img) refl
  where
    go : (x : Verdict) → check B img ≡ x → (num : ℕ) × (p : ℕ) × FirstBroken B img num p
    go consistent e = absurd (bad ((check-means B sz img).0 e))
    go (broken num p) e = (num, p, (check-breaks B sz img num p).0 e)

fault-change : (B : ℕ) → BlockSize B → (img : List ℕ) (num p : ℕ) → FirstBroken B img num p → (c : Change) → perform B img c ≡ refuse img [] num p
unfolding perform create remove write
fault-change B sz img num p first (creates nm z) = rw ((check-breaks B sz img num p).1 first)
fault-change B sz img num p first (removes nm) = rw ((check-breaks B sz img num p).1 first)
fault-change B sz img num p first (writes nm o bs) = rw ((check-breaks B sz img num p).1 first)

pub fault-reply : (B : ℕ) → BlockSize B → (img : List ℕ) (num p : ℕ) → FirstBroken B img num p → (r : Request) → reply B img r ≡ refuse img (lent r) num p
unfolding check_answer read list_answer free_answer
fault-reply B sz img num p first (changes c) = fault-change B sz img num p first c
fault-reply B sz img num p first (fetches c k buf) =
    fetch-refused B img c k buf (subst (λ (x : Answer). T (not (granted x))) (sym e) tt) ∙ ap (λ (x : Answer). record { answer = x; image = img; buffer = buf }) e
  where
    e : (perform B img c).answer ≡ refused num p
    e = ap (λ (o : Outcome). o.answer) (fault-change B sz img num p first c)
fault-reply B sz img num p first checks = rw ((check-breaks B sz img num p).1 first)
fault-reply B sz img num p first (reads nm o buf) = rw ((check-breaks B sz img num p).1 first)
fault-reply B sz img num p first (lists s) = rw ((check-breaks B sz img num p).1 first)
fault-reply B sz img num p first counts = rw ((check-breaks B sz img num p).1 first)

-- ---- the numbers of refusals
-- another number than 14 and 32, or list's, or a store's
pub data Told : Request → Answer → Type 0 where
  told-other : (r : Request) (a : Answer) → Other a → Told r a
  told-list : (s : ℕ) (a : Answer) → ListTold a → Told (lists s) a
  told-store : (c : Change) (k : ℕ) (buf : List ℕ) (a : Answer) → Stored a → Told (fetches c k buf) a

change-other : (B : ℕ) (v : View) (c : Change) (a : Answer) → ChangeRule B v c a → Other a
change-other B v (creates nm z) a w = create-other B v nm z a w
change-other B v (removes nm) a w = find-other B v nm _ (λ s b e. subst Other e tt) a w
change-other B v (writes nm o bs) a w = find-other B v nm _ (transfer-other B v o (length bs)) a w

rule_told : (B : ℕ) (img : List ℕ) (r : Request) (a : Answer) → Rule B (view B img) r a → Told r a
rule_told B img (changes c) a w = told-other (changes c) a (change-other B (view B img) c a w)
rule_told B img (fetches c k buf) a w = told-store c k buf a (fetch-stored B (view B img) c k buf (change-other B (view B img) c) a w)
rule_told B img checks a w = told-other checks a (subst Other w tt)
rule_told B img (reads nm o buf) a w = told-other (reads nm o buf) a (find-other B (view B img) nm _ (transfer-other B (view B img) o (length buf)) a w)
rule_told B img (lists s) a w = told-list s a (list-told B (view B img) s a w)
rule_told B img counts a w = told-other counts a (subst Other w tt)

told-reply : (B : ℕ) → BlockSize B → (img : List ℕ) (r : Request) → Told r (reply B img r).answer
told-reply B sz img r = go (check B img) refl
  where
    go : (x : Verdict) → check B img ≡ x → Told r (reply B img r).answer
    go consistent e = rule_told B img r (reply B img r).answer ((rule-reply B sz img ((check-means B sz img).0 e) r (reply B img r).answer).0 refl)
    go (broken num p) e =
        let first : FirstBroken B img num p = (check-breaks B sz img num p).0 e in
        subst (Told r) (sym (ap (λ x. x.answer) (fault-reply B sz img num p first r))) (told-other r (refused num p) (broken-other B img num p first.here))

told-numbered : (r : Request) (a : Answer) → Told r a → Numbered a
told-numbered _ _ (told-other r a w) = other-numbered a w
told-numbered _ _ (told-list s a w) = w.0
told-numbered _ _ (told-store c k buf a w) = stored-numbered a w

pub numbered : (B : ℕ) → BlockSize B → (img : List ℕ) (r : Request) (num p : ℕ) → (reply B img r).answer ≡ refused num p → (1 ≤ num) × ((num ≤ 15) ⊎ (num ≡ 32)) × (8 ≤ num → p ≡ 0)
numbered B sz img r num p e = subst Numbered e (told-numbered r (reply B img r).answer (told-reply B sz img r))

told-14 : (r : Request) (a : Answer) (p : ℕ) → Told r a → a ≡ refused 14 p → (s : ℕ) × (r ≡ lists s)
told-14 _ _ p (told-other r a w) e = absurd ((subst Other e w).1 refl)
told-14 _ _ p (told-list s a w) e = (s, refl)
told-14 _ _ p (told-store c k buf a w) e = absurd (stored-14 a w p e)

pub list-only : (B : ℕ) → BlockSize B → (img : List ℕ) (r : Request) (p : ℕ) → (reply B img r).answer ≡ refused 14 p → (s : ℕ) × (r ≡ lists s)
list-only B sz img r p e = told-14 r (reply B img r).answer p (told-reply B sz img r) e

told-32 : (r : Request) (a : Answer) (p : ℕ) → Told r a → a ≡ refused 32 p → (c : Change) × (k : ℕ) × (buf : List ℕ) × (r ≡ fetches c k buf)
told-32 _ _ p (told-other r a w) e = absurd ((subst Other e w).2 refl)
told-32 _ _ p (told-list s a w) e = absurd (w.1 p e)
told-32 _ _ p (told-store c k buf a w) e = (c, k, buf, refl)

pub fetch-only : (B : ℕ) → BlockSize B → (img : List ℕ) (r : Request) (p : ℕ) → (reply B img r).answer ≡ refused 32 p → (c : Change) × (k : ℕ) × (buf : List ℕ) × (r ≡ fetches c k buf)
fetch-only B sz img r p e = told-32 r (reply B img r).answer p (told-reply B sz img r) e

-- ---- a change leaves no buffer
fills-none : (x : Verdict) (img : List ℕ) (o : Outcome) → o.buffer ≡ [] → (checked x (refuse img []) o).buffer ≡ []
fills-none consistent img o e = e
fills-none (broken num p) img o e = refl

no_buffer : (B : ℕ) (img : List ℕ) (c : Change) → (perform B img c).buffer ≡ []
unfolding perform create remove
no_buffer B img (creates nm z) = fills-none (check B img) img _ refl
no_buffer B img (removes nm) = fills-none (check B img) img _ refl
no_buffer B img (writes nm o bs) = ap (λ (x : Outcome). x.buffer) (write_as B img nm o bs) ∙ fills-none (check B img) img _ refl

same-buffer : (B : ℕ) (a b : List ℕ) (c : Change) → (perform B a c).buffer ≡ (perform B b c).buffer
same-buffer B a b c = no_buffer B a c ∙ sym (no_buffer B b c)

-- ---- a refusal leaves image and buffer
pub keeps : (B : ℕ) (img : List ℕ) (r : Request) → T (not (granted (reply B img r).answer)) → ((reply B img r).image ≡ img) × ((reply B img r).buffer ≡ lent r)
keeps B img (changes c) t = (refused-keeps B img c t, no_buffer B img c)
keeps B img (fetches c k buf) t = (fetch-image B img c k buf, fetch-kept B img c k buf t)
keeps B img checks t = (refl, refl)
keeps B img (reads nm o buf) t = (read-image B img nm o buf, read-refused B img nm o buf t)
keeps B img (lists s) t = (refl, refl)
keeps B img counts t = (refl, refl)

-- ---- what is kept and what is ignored
pub kept : (B : ℕ) → BlockSize B → (img : List ℕ) (c : Change) → Kept B img (perform B img c).image
unfolding perform
kept B sz img (creates nm z) = create-kept sz img nm z
kept B sz img (removes nm) = remove-kept sz img nm
kept B sz img (writes nm o bs) = write_kept sz img nm o bs

pub mend-kept : (B : ℕ) → BlockSize B → (img : List ℕ) → Kept B img (mend B img).image
mend-kept B sz img = record {
  head = mend-other B sz img 0 (λ e. omega arith);
  bits = λ b h. mend-bit B sz img b (λ s. omega (arith, s.inside.high, view-n B img));
  ends = λ i h. ap (λ (d : List ℕ). get_or d i 0) (mend-other B sz img 2 (λ e. omega arith));
}

answer-same : (B : ℕ) → BlockSize B → (a b : List ℕ) → SameRead B a b → (c : Change) → (perform B a c).answer ≡ (perform B b c).answer
unfolding perform
answer-same B sz a b same (creates nm z) = (ignored B sz a b same).create-same nm z
answer-same B sz a b same (removes nm) = (ignored B sz a b same).remove-same nm
answer-same B sz a b same (writes nm o bs) = (ignored B sz a b same).write_same nm o bs

ignored-reply : (B : ℕ) → BlockSize B → (a b : List ℕ) → SameRead B a b → (r : Request) → (reply B a r).answer ≡ (reply B b r).answer
unfolding check_answer
ignored-reply B sz a b same (changes c) = answer-same B sz a b same c
ignored-reply B sz a b same (fetches c k buf) = fetch-ignored B sz a b same c (answer-same B sz a b same c) k buf
ignored-reply B sz a b same checks = ap (λ (x : Verdict). checked x refused done) (ignored B sz a b same).check-same
ignored-reply B sz a b same (reads nm o buf) = ((ignored B sz a b same).read_same nm o buf).0
ignored-reply B sz a b same (lists s) = (ignored B sz a b same).list_same s
ignored-reply B sz a b same counts = (ignored B sz a b same).free-same

format-buffer : (B : ℕ) (img label : List ℕ) → (format B img label).buffer ≡ []
format-buffer B img label = by-format B img label (λ o. o.buffer ≡ []) (λ _. refl) (λ _. refl) (λ _ _. refl)

ignored-any : (B : ℕ) → BlockSize B → (a b : List ℕ) → SameRead B a b → (x : Operation) → (operate B a x).answer ≡ (operate B b x).answer
unfolding too_short
ignored-any B sz a b same (formats label) = format-answer B a b label (ap (λ (n : ℕ). ltb n (3 * B)) same.long)
ignored-any B sz a b same mends = mend-answer B sz a b same
ignored-any B sz a b same (requests r) = ignored-reply B sz a b same r

pub ignored-all : (B : ℕ) → BlockSize B → (a b : List ℕ) → SameRead B a b → (xs : List Operation) (x : Operation) → (operate B (after_all B a xs) x).answer ≡ (operate B (after_all B b xs) x).answer
ignored-all B sz a b same xs x = ignored-any B sz (after_all B a xs) (after_all B b xs) (same-after-all B sz a b same xs) x

pub ignored-reads : (B : ℕ) → BlockSize B → (a b : List ℕ) → SameRead B a b → (xs : List Operation) (nm : List ℕ) (o : ℕ) (buf : List ℕ) → (read B (after_all B a xs) nm o buf).buffer ≡ (read B (after_all B b xs) nm o buf).buffer
ignored-reads B sz a b same xs nm o buf = ((ignored B sz (after_all B a xs) (after_all B b xs) (same-after-all B sz a b same xs)).read_same nm o buf).1

-- ---- bytes from B·N on
change-tail : (B : ℕ) → BlockSize B → (img : List ℕ) (c : Change) → Beyond B img (perform B img c).image
unfolding perform
change-tail B sz img (creates nm z) = (tail-kept sz img).created nm z
change-tail B sz img (removes nm) = (tail-kept sz img).removed nm
change-tail B sz img (writes nm o bs) = (tail-kept sz img).written nm o bs

pub tail-kept-by : (B : ℕ) → BlockSize B → (img : List ℕ) (x : Operation) → Beyond B img (operate B img x).image
tail-kept-by B sz img (formats label) = (tail-kept sz img).formatted label
tail-kept-by B sz img mends = mend-beyond B sz img
tail-kept-by B sz img (requests (changes c)) = change-tail B sz img c
tail-kept-by B sz img (requests (fetches c k buf)) = rw (fetch-image B img c k buf) (record { long = refl; bytes = λ q h. refl })
tail-kept-by B sz img (requests checks) = record { long = refl; bytes = λ q h. refl }
tail-kept-by B sz img (requests (reads nm o buf)) = rw (read-image B img nm o buf) (record { long = refl; bytes = λ q h. refl })
tail-kept-by B sz img (requests (lists s)) = record { long = refl; bytes = λ q h. refl }
tail-kept-by B sz img (requests counts) = record { long = refl; bytes = λ q h. refl }

change-unread : (B : ℕ) → BlockSize B → (a b : List ℕ) → SameVolume B a b → (c : Change) → ((perform B a c).answer ≡ (perform B b c).answer) × SameVolume B (perform B a c).image (perform B b c).image
unfolding perform
change-unread B sz a b same (creates nm z) = ((tail-unread sz a b same).create-answer nm z, (tail-unread sz a b same).created nm z)
change-unread B sz a b same (removes nm) = ((tail-unread sz a b same).remove-answer nm, (tail-unread sz a b same).removed nm)
change-unread B sz a b same (writes nm o bs) = ((tail-unread sz a b same).write-answer nm o bs, (tail-unread sz a b same).written nm o bs)

pub tail-unread-by : (B : ℕ) → BlockSize B → (a b : List ℕ) → SameVolume B a b → (x : Operation) → ((operate B a x).answer ≡ (operate B b x).answer) × ((operate B a x).buffer ≡ (operate B b x).buffer) × SameVolume B (operate B a x).image (operate B b x).image
tail-unread-by B sz a b same (formats label) =
    ((tail-unread sz a b same).format-answer label, format-buffer B a label ∙ sym (format-buffer B b label), (tail-unread sz a b same).formatted label)
tail-unread-by B sz a b same mends = mend-unread B sz a b same
tail-unread-by B sz a b same (requests (changes c)) =
    let u = change-unread B sz a b same c in (u.0, same-buffer B a b c, u.1)
tail-unread-by B sz a b same (requests (fetches c k buf)) =
    let u = change-unread B sz a b same c in
    let r = fetch-unread B sz a b same c u.0 k buf u.1 (change-tail B sz a c).long in
    (r.0, r.1, rw (fetch-image B a c k buf, fetch-image B b c k buf) same)
tail-unread-by B sz a b same (requests checks) = ((tail-unread sz a b same).check-answer, refl, same)
tail-unread-by B sz a b same (requests (reads nm o buf)) =
    let r = (tail-unread sz a b same).read-outcome nm o buf in
    (r.0, r.1, rw (read-image B a nm o buf, read-image B b nm o buf) same)
tail-unread-by B sz a b same (requests (lists s)) = ((tail-unread sz a b same).list-answer s, refl, same)
tail-unread-by B sz a b same (requests counts) = ((tail-unread sz a b same).free-answer, refl, same)
