-- Inode numbers: the one that create answers is the one that list shows, no two files share one, and a file keeps its own.
use Rattle.std.specs.Prelude.{◌≡◌, refl, ◌≢◌, ◌↔◌, false}
use Rattle.std.proofs.Math.Path.{sym, ap, subst}
use Rattle.std.proofs.Common.{◌∙◌, inr, arith, T_not}
use Prim.Native.Nat.{ℕ, ◌<◌}
use mathlib.Core.List.{List, [], ◌∷◌}
use Rattle.std.proofs.Math.Decide.{ℕ_discrete}
use Rattle.std.proofs.Math.Dec.{T}
use Rattle.list_laws.specs.Test.{by-test}
use Rattle.tfs_spec.specs.Layout.{BlockSize, slots, map_bit, same_name, View, view, free, inode, name, size, slot_of, free_slot}
use Rattle.tfs_spec.specs.Check.{Verdict, consistent, broken, check}
use Rattle.tfs_spec.specs.Consistent.{File, inode_of, Consistent, FirstBroken}
use Rattle.tfs_spec.specs.Requests.{Answer, value, file, refused, granted, Outcome, checked, store_all, format, create_stores, create, remove_stores, remove, write, list_answer, creates, removes, writes, perform, mend, changes, fetches, checks, reads, lists, counts, Operation, formats, mends, requests, operate, after_all}
use Rattle.tfs_spec.specs.Answers.{Stands, CreateRule, unnamed, oversized, standing, full, cramped, created, ListRule, outside, vacant, holds}
use Rattle.tfs_spec.specs.Histories.{Never, EndsName, removed, formatted, ShowsNone, GivesNumber, given, mended, InodeLaws}
use Rattle.tfs_spec.specs.Laws.{request}
use Rattle.tfs_facts.specs.Claims.{slot_in}
use Rattle.tfs_facts.specs.CheckMeans.{none-broken, check-means, check-breaks}
use Rattle.tfs_facts.specs.Chosen.{CreateGrant}
use Rattle.tfs_facts.specs.Names.{slot-hit, slot_is, free-hit}
use Rattle.tfs_facts.specs.Mends.{sound-mend}
use Rattle.tfs_proofs.specs.Frame.{Frame, file-to, file-from, name-same, inode-same, size_same}
use Rattle.tfs_proofs.specs.WriteLists.{wr, request-view}
use Rattle.tfs_proofs.specs.Creates as made
use Rattle.tfs_proofs.specs.Removes as gone
use Rattle.tfs_proofs.specs.Changes.{create-granted, create-image, create-number, remove-granted, remove-image, refused-keeps}
use Rattle.tfs_proofs.specs.Formats.{format-refused, format-consistent, format-free}
use Rattle.tfs_proofs.specs.Transfers.{read-image}
use Rattle.tfs_proofs.specs.Mending.{mend-refused}
use Rattle.tfs_proofs.specs.MendLaws.{mend-consistent, mend-file}
use Rattle.tfs_proofs.specs.Storing.{fetch-image}
use Rattle.tfs_proofs.specs.Grants.{rule-reply, create-answers, stands-named}
use Rattle.tfs_proofs.specs.Histories.{any-consistent, granted-consistent}
use Rattle.tfs_proofs.specs.Replies.{fault-reply}

-- slot s holds the file nm with the inode number h and the size z
pub record Shown (B : ℕ) (v : View) (s : ℕ) (nm : List ℕ) (h z : ℕ) : Type 0 where
  pub file : File B v s
  pub named : name v s ≡ nm
  pub number : inode v s ≡ h
  pub sized : size v s ≡ z

-- which is what list shows
listed : (B : ℕ) (v : View) (s : ℕ) (nm : List ℕ) (h z : ℕ) (a : Answer) → ListRule B v s a → a ≡ file nm h z → Shown B v s nm h z
listed B v s nm h z _ (outside l) e = absurd (let z : ◌≡◌ {A = ℕ} 0 1 = cc in omega arith)
listed B v s nm h z _ (vacant f) e = absurd (let z : ◌≡◌ {A = ℕ} 0 1 = cc in omega arith)
listed B v s nm h z _ (holds f) e = record { file = f; named = cc; number = cc; sized = cc }

pub shown : (B : ℕ) → BlockSize B → (img : List ℕ) → Consistent B img → (s : ℕ) (nm : List ℕ) (h z : ℕ) → (list_answer B img s ≡ file nm h z) ↔ Shown B (view B img) s nm h z
shown B sz img ok s nm h z = (
  (λ e. listed B (view B img) s nm h z (file nm h z) ((rule-reply B sz img ok (lists s) (file nm h z)).0 e) refl),
  λ w.
      (rule-reply B sz img ok (lists s) _).1 (holds w.file)
      ∙ (λ i. file (w.named i) (w.number i) (w.sized i)),
)

-- across a frame a file in another slot is shown as before, and was
module _ (B : ℕ) (img new : List ℕ) (s : ℕ) (fr : Frame B img new s) (t : ℕ) (d : t ≢ s) (nm : List ℕ) (h z : ℕ) where
  shown-to : Shown B (view B img) t nm h z → Shown B (view B new) t nm h z
  shown-to w =
      let low : t < slots B = w.file.slot in
      record {
        file = file-to B img new s fr t d w.file;
        named = name-same B img new s fr t low d ∙ w.named;
        number = inode-same B img new s fr t low d ∙ w.number;
        sized = size_same B img new s fr t low d ∙ w.sized;
      }

  shown-from : Shown B (view B new) t nm h z → Shown B (view B img) t nm h z
  shown-from w =
      let low : t < slots B = w.file.slot in
      record {
        file = file-from B img new s fr t d w.file;
        named = sym (name-same B img new s fr t low d) ∙ w.named;
        number = sym (inode-same B img new s fr t low d) ∙ w.number;
        sized = sym (size_same B img new s fr t low d) ∙ w.sized;
      }

-- a granted create answers a number
create-value : (B : ℕ) (v : View) (nm : List ℕ) (z : ℕ) (a : Answer) → CreateRule B v nm z a → T (granted a) → (h : ℕ) × (a ≡ value h)
create-value B v nm z _ (unnamed h) t = absurd t
create-value B v nm z _ (oversized r h) t = absurd t
create-value B v nm z _ (standing s r k st) t = absurd t
create-value B v nm z _ (full r k f none) t = absurd t
create-value B v nm z _ (cramped s r k f w h) t = absurd t
create-value B v nm z _ (created s h r k f w room low) t = (h, refl)

-- ---- one request
module _ (B : ℕ) (sz : BlockSize B) (img : List ℕ) (ok : Consistent B img) where
  abbrev v : View
  v = view B img

  passed : check B img ≡ consistent
  passed = (check-means B sz img).1 ok

  write_view : (nm : List ℕ) (o : ℕ) (bs : List ℕ) → view B (write B img nm o bs).image ≡ view B img
  unfolding request
  write_view nm o bs = request-view B (omega (arith, sz.large)) img passed ok.sound (wr nm o bs)

  -- a slot that holds a file is not the free one
  taken : (s : ℕ) → File B v s → free_slot B v < slots B → s ≢ free_slot B v
  taken s f low e = T_not (free v s) f.taken (subst (λ (x : ℕ). T (free v x)) (sym e) (free-hit B v low))

  module _ (s : ℕ) (nm : List ℕ) (h z : ℕ) where
    -- a granted create, remove or write, and any request that leaves the image
    abbrev After : List ℕ → Type 0
    After new = Shown B (view B new) s nm h z

    keeps : (x : Operation) → After img → (EndsName B nm img x → ⊥) → After (operate B img x).image
    unfolding perform
    keeps (formats label) w stays =
        by-test (granted (format B img label).answer) (λ g. absurd (stays (formatted label g))) (λ r. subst After (sym (format-refused B img label r)) w)
    keeps (requests (changes (creates k y))) w stays =
        by-test (granted (create B img k y).answer)
        (λ g.
        let gr : CreateGrant B v k y = create-granted B img passed k y g in
        subst After (sym (create-image B img passed k y g))
        (shown-to B img (store_all B img (create_stores B v k y)) (free_slot B v) (made.frame B sz img ok k y gr) s (taken s w.file gr.slot) nm h z w))
        (λ r. subst After (sym (refused-keeps B img (creates k y) r)) w)
    keeps (requests (changes (removes k))) w stays =
        by-test (granted (perform B img (removes k)).answer)
        (λ g.
        let hit : slot_of B v k < slots B = remove-granted B img passed k g in
        let d : s ≢ slot_of B v k = λ e. stays (removed k (subst (λ (x : List ℕ). T (same_name x k)) (ap (name v) (sym e) ∙ w.named) (slot-hit B v k hit).1) g) in
        subst After (sym (remove-image B img passed k g))
        (shown-to B img (store_all B img (remove_stores B v k)) (slot_of B v k) (gone.frame B sz img ok k hit) s d nm h z w))
        (λ r. subst After (sym (refused-keeps B img (removes k) r)) w)
    keeps (requests (changes (writes k o bs))) w stays = subst (λ (x : View). Shown B x s nm h z) (sym (write_view k o bs)) w
    keeps mends w stays = subst After (sym (ap (λ (o : Outcome). o.image) (sound-mend B sz img ok))) w
    keeps (requests (fetches c k buf)) w stays = subst After (sym (fetch-image B img c k buf)) w
    keeps (requests checks) w stays = w
    keeps (requests (reads k o buf)) w stays = subst After (sym (read-image B img k o buf)) w
    keeps (requests (lists t)) w stays = w
    keeps (requests counts) w stays = w

    -- what is shown after was shown before, or a create answered its number
    was : (x : Operation) → After (operate B img x).image → (GivesNumber B h img x → ⊥) → Shown B v s nm h z
    unfolding perform
    was (formats label) w new =
        by-test (granted (format B img label).answer)
        (λ g. absurd (T_not (free (view B (format B img label).image) s) w.file.taken (format-free sz img label g s))) (λ r. subst After (format-refused B img label r) w)
    was (requests (changes (creates k y))) w new =
        by-test (granted (create B img k y).answer)
        (λ g.
        let gr : CreateGrant B v k y = create-granted B img passed k y g in
        let a = create-value B v k y (create B img k y).answer ((create-answers B sz img ok k y (create B img k y).answer).0 refl) g in
        let w' : After (store_all B img (create_stores B v k y)) = subst After (create-image B img passed k y g) w in
        elim (ℕ_discrete s (free_slot B v)) [
          | yes e ↦ (
              let same : a.0 ≡ h =
              sym (create-number B img passed k y a.0 a.1) ∙ sym (made.new-number B sz img ok k y gr) ∙ ap (inode (view B (store_all B img (create_stores B v k y)))) (sym e) ∙ w'.number
              in
              absurd (new (given k y (a.1 ∙ ap value same))))
          | no d ↦ shown-from B img (store_all B img (create_stores B v k y)) (free_slot B v) (made.frame B sz img ok k y gr) s d nm h z w'
        ])
        (λ r. subst After (refused-keeps B img (creates k y) r) w)
    was (requests (changes (removes k))) w new =
        by-test (granted (perform B img (removes k)).answer)
        (λ g.
        let hit : slot_of B v k < slots B = remove-granted B img passed k g in
        let w' : After (store_all B img (remove_stores B v k)) = subst After (remove-image B img passed k g) w in
        shown-from B img (store_all B img (remove_stores B v k)) (slot_of B v k) (gone.frame B sz img ok k hit) s (gone.other B sz img ok k hit s w'.file) nm h z w')
        (λ r. subst After (refused-keeps B img (removes k) r) w)
    was (requests (changes (writes k o bs))) w new = subst (λ (x : View). Shown B x s nm h z) (write_view k o bs) w
    was mends w new = subst After (ap (λ (o : Outcome). o.image) (sound-mend B sz img ok)) w
    was (requests (fetches c k buf)) w new = subst After (fetch-image B img c k buf) w
    was (requests checks) w new = w
    was (requests (reads k o buf)) w new = subst After (read-image B img k o buf) w
    was (requests (lists t)) w new = w
    was (requests counts) w new = w

  -- create's number is the one that list shows for that name
  answered : (nm : List ℕ) (z h : ℕ) → (create B img nm z).answer ≡ value h → (s : ℕ) × (list_answer B (create B img nm z).image s ≡ file nm h z)
  unfolding perform
  answered nm z h e =
      let g : T (granted (create B img nm z).answer) = subst (λ (a : Answer). T (granted a)) (sym e) tt in
      let gr : CreateGrant B v nm z = create-granted B img passed nm z g in (
        free_slot B v,
        (shown B sz (create B img nm z).image (any-consistent B sz img ok (requests (changes (creates nm z)))) (free_slot B v) nm h z).1
            (subst (λ (x : List ℕ). Shown B (view B x) (free_slot B v) nm h z) (sym (create-image B img passed nm z g))
            (record {
              file = made.new-file B sz img ok nm z gr;
              named = made.new-name B sz img ok nm z gr;
              number = made.new-number B sz img ok nm z gr ∙ create-number B img passed nm z h e;
              sized = made.new-size B sz img ok nm z gr;
            })),
      )

-- ---- any image: what is shown passed the check
told : (x : Verdict) (a : Answer) (nm : List ℕ) (h z : ℕ) → checked x refused a ≡ file nm h z → x ≡ consistent
told consistent a nm h z e = refl
told (broken num p) a nm h z e = absurd (let y : ◌≡◌ {A = ℕ} 0 1 = cc in omega arith)

module _ (B : ℕ) (sz : BlockSize B) (img : List ℕ) where
  shown-consistent : (s : ℕ) (nm : List ℕ) (h z : ℕ) → list_answer B img s ≡ file nm h z → Consistent B img
  unfolding list_answer
  shown-consistent s nm h z e = (check-means B sz img).0 (told (check B img) _ nm h z e)

  -- after a format nothing is shown
  empty : (label : List ℕ) → T (granted (format B img label).answer) → (h : ℕ) → ShowsNone B (format B img label).image h
  empty label g h s z nm e =
      let w : Shown B (view B (format B img label).image) s nm h z = (shown B sz (format B img label).image (format-consistent sz img label g) s nm h z).0 e in
      T_not (free (view B (format B img label).image) s) w.file.taken (format-free sz img label g s)

  -- the number of a file that ends is of none
  freed : (s z h : ℕ) (nm : List ℕ) → list_answer B img s ≡ file nm h z → (x : Operation) → EndsName B nm img x → ShowsNone B (operate B img x).image h
  unfolding perform
  freed s z h nm e _ (removed k same g) t y j f =
      let ok : Consistent B img = shown-consistent s nm h z e in
      let v : View = view B img in
      let w : Shown B (view B img) s nm h z = (shown B sz img ok s nm h z).0 e in
      let hit : slot_of B (view B img) k < slots B = remove-granted B img ((check-means B sz img).1 ok) k g in
      let new : List ℕ = store_all B img (remove_stores B v k) in
      let u : Shown B (view B (store_all B img (remove_stores B (view B img) k))) t j h y =
      subst (λ (x : List ℕ). Shown B (view B x) t j h y) (remove-image B img ((check-means B sz img).1 ok) k g)
      ((shown B sz (remove B img k).image (any-consistent B sz img ok (requests (changes (removes k)))) t j h y).0 f)
      in
      let d : t ≢ slot_of B (view B img) k = gone.other B sz img ok k hit t u.file in
      let was-there : Shown B (view B img) t j h y = shown-from B img new (slot_of B v k) (gone.frame B sz img ok k hit) t d j h y u in
      let at : slot_of B (view B img) k ≡ s = slot_is B v k ok.sound.apart s w.file (subst (λ (x : List ℕ). T (same_name x k)) (sym w.named) same) in
      d (ap slot_in (ok.sound.once h (inode_of t) (inode_of s) (was-there.file, was-there.number) (w.file, w.number)) ∙ sym at)
  freed s z h nm e _ (formatted label g) t y j f = empty label g h t y j f

  -- no file has the number that a create answers
  unmarked : (nm : List ℕ) (z h : ℕ) → CreateRule B (view B img) nm z (value h) → map_bit (view B img).map h ≡ false × (h < (view B img).n)
  unmarked nm z h (created s _ r k f w room low) = (low.clear, low.below)

  new-number : (nm : List ℕ) (z h : ℕ) → (create B img nm z).answer ≡ value h → ShowsNone B img h
  new-number nm z h e s y j f =
      let ok : Consistent B img = shown-consistent s j h y f in
      let w : Shown B (view B img) s j h y = (shown B sz img ok s j h y).0 f in
      let c = unmarked nm z h ((create-answers B sz img ok nm z (value h)).0 e) in
      subst T c.0 ((ok.sound.mapped h c.1).1 (inr (inode_of s, (w.file, w.number))))

  -- a number that list shows nowhere, on a volume that breaks a rule
  faulty : (h : ℕ) → ShowsNone B img h → (num p : ℕ) → FirstBroken B img num p → (x : Operation) → (GivesNumber B h img x → ⊥) → ShowsNone B (operate B img x).image h
  faulty h none num p first (formats label) new =
      by-test (granted (format B img label).answer) (λ g. empty label g h) (λ r. subst (λ (i : List ℕ). ShowsNone B i h) (sym (format-refused B img label r)) none)
  faulty h none num p first mends new =
      by-test (granted (mend B img).answer)
      (λ g s z nm e.
      let w : Shown B (view B (mend B img).image) s nm h z = (shown B sz (mend B img).image (mend-consistent B sz img g) s nm h z).0 e in
      let f = mend-file B sz img g s w.file in
      new (mended s (λ ok. none-broken B img ok num p first.here) g f.0 (sym f.1 ∙ w.number)))
      (λ r. subst (λ (i : List ℕ). ShowsNone B i h) (sym (mend-refused B sz img r)) none)
  faulty h none num p first (requests r) new = subst (λ (o : Outcome). ShowsNone B o.image h) (sym (fault-reply B sz img num p first r)) none

  -- and on any
  none-step : (x : Operation) (h : ℕ) → ShowsNone B img h → (GivesNumber B h img x → ⊥) → ShowsNone B (operate B img x).image h
  none-step x h none new = go (check B img) refl
    where
      go : (y : Verdict) → check B img ≡ y → ShowsNone B (operate B img x).image h
      go consistent p s z nm e =
          let ok : Consistent B img = (check-means B sz img).0 p in
          none s z nm ((shown B sz img ok s nm h z).1 (was B sz img ok s nm h z x ((shown B sz (operate B img x).image (any-consistent B sz img ok x) s nm h z).0 e) new))
      go (broken num p) b s z nm e = faulty h none num p ((check-breaks B sz img num p).0 b) x new s z nm e

-- ---- any list of them
kept-after : (B : ℕ) → BlockSize B → (xs : List Operation) (img : List ℕ) (s z h : ℕ) (nm : List ℕ) → list_answer B img s ≡ file nm h z → Never B (EndsName B nm) img xs → list_answer B (after_all B img xs) s ≡ file nm h z
unfolding after_all
kept-after B sz [] img s z h nm e stays = e
kept-after B sz (x ∷ xs) img s z h nm e stays =
    let ok : Consistent B img = shown-consistent B sz img s nm h z e in
    kept-after B sz xs (operate B img x).image s z h nm
    ((shown B sz (operate B img x).image (any-consistent B sz img ok x) s nm h z).1 (keeps B sz img ok s nm h z x ((shown B sz img ok s nm h z).0 e) stays.0)) stays.1

none_after : (B : ℕ) → BlockSize B → (xs : List Operation) (img : List ℕ) (h : ℕ) → ShowsNone B img h → Never B (GivesNumber B h) img xs → ShowsNone B (after_all B img xs) h
unfolding after_all
none_after B sz [] img h none new = none
none_after B sz (x ∷ xs) img h none new = none_after B sz xs (operate B img x).image h (none-step B sz img x h none new.0) new.1

pub inode-law : (B : ℕ) → BlockSize B → (img : List ℕ) → InodeLaws B img
unfolding perform
inode-law B sz img =
    record {
      created = λ nm z h e. answered B sz img (granted-consistent B sz img (creates nm z) (grants nm z h e)) nm z h e;
      fresh = new-number B sz img;
      listed = λ s z h nm e.
          let ok : Consistent B img = shown-consistent B sz img s nm h z e in
          let a : Shown B (view B img) s nm h z = (shown B sz img ok s nm h z).0 e in
          let st : Stands B (view B img) nm s = record { file = a.file; named = a.named } in
          (stands-named B img ok nm s st, st, a.sized);
      apart = λ s t y z h nm k e f.
          let ok : Consistent B img = shown-consistent B sz img s nm h y e in
          let a : Shown B (view B img) s nm h y = (shown B sz img ok s nm h y).0 e in
          let b : Shown B (view B img) t k h z = (shown B sz img ok t k h z).0 f in
          ap slot_in (ok.sound.once h (inode_of s) (inode_of t) (a.file, a.number) (b.file, b.number));
      named = λ s t y z h i nm k same e f.
          let ok : Consistent B img = shown-consistent B sz img s nm h y e in
          let a : Shown B (view B img) s nm h y = (shown B sz img ok s nm h y).0 e in
          let b : Shown B (view B img) t k i z = (shown B sz img ok t k i z).0 f in
          ok.sound.apart s t a.file b.file (subst (λ (x : List ℕ). T (same_name x (name (view B img) t))) (sym a.named) (subst (λ (x : List ℕ). T (same_name nm x)) (sym b.named) same));
      kept = λ xs. kept-after B sz xs img;
      ended = freed B sz img;
      none = λ xs. none_after B sz xs img;
    }
  where
    grants : (nm : List ℕ) (z h : ℕ) → (create B img nm z).answer ≡ value h → T (granted (perform B img (creates nm z)).answer)
    grants nm z h e = subst (λ (a : Answer). T (granted a)) (sym e) tt
