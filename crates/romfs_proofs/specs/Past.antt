-- Bytes past F never matter: no answer depends on them, nor on how many there are.
use Prim.Native.Nat.{ℕ, zero, suc, ◌+◌, ◌*◌, ◌-◌, ◌/◌, ◌%◌, ◌≤◌, ◌<◌, min, max}
use Rattle.std.specs.Prelude.{◌≡◌, ◌≢◌, Bool, ◌&&◌, ◌||◌, List, length, get_or, take, drop, ltb}
use Rattle.std.proofs.Math.Path.{refl, ap}
use Rattle.std.proofs.Common.{sym, ◌∙◌, arith, length-take, length-drop, get_or-take, ext_get_or}
use Rattle.std.proofs.Math.Bool.{true, false, not, cond}
use Rattle.std.proofs.Math.Decide.{dec_lt}
use Rattle.std.proofs.Math.Numerals.{sub-one}
use borrow.Author.Tests.{ltb-false, lt-ltb, le-ltb, eqb-false}
use Rattle.std.proofs.Math.Dec.{eqb}
use Rattle.lists.specs.Lists.{same_list, least, zero_at, word, part}
use Rattle.list_laws.specs.Least.{least-le, least-cong}
use Rattle.list_laws.specs.Word.{word-cong}
use Rattle.list_laws.specs.Part.{get_or-part}
use Rattle.romfs_spec.specs.Layout.{full_size, name_length, name_ends, after_name, first_root, type_of_file, executable, next, info, size, name, content_at, end_of, own, is_dots, descends, has_list, has_data, sum_of_words}
use Rattle.romfs_spec.specs.Check.{Verdict, accepted, broken, too_short, bad_magic, bad_full_size, bad_volume_sum, bad_volume_name, over_bound, bad_name, bad_sum, bad_info, bad_size, bad_header, bad_next, bad_first, bad_nesting, too_deep, fault, and_then, visit_list, visit_entry, visit_all, walk, towards, seek, is_reached, bad_link, links, volume, check}
use Rattle.romfs_facts.specs.Tested.{along, IsReached, Sound, root}
use Rattle.romfs_spec.specs.Requests.{Answer, granted, refused, checked, first_of, match_from, match_in, is_directory, find_step, find, entry_at, entry_step, entry, content_step, content_length, part_of, content, content_start}
use Rattle.romfs_facts.specs.Facts.{and-yes-l, fault-sound, next-to, own-to, first-16, first_to}
use Rattle.romfs_facts.specs.Visit.{entry-test}
use Rattle.romfs_facts.specs.Walked.{Volume, volume-of, full-16, root_in, reached-room}
use Rattle.romfs_facts.specs.Seek.{is-reached, towards-reached}
use Rattle.romfs_facts.specs.Theorems.{check-parts}
use Rattle.romfs_spec.specs.Statements.{SameFull, SameAnswers}
use Rattle.romfs_proofs.specs.Plain.{full_is}
use Rattle.romfs_facts.specs.Given.{dir-is, first-reached, content-in}

-- t holds the same first F bytes as s, by full_size
abbrev Same : List ℕ → List ℕ → Type 0
Same s t = take (max 32 (full_size s)) t ≡ take (max 32 (full_size s)) s

-- ---- what a test keeps out need not be the same
cond-then {ℓ} : {X : Type ℓ} (b : Bool) (x y z : X) → (b ≡ true → x ≡ y) → cond b x z ≡ cond b y z
cond-then true x y z h = h refl
cond-then false x y z h = refl

cond-else {ℓ} : {X : Type ℓ} (b : Bool) (x y z : X) → (b ≡ false → x ≡ y) → cond b z x ≡ cond b z y
cond-else true x y z h = refl
cond-else false x y z h = h refl

and-then : (a b c : Bool) → (a ≡ true → b ≡ c) → (a && b) ≡ (a && c)
and-then true b c h = h refl
and-then false b c h = refl

or_else : (a b c : Bool) → (a ≡ false → b ≡ c) → (a || b) ≡ (a || c)
or_else true b c h = refl
or_else false b c h = h refl

then-else : (v x y : Verdict) → (v ≡ accepted → x ≡ y) → and_then v x ≡ and_then v y
then-else accepted x y h = h refl
then-else (broken n p) x y h = refl

checked-then : {A : Type 0} (v : Verdict) (x y : Answer A) → (v ≡ accepted → x ≡ y) → checked v x ≡ checked v y
checked-then accepted x y h = h refl
checked-then (broken n p) x y h = refl

-- a part of the first m bytes is one of the whole
part-take : (m a n : ℕ) (l : List ℕ) → a + n ≤ m → part a n (take m l) ≡ part a n l
unfolding part
part-take m a n l h =
    ext_get_or 0 (part a n (take m l)) (part a n l) (simp (length-take, length-drop) (omega arith))
    (λ i k.
    let j : i < n = omega (arith, length-take n (drop a (take m l))) in
    get_or-part a n (take m l) i j ∙ get_or-take m l (a + i) 0 (omega arith) ∙ sym (get_or-part a n l i j))

-- headers are at multiples of 16
next-16 : (s : List ℕ) (p : ℕ) → next s p % 16 ≡ 0
unfolding next
next-16 s p = omega arith

root-16 : (s : List ℕ) → first_root s % 16 ≡ 0
unfolding first_root after_name
root-16 s = omega arith

module _ (s t : List ℕ) (same : Same s t) where
  -- ---- bytes, words and names below F
  byte : (i : ℕ) → i < max 32 (full_size s) → get_or t i 0 ≡ get_or s i 0
  byte i h =
      sym (get_or-take (max 32 (full_size s)) t i 0 h)
      ∙ ap (λ (l : List ℕ). get_or l i 0) same
      ∙ get_or-take (max 32 (full_size s)) s i 0 h

  long : min (max 32 (full_size s)) (length t) ≡ min (max 32 (full_size s)) (length s)
  long = sym (length-take (max 32 (full_size s)) t) ∙ ap length same ∙ length-take (max 32 (full_size s)) s

  word_at : (p : ℕ) → p + 4 ≤ max 32 (full_size s) → word t p ≡ word s p
  word_at p h = word-cong t s p p (λ j l. byte (p + j) (omega arith))

  full : full_size t ≡ full_size s
  unfolding full_size
  full = word_at 8 (omega arith)

  sum-at : (p n : ℕ) → p + 4 * n ≤ max 32 (full_size s) → sum_of_words t p n ≡ sum_of_words s p n
  unfolding sum_of_words
  sum-at p zero h = refl
  sum-at p (suc n) h = rw (sum-at p n (omega arith), word_at (p + 4 * n) (omega arith))

  part_at : (a n : ℕ) → a + n ≤ max 32 (full_size s) → part a n t ≡ part a n s
  part_at a n h =
      sym (part-take (max 32 (full_size s)) a n t (omega arith))
      ∙ ap (part a n) same
      ∙ part-take (max 32 (full_size s)) a n s (omega arith)

  name-length : (p : ℕ) → name_length t p ≡ name_length s p
  unfolding name_length zero_at
  name-length p =
      ap (λ (n : ℕ). least (λ i. zero_at t (p + i)) (n - p)) full
      ∙ least-cong (λ i. zero_at t (p + i)) (λ i. zero_at s (p + i)) (full_size s - p) (λ i l. ap (λ (b : ℕ). eqb b 0) (byte (p + i) (omega arith)))

  name-ends : (p : ℕ) → name_ends t p ≡ name_ends s p
  unfolding name_ends
  name-ends p = rw (name-length p, full)

  after-name : (p : ℕ) → after_name t p ≡ after_name s p
  unfolding after_name
  after-name p = rw (name-length p)

  first-root : first_root t ≡ first_root s
  unfolding first_root
  first-root = after-name 16

  content-at : (p : ℕ) → content_at t p ≡ content_at s p
  unfolding content_at
  content-at p = after-name (p + 16)

  -- ---- 21 to 25
  less-at : (n : ℕ) → n ≤ max 32 (full_size s) → ltb (length t) n ≡ ltb (length s) n
  less-at n h =
      elim (dec_lt (length s) n) [
        | yes l ↦ lt-ltb (length t) n (omega (arith, long)) ∙ sym (lt-ltb (length s) n l)
        | no l ↦ le-ltb (length t) n (omega (arith, long)) ∙ sym (le-ltb (length s) n (omega arith))
      ]

  volume-same : volume t ≡ volume s
  unfolding volume too_short bad_magic bad_full_size bad_volume_sum bad_volume_name
  volume-same =
      rw (less-at 32 (omega arith), part_at 0 8 (omega arith), full, less-at (full_size s) (omega arith), sum-at 0 (min 512 (full_size s) / 4) (omega arith), name-ends 16)

  -- ---- a header inside F
  module _ (p : ℕ) (fits : p + 16 ≤ full_size s) where
    type_at : type_of_file t p ≡ type_of_file s p
    unfolding type_of_file
    type_at = rw (word_at p (omega arith))

    executable-at : executable t p ≡ executable s p
    unfolding executable
    executable-at = rw (word_at p (omega arith))

    next-at : next t p ≡ next s p
    unfolding next
    next-at = rw (word_at p (omega arith))

    info-at : info t p ≡ info s p
    unfolding info
    info-at = word_at (p + 4) (omega arith)

    size-at : size t p ≡ size s p
    unfolding size
    size-at = word_at (p + 8) (omega arith)

    name-at : name t p ≡ name s p
    unfolding name name_length
    name-at = rw (name-length (p + 16)) (part_at (p + 16) (name_length s (p + 16)) (omega (arith, least-le (λ i. zero_at s (p + 16 + i)) (full_size s - (p + 16)))))

    end-at : end_of t p ≡ end_of s p
    unfolding end_of
    end-at = rw (content-at p, size-at)

    own_at : (bound : ℕ) → own t bound p ≡ own s bound p
    unfolding own
    own_at bound = rw next-at

    dots-at : is_dots t p ≡ is_dots s p
    unfolding is_dots
    dots-at = rw name-at

    descends-at : descends t p ≡ descends s p
    unfolding descends
    descends-at = rw (type_at, dots-at)

    list_at : has_list t p ≡ has_list s p
    unfolding has_list
    list_at = rw (descends-at, info-at)

    towards-at : (want : ℕ) → towards t want p ≡ towards s want p
    unfolding towards
    towards-at want = rw (next-at, descends-at, info-at)

    -- 26 to 28: where the end is inside F, the sum is of bytes inside F
    sum-bad : (bound : ℕ) → bound ≤ full_size s → over_bound s bound p ≡ false → bad_sum t p ≡ bad_sum s p
    unfolding bad_sum over_bound end_of
    sum-bad bound h o =
        rw (content-at p, sum-at p ((content_at s p - p) / 4) (omega (arith, ltb-false bound (end_of s p) o)))

    header_at : (bound : ℕ) → bound ≤ full_size s → bad_header t bound p ≡ bad_header s bound p
    unfolding bad_header over_bound bad_name bad_info bad_size
    header_at bound h =
        rw (end-at, name-length (p + 16), name-ends (p + 16), type_at, info-at, size-at)
        (or_else (over_bound s bound p) _ _ (λ o. rw (sum-bad bound h o)))

    nesting-at : (bound : ℕ) → bad_nesting t bound p ≡ bad_nesting s bound p
    unfolding bad_nesting bad_next bad_first
    nesting-at bound = rw (next-at, end-at, list_at, info-at, own_at bound)

    fault-at : (bound depth : ℕ) → bound ≤ full_size s → fault t bound depth p ≡ fault s bound depth p
    unfolding fault too_deep
    fault-at bound depth h = rw (header_at bound h, nesting-at bound, list_at)

  -- ---- the walk
  -- a list inside F is visited alike; left is how many lists may be below it
  abbrev Lists : ℕ → Type 0
  Lists left = (fuel p bound depth : ℕ) → left + depth ≡ 8 → p % 16 ≡ 0 → p < bound → bound ≤ full_size s → visit_list t (visit_entry t (fault t) left bound) fuel p ≡ visit_list s (visit_entry s (fault s) left bound) fuel p

  module _ (v : Volume s) where
    room_at : (p : ℕ) → p % 16 ≡ 0 → p < full_size s → p + 16 ≤ full_size s
    room_at p e h = omega (arith, full-16 s v)

    entry-same : (left p bound depth : ℕ) → (left ≢ 0 → Lists (left - 1)) → left + depth ≡ 8 → p + 16 ≤ full_size s → bound ≤ full_size s → visit_entry t (fault t) left bound p ≡ visit_entry s (fault s) left bound p
    unfolding visit_entry
    entry-same zero p bound depth deep l h k = fault-at p h bound 8 k
    entry-same (suc left) p bound depth deep l h k =
        rw (fault-at p h bound (7 - left) k, list_at p h, own_at p h bound, info-at p h)
        (then-else (fault s bound (7 - left) p) _ _
        (λ a.
        cond-then (has_list s p) _ _ accepted
        (λ u.
        let o : Sound s p bound (7 - left) = fault-sound s p bound (7 - left) a in
        (rw sub-one at (deep (omega arith))) (own s bound p - info s p) (info s p) (own s bound p) (suc depth) (omega arith)
        (first-16 s p bound (7 - left) o u)
        (first_to s p bound (7 - left) o u)
        (omega (arith, own-to s p bound (7 - left) o)))))

    list_same : (left : ℕ) → (left ≢ 0 → Lists (left - 1)) → Lists left
    unfolding visit_list
    list_same left deep zero p bound depth l e h k = refl
    list_same left deep (suc fuel) p bound depth l e h k =
        let r : p + 16 ≤ full_size s = room_at p e (omega arith) in
        rw (entry-same left p bound depth deep l r k, next-at p r)
        (then-else (visit_entry s (fault s) left bound p) _ _
        (λ a.
        cond-else (eqb (next s p) 0) _ _ accepted
        (λ z.
        let o : Sound s p bound depth = fault-sound s p bound depth (entry-test s (fault s) bound p left depth l a) in
        list_same left deep fuel (next s p) bound depth l (next-16 s p) (next-to s p bound depth o (eqb-false (next s p) 0 z)) k)))

    lists : (left : ℕ) → Lists left
    lists zero = list_same zero (λ z. absurd (z refl))
    lists (suc left) = list_same (suc left) (λ z. rw sub-one (lists left))

    walk_same : walk t ≡ walk s
    unfolding walk visit_all
    walk_same =
        rw (first-root, full)
        (cond-else (eqb (first_root s) (full_size s)) _ _ accepted
        (λ z.
        lists 7 (full_size s - first_root s) (first_root s) (full_size s) 1 (omega arith) (root-16 s) (root_in s v (eqb-false (first_root s) (full_size s) z)) (omega arith)))

  -- ---- reached headers, on an accepted walk
  module _ (v : Volume s) (w : walk s ≡ accepted) where
    reached-at : (p : ℕ) → IsReached s p → p + 16 ≤ full_size s
    reached-at p r = omega (arith, reached-room s v w p r.bound r.depth r.reached)

    seek-at : (want fuel p : ℕ) → IsReached s p → seek t want fuel p ≡ seek s want fuel p
    unfolding seek
    seek-at want zero p r = refl
    seek-at want (suc fuel) p r =
        rw (towards-at p (reached-at p r) want)
        (cond-else (eqb want p) _ _ true
        (λ o. cond-else (eqb (towards s want p) 0) _ _ false (λ z. seek-at want fuel (towards s want p) (towards-reached s want p r (eqb-false (towards s want p) 0 z)))))

    is_at : (want : ℕ) → is_reached t want ≡ is_reached s want
    unfolding is_reached
    is_at want =
        rw (first-root, full)
        (cond-else (eqb (first_root s) (full_size s)) _ _ false
        (λ z. seek-at want (full_size s) (first_root s) (record { bound = full_size s; depth = 1; reached = root (eqb-false (first_root s) (full_size s) z) })))

    -- the type is asked only of a reached header
    type-reached : (p : ℕ) → is_reached s p ≡ true → type_of_file t p ≡ type_of_file s p
    type-reached p e = type_at p (reached-at p (is-reached s p e))

    -- 29
    link_at : (p : ℕ) → is_reached s p ≡ true → bad_link t p ≡ bad_link s p
    unfolding bad_link
    link_at p e =
        let h : p + 16 ≤ full_size s = reached-at p (is-reached s p e) in
        rw (type_at p h, info-at p h, dots-at p h, is_at (info s p), and-then (is_reached s (info s p)) _ _ (λ r. ap (λ (k : ℕ). not (eqb k 0)) (type-reached (info s p) r)))

    links-same : links t ≡ links s
    unfolding links
    links-same =
        let e : least (λ p. is_reached t p && bad_link t p) (full_size s) ≡ least (λ p. is_reached s p && bad_link s p) (full_size s) =
        least-cong (λ p. is_reached t p && bad_link t p) (λ p. is_reached s p && bad_link s p) (full_size s)
        (λ p l. ap (λ (r : Bool). r && bad_link t p) (is_at p) ∙ and-then (is_reached s p) _ _ (λ r. link_at p r)) in
        rw (full, e)

    -- ---- find, entry and content
    directory-at : (dir : ℕ) → is_directory t dir ≡ is_directory s dir
    unfolding is_directory
    directory-at dir = rw (is_at dir, and-then (is_reached s dir) _ _ (λ r. ap (λ (k : ℕ). eqb k 1) (type-reached dir r)))

    first-at : (dir : ℕ) → is_directory s dir ≡ true → first_of t dir ≡ first_of s dir
    unfolding first_of
    first-at dir d =
        rw (first-root, full) (cond-else (eqb dir 0) _ _ _ (λ z. info-at dir (reached-at dir (dir-is s dir d (eqb-false dir 0 z)))))

    match-at : (want : List ℕ) (fuel p : ℕ) → IsReached s p → match_from t want fuel p ≡ match_from s want fuel p
    unfolding match_from
    match-at want zero p r = refl
    match-at want (suc fuel) p r =
        rw (name-at p (reached-at p r), next-at p (reached-at p r))
        (cond-else (same_list (name s p) want) _ _ p
        (λ o. cond-else (eqb (next s p) 0) _ _ 0 (λ z. match-at want fuel (next s p) (record { bound = r.bound; depth = r.depth; reached = along r.reached (eqb-false (next s p) 0 z) }))))

    described-at : (p : ℕ) → entry_step t p ≡ entry_step s p
    unfolding entry_step entry_at
    described-at p =
        rw (is_at p, name-length (p + 16))
        (cond-then (is_reached s p) _ _ _
        (λ e.
        let h : p + 16 ≤ full_size s = reached-at p (is-reached s p e) in
        rw (type_at p h, executable-at p h, info-at p h, size-at p h, next-at p h)))

    measured-at : (p : ℕ) → content_step t p ≡ content_step s p
    unfolding content_step
    measured-at p =
        rw (is_at p, and-then (is_reached s p) _ _ (λ e. ap has_data (type-reached p e)))
        (cond-then (is_reached s p && has_data (type_of_file s p)) _ _ _
        (λ e. ap granted (size-at p (reached-at p (is-reached s p (and-yes-l (is_reached s p) (has_data (type_of_file s p)) e))))))

  -- ---- the requests
  check-same : check t ≡ check s
  unfolding check
  check-same =
      rw volume-same
      (then-else (volume s) _ _
      (λ a. rw (walk_same (volume-of s a)) (then-else (walk s) _ _ (links-same (volume-of s a)))))

  found-same : (dir : ℕ) (want : List ℕ) → check s ≡ accepted → find_step t dir want ≡ find_step s dir want
  unfolding find_step match_in
  found-same dir want a =
      let parts = check-parts s a in
      let v : Volume s = volume-of s parts.0 in
      rw (directory-at v parts.1 dir, full)
      (cond-then (is_directory s dir) _ _ _
      (λ d.
      let e : cond (eqb (first_of s dir) 0) 0 (match_from t want (full_size s) (first_of s dir)) ≡ cond (eqb (first_of s dir) 0) 0 (match_from s want (full_size s) (first_of s dir)) =
      cond-else (eqb (first_of s dir) 0) _ _ 0 (λ z. match-at v parts.1 want (full_size s) (first_of s dir) (first-reached s dir a d (eqb-false (first_of s dir) 0 z))) in
      rw (first-at v parts.1 dir d, e)))

  length-same : (p : ℕ) → content_length t p ≡ content_length s p
  unfolding content_length
  length-same p =
      rw check-same
      (checked-then (check s) _ _ (λ a. let parts = check-parts s a in measured-at (volume-of s parts.0) parts.1 p))

  content-same : (p : ℕ) → content t p ≡ content s p
  unfolding content
  content-same p = rw (content-at p, length-same p) (go (content_length s p) (λ n e. (content-in s p n e).inside))
    where
      go : (x : Answer ℕ) → ((n : ℕ) → x ≡ granted n → content_at s p + n ≤ full_size s) → part_of t (content_at s p) x ≡ part_of s (content_at s p) x
      go (granted n) h = part_at (content_at s p) n (omega (arith, h n refl))
      go (refused n q) h = refl

  start-same : (p : ℕ) → content_start t p ≡ content_start s p
  unfolding content_start
  start-same p = rw (content-at p, length-same p)

-- No answer depends on the bytes past F, whether the image is accepted or refused.
pub past-full : (s t : List ℕ) → SameFull s t → SameAnswers s t
unfolding find entry
past-full s t given =
    let same : Same s t = rw (full_is s) given in
    record {
      checks = check-same s t same;
      finds = λ dir want. rw (check-same s t same) (checked-then (check s) _ _ (found-same s t same dir want));
      entries = λ p.
          rw (check-same s t same)
          (checked-then (check s) _ _ (λ a. let parts = check-parts s a in described-at s t same (volume-of s parts.0) parts.1 p));
      lengths = length-same s t same;
      contents = content-same s t same;
      starts = start-same s t same;
    }
