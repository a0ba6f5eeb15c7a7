-- What the check means: it grants exactly the consistent volumes, and otherwise gives the first broken rule at its lowest place.
use Rattle.std.specs.Prelude.{◌≡◌, refl, ◌⊎◌, ◌≢◌, ◌↔◌, true, false, cond, ◌&&◌, ◌||◌, leb, eqb}
use Rattle.std.proofs.Common.{sym, ap, ap₂, ◌∙◌, ⊎_elim, div-lt_iff_lt-mul, suc-mul, arith, leb→le, le→leb, nltb→le}
use Rattle.std.proofs.Math.Path.{subst}
use Rattle.std.proofs.Math.Logic.{inl, inr}
use Rattle.std.proofs.Math.Bool.{Bool, not}
use Rattle.std.specs.Bool.{beq}
use Prim.Native.Nat.{ℕ, suc, ◌+◌, ◌-◌, ◌*◌, ◌≤◌, ◌<◌}
use mathlib.Core.List.{List}
use Rattle.std.proofs.Math.Decide.{dec_le, dec_lt, ℕ_discrete}
use Rattle.std.proofs.Math.Arith.{le→nltb}
use Rattle.std.proofs.Math.ListN.{length, get_or}
use Rattle.std.proofs.Math.Dec.{T, ltb, eqb→eq, ltb→lt, lt→ltb, nleb→lt, T_not, not_T}
use Rattle.lists.specs.Lists.{least, zero_at, first_zero, word}
use Rattle.list_laws.specs.Test.{by-test, cond_yes, cond_no, and-of, and_l, and_r, or_l, or_r, or-second, yes-yes, eqb_of, neqb-of, same-eq, same_refl}
use Rattle.list_laws.specs.Least.{least-hit, least-below, least-none, least-all}
use Rattle.list_laws.specs.Part.{length_part}
use Rattle.tfs_spec.specs.Layout.{BlockSize, slots, numbers, max_size, need, block, slot, slot_inode, name_field, slot_free, name_formed, slot_used, magic, volume_name, in_range, map_bit, same_name, View, view_n, view, free, used, inode, name, size, number}
use Rattle.tfs_spec.specs.Check.{Verdict, consistent, broken, found, too_short, bad_magic, bad_label, repeats, bad_slot, bad_number, bad_inode, claims, times, claimed_twice, bad_bit, check_view, check}
use Rattle.tfs_spec.specs.Consistent.{number_at, File, Owner, inode_of, content_of, Owns, Owned, Inside, Sound, Consistent, WrongNumber, Broken, short, unmagical, unlabelled, malformed, repeated, oversized, misnumbered, twice, unmarked, stray, FirstBroken}
use Rattle.tfs_facts.specs.Raw.{head-number, label-byte}
use Rattle.tfs_facts.specs.Slots.{zero-found}
use Rattle.tfs_facts.specs.Claims.{owned-claimed, claimed-owned, owners-twice, twice-owners}

-- ---- a rule in the order of rules
-- rule num is broken at p and nowhere below, and the verdict says so
record Hit (Bad : ℕ → Type 0) (num : ℕ) (verdict : Verdict) : Type 0 where
  place : ℕ
  says : verdict ≡ broken num place
  here : Bad place
  lower : (q : ℕ) → q < place → Bad q → ⊥

-- the rule is not broken, and the verdict is that of the later rules
record Miss (Bad : ℕ → Type 0) (verdict later : Verdict) : Type 0 where
  says : verdict ≡ later
  none : (q : ℕ) → Bad q → ⊥

abbrev Rule : (ℕ → Type 0) → ℕ → Verdict → Verdict → Type 0
Rule Bad num verdict later = Hit Bad num verdict ⊎ Miss Bad verdict later

-- a rule that has place 0 alone
rule-whole : (Bad : ℕ → Type 0) (num : ℕ) (later : Verdict) (b : Bool) → (T b → Bad 0) → ((q : ℕ) → Bad q → T b) → Rule Bad num (cond b (broken num 0) later) later
rule-whole Bad num later true yes-bad bad-yes = inl (record { place = 0; says = refl; here = yes-bad tt; lower = λ q l h. omega arith })
rule-whole Bad num later false yes-bad bad-yes = inr (record { says = refl; none = bad-yes })

-- a rule over the places below n
rule-places : (Bad : ℕ → Type 0) (num : ℕ) (later : Verdict) (f : ℕ → Bool) (n : ℕ) → ((p : ℕ) → p < n → T (f p) → Bad p) → ((q : ℕ) → Bad q → (q < n) × T (f q)) → Rule Bad num (found num n (least f n) later) later
rule-places Bad num later f n yes-bad bad-yes =
    by-test (ltb (least f n) n)
    (λ t.
    let l : least f n < n = ltb→lt (least f n) n t in
    inl (record {
      place = least f n;
      says = cond_yes (ltb (least f n) n) _ later t;
      here = yes-bad (least f n) l (least-hit f n l);
      lower = λ q k h. T_not (f q) (least-below f n q k) (bad-yes q h).1;
    }))
    (λ t.
    inr (record {
      says = cond_no (ltb (least f n) n) _ later t;
      none = λ q h. T_not (f q) (least-none f n (nltb→le (least f n) n t) q (bad-yes q h).0) (bad-yes q h).1;
    }))

-- ---- what the tests say
-- rule 3: no zero among 16 bytes
label-bad : (l : List ℕ) → length l ≡ 16 → T (leb 16 (first_zero l)) → (i : ℕ) → i < 16 → get_or l i 0 ≢ 0
unfolding first_zero zero_at
label-bad l e t i h z = T_not (zero_at l i) (least-below (zero_at l) (length l) i (omega (arith, leb→le 16 (least (zero_at l) (length l)) t))) (eqb_of z)

label-yes : (l : List ℕ) → length l ≡ 16 → ((i : ℕ) → i < 16 → get_or l i 0 ≢ 0) → T (leb 16 (first_zero l))
unfolding first_zero zero_at
label-yes l e h =
    le→leb 16 (least (zero_at l) (length l))
    (omega (arith, least-all (zero_at l) (length l) (λ i k. neqb-of (get_or l i 0) 0 (h i (omega arith)))))

label-zero : (l : List ℕ) → length l ≡ 16 → T (not (leb 16 (first_zero l))) → (i : ℕ) × (i < 16) × (get_or l i 0 ≡ 0)
unfolding first_zero zero_at
label-zero l e t =
    let i : ℕ = least (zero_at l) (length l) in
    let h : i < 16 = nleb→lt 16 i t in
    (i, h, eqb→eq (get_or l i 0) 0 (least-hit (zero_at l) (length l) (omega arith)))

-- "in 3..N−1"
pub in-range : (v : View) (b : ℕ) → T (in_range v.n b) → Inside v b
in-range v b t = record { low = leb→le 3 b (and_l (leb 3 b) _ t); high = ltb→lt b v.n (and_r (leb 3 b) _ t) }

pub range-in : (v : View) (b : ℕ) → Inside v b → T (in_range v.n b)
range-in v b h = and-of (leb 3 b) (ltb b v.n) (le→leb 3 b h.low) (lt→ltb b v.n h.high)

-- whether names are the same is whether they are equal
pub same-means : (a b : List ℕ) → T (same_name a b) ↔ (a ≡ b)
unfolding same_name
same-means a b = (same-eq a b, λ e. rw e (same_refl b))

-- of slot s of a directory of B bytes
module _ (B : ℕ) (v : View) (s : ℕ) (dir : length v.dir ≡ B) (low : s < slots B) where
  pub length-slot : length (slot v.dir s) ≡ 20
  unfolding slot
  length-slot = length_part (s * 20) 20 v.dir (omega arith)

  pub length-field : length (name_field (slot v.dir s)) ≡ 16
  length-field = length_part 4 16 (slot v.dir s) (omega (arith, length-slot))

  -- "a free slot has inode 0 and first name byte 0"
  pub free-means : T (free v s) ↔ ((inode v s ≡ 0) × (get_or (name_field (slot v.dir s)) 0 0 ≡ 0))
  unfolding free slot_free inode zero_at
  free-means =
      let i : ℕ = slot_inode (slot v.dir s) in
      let x : ℕ = get_or (name_field (slot v.dir s)) 0 0 in
      ((λ t. (eqb→eq i 0 (and_l (eqb i 0) (eqb x 0) t), eqb→eq x 0 (and_r (eqb i 0) (eqb x 0) t))), λ h. and-of (eqb i 0) (eqb x 0) (eqb_of h.0) (eqb_of h.1))

  -- "A used slot, its inode as before, has a zero in its 16 name bytes and a first byte not zero"
  pub used-means : T (used v s) ↔ (Inside v (inode v s) × ((i : ℕ) × (i < 16) × (get_or (name_field (slot v.dir s)) i 0 ≡ 0)) × (get_or (name_field (slot v.dir s)) 0 0 ≢ 0))
  unfolding used slot_used inode name_formed zero_at
  used-means =
      let i : ℕ = slot_inode (slot v.dir s) in
      let f : List ℕ = name_field (slot v.dir s) in
      let x : ℕ = get_or f 0 0 in
      let z : Bool = ltb (first_zero f) 16 in (
        (λ t.
            let u : T (z && not (eqb x 0)) = and_r (in_range v.n i) (name_formed f) t in
            let k = (zero-found f).0 (omega (arith, length-field, ltb→lt (first_zero f) 16 (and_l z (not (eqb x 0)) u))) in
            (in-range v i (and_l (in_range v.n i) _ t), (k.0, omega (arith, length-field, k.1), k.2), λ e. T_not (eqb x 0) (and_r z (not (eqb x 0)) u) (eqb_of e))),
        λ h.
            and-of (in_range v.n i) (name_formed f) (range-in v i h.0)
            (and-of z (not (eqb x 0)) (lt→ltb (first_zero f) 16 (omega (arith, length-field, (zero-found f).1 (h.1.0, omega (arith, length-field, h.1.1), h.1.2)))) (neqb-of x 0 h.2)),
      )

-- a test that holds somewhere below n is found
least-found : (f : ℕ → Bool) (n i : ℕ) → i < n → T (f i) → least f n < n
least-found f n i l t =
    elim (dec_lt (least f n) n) [ yes h ↦ h | no h ↦ absurd (T_not (f i) (least-none f n (omega arith) i l) t) ]

-- rule 4: the name of a lower slot
module _ (v : View) (s : ℕ) where
  repeats-bad : T (repeats v s) → (t : ℕ) × (t < s) × T (not (free v t)) × T (same_name (name v t) (name v s))
  unfolding repeats
  repeats-bad r =
      let f : ℕ → Bool = λ t. not (free v t) && same_name (name v t) (name v s) in
      let l : least f s < s = ltb→lt (least f s) s r in
      (least f s, l, and_l (not (free v (least f s))) _ (least-hit f s l), and_r (not (free v (least f s))) _ (least-hit f s l))

  repeats-yes : (t : ℕ) → t < s → T (not (free v t)) → T (same_name (name v t) (name v s)) → T (repeats v s)
  unfolding repeats
  repeats-yes t l h e = lt→ltb _ s (least-found (λ t. not (free v t) && same_name (name v t) (name v s)) s t l (and-of (not (free v t)) _ h e))

-- rule 5: a wrong number
module _ (B : ℕ) (v : View) (s : ℕ) where
  number-bad : (k : ℕ) → T (bad_number B v s k) → WrongNumber B v s k
  unfolding bad_number
  number-bad k h =
      by-test (ltb k (need B (size v s)))
      (λ t.
      inl (ltb→lt k (need B (size v s)) t, λ g. T_not (in_range v.n (number v s k)) (subst T (cond_yes (ltb k (need B (size v s))) _ _ t) h) (range-in v (number v s k) g)))
      (λ t.
      inr (nltb→le k (need B (size v s)) t, λ g. T_not (eqb (number v s k) 0) (subst T (cond_no (ltb k (need B (size v s))) _ _ t) h) (eqb_of g)))

  number-yes : (k : ℕ) → WrongNumber B v s k → T (bad_number B v s k)
  unfolding bad_number
  number-yes k (inl h) =
      subst T (sym (cond_yes (ltb k (need B (size v s))) _ _ (lt→ltb k (need B (size v s)) h.0)))
      (not_T (in_range v.n (number v s k)) (λ t. h.1 (in-range v (number v s k) t)))
  number-yes k (inr h) =
      subst T (sym (cond_no (ltb k (need B (size v s))) _ _ (le→nltb k (need B (size v s)) h.0))) (neqb-of (number v s k) 0 h.1)

-- rule 7: below 3 or claimed
abbrev reserved : ℕ → View → ℕ → Bool
reserved B v b = ltb b 3 || leb 1 (times b (claims B v))

module _ (B : ℕ) (v : View) (b : ℕ) where
  reserved-of : T (reserved B v b) → (b < 3) ⊎ Owned B v b
  reserved-of t =
      by-test (ltb b 3) (λ h. inl (ltb→lt b 3 h))
      (λ h. inr (claimed-owned B v b (leb→le 1 (times b (claims B v)) (or-second (ltb b 3) _ h t))))

  of-reserved : (b < 3) ⊎ Owned B v b → T (reserved B v b)
  of-reserved (inl h) = or_l (ltb b 3) _ (lt→ltb b 3 h)
  of-reserved (inr h) = or_r (ltb b 3) _ (le→leb 1 (times b (claims B v)) (owned-claimed B v b h))

-- two tests that differ
differ : (a b : Bool) → T (not (beq a b)) → (T (not a) × T b) ⊎ (T a × T (not b))
differ true true t = absurd t
differ true false t = inr (tt, tt)
differ false true t = inl (tt, tt)
differ false false t = absurd t

differ-less : (a b : Bool) → T (not a) → T b → T (not (beq a b))
differ-less true b s t = absurd s
differ-less false true s t = tt
differ-less false false s t = absurd t

differ-more : (a b : Bool) → T a → T (not b) → T (not (beq a b))
differ-more false b s t = absurd s
differ-more true true s t = absurd t
differ-more true false s t = tt

-- ---- owners
pub same-owner : (o p : Owner) → Dec (o ≡ p)
same-owner (inode_of s) (inode_of t) = elim (ℕ_discrete s t) [ yes e ↦ yes (ap inode_of e) | no e ↦ no (λ d. e (cc)) ]
same-owner (inode_of s) (content_of t k) = no (λ d. let z : ◌≡◌ {A = ℕ} 0 1 = cc in omega arith)
same-owner (content_of s k) (inode_of t) = no (λ d. let z : ◌≡◌ {A = ℕ} 0 1 = cc in omega arith)
same-owner (content_of s j) (content_of t k) =
    elim (ℕ_discrete s t) [
      | yes e ↦ elim (ℕ_discrete j k) [ yes i ↦ yes (ap₂ content_of e i) | no i ↦ no (λ d. i (cc)) ]
      | no e ↦ no (λ d. e (cc))
    ]

-- the inode of a used slot is in 3..N−1
pub used-inode : (v : View) (s : ℕ) → T (used v s) → Inside v (inode v s)
unfolding used slot_used inode
used-inode v s t = in-range v (slot_inode (slot v.dir s)) (and_l (in_range v.n (slot_inode (slot v.dir s))) _ t)

-- where slots are free or used and numbers in range, an owned block is in 3..N−1
owner-inside : (B : ℕ) (v : View) → ((s : ℕ) → s < slots B → T (free v s) ⊎ T (used v s)) → ((s k : ℕ) → File B v s → k < need B (size v s) → Inside v (number v s k)) → (o : Owner) (b : ℕ) → Owns B v o b → Inside v b
owner-inside B v formed inside (inode_of s) b h =
    ⊎_elim (λ t. absurd (T_not (free v s) h.0.taken t)) (λ t. subst (Inside v) h.1 (used-inode v s t)) (formed s h.0.slot)
owner-inside B v formed inside (content_of s k) b h = subst (Inside v) h.2 (inside s k h.0 h.1)

-- so it is on a sound volume
pub owns-inside : (B : ℕ) (v : View) → Sound B v → (o : Owner) (b : ℕ) → Owns B v o b → Inside v b
owns-inside B v ok = owner-inside B v ok.formed ok.inside

-- a file of at most m blocks needs at most m
pub need-le : (B size m : ℕ) → 0 < B → size ≤ m * B → need B size ≤ m
unfolding need
need-le B size m pos h = omega (arith, (div-lt_iff_lt-mul {k = B} {x = size + (B - 1)} {y = suc m} pos).1 (rw suc-mul (omega arith)))

-- having one name goes both ways
pub same-sym : (a b : List ℕ) → T (same_name a b) → T (same_name b a)
unfolding same_name
same-sym a b t = rw (same-eq a b t) (same_refl b)

module _ (B : ℕ) (img : List ℕ) where
  -- no rule before num is broken
  abbrev Before : ℕ → Type 0
  Before num = (num' q : ℕ) → num' < num → Broken B img num' q → ⊥

  -- what a verdict says of the image
  abbrev Says : Verdict → Type 0
  Says consistent = (num p : ℕ) → Broken B img num p → ⊥
  Says (broken num p) = FirstBroken B img num p

  -- a rule and then the later ones
  then : (num : ℕ) (verdict later : Verdict) → (Before num → Rule (Broken B img num) num verdict later) → (Before (suc num) → Says later) → Before num → Says verdict
  then num verdict later rule rest before =
      ⊎_elim
      (λ h. subst Says (sym h.says) (record { here = h.here; earlier = before; lower = h.lower }))
      (λ m.
      subst Says (sym m.says)
      (rest (λ num' q l h.
      elim (ℕ_discrete num' num) [
        | yes e ↦ m.none q (subst (λ (x : ℕ). Broken B img x q) e h)
        | no e ↦ before num' q (omega arith) h
      ])))
      (rule before)

  -- the rules are 1 to 7
  broken-from : (num p : ℕ) → Broken B img num p → (1 ≤ num) × (num < 8)
  broken-from _ _ (short h) = omega arith
  broken-from _ _ (unmagical h) = omega arith
  broken-from _ _ (unlabelled h) = omega arith
  broken-from _ _ (malformed s h u) = omega arith
  broken-from _ _ (repeated s t h g l e) = omega arith
  broken-from _ _ (oversized s h l) = omega arith
  broken-from _ _ (misnumbered s k h l w) = omega arith
  broken-from _ _ (twice b o p l d h g) = omega arith
  broken-from _ _ (unmarked b l m w) = omega arith
  broken-from _ _ (stray b l m w) = omega arith

  -- ---- the rules, each by its test
  bad1 : T (too_short B img) → Broken B img 1 0
  unfolding too_short
  bad1 t = short (ltb→lt (length img) (3 * B) t)

  yes1 : (q : ℕ) → Broken B img 1 q → T (too_short B img)
  unfolding too_short
  yes1 _ (short h) = lt→ltb (length img) (3 * B) h

  rule1 : Rule (Broken B img 1) 1 (check B img) (check_view B (view B img))
  unfolding check
  rule1 = rule-whole (Broken B img 1) 1 _ (too_short B img) bad1 yes1

  four : BlockSize B → word (view B img).head 0 ≡ number_at img 0
  four sz = head-number B img (omega (arith, sz.large))

  bad2 : BlockSize B → T (bad_magic (view B img)) → Broken B img 2 0
  unfolding bad_magic
  bad2 sz t = unmagical (λ e. T_not (eqb (word (view B img).head 0) magic) t (eqb_of (four sz ∙ e)))

  yes2 : BlockSize B → (q : ℕ) → Broken B img 2 q → T (bad_magic (view B img))
  unfolding bad_magic
  yes2 sz _ (unmagical h) = neqb-of (word (view B img).head 0) magic (λ e. h (sym (four sz) ∙ e))

  long : (Broken B img 1 0 → ⊥) → 3 * B ≤ length img
  long f = elim (dec_le (3 * B) (length img)) [ yes h ↦ h | no h ↦ absurd (f (short (omega arith))) ]

  length-head : 3 * B ≤ length img → length (view B img).head ≡ B
  unfolding view view_n block
  length-head h = length_part (0 * B) B img (omega arith)

  length_label : BlockSize B → 3 * B ≤ length img → length (volume_name (view B img).head) ≡ 16
  length_label sz h = length_part 4 16 (view B img).head (omega (arith, sz.large, length-head h))

  label-test : T (leb 16 (first_zero (volume_name (view B img).head))) → T (bad_label (view B img))
  unfolding bad_label
  label-test t = t

  bad3 : BlockSize B → 3 * B ≤ length img → T (bad_label (view B img)) → Broken B img 3 0
  unfolding bad_label
  bad3 sz h t = unlabelled (λ i l z. label-bad (volume_name (view B img).head) (length_label sz h) t i l (label-byte B img (omega (arith, sz.large)) i l ∙ z))

  yes3 : BlockSize B → 3 * B ≤ length img → (q : ℕ) → Broken B img 3 q → T (bad_label (view B img))
  unfolding bad_label
  yes3 sz h _ (unlabelled f) =
      label-yes (volume_name (view B img).head) (length_label sz h) (λ i l z. f i l (sym (label-byte B img (omega (arith, sz.large)) i l) ∙ z))

  bad4 : (s : ℕ) → s < slots B → T (bad_slot (view B img) s) → Broken B img 4 s
  unfolding bad_slot
  bad4 s l t =
      let v : View = view B img in
      let w : File B (view B img) s = record { slot = l; taken = and_l (not (free v s)) _ t } in
      let u : T (not (used v s) || repeats v s) = and_r (not (free v s)) _ t in
      by-test (used v s)
      (λ k.
      let r = repeats-bad v s (or-second (not (used v s)) _ (yes-yes (used v s) k) u) in
      repeated s r.0 w (record { slot = omega (arith, r.1); taken = r.2 }) r.1 r.3)
      (λ k. malformed s w (T_not (used v s) k))

  yes4 : (q : ℕ) → Broken B img 4 q → (q < slots B) × T (bad_slot (view B img) q)
  unfolding bad_slot
  yes4 _ (malformed s w f) =
      (w.slot, and-of (not (free (view B img) s)) _ w.taken (or_l (not (used (view B img) s)) _ (not_T (used (view B img) s) f)))
  yes4 _ (repeated s t w x l e) =
      (w.slot, and-of (not (free (view B img) s)) _ w.taken (or_r (not (used (view B img) s)) _ (repeats-yes (view B img) s t l x.taken e)))

  bad5 : (s : ℕ) → s < slots B → T (bad_inode B (view B img) s) → Broken B img 5 s
  unfolding bad_inode
  bad5 s l t =
      let v : View = view B img in
      let w : File B (view B img) s = record { slot = l; taken = and_l (not (free v s)) _ t } in
      let u = and_r (not (free v s)) (ltb (max_size B) (size v s) || ltb (least (bad_number B v s) (numbers B)) (numbers B)) t in
      by-test (ltb (max_size B) (size v s)) (λ k. oversized s w (ltb→lt (max_size B) (size v s) k))
      (λ k.
      let m : least (bad_number B v s) (numbers B) < numbers B = ltb→lt (least (bad_number B v s) (numbers B)) (numbers B) (or-second (ltb (max_size B) (size v s)) _ k u) in
      misnumbered s (least (bad_number B v s) (numbers B)) w m
      (number-bad B v s (least (bad_number B v s) (numbers B)) (least-hit (bad_number B v s) (numbers B) m)))

  yes5 : (q : ℕ) → Broken B img 5 q → (q < slots B) × T (bad_inode B (view B img) q)
  unfolding bad_inode
  yes5 _ (oversized s w l) =
      (w.slot, and-of (not (free (view B img) s)) _ w.taken (or_l (ltb (max_size B) (size (view B img) s)) _ (lt→ltb (max_size B) (size (view B img) s) l)))
  yes5 _ (misnumbered s k w l h) =
      let f : ℕ → Bool = bad_number B (view B img) s in
      (w.slot, and-of (not (free (view B img) s)) _ w.taken (or_r (ltb (max_size B) (size (view B img) s)) _ (lt→ltb (least f (numbers B)) (numbers B) (least-found f (numbers B) k l (number-yes B (view B img) s k h)))))

  bad6 : (b : ℕ) → b < (view B img).n → T (claimed_twice (claims B (view B img)) b) → Broken B img 6 b
  bad6 b l t =
      let r = twice-owners B (view B img) b (leb→le 2 (times b (claims B (view B img))) t) in twice b r.0 r.1 l r.2 r.3 r.4

  yes6 : (q : ℕ) → Broken B img 6 q → (q < (view B img).n) × T (claimed_twice (claims B (view B img)) q)
  yes6 _ (twice b o p l d h g) = (l, le→leb 2 (times b (claims B (view B img))) (owners-twice B (view B img) b o p d h g))

  bad7 : (b : ℕ) → b < (view B img).n → T (bad_bit (view B img) (claims B (view B img)) b) → Broken B img 7 b
  bad7 b l t =
      ⊎_elim (λ h. unmarked b l (T_not (map_bit (view B img).map b) h.0) (reserved-of B (view B img) b h.1))
      (λ h. stray b l h.0 (λ w. T_not (reserved B (view B img) b) h.1 (of-reserved B (view B img) b w)))
      (differ (map_bit (view B img).map b) _ t)

  yes7 : (q : ℕ) → Broken B img 7 q → (q < (view B img).n) × T (bad_bit (view B img) (claims B (view B img)) q)
  yes7 _ (unmarked b l m w) = (l, differ-less (map_bit (view B img).map b) _ (not_T (map_bit (view B img).map b) m) (of-reserved B (view B img) b w))
  yes7 _ (stray b l m w) = (l, differ-more (map_bit (view B img).map b) _ m (not_T (reserved B (view B img) b) (λ t. w (reserved-of B (view B img) b t))))

  -- the rules in order
  check-says : BlockSize B → Says (check B img)
  unfolding check_view
  check-says sz =
      then 1 _ _ (λ _. rule1)
      (then 2 _ _ (λ _. rule-whole (Broken B img 2) 2 _ (bad_magic (view B img)) (bad2 sz) (yes2 sz))
      (then 3 _ _
      (λ before.
      let l : 3 * B ≤ length img = long (before 1 0 (omega arith)) in
      rule-whole (Broken B img 3) 3 _ (bad_label (view B img)) (bad3 sz l) (yes3 sz l))
      (then 4 _ _ (λ _. rule-places (Broken B img 4) 4 _ (bad_slot (view B img)) (slots B) bad4 yes4)
      (then 5 _ _ (λ _. rule-places (Broken B img 5) 5 _ (bad_inode B (view B img)) (slots B) bad5 yes5)
      (then 6 _ _ (λ _. rule-places (Broken B img 6) 6 _ (claimed_twice (claims B (view B img))) (view B img).n bad6 yes6)
      (then 7 _ _ (λ _. rule-places (Broken B img 7) 7 _ (bad_bit (view B img) (claims B (view B img))) (view B img).n bad7 yes7)
      (λ before num p h. before num p (broken-from num p h).1 h)))))))
      (λ num q l h. omega (arith, (broken-from num q h).0))

  -- ---- a consistent volume is one with no rule broken
  pub none-broken : Consistent B img → (num p : ℕ) → Broken B img num p → ⊥
  none-broken c _ _ (short h) = omega (arith, c.long)
  none-broken c _ _ (unmagical h) = h c.magical
  none-broken c _ _ (unlabelled h) = h c.labelled.0 c.labelled.1 c.labelled.2
  none-broken c _ _ (malformed s w f) = ⊎_elim (T_not (free (view B img) s) w.taken) f (c.sound.formed s w.slot)
  none-broken c _ _ (repeated s t w x l e) = omega (arith, c.sound.apart t s x w e)
  none-broken c _ _ (oversized s w l) = omega (arith, c.sound.small s w)
  none-broken c _ _ (misnumbered s k w l (inl h)) = h.1 (c.sound.inside s k w h.0)
  none-broken c _ _ (misnumbered s k w l (inr h)) = h.1 (c.sound.rest s k w h.0 l)
  none-broken c _ _ (twice b o p l d h g) = d (c.sound.once b o p h g)
  none-broken c _ _ (unmarked b l m w) = m ((c.sound.mapped b l).1 w)
  none-broken c _ _ (stray b l m w) = w ((c.sound.mapped b l).0 m)

  module _ (sz : BlockSize B) (none : (num p : ℕ) → Broken B img num p → ⊥) where
    formed : (s : ℕ) → s < slots B → T (free (view B img) s) ⊎ T (used (view B img) s)
    formed s l =
        by-test (free (view B img) s) inl
        (λ f.
        by-test (used (view B img) s) inr
        (λ u. absurd (none 4 s (malformed s (record { slot = l; taken = f }) (T_not (used (view B img) s) u)))))

    apart : (s t : ℕ) → File B (view B img) s → File B (view B img) t → T (same_name (name (view B img) s) (name (view B img) t)) → s ≡ t
    apart s t w x e =
        elim (dec_lt t s) [
          | yes l ↦ absurd (none 4 s (repeated s t w x l (same-sym (name (view B img) s) (name (view B img) t) e)))
          | no l ↦ elim (dec_lt s t) [ yes k ↦ absurd (none 4 t (repeated t s x w k e)) | no k ↦ omega arith ]
        ]

    small : (s : ℕ) → File B (view B img) s → size (view B img) s ≤ max_size B
    small s w = elim (dec_lt (max_size B) (size (view B img) s)) [ yes l ↦ absurd (none 5 s (oversized s w l)) | no l ↦ omega arith ]

    inside : (s k : ℕ) → File B (view B img) s → k < need B (size (view B img) s) → Inside (view B img) (number (view B img) s k)
    inside s k w l =
        let m : k < numbers B = omega (arith, need-le B (size (view B img) s) (numbers B) (omega (arith, sz.large)) (small s w)) in
        let b : ℕ = number (view B img) s k in
        by-test (in_range (view B img).n b) (in-range (view B img) b)
        (λ t. absurd (none 5 s (misnumbered s k w m (inl (l, λ h. T_not (in_range (view B img).n b) t (range-in (view B img) b h))))))

    rest : (s k : ℕ) → File B (view B img) s → need B (size (view B img) s) ≤ k → k < numbers B → number (view B img) s k ≡ 0
    rest s k w h l = elim (ℕ_discrete (number (view B img) s k) 0) [ yes e ↦ e | no e ↦ absurd (none 5 s (misnumbered s k w l (inr (h, e)))) ]

    once : (b : ℕ) (o p : Owner) → Owns B (view B img) o b → Owns B (view B img) p b → o ≡ p
    once b o p h g =
        elim (same-owner o p) [ yes e ↦ e | no e ↦ absurd (none 6 b (twice b o p (owner-inside B (view B img) formed inside o b h).high e h g)) ]

    mapped : (b : ℕ) → b < (view B img).n → T (map_bit (view B img).map b) ↔ ((b < 3) ⊎ Owned B (view B img) b)
    mapped b l = (
      (λ m.
          by-test (reserved B (view B img) b) (reserved-of B (view B img) b)
          (λ t. absurd (none 7 b (stray b l m (λ w. T_not (reserved B (view B img) b) t (of-reserved B (view B img) b w)))))),
      λ w. by-test (map_bit (view B img).map b) (λ m. m) (λ m. absurd (none 7 b (unmarked b l (T_not (map_bit (view B img).map b) m) w))),
    )

    labelled : (i : ℕ) × (i < 16) × (get_or img (4 + i) 0 ≡ 0)
    labelled =
        let l : List ℕ = volume_name (view B img).head in
        let e : length l ≡ 16 = length_label sz (long (none 1 0)) in
        by-test (leb 16 (first_zero l)) (λ t. absurd (none 3 0 (bad3 sz (long (none 1 0)) (label-test t))))
        (λ t. let z = label-zero l e t in (z.0, z.1, sym (label-byte B img (omega (arith, sz.large)) z.0 z.1) ∙ z.2))

    consistent-of : Consistent B img
    consistent-of = record {
      long = long (none 1 0);
      magical = elim (ℕ_discrete (number_at img 0) 3745) [ yes e ↦ e | no e ↦ absurd (none 2 0 (unmagical e)) ];
      labelled = labelled;
      sound = record { formed = formed; apart = apart; small = small; inside = inside; rest = rest; once = once; mapped = mapped };
    }

  -- a verdict is what the first broken rule is
  broken-is : (verdict : Verdict) → Says verdict → (num p : ℕ) → FirstBroken B img num p → verdict ≡ broken num p
  broken-is consistent says num p f = absurd (says num p f.here)
  broken-is (broken num' q) says num p f = ap₂ broken rule (place rule)
    where
      rule : num' ≡ num
      rule =
          elim (dec_lt num' num) [
            | yes l ↦ absurd (f.earlier num' q l says.here)
            | no l ↦ elim (dec_lt num num') [ yes k ↦ absurd (says.earlier num p k f.here) | no k ↦ omega arith ]
          ]

      place : num' ≡ num → q ≡ p
      place e =
          elim (dec_lt q p) [
            | yes l ↦ absurd (f.lower q l (subst (λ (x : ℕ). Broken B img x q) e says.here))
            | no l ↦
                elim (dec_lt p q) [
                  | yes k ↦ absurd (says.lower p k (subst (λ (x : ℕ). Broken B img x p) (sym e) f.here))
                  | no k ↦ omega arith
                ]
          ]

  consistent-is : (verdict : Verdict) → Says verdict → Consistent B img → verdict ≡ consistent
  consistent-is consistent says c = refl
  consistent-is (broken num p) says c = absurd (none-broken c num p says.here)

-- the check grants exactly the consistent volumes
pub check-means : (B : ℕ) → BlockSize B → (img : List ℕ) → (check B img ≡ consistent) ↔ Consistent B img
check-means B sz img =
    (λ e. consistent-of B img sz (subst (Says B img) e (check-says B img sz)), consistent-is B img (check B img) (check-says B img sz))

-- and otherwise gives the first broken rule at its lowest place
pub check-breaks : (B : ℕ) → BlockSize B → (img : List ℕ) (num p : ℕ) → (check B img ≡ broken num p) ↔ FirstBroken B img num p
check-breaks B sz img num p =
    (λ e. subst (Says B img) e (check-says B img sz), broken-is B img (check B img) (check-says B img sz) num p)
