-- Mend: the other faults of a volume are those that the check finds once its stray bits are clear.
use Rattle.std.specs.Prelude.{◌≡◌, refl, ◌⊎◌, ◌↔◌, not, ℕ, ◌+◌, ◌*◌, ◌/◌, ◌≤◌, ◌<◌, List, length, get_or, T}
use Rattle.std.proofs.Common.{sym, ◌∙◌, subst, inl, inr, arith, div-lt_iff_lt-mul}
use Rattle.std.proofs.Math.Path.{ap}
use Rattle.std.proofs.Math.Decide.{dec_le}
use Rattle.lists.specs.Lists.{word}
use Rattle.tfs_spec.specs.Layout.{BlockSize, max_size, need, blocks, volume_name, map_bit, same_name, View, view, used, name, size, number}
use Rattle.tfs_spec.specs.Check.{Verdict, consistent, broken, check}
use Rattle.tfs_spec.specs.Consistent as rule
use Rattle.tfs_spec.specs.Consistent.{number_at, File, Owner, Owns, Owned, Consistent, WrongNumber, Broken, FirstBroken, Stray, Other, OnlyStrays, FirstOther}
use Rattle.tfs_spec.specs.Requests.{Answer, granted, Outcome, mended, mend}
use Rattle.tfs_spec.specs.Answers.{MendRule, mendable, unmendable}
use Rattle.tfs_facts.specs.Raw.{head-number, label-byte}
use Rattle.tfs_facts.specs.Views.{view-n}
use Rattle.tfs_facts.specs.CheckMeans.{none-broken, check-means, check-breaks}
use Rattle.tfs_facts.specs.Mends.{granting, mend-is, short-same, with_map, file-from, file-to, owns-from, owns-to, map', mended-long, mended-view, mended-clear, mended-kept}

-- a bit that is set and reserved by nobody is stray
stray-of : (B : ℕ) (v : View) (b : ℕ) → b < v.n → T (map_bit v.map b) → ((b < 3) ⊎ Owned B v b → ⊥) → Stray B v b
stray-of B v b h t w =
    record { inside = record { low = elim (dec_le 3 b) [ yes l ↦ l | no l ↦ absurd (w (inl (omega arith))) ]; high = h }; set = t; unowned = λ o. w (inr o) }

not-stray : (B : ℕ) (v : View) (b : ℕ) → (b < 3) ⊎ Owned B v b → Stray B v b → ⊥
not-stray B v b (inl l) w = omega (arith, w.inside.low)
not-stray B v b (inr o) w = w.unowned o

-- ---- the faults of the image and those of the image that mend leaves
module _ (B : ℕ) (sz : BlockSize B) (img : List ℕ) (long : 3 * B ≤ length img) where
  abbrev v : View
  v = view B img

  abbrev new : List ℕ
  new = mended B img

  abbrev v' : View
  v' = view B new

  abbrev m : List ℕ
  m = map' B sz img long

  e : v' ≡ with_map v m
  e = mended-view B sz img long

  head-same : v'.head ≡ v.head
  head-same = ap (λ (w : View). w.head) e

  n-same : v'.n ≡ v.n
  n-same = ap (λ (w : View). w.n) e

  number-0 : number_at new 0 ≡ number_at img 0
  number-0 = sym (head-number B new (omega (arith, sz.large))) ∙ ap (λ (x : List ℕ). word x 0) head-same ∙ head-number B img (omega (arith, sz.large))

  label_same : (i : ℕ) → i < 16 → get_or new (4 + i) 0 ≡ get_or img (4 + i) 0
  label_same i h =
      sym (label-byte B new (omega (arith, sz.large)) i h) ∙ ap (λ (x : List ℕ). get_or (volume_name x) i 0) head-same ∙ label-byte B img (omega (arith, sz.large)) i h

  used-same : (s : ℕ) → used v' s ≡ used v s
  unfolding used
  used-same s = ap (λ (w : View). used w s) e

  name-same : (s : ℕ) → name v' s ≡ name v s
  unfolding name
  name-same s = ap (λ (w : View). name w s) e

  size_same : (s : ℕ) → size v' s ≡ size v s
  unfolding size
  size_same s = ap (λ (w : View). size w s) e

  number_same : (s k : ℕ) → number v' s k ≡ number v s k
  unfolding number
  number_same s k = ap (λ (w : View). number w s k) e

  file-old : (s : ℕ) → File B v' s → File B v s
  file-old s f = file-from B v m s (subst (λ (w : View). File B w s) e f)

  file-new : (s : ℕ) → File B v s → File B v' s
  file-new s f = subst (λ (w : View). File B w s) (sym e) (file-to B v m s f)

  owns-old : (o : Owner) (b : ℕ) → Owns B v' o b → Owns B v o b
  owns-old o b w = owns-from B v m o b (subst (λ (u : View). Owns B u o b) e w)

  owns-new : (o : Owner) (b : ℕ) → Owns B v o b → Owns B v' o b
  owns-new o b w = subst (λ (u : View). Owns B u o b) (sym e) (owns-to B v m o b w)

  reserved-old : (b : ℕ) → (b < 3) ⊎ Owned B v' b → (b < 3) ⊎ Owned B v b
  reserved-old b (inl l) = inl l
  reserved-old b (inr w) = inr (w.0, owns-old w.0 b w.1)

  reserved-new : (b : ℕ) → (b < 3) ⊎ Owned B v b → (b < 3) ⊎ Owned B v' b
  reserved-new b (inl l) = inl l
  reserved-new b (inr w) = inr (w.0, owns-new w.0 b w.1)

  bit_is : (b : ℕ) → map_bit v'.map b ≡ map_bit m b
  bit_is b = ap (λ (w : View). map_bit w.map b) e

  wrong-old : (s k : ℕ) → WrongNumber B v' s k → WrongNumber B v s k
  wrong-old s k (inl h) =
      inl (
        subst (λ (z : ℕ). k < need B z) (size_same s) h.0,
        λ i. h.1 (record { low = subst (λ (x : ℕ). 3 ≤ x) (sym (number_same s k)) i.low; high = omega (arith, i.high, number_same s k, n-same) }),
      )
  wrong-old s k (inr h) = inr (subst (λ (z : ℕ). need B z ≤ k) (size_same s) h.0, λ z. h.1 (number_same s k ∙ z))

  wrong-new : (s k : ℕ) → WrongNumber B v s k → WrongNumber B v' s k
  wrong-new s k (inl h) =
      inl (
        subst (λ (z : ℕ). k < need B z) (sym (size_same s)) h.0,
        λ i. h.1 (record { low = subst (λ (x : ℕ). 3 ≤ x) (number_same s k) i.low; high = omega (arith, i.high, number_same s k, n-same) }),
      )
  wrong-new s k (inr h) = inr (subst (λ (z : ℕ). need B z ≤ k) (sym (size_same s)) h.0, λ z. h.1 (sym (number_same s k) ∙ z))

  below : (num p : ℕ) → num < 7 → Broken B img num p → Other B img num p
  below num p l h = record { broken = h; other = λ x w. omega arith }

  from : (num p : ℕ) → Broken B new num p → Other B img num p
  from _ _ (rule.short h) = absurd (omega (arith, mended-long B sz img long))
  from _ _ (rule.unmagical h) = below 2 0 (omega arith) (rule.unmagical (λ x. h (number-0 ∙ x)))
  from _ _ (rule.unlabelled h) = below 3 0 (omega arith) (rule.unlabelled (λ i l x. h i l (label_same i l ∙ x)))
  from _ _ (rule.malformed s f u) = below 4 s (omega arith) (rule.malformed s (file-old s f) (λ x. u (subst T (sym (used-same s)) x)))
  from _ _ (rule.repeated s t f g l x) =
      below 4 s (omega arith) (rule.repeated s t (file-old s f) (file-old t g) l (subst T (λ i. same_name (name-same t i) (name-same s i)) x))
  from _ _ (rule.oversized s f h) = below 5 s (omega arith) (rule.oversized s (file-old s f) (subst (λ (z : ℕ). max_size B < z) (size_same s) h))
  from _ _ (rule.misnumbered s k f l w) = below 5 s (omega arith) (rule.misnumbered s k (file-old s f) l (wrong-old s k w))
  from _ _ (rule.twice b o p l d x y) = below 6 b (omega arith) (rule.twice b o p (omega (arith, n-same)) d (owns-old o b x) (owns-old p b y))
  from _ _ (rule.unmarked b l h w) =
      let d : Stray B v b → ⊥ = not-stray B v b (reserved-old b w) in
      record {
        broken = rule.unmarked b (omega (arith, n-same)) (λ t. h (subst T (sym (bit_is b ∙ mended-kept B sz img long b d)) t)) (reserved-old b w);
        other = λ x s. d s;
      }
  from _ _ (rule.stray b l t w) =
      let kept : (Stray B v b → ⊥) → T (map_bit v.map b) = λ d. subst T (bit_is b ∙ mended-kept B sz img long b d) t in
      let not-one : Stray B v b → ⊥ = λ s. subst T (bit_is b ∙ mended-clear B sz img long b s) t in
      absurd (not-one (stray-of B v b (omega (arith, n-same)) (kept not-one) (λ x. w (reserved-new b x))))

  to-broken : (num p : ℕ) → Broken B img num p → (num ≡ 7 → Stray B v p → ⊥) → Broken B new num p
  to-broken _ _ (rule.short h) d = absurd (omega arith)
  to-broken _ _ (rule.unmagical h) d = rule.unmagical (λ x. h (sym number-0 ∙ x))
  to-broken _ _ (rule.unlabelled h) d = rule.unlabelled (λ i l x. h i l (sym (label_same i l) ∙ x))
  to-broken _ _ (rule.malformed s f u) d = rule.malformed s (file-new s f) (λ x. u (subst T (used-same s) x))
  to-broken _ _ (rule.repeated s t f g l x) d =
      rule.repeated s t (file-new s f) (file-new t g) l (subst T (λ i. same_name (sym (name-same t) i) (sym (name-same s) i)) x)
  to-broken _ _ (rule.oversized s f h) d = rule.oversized s (file-new s f) (subst (λ (z : ℕ). max_size B < z) (sym (size_same s)) h)
  to-broken _ _ (rule.misnumbered s k f l w) d = rule.misnumbered s k (file-new s f) l (wrong-new s k w)
  to-broken _ _ (rule.twice b o p l x y z) d = rule.twice b o p (omega (arith, n-same)) x (owns-new o b y) (owns-new p b z)
  to-broken _ _ (rule.unmarked b l h w) d =
      rule.unmarked b (omega (arith, n-same)) (λ t. h (subst T (bit_is b ∙ mended-kept B sz img long b (not-stray B v b w)) t)) (reserved-new b w)
  to-broken _ _ (rule.stray b l t w) d = absurd (d refl (stray-of B v b l t w))

  to : (num p : ℕ) → Other B img num p → Broken B new num p
  to num p o = to-broken num p o.broken o.other

-- ---- an image of any length
short_none : (B : ℕ) → 0 < B → (img : List ℕ) → length img < 3 * B → (b : ℕ) → Stray B (view B img) b → ⊥
unfolding blocks
short_none B pos img l b w =
    let k : length img / B < 3 = (div-lt_iff_lt-mul {k = B} {x = length img} {y = 3} pos).1 l in
    omega (arith, w.inside.low, w.inside.high, view-n B img)

other-broken : (B : ℕ) → BlockSize B → (img : List ℕ) (num p : ℕ) → Other B img num p ↔ Broken B (mended B img) num p
other-broken B sz img num p =
    elim (dec_le (3 * B) (length img)) [
      | yes long ↦ (to B sz img long num p, from B sz img long num p)
      | no l ↦ (
        (λ o. subst (λ (x : List ℕ). Broken B x num p) (sym (short-same B img (omega arith))) o.broken),
        λ h. record { broken = subst (λ (x : List ℕ). Broken B x num p) (short-same B img (omega arith)) h; other = λ x w. short_none B (omega (arith, sz.large)) img (omega arith) p w },
      )
    ]

first-other : (B : ℕ) → BlockSize B → (img : List ℕ) (num p : ℕ) → FirstOther B img num p ↔ FirstBroken B (mended B img) num p
first-other B sz img num p = (
  (λ f. record {
    here = (other-broken B sz img num p).0 f.here;
    earlier = λ n q l h. f.earlier n q l ((other-broken B sz img n q).1 h);
    lower = λ q l h. f.lower q l ((other-broken B sz img num q).1 h);
  }),
  λ f. record {
    here = (other-broken B sz img num p).1 f.here;
    earlier = λ n q l h. f.earlier n q l ((other-broken B sz img n q).0 h);
    lower = λ q l h. f.lower q l ((other-broken B sz img num q).0 h);
  },
)

module _ (B : ℕ) (sz : BlockSize B) (img : List ℕ) where
  -- granted exactly where the mended image is consistent
  pub mend-yes : Consistent B (mended B img) → mend B img ≡ granting B img
  mend-yes ok = mend-is B img consistent ((check-means B sz (mended B img)).1 ok)

  pub mend-granted : T (granted (mend B img).answer) → Consistent B (mended B img)
  mend-granted g = go (check B (mended B img)) refl
    where
      go : (x : Verdict) → check B (mended B img) ≡ x → Consistent B (mended B img)
      go consistent e = (check-means B sz (mended B img)).0 e
      go (broken num p) e = absurd (subst (λ (o : Outcome). T (granted o.answer)) (mend-is B img (broken num p) e) g)

  -- granted or not, the image is the mended or the old one
  pub mend-image : (P : List ℕ → Type 0) → (Consistent B (mended B img) → P (mended B img)) → P img → P (mend B img).image
  mend-image P new old = go (check B (mended B img)) refl
    where
      go : (x : Verdict) → check B (mended B img) ≡ x → P (mend B img).image
      go consistent e = subst (λ (o : Outcome). P o.image) (sym (mend-is B img consistent e)) (new ((check-means B sz (mended B img)).0 e))
      go (broken num p) e = subst (λ (o : Outcome). P o.image) (sym (mend-is B img (broken num p) e)) old

  pub mend-refused : T (not (granted (mend B img).answer)) → (mend B img).image ≡ img
  mend-refused t = go (check B (mended B img)) refl
    where
      go : (x : Verdict) → check B (mended B img) ≡ x → (mend B img).image ≡ img
      go consistent e = absurd (subst (λ (o : Outcome). T (not (granted o.answer))) (mend-is B img consistent e) t)
      go (broken num p) e = ap (λ (o : Outcome). o.image) (mend-is B img (broken num p) e)

  pub only-strays : Consistent B (mended B img) ↔ OnlyStrays B img
  only-strays = (
    (λ ok num p o. none-broken B (mended B img) ok num p ((other-broken B sz img num p).0 o)),
    λ only. go only (check B (mended B img)) refl,
  )
    where
      go : OnlyStrays B img → (x : Verdict) → check B (mended B img) ≡ x → Consistent B (mended B img)
      go only consistent e = (check-means B sz (mended B img)).0 e
      go only (broken num p) e =
          let first : FirstBroken B (mended B img) num p = (check-breaks B sz (mended B img) num p).0 e in
          absurd (only num p ((other-broken B sz img num p).1 first.here))

  -- which answer it gives
  pub mend-rule : (a : Answer) → ((mend B img).answer ≡ a) ↔ MendRule B img a
  mend-rule a = ((λ q. subst (MendRule B img) q (told (check B (mended B img)) refl)), by a)
    where
      told : (x : Verdict) → check B (mended B img) ≡ x → MendRule B img (mend B img).answer
      told consistent e =
          subst (λ (o : Outcome). MendRule B img o.answer) (sym (mend-is B img consistent e)) (mendable (only-strays.0 ((check-means B sz (mended B img)).0 e)))
      told (broken num p) e =
          subst (λ (o : Outcome). MendRule B img o.answer) (sym (mend-is B img (broken num p) e)) (unmendable num p ((first-other B sz img num p).1 ((check-breaks B sz (mended B img) num p).0 e)))

      by : (b : Answer) → MendRule B img b → (mend B img).answer ≡ b
      by _ (mendable only) = ap (λ (o : Outcome). o.answer) (mend-yes (only-strays.1 only))
      by _ (unmendable num p first) =
          ap (λ (o : Outcome). o.answer) (mend-is B img (broken num p) ((check-breaks B sz (mended B img) num p).1 ((first-other B sz img num p).0 first)))
