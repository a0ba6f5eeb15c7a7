-- What the check says, over its own tests: it accepts exactly the accepted images, and each refusal is given exactly when the tests say.
use Rattle.std.specs.Prelude.{ℕ, zero, suc, ◌-◌, ◌≤◌, ◌<◌, ◌≡◌, refl, ◌≢◌, ◌⊎◌, ◌↔◌, true, false, List}
use Rattle.std.proofs.Common.{sym, ap, subst, ◌∙◌, inl, inr, ⊎_elim, arith}
use Rattle.std.proofs.Math.Decide.{ℕ_discrete, dec_lt}
use Rattle.romfs_spec.specs.Layout.{full_size, first_root, next, info, own, has_list}
use Rattle.romfs_spec.specs.Check.{Verdict, accepted, broken, too_short, bad_magic, bad_full_size, bad_volume_sum, bad_volume_name, fault, and_then, walk, bad_link, links, volume, check}
use Rattle.romfs_facts.specs.Tested.{Reached, IsReached, Sound, Linked, Accepted}
use Rattle.romfs_facts.specs.Facts.{room, next-from, next-to, own-next, first-from, first_to, true-false, fault-sound, sound-fault, fault-place, fault-number}
use Rattle.romfs_facts.specs.Visit.{From, Cases, same, later, below, cases, lies, not-both, then-accepted}
use Rattle.romfs_facts.specs.Lowest.{lowest, Out, fine, fails, out, yes-no}
use Rattle.romfs_facts.specs.Walked.{Volume, volume-of, of-volume, root_in, has-root, met, Met, met-reached, all-met, sound, visit-none, visit-root, reached-in}
use Rattle.romfs_facts.specs.Seek.{is-reached, reached-is}
use Rattle.romfs_facts.specs.Links.{linked_of, of-linked, links-none, links-at, links-clear, LowestLink, links-lowest}

-- ---- the walk
-- n is the fault of the lowest header at fault among those that sound headers lead to, and stands at p
pub record FirstFault (s : List ℕ) (n p : ℕ) : Type 0 where
  pub some : first_root s ≢ full_size s
  pub bound : ℕ
  pub depth : ℕ
  pub met : Met s p bound depth
  pub fails : fault s bound depth p ≡ broken n p
  pub lower : (q b d : ℕ) → Met s q b d → q < p → Sound s q b d

-- the place of p below a header: once
data Way (s : List ℕ) (p bound depth q b d : ℕ) : Type 0 where
  at : q ≡ p → b ≡ bound → d ≡ depth → Way s p bound depth q b d
  after : Sound s p bound depth → next s p ≢ 0 → From s (next s p) bound depth q b d → Way s p bound depth q b d
  under : Sound s p bound depth → has_list s p ≡ true → From s (info s p) (own s bound p) (suc depth) q b d → Way s p bound depth q b d

way : {s : List ℕ} {p bound depth q b d : ℕ} → Cases s p bound depth q b d → Way s p bound depth q b d
way same = at refl refl refl
way (later o z f) = after o z f
way (below o u f) = under o u f

module _ (s : List ℕ) (q : ℕ) where
  once_by : (p bound depth b d c e : ℕ) → p < bound → (Sound s p bound depth → next s p ≢ 0 → From s (next s p) bound depth q b d → From s (next s p) bound depth q c e → (b ≡ c) × (d ≡ e)) → (Sound s p bound depth → has_list s p ≡ true → From s (info s p) (own s bound p) (suc depth) q b d → From s (info s p) (own s bound p) (suc depth) q c e → (b ≡ c) × (d ≡ e)) → Way s p bound depth q b d → Way s p bound depth q c e → (b ≡ c) × (d ≡ e)
  once_by p bound depth b d c e h rest list (at x y z) (at x₂ y₂ z₂) = omega arith
  once_by p bound depth b d c e h rest list (at x y z) (after o n g) =
      absurd (let l = lies (next-to s p bound depth o n) g in omega (arith, room s p, next-from s p bound depth o n))
  once_by p bound depth b d c e h rest list (at x y z) (under o u g) =
      absurd (let l = lies (first_to s p bound depth o u) g in omega (arith, room s p, first-from s p bound depth o u))
  once_by p bound depth b d c e h rest list (after o n f) (at x y z) =
      absurd (let l = lies (next-to s p bound depth o n) f in omega (arith, room s p, next-from s p bound depth o n))
  once_by p bound depth b d c e h rest list (after o n f) (after o₂ n₂ g) = rest o n f g
  once_by p bound depth b d c e h rest list (after o n f) (under o₂ u g) =
      absurd (let k = lies (next-to s p bound depth o n) f in let l = lies (first_to s p bound depth o u) g in omega (arith, own-next s bound p n))
  once_by p bound depth b d c e h rest list (under o u f) (at x y z) =
      absurd (let l = lies (first_to s p bound depth o u) f in omega (arith, room s p, first-from s p bound depth o u))
  once_by p bound depth b d c e h rest list (under o u f) (after o₂ n g) =
      absurd (let k = lies (next-to s p bound depth o n) g in let l = lies (first_to s p bound depth o u) f in omega (arith, own-next s bound p n))
  once_by p bound depth b d c e h rest list (under o u f) (under o₂ u₂ g) = list o u f g

  -- a header stands in one list
  once : (fuel p bound depth b d c e : ℕ) → p < bound → q - p < fuel → From s p bound depth q b d → From s p bound depth q c e → (b ≡ c) × (d ≡ e)
  once zero p bound depth b d c e h k f g = absurd (omega arith)
  once (suc fuel) p bound depth b d c e h k f g =
      once_by p bound depth b d c e h
      (λ o n i j. once fuel (next s p) bound depth b d c e (next-to s p bound depth o n) (omega (arith, room s p, next-from s p bound depth o n, lies (next-to s p bound depth o n) i)) i j)
      (λ o u i j. once fuel (info s p) (own s bound p) (suc depth) b d c e (first_to s p bound depth o u) (omega (arith, room s p, first-from s p bound depth o u, lies (first_to s p bound depth o u) i)) i j)
      (way (cases f)) (way (cases g))

module _ (s : List ℕ) (v : Volume s) where
  walk_first : (n p : ℕ) → walk s ≡ broken n p → FirstFault s n p
  unfolding walk
  walk_first n p e =
      elim (ℕ_discrete (first_root s) (full_size s)) [
        | yes z ↦ absurd (not-both (visit-none s (fault s) z) e)
        | no z ↦
            let low = lowest s (fault s) (λ q b d. Unit {0}) (λ q b d r t. fault-sound s q b d t) (λ q b d r t y. tt) (λ q b d r t u. tt) (λ q b d m x f. fault-place s q b d m x f) 7 (full_size s - first_root s) (first_root s) (full_size s) 1 n p tt (omega arith) (root_in s v z) (omega arith) (sym (visit-root s (fault s) z) ∙ e) in
            record {
              some = z;
              bound = low.b;
              depth = low.d;
              met = low.at;
              fails = low.refuses;
              lower = λ q b d m l. fault-sound s q b d (low.lower q b d m l);
            }
      ]

  first-is : (n p m y : ℕ) → FirstFault s n p → FirstFault s m y → broken m y ≡ broken n p
  first-is n p m y f g =
      elim (dec_lt p y) [
        | yes l ↦ absurd (not-both (sound-fault s p f.bound f.depth (g.lower p f.bound f.depth f.met l)) f.fails)
        | no l ↦ elim (dec_lt y p) [
          | yes k ↦ absurd (not-both (sound-fault s y g.bound g.depth (f.lower y g.bound g.depth g.met k)) g.fails)
          | no k ↦
              let e : y ≡ p = omega arith in
              let u = once s p (suc p) (first_root s) (full_size s) 1 g.bound g.depth f.bound f.depth (root_in s v f.some) (omega arith) (subst (λ (x : ℕ). Met s x g.bound g.depth) e g.met) f.met in
              sym g.fails ∙ rw (e, u.0, u.1) f.fails
        ]
      ]

  first_by : (n p : ℕ) → FirstFault s n p → Out (walk s) → walk s ≡ broken n p
  unfolding walk
  first_by n p f (fine a) = absurd (not-both (all-met s v (fault s) a f.some f.met) f.fails)
  first_by n p f (fails m y a) = a ∙ first-is n p m y f (walk_first m y a)

  -- 26, 27, 28: the walk refuses the lowest header at fault
  pub walk_refused : (n p : ℕ) → (walk s ≡ broken n p) ↔ FirstFault s n p
  walk_refused n p = (walk_first n p, λ f. first_by n p f (out (walk s)))

  walk-by : ((p b d : ℕ) → Reached s p b d → Sound s p b d) → Out (walk s) → walk s ≡ accepted
  walk-by h (fine a) = a
  walk-by h (fails n p a) =
      let f : FirstFault s n p = walk_first n p a in
      absurd (not-both (sound-fault s p f.bound f.depth (h p f.bound f.depth (met-reached f.some f.met))) f.fails)

  -- the walk accepts where every reached header is sound
  pub walk-accepted : (walk s ≡ accepted) ↔ ((p b d : ℕ) → Reached s p b d → Sound s p b d)
  walk-accepted = (λ w p b d r. sound s v w r, λ h. walk-by h (out (walk s)))

-- ---- the links
-- p is the lowest reached header with a bad link
pub record FirstLink (s : List ℕ) (p : ℕ) : Type 0 where
  pub reached : IsReached s p
  pub fails : Linked s p → ⊥
  pub lower : (q : ℕ) → IsReached s q → q < p → Linked s q

module _ (s : List ℕ) (v : Volume s) (w : walk s ≡ accepted) where
  link-first : (p : ℕ) → links s ≡ broken 29 p → FirstLink s p
  link-first p e =
      let l : LowestLink s 29 p = links-lowest s 29 p e in
      record {
        reached = is-reached s p l.reached;
        fails = λ k. true-false l.bad (of-linked s p v w k);
        lower = λ q r h. linked_of s q (l.lower q h (reached-is s q v w r));
      }

  first-link : (p : ℕ) → FirstLink s p → links s ≡ broken 29 p
  first-link p f =
      let p-in = reached-in s v w f.reached.reached in
      links-at s p (omega arith) (reached-is s p v w f.reached)
      (⊎_elim (λ b. b) (λ b. absurd (f.fails (linked_of s p b))) (yes-no (bad_link s p)))
      (λ q l e. of-linked s q v w (f.lower q (is-reached s q e) l))

  -- 29: the lowest reached header with a bad link
  pub links-refused : (p : ℕ) → (links s ≡ broken 29 p) ↔ FirstLink s p
  links-refused p = (link-first p, first-link p)

  pub links-accepted : (links s ≡ accepted) ↔ ((p : ℕ) → IsReached s p → Linked s p)
  links-accepted = (
    λ e p r.
        let p-in = reached-in s v w r.reached in
        linked_of s p (links-clear s e p (omega arith) (reached-is s p v w r)),
    λ h. links-none s (λ p e. of-linked s p v w (h p (is-reached s p e))),
  )

-- ---- the check
pub check-parts : (s : List ℕ) → check s ≡ accepted → (volume s ≡ accepted) × (walk s ≡ accepted) × (links s ≡ accepted)
unfolding check
check-parts s e =
    let a = then-accepted (volume s) (and_then (walk s) (links s)) e in
    let b = then-accepted (walk s) (links s) a.1 in
    (a.0, b.0, b.1)

parts-check : (s : List ℕ) → volume s ≡ accepted → walk s ≡ accepted → links s ≡ accepted → check s ≡ accepted
unfolding check
parts-check s v w l = rw (v, w, l)

accepts : (s : List ℕ) → check s ≡ accepted → Accepted s
accepts s e =
    let c = check-parts s e in
    let v : Volume s = volume-of s c.0 in
    record {
      not21 = v.not21;
      not22 = v.not22;
      not23 = v.not23;
      not24 = v.not24;
      not25 = v.not25;
      sound = λ r. sound s v c.1 r;
      linked = λ r. (links-accepted s v c.1).0 c.2 _ (record { bound = _; depth = _; reached = r });
    }

is-accepted : (s : List ℕ) → Accepted s → check s ≡ accepted
is-accepted s a =
    let v : Volume s = record { not21 = a.not21; not22 = a.not22; not23 = a.not23; not24 = a.not24; not25 = a.not25 } in
    let w : walk s ≡ accepted = (walk-accepted s v).1 (λ p b d r. a.sound r) in
    parts-check s (of-volume s v) w ((links-accepted s v w).1 (λ p r. a.linked r.reached))

-- the check accepts exactly the accepted images
pub check-accepted : (s : List ℕ) → (check s ≡ accepted) ↔ Accepted s
check-accepted s = (accepts s, is-accepted s)

-- a header is reached with one bound and one depth
pub reached-once : {s : List ℕ} {p b d c e : ℕ} → Volume s → walk s ≡ accepted → Reached s p b d → Reached s p c e → (b ≡ c) × (d ≡ e)
reached-once {s} {p} {b} {d} {c} {e} v w q r =
    once s p (suc p) (first_root s) (full_size s) 1 b d c e (root_in s v (has-root q)) (omega arith) (met s v w q) (met s v w r)

-- when a refusal is given, with its number and its place
pub data Refused (s : List ℕ) : ℕ → ℕ → Type 0 where
  at21 : too_short s ≡ true → Refused s 21 0
  at22 : too_short s ≡ false → bad_magic s ≡ true → Refused s 22 0
  at23 : too_short s ≡ false → bad_magic s ≡ false → bad_full_size s ≡ true → Refused s 23 0
  at24 : too_short s ≡ false → bad_magic s ≡ false → bad_full_size s ≡ false → bad_volume_sum s ≡ true → Refused s 24 0
  at25 : too_short s ≡ false → bad_magic s ≡ false → bad_full_size s ≡ false → bad_volume_sum s ≡ false → bad_volume_name s ≡ true → Refused s 25 0
  -- 26, 27, 28: none of 21 to 25 holds, and n is the fault of the lowest header at fault
  at-header : {n p : ℕ} → Volume s → FirstFault s n p → Refused s n p
  -- every reached header is sound, and p is the lowest with a bad link
  at-link : {p : ℕ} → Volume s → ((q b d : ℕ) → Reached s q b d → Sound s q b d) → FirstLink s p → Refused s 29 p

at-volume : (s : List ℕ) (n : ℕ) → volume s ≡ broken n 0 → check s ≡ broken n 0
unfolding check
at-volume s n e = rw e

at-walk : (s : List ℕ) (n p : ℕ) → volume s ≡ accepted → walk s ≡ broken n p → check s ≡ broken n p
unfolding check
at-walk s n p v e = rw (v, e)

at-links : (s : List ℕ) (n p : ℕ) → volume s ≡ accepted → walk s ≡ accepted → links s ≡ broken n p → check s ≡ broken n p
unfolding check
at-links s n p v w e = rw (v, w, e)

refused-is : {s : List ℕ} {n p : ℕ} → Refused s n p → check s ≡ broken n p
unfolding volume
refused-is {s} (at21 a) = at-volume s 21 (rw a)
refused-is {s} (at22 a b) = at-volume s 22 (rw (a, b))
refused-is {s} (at23 a b c) = at-volume s 23 (rw (a, b, c))
refused-is {s} (at24 a b c d) = at-volume s 24 (rw (a, b, c, d))
refused-is {s} (at25 a b c d e) = at-volume s 25 (rw (a, b, c, d, e))
refused-is {s} (at-header {n = n} {p = p} v f) = at-walk s n p (of-volume s v) ((walk_refused s v n p).1 f)
refused-is {s} (at-link {p = p} v h f) =
    let w : walk s ≡ accepted = (walk-accepted s v).1 h in
    at-links s 29 p (of-volume s v) w ((links-refused s v w p).1 f)

-- what a verdict says of an image
abbrev pub Given : List ℕ → Verdict → Type 0
Given s accepted = Accepted s
Given s (broken n p) = Refused s n p

links-given : (s : List ℕ) (v : Volume s) (w : walk s ≡ accepted) → Out (links s) → Given s (check s)
links-given s v w (fine a) = let e : check s ≡ accepted = parts-check s (of-volume s v) w a in rw e (accepts s e)
links-given s v w (fails n p a) =
    let k : n ≡ 29 = (links-lowest s n p a).number in
    let b : links s ≡ broken 29 p = a ∙ ap (λ (m : ℕ). broken m p) k in
    let e : check s ≡ broken 29 p = at-links s 29 p (of-volume s v) w b in
    rw e (at-link v ((walk-accepted s v).0 w) ((links-refused s v w p).0 b))

walk-given : (s : List ℕ) (v : Volume s) → Out (walk s) → Given s (check s)
walk-given s v (fine a) = links-given s v a (out (links s))
walk-given s v (fails n p a) =
    let e : check s ≡ broken n p = at-walk s n p (of-volume s v) a in rw e (at-header v ((walk_refused s v n p).0 a))

-- 21 to 25: the first of them that holds
given_by : (s : List ℕ) {n p : ℕ} → Refused s n p → Given s (check s)
given_by s r = rw (refused-is r) r

given : (s : List ℕ) → Given s (check s)
given s =
    ⊎_elim (λ a. given_by s (at21 a))
    (λ a.
    ⊎_elim (λ b. given_by s (at22 a b))
    (λ b.
    ⊎_elim (λ c. given_by s (at23 a b c))
    (λ c.
    ⊎_elim (λ d. given_by s (at24 a b c d))
    (λ d.
    ⊎_elim (λ e. given_by s (at25 a b c d e))
    (λ e. walk-given s (record { not21 = a; not22 = b; not23 = c; not24 = d; not25 = e }) (out (walk s)))
    (yes-no (bad_volume_name s)))
    (yes-no (bad_volume_sum s)))
    (yes-no (bad_full_size s)))
    (yes-no (bad_magic s)))
    (yes-no (too_short s))

given_is : (s : List ℕ) (v : Verdict) → Given s v → check s ≡ v
given_is s accepted a = is-accepted s a
given_is s (broken n p) r = refused-is r

-- The check gives a verdict exactly when the rules do.
pub check-given : (s : List ℕ) (v : Verdict) → (check s ≡ v) ↔ Given s v
check-given s v = (λ e. subst (Given s) e (given s), given_is s v)

-- the numbers of a refusal: 21 to 25 at 0, or 26 to 29
number_of : {s : List ℕ} {n p : ℕ} → Refused s n p → ((21 ≤ n) × (n ≤ 25) × (p ≡ 0)) ⊎ ((26 ≤ n) × (n ≤ 29))
number_of (at21 a) = inl (omega arith, omega arith, refl)
number_of (at22 a b) = inl (omega arith, omega arith, refl)
number_of (at23 a b c) = inl (omega arith, omega arith, refl)
number_of (at24 a b c d) = inl (omega arith, omega arith, refl)
number_of (at25 a b c d e) = inl (omega arith, omega arith, refl)
number_of {s} (at-header {n = n} {p = p} v f) = let k = fault-number s p f.bound f.depth n p f.fails in inr (k.0, omega (arith, k.1))
number_of (at-link v h f) = inr (omega arith, omega arith)

pub check-number : (s : List ℕ) (n p : ℕ) → check s ≡ broken n p → ((21 ≤ n) × (n ≤ 25) × (p ≡ 0)) ⊎ ((26 ≤ n) × (n ≤ 29))
check-number s n p e = number_of ((check-given s (broken n p)).0 e)
