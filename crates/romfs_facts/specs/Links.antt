-- Rule 29: the lowest reached header with a bad link.
use Rattle.std.specs.Prelude.{ℕ, ◌<◌, ◌≡◌, refl, Bool, true, false, not, cond, ◌&&◌, ◌||◌, List, T, ltb, eqb}
use Rattle.std.proofs.Common.{sym, ap, ◌∙◌, ⊎_elim, arith, eq-eqb, ne_eqb, eqb-true, lt-ltb, le-ltb, ltb-true, ltb-false}
use Rattle.std.proofs.lemmas.Bool.{eqb-false, not-false, not-true}
use Rattle.list_laws.specs.Test.{of-true, to-true, no_false, or-no-l, or-no-r}
use Rattle.lists.specs.Lists.{least}
use Rattle.list_laws.specs.Least.{least-is, least-all, least-hit, least-none, least-below}
use Rattle.romfs_spec.specs.Layout.{full_size, type_of_file, info, is_dots}
use Rattle.romfs_spec.specs.Check.{accepted, broken, walk, is_reached, bad_link, links}
use Rattle.romfs_facts.specs.Tested.{Linked}
use Rattle.romfs_facts.specs.Facts.{and_no, and-yes-l, and-yes-r, both, true-false}
use Rattle.romfs_facts.specs.Visit.{not-both}
use Rattle.romfs_facts.specs.Lowest.{yes-no}
use Rattle.romfs_facts.specs.Walked.{Volume}
use Rattle.romfs_facts.specs.Seek.{is-reached, reached-is}

-- ---- a bad link is one that is not linked
or-false : (a b : Bool) → a ≡ false → b ≡ false → (a || b) ≡ false
or-false a b e f = rw (e, f)

pub linked_of : (s : List ℕ) (p : ℕ) → bad_link s p ≡ false → Linked s p
unfolding bad_link
linked_of s p e =
    let x : Bool = eqb (type_of_file s p) 0 && not (is_reached s (info s p) && not (eqb (type_of_file s (info s p)) 0)) in
    let y : Bool = (eqb (type_of_file s p) 1 && is_dots s p) && not (is_reached s (info s p)) in
    let target : type_of_file s p ≡ 0 → (is_reached s (info s p) && not (eqb (type_of_file s (info s p)) 0)) ≡ true =
    λ k. not-false (is_reached s (info s p) && not (eqb (type_of_file s (info s p)) 0)) (and_no (eqb (type_of_file s p) 0) (not (is_reached s (info s p) && not (eqb (type_of_file s (info s p)) 0))) (or-no-l x y e) (eq-eqb (type_of_file s p) 0 k)) in
    record {
      hard = λ k. (
        is-reached s (info s p) (and-yes-l (is_reached s (info s p)) (not (eqb (type_of_file s (info s p)) 0)) (target k)),
        eqb-false (type_of_file s (info s p)) 0 (not-true (eqb (type_of_file s (info s p)) 0) (and-yes-r (is_reached s (info s p)) (not (eqb (type_of_file s (info s p)) 0)) (target k))),
      );
      dots = λ k t.
          is-reached s (info s p)
          (not-false (is_reached s (info s p))
          (and_no (eqb (type_of_file s p) 1 && is_dots s p) (not (is_reached s (info s p))) (or-no-r x y e) (both (eqb (type_of_file s p) 1) (is_dots s p) (eq-eqb (type_of_file s p) 1 k) t)));
    }

pub of-linked : (s : List ℕ) (p : ℕ) → Volume s → walk s ≡ accepted → Linked s p → bad_link s p ≡ false
unfolding bad_link
of-linked s p v w h =
    or-false (eqb (type_of_file s p) 0 && not (is_reached s (info s p) && not (eqb (type_of_file s (info s p)) 0)))
    ((eqb (type_of_file s p) 1 && is_dots s p) && not (is_reached s (info s p)))
    (⊎_elim
    (λ k.
    let t = h.hard (eqb-true (type_of_file s p) 0 k) in
    rw (reached-is s (info s p) v w t.0, ne_eqb (type_of_file s (info s p)) 0 t.1, k))
    (λ k. rw k)
    (yes-no (eqb (type_of_file s p) 0)))
    (⊎_elim
    (λ k.
    rw (reached-is s (info s p) v w (h.dots (eqb-true (type_of_file s p) 1 (and-yes-l (eqb (type_of_file s p) 1) (is_dots s p) k)) (and-yes-r (eqb (type_of_file s p) 1) (is_dots s p) k)), k))
    (λ k. rw k)
    (yes-no (eqb (type_of_file s p) 1 && is_dots s p)))

-- ---- the lowest
-- a reached header with a bad link
abbrev faulty : List ℕ → ℕ → Bool
faulty s p = is_reached s p && bad_link s p

not-faulty : (s : List ℕ) (p : ℕ) → (is_reached s p ≡ true → bad_link s p ≡ false) → T (not (faulty s p))
not-faulty s p h = go (is_reached s p) (bad_link s p) h
  where
    go : (a b : Bool) → (a ≡ true → b ≡ false) → T (not (a && b))
    go true b f = rw (f refl) tt
    go false b f = tt

pub links-none : (s : List ℕ) → ((p : ℕ) → is_reached s p ≡ true → bad_link s p ≡ false) → links s ≡ accepted
unfolding links
links-none s h =
    let e : least (λ p. is_reached s p && bad_link s p) (full_size s) ≡ full_size s = least-all (faulty s) (full_size s) (λ i l. not-faulty s i (h i)) in
    rw (e, le-ltb (full_size s) (full_size s) (omega arith))

pub links-at : (s : List ℕ) (x : ℕ) → x < full_size s → is_reached s x ≡ true → bad_link s x ≡ true → ((p : ℕ) → p < x → is_reached s p ≡ true → bad_link s p ≡ false) → links s ≡ broken 29 x
unfolding links
links-at s x h r t below =
    let e : least (λ p. is_reached s p && bad_link s p) (full_size s) ≡ x = least-is (faulty s) (full_size s) x h (of-true (faulty s x) (both (is_reached s x) (bad_link s x) r t)) (λ i l. not-faulty s i (below i l)) in
    rw (e, lt-ltb x (full_size s) h)

unless-linked : (s : List ℕ) (i : ℕ) → T (not (faulty s i)) → is_reached s i ≡ true → bad_link s i ≡ false
unless-linked s i t e = go (is_reached s i) (bad_link s i) t e
  where
    go : (a b : Bool) → T (not (a && b)) → a ≡ true → b ≡ false
    go true b u f = no_false b u
    go false b u f = absurd (true-false refl (sym f))

cond-fine : (b : Bool) (x : ℕ) → cond b (broken 29 x) accepted ≡ accepted → b ≡ false
cond-fine true x e = absurd (not-both e refl)
cond-fine false x e = refl

cond-broken : (b : Bool) (x n p : ℕ) → cond b (broken 29 x) accepted ≡ broken n p → (b ≡ true) × (n ≡ 29) × (x ≡ p)
cond-broken true x n p e = (refl, (cc), (cc))
cond-broken false x n p e = absurd (not-both refl e)

pub links-clear : (s : List ℕ) → links s ≡ accepted → (i : ℕ) → i < full_size s → is_reached s i ≡ true → bad_link s i ≡ false
unfolding links
links-clear s e i h =
    unless-linked s i
    (least-none (faulty s) (full_size s) (ltb-false (least (faulty s) (full_size s)) (full_size s) (cond-fine (ltb (least (faulty s) (full_size s)) (full_size s)) (least (faulty s) (full_size s)) e)) i h)

pub record LowestLink (s : List ℕ) (n p : ℕ) : Type 0 where
  pub number : n ≡ 29
  pub reached : is_reached s p ≡ true
  pub bad : bad_link s p ≡ true
  pub lower : (i : ℕ) → i < p → is_reached s i ≡ true → bad_link s i ≡ false

pub links-lowest : (s : List ℕ) (n p : ℕ) → links s ≡ broken n p → LowestLink s n p
unfolding links
links-lowest s n p e =
    let c = cond-broken (ltb (least (faulty s) (full_size s)) (full_size s)) (least (faulty s) (full_size s)) n p e in
    let hit : faulty s p ≡ true = ap (faulty s) (sym c.2) ∙ to-true (faulty s (least (faulty s) (full_size s))) (least-hit (faulty s) (full_size s) (ltb-true (least (faulty s) (full_size s)) (full_size s) c.0)) in
    record {
      number = c.1;
      reached = and-yes-l (is_reached s p) (bad_link s p) hit;
      bad = and-yes-r (is_reached s p) (bad_link s p) hit;
      lower = λ i l. unless-linked s i (least-below (faulty s) (full_size s) i (omega (arith, c.2)));
    }
