-- The search down one path finds exactly the reached headers.
use Prim.Native.Nat.{ℕ, zero, suc, ◌-◌, ◌≤◌, ◌<◌}
use Rattle.std.specs.Prelude.{◌≡◌, ◌≢◌, ◌↔◌, Bool, true, false, not, ◌&&◌, List, leb, eqb}
use Rattle.std.proofs.Math.Path.{refl, subst}
use Rattle.std.proofs.Common.{sym, ap, ◌∙◌, ⊎_elim, arith}
use Rattle.std.proofs.Math.Decide.{ℕ_discrete}
use Rattle.std.proofs.Math.Numerals.{sub-one}
use borrow.Author.Tests.{eq-eqb, ne_eqb, le-leb, lt-leb}
use Rattle.romfs_spec.specs.Layout.{full_size, first_root, next, info, own, descends, has_list}
use Rattle.romfs_spec.specs.Check.{accepted, walk, leads, towards, seek, is_reached}
use Rattle.romfs_facts.specs.Tested.{root, along, inside, IsReached, Sound}
use Rattle.romfs_facts.specs.Facts.{both, and-yes-l, true-false, not_eqb, has-list, list-descends, list-first, room, next-from, next-to, own-next, first-from, first_to}
use Rattle.romfs_facts.specs.Visit.{From, Cases, same, later, below, cases, lies}
use Rattle.romfs_facts.specs.Lowest.{yes-no}
use Rattle.romfs_facts.specs.Walked.{Volume, root_in, root-from, has-root, met, Met}

-- ---- one law for each way through the search
module _ (s : List ℕ) (want : ℕ) where
  pub seek-here : (f p : ℕ) → 0 < f → want ≡ p → seek s want f p ≡ true
  unfolding seek
  seek-here zero p h e = absurd (omega arith)
  seek-here (suc f) p h e = rw (eq-eqb want p e)

  pub seek-none : (f p : ℕ) → 0 < f → want ≢ p → towards s want p ≡ 0 → seek s want f p ≡ false
  unfolding seek
  seek-none zero p h e z = absurd (omega arith)
  seek-none (suc f) p h e z = rw (ne_eqb want p e, eq-eqb (towards s want p) 0 z)

  pub seek-on : (f p : ℕ) → 0 < f → want ≢ p → towards s want p ≢ 0 → seek s want f p ≡ seek s want (f - 1) (towards s want p)
  unfolding seek
  seek-on zero p h e z = absurd (omega arith)
  seek-on (suc f) p h e z = rw (ne_eqb want p e, ne_eqb (towards s want p) 0 z, sub-one)

  -- ---- where it goes on
  pub towards-next : (p : ℕ) → leads (next s p) want ≡ true → towards s want p ≡ next s p
  unfolding towards
  towards-next p e = rw e

  pub towards-first : (p : ℕ) → leads (next s p) want ≡ false → descends s p ≡ true → leads (info s p) want ≡ true → towards s want p ≡ info s p
  unfolding towards
  towards-first p e d f = rw (e, d, f)

  pub towards-leaf : (p : ℕ) → leads (next s p) want ≡ false → descends s p ≡ false → towards s want p ≡ 0
  unfolding towards
  towards-leaf p e d = rw (e, d)

  pub towards_past : (p : ℕ) → leads (next s p) want ≡ false → descends s p ≡ true → leads (info s p) want ≡ false → towards s want p ≡ 0
  unfolding towards
  towards_past p e d f = rw (e, d, f)

pub leads-some : (to want : ℕ) → leads to want ≡ true → to ≢ 0
unfolding leads
leads-some to want e z = true-false (and-yes-l (not (eqb to 0)) (leb to want) e) (rw (eq-eqb to 0 z))

pub leads-to : (to want : ℕ) → to ≢ 0 → to ≤ want → leads to want ≡ true
unfolding leads
leads-to to want z h = both (not (eqb to 0)) (leb to want) (not_eqb to 0 z) (le-leb to want h)

pub leads-past : (to want : ℕ) → want < to → leads to want ≡ false
unfolding leads
leads-past to want h = rw (lt-leb to want h) (and-false (not (eqb to 0)))
  where
    and-false : (b : Bool) → (b && false) ≡ false
    and-false true = refl
    and-false false = refl

pub leads-zero : (to want : ℕ) → to ≡ 0 → leads to want ≡ false
unfolding leads
leads-zero to want z = rw (eq-eqb to 0 z)

-- from a reached header the search goes on to a reached one
pub towards-reached : (s : List ℕ) (want p : ℕ) → IsReached s p → towards s want p ≢ 0 → IsReached s (towards s want p)
towards-reached s want p r z = ⊎_elim next_way (λ n. ⊎_elim (λ d. ⊎_elim (list-way n d) (λ f. absurd (z (towards_past s want p n d f))) (yes-no (leads (info s p) want))) (λ d. absurd (z (towards-leaf s want p n d))) (yes-no (descends s p))) (yes-no (leads (next s p) want))
  where
    next_way : leads (next s p) want ≡ true → IsReached s (towards s want p)
    next_way e = subst (IsReached s) (sym (towards-next s want p e)) (record { bound = r.bound; depth = r.depth; reached = along r.reached (leads-some (next s p) want e) })

    list-way : leads (next s p) want ≡ false → descends s p ≡ true → leads (info s p) want ≡ true → IsReached s (towards s want p)
    list-way n d f = subst (IsReached s) (sym (towards-first s want p n d f)) (record { bound = own s r.bound p; depth = suc r.depth; reached = inside r.reached d (leads-some (info s p) want f) })

-- and further on
pub towards-further : (s : List ℕ) (want p b d : ℕ) → Sound s p b d → towards s want p ≢ 0 → p < towards s want p
towards-further s want p b d h z = ⊎_elim next_way (λ n. ⊎_elim (λ e. ⊎_elim (list-way n e) (λ f. absurd (z (towards_past s want p n e f))) (yes-no (leads (info s p) want))) (λ e. absurd (z (towards-leaf s want p n e))) (yes-no (descends s p))) (yes-no (leads (next s p) want))
  where
    next_way : leads (next s p) want ≡ true → p < towards s want p
    next_way e = omega (arith, towards-next s want p e, room s p, next-from s p b d h (leads-some (next s p) want e))

    list-way : leads (next s p) want ≡ false → descends s p ≡ true → leads (info s p) want ≡ true → p < towards s want p
    list-way n e f = omega (arith, towards-first s want p n e f, room s p, first-from s p b d h (has-list s p e (leads-some (info s p) want f)))

-- ---- what it finds is reached
module _ (s : List ℕ) (want : ℕ) where
  pub seek-reached : (f p : ℕ) → IsReached s p → seek s want f p ≡ true → IsReached s want
  unfolding seek
  seek-reached zero p r e = absurd (true-false refl (sym e))
  seek-reached (suc f) p r e =
      elim (ℕ_discrete want p) [
        | yes eq ↦ subst (IsReached s) (sym eq) r
        | no other ↦ elim (ℕ_discrete (towards s want p) 0) [
          | yes z ↦ absurd (true-false e (seek-none s want (suc f) p (omega arith) other z))
          | no z ↦ seek-reached f (towards s want p) (towards-reached s want p r z) (rw sub-one at (sym (seek-on s want (suc f) p (omega arith) other z)) ∙ e)
        ]
      ]

  -- ---- what sound headers lead to is found
  finds-by : (f p bound depth b d : ℕ) → p < bound → (want ≢ p → Sound s p bound depth → next s p ≢ 0 → From s (next s p) bound depth want b d → seek s want f (next s p) ≡ true) → (want ≢ p → Sound s p bound depth → has_list s p ≡ true → From s (info s p) (own s bound p) (suc depth) want b d → seek s want f (info s p) ≡ true) → Cases s p bound depth want b d → seek s want (suc f) p ≡ true
  finds-by f p bound depth b d h rest list same = seek-here s want (suc f) p (omega arith) refl
  finds-by f p bound depth b d h rest list (later o z g) =
      let g-in = lies (next-to s p bound depth o z) g in
      let other : want ≢ p = omega (arith, room s p, next-from s p bound depth o z) in
      let t : towards s want p ≡ next s p = towards-next s want p (leads-to (next s p) want z g-in.0) in
      rw sub-one at (seek-on s want (suc f) p (omega arith) other (λ e. z (sym t ∙ e)))
      ∙ ap (seek s want f) t
      ∙ rest other o z g
  finds-by f p bound depth b d h rest list (below o u g) =
      let g-in = lies (first_to s p bound depth o u) g in
      let other : want ≢ p = omega (arith, room s p, first-from s p bound depth o u) in
      let past : leads (next s p) want ≡ false =
      elim (ℕ_discrete (next s p) 0) [
        | yes z ↦ leads-zero (next s p) want z
        | no z ↦ leads-past (next s p) want (omega (arith, own-next s bound p z))
      ] in
      let t : towards s want p ≡ info s p = towards-first s want p past (list-descends s p u) (leads-to (info s p) want (list-first s p u) g-in.0) in
      rw sub-one at (seek-on s want (suc f) p (omega arith) other (λ e. list-first s p u (sym t ∙ e)))
      ∙ ap (seek s want f) t
      ∙ list other o u g

  finds : (f p bound depth b d : ℕ) → p < bound → want - p < f → From s p bound depth want b d → seek s want f p ≡ true
  finds zero p bound depth b d h k g = absurd (omega arith)
  finds (suc f) p bound depth b d h k g =
      let g-in = lies h g in
      finds-by f p bound depth b d h
      (λ e o z i. finds f (next s p) bound depth b d (next-to s p bound depth o z) (omega (arith, room s p, next-from s p bound depth o z, lies (next-to s p bound depth o z) i)) i)
      (λ e o u i. finds f (info s p) (own s bound p) (suc depth) b d (first_to s p bound depth o u) (omega (arith, room s p, first-from s p bound depth o u, lies (first_to s p bound depth o u) i)) i)
      (cases g)

-- ---- the whole search
pub is_none : (s : List ℕ) (want : ℕ) → first_root s ≡ full_size s → is_reached s want ≡ false
unfolding is_reached
is_none s want z = rw (eq-eqb (first_root s) (full_size s) z)

pub is-seek : (s : List ℕ) (want : ℕ) → first_root s ≢ full_size s → is_reached s want ≡ seek s want (full_size s) (first_root s)
unfolding is_reached
is-seek s want z = rw (ne_eqb (first_root s) (full_size s) z)

pub is-reached : (s : List ℕ) (want : ℕ) → is_reached s want ≡ true → IsReached s want
is-reached s want e =
    elim (ℕ_discrete (first_root s) (full_size s)) [
      | yes z ↦ absurd (true-false e (is_none s want z))
      | no z ↦ seek-reached s want (full_size s) (first_root s) (record { bound = full_size s; depth = 1; reached = root z }) (sym (is-seek s want z) ∙ e)
    ]

pub reached-is : (s : List ℕ) (want : ℕ) → Volume s → walk s ≡ accepted → IsReached s want → is_reached s want ≡ true
reached-is s want v w r =
    let z : first_root s ≢ full_size s = has-root r.reached in
    let m : Met s want r.bound r.depth = met s v w r.reached in
    let m-in = lies (root_in s v z) m in
    is-seek s want z
    ∙ finds s want (full_size s) (first_root s) (full_size s) 1 r.bound r.depth (root_in s v z) (omega (arith, root-from s v)) m

-- on an accepted walk the search answers whether a header is reached
pub reached-iff : (s : List ℕ) (want : ℕ) → Volume s → walk s ≡ accepted → (is_reached s want ≡ true) ↔ IsReached s want
reached-iff s want v w = (is-reached s want, reached-is s want v w)
