-- Laws of searches, windows and tours, one for each way that the code takes.
use Prim.Native.Nat.{ℕ, suc, ◌-◌, ◌≤◌, ◌<◌}
use mathlib.Core.Path.{◌≡◌, refl, sym, ap, subst, ◌∙◌}
use mathlib.Core.Logic.{◌≢◌}
use mathlib.Core.Bool.{Bool, true, false, not, ◌&&◌, ◌||◌}
use mathlib.Core.List.{List}
use native.Mathlib.Omega.{arith}
use native.Mathlib.Decide.{ℕ_discrete}
use borrow.Author.Tests.{eq-eqb, ne_eqb}
use lib.Dec.{eqb}
use Rattle.std.specs.Prelude.{Some, None, cond, leb}
use Rattle.std.proofs.lemmas.Option.{none-some, cond_some}
use Rattle.romfs_spec.specs.Layout.{full_size, first_root, type_of_file, next, info, own, is_dots, descends, has_list}
use Rattle.romfs_headers.specs.Known.{some_unless, first_in}
use Rattle.romfs_spec.specs.Check.{leads, towards, seek, is_reached, bad_link}
use Rattle.romfs_facts.specs.Tested.{Reached, root, along, inside, IsReached, Sound}
use Rattle.lists.specs.Lists.{least}
use Rattle.list_laws.specs.Least.{Below, found, none_found}
use Rattle.romfs_facts.specs.Facts.{true-false, both, depth-to, list-descends, list-first}
use Rattle.romfs_facts.specs.Visit.{Cases, same, later, below, cases}
use Rattle.romfs_facts.specs.Walked.{has-root, met, sound}
use Rattle.romfs_facts.specs.Seek.{seek-here, seek-none, seek-on, is-reached, reached-is, is_none, is-seek, towards-next, towards-first, towards-leaf, towards_past, leads-some, towards-reached, towards-further}
use Rattle.romfs_links.specs.Known.{Walked, At, up_to}
use Rattle.romfs_links.specs.Tour.{links_on, State, Kept, Fine, FineEntry, FineList, FineAll, Tested}
use Rattle.romfs_links.specs.Facts.{reach_room, sound-next}

-- ---- reached headers
pub reach-start : (s : List ℕ) (first full : ℕ) → first ≡ first_root s → full ≡ full_size s → (first ≡ full → ⊥) → IsReached s first
reach-start s first full e f z =
    subst (IsReached s) (sym e) (record { bound = full_size s; depth = 1; reached = root (λ y. z (e ∙ y ∙ sym f)) })

pub path_empty : (s : List ℕ) (want first full : ℕ) → first ≡ first_root s → full ≡ full_size s → first ≡ full → false ≡ is_reached s want
path_empty s want first full e f z = sym (is_none s want (sym e ∙ z ∙ f))

pub path-root : (s : List ℕ) (want first full : ℕ) → first ≡ first_root s → full ≡ full_size s → (first ≡ full → ⊥) → seek s want full first ≡ is_reached s want
path-root s want first full e f z = rw (e, f) (sym (is-seek s want (λ y. z (e ∙ y ∙ sym f))))

-- the search is what is left of it from p on, at some fuel that is enough
pub record Path (s : List ℕ) (full want from p : ℕ) : Type 0 where
  pub fuel : ℕ
  pub enough : full - p ≤ fuel
  pub same : seek s want full from ≡ seek s want fuel p

module _ (s : List ℕ) (full : ℕ) (w : Walked s full) where
  module _ (want p q : ℕ) (r : IsReached s p) (e : q ≡ towards s want p) (z : q ≡ 0 → ⊥) where
    pub reach-on : IsReached s q
    reach-on = subst (IsReached s) (sym e) (towards-reached s want p r (λ y. z (e ∙ y)))

    pub reach-further : p < q
    reach-further = subst (λ (x : ℕ). p < x) (sym e) (towards-further s want p r.bound r.depth (sound s w.volume w.walked r.reached) (λ y. z (e ∙ y)))

    pub path-on : (from : ℕ) → Path s full want from p → (want ≡ p → ⊥) → Path s full want from q
    path-on from h d =
        let in-full = reach_room s full w p r in
        let some : 0 < h.fuel = omega (arith, h.enough) in
        record {
          fuel = h.fuel - 1;
          enough = omega (arith, h.enough, reach-further, some);
          same = h.same ∙ seek-on s want h.fuel p some d (λ y. z (e ∙ y)) ∙ ap (seek s want (h.fuel - 1)) (sym e);
        }

  module _ (want from p : ℕ) (r : IsReached s p) (h : Path s full want from p) where
    some-fuel : 0 < h.fuel
    some-fuel = let in-full = reach_room s full w p r in omega (arith, h.enough)

    pub path-here : want ≡ p → true ≡ seek s want full from
    path-here e = sym (h.same ∙ seek-here s want h.fuel p some-fuel e)

    pub path-none : (q : ℕ) → q ≡ towards s want p → q ≡ 0 → (want ≡ p → ⊥) → false ≡ seek s want full from
    path-none q e z d = sym (h.same ∙ seek-none s want h.fuel p some-fuel d (sym e ∙ z))

-- ---- rule 29
-- a: type 0, d: a directory named "." or "..", r: spec.info is reached, t: it has type 0
abbrev bad : Bool → Bool → Bool → Bool → Bool
bad a d r t = (a && not (r && not t)) || (d && not r)

bad-not-on : (a d r t : Bool) → (a || d) ≡ false → bad a d r t ≡ false
bad-not-on true d r t e = absurd (true-false refl e)
bad-not-on false true r t e = absurd (true-false refl e)
bad-not-on false false r t e = refl

bad-unreached : (a d t : Bool) → (a || d) ≡ true → bad a d false t ≡ true
bad-unreached true d t e = refl
bad-unreached false true t e = refl
bad-unreached false false t e = absurd (true-false e refl)

bad-soft : (d t : Bool) → bad false d true t ≡ false
bad-soft true t = refl
bad-soft false t = refl

bad-hard : (d t : Bool) → bad true d true t ≡ t
bad-hard true true = refl
bad-hard true false = refl
bad-hard false true = refl
bad-hard false false = refl

module _ (s : List ℕ) (p : ℕ) where
  abbrev hard : Bool
  hard = eqb (type_of_file s p) 0

  abbrev soft : Bool
  soft = eqb (type_of_file s p) 1 && is_dots s p

  abbrev to_hard : Bool
  to_hard = eqb (type_of_file s (info s p)) 0

  pub link-none : links_on s p ≡ false → bad_link s p ≡ false
  unfolding links_on bad_link
  link-none e = bad-not-on hard soft (is_reached s (info s p)) to_hard e

  module _ (to : ℕ) (e : to ≡ info s p) where
    pub link-unreached : links_on s p ≡ true → is_reached s to ≡ false → true ≡ bad_link s p
    unfolding links_on bad_link
    link-unreached l r = let r₂ = rw e at r in rw r₂ (sym (bad-unreached hard soft to_hard l))

    pub link-soft : (type_of_file s p ≡ 0 → ⊥) → is_reached s to ≡ true → false ≡ bad_link s p
    unfolding bad_link
    link-soft k r = let r₂ = rw e at r in rw (r₂, ne_eqb (type_of_file s p) 0 k) (sym (bad-soft soft to_hard))

    pub link-hard : type_of_file s p ≡ 0 → is_reached s to ≡ true → eqb (type_of_file s to) 0 ≡ bad_link s p
    unfolding bad_link
    link-hard k r = let r₂ = rw e at r in rw (e, r₂, eq-eqb (type_of_file s p) 0 k) (sym (bad-hard soft to_hard))

-- ---- where a path goes on
module _ (s : List ℕ) (want p : ℕ) where
  -- an offset that leads on, as a test
  up-to : (n : ℕ) → up_to want (some_unless 0 n) ≡ cond (leads n want) (Some n) None
  unfolding leads
  up-to n = go (eqb n 0)
    where
      go : (b : Bool) → up_to want (cond b None (Some n)) ≡ cond (not b && leb n want) (Some n) None
      go true = refl
      go false = refl

  pub path_next : {x : ℕ} → Some x ≡ up_to want (some_unless 0 (next s p)) → Some x ≡ some_unless 0 (towards s want p)
  path_next {x} e =
      let h = cond_some (leads (next s p) want) (next s p) x (sym (e ∙ up-to (next s p))) in
      rw (towards-next s want p h.0, ne_eqb (next s p) 0 (leads-some (next s p) want h.0), h.1)

  past-next : None ≡ up_to want (some_unless 0 (next s p)) → leads (next s p) want ≡ false
  past-next e = go (leads (next s p) want) refl (e ∙ up-to (next s p))
    where
      go : (b : Bool) → leads (next s p) want ≡ b → None ≡ cond b (Some (next s p)) None → leads (next s p) want ≡ false
      go true f h = absurd (none-some (next s p) h)
      go false f h = f

  leads-empty : eqb (info s p) 0 ≡ true → leads (info s p) want ≡ false
  unfolding leads
  leads-empty h = rw h

  leads-some-info : eqb (info s p) 0 ≡ false → leads (info s p) want ≡ leb (info s p) want
  unfolding leads
  leads-some-info h = rw h

  pub path_first : None ≡ up_to want (some_unless 0 (next s p)) → up_to want (first_in s p) ≡ some_unless 0 (towards s want p)
  unfolding has_list
  path_first e = go (descends s p) refl
    where
      go : (d : Bool) → descends s p ≡ d → up_to want (cond (d && not (eqb (info s p) 0)) (Some (info s p)) None) ≡ some_unless 0 (towards s want p)
      go false d = rw (towards-leaf s want p (past-next e) d)
      go true d = down (eqb (info s p) 0) refl
        where
          down : (b : Bool) → eqb (info s p) 0 ≡ b → up_to want (cond (not b) (Some (info s p)) None) ≡ some_unless 0 (towards s want p)
          down true h = rw (towards_past s want p (past-next e) d (leads-empty h))
          down false h = first (leb (info s p) want) refl
            where
              leads-is : leads (info s p) want ≡ leb (info s p) want
              leads-is = leads-some-info h

              first : (l : Bool) → leb (info s p) want ≡ l → cond l (Some (info s p)) None ≡ some_unless 0 (towards s want p)
              first true l = rw (towards-first s want p (past-next e) d (leads-is ∙ l), h)
              first false l = rw (towards_past s want p (past-next e) d (leads-is ∙ l))

-- ---- a tour
module _ (s : List ℕ) (full p bound left : ℕ) (a : At s full p bound left) where
  at-sound : Sound s p bound (8 - left)
  at-sound = sound s a.walked.volume a.walked.walked a.reached

  pub at_next : (q : ℕ) → q ≡ next s p → (q ≡ 0 → ⊥) → (p < q) × (q < bound) × At s full q bound left
  at_next q e z =
      let k = sound-next s bound (8 - left) p q at-sound e z in
      (k.0, k.1, record { walked = a.walked; deep = a.deep; reached = subst (λ (x : ℕ). Reached s x bound (8 - left)) (sym e) (along a.reached (λ y. z (e ∙ y))) })

  module _ (t : has_list s p ≡ true) where
    pub at_left : 1 ≤ left
    at_left = omega (arith, depth-to s p bound (8 - left) at-sound t)

    below-depth : 8 - (left - 1) ≡ suc (8 - left)
    below-depth = omega (arith, at_left, a.deep)

    pub at-list : (f o : ℕ) → f ≡ info s p → o ≡ own s bound p → At s full f o (left - 1)
    at-list f o e g = record { walked = a.walked; deep = omega (arith, a.deep); reached = rw (below-depth, e, g) (inside a.reached (list-descends s p t) (list-first s p t)) }

module _ (s : List ℕ) (full lo : ℕ) (fill : Bool) where
  -- what is fine stays so
  pub fine-kept : (low far low₂ far₂ q : ℕ) → Kept low far low₂ far₂ → Fine s full lo fill low far q → Fine s full lo fill low₂ far₂ q
  fine-kept low far low₂ far₂ q k h f b l m = let x = h f b (omega arith) m in (omega arith, x.1)

  -- an entry with one
  pub fine-below : (low far p bound left : ℕ) → At s full p bound left → Fine s full lo fill low far p → (f o : ℕ) → f ≡ info s p → o ≡ own s bound p → FineList s full lo fill low far f o (left - 1) → FineEntry s full lo fill low far p bound left
  fine-below low far p bound left a h f o e g l =
      (h, λ t q b d x. l q b d (rw (below-depth s full p bound left a t, e, g) x))

  -- an entry and those after it
  fine-list : (low far p bound left : ℕ) → FineEntry s full lo fill low far p bound left → (next s p ≢ 0 → FineList s full lo fill low far (next s p) bound left) → FineList s full lo fill low far p bound left
  fine-list low far p bound left e n q b d f = go (cases f)
    where
      go : {q b d : ℕ} → Cases s p bound (8 - left) q b d → Fine s full lo fill low far q
      go same = e.0
      go (later o z g) = n z _ _ _ g
      go (below o t g) = e.1 t _ _ _ g

  -- where all from p on are fine, all from at on are
  abbrev pub Rest : ℕ → ℕ → ℕ → ℕ → ℕ → ℕ → Type 0
  Rest low far at p bound left =
      (low₂ far₂ : ℕ) → Kept low far low₂ far₂ → FineList s full lo fill low₂ far₂ p bound left → FineList s full lo fill low₂ far₂ at bound left

  module _ (low far low₂ far₂ at p bound left : ℕ) (r : Rest low far at p bound left) (k : Kept low far low₂ far₂) (e : FineEntry s full lo fill low₂ far₂ p bound left) (n : ℕ) (is : n ≡ next s p) where
    pub rest-last : n ≡ 0 → FineList s full lo fill low₂ far₂ at bound left
    rest-last z = r low₂ far₂ k (fine-list low₂ far₂ p bound left e (λ y. absurd (y (sym is ∙ z))))

    pub rest-next : Rest low₂ far₂ at n bound left
    rest-next low₃ far₃ m h =
        r low₃ far₃ (omega arith, omega arith)
        (fine-list low₃ far₃ p bound left
        (fine-kept low₂ far₂ low₃ far₃ p m e.0, λ t q b d x. fine-kept low₂ far₂ low₃ far₃ q m (e.1 t q b d x))
        (λ y. subst (λ (x : ℕ). FineList s full lo fill low₃ far₃ x bound left) is h))

-- ---- the whole image
module _ (s : List ℕ) (full : ℕ) (w : Walked s full) (first : ℕ) (e : first ≡ first_root s) where
  pub at-root : (first ≡ full → ⊥) → At s full first full 7
  at-root z = record { walked = w; deep = omega arith; reached = rw (e, w.whole.is) (root (λ y. z (e ∙ y ∙ sym w.whole.is))) }

  module _ (lo : ℕ) (fill : Bool) (low far : ℕ) where
    pub fine-none : first ≡ full → FineAll s full lo fill low far
    fine-none z q r = absurd (has-root r.reached (sym e ∙ z ∙ w.whole.is))

    pub fine-root : FineList s full lo fill low far first full 7 → FineAll s full lo fill low far
    fine-root h q r = h q r.bound r.depth (rw (e, w.whole.is) (met s w.volume w.walked r.reached))

module _ (s : List ℕ) (full lo low low₂ far : ℕ) (w : Walked s full) (t : Tested s lo low) (st : State s full lo low₂ far) (k : low₂ ≤ low) (h : FineAll s full lo false low₂ far) where
  -- all that is left leads to far or behind it
  pub left_behind : (q : ℕ) → IsReached s q → bad_link s q ≡ true → q < low₂ → (far ≤ info s q) × (info s q < full)
  left_behind q r b l = h q r refl b l (t q r b (omega arith))

  -- where nothing is left, low is the lowest
  module _ (none : far ≡ full) where
    clear : Below (λ p. is_reached s p && bad_link s p) low₂
    clear q l = go (is_reached s q) (bad_link s q) refl refl
      where
        go : (a b : Bool) → is_reached s q ≡ a → bad_link s q ≡ b → (a && b) ≡ false
        go true true e f = absurd (omega (arith, left_behind q (is-reached s q e) f l, none))
        go true false e f = refl
        go false b e f = refl

    pub lowest-is : low₂ ≡ least (λ p. is_reached s p && bad_link s p) full
    lowest-is =
        elim (ℕ_discrete low₂ full) [
          | yes e ↦ e ∙ none_found (λ p. is_reached s p && bad_link s p) full low₂ (omega arith) (omega arith) clear
          | no z ↦
              let b = st.bad z in
              found (λ p. is_reached s p && bad_link s p) full low₂ (omega (arith, st.low-to)) clear
              (both (is_reached s low₂) (bad_link s low₂) (reached-is s low₂ w.volume w.walked b.0) b.1)
        ]
