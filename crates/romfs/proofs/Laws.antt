-- Laws of the answers, one for each way that the code takes.
use Prim.Native.Nat.{ℕ, ◌+◌, ◌-◌, ◌≤◌, ◌<◌}
use mathlib.Core.Path.{◌≡◌, refl, sym, ap, subst, ◌∙◌}
use mathlib.Core.Bool.{Bool, true, false}
use mathlib.Core.List.{List, []}
use native.Mathlib.Omega.{arith}
use native.Mathlib.Nat.{add-sub_cancel_left}
use borrow.Author.Tests.{eq-eqb, ne_eqb}
use lib.ListN.{length, take, drop}
use lib.Dec.{eqb}
use Rattle.std.specs.Prelude.{Some, None, cond, unwrap_or, ◌/◌, ◌%◌}
use native.Mathlib.Decide.{ℕ_discrete}
use mathlib.Core.Logic.{◌≢◌}
use Rattle.lists.specs.Lists.{same_list, part, word}
use Rattle.romfs_headers.specs.Known.{some_unless}
use Rattle.romfs_spec.specs.Layout.{full_size, first_root, name_length, type_of_file, executable, next, info, size, name, content_at, after_name, has_data}
use Rattle.romfs_spec.specs.Check.{accepted, is_reached, check}
use Rattle.romfs_facts.specs.Tested.{Reached, root, along, inside, IsReached}
use Rattle.romfs_spec.specs.Requests as rules
use Rattle.romfs_spec.specs.Requests.{Answer, granted, refused, checked, first_of, match_from, match_in, is_directory, find_step, Entry, entry_at, entry_step, content_step, start_of}
use Rattle.romfs_facts.specs.Walked.{sound}
use Rattle.romfs_facts.specs.Find.{match-yes, match-end, match-next}
use Rattle.romfs_facts.specs.Given.{content-in}
use Rattle.romfs_links.specs.Known.{Walked}
use Rattle.romfs_links.specs.Facts.{reach_room, sound-next}

-- ---- find
module _ (s : List ℕ) (dir : ℕ) where
  pub dir-root : dir ≡ 0 → true ≡ is_directory s dir
  unfolding is_directory
  dir-root z = rw (eq-eqb dir 0 z)

  pub dir-none : (dir ≡ 0 → ⊥) → is_reached s dir ≡ false → false ≡ is_directory s dir
  unfolding is_directory
  dir-none z r = rw (ne_eqb dir 0 z, r)

  pub dir-type : (dir ≡ 0 → ⊥) → is_reached s dir ≡ true → (k : ℕ) → k ≡ type_of_file s dir → eqb k 1 ≡ is_directory s dir
  unfolding is_directory
  dir-type z r k e = rw (ne_eqb dir 0 z, r, e)

-- a reached header does not stand at 0
root-some : (s : List ℕ) → first_root s ≢ 0
unfolding first_root after_name
root-some s e = omega (arith, e)

pub reached-some : {s : List ℕ} {p b d : ℕ} → Reached s p b d → p ≢ 0
reached-some {s} (root z) = root-some s
reached-some (along r z) = z
reached-some (inside r d z) = z

-- the root's first header, or none where that is the full size
pub root_first : (s : List ℕ) (dir full : ℕ) → dir ≡ 0 → full ≡ full_size s → some_unless full (first_root s) ≡ some_unless 0 (first_of s dir)
unfolding first_of
root_first s dir full z f = rw (eq-eqb dir 0 z, f) (go (eqb (first_root s) (full_size s)))
  where
    go : (b : Bool) → cond b None (Some (first_root s)) ≡ some_unless 0 (cond b 0 (first_root s))
    go true = refl
    go false = rw (ne_eqb (first_root s) 0 (root-some s))

-- a number that is none
pub or-none : (n : ℕ) → unwrap_or (some_unless 0 n) 0 ≡ n
or-none n = elim (ℕ_discrete n 0) [
  | yes z ↦ rw (eq-eqb n 0 z) (sym z)
  | no z ↦ rw (ne_eqb n 0 z)
]

pub executable-bit : (s : List ℕ) (p : ℕ) → cond (eqb (executable s p) 1) 1 0 ≡ executable s p
unfolding executable
executable-bit s p = elim (ℕ_discrete (word s p / 8 % 2) 1) [
  | yes z ↦ rw (eq-eqb (word s p / 8 % 2) 1 z) (sym z)
  | no z ↦ rw (ne_eqb (word s p / 8 % 2) 1 z) (omega arith)
]

-- the matching from first on is what is left of it from p on, at some fuel that is enough
pub record Match (s want : List ℕ) (full first p : ℕ) : Type 0 where
  pub fuel : ℕ
  pub enough : full - p ≤ fuel
  pub same : match_from s want full first ≡ match_from s want fuel p

-- a name's bytes, compared
pub name-test : (s want : List ℕ) (p n : ℕ) (r : Bool) → r ≡ same_list (part (p + 16) n s) want → n ≡ name_length s (p + 16) → r ≡ same_list (name s p) want
unfolding name
name-test s want p n r h e = rw (← e) h

module _ (s : List ℕ) (full : ℕ) (w : Walked s full) (p : ℕ) (r : IsReached s p) where
  pub on-reached : (q : ℕ) → q ≡ next s p → (q ≡ 0 → ⊥) → IsReached s q
  on-reached q e z = subst (IsReached s) (sym e) (record { bound = r.bound; depth = r.depth; reached = along r.reached (λ y. z (e ∙ y)) })

  pub on-further : (q : ℕ) → q ≡ next s p → (q ≡ 0 → ⊥) → p < q
  on-further q e z = (sound-next s r.bound r.depth p q (sound s w.volume w.walked r.reached) e z).0

  module _ (want : List ℕ) (first : ℕ) (m : Match s want full first p) where
    some-fuel : 0 < m.fuel
    some-fuel = omega (arith, m.enough, reach_room s full w p r)

    pub match-here : same_list (name s p) want ≡ true → p ≡ match_from s want full first
    match-here t = sym (m.same ∙ match-yes s want m.fuel p some-fuel t)

    pub match_none : same_list (name s p) want ≡ false → next s p ≡ 0 → 0 ≡ match_from s want full first
    match_none t z = sym (m.same ∙ match-end s want m.fuel p some-fuel t z)

    pub match-on : same_list (name s p) want ≡ false → (q : ℕ) → q ≡ next s p → (q ≡ 0 → ⊥) → Match s want full first q
    match-on t q e z = record {
      fuel = m.fuel - 1;
      enough = omega (arith, m.enough, on-further q e z, some-fuel);
      same = m.same ∙ match-next s want m.fuel p some-fuel t (λ y. z (e ∙ y)) ∙ ap (match_from s want (m.fuel - 1)) (sym e);
    }

-- ---- entry and content
module _ (s : List ℕ) (p : ℕ) where
  pub entry-step-as : is_reached s p ≡ true → (e : Entry) → e ≡ entry_at s p → granted e ≡ entry_step s p
  unfolding entry_step
  entry-step-as r e h = rw (r, h)

  pub entry-fields : (k x i z n l : ℕ) → k ≡ type_of_file s p → x ≡ executable s p → i ≡ info s p → z ≡ size s p → n ≡ next s p → l ≡ name_length s (p + 16) → ◌≡◌ {A = Entry} (record { type_of_file = k; executable = x; info = i; size = z; next = n; name_length = l }) (entry_at s p)
  unfolding entry_at
  entry-fields k x i z n l a b c d e f = λ j. record { type_of_file = a j; executable = b j; info = c j; size = d j; next = e j; name_length = f j }

  pub content-step-as : is_reached s p ≡ true → (k : ℕ) → k ≡ type_of_file s p → has_data k ≡ true → (n : ℕ) → n ≡ size s p → granted n ≡ content_step s p
  unfolding content_step
  content-step-as r k e h n f = let h₂ = rw e at h in rw (r, h₂, f)

  -- ---- where it lies
  content-granted : check s ≡ accepted → (n : ℕ) → granted n ≡ content_step s p → rules.content_length s p ≡ granted n
  unfolding rules.content_length
  content-granted e n h = rw e (sym h)

  -- the content of a passed check lies in the image
  pub content-end : check s ≡ accepted → (n : ℕ) → granted n ≡ content_step s p → (content_at s p + n ≤ full_size s) × (full_size s ≤ length s)
  content-end e n h = let k = content-in s p n (content-granted e n h) in (k.inside, k.full)

  pub part-is : (o n : ℕ) → o ≡ rules.content_start s p → granted n ≡ rules.content_length s p → take (o + n - o) (drop o s) ≡ rules.content s p
  unfolding rules.content rules.content_start part
  part-is o n h e = rw (add-sub_cancel_left, h, ← e)

  pub refused-part : (n q : ℕ) → refused n q ≡ rules.content_length s p → [] ≡ rules.content s p
  unfolding rules.content
  refused-part n q e = rw (← e)
